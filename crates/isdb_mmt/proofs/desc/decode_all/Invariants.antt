use Rattle.std.proofs.Common.{◌≡◌, ◌-◌, ◌≤◌, length}
use Rattle.isdb_mmt.proofs.Descriptors.{plus}
use Rattle.isdb_mmt.specs.Formats.Desc.{split_from, split_of, counted}
use Rattle.isdb_mmt.proofs.desc.decode_all.Given as goal

abbrev pub invariant-loop-count : goal.invariant-loop-count
invariant-loop-count l = (l.walk.src.now ≡ l.b) × ((l.count ≤ l.walk.at) × (plus l.count (split_from l.b l.walk.at) ≡ counted (split_of l.b)))

abbrev pub decreases-loop-count : goal.decreases-loop-count
decreases-loop-count l = length l.b - l.walk.at
