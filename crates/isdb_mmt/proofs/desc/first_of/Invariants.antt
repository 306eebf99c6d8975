use Rattle.std.proofs.Common.{◌≡◌}
use Rattle.isdb_mmt.specs.Formats.Desc.{first_of}
use Rattle.isdb_mmt.proofs.desc.first_of.Given as goal

abbrev pub invariant-loop-t : goal.invariant-loop-t
invariant-loop-t l = (l.t-iterator.src.now ≡ l.b) × (first_of l.tag l.b l.t-iterator.at ≡ first_of l.tag l.b 0)
