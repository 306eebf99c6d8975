use Rattle.std.specs.Prelude.{None, Some}
use Rattle.std.proofs.Common.{◌≡◌, ◌-◌, ◌≤◌, length}
use Rattle.isdb_mmt.specs.Formats.Mpu.{units_from, units_of, counted}
use Rattle.isdb_tlv.proofs.Walk.{plus}
use Rattle.isdb_mmt.proofs.mpu.count_units.Given as goal

abbrev pub invariant-loop-next : goal.invariant-loop-next
invariant-loop-next l = (l.n ≤ l.at) × (plus None Some l.n (units_from l.q l.timed l.aggregated l.at) ≡ counted (units_of l.q l.timed l.aggregated))

abbrev pub decreases-loop-next : goal.decreases-loop-next
decreases-loop-next l = length l.q - l.at
