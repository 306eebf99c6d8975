use Rattle.std.proofs.Common.{◌-◌, length}
use Rattle.isdb_mmt.proofs.Gives.{Giving}
use Rattle.isdb_mmt.proofs.decoder.records.give_units.Given as goal

abbrev pub invariant-loop-u : goal.invariant-loop-u
invariant-loop-u l =
    Giving l.q l.x.timed l.x.aggregated l.id l.x.mpu_sequence_number l.rap l.initial.rows l.initial.out l.at l.k l.d l.rows l.out

abbrev pub decreases-loop-u : goal.decreases-loop-u
decreases-loop-u l = length l.q - l.at
