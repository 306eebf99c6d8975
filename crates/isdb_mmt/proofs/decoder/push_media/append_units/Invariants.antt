use Rattle.std.proofs.Common.{◌-◌, length}
use Rattle.isdb_mmt.proofs.Appends.{Appending}
use Rattle.isdb_mmt.proofs.decoder.push_media.append_units.Given as goal

abbrev pub invariant-loop-u : goal.invariant-loop-u
invariant-loop-u l = Appending l.q l.timed l.aggregated l.from l.initial.s l.at l.k l.s

abbrev pub decreases-loop-u : goal.decreases-loop-u
decreases-loop-u l = length l.q - l.at
