use Rattle.std.proofs.Common.{◌-◌, length}
use Rattle.isdb_mmt.proofs.MediaEffects.{WalkState}
use Rattle.isdb_mmt.proofs.decoder.reassembler.units_effect.Given as goal

abbrev pub invariant-loop-u : goal.invariant-loop-u
invariant-loop-u l = WalkState l.q l.timed l.aggregated l.f l.mpu l.rap l.initial.t l.at l.t

abbrev pub decreases-loop-u : goal.decreases-loop-u
decreases-loop-u l = length l.q - l.at
