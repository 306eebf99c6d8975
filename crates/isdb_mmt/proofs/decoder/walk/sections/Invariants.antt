use Rattle.isdb_mmt.proofs.Signals.{InSections}
use Rattle.std.proofs.Common.{◌-◌, length}
use Rattle.isdb_mmt.proofs.decoder.walk.sections.Given as goal

abbrev pub invariant-loop-x : goal.invariant-loop-x
invariant-loop-x l = InSections l.initial.ix l.initial.log l.initial.others l.initial.g l.b l.ix l.log l.others l.g l.at

abbrev pub decreases-loop-x : goal.decreases-loop-x
decreases-loop-x l = length l.b - l.at
