use Rattle.isdb_mmt.proofs.Messages.{InTables}
use Rattle.std.proofs.Common.{◌-◌, ◌++◌, length}
use Rattle.isdb_mmt.proofs.decoder.walk.tables.Given as goal

abbrev pub invariant-loop-p : goal.invariant-loop-p
invariant-loop-p l = InTables l.initial.ix l.initial.log l.initial.others l.initial.g (l.a ++ l.b) l.first l.from l.ix l.log l.others l.g l.at

abbrev pub decreases-loop-p : goal.decreases-loop-p
decreases-loop-p l = length (l.a ++ l.b) - l.at
