use Rattle.isdb_mmt.proofs.Commits.{Storing}
use Rattle.std.proofs.Common.{◌++◌}
use Rattle.isdb_mmt.proofs.decoder.commit.store_sections.Given as goal

abbrev pub invariant-loop-i : goal.invariant-loop-i
invariant-loop-i l = Storing l.initial.tables l.ix l.log l.used l.area (l.a ++ l.b) l.tables l.i
