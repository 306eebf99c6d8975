use Rattle.isdb_host.proofs.Numbers.{Set}
use Rattle.isdb_host.proofs.values.says.Given as goal

abbrev pub invariant-loop-i : goal.invariant-loop-i
invariant-loop-i l = Set l.values l.v l.i
