use Rattle.std.proofs.Common.{drop}
use Rattle.isdb_text.proofs.Written.{Left}
use Rattle.isdb_text.proofs.text.put.Given as goal

abbrev pub invariant-loop-x : goal.invariant-loop-x
invariant-loop-x l = Left l.initial.out l.at l.text l.out l.p (drop l.x-index l.text)
