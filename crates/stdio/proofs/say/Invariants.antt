use Rattle.stdio.specs.Writing.{LeavesToWrite}
use Rattle.stdio.proofs.say.Given as goal

abbrev pub invariant-loop : goal.invariant-loop
invariant-loop g l = LeavesToWrite (g.W.Write.contents l.initial.out) (g.W.Write.contents l.out) l.text l.rest
