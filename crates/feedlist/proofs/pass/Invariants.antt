use Rattle.feedlist.proofs.Passing.{Passing}
use Rattle.std.proofs.Common.{◌-◌, length}
use Rattle.feedlist.proofs.pass.Given as goal

abbrev pub invariant-loop-at : goal.invariant-loop-at
invariant-loop-at l =
    Passing l.window l.at

abbrev pub decreases-loop-at : goal.decreases-loop-at
decreases-loop-at l =
    length l.window - l.at
