use Rattle.std.proofs.Common.{◌-◌, length}
use Rattle.feeddump.proofs.Passing.{Passing}
use Rattle.feeddump.proofs.pass.Given as goal

abbrev pub invariant-loop-rest : goal.invariant-loop-rest
invariant-loop-rest l =
    Passing l.window l.at

abbrev pub decreases-loop-rest : goal.decreases-loop-rest
decreases-loop-rest l =
    length l.window - l.at
