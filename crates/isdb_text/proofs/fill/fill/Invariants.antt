use Rattle.std.proofs.Common.{◌*◌, ◌≤◌, drop}
use Rattle.isdb_text.proofs.Written.{Left}
use Rattle.isdb_text.specs.Fill.{filled}
use Rattle.isdb_text.proofs.fill.fill.Given as goal

abbrev pub invariant-loop-i : goal.invariant-loop-i
invariant-loop-i l =
    (l.v ≤ 2 * l.i) × Left l.initial.out l.at (filled l.template l.values) l.out l.p (filled (drop l.i l.template) (drop l.v l.values))
