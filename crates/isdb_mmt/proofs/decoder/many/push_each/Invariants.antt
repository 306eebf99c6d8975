use Rattle.isdb_mmt.proofs.PushAll.{Running}
use Rattle.std.proofs.Common.{◌-◌, length}
use Rattle.isdb_mmt.specs.Memory.Lending.{lent_mut, SameBuffers}
use Rattle.isdb_mmt.specs.Pushes.PushAll.{run_of, nothing_taken}
use Rattle.isdb_mmt.proofs.decoder.many.push_each.Given as goal

abbrev pub invariant-loop-y : goal.invariant-loop-y
invariant-loop-y l =
    SameBuffers l.initial.session l.session
    × Running l.known l.input l.most (run_of (lent_mut l.initial.session) l.initial.rows l.initial.out l.initial.lines nothing_taken) (run_of (lent_mut l.session) l.rows l.out l.lines l.x)

abbrev pub decreases-loop-y : goal.decreases-loop-y
decreases-loop-y l =
    length l.input - l.x.at
