use Rattle.std.proofs.Common.{arith, rules}
use Rattle.isdb_text.specs.DumpSession.{all_controls}
use Rattle.isdb_text.proofs.Elements.{walk_start, walk_end}
use Rattle.isdb_text.proofs.Ascending.{id_turn, id_last, no_id, id_refused, no_control_above}
use Rattle.isdb_text.proofs.dump_session.all_controls.Goals as goal

pub loop-init : goal.loop-init
unfolding all_controls
loop-init c = search (rules, walk_start)

pub loop-preserved : goal.loop-preserved
loop-preserved c =
    id_turn _ _ c.loop.invariant _ c.next_control.ensures _ c.in-Ok-Some.is _ c.in-Ok-Some.field-0-is c.loop-test.true c.control_text-p.ensures

pub returns-then-id : goal.returns-then-id
returns-then-id c =
    id_last _ _ c.loop.invariant _ c.next_control.ensures _ c.in-Ok-Some.is _ c.in-Ok-Some.field-0-is c.loop-test.true c.control_text-p.ensures
    (no_control_above _ _ _ (omega arith))

pub returns-in_default : goal.returns-in_default
returns-in_default c = no_id _ _ c.loop.invariant _ c.next_control.ensures _ c.in_default.is (search rules)

pub returns-in_default-2 : goal.returns-in_default-2
returns-in_default-2 c = id_refused _ _ c.loop.invariant _ c.next_control.ensures _ c.in_default.is

pub returns-after-loop : goal.returns-after-loop
returns-after-loop c = search (rules, walk_end)
