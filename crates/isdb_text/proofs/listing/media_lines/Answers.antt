use Rattle.std.proofs.Common.{arith, rules}
use Rattle.isdb_text.specs.Listing.{media_lines}
use Rattle.isdb_text.proofs.Elements.{walk_start, walk_end}
use Rattle.isdb_text.proofs.Ascending.{id_turn, id_last, no_id, id_refused, no_media_above}
use Rattle.isdb_text.proofs.listing.media_lines.Goals as goal

pub loop-init : goal.loop-init
unfolding media_lines
loop-init c = search (rules, walk_start)

pub loop-preserved : goal.loop-preserved
loop-preserved c =
    id_turn _ _ c.loop.invariant _ c.next_media.ensures _ c.in-Ok-Some.is _ c.in-Ok-Some.field-0-is c.loop-test.true (rw (← c.media.ensures) c.media_text-p.ensures)

pub returns-then-id : goal.returns-then-id
returns-then-id c =
    id_last _ _ c.loop.invariant _ c.next_media.ensures _ c.in-Ok-Some.is _ c.in-Ok-Some.field-0-is c.loop-test.true (rw (← c.media.ensures) c.media_text-p.ensures)
    (no_media_above _ _ _ (omega arith))

pub returns-in_default : goal.returns-in_default
returns-in_default c = no_id _ _ c.loop.invariant _ c.next_media.ensures _ c.in_default.is (search rules)

pub returns-in_default-2 : goal.returns-in_default-2
returns-in_default-2 c = id_refused _ _ c.loop.invariant _ c.next_media.ensures _ c.in_default.is

pub returns-after-loop : goal.returns-after-loop
returns-after-loop c = search (rules, walk_end)
