use Rattle.isdb_mmt.proofs.PushAll.{turn_rest, turn_fits, turn_taken, turn_refused, halts_full, halts_end, halts_short, halts_bad}
use Rattle.isdb_mmt.proofs.Refusals.{refusal_some, refusal_told}
use Rattle.std.proofs.Common.{◌∙◌, sym, rules, refl}
use Rattle.isdb_mmt.proofs.decoder.many.take_turn.Goals as goal

pub returns-then-no_line : goal.returns-then-no_line
returns-then-no_line c = search (rules, halts_full)

pub push_next-requires : goal.push_next-requires
push_next-requires c = turn_rest _ _ _ c.requires _ c.no_line.ensures c.if-no_line.false

pub progress_after-requires : goal.progress_after-requires
progress_after-requires c = turn_fits _ _ _ c.requires _ c.no_line.ensures c.if-no_line.false _ _ c.cut_at.ensures _ _ _ _ c.in-Packet.is _ c.part-b.ensures _ _ _ _ _ (rw c.in-Ok.is at c.push_next.ensures.pushed) refl

pub returns-in-Ok : goal.returns-in-Ok
returns-in-Ok c = record { same_buffers = search rules; pushed = turn_taken _ _ _ c.requires _ c.no_line.ensures c.if-no_line.false _ _ c.cut_at.ensures _ _ _ _ c.in-Packet.is _ c.part-b.ensures _ _ _ _ _ (rw c.in-Ok.is at c.push_next.ensures.pushed) refl c.octets.ensures (c.typed.ensures.counts ∙ sym c.requires.others) (search rules) (search rules) (search rules) _ c.progress_after.ensures }

pub returns-in-Err : goal.returns-in-Err
returns-in-Err c = rw (← refusal_told c.in-Err.e) (record { same_buffers = search rules; pushed = turn_refused _ _ _ c.requires _ c.no_line.ensures c.if-no_line.false _ _ c.cut_at.ensures _ _ _ _ c.in-Packet.is _ c.part-b.ensures _ _ _ _ _ (rw c.in-Err.is at c.push_next.ensures.pushed) (refusal_some _) })

pub returns-in-End : goal.returns-in-End
returns-in-End c = search (rules, halts_end)

pub returns-in-Short : goal.returns-in-Short
returns-in-Short c = search (rules, halts_short)

pub returns-in-Bad : goal.returns-in-Bad
returns-in-Bad c = search (rules, halts_bad)
