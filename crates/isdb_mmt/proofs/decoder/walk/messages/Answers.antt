use Rattle.isdb_mmt.proofs.Messages.{messages_start, messages_short, messages_cut_can, messages_end, messages_cut, messages_less, messages_can, messages_on}
use Rattle.std.proofs.Common.{arith, rules}
use Rattle.isdb_mmt.proofs.decoder.walk.messages.Goals as goal

pub loop-p-init : goal.loop-p-init
loop-p-init c = messages_start _ _ _ _ _ _ c.requires

pub next_message-requires : goal.next_message-requires
next_message-requires c = let x = c.args in messages_short _ _ _ _ x.a.now x.b.now _ _ _ _ _ _ c.loop-p.invariant

pub message-g-requires : goal.message-g-requires
message-g-requires c = let x = c.args in messages_can _ _ _ _ x.a.now x.b.now _ _ _ _ _ _ c.loop-p.invariant _ c.next_message.ensures _ _ c.in-Entry.is _ c.behind-q.ensures _ _ c.of.ensures c.of-in-Entry.ensures

pub loop-p-smaller : goal.loop-p-smaller
loop-p-smaller c = let x = c.args in messages_less _ _ _ _ x.a.now x.b.now _ _ _ _ _ _ c.loop-p.invariant _ c.next_message.ensures _ _ c.in-Entry.is

pub loop-p-preserved : goal.loop-p-preserved
loop-p-preserved c = let x = c.args in messages_on _ _ _ _ x.a.now x.b.now _ _ _ _ _ _ c.loop-p.invariant _ c.next_message.ensures _ _ c.in-Entry.is _ c.behind-q.ensures _ _ c.of.ensures c.of-in-Entry.ensures _ _ _ _ c.message-g.ensures (search rules) (search rules) (search rules)

pub cut_short-requires : goal.cut_short-requires
cut_short-requires c = let x = c.args in messages_cut_can _ _ _ _ x.a.now x.b.now _ _ _ _ _ _ c.loop-p.invariant

pub shape_of-ix-in-Malformed : goal.shape_of-ix-in-Malformed
shape_of-ix-in-Malformed c = omega (arith, c.loop-p.invariant.goes.copies.index_long, c.loop-p.invariant.can.copies.index_long)

pub shape_of-log-in-Malformed : goal.shape_of-log-in-Malformed
shape_of-log-in-Malformed c = omega (arith, c.loop-p.invariant.goes.copies.log_long, c.loop-p.invariant.can.copies.log_long)

pub shape_of-others-in-Malformed : goal.shape_of-others-in-Malformed
shape_of-others-in-Malformed c = omega (arith, c.loop-p.invariant.goes.copies.others_long, c.loop-p.invariant.can.copies.others_long)

pub returns-in-Malformed : goal.returns-in-Malformed
returns-in-Malformed c = let x = c.args in messages_cut _ _ _ _ x.a.now x.b.now _ _ _ _ _ _ c.loop-p.invariant _ c.next_message.ensures c.in-Malformed.is _ c.cut_short.ensures

pub shape_of-ix-in-End : goal.shape_of-ix-in-End
shape_of-ix-in-End c = omega (arith, c.loop-p.invariant.goes.copies.index_long, c.loop-p.invariant.can.copies.index_long)

pub shape_of-log-in-End : goal.shape_of-log-in-End
shape_of-log-in-End c = omega (arith, c.loop-p.invariant.goes.copies.log_long, c.loop-p.invariant.can.copies.log_long)

pub shape_of-others-in-End : goal.shape_of-others-in-End
shape_of-others-in-End c = omega (arith, c.loop-p.invariant.goes.copies.others_long, c.loop-p.invariant.can.copies.others_long)

pub returns-in-End : goal.returns-in-End
returns-in-End c = let x = c.args in messages_end _ _ _ _ x.a.now x.b.now _ _ _ _ _ _ c.loop-p.invariant _ c.next_message.ensures c.in-End.is
