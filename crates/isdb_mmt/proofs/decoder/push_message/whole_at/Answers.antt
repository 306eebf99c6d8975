use Rattle.isdb_mmt.specs.Decoder.Packet.{message_packet}
use Rattle.isdb_mmt.proofs.WholeLaws.{whole_countable, whole_walk, whole_before, at_refused, at_state, at_areas, at_taken}
use Rattle.isdb_mmt.specs.Memory.Opening.{lent}
use Rattle.std.proofs.Common.{arith, ◌∙◌, sym, ap, refl, rules}
use Rattle.isdb_mmt.proofs.decoder.push_message.whole_at.Goals as goal
use Rattle.isdb_mmt.specs.Memory.Refusals.{answer_number}
use Rattle.isdb_mmt.proofs.Refusals.{refusal_some}
use Rattle.std.proofs.lemmas.Result.{err_from_is_err_and}

pub fragment_counted-cs-requires : goal.fragment_counted-cs-requires
fragment_counted-cs-requires c = let x = c.args in whole_countable (lent x.session.now.state.now x.session.now.others.now x.session.now.objects.now x.session.now.messages.now x.session.now.tables.now) (message_packet x.id x.n x.b.now) x.y x.i x.k x.ix.now x.log.now x.mine.now c.requires _ c.counters_of.ensures

pub walk_whole-g-requires : goal.walk_whole-g-requires
walk_whole-g-requires c = let x = c.args in whole_walk (lent x.session.now.state.now x.session.now.others.now x.session.now.objects.now x.session.now.messages.now x.session.now.tables.now) (message_packet x.id x.n x.b.now) x.y x.i x.k x.ix.now x.log.now x.mine.now c.requires _ c.counters_of.ensures _ c.fragment_counted-cs.ensures _ c.is_last-last.ensures

pub returns-in_err-whole_ask-clause-pushed : goal.returns-in_err-whole_ask-clause-pushed
returns-in_err-whole_ask-clause-pushed c = let x = c.args in let p = err_from_is_err_and c.from_residual.result c.from_residual.ensures.1 in rw (p.1, p.2) (at_refused (lent x.session.now.state.now x.session.now.others.now x.session.now.objects.now x.session.now.messages.now x.session.now.tables.now) (message_packet x.id x.n x.b.now) x.y x.i x.k x.ix.now x.log.now x.mine.now c.requires _ c.counters_of.ensures _ c.fragment_counted-cs.ensures _ c.is_last-last.ensures _ _ _ _ c.walk_whole-g.ensures _ c.load_limits-l.ensures _ c.area_by.ensures _ (ap answer_number (sym c.in_err-whole_ask.was) ∙ c.whole_ask.ensures) (refusal_some _))

pub before_by-a-requires : goal.before_by-a-requires
before_by-a-requires c = let x = c.args in whole_before (lent x.session.now.state.now x.session.now.others.now x.session.now.objects.now x.session.now.messages.now x.session.now.tables.now) (message_packet x.id x.n x.b.now) x.y x.i x.k x.ix.now x.log.now x.mine.now c.requires _ c.load_limits-l.ensures

pub store_areas-requires : goal.store_areas-requires
store_areas-requires c = let x = c.args in at_areas (lent x.session.now.state.now x.session.now.others.now x.session.now.objects.now x.session.now.messages.now x.session.now.tables.now) (message_packet x.id x.n x.b.now) x.y x.i x.k x.ix.now x.log.now x.mine.now c.requires _ c.counters_of.ensures _ c.fragment_counted-cs.ensures _ c.is_last-last.ensures _ _ _ _ c.walk_whole-g.ensures _ c.load_limits-l.ensures _ c.area_by.ensures _ (ap answer_number (sym c.in_ok-whole_ask.was) ∙ c.whole_ask.ensures) refl (omega (arith, c.ix-1.given, c.requires.copies.index_long)) (omega (arith, c.log-1.given, c.requires.copies.log_long)) (omega (arith, c.mine-1.given, c.requires.copies.others_long)) _ c.before_by-a.ensures _ c.rest.ensures

pub leave_state-requires : goal.leave_state-requires
leave_state-requires c = let x = c.args in at_state (lent x.session.now.state.now x.session.now.others.now x.session.now.objects.now x.session.now.messages.now x.session.now.tables.now) (message_packet x.id x.n x.b.now) x.y x.i x.k x.ix.now x.log.now x.mine.now c.requires _ c.counters_of.ensures _ c.fragment_counted-cs.ensures _ c.is_last-last.ensures _ _ _ _ c.walk_whole-g.ensures _ c.load_limits-l.ensures _ c.area_by.ensures _ (ap answer_number (sym c.in_ok-whole_ask.was) ∙ c.whole_ask.ensures) refl (omega (arith, c.ix-1.given, c.requires.copies.index_long)) (omega (arith, c.log-1.given, c.requires.copies.log_long)) (omega (arith, c.mine-1.given, c.requires.copies.others_long))

pub returns-clause-pushed : goal.returns-clause-pushed
returns-clause-pushed c = let x = c.args in at_taken (lent x.session.now.state.now x.session.now.others.now x.session.now.objects.now x.session.now.messages.now x.session.now.tables.now) (message_packet x.id x.n x.b.now) x.y x.i x.k x.ix.now x.log.now x.mine.now c.requires _ c.counters_of.ensures _ c.fragment_counted-cs.ensures _ c.is_last-last.ensures _ _ _ _ c.walk_whole-g.ensures _ c.load_limits-l.ensures _ c.area_by.ensures _ (ap answer_number (sym c.in_ok-whole_ask.was) ∙ c.whole_ask.ensures) refl (omega (arith, c.ix-1.given, c.requires.copies.index_long)) (omega (arith, c.log-1.given, c.requires.copies.log_long)) (omega (arith, c.mine-1.given, c.requires.copies.others_long)) _ c.before_by-a.ensures _ c.rest.ensures (search rules) _ c.store_areas.ensures _ c.copy_from_slice.ensures.after _ c.recent_length-length.ensures _ (rw (← c.is_some.ensures) c.control_with-d.ensures) _ c.leave_state.ensures
