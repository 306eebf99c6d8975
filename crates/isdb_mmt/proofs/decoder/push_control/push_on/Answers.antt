use Rattle.isdb_mmt.proofs.Loaded.{can_go}
use Rattle.isdb_mmt.proofs.ControlPush.{control_countable, push_can, push_refused, push_leave, push_taken}
use Rattle.isdb_mmt.specs.Memory.Opening.{lent}
use Rattle.std.proofs.Common.{sym, ◌∙◌, arith, ap, refl, rules}
use Rattle.isdb_mmt.proofs.decoder.push_control.push_on.Goals as goal
use Rattle.isdb_mmt.specs.Memory.Refusals.{answer_number}
use Rattle.isdb_mmt.proofs.Refusals.{refusal_some}
use Rattle.std.proofs.lemmas.Result.{err_from_is_err_and}

pub packet_counted-c-requires : goal.packet_counted-c-requires
packet_counted-c-requires c = let x = c.args in control_countable x.session.now.state.now x.session.now.others.now x.session.now.objects.now x.session.now.messages.now x.session.now.tables.now x.b.now c.requires.0 _ c.counters_of.ensures

pub walk_start-first-requires : goal.walk_start-first-requires
walk_start-first-requires c = let x = c.args in can_go (lent x.session.now.state.now x.session.now.others.now x.session.now.objects.now x.session.now.messages.now x.session.now.tables.now) c.requires.0.session

pub sections-g-requires : goal.sections-g-requires
sections-g-requires c = let x = c.args in push_can x.session.now.state.now x.session.now.others.now x.session.now.objects.now x.session.now.messages.now x.session.now.tables.now x.b.now c.requires.0 _ c.counters_of.ensures _ c.packet_counted-c.ensures x.log.now c.requires.1.log_long _ _ _ c.load_index.ensures (c.fill.ensures.after (λ y e. e)) c.copy_from_slice.ensures.after _ c.walk_start-first.ensures

pub returns-in_err-tables_ask-clause-pushed : goal.returns-in_err-tables_ask-clause-pushed
returns-in_err-tables_ask-clause-pushed c = let x = c.args in let p = err_from_is_err_and c.from_residual.result c.from_residual.ensures.1 in rw (p.1, p.2) (push_refused x.session.now.state.now x.session.now.others.now x.session.now.objects.now x.session.now.messages.now x.session.now.tables.now x.b.now c.requires.0 _ c.counters_of.ensures _ c.packet_counted-c.ensures x.log.now c.requires.1.log_long _ _ _ c.load_index.ensures (c.fill.ensures.after (λ y e. e)) c.copy_from_slice.ensures.after _ c.walk_start-first.ensures _ _ _ _ c.sections-g.ensures _ c.load_limits.ensures _ (ap answer_number (sym c.in_err-tables_ask.was) ∙ c.tables_ask.ensures) (refusal_some _))

pub leave-requires : goal.leave-requires
leave-requires c = let x = c.args in push_leave x.session.now.state.now x.session.now.others.now x.session.now.objects.now x.session.now.messages.now x.session.now.tables.now x.b.now c.requires.0 _ c.counters_of.ensures _ c.packet_counted-c.ensures x.log.now c.requires.1.log_long _ _ _ c.load_index.ensures (c.fill.ensures.after (λ y e. e)) c.copy_from_slice.ensures.after _ c.walk_start-first.ensures _ _ _ _ c.sections-g.ensures _ c.load_limits.ensures _ (ap answer_number (sym c.in_ok-tables_ask.was) ∙ c.tables_ask.ensures) refl (omega (arith, c.ix-2-1.given, c.ix-1.given, c.requires.1.index_long)) (omega (arith, c.log-2-1.given, c.log-1.given, c.requires.1.log_long)) (omega (arith, c.mine-2-1.given, c.mine-1.given, c.requires.1.others_long))

pub returns-clause-pushed : goal.returns-clause-pushed
returns-clause-pushed c = let x = c.args in push_taken x.session.now.state.now x.session.now.others.now x.session.now.objects.now x.session.now.messages.now x.session.now.tables.now x.b.now c.requires.0 _ c.counters_of.ensures _ c.packet_counted-c.ensures x.log.now c.requires.1.log_long _ _ _ c.load_index.ensures (c.fill.ensures.after (λ y e. e)) c.copy_from_slice.ensures.after _ c.walk_start-first.ensures _ _ _ _ c.sections-g.ensures _ c.load_limits.ensures _ (ap answer_number (sym c.in_ok-tables_ask.was) ∙ c.tables_ask.ensures) refl (omega (arith, c.ix-2-1.given, c.ix-1.given, c.requires.1.index_long)) (omega (arith, c.log-2-1.given, c.log-1.given, c.requires.1.log_long)) (omega (arith, c.mine-2-1.given, c.mine-1.given, c.requires.1.others_long)) (search rules) _ _ _ c.leave.ensures
