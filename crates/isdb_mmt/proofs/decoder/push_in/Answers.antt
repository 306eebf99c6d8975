use Rattle.isdb_mmt.proofs.Pushing.{push_can, push_taken}
use Rattle.isdb_mmt.proofs.ReadSteps.{was_sound}
use Rattle.std.proofs.Common.{◌∙◌, rules, ap, not}
use Rattle.isdb_mmt.proofs.decoder.push_in.Goals as goal
use Rattle.isdb_mmt.specs.Memory.Lending.{session_asked}

pub take-requires : goal.take-requires
take-requires c = push_can _ _ (was_sound _ _ (c.holds_session.ensures ∙ ap session_asked c.read.ensures) _ c.in_ok-holds_session.was) c.if-b-gt65535.false c.requires.others

pub returns : goal.returns
returns c = record { same_buffers = search rules; pushed = push_taken _ _ (was_sound _ _ (c.holds_session.ensures ∙ ap session_asked c.read.ensures) _ c.in_ok-holds_session.was) c.if-b-gt65535.false _ c.may_take.ensures (ap not c.if-not-may_take.false) c.typed.ensures.bytes c.octets.ensures _ _ _ _ _ _ c.take.ensures.pushed }
