use Rattle.isdb_mmt.proofs.PlainPushes.{can_try_asked, still_asked}
use Rattle.std.proofs.Common.{◌∙◌, ap}
use Rattle.isdb_mmt.proofs.decoder.session.SessionMut.push.Goals as goal
use Rattle.isdb_mmt.specs.Memory.Lending.{session_asked}

pub push_plain-requires : goal.push_plain-requires
push_plain-requires c = can_try_asked _ c.typed.ensures.counts _ (c.is_session.ensures ∙ ap session_asked c.read.ensures) _ c.in_ok-is_session.was c.typed.ensures.bytes

pub push_in-requires : goal.push_in-requires
push_in-requires c = still_asked _ _ _ _ _ _ _ _ _ c.push_plain.ensures.pushed c.in-No.is c.typed.ensures.counts _ (c.is_session.ensures ∙ ap session_asked c.read.ensures) _ c.in_ok-is_session.was
