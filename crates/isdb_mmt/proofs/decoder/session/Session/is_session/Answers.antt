use Rattle.std.proofs.Common.{refl}
use Rattle.isdb_mmt.specs.Memory.Check.{sound}
use Rattle.isdb_mmt.specs.Memory.Lending.{session_asked}
use Rattle.isdb_mmt.proofs.decoder.session.Session.is_session.Goals as goal

pub returns-then-ready : goal.returns-then-ready
unfolding session_asked sound
returns-then-ready c = rw (← c.ready.ensures, c.if-ready.true) refl

pub returns : goal.returns
unfolding session_asked sound
returns c = rw (← c.ready.ensures, c.if-ready.false) refl
