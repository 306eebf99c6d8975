-- The session that borrowed buffers hold, and question 5 of it.
use Rattle.std.specs.Prelude.{◌≡◌, Result, Ok, Err, if◌then◌else◌, ⊤}
use Rattle.isdb_mmt.specs.Memory.Session.{Session}
use Rattle.isdb_mmt.specs.Memory.Check.{sound}
use Rattle.isdb_mmt.specs.Memory.Opening.{lent}
use Rattle.isdb_mmt.specs.declared.decoder.refusal.Refusal.{Refusal}
use Rattle.isdb_mmt.specs.declared.decoder.refusal.Refusal.TheVariants.{NotASession}
use Rattle.isdb_mmt.specs.declared.decoder.session.Session.{Session as Borrowed}
use Rattle.isdb_mmt.specs.declared.decoder.session.SessionMut.{SessionMut}

abbrev pub lent_by : Borrowed → Session
lent_by s = lent s.state.now s.others.now s.objects.now s.messages.now s.tables.now

abbrev pub lent_mut : SessionMut → Session
lent_mut s = lent s.state.now s.others.now s.objects.now s.messages.now s.tables.now

-- the buffers of the one are those of the other, whatever they hold
pub record SameBuffers (s t : SessionMut) : Type 0 where
  pub state : t.state.ghost_name ≡ s.state.ghost_name
  pub others : t.others.ghost_name ≡ s.others.ghost_name
  pub objects : t.objects.ghost_name ≡ s.objects.ghost_name
  pub messages : t.messages.ghost_name ≡ s.messages.ghost_name
  pub tables : t.tables.ghost_name ≡ s.tables.ghost_name

unfoldable pub session_asked : Session → Result ⊤ Refusal
session_asked s = if sound s then Ok tt else Err NotASession
