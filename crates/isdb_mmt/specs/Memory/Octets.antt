-- Lists of numbers that are bytes: what a session is lent has no other.
use Rattle.std.specs.Prelude.{ℕ, ◌<◌, slice_index}
use Rattle.isdb_mmt.specs.Decoder.Packet.{Bytes}
use Rattle.isdb_mmt.specs.Memory.Session.{Session}

abbrev pub Octets : Bytes → Type 0
Octets b = (i : ℕ) → slice_index b i < 256

pub record Lent (s : Session) : Type 0 where
  pub state : Octets s.state
  pub objects : Octets s.objects
  pub messages : Octets s.messages
  pub tables : Octets s.tables
