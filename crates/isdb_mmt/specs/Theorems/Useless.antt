-- Decoders that are of no use, the nearest first: no decoder of which demand 3 holds, or that answers the questions' numbers, is one
-- of them (proofs/Useless.antt). Each is caught with one or two packets, which this decoder takes, in a session opened for nine.
use Rattle.std.specs.Prelude.{◌≡◌, ℕ, suc, List, ◌≢◌}
use Rattle.isdb_mmt.specs.Decoder.Packet.{Bytes}
use Rattle.isdb_mmt.specs.Decoder.Objects.{Rec}
use Rattle.isdb_mmt.specs.Books.Book.{delivered_of}
use Rattle.isdb_mmt.specs.Memory.Session.{Session}
use Rattle.isdb_mmt.specs.Pushes.Records.{read_rows}
use Rattle.isdb_mmt.specs.Pushes.Push.{Input, asks}
use Rattle.isdb_mmt.specs.Answers.Readings.{section_read, nothing, told_by}
use Rattle.isdb_mmt.specs.Theorems.Calls.{lost_in, Decoder, decoder, Demand3}
use Rattle.isdb_mmt.specs.Examples.Cases.{complete_of, head_of, ab, cd}
use Rattle.isdb_mmt.specs.Examples.ControlCases.{nit1}
use Rattle.isdb_mmt.specs.Examples.PushCases.{fresh, input, only}

-- whole units AA BB and CC DD of the media id F100h under the numbers 5 and 6; a unit that begins an object; a TLV-NIT
abbrev pub first : Input
first = input 36 2 (complete_of 5 ab)

abbrev pub second : Input
second = input 36 2 (complete_of 6 cd)

abbrev pub begins : Input
begins = only (head_of 5 ab)

abbrev pub nit : Input
nit = only (0xFE, nit1)

abbrev pub media_id : ℕ
media_id = 0xF100

abbrev pub nit_key : ℕ
nit_key = 0x40000400

abbrev pub start : Session
start = fresh 9

abbrev pub Accepts : Decoder → Session → Input → Type 0
Accepts d s x = (d.replies s x).number ≡ 0

-- the objects of the media id in a reply
abbrev pub records_in : Decoder → Session → Input → List Rec
records_in d s x = read_rows (d.replies s x).records (d.replies s x).rows (d.replies s x).out

abbrev pub objects_in : Decoder → Session → Input → List Bytes
objects_in d s x = delivered_of media_id (records_in d s x)

-- what the decoder makes of the two units in turn
abbrev pub then : Decoder → Session
then d = d.leaves start first

pub record NotUseless (d : Decoder) : Type 0 where
  -- one that delivers from the first packet and afterwards only moves counters
  pub delivers_on : Accepts d start first → Accepts d (then d) second → (d.replies (then d) second).records ≢ 0
  -- one with invented losses
  pub loses_none : Accepts d start first → (n : ℕ) → lost_in (then d) media_id ≢ suc n
  -- one that answers "none" always
  pub keeps_tables : Accepts d start nit → told_by (d.leaves start nit).tables (section_read (d.leaves start nit) nit_key) ≢ nothing
  -- one that hands over the same unit always
  pub tells_apart : Accepts d start first → Accepts d (then d) second → objects_in d (then d) second ≢ objects_in d start first
  -- one that takes a packet and leaves all as before
  pub moves : Accepts d start begins → d.leaves start begins ≢ start

abbrev pub Refutations : Type 0
Refutations = (d : Decoder) → Demand3 d → NotUseless d

-- one that says 7 or 8 early, or turns all away: not one that answers the first question that fails
abbrev pub AsksOnly : Decoder → Type 0
AsksOnly d = (s : Session) (x : Input) → (d.replies s x).number ≡ asks s x

abbrev pub TurnsNoneAway : Type 0
TurnsNoneAway = (d : Decoder) → AsksOnly d → Accepts d start first × Accepts d start begins × Accepts d start nit

-- this decoder takes all of them, the second unit behind the first, so that nothing here is said of packets that none would take
pub record TakesThem : Type 0 where
  pub first : Accepts decoder start first
  pub second : Accepts decoder (then decoder) second
  pub begins : Accepts decoder start begins
  pub nit : Accepts decoder start nit
