-- Calls on a session, one after the other, and the claim over every list of them from an accepted opening, turned-down ones among
-- them. What was accepted and what was handed out is read off the answers; what the session says is read off its bytes.
use Rattle.std.specs.Prelude.{◌≡◌, ℕ, ◌*◌, Bool, true, List, [], ◌∷◌, ◌++◌, ◌≢◌, if◌then◌else◌, None, Some, Option}
use Rattle.isdb_tlv.specs.Guards.{◌=?◌}
use Rattle.isdb_mmt.specs.Decoder.Packet.{Bytes, Packet}
use Rattle.isdb_mmt.specs.Decoder.Objects.{Rec}
use Rattle.isdb_mmt.specs.Decoder.Kept.{Kept, Section}
use Rattle.isdb_mmt.specs.Decoder.Model.{opened}
use Rattle.isdb_mmt.specs.Books.Book.{well_formed, FirstOfLastRun}
use Rattle.isdb_mmt.specs.Books.Demand.{push_all, give_all, Holds}
use Rattle.isdb_mmt.specs.Memory.Limits.{asked}
use Rattle.isdb_mmt.specs.Memory.Lent.{part}
use Rattle.isdb_mmt.specs.Memory.Session.{Session, limits_of, media_at, section_at}
use Rattle.isdb_mmt.specs.Memory.Check.{lengths_of, sound}
use Rattle.isdb_mmt.specs.Memory.View.{given, kept_table_at, view}
use Rattle.isdb_mmt.specs.Memory.Opening.{opened_session}
use Rattle.isdb_mmt.specs.Memory.Octets.{Octets, Lent}
use Rattle.isdb_mmt.specs.Pushes.Records.{read_rows}
use Rattle.isdb_mmt.specs.Pushes.Push.{Input, packet_of, asks, Pushed, Reply, leaves_of, reply_of}
use Rattle.isdb_mmt.specs.Answers.TableReadingLaws.{AsKept}
use Rattle.isdb_mmt.specs.Answers.Readings.{media_found, section_found, counters_read, time_read, count_read, next_media_read, next_control_read, next_key_read, media_read, held_read, control_read, section_read, mpt_read, plt_read, tot_read, asset_read, TableTold, nothing, these, told_by}
use Rattle.isdb_mmt.specs.declared.decoder.limits.Limits.{Limits}
use Rattle.isdb_mmt.specs.declared.decoder.media.Media.{Media}
use Rattle.isdb_mmt.specs.declared.decoder.section.KeptSection.{KeptSection}
use Rattle.isdb_mmt.specs.Memory.Refusals.{answer_number}

-- ---- what a session's bytes say of a media id and of a key, by the place that has its name

abbrev pub dropped_at : Session → Option ℕ → ℕ
dropped_at s None = 0
dropped_at s (Some i) = (media_at s.state i).stats.mfus_dropped

abbrev pub lost_at : Session → Option ℕ → ℕ
lost_at s None = 0
lost_at s (Some i) = (media_at s.state i).stats.packets_lost

abbrev pub object_at : Session → ℕ → Media → Option Bytes
object_at s i m = given m.held (part (i * (limits_of s.state).mfu_area) m.object.length s.objects)

abbrev pub held_at : Session → Option ℕ → Option Bytes
held_at s None = None
held_at s (Some i) = object_at s i (media_at s.state i)

abbrev pub kept_as : Session → ℕ → KeptSection → Kept
kept_as s i x = record { version = x.version; bytes = kept_table_at (limits_of s.state) s i x.length }

abbrev pub kept_at : Session → Option ℕ → Option Kept
kept_at s None = None
kept_at s (Some i) = Some (kept_as s i (section_at s.state i))

unfoldable pub dropped_in : Session → ℕ → ℕ
unfolding media_found
dropped_in s id = dropped_at s (media_found s id)

unfoldable pub lost_in : Session → ℕ → ℕ
unfolding media_found
lost_in s id = lost_at s (media_found s id)

unfoldable pub held_in : Session → ℕ → Option Bytes
unfolding media_found
held_in s id = held_at s (media_found s id)

unfoldable pub kept_in : Session → ℕ → Option Kept
unfolding section_found
kept_in s k = kept_at s (section_found s k)

-- ---- calls

-- a reading, with what it is asked
pub data Reading : Type 0 where
  counters : Reading
  time : Reading
  count : ℕ → Reading
  next_media_of : ℕ → Reading
  next_control_of : ℕ → Reading
  next_key_of : ℕ → ℕ → Reading
  media_of : ℕ → Reading
  held : ℕ → Reading
  control_of : ℕ → Reading
  mpt : ℕ → Reading
  plt : Reading
  tot : Reading
  section : ℕ → Reading
  asset_of : ℕ → Reading

-- the number that it answers, 0 where it is not turned down
unfoldable pub reading_number : Session → Reading → ℕ
reading_number s counters = answer_number (counters_read s)
reading_number s time = answer_number (time_read s)
reading_number s (count id) = answer_number (count_read s id)
reading_number s (next_media_of a) = answer_number (next_media_read s a)
reading_number s (next_control_of a) = answer_number (next_control_read s a)
reading_number s (next_key_of a b) = answer_number (next_key_read s a b)
reading_number s (media_of id) = answer_number (media_read s id)
reading_number s (held id) = answer_number (held_read s id)
reading_number s (control_of id) = answer_number (control_read s id)
reading_number s (mpt id) = answer_number (mpt_read s id)
reading_number s plt = answer_number (plt_read s)
reading_number s tot = answer_number (tot_read s)
reading_number s (section k) = answer_number (section_read s k)
reading_number s (asset_of p) = answer_number (asset_read s p)

-- a push with its packet's bytes and output buffers of any size, or a reading
pub data Call : Type 0 where
  push : Input → Call
  read : Reading → Call

-- what a decoder makes of a push. A reading changes nothing: it is lent no byte to write
pub record Decoder : Type 0 where
  pub leaves : Session → Input → Session
  pub replies : Session → Input → Reply

module _ (d : Decoder) where
  -- each call gets the session that the last one left
  unfoldable pub after : Session → List Call → Session
  after s [] = s
  after s (push x ∷ cs) = after (d.leaves s x) cs
  after s (read r ∷ cs) = after s cs

  -- the pushes with their replies
  unfoldable pub pushes : Session → List Call → List (Input × Reply)
  pushes s [] = []
  pushes s (push x ∷ cs) = (x, d.replies s x) ∷ pushes (d.leaves s x) cs
  pushes s (read r ∷ cs) = pushes s cs

-- the packets whose reply has no number
unfoldable pub accepted : List (Input × Reply) → List Packet
accepted [] = []
accepted (e ∷ es) = if e.1.number =? 0 then packet_of e.0 ∷ accepted es else accepted es

-- the records of all replies, read off rows and data
unfoldable pub handed : List (Input × Reply) → List Rec
handed [] = []
handed (e ∷ es) = read_rows e.1.records e.1.rows e.1.out ++ handed es

-- lent memory has bytes
abbrev pub AllBytes : List Call → Type 0
AllBytes [] = Unit {0}
AllBytes (push x ∷ cs) = Octets x.bytes × AllBytes cs
AllBytes (read r ∷ cs) = AllBytes cs

-- ---- this decoder (specs/Pushes/Push)

abbrev pub decoder : Decoder
decoder = record { leaves = leaves_of; replies = reply_of }

pub record Determined (s : Session) (x : Input) (r records bytes : ℕ) (s' : Session) (rows out : Bytes) : Type 0 where
  pub leaves : s' ≡ leaves_of s x
  pub replies : record { number = r; records = records; bytes = bytes; rows = rows; out = out } ≡ reply_of s x

abbrev pub PushDetermined : Type 0
PushDetermined = (s : Session) (x : Input) (r records bytes : ℕ) (s' : Session) (rows out : Bytes) → Pushed s x r records bytes s' rows out
    → Determined s x r records bytes s' rows out

-- ---- the claim

-- it tells the first of the last run of equal version among a key's well-formed sections, and nothing exactly where there are none
pub data Tells : TableTold → List Section → Type 0 where
  none_kept : Tells nothing []
  kept : {xs : List Section} (x : Section) → FirstOfLastRun x xs → Tells (these x.bytes) xs

-- after the calls `cs` on the session `s`
pub record After (d : Decoder) (s : Session) (cs : List Call) : Type 0 where
  -- for every media id the sentences of its book (specs/Books/Demand `OfId`), for every key the kept section
  pub holds :
      Holds (dropped_in (after d s cs)) (lost_in (after d s cs)) (held_in (after d s cs)) (kept_in (after d s cs)) (handed (pushes d s cs))
      (accepted (pushes d s cs))
  -- a reading of a key answers exactly that section
  pub reads : (k : ℕ) → Tells (told_by (after d s cs).tables (section_read (after d s cs) k)) (well_formed k (accepted (pushes d s cs)))
  -- calls alone never lead to a 5: not of a push, and not of a reading
  pub session : sound (after d s cs) ≡ true
  pub next : (x : Input) → asks (after d s cs) x ≢ 5
  pub readings : (r : Reading) → reading_number (after d s cs) r ≡ 0

-- demand 3, of any decoder; proved of this one in proofs/Calls.antt
abbrev pub Demand3 : Decoder → Type 0
Demand3 d = (l : Limits) (s : Session) → asked l (lengths_of s) ≡ 0 → Lent s → (cs : List Call) → AllBytes cs → After d (opened_session l s) cs

-- ---- demand 2 of all answers: after the calls the session says what the model's state says after the packets accepted, the records are
-- the model's, and readings of tables hand out what it keeps (specs/Answers/TableReadingLaws `AsKept`)

pub record AllAsModel (pass : Bool) (s : Session) (cs : List Call) : Type 0 where
  pub state : view (after decoder s cs) ≡ push_all (opened pass) (accepted (pushes decoder s cs))
  pub records : handed (pushes decoder s cs) ≡ give_all (opened pass) (accepted (pushes decoder s cs))
  pub tables : AsKept (after decoder s cs) (push_all (opened pass) (accepted (pushes decoder s cs)))

abbrev pub AnswersAsModel : Type 0
AnswersAsModel = (l : Limits) (s : Session) → asked l (lengths_of s) ≡ 0 → Lent s → (cs : List Call) → AllBytes cs
    → AllAsModel l.pass_scrambled (opened_session l s) cs
