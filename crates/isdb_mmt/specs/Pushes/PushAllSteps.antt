-- The steps of the call for many packets: what each of its functions is given and leaves.
use Rattle.std.specs.Prelude.{◌≡◌, ℕ, ◌+◌, ◌-◌, ◌*◌, ◌<◌, ◌≤◌, Bool, true, false, not, ◌++◌, length, take, ◌≢◌, Result, Ok, Err}
use Rattle.isdb_tlv.specs.Guards.{◌≤?◌}
use Rattle.std.specs.Prelude.{if◌then◌else◌}
use Rattle.isdb_tlv.specs.Cut.{TlvPacket, recording_from}
use Rattle.isdb_mmt.specs.Formats.Part.{count_of_usize}
use Rattle.isdb_mmt.specs.Decoder.Packet.{Bytes}
use Rattle.isdb_mmt.specs.Memory.Layout.{table_ids}
use Rattle.isdb_mmt.specs.Memory.Session.{Session}
use Rattle.isdb_mmt.specs.Memory.Check.{roomy_count, counts_at_most, sound}
use Rattle.isdb_mmt.specs.Pushes.Records.{row_size}
use Rattle.isdb_mmt.specs.Pushes.Push.{Input, asks, leaves_of, reply_of}
use Rattle.isdb_mmt.specs.Pushes.Answer.{Answer}
use Rattle.isdb_mmt.specs.Memory.Octets.{Lent}
use Rattle.isdb_mmt.specs.Theorems.Room.{most_added, SoundWithin}
use Rattle.isdb_mmt.specs.declared.decoder.many.Halt.{Halt}
use Rattle.isdb_mmt.specs.declared.decoder.many.Progress.{Progress}
use Rattle.isdb_mmt.specs.Pushes.PushAll.{Run, Ran, ran, run_of, input_at, progress_after, after_packet, pushed_each, line_size}

-- that a session passes question 5 may be known
pub record MayBeKnown (known : Bool) (s : Session) : Type 0 where
  pub others : length s.others ≡ table_ids
  pub session : known ≡ true → sound s ≡ true

-- a push into the rows from `first` and the data from `start` on
pub record CanPushBehind (known : Bool) (s : Session) (first : ℕ) (rows : Bytes) (start : ℕ) (out : Bytes) : Type 0 where
  pub session : MayBeKnown known s
  pub rows_there : first ≤ length rows
  pub out_there : start ≤ length out

pub record PushedBehind (s : Session) (x : Input) (first : ℕ) (rows : Bytes) (start : ℕ) (out : Bytes) (a : Answer) (s' : Session) (rows' out' : Bytes) : Type 0 where
  pub leaves : s' ≡ leaves_of s x
  pub number : a.number ≡ asks s x
  pub records : a.records ≡ (reply_of s x).records
  pub bytes : a.bytes ≡ (reply_of s x).bytes
  pub rows_are : rows' ≡ take first rows ++ (reply_of s x).rows
  pub data_are : out' ≡ take start out ++ (reply_of s x).out

-- what is left of the outputs and of the lines
pub record HasRest (known : Bool) (c : Run) : Type 0 where
  pub session : MayBeKnown known c.session
  pub rows : row_size * c.progress.records ≤ length c.rows
  pub out : c.progress.bytes ≤ length c.out
  pub line : line_size * c.progress.packets + line_size ≤ length c.lines

-- its records and data bytes are counted in the length of what they lie in
pub record ProgressFits (x : Progress) (a : Answer) : Type 0 where
  pub packets : x.packets + 1 < count_of_usize
  pub records : x.records + a.records < count_of_usize
  pub bytes : x.bytes + a.bytes < count_of_usize

-- one packet
pub record OnePushed (c : Run) (p : TlvPacket) (a : Answer) (s' : Session) (rows' out' lines' : Bytes) : Type 0 where
  pub number : a.number ≡ asks c.session (input_at c p)
  pub same : (a.number ≢ 0) → run_of s' rows' out' lines' c.progress ≡ c
  pub taken : a.number ≡ 0 → run_of s' rows' out' lines' (progress_after c.progress (length p.bytes) a.records a.bytes)
      ≡ after_packet c p (reply_of c.session (input_at c p))

-- question 5 need be asked once only: the session passes it, and has room for each packet that so much input can hold
abbrev pub most_input : ℕ
most_input = 2147483648

unfoldable pub asked_once : Session → ℕ → Bool
asked_once s n =
    if not (n ≤? most_input) then false
    else if not (sound s) then false
    else counts_at_most roomy_count s.state s.others

-- what holds at every turn of the call
pub record AtTurn (known : Bool) (input : Bytes) (c : Run) : Type 0 where
  pub others : length c.session.others ≡ table_ids
  pub lent : Lent c.session
  pub rows : row_size * c.progress.records ≤ length c.rows
  pub out : c.progress.bytes ≤ length c.out
  pub lines : line_size * c.progress.packets ≤ length c.lines
  pub rows_long : length c.rows < count_of_usize
  pub out_long : length c.out < count_of_usize
  pub lines_long : length c.lines < count_of_usize
  pub inside : c.progress.at ≤ length input
  pub session : known ≡ true → (length input ≤ most_input) × SoundWithin (roomy_count + c.progress.at * most_added) c.session

-- the call from here on
abbrev pub pushed_from : Bytes → ℕ → Run → Ran
pushed_from input most c = pushed_each input most c (recording_from input most c.progress.at).packets

-- one turn: a packet more, or the end
pub record TookPacket (known : Bool) (input : Bytes) (most : ℕ) (c c' : Run) : Type 0 where
  pub holds : AtTurn known input c'
  pub same : pushed_from input most c ≡ pushed_from input most c'
  pub ahead : length input - c'.progress.at < length input - c.progress.at

abbrev pub Turned : Bool → Bytes → ℕ → Run → Result Progress Halt → Session → Bytes → Bytes → Bytes → Type 0
Turned known input most c (Ok y) s' rows' out' lines' = TookPacket known input most c (run_of s' rows' out' lines' y)
Turned known input most c (Err h) s' rows' out' lines' = ran (run_of s' rows' out' lines' c.progress) h ≡ pushed_from input most c
