-- A call for many packets is a list of pushes, so that what holds after every list of calls holds where such calls are among them too.
use Rattle.std.specs.Prelude.{◌≡◌, ℕ, ◌+◌, ◌*◌, List, [], ◌∷◌, ◌++◌, length, take, drop}
use Rattle.isdb_tlv.specs.Guards.{◌<?◌, ◌=?◌}
use Rattle.std.specs.Prelude.{if◌then◌else◌}
use Rattle.isdb_tlv.specs.Fields.{puts}
use Rattle.isdb_tlv.specs.Cut.{TlvPacket, recording_of}
use Rattle.isdb_mmt.specs.Decoder.Packet.{Bytes}
use Rattle.isdb_mmt.specs.Decoder.Objects.{Rec}
use Rattle.isdb_mmt.specs.Memory.Limits.{asked}
use Rattle.isdb_mmt.specs.Memory.Session.{Session}
use Rattle.isdb_mmt.specs.Memory.Check.{lengths_of}
use Rattle.isdb_mmt.specs.Memory.Opening.{opened_session}
use Rattle.isdb_mmt.specs.Memory.Octets.{Octets, Lent}
use Rattle.isdb_mmt.specs.Pushes.Records.{row_size, read_rows}
use Rattle.isdb_mmt.specs.Pushes.Push.{Input, asks, Reply, reply_of}
use Rattle.isdb_mmt.specs.Pushes.PushAll.{line_size, line_fields, Run, run_of, nothing_taken, input_at, after_packet, Ran, pushed_each, AllPushed}
use Rattle.isdb_mmt.specs.Theorems.Calls.{Call, push, after, pushes, accepted, handed, AllBytes, decoder, After}
use Rattle.isdb_mmt.specs.declared.decoder.limits.Limits.{Limits}
use Rattle.isdb_mmt.specs.declared.decoder.many.Pushes.{Pushes}
use Rattle.isdb_mmt.specs.declared.decoder.many.Halt.{Halt}
use Rattle.isdb_mmt.specs.declared.decoder.many.Halt.TheVariants.{End, Short, Bad, Full, Refused}
use Rattle.isdb_mmt.specs.Memory.Refusals.{number_of}

-- what a call for many packets is given: the input, the most data of a packet, the output buffers
pub record Batch : Type 0 where
  pub input : Bytes
  pub most : ℕ
  pub rows : Bytes
  pub out : Bytes
  pub lines : Bytes

abbrev pub start_of : Session → Batch → Run
start_of s b = run_of s b.rows b.out b.lines nothing_taken

abbrev pub packets_in : Batch → List TlvPacket
packets_in b = (recording_of b.input b.most).packets

-- how it ends, as its contract says (specs/Pushes/PushAll)
abbrev pub end_of : Session → Batch → Ran
end_of s b = pushed_each b.input b.most (start_of s b) (packets_in b)

-- ---- its pushes: of the packets taken, and of the one that is turned down, each with the rest of the output buffers

unfoldable pub calls_over : Run → List TlvPacket → List Call
calls_over c [] = []
calls_over c (p ∷ ps) =
    if length c.lines <? line_size * c.progress.packets + line_size then []
    else if asks c.session (input_at c p) =? 0
    then push (input_at c p) ∷ calls_over (after_packet c p (reply_of c.session (input_at c p))) ps
    else push (input_at c p) ∷ []

abbrev pub calls_of : Session → Batch → List Call
calls_of s b = calls_over (start_of s b) (packets_in b)

-- ---- what their replies come to

-- the rows of each one's records, then the next one's in what it left; and the data likewise
unfoldable pub all_rows : Bytes → List (Input × Reply) → Bytes
all_rows rows [] = rows
all_rows rows (e ∷ es) = take (row_size * e.1.records) e.1.rows ++ all_rows (drop (row_size * e.1.records) e.1.rows) es

unfoldable pub all_data : Bytes → List (Input × Reply) → Bytes
all_data out [] = out
all_data out (e ∷ es) = take e.1.bytes e.1.out ++ all_data (drop e.1.bytes e.1.out) es

-- a line for each that has no number, from line `n` on
unfoldable pub all_lines : ℕ → Bytes → List (Input × Reply) → Bytes
all_lines n lines [] = lines
all_lines n lines (e ∷ es) =
    if e.1.number =? 0 then all_lines (n + 1) (puts (line_size * n) (line_fields e.1.records e.1.bytes) lines) es
    else all_lines n lines es

unfoldable pub record_count : List (Input × Reply) → ℕ
record_count [] = 0
record_count (e ∷ es) = e.1.records + record_count es

unfoldable pub data_count : List (Input × Reply) → ℕ
data_count [] = 0
data_count (e ∷ es) = e.1.bytes + data_count es

-- the numbers with which packets were turned down
unfoldable pub refusals : List (Input × Reply) → List ℕ
refusals [] = []
refusals (e ∷ es) = if e.1.number =? 0 then refusals es else e.1.number ∷ refusals es

abbrev pub refusal : Halt → List ℕ
refusal End = []
refusal Short = []
refusal Bad = []
refusal Full = []
refusal (Refused r) = number_of r ∷ []

-- the session, and all that is handed out, are those of the pushes `cs`, whose replies are `es`
pub record PushesGive (s : Session) (b : Batch) (cs : List Call) (es : List (Input × Reply)) (a : Pushes) (s' : Session) (rows' out' lines' : Bytes) : Type 0 where
  pub session : s' ≡ after decoder s cs
  pub rows_are : rows' ≡ all_rows b.rows es
  pub data_are : out' ≡ all_data b.out es
  pub lines_are : lines' ≡ all_lines 0 b.lines es
  pub packets : a.progress.packets ≡ length (accepted es)
  pub records : a.progress.records ≡ record_count es
  pub bytes : a.progress.bytes ≡ data_count es
  pub number : refusal a.halt ≡ refusals es

abbrev pub PushAllIsPushes : Type 0
PushAllIsPushes = (s : Session) (b : Batch) (a : Pushes) (s' : Session) (rows' out' lines' : Bytes)
    → AllPushed s b.input b.most b.rows b.out b.lines a s' rows' out' lines'
    → PushesGive s b (calls_of s b) (pushes decoder s (calls_of s b)) a s' rows' out' lines'

-- what is read off the rows and data that it leaves: of each packet its records, behind those of the packets before it
unfoldable pub read_each : Bytes → Bytes → List (Input × Reply) → List Rec
read_each rows out [] = []
read_each rows out (e ∷ es) = read_rows e.1.records rows out ++ read_each (drop (row_size * e.1.records) rows) (drop e.1.bytes out) es

-- they are the records of which demand 3 speaks
abbrev pub RecordsHanded : Type 0
RecordsHanded = (s : Session) (b : Batch) → Lent s → Octets b.input → (a : Pushes) (s' : Session) (rows' out' lines' : Bytes)
    → AllPushed s b.input b.most b.rows b.out b.lines a s' rows' out' lines'
    → read_each rows' out' (pushes decoder s (calls_of s b)) ≡ handed (pushes decoder s (calls_of s b))

-- ---- calls of every sort

-- a push or a reading, or a call for many packets
pub data AnyCall : Type 0 where
  one : Call → AnyCall
  many : Batch → AnyCall

-- each gets the session that the last one left
unfoldable pub after_any : Session → List AnyCall → Session
after_any s [] = s
after_any s (one c ∷ cs) = after_any (after decoder s (c ∷ [])) cs
after_any s (many b ∷ cs) = after_any (end_of s b).run.session cs

-- the same calls, with its pushes in place of each call for many packets
unfoldable pub flat : Session → List AnyCall → List Call
flat s [] = []
flat s (one c ∷ cs) = c ∷ flat (after decoder s (c ∷ [])) cs
flat s (many b ∷ cs) = calls_of s b ++ flat (end_of s b).run.session cs

abbrev pub AnyBytes : List AnyCall → Type 0
AnyBytes [] = Unit {0}
AnyBytes (one c ∷ cs) = AllBytes (c ∷ []) × AnyBytes cs
AnyBytes (many b ∷ cs) = Octets b.input × AnyBytes cs

-- after the calls `cs` on the session `s`
pub record AfterAny (s : Session) (cs : List AnyCall) : Type 0 where
  pub session : after_any s cs ≡ after decoder s (flat s cs)
  -- all that demand 3 says of the session after them, and of the replies
  pub holds : After decoder s (flat s cs)

-- demand 3, with calls for many packets among the others; proved in proofs/PushAllCalls.antt
abbrev pub Demand3WithMany : Type 0
Demand3WithMany = (l : Limits) (s : Session) → asked l (lengths_of s) ≡ 0 → Lent s → (cs : List AnyCall) → AnyBytes cs
    → AfterAny (opened_session l s) cs
