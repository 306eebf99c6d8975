-- Many packets in one call: those of a stretch of input, pushed one after the other, each into what the earlier ones left of the output
-- buffers, until the input ends, what stands there is no packet or not a whole one, a packet is turned down, or the list of lines is full.
use Rattle.std.specs.Prelude.{◌≡◌, ℕ, ◌+◌, ◌*◌, List, [], ◌∷◌, ◌++◌, length, take, drop}
use Rattle.isdb_tlv.specs.Guards.{◌<?◌, ◌=?◌}
use Rattle.std.specs.Prelude.{if◌then◌else◌}
use Rattle.isdb_tlv.specs.Fields.{Field, field, puts}
use Rattle.isdb_tlv.specs.Cut.{TlvPacket, cut_at, recording_of}
use Rattle.isdb_tlv.specs.declared.cut.Cut.{Cut}
use Rattle.isdb_tlv.specs.declared.cut.Cut.TheVariants.{Packet as packet_here, End as end_here, Short as short_here, Bad as bad_here}
use Rattle.isdb_mmt.specs.Decoder.Packet.{Bytes}
use Rattle.isdb_mmt.specs.Memory.Session.{Session}
use Rattle.isdb_mmt.specs.Pushes.Records.{row_size}
use Rattle.isdb_mmt.specs.Pushes.Push.{Input, input, asks, leaves_of, Reply, reply_of}
use Rattle.isdb_mmt.specs.declared.decoder.many.Progress.{Progress}
use Rattle.isdb_mmt.specs.declared.decoder.many.Pushes.{Pushes}
use Rattle.isdb_mmt.specs.declared.decoder.many.Halt.{Halt}
use Rattle.isdb_mmt.specs.declared.decoder.many.Halt.TheVariants.{End, Short, Bad, Full, Refused}
use Rattle.isdb_mmt.specs.Memory.Refusals.{refusal_of}

-- a packet's line: how many records and how many data bytes it handed out
abbrev pub line_size : ℕ
line_size = 16

abbrev pub line_fields : ℕ → ℕ → List Field
line_fields records bytes = field 8 records ∷ field 8 bytes ∷ []

-- the bytes in front of a TLV packet's data
abbrev pub header_size : ℕ
header_size = 4

-- how far a call has come: the session and the output buffers as they are now; the place in the input, how many packets were taken, and how
-- many records and data bytes they handed out
pub record Run : Type 0 where
  pub session : Session
  pub rows : Bytes
  pub out : Bytes
  pub lines : Bytes
  pub progress : Progress

abbrev pub nothing_taken : Progress
nothing_taken = record { at = 0; packets = 0; records = 0; bytes = 0 }

abbrev pub run_of : Session → Bytes → Bytes → Bytes → Progress → Run
run_of s rows out lines p = record { session = s; rows = rows; out = out; lines = lines; progress = p }

-- a packet gets the rest of the output buffers
abbrev pub input_at : Run → TlvPacket → Input
input_at c p = input p.kind p.bytes (drop (row_size * c.progress.records) c.rows) (drop c.progress.bytes c.out)

-- a packet of `n` data that is taken
abbrev pub progress_after : Progress → ℕ → ℕ → ℕ → Progress
progress_after x n records bytes =
    record { at = x.at + header_size + n; packets = x.packets + 1; records = x.records + records; bytes = x.bytes + bytes }

-- what its push leaves, and its reply behind those of the earlier ones
abbrev pub after_packet : Run → TlvPacket → Reply → Run
after_packet c p y =
    record {
      session = leaves_of c.session (input_at c p);
      rows = take (row_size * c.progress.records) c.rows ++ y.rows;
      out = take c.progress.bytes c.out ++ y.out;
      lines = puts (line_size * c.progress.packets) (line_fields y.records y.bytes) c.lines;
      progress = progress_after c.progress (length p.bytes) y.records y.bytes;
    }

-- how a call ends: where it stands then, and why
pub record Ran : Type 0 where
  pub run : Run
  pub halt : Halt

abbrev pub ran : Run → Halt → Ran
ran c h = record { run = c; halt = h }

-- why it ends where the packets of the input do; a packet is none of these
abbrev pub halt_at : Cut → Halt
halt_at (packet_here kind start length next) = End
halt_at end_here = End
halt_at short_here = Short
halt_at bad_here = Bad

-- the packets of a list, one by one; behind them the input has what it has at the place reached
unfoldable pub pushed_each : Bytes → ℕ → Run → List TlvPacket → Ran
pushed_each input most c [] = ran c (halt_at (cut_at input most c.progress.at))
pushed_each input most c (p ∷ ps) =
    if length c.lines <? line_size * c.progress.packets + line_size then ran c Full
    else if asks c.session (input_at c p) =? 0 then pushed_each input most (after_packet c p (reply_of c.session (input_at c p))) ps
    else ran c (Refused (refusal_of (asks c.session (input_at c p))))

-- the call for many packets, with at most `most` data each: what pushing the input's packets one by one gives
pub record AllPushed (s : Session) (input : Bytes) (most : ℕ) (rows out lines : Bytes) (a : Pushes) (s' : Session) (rows' out' lines' : Bytes) : Type 0 where
  pub one_by_one :
      ran (run_of s' rows' out' lines' a.progress) a.halt
      ≡ pushed_each input most (run_of s rows out lines nothing_taken) (recording_of input most).packets
