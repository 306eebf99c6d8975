-- What is written of the packets of a call is what pushing them one by one answers and hands out.
use Rattle.std.specs.Prelude.{◌≡◌, ℕ, ◌*◌, ◌<◌, ◌≤◌, List, [], ◌∷◌, ◌++◌, length, take}
use Rattle.isdb_tlv.specs.Cut.{TlvPacket, recording_of}
use Rattle.isdb_mmt.specs.Decoder.Packet.{Bytes}
use Rattle.isdb_mmt.specs.Memory.Lent.{part}
use Rattle.isdb_mmt.specs.Memory.Session.{Session}
use Rattle.isdb_mmt.specs.Pushes.Records.{row_size}
use Rattle.isdb_mmt.specs.Pushes.Push.{Reply, reply_of}
use Rattle.isdb_mmt.specs.Formats.Part.{count_of_usize}
use Rattle.isdb_mmt.specs.Pushes.PushAll.{line_size, nothing_taken, Run, run_of, input_at, after_packet, AllPushed}
use Rattle.isdb_mmt.specs.Pushes.Answer.{Answer}
use Rattle.isdb_mmt.specs.declared.decoder.many.Pushes.{Pushes}
use Rattle.isdb_text.specs.DumpPackets.{answer_of, told_of, progress_at}

-- the call behind some packets, each pushed and taken
abbrev pub pushed_over : Run → List TlvPacket → Run
pushed_over c [] = c
pushed_over c (p ∷ ps) = pushed_over (after_packet c p (reply_of c.session (input_at c p))) ps

abbrev pub answered : Reply → Answer
answered y = record { number = y.number; records = y.records; bytes = y.bytes }

-- of packet `k` of a call, where the call had come to `c` and a push of the packet replies `y`: the walk stands where the call did, the
-- answer is the push's, and the rows and data that the call left there are those that the push hands out
pub record Told (input : Bytes) (most : ℕ) (a : Pushes) (rows out lines : Bytes) (k : ℕ) (c : Run) (y : Reply) : Type 0 where
  pub place : progress_at input most lines a k ≡ c.progress
  pub answer : answer_of a lines k ≡ answered y
  pub rows_are : part (row_size * c.progress.records) (row_size * y.records) rows ≡ take (row_size * y.records) y.rows
  pub data_are : part c.progress.bytes y.bytes out ≡ take y.bytes y.out

-- of every packet of a call that is written; a list of lines has room for one at least
abbrev pub ToldAsPushed : Type 0
ToldAsPushed =
    (s s' : Session) (input : Bytes) (most : ℕ) (rows out lines rows' out' lines' : Bytes) (a : Pushes)
    → AllPushed s input most rows out lines a s' rows' out' lines'
    → length rows < count_of_usize → length out < count_of_usize → length lines < count_of_usize → line_size ≤ length lines
    → (before after : List TlvPacket) (p : TlvPacket) → (recording_of input most).packets ≡ before ++ (p ∷ after) → length before < told_of a
    → Told input most a rows' out' lines' (length before) (pushed_over (run_of s rows out lines nothing_taken) before)
    (reply_of (pushed_over (run_of s rows out lines nothing_taken) before).session (input_at (pushed_over (run_of s rows out lines nothing_taken) before) p))
