-- What a call for many packets gave, packet by packet, as `feeddump` writes it: which answer a packet got, and where its records and data
-- begin, by what the call answered and by the lines that it left.
use Rattle.std.specs.Prelude.{ℕ, zero, suc, ◌+◌, ◌*◌, ◌%◌, ◌^◌, List, [], drop}
use Rattle.isdb_tlv.specs.Guards.{◌<?◌, ◌=?◌}
use Rattle.std.specs.Prelude.{if◌then◌else◌}
use Rattle.isdb_tlv.specs.Bytes.{be}
use Rattle.isdb_tlv.specs.Cut.{cut_at}
use Rattle.isdb_tlv.specs.declared.cut.Cut.{Cut}
use Rattle.isdb_tlv.specs.declared.cut.Cut.TheVariants.{Packet, End as end_here, Short as short_here, Bad as bad_here}
use Rattle.isdb_mmt.specs.Memory.Lent.{part}
use Rattle.isdb_mmt.specs.Pushes.Records.{row_size}
use Rattle.isdb_mmt.specs.Pushes.PushAll.{line_size, nothing_taken}
use Rattle.isdb_mmt.specs.Pushes.Answer.{Answer}
use Rattle.isdb_mmt.specs.declared.decoder.many.Progress.{Progress}
use Rattle.isdb_mmt.specs.declared.decoder.many.Pushes.{Pushes}
use Rattle.isdb_mmt.specs.declared.decoder.many.Halt.{Halt}
use Rattle.isdb_mmt.specs.declared.decoder.many.Halt.TheVariants.{End, Short, Bad, Full, Refused}
use Rattle.isdb_text.specs.DumpSession.{packet_line, mfu_line}
use Rattle.isdb_mmt.specs.Memory.Refusals.{number_of}

-- number `i` of a list with `size` bytes each
abbrev pub nth_of : ℕ → ℕ → List ℕ → List ℕ
nth_of size i l = part (size * i) size l

-- ---- the answer to a packet

-- the number of the packet at which a call ended, where one stands there; a packet whose line has no room is turned down as one whose
-- records have none
abbrev pub halt_number : Halt → ℕ
halt_number End = 0
halt_number Short = 0
halt_number Bad = 0
halt_number Full = 10
halt_number (Refused e) = number_of e

-- a packet that was taken, by its line
abbrev pub taken_of : List ℕ → Answer
taken_of line = record { number = 0; records = be 8 line 0; bytes = be 8 line 8 }

abbrev pub turned_down_of : ℕ → Answer
turned_down_of n = record { number = n; records = 0; bytes = 0 }

-- to packet `k` of a call that took so many: those that were taken have a line each, and the one behind them has the number with which
-- the call ended
abbrev pub answer_by_number : ℕ → ℕ → List ℕ → ℕ → Answer
answer_by_number packets ended lines k =
    if k <? packets then taken_of (nth_of line_size k lines)
    else turned_down_of ended

unfoldable pub answer_of : Pushes → List ℕ → ℕ → Answer
answer_of a lines k = answer_by_number a.progress.packets (halt_number a.halt) lines k

-- how many packets of a call are written: those taken; or the first, where it is turned down. One that is turned down behind others is the
-- first of the next call, with all of the outputs before it.
abbrev pub first_told : Halt → ℕ
first_told End = 0
first_told Short = 0
first_told Bad = 0
first_told Full = 1
first_told (Refused e) = 1

unfoldable pub told_of : Pushes → ℕ
told_of a = if a.progress.packets =? 0 then first_told a.halt else a.progress.packets

-- ---- where it stands

abbrev pub next_place : ℕ → Cut → ℕ
next_place at (Packet kind start length next) = next
next_place at end_here = at
next_place at short_here = at
next_place at bad_here = at

-- counts are kept modulo 2^64
abbrev pub passed : Progress → ℕ → Answer → Progress
passed x next y =
    record { at = next; packets = (x.packets + 1) % 2 ^ 64; records = (x.records + y.records) % 2 ^ 64; bytes = (x.bytes + y.bytes) % 2 ^ 64 }

-- behind the packet that stands where `x` has come to in the input
unfoldable pub behind_of : List ℕ → ℕ → List ℕ → Pushes → Progress → Progress
behind_of input most lines a x = passed x (next_place x.at (cut_at input most x.at)) (answer_of a lines x.packets)

-- in front of packet `k` of a call: its place in the input, and how many records and data bytes those before it handed out
unfoldable pub progress_at : List ℕ → ℕ → List ℕ → Pushes → ℕ → Progress
progress_at input most lines a zero = nothing_taken
progress_at input most lines a (suc k) = behind_of input most lines a (progress_at input most lines a k)

-- ---- what is written

abbrev pub cut_line : ℕ → Cut → Answer → List ℕ
cut_line number (Packet kind start n next) y = packet_line number kind n y
cut_line number end_here y = []
cut_line number short_here y = []
cut_line number bad_here y = []

-- the line of the packet in front of which `x` stands; the first of the call has the number `first`
abbrev pub line_by_number : ℕ → List ℕ → ℕ → List ℕ → ℕ → ℕ → Progress → List ℕ
line_by_number first input most lines packets ended x =
    cut_line ((first + x.packets) % 2 ^ 64) (cut_at input most x.at) (answer_by_number packets ended lines x.packets)

unfoldable pub packet_of : ℕ → List ℕ → ℕ → List ℕ → Pushes → Progress → List ℕ
packet_of first input most lines a x = line_by_number first input most lines a.progress.packets (halt_number a.halt) x

-- the line of record `i` of the call, handed out by that packet: a record's data start counts from where its packet's data begin
unfoldable pub record_of : List ℕ → List ℕ → Progress → ℕ → List ℕ
record_of rows given x i = mfu_line (nth_of row_size i rows) (drop x.bytes given)
