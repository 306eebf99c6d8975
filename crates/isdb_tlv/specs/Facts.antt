-- What a reader of these definitions may ask, and no contract cites: is a code kept that has no name, is the set of table ids the list
-- of them, does a window on a recording show what the recording has. Proved in proofs/Codes, Messages and Cutting.
use Rattle.std.specs.Prelude.{ℕ, ◌+◌, ◌%◌, ◌<◌, ◌≡◌, Bool, true, false, List, [], ◌∷◌, ◌++◌, take, drop, get_or}
use Rattle.isdb_tlv.specs.Guards.{◌=?◌}
use Rattle.std.specs.Prelude.{if◌then◌else◌}
use Rattle.isdb_tlv.specs.Tlv.{type_byte, packet_type}
use Rattle.isdb_tlv.specs.Mmtp.{fec_code_of, fec_type_of, payload_code_of, payload_type_of}
use Rattle.isdb_tlv.specs.Messages.{has, set_of}
use Rattle.isdb_tlv.specs.Cut.{cut_at, with_first, recording_from}
use Rattle.isdb_tlv.specs.declared.cut.Cut.{Cut}
use Rattle.isdb_tlv.specs.declared.cut.Cut.TheVariants.{Packet, End, Short, Bad}

-- a code that is read is the code that was there, whether it has a name or not (STD-B32 Part 3, 3.5; ISO/IEC 23008-1, 9.2)
pub record CodesKept : Type 0 where
  pub kind : (b : ℕ) → type_byte (packet_type b) ≡ b
  pub fec : (c : ℕ) → fec_code_of (fec_type_of c) ≡ c % 4
  pub payload : (c : ℕ) → payload_code_of (payload_type_of c) ≡ c % 64

-- whether an id is in a list
abbrev pub member : ℕ → List ℕ → Bool
member x [] = false
member x (y ∷ l) =
    if x =? y then true
    else member x l

-- the set of a list of ids has those of the list and no others
abbrev pub SetIsList : Type 0
SetIsList = (x : ℕ) → x < 256 → (ids : List ℕ) → ((i : ℕ) → get_or ids i 0 < 256) → has (set_of ids) x ≡ member x ids

-- the same, `base` places further on
abbrev pub moved : ℕ → Cut → Cut
moved base (Packet kind start length next) = Packet kind (base + start) length (base + next)
moved base End = End
moved base Short = Short
moved base Bad = Bad

-- a window `w`: bytes of the recording `s` from `base` on, with `r` behind them. A packet that it shows is the recording's, and what
-- can be none is none; where nothing is behind the window, all that it shows is so.
pub record WindowShows (s w r : List ℕ) (base most i : ℕ) : Type 0 where
  pub packet : (kind start n next : ℕ) → cut_at w most i ≡ Packet kind start n next
      → recording_from s most (base + i)
      ≡ with_first (record { kind = kind; bytes = take n (drop start w) }) (recording_from s most (base + next))
  pub bad : cut_at w most i ≡ Bad → cut_at s most (base + i) ≡ Bad
  pub end : r ≡ [] → cut_at s most (base + i) ≡ moved base (cut_at w most i)

abbrev pub WindowTheorem : Type 0
WindowTheorem = (s w r : List ℕ) (base : ℕ) → drop base s ≡ w ++ r → (most i : ℕ) → WindowShows s w r base most i
