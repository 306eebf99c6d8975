-- What is made of a window on the input.
use Rattle.std.specs.Prelude.{◌≡◌, ℕ, Bool, true, not, List, length}
use Rattle.isdb_tlv.specs.Guards.{◌≤?◌, ◌=?◌}
use Rattle.std.specs.Prelude.{if◌then◌else◌}
use Rattle.isdb_tlv.specs.Cut.{cut_at, recording_of}
use Rattle.isdb_tlv.specs.declared.cut.Cut.TheVariants.{Bad as bad_here}
use Rattle.isdb_tlv.specs.declared.cut.Stop.TheVariants.{Clean, Bad as bad_at}
use Rattle.feedlist.specs.declared.Passed.{Passed}
use Rattle.feedlist.specs.declared.Passed.TheVariants.{More, Bad, Refused}

-- the most data of a packet
abbrev pub most_bytes : ℕ
most_bytes = 16384

-- all packets of the window are taken, and what is left, from `at` on, may go on in what is read next
pub record Rest (w : List ℕ) (at : ℕ) : Type 0 where
  pub end : (recording_of w most_bytes).end ≡ (if length w ≤? at then Clean else bad_at at)
  pub going : cut_at w most_bytes at ≡ bad_here → ⊥

-- all packets before `at` are taken, and there is none at `at`, whatever is read next
pub record Wrong (w : List ℕ) (at : ℕ) : Type 0 where
  pub end : (recording_of w most_bytes).end ≡ bad_at at
  pub closed : cut_at w most_bytes at ≡ bad_here

-- whether a packet that is turned down with this number ends the reading, where so many packets of the same call were taken before it: one
-- that found no room in the outputs behind others finds it in the next call
unfoldable pub ends_reading : ℕ → ℕ → Bool
ends_reading number packets = if packets =? 0 then true else not (number =? 10)

-- what an answer says of the window; of a packet that is turned down it says the number alone
abbrev pub StopsAt : List ℕ → Passed → Type 0
StopsAt w (More at) = Rest w at
StopsAt w (Bad at) = Wrong w at
StopsAt w (Refused number) = Unit {0}
