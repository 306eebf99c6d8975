-- Why a call is turned down, and the number of the question that is answered no.
use Rattle.std.specs.Prelude.{ℕ, Result, Ok, Err, if◌then◌else◌}
use Rattle.isdb_tlv.specs.Guards.{◌=?◌}
use Rattle.isdb_mmt.specs.declared.decoder.refusal.Refusal.{Refusal}
use Rattle.isdb_mmt.specs.declared.decoder.refusal.Refusal.TheVariants.{PlacesOutOfRange, AreasOutOfRange, BufferTooShort, PacketsOutOfRange, NotASession, PacketTooLong, PacketsUsedUp, NoPlaceFree, AreaTooSmall, OutputTooSmall}

abbrev pub number_of : Refusal → ℕ
number_of PlacesOutOfRange = 1
number_of AreasOutOfRange = 2
number_of BufferTooShort = 3
number_of PacketsOutOfRange = 4
number_of NotASession = 5
number_of PacketTooLong = 6
number_of PacketsUsedUp = 7
number_of NoPlaceFree = 8
number_of AreaTooSmall = 9
number_of OutputTooSmall = 10

-- the number of an answer: 0 where the call is not turned down
abbrev pub answer_number : {A : Type 0} → Result A Refusal → ℕ
answer_number (Err r) = number_of r
answer_number (Ok x) = 0

-- the reason of the question with a number of 1 to 10
unfoldable pub refusal_of : ℕ → Refusal
refusal_of n =
    if n =? 1 then PlacesOutOfRange
    else if n =? 2 then AreasOutOfRange
    else if n =? 3 then BufferTooShort
    else if n =? 4 then PacketsOutOfRange
    else if n =? 5 then NotASession
    else if n =? 6 then PacketTooLong
    else if n =? 7 then PacketsUsedUp
    else if n =? 8 then NoPlaceFree
    else if n =? 9 then AreaTooSmall
    else OutputTooSmall
