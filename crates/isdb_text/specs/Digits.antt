-- Bytes out of hexadecimal text.
use Rattle.std.specs.Prelude.{ℕ, ◌+◌, ◌-◌, ◌*◌, ◌/◌, ◌%◌, List, [], ◌∷◌, length, take_while, Err, Ok, Result}
use Rattle.std.proofs.lemmas.List.Edits.{sets}
use Rattle.isdb_tlv.specs.Guards.{◌<?◌, ◌≤?◌, ◌=?◌}
use Rattle.std.specs.Prelude.{if◌then◌else◌}
use Rattle.isdb_text.specs.declared.digits.DecodeError.{DecodeError}
use Rattle.isdb_text.specs.declared.digits.DecodeError.TheVariants.{Foreign, Odd, TooLong}

-- the value of a digit by its code: `0` to `9`, `A` to `F`, `a` to `f`; 16 for any other letter
unfoldable pub letter_of : ℕ → ℕ
letter_of x =
    if x <? 65 then 16
    else if x ≤? 70 then x - 55
    else if x <? 97 then 16
    else if x ≤? 102 then x - 87
    else 16

unfoldable pub value_of : ℕ → ℕ
value_of x =
    if x <? 48 then 16
    else if x ≤? 57 then x - 48
    else letter_of x

-- the byte of two digits' values
abbrev pub byte_of : ℕ → ℕ → ℕ
byte_of high low = (high * 16 + low) % 256

-- two digits a byte
unfoldable pub bytes_in : List ℕ → List ℕ
bytes_in [] = []
bytes_in (a ∷ []) = []
bytes_in (a ∷ (b ∷ s)) = byte_of (value_of a) (value_of b) ∷ bytes_in s

-- the index of the first letter that is no digit, or the one behind the last
unfoldable pub foreign_of : List ℕ → ℕ
foreign_of s = length (take_while (λ x. value_of x <? 16) s)

-- what is made of a text where there is room for `n` bytes: how many, or why none
unfoldable pub decoded_of : ℕ → List ℕ → Result ℕ DecodeError
decoded_of n s =
    if foreign_of s <? length s then Err (Foreign (foreign_of s))
    else if length s % 2 =? 0 then (if n <? length s / 2 then Err TooLong else Ok (length s / 2))
    else Err Odd

abbrev pub placed : List ℕ → List ℕ → Result ℕ DecodeError → List ℕ
placed l s (Ok n) = sets l 0 (bytes_in s)
placed l s (Err e) = l

-- what is left in the lent bytes: nothing is written where the text is turned down
unfoldable pub decoded_into : List ℕ → List ℕ → List ℕ
decoded_into l s = placed l s (decoded_of (length l) s)
