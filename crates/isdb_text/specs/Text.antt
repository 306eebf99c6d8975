-- Text in lent bytes: what a writer leaves there, and how numbers and bytes are spelled.
use Rattle.std.specs.Prelude.{◌≡◌, ℕ, zero, suc, ◌+◌, ◌/◌, ◌%◌, ◌^◌, min, List, [], ◌∷◌, ◌++◌, length}
use Prim.Native.Char.{code}
use Prim.Native.String.{String, [] as empty, ◌∷◌ as ◌then◌}
use Rattle.std.proofs.lemmas.List.Edits.{sets}
use Rattle.isdb_tlv.specs.Guards.{◌<?◌}
use Rattle.std.specs.Prelude.{if◌then◌else◌}

-- the codes of a quoted text
abbrev pub ascii : String → List ℕ
ascii empty = []
ascii (c then s) = code c ∷ ascii s

-- `m` is `l` with `text` from `at` on, and `next` the place behind it. What would lie beyond the end is left out, and then
-- `next` is one more than the length; such a place takes no more text.
pub record Wrote (l : List ℕ) (at : ℕ) (text m : List ℕ) (next : ℕ) : Type 0 where
  pub bytes : m ≡ sets l at text
  pub place : next ≡ min (at + length text) (length l + 1)

-- the code of a digit below 16: `0` to `9`, then `a` to `f`
abbrev pub digit : ℕ → ℕ
digit d = if d <? 10 then 48 + d else 87 + d

abbrev pub decimal_in : ℕ → ℕ → List ℕ
decimal_in zero n = digit n ∷ []
decimal_in (suc k) n =
    let more = decimal_in k (n / 10) ++ (digit (n % 10) ∷ []) in
    if n <? 10 then digit n ∷ [] else more

-- `n` in decimal, no zero in front: the digits of n / 10, if any, and the last one (n steps suffice)
unfoldable pub decimal_of : ℕ → List ℕ
decimal_of n = decimal_in n n

-- the hexadecimal digit of `n` with `k` places behind it
unfoldable pub hex_digit : ℕ → ℕ → ℕ
hex_digit n k = digit (n / 16 ^ k % 16)

-- the last `k` hexadecimal digits of `n`
unfoldable pub hex_of : ℕ → ℕ → List ℕ
hex_of zero n = []
hex_of (suc k) n = hex_digit n k ∷ hex_of k n

-- bytes, two digits each
unfoldable pub pairs_of : List ℕ → List ℕ
pairs_of [] = []
pairs_of (b ∷ s) = hex_of 2 b ++ pairs_of s

-- bytes as HEX: two digits each, `-` where there are none
unfoldable pub bytes_as_hex : List ℕ → List ℕ
bytes_as_hex s = if length s <? 1 then ascii "-" else pairs_of s
