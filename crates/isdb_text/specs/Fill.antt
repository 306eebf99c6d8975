-- Templates: a line of text with marks for the values in it.
use Rattle.std.specs.Prelude.{ℕ, List, [], ◌∷◌, ◌++◌, length, drop, take_while, slice_index}
use Rattle.isdb_tlv.specs.Guards.{◌=?◌}
use Rattle.std.specs.Prelude.{if◌then◌else◌}
use Rattle.isdb_text.specs.Text.{ascii, decimal_of, hex_digit}

-- the marks: `#` stands for a value in decimal, `?` for two values, of which the second counts unless the first is 0, and a run
-- of `%` for a value in hexadecimal with as many digits
abbrev pub number : ℕ
number = 35

abbrev pub optional : ℕ
optional = 63

abbrev pub place : ℕ
place = 37

-- how many `%` a template begins with
unfoldable pub places : List ℕ → ℕ
places t = length (take_while (λ c. c =? place) t)

abbrev pub optional_of : ℕ → ℕ → List ℕ
optional_of given n = if given =? 0 then ascii "none" else decimal_of n

-- what one byte of a template stands for: `k` is the number of `%` behind it, and the next values are `a` and `b`
unfoldable pub spelled : ℕ → ℕ → ℕ → ℕ → List ℕ
spelled c k a b =
    if c =? number then decimal_of a
    else if c =? optional then optional_of a b
    else if c =? place then hex_digit a k ∷ []
    else c ∷ []

-- how many values are used up behind it; those of a run of `%` at its end
unfoldable pub taken : ℕ → ℕ → ℕ
taken c k =
    if c =? number then 1
    else if c =? optional then 2
    else if c =? place then (if k =? 0 then 1 else 0)
    else 0

-- a template with its values filled in; a value that is not there counts as 0
unfoldable pub filled : List ℕ → List ℕ → List ℕ
filled [] vs = []
filled (c ∷ t) vs = spelled c (places t) (slice_index vs 0) (slice_index vs 1) ++ filled t (drop (taken c (places t)) vs)
