-- Parts of lent memory: the bytes that stand at a place, memory with other bytes there, and places of one size with a name
-- each.
use Rattle.std.specs.Prelude.{ℕ, zero, suc, ◌+◌, ◌*◌, ◌/◌, ◌%◌, Bool, true, false, not, List, [], ◌∷◌, ◌++◌, length, take, drop, None, Option, Some}
use Rattle.isdb_tlv.specs.Guards.{◌=?◌, ◌<?◌}
use Rattle.std.specs.Prelude.{if◌then◌else◌}
use Rattle.isdb_tlv.specs.Bytes.{be}
use Rattle.isdb_mmt.specs.Formats.Maybe.{flag_of}
use Rattle.isdb_mmt.specs.declared.decoder.place.PlaceFor.{PlaceFor}
use Rattle.isdb_mmt.specs.declared.decoder.place.PlaceFor.TheVariants.{Own, Free, NoneFree}

-- the `n` bytes from `at`
abbrev pub part : ℕ → ℕ → List ℕ → List ℕ
part at n l = take n (drop at l)

-- `l` with the bytes `bs` from `at` on
unfoldable pub over : ℕ → List ℕ → List ℕ → List ℕ
over at bs l = take at l ++ (bs ++ drop (length bs) (drop at l))

-- a flag is a byte: 0 is no, any other value yes; it is stored as 0 or 1
abbrev pub flag : List ℕ → ℕ → Bool
flag l at = not (be 1 l at =? 0)

abbrev pub flag_byte : Bool → ℕ
flag_byte b = flag_of b

-- `n` places of `size` bytes each, from `at` on
unfoldable pub places_from : ℕ → ℕ → ℕ → List ℕ → List (List ℕ)
places_from zero size at l = []
places_from (suc n) size at l = part at size l ∷ places_from n size (at + size) l

-- their names: the number in the first 4 bytes of each
unfoldable pub names_from : ℕ → ℕ → ℕ → List ℕ → List ℕ
names_from zero size at l = []
names_from (suc n) size at l = be 4 l at ∷ names_from n size (at + size) l

-- whether `x` is one of some names
unfoldable pub among : ℕ → List ℕ → Bool
among x [] = false
among x (y ∷ ys) = if y =? x then true else among x ys

-- no name twice
unfoldable pub distinct : List ℕ → Bool
unfolding among
distinct [] = true
distinct (x ∷ xs) = if among x xs then false else distinct xs

-- a name is looked for only where it is marked; the cell of its mark, of 32,768
abbrev pub among_marked : ℕ → ℕ → List ℕ → Bool
among_marked mark x names = if mark =? 0 then false else among x names

unfoldable pub cell_of : ℕ → ℕ
cell_of x = x * 2654435769 / 16777216 % 32768

-- the index of the first `x`, where the first name has the index `i`
unfoldable pub found_from : ℕ → List ℕ → ℕ → Option ℕ
found_from i [] x = None
found_from i (y ∷ ys) x = if y =? x then Some i else found_from (i + 1) ys x

-- the place of `x`, or the next free one of `limit`
abbrev pub place_for_found : ℕ → ℕ → Option ℕ → PlaceFor
place_for_found n limit (Some i) = Own i
place_for_found n limit None = if n <? limit then Free n else NoneFree

unfoldable pub place_for_name : List ℕ → ℕ → ℕ → PlaceFor
unfolding found_from
place_for_name names limit x = place_for_found (length names) limit (found_from 0 names x)

-- whether a test holds of each
unfoldable pub every : {A : Type 0} → (A → Bool) → List A → Bool
every f [] = true
every f (x ∷ xs) = if f x then every f xs else false

-- each with its index, where the first has the index `i`
unfoldable pub indexed : {A B : Type 0} → (ℕ → A → B) → ℕ → List A → List B
indexed g i [] = []
indexed g i (x ∷ xs) = g i x ∷ indexed g (i + 1) xs
