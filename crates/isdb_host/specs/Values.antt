-- What a call answers to a host: a code, and the numbers of its answer.
use Rattle.std.specs.Prelude.{ℕ, zero, suc, ◌≡◌, List, [], ◌∷◌, Option, Some, None}

-- so many numbers: these in front, 0 behind them
unfoldable pub numbers_for : ℕ → List ℕ → List ℕ
numbers_for zero xs = []
numbers_for (suc n) [] = 0 ∷ numbers_for n []
numbers_for (suc n) (x ∷ xs) = x ∷ numbers_for n xs

-- numbers, or a code that says why there are none
pub data Reply : Type 0 where
  says : List ℕ → Reply
  code : ℕ → Reply

-- a number alone
abbrev pub one_number : ℕ → List ℕ
one_number n = n ∷ []

-- that there is nothing, and that there is no such id
abbrev pub nothing : Reply
nothing = code 20

abbrev pub no_id : Reply
no_id = code 21

-- that what stands there cannot be read; of a section, that bytes are missing, or that its CRC does not match
abbrev pub malformed : Reply
malformed = code 22

abbrev pub truncated : Reply
truncated = code 23

abbrev pub bad_crc : Reply
bad_crc = code 24

-- what was found, by its numbers, or why there is none
abbrev pub found_said : {A : Type 0} → (A → List ℕ) → Reply → Option A → Reply
found_said numbers why None = why
found_said numbers why (Some x) = says (numbers x)

-- the code is 0 where numbers are given
abbrev pub code_of : Reply → ℕ
code_of (says xs) = 0
code_of (code n) = n

-- the lent numbers after the call: all set where numbers are given, else as they were
abbrev pub numbers_after : ℕ → Reply → List ℕ → List ℕ
numbers_after n (says xs) v = numbers_for n xs
numbers_after n (code c) v = v

-- a call answered `a`: `r` is what it returned, `v` and `w` the sixteen lent numbers before and after
pub record Replied (a : Reply) (r : ℕ) (v w : List ℕ) : Type 0 where
  pub number : r ≡ code_of a
  pub numbers : w ≡ numbers_after 16 a v
