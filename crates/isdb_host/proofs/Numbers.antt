-- Laws of the numbers of an answer. Assumes nothing.
use Prim.Native.Nat.{ℕ, zero, suc, ◌+◌, ◌≤◌, ◌<◌}
use mathlib.Core.Path.{◌≡◌, refl, sym, ◌∙◌, ap}
use mathlib.Core.Logic.{◌≢◌}
use mathlib.Core.List.{List, [], ◌∷◌}
use native.Mathlib.Omega.{arith}
use native.Mathlib.Nat.{le_of_suc-le-suc}
use lib.ListN.{length, set, get_or, length-set}
use lib.Seq.{ext_get_or, get_or-set_same, get_or-set_other}
use lib.Dec.{eqb}
use borrow.Author.Tests.{eqb-true, eqb-false}
use Rattle.isdb_tlv.proofs.Guards.{either}
use Rattle.isdb_mmt.specs.declared.table.section.SectionHeader.{SectionHeader}
use Rattle.isdb_host.specs.Values.{Reply, says, numbers_for, Replied}
use Rattle.isdb_host.specs.Tables.{headed}

length_numbers : (n : ℕ) (xs : List ℕ) → length (numbers_for n xs) ≡ n
unfolding numbers_for
length_numbers zero xs = refl
length_numbers (suc n) [] = ap suc (length_numbers n [])
length_numbers (suc n) (x ∷ xs) = ap suc (length_numbers n xs)

number_at : (n : ℕ) (xs : List ℕ) (i : ℕ) → i < n → get_or (numbers_for n xs) i 0 ≡ get_or xs i 0
unfolding numbers_for
number_at zero xs i h = elim h [ ]
number_at (suc n) [] zero h = refl
number_at (suc n) [] (suc i) h = number_at n [] i (le_of_suc-le-suc h)
number_at (suc n) (x ∷ xs) zero h = refl
number_at (suc n) (x ∷ xs) (suc i) h = number_at n xs i (le_of_suc-le-suc h)

-- the first `i` of the sixteen numbers are set
pub record Set (xs v : List ℕ) (i : ℕ) : Type 0 where
  pub long : length v ≡ 16
  pub set_to : (j : ℕ) → j < i → get_or v j 0 ≡ get_or xs j 0

pub set_none : (xs v : List ℕ) → length v ≡ 16 → Set xs v 0
set_none xs v h = record { long = h; set_to = λ j b. omega arith }

pub set_more : (xs v : List ℕ) (i x : ℕ) → Set xs v i → i < length v → x ≡ get_or xs i 0 → Set xs (set v i x) (i + 1)
set_more xs v i x s h e =
    record {
      long = length-set v i x ∙ s.long;
      set_to =
          λ j b. either (eqb j i)
          (λ t. let same : j ≡ i = eqb-true j i t in rw (same, get_or-set_same v i x 0 h, e))
          (λ t. let other : j ≢ i = eqb-false j i t in rw (get_or-set_other v i j x 0 other) (s.set_to j (omega arith)));
    }

pub set_all : (xs u v : List ℕ) (i : ℕ) → Set xs v i → 16 ≤ i → Replied (says xs) 0 u v
set_all xs u v i s h =
    record {
      number = refl;
      numbers = ext_get_or 0 v (numbers_for 16 xs) (s.long ∙ sym (length_numbers 16 xs)) (λ j b. s.set_to j (omega (arith, s.long)) ∙ sym (number_at 16 xs j (omega (arith, s.long))));
    }

-- an answer by its equal
pub replied_as : {a b : Reply} {r : ℕ} {v w : List ℕ} → Replied a r v w → b ≡ a → Replied b r v w
replied_as h e = rw e h

-- eight numbers, those that are not there as 0
eight : (xs : List ℕ)
    → numbers_for 8 (get_or xs 0 0 ∷ get_or xs 1 0 ∷ get_or xs 2 0 ∷ get_or xs 3 0 ∷ get_or xs 4 0 ∷ get_or xs 5 0 ∷ get_or xs 6 0 ∷ get_or xs 7 0 ∷ [])
    ≡ numbers_for 8 xs
unfolding numbers_for
eight [] = refl
eight (a ∷ []) = refl
eight (a ∷ b ∷ []) = refl
eight (a ∷ b ∷ c ∷ []) = refl
eight (a ∷ b ∷ c ∷ d ∷ []) = refl
eight (a ∷ b ∷ c ∷ d ∷ e ∷ []) = refl
eight (a ∷ b ∷ c ∷ d ∷ e ∷ f ∷ []) = refl
eight (a ∷ b ∷ c ∷ d ∷ e ∷ f ∷ g ∷ []) = refl
eight (a ∷ b ∷ c ∷ d ∷ e ∷ f ∷ g ∷ h ∷ xs) = refl

-- a section's header with eight numbers behind it, read one by one
pub headed_by_eight : (h : SectionHeader) {r : ℕ} {v w : List ℕ} (xs : List ℕ)
    → Replied (says (headed h (get_or xs 0 0 ∷ get_or xs 1 0 ∷ get_or xs 2 0 ∷ get_or xs 3 0 ∷ get_or xs 4 0 ∷ get_or xs 5 0 ∷ get_or xs 6 0 ∷ get_or xs 7 0 ∷ []))) r v w
    → Replied (says (headed h xs)) r v w
unfolding numbers_for
headed_by_eight h xs q =
    record { number = q.number; numbers = q.numbers ∙ ap (λ (l : List ℕ). headed h l) (eight xs) }
