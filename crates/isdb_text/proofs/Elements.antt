-- Laws of the text of a walk: a loop that writes each element's text writes them all. Assumes nothing.
use Rattle.std.proofs.Common.{◌≡◌, ℕ, zero, suc, ◌-◌, ◌+◌, ◌<◌, ◌≤◌, ◌⊎◌, List, [], ◌++◌, refl, ap, ⊎_elim, ◌∙◌, arith}
use Rattle.isdb_text.specs.Text.{Wrote}
use Rattle.isdb_text.specs.Elements.{Element, ended, element, texts}
use Rattle.isdb_text.proofs.Written.{wrote_append, Left, left_all, left_less, left_none}

module _ (step : ℕ → Element) (n at : ℕ) where
  next_text : (text : List ℕ) (next : ℕ) → 0 < n → step at ≡ element text next
      → texts step n at ≡ text ++ texts step (n - 1) next
  unfolding texts
  next_text text next h e =
      let g : n ≡ suc (n - 1) = omega arith in
      ap (λ (k : ℕ). texts step k at) g ∙ rw e refl

no_text : (step : ℕ → Element) (n at : ℕ) → step at ≡ ended → texts step n at ≡ []
unfolding texts
no_text step zero at e = refl
no_text step (suc n) at e = rw e refl

-- in a loop over what is read at each place: k of n elements at most are written, and the next stands at i
pub record Walk (l : List ℕ) (at : ℕ) (whole m : List ℕ) (p : ℕ) {A : Type 0} (shown : ℕ → A → Element) (read : ℕ → A) (n k i : ℕ) : Type 0 where
  pub left : Left l at whole m p (texts (λ at. shown at (read at)) (n - k) i)

pub walk_start : {l : List ℕ} {at p : ℕ} {A : Type 0} (shown : ℕ → A → Element) (read : ℕ → A) (n i : ℕ) → Wrote l at [] l p
    → Walk l at (texts (λ at. shown at (read at)) n i) l p shown read n 0 i
walk_start shown read n i w = let e : n - 0 ≡ n = omega arith in record { left = rw e (left_all w) }

module _ {l : List ℕ} {at : ℕ} {whole m : List ℕ} {p : ℕ} {A : Type 0} {shown : ℕ → A → Element} {read : ℕ → A} {n k i : ℕ}
    (f : Walk l at whole m p shown read n k i) (r v : A) (e : r ≡ read i) (d : r ≡ v) where
  pub walk_turn : {text m' : List ℕ} {next q : ℕ} → k < n → shown i v ≡ element text next → Wrote m p text m' q
      → Walk l at whole m' q shown read n (k + 1) next
  walk_turn {text} {m'} {next} h g w =
      let b : n - (k + 1) ≡ n - k - 1 = omega arith in
      let t = next_text (λ at. shown at (read at)) (n - k) i text next (omega arith) (rw (← e, d) g) in
      record { left = rw b (left_less f.left t w) }

  -- one whose text was written in two parts
  pub walk_parts : {a b m' m'' : List ℕ} {next j q : ℕ} → k < n → shown i v ≡ element (a ++ b) next → Wrote m p a m' j
      → Wrote m' j b m'' q → Walk l at whole m'' q shown read n (k + 1) next
  walk_parts h g w z = walk_turn h g (wrote_append w z)

  pub walk_ended : shown i v ≡ ended → Wrote l at whole m p
  walk_ended g = left_none f.left (no_text (λ at. shown at (read at)) (n - k) i (rw (← e, d) g))

-- there is no further element for one of two reasons
pub walk_either : {l : List ℕ} {at : ℕ} {whole m : List ℕ} {p : ℕ} {A : Type 0} {shown : ℕ → A → Element} {read : ℕ → A} {n k i : ℕ}
    → Walk l at whole m p shown read n k i → (r u v : A) → r ≡ read i → (r ≡ u) ⊎ (r ≡ v) → shown i u ≡ ended → shown i v ≡ ended
    → Wrote l at whole m p
walk_either f r u v e d g h = ⊎_elim (λ b. walk_ended f r u e b g) (λ b. walk_ended f r v e b h) d

pub walk_end : {l : List ℕ} {at : ℕ} {whole m : List ℕ} {p : ℕ} {A : Type 0} {shown : ℕ → A → Element} {read : ℕ → A} {n k i : ℕ}
    → Walk l at whole m p shown read n k i → n ≤ k → Wrote l at whole m p
unfolding texts
walk_end {shown} {read} {n} {k} {i} f h = let e : n - k ≡ 0 = omega arith in left_none f.left (ap (λ (j : ℕ). texts (λ at. shown at (read at)) j i) e)

-- behind this one there is none
pub walk_last : {l : List ℕ} {at : ℕ} {whole m : List ℕ} {p : ℕ} {A : Type 0} {shown : ℕ → A → Element} {read : ℕ → A} {n k i : ℕ}
    → Walk l at whole m p shown read n k i → (r v : A) → r ≡ read i → r ≡ v → {text m' : List ℕ} {next q : ℕ} → k < n → shown i v ≡ element text next
    → Wrote m p text m' q → shown next (read next) ≡ ended → Wrote l at whole m' q
walk_last f r v e d h g w z = walk_ended (walk_turn f r v e d h g w) _ _ refl refl z
