-- Entries that a sender writes one behind another are given by steps one by one; and what steps give up to an end is one list.
-- Assumes nothing.
use Rattle.std.proofs.Common.{◌≡◌, ℕ, ◌+◌, List, [], ◌∷◌, ◌++◌, map, length, refl, ap, ◌∙◌, ap₂, arith, length-append}
use Rattle.isdb_mmt.specs.Standards.StdB60Sections.{All}
use Rattle.isdb_mmt.specs.WholeValues.Steps.{Stood, at_end, element, Gives, Ends}
use Rattle.isdb_mmt.proofs.BytesAt.{FoundAt, located_front, located_rest}
use Rattle.isdb_mmt.specs.Standards.StdB60Descriptors.{rows_sent}

module _ {A W : Type 0} (sends : A → List ℕ) (seen : A → W) (conforms : A → Type 0) (s : List ℕ) (step : ℕ → Stood W)
    (told : (at : ℕ) (x : A) → conforms x → FoundAt s at (sends x) → step at ≡ element (seen x) (at + length (sends x))) where
  pub rows_given : (at : ℕ) (xs : List A) → All conforms xs → FoundAt s at (rows_sent sends xs)
      → Gives step at (map seen xs) (at + length (rows_sent sends xs))
  rows_given at [] c h = omega arith
  rows_given at (x ∷ xs) c h =
      let e : at + length (sends x ++ rows_sent sends xs) ≡ at + length (sends x) + length (rows_sent sends xs) =
      omega (arith, length-append (sends x) (rows_sent sends xs)) in
      record {
        next = at + length (sends x);
        here = told at x c.0 (located_front (sends x) (rows_sent sends xs) h);
        rest = rw e (rows_given (at + length (sends x)) xs c.1 (located_rest (sends x) (rows_sent sends xs) h refl));
      }

-- two lists that the same steps give up to an end
module _ {A : Type 0} (step : ℕ → Stood A) where
  given_same : (at : ℕ) (l m : List A) (p q : ℕ) → Gives step at l p → step p ≡ at_end → Gives step at m q → step q ≡ at_end → l ≡ m
  given_same at [] [] p q g e k f = refl
  given_same at [] (y ∷ m) p q g e k f = cc (ap step g ∙ e, k.here)
  given_same at (x ∷ l) [] p q g e k f = cc (ap step k ∙ f, g.here)
  given_same at (x ∷ l) (y ∷ m) p q g e k f =
      let d : k.next ≡ g.next = cc (g.here, k.here) in
      let head : x ≡ y = cc (g.here, k.here) in
      ap₂ ◌∷◌ head (given_same g.next l m p q g.rest e (rw d at k.rest) f)

  pub ends_same : {at : ℕ} {l m : List A} → Ends step at l at_end → Ends step at m at_end → l ≡ m
  ends_same {at} {l} {m} a b = given_same at l m a.stop b.stop a.gives a.ends b.gives b.ends
