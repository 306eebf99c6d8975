-- Maps as lists in order of first arrival; options, and what a test counts for.
use Rattle.std.specs.Prelude.{ℕ, Bool, cond, List, [], ◌∷◌, ◌==◌, Option, None, Some}
use Rattle.isdb_mmt.specs.Formats.Maybe.{flag_of}

module _ {A : Type 0} where
  unfoldable pub find : ℕ → List (ℕ × A) → Option A
  find k [] = None
  find k (e ∷ r) = cond (k == e.0) (Some e.1) (find k r)

  unfoldable pub put : ℕ → A → List (ℕ × A) → List (ℕ × A)
  put k a [] = (k, a) ∷ []
  put k a (e ∷ r) = cond (k == e.0) ((k, a) ∷ r) (e ∷ put k a r)

  unfoldable pub or_else : A → Option A → A
  or_else d None = d
  or_else d (Some a) = a

abbrev pub one : Bool → ℕ
one b = flag_of b
