-- The text of a walk: the texts of its elements, one behind the other.
use Rattle.std.specs.Prelude.{ℕ, zero, suc, List, [], ◌++◌}

-- what stands at a place: no further element, or one with its text and the place of the next
pub data Element : Type 0 where
  ended : Element
  element : List ℕ → ℕ → Element

abbrev pub then_on : (ℕ → List ℕ) → Element → List ℕ
then_on go ended = []
then_on go (element text next) = text ++ go next

-- the texts of the elements from a place on, `n` at most
unfoldable pub texts : (ℕ → Element) → ℕ → ℕ → List ℕ
texts step zero at = []
texts step (suc n) at = then_on (λ next. texts step n next) (step at)
