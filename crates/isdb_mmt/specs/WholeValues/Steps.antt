-- Walks by steps. A step tells what stands at a place of some bytes: the end, something that is not whole, or an element and the
-- place of the next. One walk goes over so many elements, one goes on to the end.
use Rattle.std.specs.Prelude.{◌≡◌, ℕ, Bool, true, false, List, [], ◌∷◌, length}
use Rattle.isdb_tlv.specs.Walk.{Next, stop as halt, more, run, walk}

pub data Stood (A : Type 0) : Type 0 where
  at_end : Stood A
  malformed : Stood A
  element : A → ℕ → Stood A

-- the elements before the walk stops, and whether it stops where it should
pub record Found (A : Type 0) : Type 0 where
  pub found : List A
  pub whole : Bool

abbrev pub stopped : {A : Type 0} → Bool → Found A
stopped w = record { found = []; whole = w }

abbrev pub also : {A : Type 0} → A → Found A → Found A
also x l = record { found = x ∷ l.found; whole = l.whole }

-- `n` elements from a place on
abbrev pub required : {A : Type 0} → Stood A → Next (Found A)
required at_end = halt (stopped false)
required malformed = halt (stopped false)
required (element x next) = more next (also x)

abbrev pub counted : {A : Type 0} → (ℕ → Stood A) → ℕ → ℕ → Found A
counted step n at = run (λ p. required (step p)) (λ p. stopped true) n at

-- the elements from a place on to the end of `n` bytes
abbrev pub onward : {A : Type 0} → Stood A → Next (Found A)
onward at_end = halt (stopped true)
onward malformed = halt (stopped false)
onward (element x next) = more next (also x)

unfoldable pub to_end : {A : Type 0} → (ℕ → Stood A) → ℕ → ℕ → Found A
to_end step n at = walk (λ p. onward (step p)) (stopped false) n at

-- from a place, the steps give the elements of a list one by one, and come to `stop`
pub record Given {A : Type 0} (step : ℕ → Stood A) (at : ℕ) (x : A) (Rest : ℕ → Type 0) : Type 0 where
  pub next : ℕ
  pub here : step at ≡ element x next
  pub rest : Rest next

abbrev pub Gives : {A : Type 0} → (ℕ → Stood A) → ℕ → List A → ℕ → Type 0
Gives step at [] stop = at ≡ stop
Gives step at (x ∷ l) stop = Given step at x (λ next. Gives step next l stop)

-- `n` of them
pub record Counts {A : Type 0} (step : ℕ → Stood A) (n at : ℕ) (l : List A) : Type 0 where
  pub count : length l ≡ n
  pub stop : ℕ
  pub gives : Gives step at l stop

-- all of them: `last` is what stands behind
pub record Ends {A : Type 0} (step : ℕ → Stood A) (at : ℕ) (l : List A) (last : Stood A) : Type 0 where
  pub stop : ℕ
  pub gives : Gives step at l stop
  pub ends : step stop ≡ last

-- `n` of them, and behind them the end
pub record AllOf {A : Type 0} (step : ℕ → Stood A) (n at : ℕ) (l : List A) : Type 0 where
  pub count : length l ≡ n
  pub ends : Ends step at l at_end

-- what a walk to the end comes to: the end, or something that is not whole
abbrev pub last_of : {A : Type 0} → Bool → Stood A
last_of true = at_end
last_of false = malformed
