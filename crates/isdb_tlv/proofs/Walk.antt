-- What walks are known by. Assumes nothing.
use Rattle.std.specs.Prelude.{Option, None, Some}
use Prim.Native.Nat.{ℕ, zero, suc, ◌+◌, ◌-◌, ◌<◌}
use mathlib.Core.Path.{◌≡◌, refl, ap, ◌∙◌}
use mathlib.Core.List.{List}
use native.Mathlib.Nat.{zero-add}
use native.Mathlib.Omega.{arith}
use lib.ListN.{length}
use Rattle.isdb_tlv.specs.Walk.{Next, stop, more, turn, run, walk, also, count_of}

-- a step that stops, or goes on from a place below `n` to one ahead
abbrev pub Ahead : {R : Type 0} → ℕ → ℕ → Next R → Type 0
Ahead n at (stop r) = Unit {0}
Ahead n at (more next f) = (at < n) × (at < next)

module _ {R : Type 0} (step : ℕ → Next R) (out : R) (n : ℕ) (ahead : (at : ℕ) → Ahead n at (step at)) where
  abbrev steps : ℕ → ℕ → R
  steps = run step (λ p. out)

  -- how many steps are allowed makes no difference, once they suffice
  same_turn : (j k at : ℕ) → ((next : ℕ) → (at < n) × (at < next) → steps j next ≡ steps k next)
      → (s : Next R) → Ahead n at s → turn (steps j) s ≡ turn (steps k) s
  same_turn j k at h (stop r) a = refl
  same_turn j k at h (more next f) a = ap f (h next a)

  same : (j k at : ℕ) → n - at < j → n - at < k → steps j at ≡ steps k at
  same zero k at hj hk = absurd (omega arith)
  same (suc j) zero at hj hk = absurd (omega arith)
  same (suc j) (suc k) at hj hk =
      same_turn j k at (λ next a. same j k next (omega arith) (omega arith)) (step at) (ahead at)

  -- the equation that a walk over bytes is known by
  pub walk_at : (at : ℕ) → walk step out n at ≡ turn (walk step out n) (step at)
  walk_at at = same_turn n (suc n) at (λ next a. same n (suc n) next (omega arith) (omega arith)) (step at) (ahead at)

-- the turns of a loop that counts a walk down
module _ {R : Type 0} (step : ℕ → Next R) (out : ℕ → R) (at : ℕ) where
  pub run_stop : (n : ℕ) {r : R} → 0 < n → step at ≡ stop r → run step out n at ≡ r
  run_stop zero h e = absurd (omega arith)
  run_stop (suc n) h e = rw e

  pub run_more : (n : ℕ) {next : ℕ} {f : R → R} → 0 < n → step at ≡ more next f → run step out n at ≡ f (run step out (n - 1) next)
  run_more zero h e = absurd (omega arith)
  run_more (suc n) h e = let i : suc n - 1 ≡ n = omega arith in rw (e, i)

-- the loop that counts the items of a list which may be refused: `k` items before these
module _ {A B : Type 0} (refused : B) (count : ℕ → B) where
  abbrev pub plus : ℕ → Option (List A) → B
  plus k o = count_of refused (λ n. count (k + n)) o

  pub plus_zero : (o : Option (List A)) → plus 0 o ≡ count_of refused count o
  plus_zero None = refl
  plus_zero (Some l) = rw zero-add

  plus_also : (k : ℕ) (x : A) (o : Option (List A)) → plus (k + 1) o ≡ plus k (also x o)
  plus_also k x None = refl
  plus_also k x (Some l) = let e : k + 1 + length l ≡ k + suc (length l) = omega arith in rw e

  -- its turn: of the items `o`, the first is counted
  pub one_more : (k : ℕ) (x : A) (rest : Option (List A)) {o : Option (List A)} {r : B} → o ≡ also x rest → plus k o ≡ r
      → plus (k + 1) rest ≡ r
  one_more k x rest d e = plus_also k x rest ∙ (rw d at e)
