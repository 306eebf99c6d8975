-- A table of worked cases: what is asked, and what is to be said.
use Rattle.std.specs.Prelude.{◌≡◌, List, map}

pub record Case (A B : Type 0) : Type 0 where
  pub ask : A
  pub says : B

infix 10 ◌⇒◌
abbrev pub ◌⇒◌ : {A B : Type 0} → A → B → Case A B
a ⇒ b = record { ask = a; says = b }

-- every case is told as it says
abbrev pub Holds : {A B : Type 0} → (A → B) → List (Case A B) → Type 0
Holds told cases = map (λ c. told c.ask) cases ≡ map (λ c. c.says) cases
