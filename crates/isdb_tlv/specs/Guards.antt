-- Guards, for definitions that make one test a line, in the order in which the code makes them.
use Rattle.std.specs.Prelude.{ℕ, Bool, not, ltb, leb, eqb}

infix 40 ◌<?◌
abbrev pub ◌<?◌ : ℕ → ℕ → Bool
a <? b = ltb a b

infix 40 ◌≤?◌
abbrev pub ◌≤?◌ : ℕ → ℕ → Bool
a ≤? b = leb a b

infix 40 ◌=?◌
abbrev pub ◌=?◌ : ℕ → ℕ → Bool
a =? b = eqb a b

infix 40 ◌≠?◌
abbrev pub ◌≠?◌ : ℕ → ℕ → Bool
a ≠? b = not (eqb a b)
