-- A window on the input: what was read and is not used up yet.
use Rattle.std.specs.Prelude.{ℕ, ◌-◌, List, take, drop}

-- what lies from `at` to `end`, as far as the window goes
unfoldable pub left_of : List ℕ → ℕ → ℕ → List ℕ
left_of w at end = take (end - at) (drop at w)
