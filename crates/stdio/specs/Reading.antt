-- A read into a window on the input.
use Rattle.std.specs.Prelude.{ℕ, ◌≤◌, max, ◌≡◌, List, length, take}

-- what a read behind the first `n` bytes of a window makes of it: `v` of `w`, which holds so many bytes then. Those in front are the ones
-- that were there; of those behind them no contract can say what they are.
pub record ReadBehind (w : List ℕ) (n : ℕ) (v : List ℕ) (holds : ℕ) : Type 0 where
  pub size : length v ≡ length w
  pub front : take n v ≡ take n w
  pub more : n ≤ holds
  pub within : holds ≤ max n (length w)
