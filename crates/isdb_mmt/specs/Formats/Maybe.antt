-- Flags as numbers, and values that may be absent.
use Rattle.std.specs.Prelude.{ℕ, Bool, Option, None, Some}
use mir.Val.{bool_byte}

abbrev pub flag_of : Bool → ℕ
flag_of b = bool_byte b

-- 1 where there is a value
abbrev pub given : {A : Type 0} → Option A → ℕ
given None = 0
given (Some x) = 1
