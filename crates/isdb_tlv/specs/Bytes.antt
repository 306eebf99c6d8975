-- Numbers in bytes, the high byte first: the order of every field of the standards cited here.
use Rattle.std.specs.Prelude.{ℕ, zero, suc, ◌+◌, ◌*◌, ◌/◌, ◌%◌, ◌^◌, List, get_or, set}
use Rattle.std.specs.Int.Bits.{bit_or}

-- the number in the `w` bytes from `at`; a byte that is not there counts as 0
unfoldable pub be : ℕ → List ℕ → ℕ → ℕ
be zero s at = 0
be (suc w) s at = be w s at * 256 + get_or s (at + w) 0

-- `s` with the low `w` bytes of `v` from `at`; what would lie beyond the end is left out
unfoldable pub put_be : ℕ → ℕ → ℕ → List ℕ → List ℕ
put_be zero at v s = s
put_be (suc w) at v s = set (put_be w at (v / 256) s) (at + w) (v % 256)

-- a word with bit `i` set
unfoldable pub with_bit_of : ℕ → ℕ → ℕ
with_bit_of w i = bit_or w (2 ^ i)
