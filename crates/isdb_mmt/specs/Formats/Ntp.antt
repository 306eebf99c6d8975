-- The seconds since the Unix epoch of an NTP timestamp of 64 bits (RFC 5905, 6: seconds since 1900 in the high 32 bits, the
-- fraction in the low 32), in f64: what the operations of IEEE 754 give in their order, and what exact means.
use Rattle.std.specs.Prelude.{◌≡◌, ℕ, ◌-◌, ◌*◌, ◌/◌, ◌%◌, ◌^◌, cond, pos, nat_lt, Float}
use Rattle.std.specs.Float.{binary64}
use Rattle.std.specs.Float.Ieee.{of_int, add, sub, div}
use Rattle.std.specs.Float.Ieee.Exact.{HasValue}

-- seconds and fraction, less the seconds from 1900 to 1970
unfoldable pub ntp_to_unix_of : ℕ → Float
ntp_to_unix_of t =
    sub binary64
    (add binary64 (of_int binary64 (pos (t / 2 ^ 32))) (div binary64 (of_int binary64 (pos (t % 2 ^ 32))) (of_int binary64 (pos (2 ^ 32)))))
    (of_int binary64 (pos 2208988800))

-- the epoch as a timestamp
abbrev pub epoch : ℕ
epoch = 2208988800 * 2 ^ 32

-- `x` is (t - epoch) / 2 ^ 32, with nothing rounded
abbrev pub Exact : ℕ → Float → Type 0
Exact t x = HasValue x (nat_lt t epoch) (cond (nat_lt t epoch) (epoch - t) (t - epoch)) (2 ^ 32)

-- the bits for every timestamp, and exactness where the low 11 bits are 0
pub record Seconds (t : ℕ) (x : Float) : Type 0 where
  pub rounded : x ≡ ntp_to_unix_of t
  pub exact : t % 2048 ≡ 0 → Exact t x
