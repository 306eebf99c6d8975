-- Operations on f64 that round nothing, over whole numbers of the unit 2 ^ -32: the seconds of a timestamp. Assumes nothing.
use Rattle.std.proofs.Common.{◌≡◌, ℕ, ◌+◌, ◌-◌, ◌*◌, ◌/◌, ◌%◌, ◌^◌, ◌<◌, ◌≤◌, Bool, true, false, cond, ltb, ℤ, pos, sym, refl, ap, ◌∙◌, subst, ap₂, lt_of_lt_of_le, mul-le-mul_right, mul_assoc, mul_comm, add-mul, lt_of_mul-lt-mul_right, mul-lt-mul_of_pos_right, mul-pos, mul-one, mul_right_comm, le_of_mul-le-mul_right, arith, lit≤, shl_lt, ltb-false, ltb-true, le-ltb, lt-ltb}
use mathlib.Core.Path.{subst⁻¹}
use native.Mathlib.Nat.{mul-sub}
use lib.Count.{count_trailing_zeros}
use lib.Ieee.{Float, nan, inf, fin, binary64, up, down, span, climb, size, odd, units, round, sum, add, sub, neg, div, of_int, of_bits, of_fields}
use lib.Ieee.Fits.{down_pos}
use lib.Ieee.Exact.{HasValue, round_exact}
use lib.Ieee.Scale.{round_same}
use lib.Ieee.Back.{round_whole}
use Rattle.isdb_mmt.specs.Formats.Ntp.{ntp_to_unix_of, epoch, Exact}

pub unit_lit : of_bits binary64 4751297606875873280 ≡ of_int binary64 (pos (2 ^ 32))
unfolding of_bits of_fields of_int round size span climb units odd count_trailing_zeros
unit_lit = refl

pub epoch_lit : of_bits binary64 4746922992901029888 ≡ of_int binary64 (pos 2208988800)
unfolding of_bits of_fields of_int round size span climb units odd count_trailing_zeros
epoch_lit = refl

unit_is : of_int binary64 (pos (2 ^ 32)) ≡ fin false 1 (pos 32)
unfolding of_int round size span climb units odd count_trailing_zeros
unit_is = refl

-- a number of units of 2 ^ -32 with at most 53 digits above the lowest eleven is held as it is
kept : (s : Bool) (num q : ℕ) → num ≡ q * 2048 → q < 2 ^ 53 → HasValue (round binary64 s num (2 ^ 32)) s num (2 ^ 32)
kept s num q e h =
    round_exact binary64 s num (2 ^ 32) q 1053 (omega arith) h (lt_of_lt_of_le (shl_lt 53 1053 h) (lit≤ tt))
    (ap (λ (k : ℕ). k * 2 ^ 1074) e ∙ mul_assoc q 2048 (2 ^ 1074) ∙ sym (mul_assoc q (2 ^ 1053) (2 ^ 32)))

-- a whole number, in units
scaled : (n : ℕ) (x : Float) → HasValue x false n 1 → HasValue x false (n * 2 ^ 32) (2 ^ 32)
scaled n nan v = v
scaled n (inf t) v = v
scaled n (fin t m e) v =
    (v.0, sym (ap (λ (k : ℕ). k * 2 ^ 32) (mul-one (m * up e))) ∙ ap (λ (k : ℕ). k * 2 ^ 32) v.1 ∙ mul_right_comm n (down e) (2 ^ 32))

whole : (n : ℕ) → n < 2 ^ 53 → HasValue (of_int binary64 (pos n)) false n 1
unfolding of_int
whole n h = round_whole binary64 false n (omega arith)

lift : (p c a e d : ℕ) → p * c ≡ a * e → p * d * c ≡ a * (e * d)
lift p c a e d h = mul_right_comm p d c ∙ ap (λ (k : ℕ). k * d) h ∙ mul_assoc a e d

sub_mul : (m n k : ℕ) → (m - n) * k ≡ m * k - n * k
sub_mul m n k = mul_comm (m - n) k ∙ mul-sub k m n ∙ ap₂ (λ (x y : ℕ). x - y) (mul_comm k m) (mul_comm k n)

-- a quotient by 2 ^ 32
quotient : (n : ℕ) (x : Float) → HasValue x false n 1 → div binary64 x (fin false 1 (pos 32)) ≡ round binary64 false n (2 ^ 32)
unfolding div
quotient n nan v = absurd v
quotient n (inf t) v = absurd v
quotient n (fin t m e) v =
    rw v.0
    (round_same binary64 false (m * up e * 1) (2 ^ 32 * down e) n (2 ^ 32) (mul-pos (omega arith) (down_pos e)) (omega arith)
    (ap (λ (k : ℕ). k * 2 ^ 32) v.1 ∙ mul_assoc n (down e) (2 ^ 32) ∙ ap (λ (k : ℕ). n * k) (mul_comm (down e) (2 ^ 32))))

-- the difference of two fractions of one unit u, and of c = 2 ^ 32
module _ (p q u a b : ℕ) (pos-u : 0 < u) (vp : p * 2 ^ 32 ≡ a * u) (vq : q * 2 ^ 32 ≡ b * u) where
  differ : cond (ltb p q) (round binary64 true (q - p) u) (round binary64 false (p - q) u)
      ≡ cond (ltb a b) (round binary64 true (b - a) (2 ^ 32)) (round binary64 false (a - b) (2 ^ 32))
  differ = go (ltb a b) refl
    where
      go : (r : Bool) → ltb a b ≡ r
          → cond (ltb p q) (round binary64 true (q - p) u) (round binary64 false (p - q) u)
          ≡ cond r (round binary64 true (b - a) (2 ^ 32)) (round binary64 false (a - b) (2 ^ 32))
      go true e =
          let h : p < q = lt_of_mul-lt-mul_right (2 ^ 32) (subst (λ (x : ℕ). x < q * 2 ^ 32) (sym vp) (subst (λ (x : ℕ). a * u < x) (sym vq) (mul-lt-mul_of_pos_right (ltb-true a b e) pos-u))) in
          rw (lt-ltb p q h)
          (round_same binary64 true (q - p) u (b - a) (2 ^ 32) pos-u (omega arith)
          (sub_mul q p (2 ^ 32) ∙ ap₂ (λ (x y : ℕ). x - y) vq vp ∙ sym (sub_mul b a u)))
      go false e =
          let h : q ≤ p = le_of_mul-le-mul_right {k = 2 ^ 32} (subst (λ (x : ℕ). q * 2 ^ 32 ≤ x) (sym vp) (subst (λ (x : ℕ). x ≤ a * u) (sym vq) (mul-le-mul_right u (ltb-false a b e)))) (omega arith) in
          rw (le-ltb p q h)
          (round_same binary64 false (p - q) u (a - b) (2 ^ 32) pos-u (omega arith)
          (sub_mul p q (2 ^ 32) ∙ ap₂ (λ (x y : ℕ). x - y) vp vq ∙ sym (sub_mul a b u)))

-- two numbers of units: both are finite, and stand over one denominator
module _ (a b : ℕ) where
  both_finite : (P : Float → Float → Type 0)
      → ((m n : ℕ) (e d : ℤ) → m * up e * down d * 2 ^ 32 ≡ a * (down e * down d) → n * up d * down e * 2 ^ 32 ≡ b * (down e * down d) → P (fin false m e) (fin false n d))
      → (x y : Float) → HasValue x false a (2 ^ 32) → HasValue y false b (2 ^ 32) → P x y
  both_finite P f nan y v w = absurd v
  both_finite P f (inf t) y v w = absurd v
  both_finite P f (fin s m e) nan v w = absurd w
  both_finite P f (fin s m e) (inf t) v w = absurd w
  both_finite P f (fin s m e) (fin t n d) v w =
      rw (v.0, w.0)
      (f m n e d (lift (m * up e) (2 ^ 32) a (down e) (down d) v.1)
      (lift (n * up d) (2 ^ 32) b (down d) (down e) w.1 ∙ ap (λ (k : ℕ). b * k) (mul_comm (down d) (down e))))

  total : (x y : Float) → HasValue x false a (2 ^ 32) → HasValue y false b (2 ^ 32) → add binary64 x y ≡ round binary64 false (a + b) (2 ^ 32)
  unfolding add sum
  total =
      both_finite (λ x y. add binary64 x y ≡ round binary64 false (a + b) (2 ^ 32)) (λ m n e d va vb.
      round_same binary64 false (m * up e * down d + n * up d * down e) (down e * down d) (a + b) (2 ^ 32) (mul-pos (down_pos e) (down_pos d)) (omega arith)
      (add-mul (m * up e * down d) (n * up d * down e) (2 ^ 32) ∙ ap₂ (λ (x y : ℕ). x + y) va vb ∙ sym (add-mul a b (down e * down d))))

  less : (x y : Float) → HasValue x false a (2 ^ 32) → HasValue y false b (2 ^ 32)
      → sub binary64 x y ≡ cond (ltb a b) (round binary64 true (b - a) (2 ^ 32)) (round binary64 false (a - b) (2 ^ 32))
  unfolding sub add neg sum
  less =
      both_finite (λ x y. sub binary64 x y ≡ cond (ltb a b) (round binary64 true (b - a) (2 ^ 32)) (round binary64 false (a - b) (2 ^ 32))) (λ m n e d va vb.
      differ (m * up e * down d) (n * up d * down e) (down e * down d) a b (mul-pos (down_pos e) (down_pos d)) va vb)

pub exact : (t : ℕ) → t < 2 ^ 64 → t % 2048 ≡ 0 → Exact t (ntp_to_unix_of t)
unfolding ntp_to_unix_of
exact t h z =
    let hi = t / 2 ^ 32 in
    let lo = t % 2 ^ 32 in
    let x = of_int binary64 (pos hi) in
    let y = div binary64 (of_int binary64 (pos lo)) (of_int binary64 (pos (2 ^ 32))) in
    let o = of_int binary64 (pos 2208988800) in
    let vx = scaled hi x (whole hi (omega arith)) in
    let ey : y ≡ round binary64 false lo (2 ^ 32) = rw unit_is (quotient lo (of_int binary64 (pos lo)) (whole lo (omega arith))) in
    let vy : HasValue y false lo (2 ^ 32) = rw ey (kept false lo (lo / 2048) (omega arith) (omega arith)) in
    let es : add binary64 x y ≡ round binary64 false t (2 ^ 32) = total (hi * 2 ^ 32) lo x y vx vy ∙ ap (λ (k : ℕ). round binary64 false k (2 ^ 32)) (omega arith) in
    let vs : HasValue (add binary64 x y) false t (2 ^ 32) = rw es (kept false t (t / 2048) (omega arith) (omega arith)) in
    let vo = scaled 2208988800 o (whole 2208988800 (omega arith)) in
    subst⁻¹ (λ (r : Float). Exact t r) (less t epoch (add binary64 x y) o vs vo) (go (ltb t epoch) refl)
  where
    go : (b : Bool) → ltb t epoch ≡ b
        → HasValue (cond b (round binary64 true (epoch - t) (2 ^ 32)) (round binary64 false (t - epoch) (2 ^ 32))) b (cond b (epoch - t) (t - epoch)) (2 ^ 32)
    go true e = let l = ltb-true t epoch e in kept true (epoch - t) ((epoch - t) / 2048) (omega arith) (omega arith)
    go false e = let l = ltb-false t epoch e in kept false (t - epoch) ((t - epoch) / 2048) (omega arith) (omega arith)
