-- Numbers in BCD, as a TLV-NIT's descriptors have them: one of so many digits is below that power of ten. Assumes nothing.
use Rattle.std.specs.Prelude.{None, Option, Some}
use Rattle.std.proofs.Common.{◌≡◌, ℕ, zero, suc, ◌+◌, ◌-◌, ◌*◌, ◌^◌, ◌<◌, ◌≤◌, ltb, List, add-zero, add-suc, pow-suc, add-one, arith, ltb-false, le-ltb, lt-ltb}
use native.Mathlib.Nat.{pow-le-pow_right}
use Rattle.isdb_tlv.proofs.Guards.{cond_elim}
use Rattle.isdb_mmt.specs.Formats.Nit.{digit, with_digit, bcd_from}

-- a number of n digits
abbrev Below : ℕ → Option ℕ → Type 0
Below n None = Unit {0}
Below n (Some v) = v < 10 ^ n

with_below : (n d : ℕ) (m : Option ℕ) → Below n m → Below (suc n) (with_digit d m)
with_below n d None h = tt
with_below n d (Some v) h =
    cond_elim (Below (suc n)) (ltb 9 d) (λ e. tt) (λ e. let l = ltb-false 9 d e in rw (pow-suc 10 n) (omega arith))

module _ (s : List ℕ) where
  below : (n : ℕ) → Below n (bcd_from n s)
  below zero = omega arith
  below (suc n) = with_below n (digit s n) (bcd_from n s) (below n)

  -- one of at most eight digits
  pub bcd_lt : (n : ℕ) {v : ℕ} → bcd_from n s ≡ Some v → n ≤ 8 → v < 10 ^ 8
  bcd_lt n e h =
      let l = rw e at (below n) in
      let b : 10 ^ n ≤ 10 ^ 8 = pow-le-pow_right (omega arith) h in
      omega arith

  stays : (i k : ℕ) → bcd_from i s ≡ None → bcd_from (i + k) s ≡ None
  stays i zero e = rw add-zero e
  stays i (suc k) e = rw (add-suc, stays i k e)

  -- the turns of the loop over the digits
  module _ (i : ℕ) {v d : ℕ} (e : bcd_from i s ≡ Some v) (h : d ≡ digit s i) where
    pub bcd_on : d ≤ 9 → bcd_from (i + 1) s ≡ Some (v * 10 + d)
    bcd_on l = rw (add-one, e, ← h, le-ltb 9 d l)

  pub bcd_none : (n i : ℕ) {v : ℕ} → bcd_from i s ≡ Some v → i < n → 9 < digit s i → bcd_from n s ≡ None
  bcd_none n i e b l =
      let f : bcd_from (i + 1) s ≡ None = rw (add-one, e, lt-ltb 9 (digit s i) l) in
      let k : i + 1 + (n - (i + 1)) ≡ n = omega arith in
      rw k at (stays (i + 1) (n - (i + 1)) f)
