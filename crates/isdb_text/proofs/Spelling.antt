-- Laws of digits. Assumes nothing.
use Rattle.std.specs.Prelude.{Option, Some, None, MatchOption, IsSomeAnd}
use Rattle.std.proofs.Common.{◌≡◌, ℕ, zero, suc, ◌+◌, ◌-◌, ◌*◌, ◌/◌, ◌%◌, ◌^◌, ◌<◌, ◌≤◌, ltb, List, [], ◌∷◌, ◌++◌, length, get_or, drop, refl, ap, ◌∙◌, pow-suc, add-one, arith, drop_of_length-le, drop-cons, ltb-false, le-ltb, lt-ltb}
use native.Mathlib.Nat.{pow-le-pow_right, div-eq_of_lt}
use Rattle.isdb_tlv.proofs.Guards.{either}
use Rattle.isdb_text.specs.Text.{Wrote, digit, decimal_in, decimal_of, hex_digit, hex_of, pairs_of}
use Rattle.isdb_text.proofs.Written.{wrote_append, Left, left_less, left_none}

-- how many steps are allowed makes no difference, once they suffice
same : (j k n : ℕ) → n ≤ j → n ≤ k → decimal_in j n ≡ decimal_in k n
same zero zero n hj hk = refl
same zero (suc k) n hj hk = rw (lt-ltb n 10 (omega arith))
same (suc j) zero n hj hk = rw (lt-ltb n 10 (omega arith))
same (suc j) (suc k) n hj hk =
    either (ltb n 10)
    (λ e. rw e)
    (λ e. let h : 10 ≤ n = ltb-false n 10 e in rw (e, same j k (n / 10) (omega arith) (omega arith)))

-- the two equations that the decimal digits are known by
pub decimal_one : (n : ℕ) → n < 10 → digit n ∷ [] ≡ decimal_of n
unfolding decimal_of
decimal_one zero h = refl
decimal_one (suc n) h = simp (lt-ltb (suc n) 10 h)

pub decimal_more : (n : ℕ) → 10 ≤ n → decimal_of (n / 10) ++ (digit (n % 10) ∷ []) ≡ decimal_of n
unfolding decimal_of
decimal_more zero h = absurd (omega arith)
decimal_more (suc n) h =
    rw (le-ltb (suc n) 10 h) (rw (same n (suc n / 10) (suc n / 10) (omega arith) (omega arith)))

pow_16 : (k : ℕ) → 16 ^ k ≡ 2 ^ (k * 4)
pow_16 zero = refl
pow_16 (suc k) =
    let e : suc k * 4 ≡ suc (suc (suc (suc (k * 4)))) = omega arith in
    rw (pow-suc, pow_16 k, e, pow-suc, pow-suc, pow-suc, pow-suc) (omega arith)

-- a digit by a shift
pub hex_shift : (n k d : ℕ) → d ≡ digit (n / 2 ^ (k * 4) % 16) → d ≡ hex_digit n k
unfolding hex_digit
hex_shift n k d e = rw (pow_16 k) e

-- a number of 64 bits has zeros in front of its 16 digits
pub hex_front : (n k : ℕ) → n < 2 ^ 64 → 16 ≤ k → 48 ≡ hex_digit n k
unfolding hex_digit
hex_front n k h g =
    let p : 16 ^ 16 ≤ 16 ^ k = pow-le-pow_right (omega arith) {i = 16} g in
    rw (div-eq_of_lt {n = n} {m = 16 ^ k} (omega arith))

module _ {l m : List ℕ} {at r : ℕ} (n x : ℕ) where
  pub wrote_one : n < 10 → x ≡ digit n → Wrote l at (x ∷ []) m r → Wrote l at (decimal_of n) m r
  wrote_one h e w = rw (← decimal_one n h, ← e) w

  pub wrote_more : {k : List ℕ} {p : ℕ} → 10 ≤ n → Wrote l at (decimal_of (n / 10)) k p → x ≡ digit (n % 10) → Wrote k p (x ∷ []) m r
      → Wrote l at (decimal_of n) m r
  wrote_more h v e w = rw (← decimal_more n h, ← e) (wrote_append v w)

pub drop_next : (s : List ℕ) (i : ℕ) → i < length s → drop i s ≡ get_or s i 0 ∷ drop (i + 1) s
drop_next s i h = rw (add-one, drop-cons s i 0)

pub drop_none : (s : List ℕ) (i : ℕ) → length s ≤ i → drop i s ≡ []
drop_none s i h = drop_of_length-le s {i = i} h

-- a turn of each loop over a text, and its end
module _ {l : List ℕ} {at : ℕ} {whole m : List ℕ} {p : ℕ} where
  pub text_turn : (s : List ℕ) (i : ℕ) {n : List ℕ} {q : ℕ} → Left l at whole m p (drop i s) → i < length s
      → Wrote m p (get_or s i 0 ∷ []) n q → Left l at whole n q (drop (i + 1) s)
  text_turn s i f h w = left_less f (drop_next s i h) w

  pub text_end : (s : List ℕ) (i : ℕ) → Left l at whole m p (drop i s) → length s ≤ i → Wrote l at whole m p
  text_end s i f h = left_none f (drop_none s i h)

  pub digits_turn : (v k : ℕ) {x : ℕ} {n : List ℕ} {q : ℕ} → Left l at whole m p (hex_of k v) → 0 < k → x ≡ hex_digit v (k - 1)
      → Wrote m p (x ∷ []) n q → Left l at whole n q (hex_of (k - 1) v)
  unfolding hex_of
  digits_turn v k {x} f h e w =
      let d : k ≡ suc (k - 1) = omega arith in
      let g : hex_of k v ≡ x ∷ hex_of (k - 1) v = ap (λ (j : ℕ). hex_of j v) d ∙ rw (← e) refl in
      left_less f g w

  pub digits_end : (v k : ℕ) → Left l at whole m p (hex_of k v) → k ≤ 0 → Wrote l at whole m p
  unfolding hex_of
  digits_end v zero f h = left_none f refl
  digits_end v (suc k) f h = absurd (omega arith)

  pub pairs_turn : (s : List ℕ) (i : ℕ) {b : ℕ} {n : List ℕ} {q : ℕ} → Left l at whole m p (pairs_of (drop i s)) → i < length s
      → b ≡ get_or s i 0 → Wrote m p (hex_of 2 b) n q → Left l at whole n q (pairs_of (drop (i + 1) s))
  unfolding pairs_of
  pairs_turn s i {b} f h e w = left_less f (rw (drop_next s i h) refl) (rw e at w)

  pub pairs_end : (s : List ℕ) (i : ℕ) → Left l at whole m p (pairs_of (drop i s)) → length s ≤ i → Wrote l at whole m p
  unfolding pairs_of
  pairs_end s i f h = left_none f (rw (drop_none s i h))

-- a number that may be absent, in a larger type
pub same_number : (n m : Option ℕ) → MatchOption n (m ≡ None) (λ x. IsSomeAnd m (λ y. y ≡ x)) → m ≡ n
same_number None m e = e
same_number (Some x) None e = absurd e
same_number (Some x) (Some y) e = ap Some e
