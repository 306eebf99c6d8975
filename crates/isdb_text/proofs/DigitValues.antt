-- Laws of the bytes out of hexadecimal text. Assumes nothing.
use Rattle.std.proofs.Common.{◌≡◌, ℕ, ◌/◌, ◌<◌, List, [], ◌∷◌, ◌++◌, length, get_or, refl, arith}
use Rattle.isdb_text.specs.Text.{Wrote}
use Rattle.isdb_text.specs.Digits.{value_of, byte_of, bytes_in}
use Rattle.isdb_text.proofs.Written.{Left, left_less, left_none}

pub length_bytes : (t : List ℕ) → length (bytes_in t) ≡ length t / 2
unfolding bytes_in
length_bytes [] = omega arith
length_bytes (a ∷ []) = omega arith
length_bytes (a ∷ (b ∷ t)) = omega (arith, length_bytes t)

-- two digits in front of `t`, and fewer than two
first_byte : (x s t : List ℕ) → s ≡ x ++ t → length x ≡ 2
    → bytes_in s ≡ byte_of (value_of (get_or x 0 0)) (value_of (get_or x 1 0)) ∷ bytes_in t
unfolding bytes_in
first_byte [] s t e n = absurd (omega (arith, n))
first_byte (a ∷ []) s t e n = absurd (omega (arith, n))
first_byte (a ∷ (b ∷ [])) s t e n = rw e refl
first_byte (a ∷ (b ∷ (d ∷ x))) s t e n = absurd (omega (arith, n))

no_byte : (s : List ℕ) → length s < 2 → bytes_in s ≡ []
unfolding bytes_in
no_byte [] h = refl
no_byte (a ∷ []) h = refl
no_byte (a ∷ (b ∷ s)) h = absurd (omega (arith, h))

-- a turn of the loop over pairs, and its end
module _ {l : List ℕ} {at : ℕ} {whole m : List ℕ} {p : ℕ} where
  pub pair_turn : (x s t : List ℕ) {a b c : ℕ} {n : List ℕ} {q : ℕ} → Left l at whole m p (bytes_in s) → s ≡ x ++ t → length x ≡ 2
      → a ≡ value_of (get_or x 0 0) → b ≡ value_of (get_or x 1 0) → c ≡ byte_of a b → Wrote m p (c ∷ []) n q
      → Left l at whole n q (bytes_in t)
  pair_turn x s t f e n ea eb ec w = left_less f (first_byte x s t e n) (rw (ec, ea, eb) at w)

  pub pair_end : (s : List ℕ) → Left l at whole m p (bytes_in s) → length s < 2 → Wrote l at whole m p
  pair_end s f h = left_none f (no_byte s h)
