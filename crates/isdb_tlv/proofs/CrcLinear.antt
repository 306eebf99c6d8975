-- The register's step is linear over xor, so a byte's work splits into what it does to an empty register and a shift.
-- Assumes nothing.
use mathlib.Core.Path.{◌≡◌, refl, sym, ap, ap₂, ◌∙◌}
use mathlib.Core.Bool.{Bool}
use mathlib.Core.List.{List, [], ◌∷◌, ◌++◌}
use Prim.Native.Nat.{ℕ, zero, suc, ◌+◌, ◌*◌, ◌/◌, ◌%◌, ◌^◌, ◌<◌}
use native.Mathlib.Nat.{add-zero}
use native.Mathlib.Numerals.{add-one}
use native.Mathlib.Omega.{arith}
use lib.Dec.{eqb, eqb→eq}
use lib.ListN.{get_or, length, drop, replicate}
use lib.Bits.{bit_xor, xor_assoc, xor_comm, xor_self, xor_zero_r, xor_lt, xor_block, xor_mod, xor_shr, xor_shifted}
use Rattle.isdb_tlv.specs.Crc.{gate, feed, feed_bits, feed_byte, crc_from, crc_of}
use Rattle.isdb_tlv.specs.Fields.{bytes_of}
use Rattle.isdb_tlv.proofs.Table.{at}
use lib.Seq.{drop-cons}

pub swap : (a b c d : ℕ) → bit_xor (bit_xor a b) (bit_xor c d) ≡ bit_xor (bit_xor a c) (bit_xor b d)
swap a b c d =
    xor_assoc a b (bit_xor c d)
    ∙ ap (bit_xor a) (sym (xor_assoc b c d) ∙ ap (λ (x : ℕ). bit_xor x d) (xor_comm b c) ∙ xor_assoc c b d)
    ∙ sym (xor_assoc a c (bit_xor b d))

gate_lt : (d : ℕ) → gate d < 2 ^ 32
gate_lt zero = omega arith
gate_lt (suc d) = omega arith

gate_linear : (d e : ℕ) → d < 2 → e < 2 → gate (bit_xor d e) ≡ bit_xor (gate d) (gate e)
gate_linear zero e hd he = refl
gate_linear (suc zero) zero hd he = refl
gate_linear (suc zero) (suc zero) hd he = refl
gate_linear (suc zero) (suc (suc e)) hd he = absurd (omega arith)
gate_linear (suc (suc d)) e hd he = absurd (omega arith)

shift_linear : (z y : ℕ) → bit_xor z y * 2 % 2 ^ 32 ≡ bit_xor (z * 2 % 2 ^ 32) (y * 2 % 2 ^ 32)
shift_linear z y =
    ap (λ (x : ℕ). x % 2 ^ 32)
    (sym (add-zero (bit_xor z y * 2)) ∙ sym (xor_block 1 z y 0 0 (omega arith) (omega arith)) ∙ ap₂ bit_xor (add-zero (z * 2)) (add-zero (y * 2)))
    ∙ xor_mod (z * 2) (y * 2) 32

pub feed_lt : (z b : ℕ) → feed z b < 2 ^ 32
unfolding feed
feed_lt z b = let d = bit_xor (z / 2 ^ 31) b in xor_lt 32 (z * 2 % 2 ^ 32) (gate d) (omega arith) (gate_lt d)

feed_linear : (z y b c : ℕ) → z < 2 ^ 32 → y < 2 ^ 32 → b < 2 → c < 2 → feed (bit_xor z y) (bit_xor b c) ≡ bit_xor (feed z b) (feed y c)
unfolding feed
feed_linear z y b c hz hy hb hc =
    ap₂ bit_xor (shift_linear z y)
    (ap gate (ap (λ (x : ℕ). bit_xor x (bit_xor b c)) (xor_shr z y 31) ∙ swap (z / 2 ^ 31) (y / 2 ^ 31) b c)
    ∙ gate_linear (bit_xor (z / 2 ^ 31) b) (bit_xor (y / 2 ^ 31) c) (xor_lt 1 (z / 2 ^ 31) b (omega arith) hb) (xor_lt 1 (y / 2 ^ 31) c (omega arith) hc))
    ∙ swap (z * 2 % 2 ^ 32) (y * 2 % 2 ^ 32) _ _

pub bits_linear : (k z y b c : ℕ) → z < 2 ^ 32 → y < 2 ^ 32 → feed_bits k (bit_xor b c) (bit_xor z y) ≡ bit_xor (feed_bits k b z) (feed_bits k c y)
bits_linear zero z y b c hz hy = refl
bits_linear (suc k) z y b c hz hy =
    ap (feed_bits k (bit_xor b c))
    (ap (feed (bit_xor z y)) (ap (λ (x : ℕ). x % 2) (xor_shr b c k) ∙ xor_mod (b / 2 ^ k) (c / 2 ^ k) 1)
    ∙ feed_linear z y (b / 2 ^ k % 2) (c / 2 ^ k % 2) hz hy (omega arith) (omega arith))
    ∙ bits_linear k (feed z (b / 2 ^ k % 2)) (feed y (c / 2 ^ k % 2)) b c (feed_lt z _) (feed_lt y _)

-- zeros going in shift a register whose high bits are zero
low : (x : ℕ) → x < 2 ^ 31 → feed x 0 ≡ x * 2
unfolding feed
low x h = let d : x / 2 ^ 31 ≡ 0 = omega arith in rw (d, xor_zero_r) (omega arith)

pub zeros : (l : ℕ) → l < 2 ^ 24 → feed_bits 8 0 l ≡ l * 256
zeros l h =
    rw (
      low l (omega arith),
      low (l * 2) (omega arith),
      low (l * 2 * 2) (omega arith),
      low (l * 2 * 2 * 2) (omega arith),
      low (l * 2 * 2 * 2 * 2) (omega arith),
      low (l * 2 * 2 * 2 * 2 * 2) (omega arith),
      low (l * 2 * 2 * 2 * 2 * 2 * 2) (omega arith),
      low (l * 2 * 2 * 2 * 2 * 2 * 2 * 2) (omega arith),
    ) (omega arith)

-- a byte leaves nothing of itself: a test that antt computes at each of the 256
gone : ℕ → ℕ → Bool
gone k x = eqb (feed_bits 8 k (k * 2 ^ 24)) 0

pub itself : (k : ℕ) → k < 256 → feed_bits 8 k (k * 2 ^ 24) ≡ 0
unfolding gone feed
itself k h = eqb→eq (feed_bits 8 k (k * 2 ^ 24)) 0 (at gone 0 (replicate 256 0) tt k h)

-- a byte meets the register's high byte, and shifts the others
module _ (h l b : ℕ) (hh : h < 256) (hl : l < 2 ^ 24) where
  split : feed_bits 8 b (h * 2 ^ 24 + l) ≡ bit_xor (feed_bits 8 h (h * 2 ^ 24)) (feed_bits 8 (bit_xor h b) l)
  split =
      ap₂ (λ (x y : ℕ). feed_bits 8 x y) (sym (sym (xor_assoc h h b) ∙ ap (λ (x : ℕ). bit_xor x b) (xor_self h))) (sym (xor_shifted h 24 l hl))
      ∙ bits_linear 8 (h * 2 ^ 24) l h (bit_xor h b) (omega arith) (omega arith)

  pub by_high_byte : feed_bits 8 b (h * 2 ^ 24 + l) ≡ bit_xor (l * 256) (feed_bits 8 (bit_xor h b) 0)
  by_high_byte =
      split ∙ ap (λ (x : ℕ). bit_xor x (feed_bits 8 (bit_xor h b) l)) (itself h hh)
      ∙ ap (λ (x : ℕ). feed_bits 8 x l) (sym (xor_zero_r (bit_xor h b)))
      ∙ bits_linear 8 0 l (bit_xor h b) 0 (omega arith) (omega arith)
      ∙ ap (bit_xor (feed_bits 8 (bit_xor h b) 0)) (zeros l hl)
      ∙ xor_comm (feed_bits 8 (bit_xor h b) 0) (l * 256)

-- a byte of the section goes in
pub crc_step : (z i : ℕ) (s : List ℕ) → i < length s → crc_from z (drop i s) ≡ crc_from (feed_byte z (get_or s i 0)) (drop (i + 1) s)
crc_step z i s h = rw (add-one, drop-cons s i 0)

-- the register holds 32 bits
pub byte_lt : (z b : ℕ) → feed_byte z b < 2 ^ 32
unfolding feed_byte
byte_lt z b = feed_lt _ _

pub crc_lt : (m : List ℕ) {z : ℕ} → z < 2 ^ 32 → crc_from z m < 2 ^ 32
crc_lt [] h = h
crc_lt (b ∷ m) {z} h = crc_lt m (byte_lt z b)

-- one list behind another
pub crc_append : (z : ℕ) (m r : List ℕ) → crc_from z (m ++ r) ≡ crc_from (crc_from z m) r
crc_append z [] r = refl
crc_append z (b ∷ m) r = crc_append (feed_byte z b) m r

-- the register's own high byte leaves nothing but a shift
own_byte : (z b : ℕ) → z < 2 ^ 32 → b ≡ z / 2 ^ 24 → feed_byte z b ≡ z * 256 % 2 ^ 32
unfolding feed_byte feed
own_byte z b hz e =
    let l = z % 2 ^ 24 in
    let whole : z ≡ b * 2 ^ 24 + l = omega arith in
    let shifted : z * 256 % 2 ^ 32 ≡ l * 256 = omega arith in
    ap (feed_bits 8 b) whole ∙ by_high_byte b l b (omega arith) (omega arith)
    ∙ ap (λ (x : ℕ). bit_xor (l * 256) (feed_bits 8 x 0)) (xor_self b) ∙ xor_zero_r (l * 256) ∙ sym shifted

-- so its four bytes leave nothing
own_bytes : (z : ℕ) → z < 2 ^ 32 → crc_from z (bytes_of 4 z) ≡ 0
unfolding bytes_of
own_bytes z h =
    let y = z * 256 % 2 ^ 32 in
    let x = y * 256 % 2 ^ 32 in
    let w = x * 256 % 2 ^ 32 in
    rw (own_byte z (z / 256 / 256 / 256 % 256) h (omega arith), own_byte y (z / 256 / 256 % 256) (omega arith) (omega arith))
    (rw (own_byte x (z / 256 % 256) (omega arith) (omega arith), own_byte w (z % 256) (omega arith) (omega arith)) (omega arith))

-- a message with its own CRC behind it has the CRC 0
pub crc_closed : (m : List ℕ) → crc_of (m ++ bytes_of 4 (crc_of m)) ≡ 0
unfolding crc_of
crc_closed m = crc_append 0xFFFF_FFFF m _ ∙ own_bytes (crc_of m) (crc_lt m (omega arith))
