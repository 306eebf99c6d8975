-- A number that is read in a part of some bytes: it is the one at that place of the whole, and none of it is cut off. Assumes
-- nothing.
use Rattle.std.proofs.Common.{◌≡◌, ℕ, ◌+◌, ◌%◌, ◌^◌, ◌<◌, ◌≤◌, List, length, get_or, take, drop, sym, ◌∙◌, add-zero, arith, length-take, w8, w32, Fits}
use Rattle.isdb_tlv.specs.Bytes.{be}
use Rattle.isdb_tlv.proofs.Numbers.{be_lt, be_drop, be_take, be_whole}
use Rattle.isdb_tlv.proofs.Fields.{be_one}

-- in the bytes from `at` on
module _ (s : List ℕ) (at : ℕ) {b : List ℕ} (d : b ≡ drop at s) where
  pub field : (w i : ℕ) {r : ℕ} → r ≡ be w b i → r ≡ be w s (at + i)
  field w i e = e ∙ rw d (be_drop w at s i)

  pub first_field : (w : ℕ) {r : ℕ} → r ≡ be w b 0 → r ≡ be w s at
  first_field w e = rw (add-zero at) at (field w 0 e)

  pub byte_field : (i : ℕ) {r : ℕ} → r ≡ be 1 b i → r ≡ get_or s (at + i) 0
  byte_field i e = field 1 i e ∙ sym (be_one s (at + i))

  module _ (h : (i : ℕ) → Fits w8 (get_or s i 0)) (w i : ℕ) {r : ℕ} (l : w ≤ 8) (e : r ≡ be w b i % 2 ^ 64) where
    pub long_field : r ≡ be w s (at + i)
    long_field = e ∙ rw (d, be_drop w at s i) (be_whole s h w (at + i) l)

    pub long_field_lt : r < 256 ^ w
    long_field_lt = rw long_field (be_lt s h w (at + i))

  -- a number of three bytes has less than 32 bits
  pub three_fit : ((i : ℕ) → Fits w8 (get_or s i 0)) → (i : ℕ) {r : ℕ} → r ≡ be 3 b i % 2 ^ 64 → Fits w32 r
  three_fit h i e = record { fits = omega (arith, long_field_lt h 3 i (omega arith) e) }

-- in the first n bytes
pub long_within : (s : List ℕ) → ((i : ℕ) → Fits w8 (get_or s i 0)) → (n : ℕ) {b : List ℕ} → b ≡ take n s
    → (w i : ℕ) {r : ℕ} → w ≤ 8 → i + w ≤ length b → r ≡ be w b i % 2 ^ 64 → r ≡ be w b i
long_within s h n d w i l k e =
    let j : i + w ≤ length (take n s) = rw d at k in
    let m = length-take n s in
    e ∙ rw (d, be_take w n s i (omega arith)) (be_whole s h w i l)
