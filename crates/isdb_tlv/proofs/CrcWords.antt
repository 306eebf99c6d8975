-- Zero bytes go into the register as a linear map, so four bytes go in at once, and eight. Assumes nothing.
use mathlib.Core.Path.{◌≡◌, refl, sym, ap, ap₂, ◌∙◌}
use Prim.Native.Nat.{ℕ, zero, suc, ◌+◌, ◌*◌, ◌/◌, ◌%◌, ◌^◌, ◌<◌, ◌≤◌}
use native.Mathlib.Nat.{add-zero, zero-add, suc-add, zero-mul, suc-mul}
use native.Mathlib.Omega.{arith}
use lib.ListN.{get_or, length, take, drop, drop_of_length-le}
use lib.Seq.{drop-drop}
use Rattle.std.proofs.lemmas.List.{take-append-drop}
use Rattle.std.specs.Prelude.{fold}
use Rattle.std.specs.Simd.{first_chunks}
use mathlib.Core.List.{List, [], ◌∷◌}
use mir.Val.{Fits}
use mir.Syntax.{w8}
use lib.Bits.{bit_xor, xor_comm, xor_self, xor_zero_r, xor_lt, xor_assoc, xor_shifted}
use Rattle.isdb_tlv.specs.Bytes.{be}
use Rattle.isdb_tlv.specs.Crc.{feed_bits, feed_byte, crc_from, zero_bytes}
use Rattle.isdb_tlv.proofs.Numbers.{be_lt}
use Rattle.isdb_tlv.proofs.CrcLinear.{itself, bits_linear, by_high_byte, byte_lt, zeros, crc_step, crc_append}

zero_lt : (m z : ℕ) → z < 2 ^ 32 → zero_bytes m z < 2 ^ 32
zero_lt zero z h = h
zero_lt (suc m) z h = byte_lt (zero_bytes m z) 0

byte_linear : (z y : ℕ) → z < 2 ^ 32 → y < 2 ^ 32 → feed_byte (bit_xor z y) 0 ≡ bit_xor (feed_byte z 0) (feed_byte y 0)
unfolding feed_byte
byte_linear z y hz hy = bits_linear 8 z y 0 0 hz hy

zero_linear : (m z y : ℕ) → z < 2 ^ 32 → y < 2 ^ 32 → zero_bytes m (bit_xor z y) ≡ bit_xor (zero_bytes m z) (zero_bytes m y)
zero_linear zero z y hz hy = refl
zero_linear (suc m) z y hz hy =
    ap (λ (x : ℕ). feed_byte x 0) (zero_linear m z y hz hy) ∙ byte_linear (zero_bytes m z) (zero_bytes m y) (zero_lt m z hz) (zero_lt m y hy)

-- one byte lower
lower : (l : ℕ) → l < 2 ^ 24 → feed_byte l 0 ≡ l * 256
unfolding feed_byte
lower l h = zeros l h

-- a byte may as well stand in the register already
inside : (z b : ℕ) → z < 2 ^ 32 → b < 256 → feed_byte z b ≡ feed_byte (bit_xor z (b * 2 ^ 24)) 0
unfolding feed_byte
inside z b hz hb =
    let y : ℕ = b * 2 ^ 24 in
    ap₂ (λ (p q : ℕ). feed_bits 8 p q) (sym (xor_zero_r b))
    (sym (xor_comm y (bit_xor z y) ∙ xor_assoc z y y ∙ ap (bit_xor z) (xor_self y) ∙ xor_zero_r z))
    ∙ bits_linear 8 y (bit_xor z y) b 0 (omega arith) (xor_lt 32 z y hz (omega arith))
    ∙ ap (λ (p : ℕ). bit_xor p (feed_bits 8 0 (bit_xor z y))) (itself b hb)

-- and in front of the zero bytes that went in before it
late : (m z b y : ℕ) → z < 2 ^ 32 → b < 256 → y < 2 ^ 32 → zero_bytes m y ≡ b * 2 ^ 24 → feed_byte (zero_bytes m z) b ≡ zero_bytes (suc m) (bit_xor z y)
late m z b y hz hb hy e =
    inside (zero_bytes m z) b (zero_lt m z hz) hb
    ∙ ap (λ (x : ℕ). feed_byte x 0) (ap (bit_xor (zero_bytes m z)) (sym e) ∙ sym (zero_linear m z y hz hy))

up2 : (l : ℕ) → l < 2 ^ 16 → zero_bytes 2 l ≡ l * 2 ^ 16
up2 l h = let e : l * 256 * 256 ≡ l * 2 ^ 16 = omega arith in ap (λ (x : ℕ). feed_byte x 0) (lower l (omega arith)) ∙ lower (l * 256) (omega arith) ∙ e

up3 : (l : ℕ) → l < 256 → zero_bytes 3 l ≡ l * 2 ^ 24
up3 l h = let e : l * 2 ^ 16 * 256 ≡ l * 2 ^ 24 = omega arith in ap (λ (x : ℕ). feed_byte x 0) (up2 l (omega arith)) ∙ lower (l * 2 ^ 16) (omega arith) ∙ e

-- bits below those of u
gather : (z h k u l t : ℕ) → u ≡ h * 2 ^ k → l < 2 ^ k → t ≡ u + l → bit_xor (bit_xor z u) l ≡ bit_xor z t
gather z h k u l t eu hl et = xor_assoc z u l ∙ ap (bit_xor z) (rw (et, eu) (xor_shifted h k l hl))

module _ (z a b c d : ℕ) (hz : z < 2 ^ 32) (ha : a < 256) (hb : b < 256) (hc : c < 256) (hd : d < 256) where
  four_bytes : feed_byte (feed_byte (feed_byte (feed_byte z a) b) c) d ≡ zero_bytes 4 (bit_xor z (((a * 256 + b) * 256 + c) * 256 + d))
  four_bytes =
      let p : ℕ = a * 2 ^ 24 in
      let q : ℕ = (a * 256 + b) * 2 ^ 16 in
      let r : ℕ = ((a * 256 + b) * 256 + c) * 256 in
      let up-b : b * 2 ^ 16 * 256 ≡ b * 2 ^ 24 = omega arith in
      let up-c : c * 256 * 2 ^ 16 ≡ c * 2 ^ 24 = omega arith in
      ap (λ (x : ℕ). feed_byte (feed_byte (feed_byte x b) c) d) (late 0 z a p hz ha (omega arith) refl)
      ∙ ap (λ (x : ℕ). feed_byte (feed_byte x c) d)
      (late 1 (bit_xor z p) b (b * 2 ^ 16) (xor_lt 32 z p hz (omega arith)) hb (omega arith) (lower (b * 2 ^ 16) (omega arith) ∙ up-b)
      ∙ ap (zero_bytes 2) (gather z a 24 p (b * 2 ^ 16) q refl (omega arith) (omega arith)))
      ∙ ap (λ (x : ℕ). feed_byte x d)
      (late 2 (bit_xor z q) c (c * 256) (xor_lt 32 z q hz (omega arith)) hc (omega arith) (up2 (c * 256) (omega arith) ∙ up-c)
      ∙ ap (zero_bytes 3) (gather z (a * 256 + b) 16 q (c * 256) r refl (omega arith) (omega arith)))
      ∙ late 3 (bit_xor z r) d d (xor_lt 32 z r hz (omega arith)) hd (omega arith) (up3 d hd)
      ∙ ap (zero_bytes 4) (gather z ((a * 256 + b) * 256 + c) 8 r d (r + d) refl (omega arith) refl)

-- a byte goes in by the table of four
module _ (z b : ℕ) (hz : z < 2 ^ 32) (hb : b < 256) where
  pub index_lt : bit_xor (z / 2 ^ 24) b < 256
  index_lt = xor_lt 8 (z / 2 ^ 24) b (omega arith) hb

  pub one_byte : bit_xor (z * 256 % 2 ^ 32) (zero_bytes 4 (bit_xor (z / 2 ^ 24) b)) ≡ feed_byte z b
  unfolding feed_byte
  one_byte =
      let l : ℕ = z % 2 ^ 24 in
      let h : ℕ = z / 2 ^ 24 in
      let n : ℕ = bit_xor h b in
      let hn : n < 256 = index_lt in
      let shifted : z * 256 % 2 ^ 32 ≡ l * 256 = omega arith in
      let whole : h * 2 ^ 24 + l ≡ z = omega arith in
      ap₂ bit_xor shifted (ap (λ (x : ℕ). feed_byte x 0) (up3 n hn) ∙ sym (inside 0 n (omega arith) hn))
      ∙ sym (by_high_byte h l b (omega arith) (omega arith)) ∙ ap (feed_bits 8 b) whole

-- zero bytes behind zero bytes
zero_behind : (j m n : ℕ) → zero_bytes (m + j) n ≡ zero_bytes m (zero_bytes j n)
zero_behind j zero n = rw (zero-add j)
zero_behind j (suc m) n = rw (suc-add m j) (ap (λ (x : ℕ). feed_byte x 0) (zero_behind j m n))

-- a register is made up of its bytes
join : (m h k u v t : ℕ) → u ≡ h * 2 ^ k → v < 2 ^ k → u + v ≡ t → t < 2 ^ 32 → bit_xor (zero_bytes m u) (zero_bytes m v) ≡ zero_bytes m t
join m h k u v t e hv es ht =
    sym (zero_linear m u v (omega arith) (omega arith)) ∙ ap (zero_bytes m) (rw e (xor_shifted h k v hv) ∙ es)

module _ (m x : ℕ) (hx : x < 2 ^ 32) where
  pub spread :
      bit_xor
      (bit_xor (zero_bytes (m + 3) (x / 2 ^ 24)) (zero_bytes (m + 2) (x / 2 ^ 16 % 256)))
      (bit_xor (zero_bytes (m + 1) (x / 2 ^ 8 % 256)) (zero_bytes m (x % 256)))
      ≡ zero_bytes m x
  spread =
      ap₂ bit_xor
      (ap₂ bit_xor
      (zero_behind 3 m (x / 2 ^ 24) ∙ ap (zero_bytes m) (up3 (x / 2 ^ 24) (omega arith)))
      (zero_behind 2 m (x / 2 ^ 16 % 256) ∙ ap (zero_bytes m) (up2 (x / 2 ^ 16 % 256) (omega arith)))
      ∙ join m (x / 2 ^ 24) 24 (x / 2 ^ 24 * 2 ^ 24) (x / 2 ^ 16 % 256 * 2 ^ 16) (x / 2 ^ 16 * 2 ^ 16) refl (omega arith) (omega arith) (omega arith))
      (ap₂ bit_xor
      (zero_behind 1 m (x / 2 ^ 8 % 256) ∙ ap (zero_bytes m) (lower (x / 2 ^ 8 % 256) (omega arith)))
      refl
      ∙ join m (x / 2 ^ 8 % 256) 8 (x / 2 ^ 8 % 256 * 256) (x % 256) (x % 2 ^ 16) refl (omega arith) (omega arith) (omega arith))
      ∙ join m (x / 2 ^ 16) 16 (x / 2 ^ 16 * 2 ^ 16) (x % 2 ^ 16) x refl (omega arith) (omega arith) (omega arith)

crc_next : (z i j : ℕ) (s : List ℕ) → j ≡ i + 1 → i < length s → crc_from z (drop i s) ≡ crc_from (feed_byte z (get_or s i 0)) (drop j s)
crc_next z i j s e h = rw e (crc_step z i s h)

module _ (s : List ℕ) (fit : (i : ℕ) → Fits w8 (get_or s i 0)) where
  four_lt : (i : ℕ) → be 4 s i < 2 ^ 32
  four_lt i = be_lt s fit 4 i

  be_four : (i : ℕ) → ((get_or s i 0 * 256 + get_or s (i + 1) 0) * 256 + get_or s (i + 2) 0) * 256 + get_or s (i + 3) 0 ≡ be 4 s i
  unfolding be
  be_four i = rw (add-zero i) (omega arith)

  crc_four : (z i : ℕ) → z < 2 ^ 32 → i + 4 ≤ length s → crc_from z (drop i s) ≡ crc_from (zero_bytes 4 (bit_xor z (be 4 s i))) (drop (i + 4) s)
  crc_four z i hz h =
      crc_next z i (i + 1) s refl (omega arith)
      ∙ crc_next _ (i + 1) (i + 2) s (omega arith) (omega arith)
      ∙ crc_next _ (i + 2) (i + 3) s (omega arith) (omega arith)
      ∙ crc_next _ (i + 3) (i + 4) s (omega arith) (omega arith)
      ∙ ap (λ (x : ℕ). crc_from x (drop (i + 4) s))
      (four_bytes z (get_or s i 0) (get_or s (i + 1) 0) (get_or s (i + 2) 0) (get_or s (i + 3) 0) hz (fit i).fits (fit (i + 1)).fits (fit (i + 2)).fits (fit (i + 3)).fits
      ∙ ap (λ (w : ℕ). zero_bytes 4 (bit_xor z w)) (be_four i))

  pub crc_eight : (z i : ℕ) → z < 2 ^ 32 → i + 8 ≤ length s → crc_from z (drop i s) ≡ crc_from (bit_xor (zero_bytes 8 (bit_xor z (be 4 s i))) (zero_bytes 4 (be 4 s (i + 4)))) (drop (i + 8) s)
  crc_eight z i hz h =
      let x : ℕ = bit_xor z (be 4 s i) in
      let hx : x < 2 ^ 32 = xor_lt 32 z (be 4 s i) hz (four_lt i) in
      let e : i + 4 + 4 ≡ i + 8 = omega arith in
      crc_four z i hz (omega arith)
      ∙ crc_four (zero_bytes 4 x) (i + 4) (zero_lt 4 x hx) (omega arith)
      ∙ ap₂ (λ (y j : ℕ). crc_from y (drop j s)) (zero_linear 4 (zero_bytes 4 x) (be 4 s (i + 4)) (zero_lt 4 x hx) (four_lt (i + 4))) e

  pub all_eight : (z x y : ℕ) → z < 2 ^ 32 → length s ≡ 8
      → x ≡ get_or s 0 0 * 16777216 + get_or s 1 0 * 65536 + get_or s 2 0 * 256 + get_or s 3 0
      → y ≡ get_or s 4 0 * 16777216 + get_or s 5 0 * 65536 + get_or s 6 0 * 256 + get_or s 7 0
      → bit_xor (zero_bytes 8 (bit_xor z x)) (zero_bytes 4 y) ≡ crc_from z s
  all_eight z x y hz n ex ey =
      let a : x ≡ be 4 s 0 = let e = be_four 0 in omega arith in
      let b : y ≡ be 4 s 4 = let e = be_four 4 in omega arith in
      rw (a, b) (sym (crc_eight z 0 hz (omega arith) ∙ ap (crc_from _) (drop_of_length-le s {i = 8} (omega arith))))

-- bytes go in one by one, or many at a time
fold_bytes : (s : List ℕ) (z : ℕ) → fold feed_byte z s ≡ crc_from z s
fold_bytes [] z = refl
fold_bytes (b ∷ s) z = fold_bytes s (feed_byte z b)

fold_chunks : (n k : ℕ) (s : List ℕ) (z : ℕ) → crc_from (fold crc_from z (first_chunks n k s)) (drop (k * n) s) ≡ crc_from z s
fold_chunks n zero s z = rw (zero-mul n)
fold_chunks n (suc k) s z =
    let e : suc k * n ≡ n + k * n = rw suc-mul (omega arith) in
    rw (e, ← drop-drop (k * n) n s) (fold_chunks n k (drop n s) (crc_from z (take n s)))
    ∙ sym (crc_append z (take n s) (drop n s)) ∙ ap (crc_from z) (take-append-drop n s)

pub chunked : (n k : ℕ) (s : List ℕ) (z : ℕ) → fold feed_byte (fold crc_from z (first_chunks n k s)) (drop (k * n) s) ≡ crc_from z s
chunked n k s z = fold_bytes (drop (k * n) s) _ ∙ fold_chunks n k s z
