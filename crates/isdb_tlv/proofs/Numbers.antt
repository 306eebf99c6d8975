-- The laws of `be` and `put_be`, each over every width. Assumes nothing.
use Prim.Native.Nat.{ℕ, zero, suc, ◌+◌, ◌-◌, ◌*◌, ◌/◌, ◌%◌, ◌^◌, ◌≤◌, ◌<◌}
use mathlib.Core.Path.{◌≡◌, refl, sym, ap, ◌∙◌}
use mathlib.Core.List.{List, [], ◌∷◌, ◌++◌, append_assoc}
use native.Mathlib.Nat.{zero-add, pow-suc, pow-succ', pow-le-pow_right, add-suc, add-zero, add_assoc, mul_assoc, div-div-eq-div-mul, mod-eq_of_lt}
use native.Mathlib.Omega.{arith}
use lib.ListN.{get_or, set, length, length-set, take, drop, replicate}
use borrow.Rule.Slice.PartMut.{put_mid}
use lib.Seq.{drop-drop, get_or-drop, get_or-take, set_comm, set_out, paste, paste-zero, paste-suc}
use mir.Val.{Fits}
use mir.Syntax.{w8}
use Rattle.isdb_tlv.specs.Bytes.{be, put_be}

-- a number in w bytes is below 256 ^ w
pub be_lt : (s : List ℕ) → ((i : ℕ) → Fits w8 (get_or s i 0)) → (w at : ℕ) → be w s at < 256 ^ w
unfolding be
be_lt s h zero at = omega arith
be_lt s h (suc w) at = rw (pow-suc 256 w) (omega (arith, (h (at + w)).fits, be_lt s h w at))

-- one of at most eight bytes fits 64 bits
pub be_whole : (s : List ℕ) → ((i : ℕ) → Fits w8 (get_or s i 0)) → (w at : ℕ) → w ≤ 8 → be w s at % 2 ^ 64 ≡ be w s at
be_whole s h w at le =
    let b : 256 ^ w ≤ 256 ^ 8 = pow-le-pow_right (omega arith) le in
    mod-eq_of_lt (omega (arith, be_lt s h w at))

-- a number depends on its own bytes alone
pub be_ext : (w at : ℕ) (l m : List ℕ) → ((k : ℕ) → k < w → get_or l (at + k) 0 ≡ get_or m (at + k) 0) → be w l at ≡ be w m at
unfolding be
be_ext zero at l m h = refl
be_ext (suc w) at l m h =
    let e : be w l at ≡ be w m at = be_ext w at l m (λ k b. h k (omega arith)) in
    omega (arith, h w (omega arith))

-- within a part that starts at k
pub be_drop : (w k : ℕ) (l : List ℕ) (at : ℕ) → be w (drop k l) at ≡ be w l (k + at)
unfolding be
be_drop zero k l at = refl
be_drop (suc w) k l at = simp (be_drop w, get_or-drop, add_assoc)

-- within a part of n bytes
pub be_take : (w n : ℕ) (l : List ℕ) (at : ℕ) → at + w ≤ n → be w (take n l) at ≡ be w l at
be_take w n l at h = be_ext w at (take n l) l (λ k b. get_or-take n l (at + k) 0 (omega arith))

-- a number of two parts
pub be_add : (a b at : ℕ) (l : List ℕ) → be (a + b) l at ≡ be a l at * 256 ^ b + be b l (at + a)
unfolding be
be_add a zero at l = rw (add-zero a) (omega arith)
be_add a (suc b) at l =
    let e : be (a + b) l at ≡ be a l at * 256 ^ b + be b l (at + a) = be_add a b at l in
    let d : at + (a + b) ≡ at + a + b = omega arith in
    let m : be a l at * (256 ^ b * 256) ≡ be a l at * 256 ^ b * 256 = sym (mul_assoc (be a l at) (256 ^ b) 256) in
    rw (add-suc a b) (rw (pow-suc 256 b) (rw d (omega arith)))

-- two halves are read
pub get_two : (w at : ℕ) (l : List ℕ) (x y u v : ℕ) → x ≡ be w l at → u ≡ x → y ≡ be w l (at + w) → v ≡ y → u * 256 ^ w + v ≡ be (w + w) l at
get_two w at l x y u v ex eu ey ev = rw (be_add w w at l) (rw eu (rw ex (rw ev (rw ey))))

pub length_put_be : (w at v : ℕ) (l : List ℕ) → length (put_be w at v l) ≡ length l
unfolding put_be
length_put_be zero at v l = refl
length_put_be (suc w) at v l = length-set (put_be w at (v / 256) l) (at + w) (v % 256) ∙ length_put_be w at (v / 256) l

-- a byte behind a number may be stored before it
pub put_be_set : (w at v j x : ℕ) (l : List ℕ) → at + w ≤ j → set (put_be w at v l) j x ≡ put_be w at v (set l j x)
unfolding put_be
put_be_set zero at v j x l h = refl
put_be_set (suc w) at v j x l h =
    set_comm (put_be w at (v / 256) l) (at + w) j (v % 256) x (λ e. omega arith)
    ∙ ap (λ (m : List ℕ). set m (at + w) (v % 256)) (put_be_set w at (v / 256) j x l (omega arith))

-- the last byte first, then those before it
pub put_be_last : (w at v : ℕ) (l : List ℕ) → put_be (suc w) at v l ≡ put_be w at (v / 256) (set l (at + w) (v % 256))
unfolding put_be
put_be_last w at v l = put_be_set w at (v / 256) (at + w) (v % 256) l (omega arith)

pub put_be_add : (a b at v : ℕ) (l : List ℕ) → put_be (a + b) at v l ≡ put_be b (at + a) v (put_be a at (v / 256 ^ b) l)
unfolding put_be
put_be_add a zero at v l = let d : v / 256 ^ 0 ≡ v = omega arith in rw (add-zero a) (rw d)
put_be_add a (suc b) at v l =
    let e = put_be_add a b at (v / 256) l in
    let d : at + (a + b) ≡ at + a + b = omega arith in
    let q : v / 256 ^ suc b ≡ v / 256 / 256 ^ b = sym (div-div-eq-div-mul v 256 (256 ^ b) ∙ ap (λ n. v / n) (sym (pow-succ' 256 b))) in
    rw (add-suc a b) (rw d (rw q (rw e)))

-- what does not fit the field is cut off
pub put_be_mod : (w at v r : ℕ) (l : List ℕ) (q : ℕ) → v ≡ q * 256 ^ w + r → put_be w at v l ≡ put_be w at r l
unfolding put_be
put_be_mod zero at v r l q e = refl
put_be_mod (suc w) at v r l q e =
    let e1 : v ≡ (q * 256 ^ w) * 256 + r = rw mul_assoc (rw pow-suc at e) in
    let d0 : v % 256 ≡ r % 256 = omega arith in
    let d1 : v / 256 ≡ q * 256 ^ w + r / 256 = omega arith in
    rw d0 (rw (put_be_mod w at (v / 256) (r / 256) l q d1))

-- one turn of the loop that stores from the last byte on
pub put_be_next : (k at u : ℕ) (l m n : List ℕ) → 0 < k → put_be k at u l ≡ n → m ≡ set l (at + (k - 1)) (u % 256) → put_be (k - 1) at (u / 256) m ≡ n
put_be_next zero at u l m n h e d = absurd (omega arith)
put_be_next (suc k) at u l m n h e d =
    let i : suc k - 1 ≡ k = omega arith in rw (d, i) (rw (put_be_last k at u l) at e)

-- ---- a number and its bytes as an array

-- what lies from k on, and its first bytes
pub be_rest : (w k : ℕ) (l m : List ℕ) → m ≡ drop k l → be w m 0 ≡ be w l k
be_rest w k l m e = let z : k + 0 ≡ k = add-zero k in rw e (be_drop w k l 0 ∙ ap (be w l) z)

pub be_chunk : (w : ℕ) (l m : List ℕ) → m ≡ take w l → be w m 0 ≡ be w l 0
be_chunk w l m e = rw e (be_take w w l 0 (omega arith))

-- fewer bytes, and zeros behind them
zeros_at : (n i : ℕ) → ◌≡◌ {A = ℕ} (get_or (replicate n 0) i 0) 0
zeros_at zero i = refl
zeros_at (suc n) zero = refl
zeros_at (suc n) (suc i) = zeros_at n i

padded_at : (m z : List ℕ) → ((i : ℕ) → ◌≡◌ {A = ℕ} (get_or z i 0) 0) → (i : ℕ) → get_or (m ++ z) i 0 ≡ get_or m i 0
padded_at [] z h i = h i
padded_at (x ∷ m) z h zero = refl
padded_at (x ∷ m) z h (suc i) = padded_at m z h i

pub be_padded : (w j n : ℕ) (m : List ℕ) → be w (m ++ drop j (replicate n 0)) 0 ≡ be w m 0
be_padded w j n m =
    let tail : List ℕ = drop j (replicate n 0) in
    let none : (i : ℕ) → ◌≡◌ {A = ℕ} (get_or tail i 0) 0 = λ i. rw get_or-drop (zeros_at n (j + i)) in
    be_ext w 0 (m ++ tail) m (λ i h. padded_at m tail none (0 + i))

-- a run of bytes is stored
pub put_paste : (k at : ℕ) (l v : List ℕ) → ((i : ℕ) → Fits w8 (get_or v i 0)) → at + k ≤ length l → k ≤ length v
    → put_be k at (be k v 0) l ≡ paste l at v k
unfolding be put_be
put_paste zero at l v fit h n = paste-zero l at v
put_paste (suc k) at l v fit h n =
    let b : get_or v k 0 < 256 = (fit k).fits in
    let x : ℕ = be k v 0 * 256 + get_or v k 0 in
    let z : 0 + k ≡ k = zero-add k in
    let high : x / 256 ≡ be k v 0 = omega arith in
    let low : x % 256 ≡ get_or v k 0 = omega arith in
    rw (z, high, low, put_paste k at l v fit (omega arith) (omega arith)) (paste-suc l at v k 0 (omega arith) (omega arith))

pub put_part : (k at : ℕ) (l v m : List ℕ) → ((i : ℕ) → Fits w8 (get_or v i 0)) → at + k ≤ length l → k ≤ length v
    → m ≡ take k v → put_mid at k l m ≡ put_be k at (be k v 0) l
put_part k at l v m fit h n e =
    rw (e, drop-drop k at l) (sym (append_assoc (take at l) (take k v) (drop (at + k) l)) ∙ sym (put_paste k at l v fit h n))

-- beyond the end nothing is
pub put_cut_off : (j n at : ℕ) (l v : List ℕ) → ((i : ℕ) → Fits w8 (get_or v i 0)) → length l ≤ at + n
    → put_be (n + j) at (be (n + j) v 0) l ≡ put_be n at (be n v 0) l
unfolding be put_be
put_cut_off zero n at l v fit h = rw (add-zero n)
put_cut_off (suc j) n at l v fit h =
    let b : get_or v (n + j) 0 < 256 = (fit (n + j)).fits in
    let x : ℕ = be (n + j) v 0 * 256 + get_or v (n + j) 0 in
    let z : 0 + (n + j) ≡ n + j = zero-add (n + j) in
    let high : x / 256 ≡ be (n + j) v 0 = omega arith in
    rw (add-suc n j, z, high, put_cut_off j n at l v fit h)
    (set_out (put_be n at (be n v 0) l) (at + (n + j)) (x % 256) (rw length_put_be (omega arith)))
