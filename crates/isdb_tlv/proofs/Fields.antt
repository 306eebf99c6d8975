-- The laws of written fields: what a sender writes is read back. Assumes nothing.
use Prim.Native.Nat.{ℕ, zero, suc, ◌+◌, ◌/◌, ◌%◌, ◌^◌, ◌≤◌, ◌<◌}
use mathlib.Core.Path.{◌≡◌, refl, sym, ◌∙◌}
use mathlib.Core.List.{List, [], ◌∷◌, ◌++◌, append_assoc}
use native.Mathlib.Nat.{pow-suc, pow-succ', div-div-eq-div-mul, div-lt_iff_lt-mul, div-add-mod', add-zero, zero-add, add-suc, add_assoc}
use native.Mathlib.Omega.{arith}
use lib.ListN.{length, get_or, length-append, get_or-append}
use lib.Seq.{get_or-append-add, get_or_at, append_snoc, set_out}
use Rattle.isdb_tlv.specs.Bytes.{be, put_be}
use Rattle.isdb_tlv.specs.Fields.{bytes_of, Field, field, written, Fit}
use Rattle.isdb_tlv.proofs.Numbers.{be_ext, put_be_mod}

-- a byte is a number of one byte
pub be_one : (s : List ℕ) (at : ℕ) → get_or s at 0 ≡ be 1 s at
unfolding be
be_one s at = rw (add-zero at) (omega arith)

-- behind other bytes, and before others
pub be_behind : (w : ℕ) (a r : List ℕ) {n : ℕ} → length a ≡ n → (at : ℕ) → be w (a ++ r) (n + at) ≡ be w r at
unfolding be
be_behind zero a r e at = refl
be_behind (suc w) a r e at = rw (be_behind w a r e at, add_assoc, ← e, get_or-append-add)

pub be_before : (w : ℕ) (a r : List ℕ) (at : ℕ) → at + w ≤ length a → be w (a ++ r) at ≡ be w a at
be_before w a r at h = be_ext w at (a ++ r) a (λ k b. get_or-append a r 0 (at + k) (omega arith))

pub length_bytes_of : (w v : ℕ) → length (bytes_of w v) ≡ w
unfolding bytes_of
length_bytes_of zero v = refl
length_bytes_of (suc w) v = rw (length-append, length_bytes_of w) (omega arith)

-- a number that was written is read
pub be_bytes_of : (w v : ℕ) (r : List ℕ) → v < 256 ^ w → be w (bytes_of w v ++ r) 0 ≡ v
unfolding be bytes_of
be_bytes_of zero v r h = omega arith
be_bytes_of (suc w) v r h =
    let q = v / 256 in
    let l = v % 256 ∷ r in
    let a : be w (bytes_of w q ++ l) 0 ≡ q = be_bytes_of w q l ((div-lt_iff_lt-mul (omega arith)).1 (rw pow-suc at h)) in
    let b : get_or (bytes_of w q ++ l) w 0 ≡ v % 256 = get_or_at (bytes_of w q) (v % 256) r 0 w (length_bytes_of w q) in
    rw (append_snoc, zero-add w, a, b) (omega (arith, div-add-mod' v 256))

-- so are its high bytes alone
pub be_high : (a b v : ℕ) (r : List ℕ) → v < 256 ^ (a + b) → be a (bytes_of (a + b) v ++ r) 0 ≡ v / 256 ^ b
unfolding bytes_of
be_high a zero v r h =
    let d : v / 256 ^ 0 ≡ v = omega arith in
    rw (add-zero a, d) (be_bytes_of a v r (rw add-zero at h))
be_high a (suc b) v r h =
    rw (add-suc a b, append_snoc, pow-succ' 256 b, ← div-div-eq-div-mul v 256 (256 ^ b))
    (be_high a b (v / 256) (v % 256 ∷ r) ((div-lt_iff_lt-mul (omega arith)).1 (rw (add-suc, pow-suc) at h)))

-- the number of bytes of some fields
abbrev pub size : List Field → ℕ
size [] = 0
size (f ∷ fs) = f.width + size fs

-- the field with index `k`; behind the last there are fields of no bytes
abbrev pub field_at : ℕ → List Field → Field
field_at k fs = get_or fs k (field 0 0)

-- where it starts
abbrev pub offset_of : ℕ → List Field → ℕ
offset_of zero fs = 0
offset_of (suc k) [] = 0
offset_of (suc k) (f ∷ fs) = f.width + offset_of k fs

pub length_written : (fs : List Field) → length (written fs) ≡ size fs
length_written [] = refl
length_written (f ∷ fs) = rw (length-append, length_bytes_of f.width, length_written fs)

-- each field is read where it stands
pub read : (fs : List Field) → Fit fs → (k : ℕ) (r : List ℕ)
    → be (field_at k fs).width (written fs ++ r) (offset_of k fs) ≡ (field_at k fs).value
unfolding be
read [] h zero r = refl
read [] h (suc k) r = refl
read (f ∷ fs) h zero r = rw append_assoc (be_bytes_of f.width f.value (written fs ++ r) h.0)
read (f ∷ fs) h (suc k) r =
    let a = bytes_of f.width f.value in
    let e = length_bytes_of f.width f.value in
    rw append_assoc (be_behind (field_at k fs).width a (written fs ++ r) e (offset_of k fs) ∙ read fs h.1 k r)

-- ---- fields that are stored

-- a number that was cut to its field
pub put_cut : (k w at v : ℕ) (l m : List ℕ) → w ≡ k → m ≡ put_be k at (v % 256 ^ k) l → m ≡ put_be w at v l
put_cut k w at v l m e d =
    d ∙ sym (rw e (put_be_mod k at v (v % 256 ^ k) l (v / 256 ^ k) (sym (div-add-mod' v (256 ^ k)))))

-- beyond the end nothing is stored
pub put_beyond : (w at v : ℕ) (l : List ℕ) → length l ≤ at → l ≡ put_be w at v l
unfolding put_be
put_beyond zero at v l h = refl
put_beyond (suc w) at v l h = rw (← put_beyond w at (v / 256) l h) (sym (set_out l (at + w) (v % 256) (omega arith)))
