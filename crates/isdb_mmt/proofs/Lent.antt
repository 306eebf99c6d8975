-- The laws of lent memory: what is read after a write there and elsewhere; fields stored one by one are the bytes that a sender
-- would write; places of one size. Assumes nothing.
use Rattle.std.proofs.Common.{◌≡◌, ℕ, zero, suc, ◌+◌, ◌-◌, ◌*◌, ◌/◌, ◌%◌, ◌<◌, ◌≤◌, min, ◌⊎◌, List, [], ◌∷◌, ◌++◌, map, length, get_or, take, drop, set, sym, refl, ap, ◌∙◌, inl, inr, ⊎_elim, append_assoc, append-nil, not-suc-le-zero, add-zero, mul-zero, arith, length-append, length-drop, take-append-drop, length-take, length-take-le, get_or-drop, get_or-take, take-take, drop-drop, take_at, get_or-append-add, ext_get_or, drop_at}
use lib.ListN.{get_or-append}
use lib.Seq.{drop-length, take-append_seam, drop-append_seam, take-append-add, drop-append-add, drop-append-le, set_split}
use borrow.Rule.Slice.PartMut.{put_mid}
use Rattle.isdb_tlv.specs.Bytes.{be, put_be}
use Rattle.isdb_tlv.specs.Fields.{bytes_of, Field, written, puts}
use Rattle.isdb_tlv.proofs.Numbers.{be_ext, be_drop, be_take, length_put_be}
use Rattle.isdb_tlv.proofs.Fields.{length_bytes_of, length_written, size}
use Rattle.isdb_mmt.specs.Memory.Lent.{part, over, places_from, names_from}

-- ---- one write

module _ (at : ℕ) (bs l : List ℕ) (h : at + length bs ≤ length l) where
  front : length (take at l) ≡ at
  front = length-take-le at l (omega arith)

  pub length_over : length (over at bs l) ≡ length l
  unfolding over
  length_over = rw (length-append, front, length-append, length-drop, length-drop) (omega arith)

  -- what was written is there
  pub part_over : part at (length bs) (over at bs l) ≡ bs
  unfolding over
  part_over =
      rw (drop_at (take at l) (bs ++ drop (length bs) (drop at l)) at front)
      (take-append_seam bs (drop (length bs) (drop at l)))

  -- the rest stays
  before : (k : ℕ) → k < at → get_or (over at bs l) k 0 ≡ get_or l k 0
  unfolding over
  before k b =
      get_or-append (take at l) (bs ++ drop (length bs) (drop at l)) 0 k (omega (arith, front)) ∙ get_or-take at l k 0 b

  behind : (j : ℕ) → get_or (over at bs l) (at + (length bs + j)) 0 ≡ get_or l (at + (length bs + j)) 0
  unfolding over
  behind j =
      ap (λ n. get_or (take at l ++ (bs ++ drop (length bs) (drop at l))) (n + (length bs + j)) 0) (sym front)
      ∙ get_or-append-add (take at l) (bs ++ drop (length bs) (drop at l)) (length bs + j) 0
      ∙ get_or-append-add bs (drop (length bs) (drop at l)) j 0
      ∙ get_or-drop (length bs) (drop at l) j 0
      ∙ get_or-drop at l (length bs + j) 0

  pub get_d_apart : (k : ℕ) → (k < at) ⊎ (at + length bs ≤ k) → get_or (over at bs l) k 0 ≡ get_or l k 0
  get_d_apart k d =
      ⊎_elim (before k)
      (λ b. let e : at + (length bs + (k - (at + length bs))) ≡ k = omega arith in rw e at (behind (k - (at + length bs))))
      d

  pub be_apart : (w k : ℕ) → (k + w ≤ at) ⊎ (at + length bs ≤ k) → be w (over at bs l) k ≡ be w l k
  be_apart w k d =
      be_ext w k (over at bs l) l
      (λ j b. get_d_apart (k + j) (⊎_elim (λ x. inl (omega arith)) (λ y. inr (omega arith)) d))

-- a part depends on its own bytes alone
pub part_ext : (at n : ℕ) (l m : List ℕ) → length l ≡ length m → ((k : ℕ) → at ≤ k → k < at + n → get_or l k 0 ≡ get_or m k 0) → part at n l ≡ part at n m
part_ext at n l m e f =
    let el : length (part at n l) ≡ min n (length l - at) = length-take n (drop at l) ∙ ap (λ k. min n k) (length-drop at l) in
    let em : length (part at n m) ≡ min n (length m - at) = length-take n (drop at m) ∙ ap (λ k. min n k) (length-drop at m) in
    ext_get_or 0 (part at n l) (part at n m) (el ∙ ap (λ k. min n (k - at)) e ∙ sym em)
    (λ i b.
    let c : i < n = omega (arith, el) in
    get_or-take n (drop at l) i 0 c ∙ get_or-drop at l i 0 ∙ f (at + i) (omega arith) (omega arith)
    ∙ sym (get_or-take n (drop at m) i 0 c ∙ get_or-drop at m i 0))

pub part_apart : (at n b : ℕ) (bs l : List ℕ) → (at + n ≤ b) ⊎ (b + length bs ≤ at) → b + length bs ≤ length l → part at n (over b bs l) ≡ part at n l
part_apart at n b bs l d h =
    part_ext at n (over b bs l) l (length_over b bs l h)
    (λ k x y. get_d_apart b bs l h k (⊎_elim (λ p. inl (omega arith)) (λ q. inr (omega arith)) d))

-- a part of the first `k` bytes
pub part_take : (at n k : ℕ) (l : List ℕ) → at + n ≤ k → part at n (take k l) ≡ part at n l
part_take zero n k l h = take-take n k l (omega arith)
part_take (suc at) n zero l h = absurd (omega arith)
part_take (suc at) n (suc k) [] h = refl
part_take (suc at) n (suc k) (x ∷ l) h = part_take at n k l (omega arith)

-- what lies within has its length
pub length_part : (at n : ℕ) (l : List ℕ) → at + n ≤ length l → length (part at n l) ≡ n
length_part at n l h = length-take-le n (drop at l) (rw length-drop (omega arith))

-- what a call on the part from a to e leaves of the whole
pub lend_over : (a e : ℕ) (bs l : List ℕ) → length bs ≡ e - a → take a l ++ (bs ++ drop (e - a) (drop a l)) ≡ over a bs l
unfolding over
lend_over a e bs l h = rw (← h)

-- so with n bytes from a on
pub lent_at : (a n : ℕ) (bs ys l : List ℕ) → ys ≡ bs → length bs ≡ n → put_mid a (a + n - a) l ys ≡ over a bs l
lent_at a n bs ys l e h =
    let d : length ys ≡ a + n - a = omega (arith, ap length e) in
    lend_over a (a + n) ys l d ∙ ap (λ (x : List ℕ). over a x l) e

-- ---- two writes

-- one right behind the other
pub over_next : (at : ℕ) (a c l : List ℕ) → at + length a + length c ≤ length l → over (at + length a) c (over at a l) ≡ over at (a ++ c) l
unfolding over
over_next at a c l h =
    let r : List ℕ = drop (length a) (drop at l) in
    let f : length (take at l) ≡ at = length-take-le at l (omega arith) in
    let m : List ℕ = take at l ++ (a ++ r) in
    let e1 : take (at + length a) m ≡ take at l ++ a =
    ap (λ n. take (n + length a) m) (sym f) ∙ take-append-add (take at l) (a ++ r) (length a)
    ∙ ap (λ (x : List ℕ). take at l ++ x) (take-append_seam a r) in
    let e2 : drop (at + length a) m ≡ r =
    ap (λ n. drop (n + length a) m) (sym f) ∙ drop-append-add (take at l) (a ++ r) (length a) ∙ drop-append_seam a r in
    let e3 : drop (length c) r ≡ drop (length (a ++ c)) (drop at l) =
    drop-drop (length c) (length a) (drop at l) ∙ ap (λ n. drop n (drop at l)) (sym (length-append a c)) in
    rw (e1, e2, e3, append_assoc (take at l) a, append_assoc a c)

-- bytes that lie there already
same_tail : (n : ℕ) (d : List ℕ) → take n d ++ drop (length (take n d)) d ≡ d
same_tail zero d = refl
same_tail (suc n) [] = refl
same_tail (suc n) (x ∷ d) = ap (λ (r : List ℕ). x ∷ r) (same_tail n d)

pub over_same : (at n : ℕ) (l : List ℕ) → over at (part at n l) l ≡ l
unfolding over
over_same at n l = ap (λ (x : List ℕ). take at l ++ x) (same_tail n (drop at l)) ∙ take-append-drop at l

-- more behind them
pub over_grown : (at n : ℕ) (m d l : List ℕ) → m ≡ part at n l → length m ≡ n → at + n + length d ≤ length l → over at (m ++ d) l ≡ over (at + n) d l
over_grown at n m d l e h w =
    sym (over_next at m d l (omega (arith, h)))
    ∙ ap (λ (x : List ℕ). over (at + length m) d x) (ap (λ (x : List ℕ). over at x l) e ∙ over_same at n l)
    ∙ ap (λ k. over (at + k) d l) h

-- a shorter one over the start of a longer one
pub over_start : (at : ℕ) (bs cs l : List ℕ) → length bs ≤ length cs → at + length cs ≤ length l
    → over at bs (over at cs l) ≡ over at (bs ++ drop (length bs) cs) l
unfolding over
over_start at bs cs l b h =
    let r : List ℕ = drop (length cs) (drop at l) in
    let f : length (take at l) ≡ at = length-take-le at l (omega arith) in
    let e1 : take at (take at l ++ (cs ++ r)) ≡ take at l = take_at (take at l) (cs ++ r) at f in
    let e2 : drop at (take at l ++ (cs ++ r)) ≡ cs ++ r = drop_at (take at l) (cs ++ r) at f in
    let e3 : length (bs ++ drop (length bs) cs) ≡ length cs = rw (length-append, length-drop) (omega arith) in
    rw (e1, e2, e3, drop-append-le (length bs) cs r b, append_assoc bs)

pub over_none : (at : ℕ) (l : List ℕ) → over at [] l ≡ l
unfolding over
over_none at l = take-append-drop at l

pub over_whole : (bs l : List ℕ) → length bs ≡ length l → over 0 bs l ≡ bs
unfolding over
over_whole bs l e = rw (e, drop-length l) (append-nil bs)

-- ---- fields

set_over : (l : List ℕ) (i x : ℕ) → i < length l → set l i x ≡ over i (x ∷ []) l
unfolding over
set_over l i x h =
    let e : suc i ≡ i + 1 = omega arith in
    set_split l i x h ∙ ap (λ (r : List ℕ). take i l ++ x ∷ r) (ap (λ n. drop n l) e ∙ sym (drop-drop 1 i l))

-- one turn of a loop that copies: what is left to copy, `r`, begins with `p`
module _ (to : ℕ) (p r r' s s' : List ℕ) (h : to + length r ≤ length s) (er : r ≡ p ++ r') (es : s' ≡ over to p s) where
  pub copy_fits : to + length p + length r' ≤ length s'
  copy_fits = let e = ap length er ∙ length-append p r' in rw (es, length_over to p s (omega arith)) (omega arith)

  pub copy_next : over (to + length p) r' s' ≡ over to r s
  copy_next = let e = ap length er ∙ length-append p r' in rw (es, er) (over_next to p r' s (omega arith))

-- a field of no bytes
pub put_none : (at v : ℕ) (l : List ℕ) → put_be 0 at v l ≡ l
unfolding put_be
put_none at v l = refl

-- a number stored is its bytes
pub put_be_over : (w at v : ℕ) (l : List ℕ) → at + w ≤ length l → put_be w at v l ≡ over at (bytes_of w v) l
unfolding put_be bytes_of
put_be_over zero at v l h = sym (over_none at l)
put_be_over (suc w) at v l h =
    let a : List ℕ = bytes_of w (v / 256) in
    let ea : length a ≡ w = length_bytes_of w (v / 256) in
    let i : put_be w at (v / 256) l ≡ over at a l = put_be_over w at (v / 256) l (omega arith) in
    let lo : length (over at a l) ≡ length l = length_over at a l (omega arith) in
    rw i
    (set_over (over at a l) (at + w) (v % 256) (omega arith)
    ∙ ap (λ n. over (at + n) (v % 256 ∷ []) (over at a l)) (sym ea)
    ∙ over_next at a (v % 256 ∷ []) l (omega arith))

pub puts_over : (fs : List Field) (at : ℕ) (l : List ℕ) → at + size fs ≤ length l → puts at fs l ≡ over at (written fs) l
puts_over [] at l h = sym (over_none at l)
puts_over (f ∷ fs) at l h =
    let a : List ℕ = bytes_of f.width f.value in
    let ea : length a ≡ f.width = length_bytes_of f.width f.value in
    let ew : length (written fs) ≡ size fs = length_written fs in
    let p : put_be f.width at f.value l ≡ over at a l = put_be_over f.width at f.value l (omega arith) in
    let lp : length (put_be f.width at f.value l) ≡ length l = length_put_be f.width at f.value l in
    puts_over fs (at + f.width) (put_be f.width at f.value l) (omega arith)
    ∙ ap (λ (m : List ℕ). over (at + f.width) (written fs) m) p
    ∙ ap (λ n. over (at + n) (written fs) (over at a l)) (sym ea)
    ∙ over_next at a (written fs) l (omega arith)

-- fields that fill their place leave nothing of it
pub puts_whole : (fs : List Field) (l : List ℕ) → length l ≡ size fs → puts 0 fs l ≡ written fs
puts_whole fs l e = puts_over fs 0 l (omega arith) ∙ over_whole (written fs) l (length_written fs ∙ sym e)

-- ---- places

-- a place's name is the number at its start
pub name_of : (w size at : ℕ) (l : List ℕ) → w ≤ size → be w (part at size l) 0 ≡ be w l at
name_of w size at l h = be_take w size (drop at l) 0 (omega arith) ∙ be_drop w at l 0 ∙ ap (be w l) (add-zero at)

pub word_read : (p : ℕ) (l : List ℕ) (r : ℕ) → r ≡ be 4 (take (p + 4 - p) (drop p l)) 0 → r ≡ be 4 l p
word_read p l r e = let d : p + 4 - p ≡ 4 = omega arith in e ∙ rw d (name_of 4 4 p l (omega arith))

module _ (size : ℕ) where
  pub length_places : (n at : ℕ) (l : List ℕ) → length (places_from n size at l) ≡ n
  unfolding places_from
  length_places zero at l = refl
  length_places (suc n) at l = ap suc (length_places n (at + size) l)

  pub length_names : (n at : ℕ) (l : List ℕ) → length (names_from n size at l) ≡ n
  unfolding names_from
  length_names zero at l = refl
  length_names (suc n) at l = ap suc (length_names n (at + size) l)

  pub names_of : 4 ≤ size → (n at : ℕ) (l : List ℕ) → map (λ p. be 4 p 0) (places_from n size at l) ≡ names_from n size at l
  unfolding places_from names_from
  names_of h zero at l = refl
  names_of h (suc n) at l =
      let e0 = name_of 4 size at l h in
      let e1 : map (λ p. be 4 p 0) (places_from n size (at + size) l) ≡ names_from n size (at + size) l = names_of h n (at + size) l in
      λ k. e0 k ∷ e1 k

  -- the next place is behind the others
  pub places_snoc : (n at : ℕ) (l : List ℕ) → places_from (suc n) size at l ≡ places_from n size at l ++ (part (at + size * n) size l ∷ [])
  unfolding places_from
  places_snoc zero at l = rw (mul-zero size, add-zero at)
  places_snoc (suc n) at l =
      let e : at + size + size * n ≡ at + size * suc n = omega arith in
      ap (λ (r : List (List ℕ)). part at size l ∷ r)
      (places_snoc n (at + size) l ∙ ap (λ k. places_from n size (at + size) l ++ (part k size l ∷ [])) e)

  module _ (b : ℕ) (bs l : List ℕ) (h : b + length bs ≤ length l) where
    -- a write before or behind all places leaves them
    pub places_apart : (n at : ℕ) → (b + length bs ≤ at) ⊎ (at + size * n ≤ b) → places_from n size at (over b bs l) ≡ places_from n size at l
    unfolding places_from
    places_apart zero at d = refl
    places_apart (suc n) at d =
        let e : size * suc n ≡ size * n + size = omega arith in
        let e0 : part at size (over b bs l) ≡ part at size l =
        part_apart at size b bs l (⊎_elim (λ x. inr x) (λ y. inl (omega arith)) d) h in
        let e1 : places_from n size (at + size) (over b bs l) ≡ places_from n size (at + size) l =
        places_apart n (at + size) (⊎_elim (λ x. inl (omega arith)) (λ y. inr (omega arith)) d) in
        λ k. e0 k ∷ e1 k

  -- a write to one of them changes that one
  pub places_set : (bs l : List ℕ) → length bs ≡ size → (n i at : ℕ) → i < n → at + size * i + size ≤ length l
      → places_from n size at (over (at + size * i) bs l) ≡ set (places_from n size at l) i bs
  unfolding places_from
  places_set bs l e zero i at b h = absurd (not-suc-le-zero b)
  places_set bs l e (suc n) zero at b h =
      let z : at + size * 0 ≡ at = omega arith in
      let e0 : part at size (over at bs l) ≡ bs = ap (λ k. part at k (over at bs l)) (sym e) ∙ part_over at bs l (omega arith) in
      let e1 : places_from n size (at + size) (over at bs l) ≡ places_from n size (at + size) l =
      places_apart at bs l (omega arith) n (at + size) (inl (omega arith)) in
      rw z (λ k. e0 k ∷ e1 k)
  places_set bs l e (suc n) (suc i) at b h =
      let z : at + size * suc i ≡ at + size + size * i = omega arith in
      let e0 : part at size (over (at + size + size * i) bs l) ≡ part at size l =
      part_apart at size (at + size + size * i) bs l (inl (omega arith)) (omega arith) in
      let e1 : places_from n size (at + size) (over (at + size + size * i) bs l) ≡ set (places_from n size (at + size) l) i bs =
      places_set bs l e n i (at + size) (omega arith) (omega arith) in
      rw z (λ k. e0 k ∷ e1 k)
