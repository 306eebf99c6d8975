-- The laws of names: finding one, and that none stands twice. Assumes nothing.
use Rattle.std.specs.Prelude.{None, Option, Some}
use Rattle.std.proofs.Common.{◌≡◌, ℕ, zero, suc, ◌+◌, ◌-◌, ◌*◌, ◌/◌, ◌%◌, ◌^◌, ◌<◌, ◌≤◌, Bool, true, false, cond, T, eqb, ◌⊎◌, List, [], ◌∷◌, ◌++◌, length, get_or, set, sym, refl, ap, ◌∙◌, subst, inl, inr, ⊎_elim, zero-add, add-one, arith, length-set, get_or-set_other, get_or-set_same, le-ltb, lt-ltb, eq-eqb, ne_eqb, eqb-true}
use borrow.Author.Tests.{eqb-false}
use Rattle.isdb_tlv.specs.Bytes.{be, with_bit_of}
use Rattle.isdb_tlv.proofs.Messages.{bit_set}
use Rattle.isdb_tlv.proofs.Guards.{either, cond_same}
use Rattle.isdb_mmt.specs.Memory.Lent.{names_from, among, among_marked, distinct, cell_of, found_from, place_for_name}
use Rattle.isdb_mmt.specs.declared.decoder.place.PlaceFor.TheVariants.{Own, Free, NoneFree}
use Rattle.isdb_mmt.proofs.Lent.{length_names}

pub true_not_false : {A : Type 0} (b : Bool) → b ≡ true → b ≡ false → A
true_not_false b p q = absurd (subst T (sym p ∙ q) tt)

abbrev pub there : Option ℕ → Bool
there (Some i) = true
there None = false

abbrev pub index_in : Option ℕ → ℕ
index_in (Some i) = i
index_in None = 0

module _ (l : List ℕ) (size n i p : ℕ) where
  pub next : i < n → names_from (n - i) size p l ≡ be 4 l p ∷ names_from (n - (i + 1)) size (p + size) l
  unfolding names_from
  next h = let e : n - i ≡ suc (n - (i + 1)) = omega arith in rw e

  pub end : n ≤ i → names_from (n - i) size p l ≡ []
  unfolding names_from
  end h = let e : n - i ≡ 0 = omega arith in rw e

-- ---- where a name has its place, or takes one

module _ (l : List ℕ) (size n at limit x : ℕ) (f : Option ℕ) (ef : f ≡ found_from 0 (names_from n size at l) x) where
  pub place_for_old : (i : ℕ) → f ≡ Some i → Own i ≡ place_for_name (names_from n size at l) limit x
  unfolding place_for_name
  place_for_old i e = rw (← ef, e)

  pub place_for_new : f ≡ None → n < limit → Free n ≡ place_for_name (names_from n size at l) limit x
  unfolding place_for_name
  place_for_new e h = rw (← ef, e, length_names size n at l, lt-ltb n limit h)

  pub place_for_full : f ≡ None → limit ≤ n → NoneFree ≡ place_for_name (names_from n size at l) limit x
  unfolding place_for_name
  place_for_full e h = rw (← ef, e, length_names size n at l, le-ltb n limit h)

-- ---- no name twice

among_snoc : (x y : ℕ) (xs : List ℕ) → among x (xs ++ (y ∷ [])) ≡ true → (among x xs ≡ true) ⊎ (y ≡ x)
unfolding among
among_snoc x y [] h = either (eqb y x) (λ t. inr (eqb-true y x t)) (λ f. true_not_false false (rw f at h) refl)
among_snoc x y (z ∷ zs) h = either (eqb z x) (λ t. inl (rw t)) (λ f. rw f (among_snoc x y zs (rw f at h)))

names_snoc : (l : List ℕ) (size n at : ℕ) → names_from (suc n) size at l ≡ names_from n size at l ++ (be 4 l (at + n * size) ∷ [])
unfolding names_from
names_snoc l size zero at = let z : at + 0 * size ≡ at = omega arith in rw z
names_snoc l size (suc n) at =
    let e : at + size + n * size ≡ at + suc n * size = omega arith in
    ap (λ (r : List ℕ). be 4 l at ∷ r) (names_snoc l size n (at + size) ∙ ap (λ k. names_from n size (at + size) l ++ (be 4 l k ∷ [])) e)

names_split : (l : List ℕ) (size m i at : ℕ)
    → names_from (i + suc m) size at l ≡ names_from i size at l ++ (be 4 l (at + i * size) ∷ names_from m size (at + i * size + size) l)
unfolding names_from
names_split l size m zero at = let z : at + 0 * size ≡ at = omega arith in rw (zero-add (suc m), z)
names_split l size m (suc i) at =
    let e : at + size + i * size ≡ at + suc i * size = omega arith in
    let d : suc i + suc m ≡ suc (i + suc m) = omega arith in
    rw d
    (ap (λ (r : List ℕ). be 4 l at ∷ r)
    (names_split l size m i (at + size) ∙ ap (λ k. names_from i size (at + size) l ++ (be 4 l k ∷ names_from m size (k + size) l)) e))

among_later : (x z : ℕ) (xs ys : List ℕ) → z ≡ x → among z (xs ++ (x ∷ ys)) ≡ true
unfolding among
among_later x z [] ys e = rw (eq-eqb x z (sym e))
among_later x z (y ∷ xs) ys e = either (eqb y z) (λ t. rw t) (λ f. rw f (among_later x z xs ys e))

distinct_again : (x : ℕ) (xs ys : List ℕ) → among x xs ≡ true → distinct (xs ++ (x ∷ ys)) ≡ false
unfolding among distinct
distinct_again x [] ys a = true_not_false false a refl
distinct_again x (z ∷ xs) ys a =
    either (eqb z x) (λ t. rw (among_later x z xs ys (eqb-true z x t)))
    (λ f. rw (distinct_again x xs ys (rw f at a)) (cond_same (among z (xs ++ (x ∷ ys))) false))

distinct_snoc : (x : ℕ) (xs : List ℕ) → distinct xs ≡ true → among x xs ≡ false → distinct (xs ++ (x ∷ [])) ≡ true
unfolding among distinct
distinct_snoc x [] d a = refl
distinct_snoc x (z ∷ xs) d a =
    either (eqb z x) (λ t. true_not_false true refl (rw t at a))
    (λ f.
    either (among z xs) (λ t. true_not_false false (rw t at d) refl)
    (λ g.
    let n : among z (xs ++ (x ∷ [])) ≡ false =
    either (among z (xs ++ (x ∷ [])))
    (λ t. ⊎_elim (λ p. true_not_false (among z xs) p g) (λ q. absurd (eqb-false z x f (sym q))) (among_snoc z x xs t))
    (λ o. o) in
    rw n (distinct_snoc x xs (rw g at d) (rw f at a))))

not_one_lem : (n : ℕ) → n < 2 → (n ≡ 1 → ⊥) → n ≡ 0
not_one_lem zero h f = refl
not_one_lem (suc zero) h f = absurd (f refl)
not_one_lem (suc (suc n)) h f = absurd (omega arith)

-- the mark of a cell: a bit of one of some words
abbrev mark_in : List ℕ → ℕ → ℕ
mark_in marks c = get_or marks (c / 64) 0 / 2 ^ (c % 64) % 2

-- a mark that is set, and no other that was
module _ (marks : List ℕ) (c : ℕ) (h : c / 64 < length marks) where
  abbrev set_mark : List ℕ
  set_mark = set marks (c / 64) (with_bit_of (get_or marks (c / 64) 0) (c % 64))

  marked : (z : ℕ) → mark_in set_mark z ≡ 0 → (z ≡ c → ⊥) × (mark_in marks z ≡ 0)
  marked z e =
      either (eqb (z / 64) (c / 64))
      (λ q.
      let k : z / 64 ≡ c / 64 = eqb-true (z / 64) (c / 64) q in
      let w : ℕ = get_or marks (c / 64) 0 in
      let g : get_or set_mark (z / 64) 0 ≡ with_bit_of w (c % 64) = rw k (get_or-set_same marks (c / 64) (with_bit_of w (c % 64)) 0 h) in
      let f : with_bit_of w (c % 64) / 2 ^ (z % 64) % 2 ≡ 0 = rw g at e in
      let b : cond (eqb (z % 64) (c % 64)) true (eqb (w / 2 ^ (z % 64) % 2) 1) ≡ false =
      sym (bit_set w (c % 64) (z % 64)) ∙ rw f in
      either (eqb (z % 64) (c % 64)) (λ t. true_not_false true refl (rw t at b))
      (λ t. (
        λ y. eqb-false (z % 64) (c % 64) t (ap (λ n. n % 64) y),
        rw k (not_one_lem (w / 2 ^ (z % 64) % 2) (omega arith) (eqb-false _ _ (rw t at b))),
      )))
      (λ q.
      let o : get_or set_mark (z / 64) 0 ≡ get_or marks (z / 64) 0 =
      get_or-set_other marks (c / 64) (z / 64) (with_bit_of (get_or marks (c / 64) 0) (c % 64)) 0 (eqb-false (z / 64) (c / 64) q) in
      (λ y. eqb-false (z / 64) (c / 64) q (ap (λ n. n / 64) y), rw o at e))

-- the marks of some names, none of which stands twice: each has its cell marked
pub record Marked (cell : ℕ → ℕ) (words : ℕ) (names marks : List ℕ) : Type 0 where
  pub long : length marks ≡ words
  pub covers : (x : ℕ) → among x names ≡ true → mark_in marks (cell x) ≡ 0 → ⊥
  pub apart : distinct names ≡ true

-- the name behind `i` others
module _ (n : ℕ) (l : List ℕ) (size at i x p : ℕ) (ep : p ≡ at + i * size) (ex : x ≡ be 4 l p) where
  pub found_twice : i < n → among x (names_from i size at l) ≡ true → false ≡ distinct (names_from n size at l)
  found_twice h a =
      let en : n ≡ i + suc (n - (i + 1)) = omega arith in
      sym
      (ap (λ m. distinct (names_from m size at l)) en
      ∙ ap distinct (names_split l size (n - (i + 1)) i at)
      ∙ rw (← ep, ← ex) (distinct_again x (names_from i size at l) (names_from (n - (i + 1)) size (p + size) l) a))

  pub apart_next : among x (names_from i size at l) ≡ false → distinct (names_from i size at l) ≡ true → distinct (names_from (i + 1) size at l) ≡ true
  apart_next a d = rw (add-one i, names_snoc l size i at, ← ep, ← ex) (distinct_snoc x (names_from i size at l) d a)

module _ (cell : ℕ → ℕ) (words : ℕ) (l : List ℕ) (size n at i : ℕ) where
  pub none_marked : (marks : List ℕ) → i ≡ 0 → length marks ≡ words → Marked cell words (names_from i size at l) marks
  unfolding names_from among distinct
  none_marked marks e h = rw e (record { long = h; covers = λ x a. true_not_false false a refl; apart = refl })

  module _ (marks : List ℕ) (k : Marked cell words (names_from i size at l) marks) (x p : ℕ) (ep : p ≡ at + i * size) (ex : x ≡ be 4 l p) (c : ℕ) (ec : c ≡ cell x) (b : Bool) (eb : b ≡ among_marked (mark_in marks c) x (names_from i size at l)) where
    pub located_twice : i < n → b ≡ true → false ≡ distinct (names_from n size at l)
    located_twice h t =
        found_twice n l size at i x p ep ex h
        (either (eqb (mark_in marks c) 0) (λ z. true_not_false false (rw (eb, z) at t) refl) (λ z. rw (eb, z) at t))

    not_before : b ≡ false → among x (names_from i size at l) ≡ false
    not_before t =
        either (among x (names_from i size at l))
        (λ a. true_not_false true refl (rw (eb, ne_eqb (mark_in marks c) 0 (rw ec (k.covers x a)), a) at t))
        (λ o. o)

    pub mark_next : b ≡ false → c < words * 64 → (w : ℕ) → w ≡ with_bit_of (get_or marks (c / 64) 0) (c % 64 % 64)
        → Marked cell words (names_from (i + 1) size at l) (set marks (c / 64) w)
    mark_next t lc w ew =
        let h : c / 64 < length marks = omega (arith, k.long) in
        let r : c % 64 % 64 ≡ c % 64 = omega arith in
        let d = apart_next n l size at i x p ep ex (not_before t) k.apart in
        let s : names_from (i + 1) size at l ≡ names_from i size at l ++ (x ∷ []) = rw (add-one i, names_snoc l size i at, ← ep, ← ex) in
        rw (ew, r)
        (record {
          long = length-set marks (c / 64) (with_bit_of (get_or marks (c / 64) 0) (c % 64)) ∙ k.long;
          covers =
              λ z a e.
              let m = marked marks c h (cell z) e in
              ⊎_elim (λ y. k.covers z y m.1) (λ y. m.0 (ap cell (sym y) ∙ sym ec))
              (among_snoc z x (names_from i size at l) (rw s at a));
          apart = d;
        })

-- marks in one word
abbrev pub few_cell : ℕ → ℕ
few_cell x = cell_of x % 64

module _ (l : List ℕ) (size n at i w : ℕ) (k : Marked few_cell 1 (names_from i size at l) (w ∷ [])) (x p : ℕ) (ep : p ≡ at + i * size) (ex : x ≡ be 4 l p) (c : ℕ)
    (ec : c ≡ cell_of x) (b : Bool) (eb : b ≡ among_marked (w / 2 ^ (c % 64) % 2) x (names_from i size at l)) where
  first : c % 64 / 64 ≡ 0
  first = omega arith

  own : c % 64 % 64 ≡ c % 64
  own = omega arith

  in_word : b ≡ among_marked (mark_in (w ∷ []) (c % 64)) x (names_from i size at l)
  in_word = rw (first, own) eb

  pub few_twice : i < n → b ≡ true → false ≡ distinct (names_from n size at l)
  few_twice = located_twice few_cell 1 l size n at i (w ∷ []) k x p ep ex (c % 64) (ap (λ m. m % 64) ec) b in_word

  pub few_next : b ≡ false → (v : ℕ) → v ≡ with_bit_of w (c % 64 % 64) → Marked few_cell 1 (names_from (i + 1) size at l) (v ∷ [])
  few_next t v ev =
      rw first at
      (mark_next few_cell 1 l size n at i (w ∷ []) k x p ep ex (c % 64) (ap (λ m. m % 64) ec) b in_word t (omega arith) v (rw (first, own) ev))

-- fewer than two names
pub short_apart : (l : List ℕ) (size n at : ℕ) → n < 2 → true ≡ distinct (names_from n size at l)
unfolding names_from among distinct
short_apart l size zero at h = refl
short_apart l size (suc zero) at h = refl
short_apart l size (suc (suc n)) at h = absurd (omega arith)
