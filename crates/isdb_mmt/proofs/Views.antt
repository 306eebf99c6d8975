-- Places and the model's maps: a name's place is its entry, a place that is stored is an entry put, the next free place is a new
-- entry. Assumes nothing.
use Rattle.std.specs.Prelude.{None, Some}
use Rattle.std.proofs.Common.{◌≡◌, ℕ, zero, suc, ◌+◌, ◌-◌, ◌*◌, ◌<◌, ◌≤◌, true, false, eqb, ltb, List, [], ◌∷◌, ◌++◌, map, length, get_or, set, sym, refl, ap, ◌∙◌, inl, inr, add-zero, mul-le-mul_right, arith, ltb-false, ltb-true, eq-eqb, ne_eqb, eqb-true}
use lib.Arith.{lt_of_le-ne}
use borrow.Author.Tests.{eqb-false}
use Rattle.isdb_tlv.proofs.Guards.{either}
use Rattle.isdb_mmt.specs.Decoder.Maps.{find, put}
use Rattle.isdb_mmt.specs.Memory.Lent.{part, over, places_from, found_from, indexed}
use Rattle.isdb_mmt.proofs.Lent.{places_set, places_snoc, part_apart}
use Rattle.isdb_mmt.proofs.Names.{true_not_false, there, index_in}

-- ---- a map's entries by their names

module _ {A : Type 0} where
  abbrev pub keys : List (ℕ × A) → List ℕ
  keys es = map (λ (e : ℕ × A). e.0) es

  abbrev pub entry : List (ℕ × A) → ℕ → A → A
  entry es i d = (get_or es i (0, d)).1

  -- `e` is found `i` places behind the first
  pub record FoundAt (es : List (ℕ × A)) (x i : ℕ) : Type 0 where
    pub within : i < length es
    pub found : (d : A) → find x es ≡ Some (entry es i d)
    pub stored : (a : A) → put x a es ≡ set es i (x, a)

  pub found_at : (es : List (ℕ × A)) (x k j : ℕ) → found_from k (keys es) x ≡ Some j → (k ≤ j) × FoundAt es x (j - k)
  unfolding found_from find put
  found_at [] x k j e = true_not_false true refl (ap there (sym e))
  found_at (y ∷ es) x k j e =
      either (eqb y.0 x)
      (λ t.
      let n : k ≡ j = ap index_in (rw t at e) in
      let z : j - k ≡ 0 = omega arith in
      let q : eqb x y.0 ≡ true = eq-eqb x y.0 (sym (eqb-true y.0 x t)) in
      (omega arith, rw z (record { within = omega arith; found = λ d. rw q; stored = λ a. rw q })))
      (λ f.
      let r = found_at es x (k + 1) j (rw f at e) in
      let z : j - k ≡ suc (j - (k + 1)) = omega (arith, r.0) in
      let q : eqb x y.0 ≡ false = ne_eqb x y.0 (λ p. eqb-false y.0 x f (sym p)) in (
        omega (arith, r.0),
        rw z
            (record {
              within = omega (arith, r.1.within);
              found = λ d. rw q (r.1.found d);
              stored = λ a. rw q (ap (λ (m : List (ℕ × A)). y ∷ m) (r.1.stored a));
            }),
      ))

  pub absent : (es : List (ℕ × A)) (x k : ℕ) → found_from k (keys es) x ≡ None
      → (find x es ≡ None) × ((a : A) → put x a es ≡ es ++ ((x, a) ∷ []))
  unfolding found_from find put
  absent [] x k e = (refl, λ a. refl)
  absent (y ∷ es) x k e =
      either (eqb y.0 x) (λ t. true_not_false true refl (ap there (rw t at e)))
      (λ f.
      let r = absent es x (k + 1) (rw f at e) in
      let q : eqb x y.0 ≡ false = ne_eqb x y.0 (λ p. eqb-false y.0 x f (sym p)) in
      (rw q r.0, λ a. rw q (ap (λ (m : List (ℕ × A)). y ∷ m) (r.1 a))))

-- ---- places as values

module _ {A B : Type 0} (f : A → B) where
  map_set : (ps : List A) (i : ℕ) (p : A) → map f (set ps i p) ≡ set (map f ps) i (f p)
  map_set [] i p = refl
  map_set (q ∷ ps) zero p = refl
  map_set (q ∷ ps) (suc i) p = ap (λ (r : List B). f q ∷ r) (map_set ps i p)

  map_snoc : (ps : List A) (p : A) → map f (ps ++ (p ∷ [])) ≡ map f ps ++ (f p ∷ [])
  map_snoc [] p = refl
  map_snoc (q ∷ ps) p = ap (λ (r : List B). f q ∷ r) (map_snoc ps p)

module _ {B : Type 0} (f : List ℕ → B) (size at n : ℕ) (l : List ℕ) where
  -- one of the places in use is stored
  pub values_set : (bs : List ℕ) (i : ℕ) → length bs ≡ size → i < n → at + size * i + size ≤ length l
      → map f (places_from n size at (over (at + size * i) bs l)) ≡ set (map f (places_from n size at l)) i (f bs)
  values_set bs i e h k = ap (map f) (places_set size bs l e n i at h k) ∙ map_set f (places_from n size at l) i bs

  -- one more is in use
  pub values_snoc : map f (places_from (suc n) size at l) ≡ map f (places_from n size at l) ++ (f (part (at + size * n) size l) ∷ [])
  values_snoc = ap (map f) (places_snoc size n at l) ∙ map_snoc f (places_from n size at l) (part (at + size * n) size l)

-- ---- values as entries

module _ {A B : Type 0} (g : ℕ → A → B) where
  pub indexed_set : (xs : List A) (k i : ℕ) (x : A) → indexed g k (set xs i x) ≡ set (indexed g k xs) i (g (k + i) x)
  unfolding indexed
  indexed_set [] k i x = refl
  indexed_set (y ∷ xs) k zero x = rw (add-zero k)
  indexed_set (y ∷ xs) k (suc i) x =
      let e : k + 1 + i ≡ k + suc i = omega arith in
      ap (λ (r : List B). g k y ∷ r) (indexed_set xs (k + 1) i x ∙ ap (λ n. set (indexed g (k + 1) xs) i (g n x)) e)

  pub indexed_snoc : (xs : List A) (k : ℕ) (x : A) → indexed g k (xs ++ (x ∷ [])) ≡ indexed g k xs ++ (g (k + length xs) x ∷ [])
  unfolding indexed
  indexed_snoc [] k x = rw (add-zero k)
  indexed_snoc (y ∷ xs) k x =
      let e : k + 1 + length xs ≡ k + suc (length xs) = omega arith in
      ap (λ (r : List B). g k y ∷ r) (indexed_snoc xs (k + 1) x ∙ ap (λ n. indexed g (k + 1) xs ++ (g n x ∷ [])) e)

  -- what the entries are made of may change where no entry does
  pub indexed_same : (h : ℕ → A → B) (d : A) (xs : List A) (k : ℕ) → ((i : ℕ) → i < length xs → g (k + i) (get_or xs i d) ≡ h (k + i) (get_or xs i d))
      → indexed g k xs ≡ indexed h k xs
  unfolding indexed
  indexed_same h d [] k f = refl
  indexed_same h d (y ∷ xs) k f =
      let e0 : g k y ≡ h k y = rw (add-zero k) at (f 0 (omega arith)) in
      let e1 : indexed g (k + 1) xs ≡ indexed h (k + 1) xs =
      indexed_same h d xs (k + 1)
      (λ i b. let e : k + suc i ≡ k + 1 + i = omega arith in rw e at (f (suc i) (omega arith))) in
      cc

-- the names of entries are those of the places
pub keys_indexed : {A B : Type 0} (g : ℕ → A → ℕ × B) (name : A → ℕ) → ((i : ℕ) (x : A) → (g i x).0 ≡ name x) → (xs : List A) (k : ℕ)
    → keys (indexed g k xs) ≡ map name xs
unfolding indexed
keys_indexed g name f [] k = refl
keys_indexed g name f (x ∷ xs) k =
    let e0 = f k x in
    let e1 : keys (indexed g (k + 1) xs) ≡ map name xs = keys_indexed g name f xs (k + 1) in
    cc

-- ---- areas

module _ (area : ℕ) (l bs : List ℕ) (i from : ℕ) (h : from + length bs ≤ area) (w : (i + 1) * area ≤ length l) where
  within_area : i * area + from + length bs ≤ length l
  within_area = omega arith

  -- a write to one area leaves the others
  pub area_apart : (j n : ℕ) → (j ≡ i → ⊥) → n ≤ area → part (j * area) n (over (i * area + from) bs l) ≡ part (j * area) n l
  area_apart j n ne b =
      part_apart (j * area) n (i * area + from) bs l
      (either (ltb j i)
      (λ t. let k : (j + 1) * area ≤ i * area = mul-le-mul_right area (omega (arith, ltb-true j i t)) in inl (omega arith))
      (λ f.
      let q : i < j = lt_of_le-ne (ltb-false j i f) (λ e. ne (sym e)) in
      let k : (i + 1) * area ≤ j * area = mul-le-mul_right area (omega arith) in
      inr (omega arith)))
      within_area
