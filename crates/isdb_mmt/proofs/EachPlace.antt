-- An iterator over places of one size gives those that `places_from` lists, so a test of each by `all` is `every`. Assumes nothing.
use Rattle.std.proofs.Common.{◌≡◌, ℕ, zero, suc, ◌+◌, ◌*◌, ◌/◌, ◌<◌, ◌≤◌, Bool, eqb, Option, List, [], ◌∷◌, ◌++◌, map, length, take, drop, sym, refl, ap, ◌∙◌, arith, drop-drop, length-append, take_at, drop_at, add-one}
use Rattle.std.proofs.Math.Nat.{add-div_left, mul-div_left, div-eq_of_lt}
use Rattle.std.proofs.lemmas.Iterator.{YieldsList, YieldsList-from_slice, YieldsList-from_map, maps}
use Rattle.std.specs.declared.iter.Map.{Map}
use Rattle.std.specs.Iterator.Adapters.{map_source, map_callee}
use Rattle.std.proofs.lemmas.Iterator.Search.{all_from_yields_List, any_from_yields_List, position_from_yields_List}
use Rattle.std.proofs.lemmas.Iterator.Adapters.{position_from-zero}
use Rattle.std.proofs.lemmas.List.Folds.{list_all-map}
use Rattle.std.specs.Iterator.{ChecksAll, ChecksAny, FindsPosition}
use Rattle.std.specs.declared.slice.Iter.{Iter}
use denote.Param.Members.{Mut, Called}
use Rattle.isdb_tlv.specs.Bytes.{be}
use Rattle.isdb_mmt.specs.Memory.Check.{counts_from}
use Rattle.std.proofs.lemmas.Iterator.Splits.{YieldsList-from_shown_while}
use Rattle.isdb_tlv.proofs.Guards.{either}
use Rattle.std.specs.Slice.Iter.{iter_rest, iter_steps, chunks_exact_rest, chunks_exact_size, chunks_exact_steps}
use Rattle.std.specs.declared.slice.ChunksExact.{ChunksExact}
use Rattle.std.specs.List.{list_all, list_any, position_from}
use denote.Ref.{Bor}
use Rattle.isdb_mmt.specs.Memory.Lent.{part, places_from, names_from, every, among, found_from}
use Rattle.isdb_mmt.proofs.Lent.{part_take, length_part, length_places, name_of, names_of}

-- places of memory without its first `k` bytes
places_drop : (n size at k : ℕ) (l : List ℕ) → places_from n size (k + at) l ≡ places_from n size at (drop k l)
unfolding places_from
places_drop zero size at k l = refl
places_drop (suc n) size at k l =
    let e0 : part (k + at) size l ≡ part at size (drop k l) = ap (take size) (sym (drop-drop at k l)) in
    let d : k + at + size ≡ k + (at + size) = omega arith in
    let e1 : places_from n size (k + at + size) l ≡ places_from n size (at + size) (drop k l) = rw d (places_drop n size (at + size) k l) in
    λ i. e0 i ∷ e1 i

-- and of no more than its first `k` bytes
places_take : (n size at k : ℕ) (l : List ℕ) → at + n * size ≤ k → places_from n size at (take k l) ≡ places_from n size at l
unfolding places_from
places_take zero size at k l h = refl
places_take (suc n) size at k l h =
    let e0 : part at size (take k l) ≡ part at size l = part_take at size k l (omega arith) in
    let e1 = places_take n size (at + size) k l (omega arith) in
    λ i. e0 i ∷ e1 i

-- the places of memory that has no other bytes
abbrev cut : ℕ → List ℕ → List (List ℕ)
cut size l = places_from (length l / size) size 0 l

cut_next : (size : ℕ) (x r l : List ℕ) → 0 < size → l ≡ x ++ r → length x ≡ size → cut size l ≡ x ∷ cut size r
unfolding places_from
cut_next size x r l h e n =
    let d : length l / size ≡ suc (length r / size) = rw (e, length-append, n, add-div_left (length r) h) (add-one (length r / size)) in
    let z : 0 + size ≡ size + 0 = omega arith in
    rw d (rw (z, places_drop (length r / size) size 0 size l) (rw e (rw (take_at x r size n, drop_at x r size n))))

module _ (n size at : ℕ) (l : List ℕ) (h : 0 < size) (b : at + n * size ≤ length l) where
  cut_part : cut size (part at (n * size) l) ≡ places_from n size at l
  cut_part =
      let c : length (part at (n * size) l) / size ≡ n = rw (length_part at (n * size) l b, mul-div_left n h) in
      let z : at + 0 ≡ at = omega arith in
      rw c (places_take n size 0 (n * size) (drop at l) (omega arith) ∙ rw z at (sym (places_drop n size 0 at l)))

  pub gives_places : {s : ChunksExact ℕ} → (chunks_exact_rest s ≡ part at (n * size) l) × (chunks_exact_size s ≡ size)
      → YieldsList (chunks_exact_steps {A = ℕ}) (λ (x : Bor (List ℕ)). x.now) s (places_from n size at l)
  gives_places {s} e =
      let shown : ChunksExact ℕ → List (List ℕ) = λ s. cut (chunks_exact_size s) (chunks_exact_rest s) in
      let q : shown s ≡ places_from n size at l = rw (e.0, e.1) cut_part in
      let y : YieldsList (chunks_exact_steps {A = ℕ}) (λ (x : Bor (List ℕ)). x.now) s (shown s) =
      YieldsList-from_shown_while (chunks_exact_steps {A = ℕ}) (λ (x : Bor (List ℕ)). x.now) shown (λ s. 0 < chunks_exact_size s)
      (λ s t p k. length_places (chunks_exact_size s) (length (chunks_exact_rest s) / chunks_exact_size s) 0 (chunks_exact_rest s) ∙ div-eq_of_lt k.1.0)
      (λ s x t p k. (
        rw k.0 p,
        rw k.0 (cut_next (chunks_exact_size s) x.now (chunks_exact_rest t) (chunks_exact_rest s) p k.1.0 k.1.1),
      ))
      s
      (rw e.1 h) in
      rw q at y

every_is : {A : Type 0} (f : A → Bool) (xs : List A) → list_all f xs ≡ every f xs
unfolding every
every_is f [] = refl
every_is f (x ∷ xs) = either (f x) (λ t. rw t (every_is f xs)) (λ t. rw t)

-- a test of each element of a slice
pub all_elements : {F : Type 0} {g : Mut F (Bor ℕ × Unit {0}) Bool} {s : Iter ℕ} (t : ℕ → Bool) (u : Iter ℕ) (f : F) (r : Bool) (l : List ℕ)
    → iter_rest s ≡ l → ChecksAll (iter_steps {A = ℕ}) g s f r u
    → ((x : Bor ℕ) (b : Bool) (q : F) → Called g f (x, tt) b q → (q ≡ f) × (b ≡ t x.now)) → r ≡ every t l
all_elements t u f r l e ran k = all_from_yields_List t u f r ran (YieldsList-from_slice l e) k ∙ every_is t l

-- the number in the first bytes of each place
pub counts_of : (n at : ℕ) (l : List ℕ) → map (λ p. be 8 p 0) (places_from n 8 at l) ≡ counts_from n at l
unfolding places_from counts_from
counts_of zero at l = refl
counts_of (suc n) at l = let e0 = name_of 8 8 at l (omega arith) in let e1 = counts_of n (at + 8) l in λ i. e0 i ∷ e1 i

among_is : (x : ℕ) (xs : List (List ℕ)) → list_any (λ p. eqb (be 4 p 0) x) xs ≡ among x (map (λ p. be 4 p 0) xs)
unfolding among
among_is x [] = refl
among_is x (p ∷ xs) = either (eqb (be 4 p 0) x) (λ t. rw t) (λ t. rw t (among_is x xs))

found_is : (x i : ℕ) (xs : List (List ℕ)) → position_from (λ p. eqb (be 4 p 0) x) i xs ≡ found_from i (map (λ p. be 4 p 0) xs) x
unfolding found_from
found_is x i [] = refl
found_is x i (p ∷ xs) = either (eqb (be 4 p 0) x) (λ t. rw t) (λ t. rw t (found_is x (i + 1) xs))

module _ (n size at : ℕ) (l : List ℕ) (h : 4 ≤ size) (b : at + n * size ≤ length l) {s : ChunksExact ℕ}
    (e : (chunks_exact_rest s ≡ part at (n * size) l) × (chunks_exact_size s ≡ size)) {F : Type 0} {g : Mut F (Bor (List ℕ) × Unit {0}) Bool} (u : ChunksExact ℕ) (f : F) where
  -- a test of each place
  pub all_places : {A : Type 0} (t : A → Bool) (v : List ℕ → A) (r : Bool) → ChecksAll (chunks_exact_steps {A = ℕ}) g s f r u
      → ((x : Bor (List ℕ)) (b : Bool) (q : F) → Called g f (x, tt) b q → (q ≡ f) × (b ≡ t (v x.now))) → r ≡ every t (map v (places_from n size at l))
  all_places t v r ran k =
      all_from_yields_List (λ p. t (v p)) u f r ran (gives_places n size at l (omega arith) b e) k ∙ sym (list_all-map t v (places_from n size at l)) ∙ every_is t (map v (places_from n size at l))

  module _ (x : ℕ) (k : (p : Bor (List ℕ)) (b : Bool) (q : F) → Called g f (p, tt) b q → (q ≡ f) × (b ≡ eqb (be 4 p.now 0) x)) where
    -- whether one has a name
    pub any_name : (r : Bool) → ChecksAny (chunks_exact_steps {A = ℕ}) g s f r u → r ≡ among x (names_from n size at l)
    any_name r ran =
        any_from_yields_List (λ p. eqb (be 4 p 0) x) u f r ran (gives_places n size at l (omega arith) b e) k ∙ among_is x (places_from n size at l) ∙ ap (among x) (names_of size h n at l)

    -- the first that has it
    pub first_name : (r : Option ℕ) → FindsPosition (chunks_exact_steps {A = ℕ}) g s f r u → r ≡ found_from 0 (names_from n size at l) x
    first_name r ran =
        position_from_yields_List (λ p. eqb (be 4 p 0) x) u f r ran (gives_places n size at l (omega arith) b e) k
        ∙ position_from-zero (λ p. eqb (be 4 p 0) x) (places_from n size at l)
        ∙ found_is x 0 (places_from n size at l)
        ∙ ap (λ (m : List ℕ). found_from 0 m x) (names_of size h n at l)

-- numbers at the start of each place
module _ (n size at : ℕ) (l : List ℕ) (h : 4 ≤ size) (b : at + n * size ≤ length l) {t : ChunksExact ℕ} (e : (chunks_exact_rest t ≡ part at (n * size) l) × (chunks_exact_size t ≡ size))
    {F : Type 0} {g : Mut F (Bor (List ℕ) × Unit {0}) ℕ} {s : Map (ChunksExact ℕ) F} (es : map_source s ≡ t) {f : F} (ef : map_callee s ≡ f)
    (k : (x : Bor (List ℕ)) (r : ℕ) (q : F) → Called g f (x, tt) r q → (q ≡ f) × (r ≡ be 4 x.now 0)) where
  pub gives_names : YieldsList (maps (chunks_exact_steps {A = ℕ}) g) (λ r. r) s (names_from n size at l)
  gives_names =
      let y = YieldsList-from_map {s = s} g (λ p. be 4 p 0) (gives_places n size at l (omega arith) b (let d : (chunks_exact_rest (map_source s) ≡ part at (n * size) l) × (chunks_exact_size (map_source s) ≡ size) = rw es e in d)) ef k in
      rw (names_of size h n at l) at y
