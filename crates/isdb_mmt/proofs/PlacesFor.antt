-- Seats as they were found, the entries of places one by one, and those of media ids. Assumes nothing.
use Rattle.std.specs.Prelude.{None, Option, Some}
use Rattle.std.proofs.Common.{◌≡◌, ℕ, zero, suc, ◌+◌, ◌*◌, ◌<◌, ◌≤◌, Bool, true, false, ltb, List, [], ◌∷◌, map, length, get_or, set, refl, ap, ◌∙◌, add-zero, mul-zero, mul-suc, arith, ltb-false, ltb-true}
use lib.ListN.{length-map}
use Rattle.isdb_tlv.specs.Bytes.{be}
use Rattle.isdb_tlv.proofs.Guards.{either}
use Rattle.isdb_mmt.specs.Decoder.Objects.{Asset}
use Rattle.isdb_mmt.specs.Decoder.Model.{Control as ControlState}
use Rattle.isdb_mmt.specs.Memory.Lent.{part, places_from, names_from, found_from, place_for_found, place_for_name, every, indexed}
use Rattle.isdb_mmt.specs.Memory.Layout.{media_places, media_size, control_places, control_size, section_places, section_size}
use Rattle.isdb_mmt.specs.Memory.Session.{Session, limits_of, used_of, media_place_of, control_place_of, section_place_of}
use Rattle.isdb_mmt.specs.Memory.Check.{media_in, controls_in, sections_in}
use Rattle.isdb_mmt.specs.Memory.View.{asset_entry, control_entry}
use Rattle.isdb_mmt.specs.declared.decoder.place.PlaceFor.TheVariants.{Own, Free, NoneFree}
use Rattle.isdb_mmt.proofs.Lent.{names_of, length_places}
use Rattle.isdb_mmt.proofs.Names.{true_not_false}
use Rattle.isdb_mmt.proofs.Views.{keys, keys_indexed, indexed_same}

-- ---- places for a name, back

pub place_for_was_old : (names : List ℕ) (limit x i : ℕ) → place_for_name names limit x ≡ Own i → found_from 0 names x ≡ Some i
unfolding place_for_name
place_for_was_old names limit x i e = go (found_from 0 names x) e
  where
    go : (f : Option ℕ) → place_for_found (length names) limit f ≡ Own i → f ≡ Some i
    go (Some j) d = cc
    go None d =
        either (ltb (length names) limit) (λ t. let z : ◌≡◌ {A = ℕ} 0 1 = cc (rw t at d) in absurd (omega arith))
        (λ t. let z : ◌≡◌ {A = ℕ} 0 1 = cc (rw t at d) in absurd (omega arith))

pub place_for_was_new : (names : List ℕ) (limit x i : ℕ) → place_for_name names limit x ≡ Free i → (found_from 0 names x ≡ None) × ((i ≡ length names) × (i < limit))
unfolding place_for_name
place_for_was_new names limit x i e = go (found_from 0 names x) e
  where
    go : (f : Option ℕ) → place_for_found (length names) limit f ≡ Free i → (f ≡ None) × ((i ≡ length names) × (i < limit))
    go (Some j) d = let z : ◌≡◌ {A = ℕ} 0 1 = cc in absurd (omega arith)
    go None d =
        either (ltb (length names) limit)
        (λ t. let q : i ≡ length names = cc (rw t at d) in (refl, (q, omega (arith, ltb-true (length names) limit t))))
        (λ t. let z : ◌≡◌ {A = ℕ} 0 1 = cc (rw t at d) in absurd (omega arith))

pub place_for_was_full : (names : List ℕ) (limit x : ℕ) → place_for_name names limit x ≡ NoneFree → (found_from 0 names x ≡ None) × (limit ≤ length names)
unfolding place_for_name
place_for_was_full names limit x e = go (found_from 0 names x) e
  where
    go : (f : Option ℕ) → place_for_found (length names) limit f ≡ NoneFree → (f ≡ None) × (limit ≤ length names)
    go (Some j) d = let z : ◌≡◌ {A = ℕ} 0 1 = cc in absurd (omega arith)
    go None d =
        either (ltb (length names) limit)
        (λ t. let z : ◌≡◌ {A = ℕ} 0 1 = cc (rw t at d) in absurd (omega arith))
        (λ t. (refl, ltb-false (length names) limit t))

-- ---- the entries of places

pub length_media : (l : List ℕ) → length (media_in l) ≡ (used_of l).media_ids
unfolding media_in
length_media l = length-map (places_from (used_of l).media_ids media_size media_places l) media_place_of ∙ length_places media_size (used_of l).media_ids media_places l

pub length_controls : (l : List ℕ) → length (controls_in l) ≡ (used_of l).control_ids
unfolding controls_in
length_controls l =
    length-map (places_from (used_of l).control_ids control_size control_places l) control_place_of ∙ length_places control_size (used_of l).control_ids control_places l

pub length_sections : (l : List ℕ) → length (sections_in l) ≡ (used_of l).sections
unfolding sections_in
length_sections l =
    length-map (places_from (used_of l).sections section_size section_places l) section_place_of ∙ length_places section_size (used_of l).sections section_places l

pub length_indexed : {A B : Type 0} (g : ℕ → A → B) (k : ℕ) (xs : List A) → length (indexed g k xs) ≡ length xs
unfolding indexed
length_indexed g k [] = refl
length_indexed g k (x ∷ xs) = ap suc (length_indexed g (k + 1) xs)

-- ---- the names in their places

pub map_names : {A : Type 0} (of : List ℕ → A) (name : A → ℕ) → ((p : List ℕ) → name (of p) ≡ be 4 p 0) → (ps : List (List ℕ))
    → map name (map of ps) ≡ map (λ p. be 4 p 0) ps
map_names of name f [] = refl
map_names of name f (p ∷ ps) = rw (f p, map_names of name f ps)

pub names_view : {A B : Type 0} (of : List ℕ → A) (name : A → ℕ) (g : ℕ → A → ℕ × B) (size at n : ℕ) (l : List ℕ) → 4 ≤ size
    → ((i : ℕ) (x : A) → (g i x).0 ≡ name x) → ((p : List ℕ) → name (of p) ≡ be 4 p 0)
    → keys (indexed g 0 (map of (places_from n size at l))) ≡ names_from n size at l
names_view of name g size at n l h f e =
    keys_indexed g name f (map of (places_from n size at l)) 0 ∙ map_names of name e (places_from n size at l) ∙ names_of size h n at l

pub media_name : (p : List ℕ) → (media_place_of p).packet_id ≡ be 4 p 0
unfolding media_place_of
media_name p = refl

pub control_name : (p : List ℕ) → (control_place_of p).packet_id ≡ be 4 p 0
unfolding control_place_of
control_name p = refl

pub section_name : (p : List ℕ) → (section_place_of p).key ≡ be 4 p 0
unfolding section_place_of
section_name p = refl

abbrev pub entries : Session → List (ℕ × Asset)
entries s = indexed (asset_entry (limits_of s.state) s) 0 (media_in s.state)

pub entry_names : (s : Session) → keys (entries s) ≡ names_from (used_of s.state).media_ids media_size media_places s.state
unfolding media_in
entry_names s =
    names_view media_place_of (λ m. m.packet_id) (asset_entry (limits_of s.state) s) media_size media_places (used_of s.state).media_ids s.state
    (omega arith) (λ i m. refl) media_name

abbrev pub control_entries : Session → List (ℕ × ControlState)
control_entries s = indexed (control_entry (limits_of s.state) s) 0 (controls_in s.state)

pub control_names_lem : (s : Session) → keys (control_entries s) ≡ names_from (used_of s.state).control_ids control_size control_places s.state
unfolding controls_in
control_names_lem s =
    names_view control_place_of (λ c. c.packet_id) (control_entry (limits_of s.state) s) control_size control_places (used_of s.state).control_ids
    s.state (omega arith) (λ i c. refl) control_name

pub every_at : {A : Type 0} (f : A → Bool) (d : A) (xs : List A) (j : ℕ) → every f xs ≡ true → j < length xs → f (get_or xs j d) ≡ true
unfolding every
every_at f d [] j e h = absurd (omega arith)
every_at f d (x ∷ xs) zero e h = either (f x) (λ t. t) (λ t. true_not_false false (rw t at e) refl)
every_at f d (x ∷ xs) (suc j) e h =
    either (f x) (λ t. every_at f d xs j (rw t at e) (omega arith)) (λ t. true_not_false false (rw t at e) refl)

pub get_d_places : {A : Type 0} (f : List ℕ → A) (size : ℕ) (d : A) (l : List ℕ) (n i at : ℕ) → i < n
    → get_or (map f (places_from n size at l)) i d ≡ f (part (at + size * i) size l)
unfolding places_from
get_d_places f size d l zero i at h = absurd (omega arith)
get_d_places f size d l (suc n) zero at h = let z : at + size * 0 ≡ at = omega (arith, mul-zero size) in rw z
get_d_places f size d l (suc n) (suc i) at h =
    let z : at + size * suc i ≡ at + size + size * i = rw mul-suc (omega arith) in
    rw z (get_d_places f size d l n i (at + size) (omega arith))

pub get_d_indexed : {A B : Type 0} (g : ℕ → A → B) (xs : List A) (k i : ℕ) (d : A) (e : B) → i < length xs → get_or (indexed g k xs) i e ≡ g (k + i) (get_or xs i d)
unfolding indexed
get_d_indexed g [] k i d e h = absurd (omega arith)
get_d_indexed g (x ∷ xs) k zero d e h = rw (add-zero k)
get_d_indexed g (x ∷ xs) k (suc i) d e h =
    let z : k + 1 + i ≡ k + suc i = omega arith in
    rw z at (get_d_indexed g xs (k + 1) i d e (omega arith))

pub set_indexed : {A B : Type 0} (g h : ℕ → A → B) (d : A) (xs : List A) (k i : ℕ) (v : B)
    → ((j : ℕ) → j < length xs → (j ≡ i → ⊥) → g (k + j) (get_or xs j d) ≡ h (k + j) (get_or xs j d))
    → set (indexed g k xs) i v ≡ set (indexed h k xs) i v
unfolding indexed
set_indexed g h d [] k i v f = refl
set_indexed {A} {B} g h d (x ∷ xs) k zero v f =
    ap (λ (r : List B). v ∷ r)
    (indexed_same g h d xs (k + 1)
    (λ j b. let e : k + suc j ≡ k + 1 + j = omega arith in rw e at (f (suc j) (omega arith) (λ z. omega arith))))
set_indexed g h d (x ∷ xs) k (suc i) v f =
    let e0 : g k x ≡ h k x = rw (add-zero k) at (f 0 (omega arith) (λ z. omega arith)) in
    let e1 : set (indexed g (k + 1) xs) i v ≡ set (indexed h (k + 1) xs) i v =
    set_indexed g h d xs (k + 1) i v
    (λ j b n. let e : k + suc j ≡ k + 1 + j = omega arith in rw e at (f (suc j) (omega arith) (λ z. n (omega arith)))) in
    cc

pub none_some : {A : Type 0} (h : A) → None ≡ Some h → ⊥
none_some h e = let z : ◌≡◌ {A = ℕ} 0 1 = cc in omega arith
