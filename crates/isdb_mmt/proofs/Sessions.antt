-- The places in use, after a write to the state: a place that is stored is that entry of the list, the next free place with one more
-- in use is a new entry, and every other write leaves the list. Assumes nothing.
use Rattle.std.proofs.Common.{◌≡◌, ℕ, suc, ◌+◌, ◌*◌, ◌<◌, ◌≤◌, ◌⊎◌, List, [], ◌∷◌, ◌++◌, map, length, set, sym, refl, ap, ◌∙◌, inl, inr, ⊎_elim, mul-le-mul_left, arith}
use Rattle.isdb_tlv.specs.Fields.{Field, written, Fit}
use Rattle.isdb_tlv.proofs.Fields.{size, length_written}
use Rattle.isdb_mmt.specs.Memory.Lent.{part, over, places_from}
use Rattle.isdb_mmt.specs.Memory.Session.{used_of, used_fields, media_place_of, media_fields, control_place_of, control_fields, section_place_of, section_fields}
use Rattle.isdb_mmt.specs.Memory.Layout.{most_media_ids, most_control_ids, most_sections, used_place, latest_place, media_size, media_places, control_size, control_places, section_size, section_places, state_size}
use Rattle.isdb_mmt.specs.Memory.Check.{media_in, controls_in, sections_in}
use Rattle.isdb_mmt.specs.declared.decoder.head.Used.{Used}
use Rattle.isdb_mmt.specs.declared.decoder.media.Media.{Media}
use Rattle.isdb_mmt.specs.declared.decoder.control.Control.{Control}
use Rattle.isdb_mmt.specs.declared.decoder.section.KeptSection.{KeptSection}
use Rattle.isdb_mmt.proofs.Lent.{length_over, part_over, places_apart}
use Rattle.isdb_mmt.proofs.Stored.{apart, used_own, used_back, media_back, control_back, section_back}
use Rattle.isdb_mmt.proofs.Views.{values_set, values_snoc}

-- a write that leaves the numbers of places in use
pub used_apart : (b : ℕ) (bs l : List ℕ) → (latest_place ≤ b) ⊎ (b + length bs ≤ used_place) → b + length bs ≤ length l → used_of (over b bs l) ≡ used_of l
used_apart b bs l d h = apart used_of used_place 12 used_own b bs l d h

-- a sort of places: how a place is read and what is stored in one, where they lie, how many there are and are in use
pub record Sort (A : Type 0) : Type 0 where
  pub of : List ℕ → A
  pub fields : A → List Field
  pub at : ℕ
  pub width : ℕ
  pub places : ℕ
  pub count : Used → ℕ
  pub back : (a : A) → Fit (fields a) → of (written (fields a)) ≡ a
  pub full : (a : A) → size (fields a) ≡ width
  pub behind : latest_place ≤ at
  pub within : at + width * places ≤ state_size

abbrev pub media : Sort Media
media =
    record {
      of = media_place_of;
      fields = media_fields;
      at = media_places;
      width = media_size;
      places = most_media_ids;
      count = λ u. u.media_ids;
      back = media_back;
      full = λ a. refl;
      behind = omega arith;
      within = omega arith;
    }

abbrev pub controls : Sort Control
controls =
    record {
      of = control_place_of;
      fields = control_fields;
      at = control_places;
      width = control_size;
      places = most_control_ids;
      count = λ u. u.control_ids;
      back = control_back;
      full = λ a. refl;
      behind = omega arith;
      within = omega arith;
    }

abbrev pub sections : Sort KeptSection
sections =
    record {
      of = section_place_of;
      fields = section_fields;
      at = section_places;
      width = section_size;
      places = most_sections;
      count = λ u. u.sections;
      back = section_back;
      full = λ a. refl;
      behind = omega arith;
      within = omega arith;
    }

-- those in use: `media_in`, `controls_in`, `sections_in`
abbrev pub in_use : {A : Type 0} → Sort A → List ℕ → List A
in_use s l = map s.of (places_from (s.count (used_of l)) s.width s.at l)

pub record Named : Type 0 where
  pub media : (l : List ℕ) → in_use media l ≡ media_in l
  pub controls : (l : List ℕ) → in_use controls l ≡ controls_in l
  pub sections : (l : List ℕ) → in_use sections l ≡ sections_in l

pub named : Named
unfolding media_in controls_in sections_in
named = record { media = λ l. refl; controls = λ l. refl; sections = λ l. refl }

module _ {A : Type 0} (s : Sort A) (l : List ℕ) (long : state_size ≤ length l) where
  -- where the place with the index `i` starts, and what storing `a` there leaves
  abbrev pub place_of : ℕ → ℕ
  place_of i = s.at + s.width * i

  abbrev pub with_place_lem : ℕ → A → List ℕ
  with_place_lem i a = over (place_of i) (written (s.fields a)) l

  ends : (i : ℕ) → i < s.places → place_of i + s.width ≤ length l
  ends i b =
      let k : s.width * (i + 1) ≤ s.width * s.places = mul-le-mul_left s.width (omega arith) in
      omega (arith, s.within)

  module _ (a : A) (f : Fit (s.fields a)) where
    filled : length (written (s.fields a)) ≡ s.width
    filled = length_written (s.fields a) ∙ s.full a

    -- one of the places in use
    pub place_set : (i : ℕ) → i < s.count (used_of l) → i < s.places → in_use s (with_place_lem i a) ≡ set (in_use s l) i a
    place_set i b p =
        let e = filled in
        let k = ends i p in
        let u : used_of (with_place_lem i a) ≡ used_of l =
        used_apart (place_of i) (written (s.fields a)) l (inl (omega (arith, s.behind))) (omega arith) in
        ap (λ (x : Used). map s.of (places_from (s.count x) s.width s.at (with_place_lem i a))) u
        ∙ values_set s.of s.width s.at (s.count (used_of l)) l (written (s.fields a)) i e b k
        ∙ ap (λ (x : A). set (in_use s l) i x) (s.back a f)

    -- the next one, with one more in use
    pub place_new : (u : Used) → s.count u ≡ suc (s.count (used_of l)) → Fit (used_fields u) → s.count (used_of l) < s.places
        → in_use s (over used_place (written (used_fields u)) (with_place_lem (s.count (used_of l)) a)) ≡ in_use s l ++ (a ∷ [])
    place_new u c g p =
        let n : ℕ = s.count (used_of l) in
        let b : ℕ = place_of n in
        let bs : List ℕ = written (s.fields a) in
        let l' : List ℕ = with_place_lem n a in
        let us : List ℕ = written (used_fields u) in
        let e = filled in
        let k = ends n p in
        let h = s.behind in
        let el : length l' ≡ length l = length_over b bs l (omega arith) in
        let ew : length us ≡ 12 = length_written (used_fields u) in
        let cu : s.count (used_of (over used_place us l')) ≡ suc n = ap s.count (used_back u l' g (omega arith)) ∙ c in
        let p0 : places_from (suc n) s.width s.at (over used_place us l') ≡ places_from (suc n) s.width s.at l' =
        places_apart s.width used_place us l' (omega arith) (suc n) s.at (inl (omega arith)) in
        let p1 : places_from n s.width s.at l' ≡ places_from n s.width s.at l =
        places_apart s.width b bs l (omega arith) n s.at (inr (omega arith)) in
        let p2 : s.of (part b s.width l') ≡ a =
        ap (λ w. s.of (part b w l')) (sym e) ∙ ap s.of (part_over b bs l (omega arith)) ∙ s.back a f in
        ap (λ w. map s.of (places_from w s.width s.at (over used_place us l'))) cu
        ∙ ap (map s.of) p0
        ∙ values_snoc s.of s.width s.at n l'
        ∙ ap (λ (x : List (List ℕ)). map s.of x ++ (s.of (part b s.width l') ∷ [])) p1
        ∙ ap (λ (x : A). in_use s l ++ (x ∷ [])) p2

  -- a write elsewhere: to the head but for the numbers in use, or to places of another sort
  pub place_apart : s.count (used_of l) ≤ s.places → (b : ℕ) (bs : List ℕ) → (latest_place ≤ b) ⊎ (b + length bs ≤ used_place)
      → (b + length bs ≤ s.at) ⊎ (place_of s.places ≤ b) → b + length bs ≤ length l → in_use s (over b bs l) ≡ in_use s l
  place_apart t b bs d o k =
      let m : s.width * s.count (used_of l) ≤ s.width * s.places = mul-le-mul_left s.width t in
      ap (λ (x : Used). map s.of (places_from (s.count x) s.width s.at (over b bs l))) (used_apart b bs l d k)
      ∙ ap (map s.of)
      (places_apart s.width b bs l k (s.count (used_of l)) s.at (⊎_elim (λ x. inl x) (λ y. inr (omega arith)) o))
