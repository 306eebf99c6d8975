-- Bytes behind those that a table declares: what a step gives, it gives with them too. Assumes nothing.
use Rattle.std.specs.Prelude.{None, Ok, Option, Some}
use Rattle.std.proofs.Common.{◌≡◌, ℕ, zero, suc, ◌+◌, ◌-◌, ◌≤◌, cond, eqb, ltb, leb, List, [], ◌∷◌, ◌++◌, length, get_or, take, drop, sym, refl, ap, ◌∙◌, subst, arith, length-append, length-drop, take-append-drop, ltb-false, le-ltb, leb-false, leb-true}
use lib.ListN.{get_or-append}
use lib.Seq.{take-append-le, drop-append-le}
use borrow.Author.Tests.{lt-leb}
use Rattle.isdb_tlv.specs.Bytes.{be}
use Rattle.isdb_tlv.proofs.Guards.{cond_elim, either}
use Rattle.isdb_tlv.proofs.Fields.{be_before}
use Rattle.isdb_mmt.specs.Formats.Part.{part_at, part_of}
use Rattle.isdb_mmt.specs.Formats.Location.{sized, url_of, ipv4_at, ipv6_at, location_of}
use Rattle.isdb_tlv.specs.Walk.{turn}
use Rattle.isdb_mmt.specs.WholeValues.Steps.{Stood, at_end, malformed, element, required, counted, Gives, Counts}
use Rattle.isdb_mmt.specs.WholeValues.WholeDescriptors.{whole_location, url_in, location_told, location_seen, loop_in}
use Rattle.isdb_mmt.specs.WholeValues.WholeParts.{Lies, UrlLies, LocatedLies, AssetLies}
use Rattle.isdb_mmt.specs.Formats.Mpt.{behind_location, locations_end, asset_fields, asset_behind, asset_at_of, mpt_of}
use Rattle.isdb_mmt.specs.Formats.Plt.{package_in, package_at_of, delivery_size, delivery_behind, delivery_at_of}
use Rattle.isdb_mmt.specs.Formats.Tot.{tot_of}
use Rattle.isdb_mmt.specs.Formats.Section.{length12}
use Rattle.isdb_mmt.specs.Decoder.Kept.{declared_table, declared_section}
use Rattle.isdb_mmt.specs.WholeValues.Whole.{whole_asset, asset_told, asset_seen, whole_mpt, package_told, package_seen, delivery_told, delivery_seen, whole_plt}
use Rattle.isdb_mmt.specs.WholeValues.WholeSections.{whole_tot}
use Rattle.isdb_mmt.specs.WholeValues.Walks.{AssetsWalk, LocationsWalk, PltWalks, BehindTheorem}
use Rattle.isdb_mmt.specs.declared.part.Part.{Part}
use Rattle.isdb_mmt.specs.declared.table.mpt.Mpt.{Mpt}
use Rattle.isdb_mmt.specs.declared.table.plt.Plt.{Plt}
use Rattle.isdb_mmt.specs.declared.table.tot.Tot.{Tot}
use Rattle.isdb_mmt.specs.declared.table.mpt.Asset.{Asset}
use Rattle.isdb_mmt.specs.declared.location.Location.{Location}
use Rattle.isdb_mmt.specs.declared.location.Location.TheVariants.{SameFlow, Ipv4, Ipv6, Mpeg2Ts, Mpeg2TsIpv6, Url}
use Rattle.isdb_mmt.proofs.Assets.{no_location_lem, location_within}
use Rattle.isdb_mmt.proofs.Walks.{assets, mpt, plt}
use Rattle.isdb_mmt.proofs.WholeParts.{parts}

-- ---- steps of which the second gives what the first gives

abbrev pub Same : {A : Type 0} → Stood A → Stood A → Type 0
Same at_end d = Unit {0}
Same malformed d = Unit {0}
Same (element x next) d = d ≡ element x next

module _ {A : Type 0} (step step' : ℕ → Stood A) (same : (at : ℕ) → Same (step at) (step' at)) where
  gives_same : (l : List A) (at stop : ℕ) → Gives step at l stop → Gives step' at l stop
  gives_same [] at stop g = g
  gives_same (x ∷ l) at stop g =
      record { next = g.next; here = rw g.here at (same at); rest = gives_same l g.next stop g.rest }

  pub counts_same : {n at : ℕ} {l : List A} → Counts step n at l → Counts step' n at l
  counts_same {n} {at} {l} c = record { count = c.count; stop = c.stop; gives = gives_same l at c.stop c.gives }

-- a list that the steps give is what the walk finds
module _ {A : Type 0} (step : ℕ → Stood A) where
  counted_given : (n at : ℕ) (l : List A) (stop : ℕ) → length l ≡ n → Gives step at l stop → (counted step n at).found ≡ l
  counted_given zero at [] stop e g = refl
  counted_given zero at (x ∷ l) stop e g = absurd (omega (arith, e))
  counted_given (suc n) at [] stop e g = absurd (omega (arith, e))
  counted_given (suc n) at (x ∷ l) stop e g =
      ap (λ (d : Stood A). (turn (counted step n) (required d)).found) g.here
      ∙ ap (λ k. x ∷ k) (counted_given n g.next l stop (omega (arith, e)) g.rest)

  pub found_is : {n at : ℕ} {l : List A} → Counts step n at l → (counted step n at).found ≡ l
  found_is {n} {at} {l} c = counted_given n at l c.stop c.count c.gives

-- ---- parts

part_same : (s r : List ℕ) (p : Part) → Lies s p → part_of (s ++ r) p ≡ part_of s p
part_same s r p h =
    ap (take p.length) (drop-append-le p.start s r (omega arith))
    ∙ take-append-le p.length (drop p.start s) r (omega (arith, length-drop p.start s))

-- ---- locations

abbrev LocatedSame : Option (Location × ℕ) → Option (Location × ℕ) → Type 0
LocatedSame None d = Unit {0}
LocatedSame (Some (l, n)) d = d ≡ Some (l, n)

module _ (s r : List ℕ) where
  abbrev x : List ℕ
  x = s ++ r

  longer : (n : ℕ) → n ≤ length s → n ≤ length x
  longer n h = omega (arith, length-append s r)

  sized_same : (n : ℕ) (l l' : Location) → (n ≤ length s → l' ≡ l) → LocatedSame (sized s n l) (sized x n l')
  unfolding sized
  sized_same n l l' h =
      cond_elim (λ d. LocatedSame d (sized x n l')) (ltb (length s) n) (λ e. tt) (λ e.
      let g = ltb-false (length s) n e in
      rw (le-ltb (length x) n (longer n g)) (ap (λ k. Some (k, n)) (h g)))

  url_same : LocatedSame (url_of s) (url_of x)
  unfolding url_of
  url_same =
      cond_elim (λ d. LocatedSame d (url_of x)) (ltb (length s) 2) (λ e. tt) (λ e.
      let g = ltb-false (length s) 2 e in
      rw (le-ltb (length x) 2 (longer 2 g), get_or-append s r 0 1 (omega arith))
      (sized_same (get_or s 1 0 + 2) (Url (part_at 2 (get_or s 1 0))) (Url (part_at 2 (get_or s 1 0))) (λ h. refl)))

  ipv4_same : 13 ≤ length s → ipv4_at x ≡ ipv4_at s
  ipv4_same h =
      rw (be_before 4 s r 1 (omega arith), be_before 4 s r 5 (omega arith), be_before 2 s r 9 (omega arith), be_before 2 s r 11 (omega arith))

  ipv6_same : 37 ≤ length s → ipv6_at x ≡ ipv6_at s
  ipv6_same h =
      rw (
        be_before 8 s r 1 (omega arith),
        be_before 8 s r 9 (omega arith),
        be_before 8 s r 17 (omega arith),
        be_before 8 s r 25 (omega arith),
        be_before 2 s r 33 (omega arith),
        be_before 2 s r 35 (omega arith),
      )

  location_same : LocatedSame (location_of s) (location_of x)
  unfolding location_of
  location_same =
      let t = get_or s 0 0 in
      cond_elim (λ d. LocatedSame d (location_of x)) (ltb (length s) 1) (λ e. tt) (λ e.
      let g = ltb-false (length s) 1 e in
      rw (le-ltb (length x) 1 (longer 1 g), get_or-append s r 0 0 g)
      (either (eqb t 0) (λ e0. rw e0 (sized_same 3 (SameFlow (be 2 s 1)) (SameFlow (be 2 x 1)) (λ h. rw (be_before 2 s r 1 (omega arith))))) (λ e0.
      either (eqb t 1) (λ e1. rw (e0, e1) (sized_same 13 (ipv4_at s) (ipv4_at x) ipv4_same)) (λ e1.
      either (eqb t 2) (λ e2. rw (e0, e1, e2) (sized_same 37 (ipv6_at s) (ipv6_at x) ipv6_same)) (λ e2.
      either (eqb t 3)
      (λ e3.
      rw (e0, e1, e2, e3)
      (sized_same 7 (Mpeg2Ts (be 2 s 1) (be 2 s 3) (be 2 s 5)) (Mpeg2Ts (be 2 x 1) (be 2 x 3) (be 2 x 5))
      (λ h. rw (be_before 2 s r 1 (omega arith), be_before 2 s r 3 (omega arith), be_before 2 s r 5 (omega arith)))))
      (λ e3.
      either (eqb t 4)
      (λ e4.
      rw (e0, e1, e2, e3, e4)
      (sized_same 37 (Mpeg2TsIpv6 (be 2 s 33) (be 2 s 35)) (Mpeg2TsIpv6 (be 2 x 33) (be 2 x 35))
      (λ h. rw (be_before 2 s r 33 (omega arith), be_before 2 s r 35 (omega arith)))))
      (λ e4. either (eqb t 5) (λ e5. rw (e0, e1, e2, e3, e4, e5) url_same) (λ e5. rw (e0, e1, e2, e3, e4, e5) tt))))))))

  -- a URL's bytes
  url_in_same : (l : Location) → UrlLies s l → url_in x l ≡ url_in s l
  url_in_same (SameFlow p) h = refl
  url_in_same (Ipv4 src dst port p) h = refl
  url_in_same (Ipv6 sh sl dh dl port p) h = refl
  url_in_same (Mpeg2Ts n t pid) h = refl
  url_in_same (Mpeg2TsIpv6 port pid) h = refl
  url_in_same (Url p) h = part_same s r p h

  whole_same : (l : Location) → UrlLies s l → whole_location x l ≡ whole_location s l
  whole_same l h = ap (λ u. record { location = l; url = u }) (url_in_same l h)

abbrev PlaceSame : Option ℕ → Option ℕ → Type 0
PlaceSame None d = Unit {0}
PlaceSame (Some e) d = d ≡ Some e

-- the size of a delivery's location
size_same : (s r : List ℕ) → 1 ≤ length s → PlaceSame (delivery_size s) (delivery_size (s ++ r))
unfolding delivery_size
size_same s r h =
    let t = get_or s 0 0 in
    rw (get_or-append s r 0 0 h)
    (either (eqb t 1) (λ e. rw e refl) (λ e.
    either (eqb t 2) (λ e1. rw (e, e1) refl) (λ e1.
    either (eqb t 5)
    (λ e2.
    rw (e, e1, e2)
    (cond_elim (λ d. PlaceSame d (cond (ltb (length (s ++ r)) 2) None (Some (get_or (s ++ r) 1 0 + 1)))) (ltb (length s) 2) (λ e3. tt) (λ e3.
    let g = ltb-false (length s) 2 e3 in
    rw (le-ltb (length (s ++ r)) 2 (omega (arith, length-append s r)), get_or-append s r 0 1 (omega arith)) refl)))
    (λ e2. rw (e, e1, e2) tt))))

-- ---- what stands before the bytes behind

module _ (s r : List ℕ) where
  abbrev all : List ℕ
  all = s ++ r

  located_told : (at : ℕ) → at ≤ length s → (d : Option (Location × ℕ)) → LocatedSame d (location_of (drop at all)) → LocatedLies (drop at s) d
      → Same (location_told s at d) (location_seen all at)
  located_told at h None e w = tt
  located_told at h (Some (l, n)) e w =
      ap (location_told all at) e
      ∙ ap (λ (b : List ℕ). element (whole_location b l) (at + n)) (drop-append-le at s r h)
      ∙ ap (λ y. element y (at + n)) (whole_same (drop at s) r l w)

  seen_same : (at : ℕ) → Same (location_seen s at) (location_seen all at)
  seen_same at =
      either (leb at (length s))
      (λ e.
      let h = leb-true at (length s) e in
      located_told at h (location_of (drop at s)) (rw (drop-append-le at s r h) (location_same (drop at s) r)) (parts.locations (drop at s)))
      (λ e. let h = leb-false at (length s) e in rw (no_location_lem s at (omega arith)) tt)

  -- ---- locations one behind the other

  behind_same : (n : ℕ) → ((at : ℕ) → at ≤ length s → PlaceSame (locations_end n s at) (locations_end n all at)) → (at : ℕ) (d : Option (Location × ℕ))
      → location_of (drop at s) ≡ d → LocatedSame d (location_of (drop at all)) → PlaceSame (turn (locations_end n s) (behind_location at d)) (locations_end (suc n) all at)
  behind_same n h at None e w = tt
  behind_same n h at (Some (l, k)) e w = rw w (h (at + k) (location_within s at e))

  end_same : (n at : ℕ) → at ≤ length s → PlaceSame (locations_end n s at) (locations_end n all at)
  end_same zero at h = refl
  end_same (suc n) at h =
      behind_same n (end_same n) at (location_of (drop at s)) refl (rw (drop-append-le at s r h) (location_same (drop at s) r))

  -- ---- assets

  abbrev AssetSame : Option (Asset × ℕ) → Option (Asset × ℕ) → Type 0
  AssetSame None d = Unit {0}
  AssetSame (Some (a, next)) d = d ≡ Some (a, next)

  fields_same : (p q end : ℕ) → p + 6 ≤ length s → q + 6 ≤ length s → AssetSame (asset_fields s p q end) (asset_fields all p q end)
  unfolding asset_fields
  fields_same p q end hp hq =
      cond_elim (λ d. AssetSame d (asset_fields all p q end)) (ltb (length s - end) 2) (λ e. tt) (λ e.
      let a = ltb-false (length s - end) 2 e in
      cond_elim (λ d. AssetSame d (asset_fields all p q end)) (ltb (length s - (end + 2)) (be 2 s end)) (λ e1. tt) (λ e1.
      let b = ltb-false (length s - (end + 2)) (be 2 s end) e1 in
      let l = length-append s r in
      rw (
        le-ltb (length all - end) 2 (omega arith),
        be_before 2 s r end (omega arith),
        le-ltb (length all - (end + 2)) (be 2 s end) (omega arith),
        get_or-append s r 0 p (omega arith),
        be_before 4 s r (p + 1) (omega arith),
        get_or-append s r 0 (p + 5) (omega arith),
        be_before 4 s r q (omega arith),
        get_or-append s r 0 (q + 4) (omega arith),
        get_or-append s r 0 (q + 5) (omega arith),
      )))

  asset_behind_lem : (p q : ℕ) → p + 6 ≤ length s → q + 6 ≤ length s → (d d' : Option ℕ) → PlaceSame d d' → AssetSame (asset_behind s p q d) (asset_behind all p q d')
  asset_behind_lem p q hp hq None d' w = tt
  asset_behind_lem p q hp hq (Some end) d' w = rw w (fields_same p q end hp hq)

  asset_same : (p : ℕ) → AssetSame (asset_at_of s p) (asset_at_of all p)
  unfolding asset_at_of
  asset_same p =
      let q = p + 6 + get_or s (p + 5) 0 in
      let l = length-append s r in
      cond_elim (λ d. AssetSame d (asset_at_of all p)) (ltb (length s - p) 6) (λ e. tt) (λ e.
      let a = ltb-false (length s - p) 6 e in
      cond_elim (λ d. AssetSame d (asset_at_of all p)) (ltb (length s) q) (λ e1. tt) (λ e1.
      let b = ltb-false (length s) q e1 in
      cond_elim (λ d. AssetSame d (asset_at_of all p)) (ltb (length s - q) 6) (λ e2. tt) (λ e2.
      let c = ltb-false (length s - q) 6 e2 in
      rw (
        le-ltb (length all - p) 6 (omega arith),
        get_or-append s r 0 (p + 5) (omega arith),
        le-ltb (length all) q (omega arith),
        le-ltb (length all - q) 6 (omega arith),
        get_or-append s r 0 (q + 5) (omega arith),
      )
      (asset_behind_lem p q (omega arith) (omega arith) (locations_end (get_or s (q + 5) 0) s (q + 6)) (locations_end (get_or s (q + 5) 0) all (q + 6))
      (end_same (get_or s (q + 5) 0) (q + 6) (omega arith))))))

  whole_asset_lem : (a : Asset) → Lies s a.asset_id × Lies s a.descriptors → LocationsWalk s a → whole_asset all a ≡ whole_asset s a
  whole_asset_lem a w c i =
      record {
        asset = a;
        asset_id = part_same s r a.asset_id w.0 i;
        locations =
            found_is (location_seen all) (counts_same (location_seen s) (location_seen all) seen_same c) i;
        descriptors = loop_in (part_same s r a.descriptors w.1 i);
      }

  asset_told_lem : (at : ℕ) (d : Option (Asset × ℕ)) → asset_at_of s at ≡ d → AssetSame d (asset_at_of all at) → AssetLies s d → Same (asset_told s d) (asset_seen all at)
  asset_told_lem at None e h w = tt
  asset_told_lem at (Some (a, next)) e h w =
      ap (asset_told all) h ∙ ap (λ y. element y next) (whole_asset_lem a w (assets s at next a e))

  pub asset_seen_lem : (at : ℕ) → Same (asset_seen s at) (asset_seen all at)
  asset_seen_lem at = asset_told_lem at (asset_at_of s at) refl (asset_same at) (parts.assets s at)

  -- ---- packages and deliveries

  package_told_lem : (at n : ℕ) → at + 1 + n ≤ length s → (d d' : Option (Location × ℕ)) → LocatedSame d d' → LocatedLies (drop (at + 1 + n) s) d
      → Same (package_told s (package_in at n d)) (package_told all (package_in at n d'))
  package_told_lem at n h None d' e w = tt
  package_told_lem at n h (Some (l, k)) d' e w =
      let q = at + 1 + n in
      ap (λ (c : Option (Location × ℕ)). package_told all (package_in at n c)) e
      ∙ (λ i.
      element
      (record {
        package_id = part_same s r (part_at (at + 1) n) h i;
        location = (ap (λ (b : List ℕ). whole_location b l) (drop-append-le q s r h) ∙ whole_same (drop q s) r l w) i;
      })
      (q + k))

  pub package_seen_lem : (at : ℕ) → Same (package_seen s at) (package_seen all at)
  unfolding package_at_of
  package_seen_lem at =
      let n = get_or s at 0 in
      let l = length-append s r in
      cond_elim (λ d. Same (package_told s d) (package_seen all at)) (leb (length s) at) (λ e. tt) (λ e.
      let a = leb-false (length s) at e in
      cond_elim (λ d. Same (package_told s d) (package_seen all at)) (ltb (length s - (at + 1)) n) (λ e1. tt) (λ e1.
      let b = ltb-false (length s - (at + 1)) n e1 in
      let q = at + 1 + n in
      let h : q ≤ length s = omega arith in
      rw (lt-leb (length all) at (omega arith), get_or-append s r 0 at a, le-ltb (length all - (at + 1)) n (omega arith))
      (package_told_lem at n h (location_of (drop q s)) (location_of (drop q all))
      (rw (drop-append-le q s r h) (location_same (drop q s) r)) (parts.locations (drop q s)))))

  delivery_behind_lem : (at : ℕ) → at + 5 ≤ length s → (d d' : Option ℕ) → PlaceSame d d'
      → Same (delivery_told (delivery_behind s at d)) (delivery_told (delivery_behind all at d'))
  delivery_behind_lem at h None d' w = tt
  delivery_behind_lem at h (Some n) d' w =
      rw w
      (cond_elim (λ d. Same (delivery_told d) (delivery_told (delivery_behind all at (Some n)))) (ltb (length s) (at + 7 + n)) (λ e. tt) (λ e.
      let a = ltb-false (length s) (at + 7 + n) e in
      rw (
        le-ltb (length all) (at + 7 + n) (omega (arith, length-append s r)),
        be_before 4 s r at (omega arith),
        get_or-append s r 0 (at + 4) (omega arith),
        be_before 2 s r (at + 5 + n) (omega arith),
      )
      refl))

  pub delivery_seen_lem : (at : ℕ) → Same (delivery_seen s at) (delivery_seen all at)
  unfolding delivery_at_of
  delivery_seen_lem at =
      cond_elim (λ d. Same (delivery_told d) (delivery_seen all at)) (ltb (length s - at) 5) (λ e. tt) (λ e.
      let a = ltb-false (length s - at) 5 e in
      rw (le-ltb (length all - at) 5 (omega (arith, length-append s r)))
      (delivery_behind_lem at (omega arith) (delivery_size (drop (at + 4) s)) (delivery_size (drop (at + 4) all))
      (rw (drop-append-le (at + 4) s r (omega arith)) (size_same (drop (at + 4) s) r (omega (arith, length-drop (at + 4) s))))))

  -- ---- the tables

  mpt_counts : (t : Mpt) → AssetsWalk s t → Counts (asset_seen all) t.assets t.start (whole_mpt s t).assets
  mpt_counts t c = counts_same (asset_seen s) (asset_seen all) asset_seen_lem c

  assets_walk : (t : Mpt) → AssetsWalk s t → AssetsWalk all t
  assets_walk t c =
      subst (λ l. Counts (asset_seen all) t.assets t.start l) (sym (found_is (asset_seen all) (mpt_counts t c))) (mpt_counts t c)

  whole_mpt_lem : (t : Mpt) → AssetsWalk s t → Lies s t.package_id × Lies s t.descriptors → whole_mpt all t ≡ whole_mpt s t
  whole_mpt_lem t c w i =
      record {
        mpt = t;
        package_id = part_same s r t.package_id w.0 i;
        descriptors = loop_in (part_same s r t.descriptors w.1 i);
        assets = found_is (asset_seen all) (mpt_counts t c) i;
      }

  plt_packages : (t : Plt) → PltWalks s t → Counts (package_seen all) t.packages 5 (whole_plt s t).packages
  plt_packages t c = counts_same (package_seen s) (package_seen all) package_seen_lem c.packages

  plt_deliveries_lem : (t : Plt) → PltWalks s t → Counts (delivery_seen all) t.ip_deliveries t.deliveries_start (whole_plt s t).deliveries
  plt_deliveries_lem t c = counts_same (delivery_seen s) (delivery_seen all) delivery_seen_lem c.deliveries

  plt_walks : (t : Plt) → PltWalks s t → PltWalks all t
  plt_walks t c =
      record {
        packages = subst (λ l. Counts (package_seen all) t.packages 5 l) (sym (found_is (package_seen all) (plt_packages t c))) (plt_packages t c);
        deliveries =
            subst (λ l. Counts (delivery_seen all) t.ip_deliveries t.deliveries_start l) (sym (found_is (delivery_seen all) (plt_deliveries_lem t c)))
            (plt_deliveries_lem t c);
      }

  whole_plt_lem : (t : Plt) → PltWalks s t → whole_plt all t ≡ whole_plt s t
  whole_plt_lem t c i =
      record {
        plt = t;
        packages = found_is (package_seen all) (plt_packages t c) i;
        deliveries = found_is (delivery_seen all) (plt_deliveries_lem t c) i;
      }

  whole_tot_lem : (t : Tot) → Lies s t.descriptors → whole_tot all t ≡ whole_tot s t
  whole_tot_lem t w i = record { value = t; descriptors = loop_in (part_same s r t.descriptors w i) }

mpt_lies : (s : List ℕ) (t : Mpt) → (mpt_of s).mpt ≡ Some t → Lies (declared_table s) t.package_id × Lies (declared_table s) t.descriptors
mpt_lies s t e = rw e at (parts.mpt s)

tot_lies : (s : List ℕ) (t : Tot) → (tot_of s).result ≡ Ok t → Lies (declared_section s) t.descriptors
tot_lies s t e = rw e at (parts.tot s)

-- the declared bytes and those behind
table_join : (s : List ℕ) → declared_table s ++ drop (be 2 s 2 + 4) s ≡ s
table_join s = take-append-drop (be 2 s 2 + 4) s

section_join : (s : List ℕ) → declared_section s ++ drop (length12 s 1 + 3) s ≡ s
section_join s = take-append-drop (length12 s 1 + 3) s

pub behind : BehindTheorem
behind =
    record {
      assets = λ s t e. subst (λ (b : List ℕ). AssetsWalk b t) (table_join s) (assets_walk (declared_table s) (drop (be 2 s 2 + 4) s) t (mpt s t e));
      mpt = λ s t e.
          subst (λ (b : List ℕ). whole_mpt b t ≡ whole_mpt (declared_table s) t) (table_join s)
          (whole_mpt_lem (declared_table s) (drop (be 2 s 2 + 4) s) t (mpt s t e) (mpt_lies s t e));
      packages = λ s t e. subst (λ (b : List ℕ). PltWalks b t) (table_join s) (plt_walks (declared_table s) (drop (be 2 s 2 + 4) s) t (plt s t e));
      plt = λ s t e.
          subst (λ (b : List ℕ). whole_plt b t ≡ whole_plt (declared_table s) t) (table_join s)
          (whole_plt_lem (declared_table s) (drop (be 2 s 2 + 4) s) t (plt s t e));
      tot = λ s t e.
          subst (λ (b : List ℕ). whole_tot b t ≡ whole_tot (declared_section s) t) (section_join s)
          (whole_tot_lem (declared_section s) (drop (length12 s 1 + 3) s) t (tot_lies s t e));
    }
