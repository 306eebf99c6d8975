-- The walks over an MPT's assets and their locations, a PLT's packages and deliveries: where the table parses, each step gives
-- the next element of the whole value. Assumes nothing.
use Rattle.std.specs.Prelude.{None, Option, Some, is_some}
use Rattle.isdb_mmt.specs.declared.table.plt.Plt.{Plt}
use Rattle.isdb_mmt.specs.declared.table.plt.IpDelivery.{IpDelivery}
use Rattle.isdb_mmt.specs.declared.table.plt.Package.{Package}
use Rattle.isdb_mmt.specs.declared.table.mpt.Mpt.{Mpt}
use Rattle.isdb_mmt.specs.declared.table.mpt.Asset.{Asset}
use Rattle.isdb_mmt.specs.declared.location.Location.{Location}
use Rattle.std.proofs.Common.{◌≡◌, ℕ, ◌+◌, ◌-◌, true, false, not, eqb, ltb, List, length, get_or, drop, sym, refl, ◌∙◌}
use Rattle.isdb_tlv.specs.Bytes.{be}
use Rattle.isdb_tlv.specs.Walk.{turn}
use Rattle.isdb_tlv.proofs.Guards.{cond_elim, either}
use Rattle.isdb_mmt.specs.Formats.Location.{location_of}
use Rattle.isdb_mmt.specs.Formats.Mpt.{declared_length_of, behind_location, locations_end, asset_fields, asset_behind, asset_at_of, asset_item, assets_from, mpt_in, mpt_assets, mpt_table, mpt_of}
use Rattle.isdb_mmt.specs.Formats.Plt.{package_at_of, behind_package, packages_end, delivery_at_of, delivery_item, deliveries_from, deliveries_whole, plt_with, plt_deliveries, plt_behind, plt_table, plt_in, plt_of}
use Rattle.isdb_mmt.specs.Decoder.Kept.{declared_table}
use Rattle.isdb_mmt.specs.WholeValues.Steps.{counted}
use Rattle.isdb_mmt.specs.WholeValues.WholeDescriptors.{location_told, location_seen}
use Rattle.isdb_mmt.specs.WholeValues.Whole.{asset_told, asset_seen, package_told, package_seen, delivery_told, delivery_seen}
use Rattle.isdb_mmt.specs.WholeValues.Walks.{AssetsWalk, LocationsWalk, MptTheorem, AssetTheorem, PltWalks, PltTheorem}
use Rattle.isdb_mmt.specs.declared.table.mpt.MptParsed.{MptParsed}
use Rattle.isdb_mmt.proofs.Names.{true_not_false}
use Rattle.isdb_mmt.proofs.Steps.{also_some, Leads, counts, whole_by}

-- a place that is there
abbrev There : Option ℕ → Type 0
There None = ⊥
There (Some p) = Unit {0}

module _ (s : List ℕ) where
  -- ---- each counted walk is whole where its loop says so

  location_leads : (n at : ℕ) (d : Option (Location × ℕ)) → There (turn (locations_end n s) (behind_location at d)) → Leads (λ p. There (locations_end n s p)) (location_told s at d)
  location_leads n at None w = w
  location_leads n at (Some (l, taken)) w = w

  locations_whole : (n at : ℕ) → There (locations_end n s at) → (counted (location_seen s) n at).whole ≡ true
  locations_whole =
      whole_by (location_seen s) (λ n at. There (locations_end n s at)) (λ n at. location_leads n at (location_of (drop at s)))

  asset_leads : (n : ℕ) (d : Option (Asset × ℕ)) → (turn (assets_from n s) (asset_item s d)).whole ≡ true → Leads (λ p. (assets_from n s p).whole ≡ true) (asset_told s d)
  asset_leads n None w = true_not_false false w refl
  asset_leads n (Some (a, next)) w = w

  assets_whole : (n at : ℕ) → (assets_from n s at).whole ≡ true → (counted (asset_seen s) n at).whole ≡ true
  assets_whole = whole_by (asset_seen s) (λ n at. (assets_from n s at).whole ≡ true) (λ n at. asset_leads n (asset_at_of s at))

  package_leads : (n : ℕ) (d : Option (Package × ℕ)) → There (turn (packages_end n s) (behind_package d)) → Leads (λ p. There (packages_end n s p)) (package_told s d)
  package_leads n None w = w
  package_leads n (Some (p, next)) w = w

  packages_whole : (n at : ℕ) → There (packages_end n s at) → (counted (package_seen s) n at).whole ≡ true
  packages_whole = whole_by (package_seen s) (λ n at. There (packages_end n s at)) (λ n at. package_leads n (package_at_of s at))

  delivery_leads : (n : ℕ) (d : Option (IpDelivery × ℕ)) → is_some (turn (deliveries_from n s) (delivery_item d)) ≡ true
      → Leads (λ p. is_some (deliveries_from n s p) ≡ true) (delivery_told d)
  delivery_leads n None w = true_not_false false w refl
  delivery_leads n (Some (x, next)) w = sym (also_some x (deliveries_from n s next)) ∙ w

  deliveries_whole_lem : (n at : ℕ) → deliveries_whole n s at ≡ true → (counted (delivery_seen s) n at).whole ≡ true
  unfolding deliveries_whole
  deliveries_whole_lem =
      whole_by (delivery_seen s) (λ n at. is_some (deliveries_from n s at) ≡ true) (λ n at. delivery_leads n (delivery_at_of s at))

  -- ---- an asset that a step gives has its locations

  abbrev AssetGood : Option (Asset × ℕ) → Type 0
  AssetGood None = Unit {0}
  AssetGood (Some (a, next)) = LocationsWalk s a

  fields_good : (p q end : ℕ) → There (locations_end (get_or s (q + 5) 0) s (q + 6)) → AssetGood (asset_fields s p q end)
  unfolding asset_fields
  fields_good p q end w =
      cond_elim AssetGood (ltb (length s - end) 2) (λ e. tt) (λ e.
      cond_elim AssetGood (ltb (length s - (end + 2)) (be 2 s end)) (λ e1. tt) (λ e1.
      counts (location_seen s) (get_or s (q + 5) 0) (q + 6) (locations_whole (get_or s (q + 5) 0) (q + 6) w)))

  behind_good : (p q : ℕ) (d : Option ℕ) → locations_end (get_or s (q + 5) 0) s (q + 6) ≡ d → AssetGood (asset_behind s p q d)
  behind_good p q None e = tt
  behind_good p q (Some end) e = fields_good p q end (rw e tt)

  asset_good : (p : ℕ) → AssetGood (asset_at_of s p)
  unfolding asset_at_of
  asset_good p =
      let q = p + 6 + get_or s (p + 5) 0 in
      cond_elim AssetGood (ltb (length s - p) 6) (λ e. tt) (λ e.
      cond_elim AssetGood (ltb (length s) q) (λ e1. tt) (λ e1.
      cond_elim AssetGood (ltb (length s - q) 6) (λ e2. tt) (λ e2.
      behind_good p q (locations_end (get_or s (q + 5) 0) s (q + 6)) refl)))

  -- ---- a table's assets

  abbrev MptGood : Option Mpt → Type 0
  MptGood None = Unit {0}
  MptGood (Some t) = AssetsWalk s t

  assets_good : (start n : ℕ) → MptGood (mpt_assets s start n).mpt
  unfolding mpt_assets
  assets_good start n =
      cond_elim (λ (r : MptParsed). MptGood r.mpt) (ltb (length s - (start + n)) 1) (λ e. tt) (λ e.
      let k = get_or s (start + n) 0 in
      cond_elim MptGood (assets_from k s (start + n + 1)).whole
      (λ w. counts (asset_seen s) k (start + n + 1) (assets_whole k (start + n + 1) w)) (λ w. tt))

  table_good : MptGood (mpt_table s).mpt
  unfolding mpt_table
  table_good =
      let start = get_or s 5 0 + 8 in
      let n = be 2 s (get_or s 5 0 + 6) in
      cond_elim (λ (r : MptParsed). MptGood r.mpt) (ltb (length s) 6) (λ e. tt) (λ e.
      cond_elim (λ (r : MptParsed). MptGood r.mpt) (ltb (length s) start) (λ e1. tt) (λ e1.
      cond_elim (λ (r : MptParsed). MptGood r.mpt) (ltb (length s - start) n) (λ e2. tt) (λ e2. assets_good start n)))

  -- ---- a table's packages and deliveries

  abbrev PltGood : Option Plt → Type 0
  PltGood None = Unit {0}
  PltGood (Some t) = PltWalks s t

  with_good : There (packages_end (get_or s 4 0) s 5) → (m start : ℕ) → deliveries_whole m s start ≡ true → PltGood (plt_with s m start)
  with_good w m start h =
      record {
        packages = counts (package_seen s) (get_or s 4 0) 5 (packages_whole (get_or s 4 0) 5 w);
        deliveries = counts (delivery_seen s) m start (deliveries_whole_lem m start h);
      }

  deliveries_good : There (packages_end (get_or s 4 0) s 5) → (at : ℕ) → PltGood (plt_deliveries s at)
  unfolding plt_deliveries deliveries_whole
  deliveries_good w at =
      let h = deliveries_whole (get_or s at 0) s (at + 1) in
      cond_elim PltGood (eqb (length s - at) 0) (λ e. with_good w 0 at refl) (λ e.
      cond_elim PltGood (not h) (λ e1. tt) (λ e1.
      with_good w (get_or s at 0) (at + 1) (either h (λ d. d) (λ d. true_not_false true refl (rw d at e1)))))

  packages_good : (d : Option ℕ) → packages_end (get_or s 4 0) s 5 ≡ d → PltGood (plt_behind s d)
  packages_good None e = tt
  packages_good (Some at) e = deliveries_good (rw e tt) at

  plt_good : PltGood (plt_table s)
  unfolding plt_table
  plt_good =
      cond_elim PltGood (ltb (length s) 5) (λ e. tt) (λ e. packages_good (packages_end (get_or s 4 0) s 5) refl)

-- ---- the tables, cut to what they declare

pub cut_elim : (s : List ℕ) (P : Option ℕ → Type 0) → P None → P (Some (be 2 s 2 + 4)) → P (declared_length_of s)
unfolding declared_length_of
cut_elim s P x y =
    cond_elim P (ltb (length s) 4) (λ e. x) (λ e. cond_elim P (ltb (length s) (be 2 s 2 + 4)) (λ e1. x) (λ e1. y))

pub assets : AssetTheorem
assets s at next a e = rw e at (asset_good s at)

pub mpt : MptTheorem
unfolding mpt_of
mpt s t e = rw e at (cut_elim s (λ p. MptGood (declared_table s) (mpt_in s p).mpt) tt (table_good (declared_table s)))

pub plt : PltTheorem
unfolding plt_of
plt s t e = rw e at (cut_elim s (λ p. PltGood (declared_table s) (plt_in s p)) tt (plt_good (declared_table s)))
