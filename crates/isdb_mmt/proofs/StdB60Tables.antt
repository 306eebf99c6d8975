-- What a sender that conforms to ARIB STD-B60 writes of MPT and PLT is read right. Assumes nothing.
use Rattle.std.specs.Prelude.{Some}
use Rattle.std.proofs.Common.{◌≡◌, ℕ, ◌+◌, ◌-◌, ◌%◌, ◌^◌, ◌<◌, ◌≤◌, true, List, [], ◌∷◌, ◌++◌, map, length, get_or, take, drop, refl, ◌∙◌, ap₂, append_assoc, add-zero, add_assoc, add_comm, arith, length-append, length-drop, get_or-drop, take_all, le-ltb, ne_eqb}
use borrow.Author.Tests.{lt-leb}
use Rattle.isdb_tlv.specs.Guards.{◌=?◌}
use Rattle.isdb_tlv.specs.Bytes.{be}
use Rattle.isdb_tlv.specs.Fields.{Field, field, bits, packed, written, Fit}
use Rattle.isdb_tlv.proofs.Fields.{be_one, length_written}
use Rattle.isdb_mmt.specs.Formats.Part.{part_at, part_of}
use Rattle.isdb_mmt.specs.Formats.Location.{location_of}
use Rattle.isdb_mmt.specs.Formats.Desc.{Loop}
use Rattle.isdb_mmt.specs.Formats.Mpt.{declared_length_of, locations_end, locations_of, asset_fields, asset_at_of, assets_from, mpt_assets, mpt_table, mpt_of}
use Rattle.isdb_mmt.specs.Formats.Plt.{package_at_of, packages_end, packages_of, delivery_size, delivery_at_of, deliveries_from, deliveries_whole, plt_deliveries, plt_table, plt_of}
use Rattle.isdb_mmt.specs.Standards.StdB60.{loop_sent, SentLocation, location_sent, LocationConforming, location_seen}
use Rattle.isdb_mmt.specs.Standards.StdB60Sections.{All}
use Rattle.isdb_mmt.specs.Standards.StdB60Tables.{locations_sent, SentAsset, asset_head, asset_middle, asset_sent, assets_sent, AssetConforming, asset_seen, asset_value}
use Rattle.isdb_mmt.specs.Standards.StdB60Tables.{table_head, SentMpt, mpt_rest, mpt_sent, MptConforming, mpt_loop_start, mpt_assets_start, MptTheorem}
use Rattle.isdb_mmt.specs.Standards.StdB60Tables.{SentPackage, package_sent, packages_sent, PackageConforming, package_seen, package_value}
use Rattle.isdb_mmt.specs.Standards.StdB60Tables.{Delivery, over_ipv4, over_ipv6, at_url, delivery_type, delivery_location, DeliveryConforming, SentDelivery, delivery_sent, deliveries_sent, SentDeliveryConforming, delivery_value}
use Rattle.isdb_mmt.specs.Standards.StdB60Tables.{SentPlt, plt_rest, plt_sent, PltConforming, plt_deliveries_start, PltTheorem}
use Rattle.isdb_mmt.specs.declared.table.mpt.Asset.{Asset}
use Rattle.isdb_mmt.specs.declared.table.plt.Package.{Package}
use Rattle.isdb_mmt.proofs.StdB60.{loop_whole, places}
use Rattle.isdb_mmt.proofs.BytesAt.{FoundAt, located_whole, located_part, located_drop, located_within, located_front, located_rest, field_read, first_read, byte_read}

-- a table: its head, and what stands behind it
pub record Headed (s : List ℕ) (i v : ℕ) (r : List ℕ) : Type 0 where
  pub id : get_or s 0 0 ≡ i
  pub version : get_or s 1 0 ≡ v
  pub rest : FoundAt s 4 r
  pub long : length s ≡ length r + 4
  pub declared : declared_length_of s ≡ Some (length r + 4)
  pub whole : take (length r + 4) s ≡ s

pub headed : (id version : ℕ) (r : List ℕ) → id < 2 ^ 8 → version < 2 ^ 8 → length r < 2 ^ 16
    → Headed (written (table_head id version (length r)) ++ r) id version r
unfolding declared_length_of
headed id version r fits fits2 short =
    let fs = table_head id version (length r) in
    let s = written fs ++ r in
    let all = located_whole s in
    let front = located_front (written fs) r all in
    let fit : Fit fs = omega arith in
    let long : length s ≡ length r + 4 = rw (length-append (written fs) r, length_written fs) (omega arith) in
    let len : be 2 s 2 ≡ length r = field_read fs fit front 2 in
    record {
      id = byte_read fs fit front 0 refl;
      version = byte_read fs fit front 1 refl;
      rest = located_rest (written fs) r all (length_written fs);
      long = long;
      declared = rw (le-ltb (length s) 4 (omega arith), len, le-ltb (length s) (length r + 4) (omega arith));
      whole = take_all (length r + 4) s (omega arith);
    }

-- locations one behind another
module _ {s : List ℕ} where
  location_read : {at : ℕ} (p : SentLocation) → LocationConforming p → FoundAt s at (location_sent p)
      → location_of (drop at s) ≡ Some (location_seen p, length (location_sent p))
  location_read p c h = rw (located_drop (location_sent p) h) (places p c h.behind).location

  locations_end_lem : (at : ℕ) (ps : List SentLocation) → All LocationConforming ps → FoundAt s at (locations_sent ps)
      → locations_end (length ps) s at ≡ Some (at + length (locations_sent ps))
  locations_end_lem at [] c h = rw add-zero
  locations_end_lem at (p ∷ ps) c h =
      let on = locations_end_lem (at + length (location_sent p)) ps c.1 (located_rest (location_sent p) (locations_sent ps) h refl) in
      rw (location_read p c.0 (located_front (location_sent p) (locations_sent ps) h), on, length-append (location_sent p) (locations_sent ps), add_assoc)

  locations_read : (at : ℕ) (ps : List SentLocation) → All LocationConforming ps → FoundAt s at (locations_sent ps)
      → locations_of (length ps) s at ≡ map location_seen ps
  locations_read at [] c h = refl
  locations_read at (p ∷ ps) c h =
      let on = locations_read (at + length (location_sent p)) ps c.1 (located_rest (location_sent p) (locations_sent ps) h refl) in
      rw (location_read p c.0 (located_front (location_sent p) (locations_sent ps) h), on)

-- a number of one byte, and what stands behind it
abbrev byte_field_lem : ℕ → List Field
byte_field_lem n = field 1 n ∷ []

module _ {s : List ℕ} {at : ℕ} (n : ℕ) (r : List ℕ) (small : n < 2 ^ 8) (h : FoundAt s at (written (byte_field_lem n) ++ r)) where
  count_read_lem : get_or s at 0 ≡ n
  count_read_lem = be_one s at ∙ first_read (byte_field_lem n) (small, tt) (located_front (written (byte_field_lem n)) r h)

  counted_located : FoundAt s (at + 1) r
  counted_located = located_rest (written (byte_field_lem n)) r h (length_written (byte_field_lem n))

-- a list behind its length in two bytes
abbrev size_field : List ℕ → List Field
size_field b = field 2 (length b) ∷ []

abbrev with_size : List ℕ → List ℕ
with_size b = written (size_field b) ++ b

module _ {s : List ℕ} {at : ℕ} (b : List ℕ) (short : length b < 2 ^ 16) (h : FoundAt s at (with_size b)) where
  size_read : be 2 s at ≡ length b
  size_read = first_read (size_field b) (omega arith) (located_front (written (size_field b)) b h)

  sized_located : FoundAt s (at + 2) b
  sized_located = located_rest (written (size_field b)) b h (length_written (size_field b))

  sized_within : at + 2 + length b ≤ length s
  sized_within = located_within b sized_located

-- an asset's parts
abbrev asset_end : SentAsset → List ℕ
asset_end a = with_size (loop_sent a.descriptors)

abbrev asset_places : SentAsset → List ℕ
asset_places a = locations_sent a.locations ++ asset_end a

abbrev asset_rest : SentAsset → List ℕ
asset_rest a = written (asset_middle a) ++ asset_places a

asset_parts : (a : SentAsset) → asset_sent a ≡ written (asset_head a) ++ (a.asset_id ++ asset_rest a)
asset_parts a = simp append_assoc

-- what is read of one that stands at `at`
abbrev middle_at : SentAsset → ℕ → ℕ
middle_at a at = at + 6 + length a.asset_id

abbrev end_at : SentAsset → ℕ → ℕ
end_at a at = middle_at a at + 6 + length (locations_sent a.locations)

abbrev asset_read : SentAsset → ℕ → Asset
asset_read a at =
    record {
      identifier_type = a.identifier_type;
      asset_id_scheme = a.id_scheme;
      asset_id = part_at (at + 6) (length a.asset_id);
      asset_type = a.asset_type;
      clock_relation = a.clock_relation =? 1;
      locations = length a.locations;
      locations_start = middle_at a at + 6;
      descriptors = part_at (end_at a at + 2) (length (loop_sent a.descriptors));
    }

module _ {s : List ℕ} {at : ℕ} (a : SentAsset) (c : AssetConforming a) (sent : FoundAt s at (asset_sent a)) where
  all_located : FoundAt s at (written (asset_head a) ++ (a.asset_id ++ asset_rest a))
  all_located = rw (asset_parts a) at sent

  id_located : FoundAt s (at + 6) (a.asset_id ++ asset_rest a)
  id_located = located_rest (written (asset_head a)) (a.asset_id ++ asset_rest a) all_located (length_written (asset_head a))

  middle_located : FoundAt s (middle_at a at) (asset_rest a)
  middle_located = located_rest a.asset_id (asset_rest a) id_located refl

  places_located : FoundAt s (middle_at a at + 6) (asset_places a)
  places_located = located_rest (written (asset_middle a)) (asset_places a) middle_located (length_written (asset_middle a))

  end_located : FoundAt s (end_at a at) (asset_end a)
  end_located = located_rest (locations_sent a.locations) (asset_end a) places_located refl

  asset_within : end_at a at + 2 + length (loop_sent a.descriptors) ≤ length s
  asset_within = sized_within (loop_sent a.descriptors) c.loop end_located

  asset_next_lem : at + length (asset_sent a) ≡ end_at a at + 2 + length (loop_sent a.descriptors)
  asset_next_lem =
      rw (asset_parts a, length-append (written (asset_head a)) (a.asset_id ++ asset_rest a), length-append a.asset_id (asset_rest a))
      (rw (length-append (written (asset_middle a)) (asset_places a), length-append (locations_sent a.locations) (asset_end a))
      (rw (length-append (written (size_field (loop_sent a.descriptors))) (loop_sent a.descriptors), length_written (asset_head a))
      (rw (length_written (asset_middle a), length_written (size_field (loop_sent a.descriptors))) (omega arith))))

  asset_step : asset_at_of s at ≡ Some (asset_read a at, at + length (asset_sent a))
  unfolding asset_at_of asset_fields
  asset_step =
      let n = length a.asset_id in
      let m = length (loop_sent a.descriptors) in
      let q = middle_at a at in
      let e = end_at a at in
      let head = located_front (written (asset_head a)) (a.asset_id ++ asset_rest a) all_located in
      let fits : Fit (asset_head a) = omega arith in
      let middle = located_front (written (asset_middle a)) (asset_places a) middle_located in
      let fits2 : Fit (asset_middle a) = omega arith in
      let kind : get_or s at 0 ≡ a.identifier_type = be_one s at ∙ first_read (asset_head a) fits head in
      let scheme : be 4 s (at + 1) ≡ a.id_scheme = field_read (asset_head a) fits head 1 in
      let len : get_or s (at + 5) 0 ≡ n = byte_read (asset_head a) fits head 2 refl in
      let type : be 4 s q ≡ a.asset_type = first_read (asset_middle a) fits2 middle in
      let clock : get_or s (q + 4) 0 % 2 ≡ a.clock_relation = rw (byte_read (asset_middle a) fits2 middle 1 refl) (omega arith) in
      let count : get_or s (q + 5) 0 ≡ length a.locations = byte_read (asset_middle a) fits2 middle 2 refl in
      let end = locations_end_lem (q + 6) a.locations c.places (located_front (locations_sent a.locations) (asset_end a) places_located) in
      let size = size_read (loop_sent a.descriptors) c.loop end_located in
      let within = asset_within in
      rw (le-ltb (length s - at) 6 (omega arith), len)
      (rw (le-ltb (length s) q (omega arith), le-ltb (length s - q) 6 (omega arith), count, end)
      (rw (le-ltb (length s - e) 2 (omega arith), size)
      (rw (le-ltb (length s - (e + 2)) m (omega arith), kind, scheme, len, type, clock, count, asset_next_lem))))

  asset_loop : part_of s (asset_read a at).descriptors ≡ loop_sent a.descriptors
  asset_loop = located_part (loop_sent a.descriptors) (sized_located (loop_sent a.descriptors) c.loop end_located)

  asset_told_lem : asset_seen s (asset_read a at) ≡ asset_value a
  asset_told_lem =
      let id = located_part a.asset_id (located_front a.asset_id (asset_rest a) id_located) in
      let ls = locations_read (middle_at a at + 6) a.locations c.places (located_front (locations_sent a.locations) (asset_end a) places_located) in
      rw (id, ls, asset_loop)

-- assets one behind another
pub record AssetsAt (s : List ℕ) (l : List SentAsset) (r : Loop Asset) : Type 0 where
  pub found : map (asset_seen s) r.found ≡ map asset_value l
  pub breaks : r.breaks ≡ 0
  pub whole : r.whole ≡ true

pub assets_read : (s : List ℕ) (at : ℕ) (l : List SentAsset) → All AssetConforming l → FoundAt s at (assets_sent l)
    → AssetsAt s l (assets_from (length l) s at)
assets_read s at [] c h = record { found = refl; breaks = refl; whole = refl }
assets_read s at (a ∷ l) c h =
    let here = located_front (asset_sent a) (assets_sent l) h in
    let r = assets_read s (at + length (asset_sent a)) l c.1 (located_rest (asset_sent a) (assets_sent l) h refl) in
    let loop = asset_loop a c.0 here in
    rw (asset_step a c.0 here)
    (record {
      found = ap₂ ◌∷◌ (asset_told_lem a c.0 here) r.found;
      breaks = rw (loop, loop_whole a.descriptors c.0.descriptors, r.breaks);
      whole = r.whole;
    })

-- MPT: its parts, from its end
abbrev mpt_assets_part : SentMpt → List ℕ
mpt_assets_part t = written (byte_field_lem (length t.assets)) ++ assets_sent t.assets

abbrev mpt_loop_part : SentMpt → List ℕ
mpt_loop_part t = written (size_field (loop_sent t.descriptors)) ++ (loop_sent t.descriptors ++ mpt_assets_part t)

abbrev mpt_front : SentMpt → List Field
mpt_front t = field 1 (packed (bits 6 t.reserved ∷ bits 2 t.mode ∷ [])) ∷ field 1 (length t.package_id) ∷ []

mpt_parts : (t : SentMpt) → mpt_rest t ≡ written (mpt_front t) ++ (t.package_id ++ mpt_loop_part t)
mpt_parts t = simp append_assoc

module _ (t : SentMpt) (c : MptConforming t) where
  mpt_headed : Headed (mpt_sent t) t.table_id t.version (mpt_rest t)
  unfolding mpt_sent
  mpt_headed = headed t.table_id t.version (mpt_rest t) c.table_id c.version c.short

  mpt_located : FoundAt (mpt_sent t) 4 (written (mpt_front t) ++ (t.package_id ++ mpt_loop_part t))
  mpt_located = rw (mpt_parts t) at mpt_headed.rest

  mpt_package : FoundAt (mpt_sent t) 6 (t.package_id ++ mpt_loop_part t)
  mpt_package = located_rest (written (mpt_front t)) (t.package_id ++ mpt_loop_part t) mpt_located (length_written (mpt_front t))

  mpt_size : FoundAt (mpt_sent t) (length t.package_id + 6) (mpt_loop_part t)
  mpt_size = rw (add_comm 6 (length t.package_id)) at (located_rest t.package_id (mpt_loop_part t) mpt_package refl)

  mpt_loop_lem : FoundAt (mpt_sent t) (mpt_loop_start t) (loop_sent t.descriptors ++ mpt_assets_part t)
  mpt_loop_lem =
      let place : length t.package_id + 6 + 2 ≡ mpt_loop_start t = omega arith in
      rw place at (located_rest (written (size_field (loop_sent t.descriptors))) (loop_sent t.descriptors ++ mpt_assets_part t) mpt_size
      (length_written (size_field (loop_sent t.descriptors))))

  mpt_assets_lem : FoundAt (mpt_sent t) (mpt_loop_start t + length (loop_sent t.descriptors)) (mpt_assets_part t)
  mpt_assets_lem = located_rest (loop_sent t.descriptors) (mpt_assets_part t) mpt_loop_lem refl

pub mpt : MptTheorem
unfolding mpt_of mpt_table mpt_assets
mpt t c =
    let s = mpt_sent t in
    let n = length t.package_id in
    let m = length (loop_sent t.descriptors) in
    let start = mpt_loop_start t in
    let table = mpt_headed t c in
    let counted = counted_located (length t.assets) (assets_sent t.assets) c.few (mpt_assets_lem t c) in
    let within = located_within (assets_sent t.assets) counted in
    let front = located_front (written (mpt_front t)) (t.package_id ++ mpt_loop_part t) (mpt_located t c) in
    let fits : Fit (mpt_front t) = omega arith in
    let mode : get_or s 4 0 % 4 ≡ t.mode = rw (byte_read (mpt_front t) fits front 0 refl) (omega arith) in
    let id : get_or s 5 0 ≡ n = byte_read (mpt_front t) fits front 1 refl in
    let short : m < 2 ^ 16 = omega (arith, table.long, c.short) in
    let size : be 2 s (n + 6) ≡ m =
    first_read (size_field (loop_sent t.descriptors)) (short, tt)
    (located_front (written (size_field (loop_sent t.descriptors))) (loop_sent t.descriptors ++ mpt_assets_part t) (mpt_size t c)) in
    let loop = located_part (loop_sent t.descriptors) (located_front (loop_sent t.descriptors) (mpt_assets_part t) (mpt_loop_lem t c)) in
    let number = count_read_lem (length t.assets) (assets_sent t.assets) c.few (mpt_assets_lem t c) in
    let l = assets_read s (mpt_assets_start t) t.assets c.assets counted in
    record {
      table =
          rw (table.declared, table.whole, le-ltb (length s) 6 (omega arith), id)
          (rw (le-ltb (length s) (n + 8) (omega arith), size, le-ltb (length s - start) m (omega arith))
          (rw (le-ltb (length s - (start + m)) 1 (omega arith), number, l.whole, l.breaks, loop)
          (rw (loop_whole t.descriptors c.descriptors, table.id, table.version, mode))));
      package_id = located_part t.package_id (located_front t.package_id (mpt_loop_part t) (mpt_package t c));
      descriptors = loop;
      assets = l.found;
    }

-- PLT: a package that stands at `at`
abbrev package_rest : SentPackage → List ℕ
package_rest p = p.package_id ++ location_sent p.location

package_parts : (p : SentPackage) → package_sent p ≡ written (byte_field_lem (length p.package_id)) ++ package_rest p
package_parts p = append_assoc (written (byte_field_lem (length p.package_id))) p.package_id (location_sent p.location)

abbrev package_read : SentPackage → ℕ → Package
package_read p at =
    record {
      package_id = part_at (at + 1) (length p.package_id);
      location = location_seen p.location;
      location_start = at + 1 + length p.package_id;
    }

module _ {s : List ℕ} {at : ℕ} (p : SentPackage) (c : PackageConforming p) (sent : FoundAt s at (package_sent p)) where
  package_located : FoundAt s at (written (byte_field_lem (length p.package_id)) ++ package_rest p)
  package_located = rw (package_parts p) at sent

  package_id_lem : FoundAt s (at + 1) (package_rest p)
  package_id_lem = counted_located (length p.package_id) (package_rest p) c.package_id package_located

  package_place : FoundAt s (at + 1 + length p.package_id) (location_sent p.location)
  package_place = located_rest p.package_id (location_sent p.location) package_id_lem refl

  package_next : at + length (package_sent p) ≡ at + 1 + length p.package_id + length (location_sent p.location)
  package_next =
      let n = length p.package_id in
      rw (package_parts p, length-append (written (byte_field_lem n)) (package_rest p), length-append p.package_id (location_sent p.location))
      (rw (length_written (byte_field_lem n)) (omega arith))

  package_step : package_at_of s at ≡ Some (package_read p at, at + length (package_sent p))
  unfolding package_at_of
  package_step =
      let n = length p.package_id in
      let within = located_within (location_sent p.location) package_place in
      let len = count_read_lem n (package_rest p) c.package_id package_located in
      rw (lt-leb (length s) at (omega arith), len, le-ltb (length s - (at + 1)) n (omega arith))
      (rw (location_read p.location c.location package_place, package_next))

  package_told_lem : package_seen s (package_read p at) ≡ package_value p
  package_told_lem = rw (located_part p.package_id (located_front p.package_id (location_sent p.location) package_id_lem))

-- packages one behind another
module _ (s : List ℕ) where
  packages_end_lem : (at : ℕ) (l : List SentPackage) → All PackageConforming l → FoundAt s at (packages_sent l)
      → packages_end (length l) s at ≡ Some (at + length (packages_sent l))
  packages_end_lem at [] c h = rw add-zero
  packages_end_lem at (p ∷ l) c h =
      let on = packages_end_lem (at + length (package_sent p)) l c.1 (located_rest (package_sent p) (packages_sent l) h refl) in
      rw (package_step p c.0 (located_front (package_sent p) (packages_sent l) h), on, length-append (package_sent p) (packages_sent l), add_assoc)

  packages_read : (at : ℕ) (l : List SentPackage) → All PackageConforming l → FoundAt s at (packages_sent l)
      → map (package_seen s) (packages_of (length l) s at) ≡ map package_value l
  packages_read at [] c h = refl
  packages_read at (p ∷ l) c h =
      let here = located_front (package_sent p) (packages_sent l) h in
      let on = packages_read (at + length (package_sent p)) l c.1 (located_rest (package_sent p) (packages_sent l) h refl) in
      rw (package_step p c.0 here) (ap₂ ◌∷◌ (package_told_lem p c.0 here) on)

-- the location of an IP delivery, behind its type
delivery_size_lem : (s : List ℕ) (at : ℕ) (d : Delivery) → DeliveryConforming d → get_or (drop (at + 4) s) 0 0 ≡ delivery_type d
    → FoundAt s (at + 5) (delivery_location d) → delivery_size (drop (at + 4) s) ≡ Some (length (delivery_location d))
unfolding delivery_size
delivery_size_lem s at (over_ipv4 a b p) c e h = rw (e, length_written (field 4 a ∷ field 4 b ∷ field 2 p ∷ []))
delivery_size_lem s at (over_ipv6 ah al bh bl p) c e h =
    rw (e, length_written (field 8 ah ∷ field 8 al ∷ field 8 bh ∷ field 8 bl ∷ field 2 p ∷ []))
delivery_size_lem s at (at_url b) c e h =
    let place : at + 4 + 1 ≡ at + 5 = omega arith in
    let len : get_or (drop (at + 4) s) 1 0 ≡ length b = rw (get_or-drop (at + 4) s 1 0, place) (count_read_lem (length b) b c h) in
    let within = located_within b (counted_located (length b) b c h) in
    rw (e, le-ltb (length (drop (at + 4) s)) 2 (omega (arith, length-drop (at + 4) s)), len)
    (rw (length-append (written (byte_field_lem (length b))) b, length_written (byte_field_lem (length b)), add_comm 1 (length b)))

-- an IP delivery that stands at `at`
abbrev delivery_head : SentDelivery → List Field
delivery_head x = field 4 x.file_id ∷ field 1 (delivery_type x.place) ∷ []

abbrev delivery_rest : SentDelivery → List ℕ
delivery_rest x = delivery_location x.place ++ with_size x.loop

delivery_parts : (x : SentDelivery) → delivery_sent x ≡ written (delivery_head x) ++ delivery_rest x
delivery_parts x = simp append_assoc

type_fits : (d : Delivery) → delivery_type d < 2 ^ 8
type_fits (over_ipv4 a b p) = omega arith
type_fits (over_ipv6 ah al bh bl p) = omega arith
type_fits (at_url b) = omega arith

module _ {s : List ℕ} {at : ℕ} (x : SentDelivery) (c : SentDeliveryConforming x) (sent : FoundAt s at (delivery_sent x)) where
  delivery_located : FoundAt s at (written (delivery_head x) ++ delivery_rest x)
  delivery_located = rw (delivery_parts x) at sent

  delivery_place : FoundAt s (at + 5) (delivery_rest x)
  delivery_place = located_rest (written (delivery_head x)) (delivery_rest x) delivery_located (length_written (delivery_head x))

  delivery_end : FoundAt s (at + 5 + length (delivery_location x.place)) (with_size x.loop)
  delivery_end = located_rest (delivery_location x.place) (with_size x.loop) delivery_place refl

  delivery_next : at + length (delivery_sent x) ≡ at + 7 + length (delivery_location x.place) + length x.loop
  delivery_next =
      rw (delivery_parts x, length-append (written (delivery_head x)) (delivery_rest x))
      (rw (length-append (delivery_location x.place) (with_size x.loop), length-append (written (size_field x.loop)) x.loop)
      (rw (length_written (delivery_head x), length_written (size_field x.loop)) (omega arith)))

  delivery_step : delivery_at_of s at ≡ Some (delivery_value x, at + length (delivery_sent x))
  unfolding delivery_at_of
  delivery_step =
      let k = length (delivery_location x.place) in
      let within = sized_within x.loop c.loop delivery_end in
      let head = located_front (written (delivery_head x)) (delivery_rest x) delivery_located in
      let fits : Fit (delivery_head x) = (c.file_id, (type_fits x.place, tt)) in
      let file : be 4 s at ≡ x.file_id = first_read (delivery_head x) fits head in
      let type : get_or s (at + 4) 0 ≡ delivery_type x.place = byte_read (delivery_head x) fits head 1 refl in
      let type2 : get_or (drop (at + 4) s) 0 0 ≡ delivery_type x.place = rw (get_or-drop (at + 4) s 0 0, add-zero (at + 4)) type in
      let place = delivery_size_lem s at x.place c.place type2 (located_front (delivery_location x.place) (with_size x.loop) delivery_place) in
      let size = size_read x.loop c.loop delivery_end in
      rw (le-ltb (length s - at) 5 (omega arith), place)
      (rw (le-ltb (length s) (at + 7 + k) (omega arith), file, type, size, delivery_next))

-- IP deliveries one behind another
deliveries_read : (s : List ℕ) (at : ℕ) (l : List SentDelivery) → All SentDeliveryConforming l → FoundAt s at (deliveries_sent l)
    → deliveries_from (length l) s at ≡ Some (map delivery_value l)
deliveries_read s at [] c h = refl
deliveries_read s at (x ∷ l) c h =
    let on = deliveries_read s (at + length (delivery_sent x)) l c.1 (located_rest (delivery_sent x) (deliveries_sent l) h refl) in
    rw (delivery_step x c.0 (located_front (delivery_sent x) (deliveries_sent l) h), on)

-- PLT: its parts
abbrev plt_deliveries_part : SentPlt → List ℕ
plt_deliveries_part t = written (byte_field_lem (length t.deliveries)) ++ deliveries_sent t.deliveries

abbrev plt_packages_part : SentPlt → List ℕ
plt_packages_part t = packages_sent t.packages ++ plt_deliveries_part t

plt_parts : (t : SentPlt) → plt_rest t ≡ written (byte_field_lem (length t.packages)) ++ plt_packages_part t
plt_parts t = append_assoc (written (byte_field_lem (length t.packages))) (packages_sent t.packages) (plt_deliveries_part t)

module _ (t : SentPlt) (c : PltConforming t) where
  plt_headed : Headed (plt_sent t) t.table_id t.version (plt_rest t)
  unfolding plt_sent
  plt_headed = headed t.table_id t.version (plt_rest t) c.table_id c.version c.short

  plt_located : FoundAt (plt_sent t) 4 (written (byte_field_lem (length t.packages)) ++ plt_packages_part t)
  plt_located = rw (plt_parts t) at plt_headed.rest

  plt_packages : FoundAt (plt_sent t) 5 (plt_packages_part t)
  plt_packages = counted_located (length t.packages) (plt_packages_part t) c.few_packages plt_located

  plt_deliveries_lem : FoundAt (plt_sent t) (5 + length (packages_sent t.packages)) (plt_deliveries_part t)
  plt_deliveries_lem = located_rest (packages_sent t.packages) (plt_deliveries_part t) plt_packages refl

pub plt : PltTheorem
unfolding plt_of plt_table plt_deliveries deliveries_whole
plt t c =
    let s = plt_sent t in
    let end = 5 + length (packages_sent t.packages) in
    let start : end + 1 ≡ plt_deliveries_start t = omega arith in
    let table = plt_headed t c in
    let number = count_read_lem (length t.packages) (plt_packages_part t) c.few_packages (plt_located t c) in
    let packages = located_front (packages_sent t.packages) (plt_deliveries_part t) (plt_packages t c) in
    let number2 = count_read_lem (length t.deliveries) (deliveries_sent t.deliveries) c.few_deliveries (plt_deliveries_lem t c) in
    let deliveries = counted_located (length t.deliveries) (deliveries_sent t.deliveries) c.few_deliveries (plt_deliveries_lem t c) in
    let within = located_within (deliveries_sent t.deliveries) deliveries in
    let read = deliveries_read s (plt_deliveries_start t) t.deliveries c.deliveries (rw start at deliveries) in
    record {
      table =
          rw (table.declared, table.whole, le-ltb (length s) 5 (omega arith), number)
          (rw (packages_end_lem s 5 t.packages c.packages packages, ne_eqb (length s - end) 0 (λ e. omega arith), number2, start)
          (rw (read, table.version, number)));
      packages = packages_read s 5 t.packages c.packages packages;
      deliveries = read;
    }
