-- The locations and the assets of a package, one behind another: each leads on to a place within the table, so that a loop which
-- counts them down goes over all of them. Assumes nothing.
use Rattle.std.specs.Prelude.{None, Option, Some}
use Rattle.std.proofs.Common.{◌≡◌, ℕ, zero, suc, ◌+◌, ◌-◌, ◌<◌, ◌≤◌, true, false, List, [], ◌∷◌, length, drop, refl, ap, add-zero, add_assoc, zero-add, arith, length-drop, drop_of_length-le}
use denote.Enum.Declared.{tag_of as variant_of}
use types.Run.{OneOf, miss}
use Rattle.isdb_tlv.specs.Walk.{turn}
use Rattle.isdb_tlv.proofs.Walk.{run_stop, run_more}
use Rattle.isdb_mmt.specs.contracts.desc.Descriptor.{the_type}
use Rattle.isdb_mmt.proofs.Entries.{broken_le}
use Rattle.isdb_mmt.proofs.Locations.{Takes, takes}
use Rattle.isdb_mmt.specs.Formats.Location.{location_of, packet_id_of}
use Rattle.isdb_mmt.specs.Formats.Part.{part_of}
use Rattle.isdb_mmt.specs.Formats.Desc.{broken, Loop, ended, also_described}
use Rattle.isdb_mmt.specs.Formats.Mpt.{behind_location, locations_end, location_item, locations_of, first_packet_id, asset_at_of, asset_item, assets_from, loop_told, assets_told, tag_of}
use Rattle.isdb_mmt.specs.declared.location.Location.{Location}
use Rattle.isdb_mmt.specs.declared.desc.Descriptor.{Descriptor}
use Rattle.isdb_mmt.specs.declared.desc.Descriptor.TheVariants.{MpuTimestamp, ExtendedTimestamp, AccessControl, Scrambler, StreamIdentifier, Service, ServiceList, ShortEvent, Content, Hevc, BroadcasterName, Other}
use Rattle.isdb_mmt.specs.declared.table.mpt.Asset.{Asset}
use Rattle.isdb_mmt.specs.declared.table.mpt.AssetLoop.{AssetLoop}

module _ (s : List ℕ) (at : ℕ) where
  -- no location stands behind the end
  pub no_location_lem : length s ≤ at → location_of (drop at s) ≡ None
  unfolding location_of
  no_location_lem h = rw (drop_of_length-le s {i = at} h)

  -- one that was read ends within the bytes
  pub location_within : {l : Location} {taken : ℕ} → location_of (drop at s) ≡ Some (l, taken) → at + taken ≤ length s
  location_within e = let t = rw e at (takes (drop at s)) in omega (arith, length-drop at s)

  -- the turns of the loop that steps over n locations
  pub end_none : (n : ℕ) → 0 < n → location_of (drop at s) ≡ None → locations_end n s at ≡ None
  end_none n h e = run_stop (λ p. behind_location p (location_of (drop p s))) Some at n h (rw e)

  pub end_on : (n : ℕ) {l : Location} {taken : ℕ} → 0 < n → location_of (drop at s) ≡ Some (l, taken)
      → locations_end n s at ≡ locations_end (n - 1) s (at + taken)
  end_on n {l} {taken} h e =
      run_more (λ p. behind_location p (location_of (drop p s))) Some at n {next = at + taken} {f = λ end. end} h (rw e)

  -- the turns of the search for a packet id
  pub first_none : (n : ℕ) → 0 < n → location_of (drop at s) ≡ None → first_packet_id (locations_of n s at) ≡ None
  first_none n h e = ap first_packet_id (run_stop (λ p. location_item p (location_of (drop p s))) (λ p. []) at n {r = []} h (rw e))

  located_on : (n : ℕ) {l : Location} {taken : ℕ} → 0 < n → location_of (drop at s) ≡ Some (l, taken)
      → locations_of n s at ≡ l ∷ locations_of (n - 1) s (at + taken)
  located_on n {l} {taken} h e =
      run_more (λ p. location_item p (location_of (drop p s))) (λ p. []) at n {next = at + taken} {f = λ ls. l ∷ ls} h (rw e)

  pub first_some : (n : ℕ) {l : Location} {taken p : ℕ} → 0 < n → location_of (drop at s) ≡ Some (l, taken) → packet_id_of l ≡ Some p
      → first_packet_id (locations_of n s at) ≡ Some p
  first_some n h e d = rw (located_on n h e, d)

  pub first_on : (n : ℕ) {l : Location} {taken : ℕ} → 0 < n → location_of (drop at s) ≡ Some (l, taken) → packet_id_of l ≡ None
      → first_packet_id (locations_of n s at) ≡ first_packet_id (locations_of (n - 1) s (at + taken))
  first_on n h e d = rw (located_on n h e, d)

-- a place within the bytes
abbrev pub Within : List ℕ → Option ℕ → Type 0
Within s None = Unit {0}
Within s (Some p) = p ≤ length s

-- locations from a place within the bytes end within them
module _ (s : List ℕ) where
  behind_within : (go : ℕ → Option ℕ) → ((p : ℕ) → p ≤ length s → Within s (go p)) → (at : ℕ) (d : Option (Location × ℕ)) → at ≤ length s
      → Takes (drop at s) d → Within s (turn go (behind_location at d))
  behind_within go h at None b t = tt
  behind_within go h at (Some (l, taken)) b t = h (at + taken) (omega (arith, length-drop at s))

  pub end_within : (n at : ℕ) → at ≤ length s → Within s (locations_end n s at)
  end_within zero at h = h
  end_within (suc n) at h = behind_within (locations_end n s) (end_within n) at (location_of (drop at s)) h (takes (drop at s))

-- k breaks before these
unfoldable pub plus : ℕ → Loop Asset → AssetLoop
plus k l = record { whole = l.whole; breaks = k + l.breaks }

pub plus_zero : (l : Loop Asset) → plus 0 l ≡ loop_told l
unfolding plus
plus_zero l = rw zero-add

-- the turns of the loop over n assets
module _ (s : List ℕ) (at k : ℕ) where
  pub loop_end : (n : ℕ) → 0 < n → asset_at_of s at ≡ None → plus k (assets_from n s at) ≡ record { whole = false; breaks = k }
  unfolding plus
  loop_end n h e = rw (run_stop (λ p. asset_item s (asset_at_of s p)) (λ p. ended true) at n {r = ended false} h (rw e), add-zero)

  pub loop_on : (n i : ℕ) {r : AssetLoop} {a : Asset} {next b : ℕ} → plus k (assets_from (n - i) s at) ≡ r → i < n
      → asset_at_of s at ≡ Some (a, next) → b ≡ broken (part_of s a.descriptors) → plus (k + b) (assets_from (n - (i + 1)) s next) ≡ r
  unfolding plus
  loop_on n i {r} {a} {next} w h e d =
      let also : Loop Asset → Loop Asset = also_described s a.descriptors a in
      let z : n - (i + 1) ≡ n - i - 1 = omega arith in
      rw (z, d, add_assoc) (rw (run_more (λ p. asset_item s (asset_at_of s p)) (λ p. ended true) at (n - i) {next = next} {f = also} (omega arith) (rw e)) at w)

  pub loop_done : (n i : ℕ) → n ≤ i → plus k (assets_from (n - i) s at) ≡ record { whole = true; breaks = k }
  unfolding plus
  loop_done n i h = let e : n - i ≡ 0 = omega arith in rw (e, add-zero)

-- n assets have n descriptor loops that break at most
module _ (s : List ℕ) where
  then_le : (n : ℕ) (go : ℕ → Loop Asset) → ((p : ℕ) → (go p).breaks ≤ n) → (d : Option (Asset × ℕ)) → (turn go (asset_item s d)).breaks ≤ suc n
  then_le n go h None = omega arith
  then_le n go h (Some (a, next)) = let b = broken_le (part_of s a.descriptors) refl in omega (arith, h next)

  loop_le : (n at : ℕ) → (assets_from n s at).breaks ≤ n
  loop_le zero at = omega arith
  loop_le (suc n) at = then_le n (assets_from n s) (loop_le n) (asset_at_of s at)

  -- the loop as it was told
  module _ (n at : ℕ) {r : AssetLoop} (e : r ≡ assets_told n s at) where
    pub whole_told : (assets_from n s at).whole ≡ r.whole
    unfolding assets_told
    whole_told = rw e

    pub breaks_told : (assets_from n s at).breaks ≡ r.breaks
    unfolding assets_told
    breaks_told = rw e

    pub breaks_le : r.breaks ≤ n
    breaks_le = rw breaks_told at (loop_le n at)

-- a descriptor of any variant but the stream identifier tells no component tag
abbrev without_tag : List ℕ
without_tag = 0 ∷ 1 ∷ 2 ∷ 3 ∷ 5 ∷ 6 ∷ 7 ∷ 8 ∷ 9 ∷ 10 ∷ 11 ∷ []

pub no_tag : (d : Descriptor) → OneOf without_tag (variant_of the_type d) → tag_of d ≡ None
no_tag MpuTimestamp h = refl
no_tag (ExtendedTimestamp e) h = refl
no_tag (AccessControl c l) h = refl
no_tag (Scrambler l i) h = refl
no_tag (StreamIdentifier c) h = absurd (miss without_tag 4 tt h)
no_tag (Service t p n) h = refl
no_tag ServiceList h = refl
no_tag (ShortEvent l n t) h = refl
no_tag Content h = refl
no_tag (Hevc p t l) h = refl
no_tag (BroadcasterName n) h = refl
no_tag (Other t b) h = refl
