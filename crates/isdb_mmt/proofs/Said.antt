-- What the places of a session say of an id and of a key is what the view says. Assumes nothing.
use Rattle.std.specs.Prelude.{None, Some, Option}
use Rattle.std.proofs.Common.{◌≡◌, ℕ, ◌+◌, ◌-◌, ◌*◌, ◌<◌, ◌≤◌, Bool, true, false, List, [], map, length, sym, refl, ap, ◌∙◌, arith}
use lib.ListN.{length-map}
use Rattle.isdb_tlv.specs.Bytes.{be}
use Rattle.isdb_mmt.specs.Decoder.Packet.{Bytes}
use Rattle.isdb_mmt.specs.Decoder.Maps.{find, or_else}
use Rattle.isdb_mmt.specs.Decoder.Objects.{Mfu, Asset, fresh}
use Rattle.isdb_mmt.specs.Decoder.Kept.{Kept}
use Rattle.isdb_mmt.specs.Decoder.Model.{Control as ControlState, asset_of}
use Rattle.isdb_mmt.specs.Books.Demand.{held_bytes, held_of, dropped_of, lost_of}
use Rattle.isdb_mmt.specs.Memory.Lent.{part, places_from, names_from, found_from, indexed}
use Rattle.isdb_mmt.specs.Memory.Layout.{media_places, media_size, control_places, control_size, section_places, section_size}
use Rattle.isdb_mmt.specs.Memory.Session.{Session, limits_of, used_of, media_place_of, control_place_of, section_place_of}
use Rattle.isdb_mmt.specs.Memory.Check.{media_in, controls_in, sections_in}
use Rattle.isdb_mmt.specs.Memory.View.{given, mfu_of, asset_of_place, asset_entry, control_entry, section_entry, view_by, view}
use Rattle.isdb_mmt.specs.Answers.Readings.{media_found, control_found, section_found}
use Rattle.isdb_mmt.specs.Theorems.Calls.{dropped_at, lost_at, held_at, kept_at, dropped_in, lost_in, held_in, kept_in}
use Rattle.isdb_mmt.specs.declared.decoder.limits.Limits.{Limits}
use Rattle.isdb_mmt.specs.declared.decoder.media.Media.{Media}
use Rattle.isdb_mmt.specs.declared.decoder.control.Control.{Control}
use Rattle.isdb_mmt.specs.declared.decoder.section.KeptSection.{KeptSection}
use Rattle.isdb_mmt.proofs.Views.{keys, found_at, absent}
use Rattle.isdb_mmt.proofs.PlacesFor.{names_view, media_name, control_name, section_name, get_d_places, get_d_indexed, length_indexed}
use Rattle.isdb_mmt.proofs.Lent.{length_places}

-- the entry of a name is that of the place that has it
module _ {A B : Type 0} (of : Bytes → A) (name : A → ℕ) (g : ℕ → A → ℕ × B) (size at n : ℕ) (l : Bytes) where
  abbrev pub entry_at : Option ℕ → Option B
  entry_at None = None
  entry_at (Some i) = Some (g i (of (part (at + size * i) size l))).1

  abbrev es : List (ℕ × B)
  es = indexed g 0 (map of (places_from n size at l))

  pub found_entry : 4 ≤ size → ((i : ℕ) (x : A) → (g i x).0 ≡ name x) → ((p : Bytes) → name (of p) ≡ be 4 p 0) → (x : ℕ)
      → find x es ≡ entry_at (found_from 0 (names_from n size at l) x)
  found_entry wide f e x = go (found_from 0 (names_from n size at l) x) refl
    where
      named : found_from 0 (keys es) x ≡ found_from 0 (names_from n size at l) x
      named = ap (λ (ns : List ℕ). found_from 0 ns x) (names_view of name g size at n l wide f e)

      go : (q : Option ℕ) → found_from 0 (names_from n size at l) x ≡ q → find x es ≡ entry_at q
      go None w = (absent es x 0 (named ∙ w)).0
      go (Some i) w =
          let d : A = of [] in
          let k = found_at es x 0 i (named ∙ w) in
          let z : i - 0 ≡ i = omega arith in
          let y : 0 + i ≡ i = omega arith in
          let b : length (map of (places_from n size at l)) ≡ n = length-map (places_from n size at l) of ∙ length_places size n at l in
          let u : i < n = omega (arith, k.1.within, length_indexed g 0 (map of (places_from n size at l))) in
          rw z at (k.1.found (g 0 d).1)
          ∙ ap (λ (p : ℕ × B). Some p.1)
          (rw y at (get_d_indexed g (map of (places_from n size at l)) 0 i d (0, (g 0 d).1) (omega arith)) ∙ ap (g i) (get_d_places of size d l n i at u))

module _ (s : Session) where
  abbrev l : Limits
  l = limits_of s.state

  abbrev pub media_entry : Option ℕ → Option Asset
  media_entry = entry_at media_place_of (λ (m : Media). m.packet_id) (asset_entry l s) media_size media_places (used_of s.state).media_ids s.state

  abbrev pub control_at_place : Option ℕ → Option ControlState
  control_at_place = entry_at control_place_of (λ (m : Control). m.packet_id) (control_entry l s) control_size control_places (used_of s.state).control_ids s.state

  abbrev pub kept_entry : Option ℕ → Option Kept
  kept_entry = entry_at section_place_of (λ (m : KeptSection). m.key) (section_entry l s) section_size section_places (used_of s.state).sections s.state

  pub media_found_lem : (i : ℕ) → find i (view s).assets ≡ media_entry (media_found s i)
  unfolding view view_by media_in media_found
  media_found_lem i =
      found_entry media_place_of (λ (m : Media). m.packet_id) (asset_entry l s) media_size media_places (used_of s.state).media_ids s.state (omega arith)
      (λ j x. refl) media_name i

  pub control_found_lem : (i : ℕ) → find i (view s).controls ≡ control_at_place (control_found s i)
  unfolding view view_by controls_in control_found
  control_found_lem i =
      found_entry control_place_of (λ (m : Control). m.packet_id) (control_entry l s) control_size control_places (used_of s.state).control_ids s.state
      (omega arith) (λ j x. refl) control_name i

  pub section_found_lem : (k : ℕ) → find k (view s).store.kept ≡ kept_entry (section_found s k)
  unfolding view view_by sections_in section_found
  section_found_lem k =
      found_entry section_place_of (λ (m : KeptSection). m.key) (section_entry l s) section_size section_places (used_of s.state).sections s.state (omega arith)
      (λ j x. refl) section_name k

  -- ---- of a media id

  of_dropped : (p : Option ℕ) → dropped_at s p ≡ (or_else fresh (media_entry p)).stats.mfus_dropped
  unfolding or_else fresh asset_of_place
  of_dropped None = refl
  of_dropped (Some i) = refl

  pub dropped_said : (i : ℕ) → dropped_in s i ≡ dropped_of i (view s)
  unfolding dropped_in asset_of
  dropped_said i = of_dropped (media_found s i) ∙ sym (ap (λ (o : Option Asset). (or_else fresh o).stats.mfus_dropped) (media_found_lem i))

  of_lost : (p : Option ℕ) → lost_at s p ≡ (or_else fresh (media_entry p)).stats.packets_lost
  unfolding or_else fresh asset_of_place
  of_lost None = refl
  of_lost (Some i) = refl

  pub lost_said : (i : ℕ) → lost_in s i ≡ lost_of i (view s)
  unfolding lost_in asset_of
  lost_said i = of_lost (media_found s i) ∙ sym (ap (λ (o : Option Asset). (or_else fresh o).stats.packets_lost) (media_found_lem i))

  given_held : (b : Bool) (u : Mfu) → given b u.bytes ≡ held_bytes (given b u)
  unfolding held_bytes
  given_held true u = refl
  given_held false u = refl

  of_held : (p : Option ℕ) → held_at s p ≡ held_bytes (or_else fresh (media_entry p)).held
  unfolding or_else fresh asset_of_place held_bytes mfu_of
  of_held None = refl
  of_held (Some i) =
      let m : Media = media_place_of (part (media_places + media_size * i) media_size s.state) in
      given_held m.held (mfu_of m.object (part (i * l.mfu_area) m.object.length s.objects))

  pub held_said_lem : (i : ℕ) → held_in s i ≡ held_of i (view s)
  unfolding held_in asset_of
  held_said_lem i = of_held (media_found s i) ∙ sym (ap (λ (o : Option Asset). held_bytes (or_else fresh o).held) (media_found_lem i))

  -- ---- of a key

  of_kept : (p : Option ℕ) → kept_at s p ≡ kept_entry p
  of_kept None = refl
  of_kept (Some i) = refl

  pub kept_said : (k : ℕ) → kept_in s k ≡ find k (view s).store.kept
  unfolding kept_in
  kept_said k = of_kept (section_found s k) ∙ sym (section_found_lem k)
