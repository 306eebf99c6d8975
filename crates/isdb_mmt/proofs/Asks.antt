-- Questions 8 to 10 by the place of the id and the effect of the units: what the needs are, and so the number. Assumes nothing.
use Rattle.std.proofs.Common.{◌≡◌, ℕ, ◌+◌, ◌-◌, ◌*◌, ◌<◌, ◌≤◌, cond, ltb, List, [], ◌∷◌, ◌++◌, length, ap, ◌∙◌, arith, length-append, length-set, le-ltb, lt-ltb}
use Rattle.isdb_mmt.specs.Decoder.Packet.{MpuPacket, media, readable}
use Rattle.isdb_mmt.specs.Decoder.Maps.{put}
use Rattle.isdb_mmt.specs.Decoder.Objects.{Asset, Rec, passes, tagged, after_headers, delivered_by, media_gives, asset_after}
use Rattle.isdb_mmt.specs.Decoder.Model.{asset_of, pushed, gives}
use Rattle.isdb_mmt.specs.Decoder.Needs.{data_of, needs}
use Rattle.isdb_mmt.specs.Memory.Lent.{found_from, names_from}
use Rattle.isdb_mmt.specs.Memory.Layout.{media_places, media_size}
use Rattle.isdb_mmt.specs.Pushes.Records.{row_size}
use Rattle.isdb_mmt.specs.Memory.Session.{Session, limits_of, used_of}
use Rattle.isdb_mmt.specs.Memory.Check.{lengths_of, Sound}
use Rattle.isdb_mmt.specs.Memory.View.{view, view_by}
use Rattle.isdb_mmt.specs.Pushes.MediaPush.{media_place_for, media_asks}
use Rattle.isdb_mmt.specs.declared.decoder.place.PlaceFor.TheVariants.{Own, Free, NoneFree}
use Rattle.isdb_mmt.specs.declared.decoder.reassembler.MediaEffect.{MediaEffect}
use Rattle.isdb_mmt.proofs.Lent.{length_names}
use Rattle.isdb_mmt.proofs.Views.{found_at, absent}
use Rattle.isdb_mmt.proofs.PlacesFor.{entries, entry_names, place_for_was_old, place_for_was_new, place_for_was_full}
use Rattle.isdb_mmt.proofs.EffectsModelled.{Told, bytes_tagged, length_tagged}

data_append : (xs ys : List Rec) → data_of (xs ++ ys) ≡ data_of xs + data_of ys
data_append [] ys = omega arith
data_append (x ∷ xs) ys = rw (data_append xs ys) (omega arith)

-- ---- records, data and the longest object

module _ (s : Session) (m : MpuPacket) (start t : MediaEffect) (z1 : start.records ≡ 0) (z2 : start.bytes ≡ 0) (z3 : start.longest ≡ 0)
    (w : Told m start (after_headers (asset_of m.id (view s)) m) t (readable m)) where
  abbrev passed_on : List Rec
  passed_on = passes (view s).passing m

  pub object_is : (needs (view s) (media m)).object ≡ t.longest
  unfolding needs
  object_is = omega (arith, w.longest, z3)

  pub records_is : (needs (view s) (media m)).records ≡ length passed_on + t.records
  unfolding needs gives media_gives
  records_is =
      let ds = delivered_by m (after_headers (asset_of m.id (view s)) m) (readable m) in
      omega (arith, length-append passed_on (tagged m.id ds), length_tagged m.id ds, w.records, z1)

  pub bytes_is : (needs (view s) (media m)).data_bytes ≡ data_of passed_on + t.bytes
  unfolding needs gives media_gives
  bytes_is =
      let ds = delivered_by m (after_headers (asset_of m.id (view s)) m) (readable m) in
      omega (arith, data_append passed_on (tagged m.id ds), bytes_tagged m.id ds, w.bytes, z2)

-- ---- places

module _ (s : Session) (ok : Sound s.state s.others (lengths_of s)) (m : MpuPacket) where
  abbrev next : Asset
  next = asset_after (asset_of m.id (view s)) m

  abbrev names : List ℕ
  names = names_from (used_of s.state).media_ids media_size media_places s.state

  -- full exactly where the question is answered no
  pub full_is : media_place_for s.state m.id ≡ NoneFree → (limits_of s.state).media_ids < (used_of s.state).media_ids + (needs (view s) (media m)).media_ids
  unfolding media_place_for needs pushed view view_by
  full_is e =
      let w = place_for_was_full names (limits_of s.state).media_ids m.id e in
      let r = (absent (entries s) m.id 0 (ap (λ (ns : List ℕ). found_from 0 ns m.id) (entry_names s) ∙ w.0)).1 next in
      let k : length (put m.id next (entries s)) ≡ length (entries s) + 1 = ap length r ∙ length-append (entries s) ((m.id, next) ∷ []) in
      omega (arith, k, w.1, length_names media_size (used_of s.state).media_ids media_places s.state)

  pub old_is : (i : ℕ) → media_place_for s.state m.id ≡ Own i
      → (used_of s.state).media_ids + (needs (view s) (media m)).media_ids ≤ (limits_of s.state).media_ids
  unfolding media_place_for needs pushed view view_by
  old_is i e =
      let d = place_for_was_old names (limits_of s.state).media_ids m.id i e in
      let r = (found_at (entries s) m.id 0 i (ap (λ (ns : List ℕ). found_from 0 ns m.id) (entry_names s) ∙ d)).1.stored next in
      let k : length (put m.id next (entries s)) ≡ length (entries s) = ap length r ∙ length-set (entries s) (i - 0) (m.id, next) in
      omega (arith, k, ok.media)

  pub new_is : (i : ℕ) → media_place_for s.state m.id ≡ Free i
      → (used_of s.state).media_ids + (needs (view s) (media m)).media_ids ≤ (limits_of s.state).media_ids
  unfolding media_place_for needs pushed view view_by
  new_is i e =
      let w = place_for_was_new names (limits_of s.state).media_ids m.id i e in
      let r = (absent (entries s) m.id 0 (ap (λ (ns : List ℕ). found_from 0 ns m.id) (entry_names s) ∙ w.0)).1 next in
      let k : length (put m.id next (entries s)) ≡ length (entries s) + 1 = ap length r ∙ length-append (entries s) ((m.id, next) ∷ []) in
      omega (arith, k, w.1.0, w.1.1, length_names media_size (used_of s.state).media_ids media_places s.state)

  -- ---- the number

  pub number_full : (rows bytes : ℕ) → media_place_for s.state m.id ≡ NoneFree → media_asks s rows bytes m ≡ 8
  unfolding media_asks
  number_full rows bytes e =
      ap (λ b. cond b 8 (cond (ltb (limits_of s.state).mfu_area (needs (view s) (media m)).object) 9
      (cond (ltb rows (row_size * (needs (view s) (media m)).records)) 10 (cond (ltb bytes (needs (view s) (media m)).data_bytes) 10 0))))
      (lt-ltb (limits_of s.state).media_ids ((used_of s.state).media_ids + (needs (view s) (media m)).media_ids) (full_is e))

  pub number_is : (rows bytes : ℕ) (start t : MediaEffect) → start.records ≡ 0 → start.bytes ≡ 0 → start.longest ≡ 0
      → Told m start (after_headers (asset_of m.id (view s)) m) t (readable m)
      → (used_of s.state).media_ids + (needs (view s) (media m)).media_ids ≤ (limits_of s.state).media_ids
      → media_asks s rows bytes m
      ≡ cond (ltb (limits_of s.state).mfu_area t.longest) 9
      (cond (ltb rows (row_size * (length (passes (view s).passing m) + t.records))) 10
      (cond (ltb bytes (data_of (passes (view s).passing m) + t.bytes)) 10 0))
  unfolding media_asks
  number_is rows bytes start t z1 z2 z3 w free =
      ap (λ b. cond b 8 (cond (ltb (limits_of s.state).mfu_area (needs (view s) (media m)).object) 9
      (cond (ltb rows (row_size * (needs (view s) (media m)).records)) 10 (cond (ltb bytes (needs (view s) (media m)).data_bytes) 10 0))))
      (le-ltb (limits_of s.state).media_ids ((used_of s.state).media_ids + (needs (view s) (media m)).media_ids) free)
      ∙ ap (λ n. cond (ltb (limits_of s.state).mfu_area n) 9
      (cond (ltb rows (row_size * (needs (view s) (media m)).records)) 10 (cond (ltb bytes (needs (view s) (media m)).data_bytes) 10 0)))
      (object_is s m start t z1 z2 z3 w)
      ∙ ap (λ n. cond (ltb (limits_of s.state).mfu_area t.longest) 9
      (cond (ltb rows (row_size * n)) 10 (cond (ltb bytes (needs (view s) (media m)).data_bytes) 10 0)))
      (records_is s m start t z1 z2 z3 w)
      ∙ ap (λ n. cond (ltb (limits_of s.state).mfu_area t.longest) 9
      (cond (ltb rows (row_size * (length (passes (view s).passing m) + t.records))) 10 (cond (ltb bytes n) 10 0)))
      (bytes_is s m start t z1 z2 z3 w)
