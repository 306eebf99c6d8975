-- A media packet pushed: its place is the model's asset, its answer the first question of 8 to 10 that is answered no, and an accepted
-- one leaves and gives out what the model does. Assumes nothing.
use Rattle.std.specs.Prelude.{None, Some}
use Rattle.std.proofs.Common.{◌≡◌, ℕ, suc, ◌+◌, ◌-◌, ◌*◌, ◌<◌, ◌≤◌, Bool, true, false, cond, eqb, ltb, List, length, get_or, drop, sym, refl, ap, ◌∙◌, subst, add-zero, mul-le-mul, arith, length-drop, w64, Fits, ltb-false, eq-eqb, ne_eqb, eqb-true}
use Rattle.isdb_tlv.specs.Guards.{◌<?◌}
use Rattle.isdb_tlv.specs.declared.mmtp.Header.{Header}
use Rattle.isdb_mmt.specs.Decoder.Packet.{Bytes, MpuPacket, media, media_of, readable}
use Rattle.isdb_mmt.specs.Decoder.Maps.{or_else, one}
use Rattle.isdb_mmt.specs.Formats.Mpu.{payload_header}
use Rattle.isdb_mmt.specs.Decoder.Objects.{Asset, Rec, fresh, after_headers, asset_after, passes, media_gives}
use Rattle.isdb_mmt.specs.Decoder.Model.{asset_of, gives}
use Rattle.isdb_mmt.specs.Decoder.Needs.{data_of, needs}
use Rattle.isdb_mmt.specs.Memory.Layout.{most_count, most_media_ids, most_mfu_area, media_places, media_size}
use Rattle.isdb_mmt.specs.Memory.Lent.{part, over, names_from, found_from, every}
use Rattle.isdb_mmt.specs.Memory.Session.{Session, limits_of, used_of, counters_of, media_place_of, media_at}
use Rattle.isdb_mmt.specs.Memory.Check.{media_in, media_sound, count_fits_of, stats_counts, packet_counts, lengths_of, Sound}
use Rattle.isdb_mmt.specs.Memory.View.{asset_of_place, asset_entry, view_by, view}
use Rattle.isdb_mmt.specs.Memory.Opening.{lent}
use Rattle.isdb_mmt.specs.Pushes.Records.{row_size, rows_from, data_from}
use Rattle.isdb_mmt.specs.Pushes.MediaPush.{place_for_asset, held_over, media_place_for, asset_next, leaves_at, media_leaves, media_asks, MediaPushed}
use Rattle.isdb_mmt.specs.Pushes.MediaPlace.{start_of, place_after_of, StatsWithin}
use Rattle.isdb_mmt.specs.Pushes.MediaOutcome.{media_outcome, CanReadUnits}
use Rattle.isdb_mmt.specs.Pushes.MediaCommit.{CanTakePlace, blank, place_in, index_of, passes_on, records_handed, bytes_handed, fits_number, number_of, refused, accepted, answer_by, answer_of, Small, starts_from, gives_from, CanCommit, Committed, state_after, CanCommitAll, CommittedAll, CanPushMedia}
use Rattle.isdb_mmt.specs.declared.decoder.place.PlaceFor.{PlaceFor}
use Rattle.isdb_mmt.specs.declared.decoder.place.PlaceFor.TheVariants.{Own, Free, NoneFree}
use Rattle.isdb_mmt.specs.declared.decoder.limits.Limits.{Limits}
use Rattle.isdb_mmt.specs.declared.decoder.counts.AssetStats.{AssetStats}
use Rattle.isdb_mmt.specs.declared.decoder.media.Media.{Media}
use Rattle.isdb_mmt.specs.declared.decoder.reassembler.MediaEffect.{MediaEffect}
use Rattle.isdb_mmt.specs.declared.decoder.reassembler.MediaOutcome.{MediaOutcome}
use Rattle.isdb_mmt.specs.Pushes.Answer.{Answer}
use Rattle.isdb_mmt.proofs.Lent.{length_part}
use Rattle.isdb_mmt.proofs.Names.{true_not_false}
use Rattle.isdb_mmt.proofs.Views.{keys, FoundAt, found_at, absent}
use Rattle.isdb_mmt.proofs.Limits.{passed, areas_fit, whole_area}
use Rattle.isdb_mmt.proofs.Checks.{media_was, place_was, count_was}
use Rattle.isdb_mmt.proofs.Storable.{stats_of_lem}
use Rattle.isdb_mmt.proofs.PlacesFor.{get_d_places, entries, entry_names, place_for_was_old, place_for_was_new, place_for_was_full, length_media, length_indexed, get_d_indexed}
use Rattle.isdb_mmt.proofs.EffectsModelled.{Told}
use Rattle.isdb_mmt.proofs.Placed.{start_zero}
use Rattle.isdb_mmt.proofs.MediaOutcomes.{outcome_small, outcome_is, place_is}
use Rattle.isdb_mmt.proofs.MediaCommits.{is_passed, not_passed, outcome_header}
use Rattle.isdb_mmt.proofs.Asks.{object_is, records_is, bytes_is, old_is, new_is, number_full, number_is}

-- ---- all of a commit

module _ (l : Limits) (place_for_of : PlaceFor) (p : Media) (r : MediaOutcome) (h : Header) (b state objects rows bytes : Bytes)
    (can : CanCommitAll l place_for_of p r h b state objects rows bytes) where
  module _ (i : ℕ) (ei : i ≡ index_of place_for_of) where
    pub all_place : Fits w64 (i * l.mfu_area)
    all_place = areas_fit i l.mfu_area (omega (arith, ei, can.store.index)) can.area

    pub all_can : CanCommit (i * l.mfu_area) l.pass_scrambled p r h b objects rows bytes
    all_can = rw ei can.commit

    pub all_done : (objects' rows' bytes' : Bytes) → Committed (i * l.mfu_area) l.pass_scrambled p h b objects rows bytes objects' rows' bytes'
        → (m : Media) → m ≡ place_after_of h.packet_id p h.sequence h.scramble_info r.header r.bad r.units
        → (state' : Bytes) → state' ≡ state_after state m place_for_of
        → CommittedAll l place_for_of p r h b state objects rows bytes state' objects' rows' bytes'
    all_done objects' rows' bytes' w m em state' es =
        record { commit = rw ei at w; store = es ∙ ap (λ (x : Media). state_after state x place_for_of) em }

  pub all_steps : StatsWithin most_count p.stats × ((r.units.records < 4294967296) × (r.units.drops < 4294967296))
  all_steps =
      let s = outcome_small p h.sequence h.scramble_info h.rap b r can.commit.can can.commit.look in
      (can.modest, (omega (arith, s.records), omega (arith, s.drops)))

-- ---- the place and the model's asset

pub modest_was : (s : AssetStats) → every count_fits_of (stats_counts s) ≡ true → StatsWithin most_count s
modest_was s e = stats_of_lem most_count s (λ i. count_was (stats_counts s) i e)

blank_fresh : (b : Bytes) → asset_of_place blank b ≡ fresh
unfolding asset_of_place fresh
blank_fresh b = refl

-- the place is that of the model's asset
pub record Begins (s : Session) (id : ℕ) (place_for_of : PlaceFor) (p : Media) : Type 0 where
  pub is : asset_of id (view s) ≡ starts_from (index_of place_for_of * (limits_of s.state).mfu_area) p s.objects
  pub held : p.held ≡ true → p.object.length ≤ (limits_of s.state).mfu_area
  pub modest : StatsWithin most_count p.stats

module _ (s : Session) (ok : Sound s.state s.others (lengths_of s)) (id : ℕ) where
  abbrev names : List ℕ
  names = names_from (used_of s.state).media_ids media_size media_places s.state

  found_old : (i : ℕ) → media_place_for s.state id ≡ Own i → FoundAt (entries s) id i
  unfolding media_place_for
  found_old i e =
      let k : found_from 0 (keys (entries s)) id ≡ Some i =
      ap (λ (ns : List ℕ). found_from 0 ns id) (entry_names s) ∙ place_for_was_old names (limits_of s.state).media_ids id i e in
      let z : i - 0 ≡ i = omega arith in
      rw z at (found_at (entries s) id 0 i k).1

  old_within : (i : ℕ) → media_place_for s.state id ≡ Own i → i < (used_of s.state).media_ids
  old_within i e =
      omega (arith, (found_old i e).within, length_indexed (asset_entry (limits_of s.state) s) 0 (media_in s.state), length_media s.state)

  new_within : (i : ℕ) → media_place_for s.state id ≡ Free i → i < (limits_of s.state).media_ids
  unfolding media_place_for
  new_within i e = (place_for_was_new names (limits_of s.state).media_ids id i e).1.1

  -- the place lies within the limits
  pub place_for_low : (place_for_of : PlaceFor) → media_place_for s.state id ≡ place_for_of → (place_for_of ≡ NoneFree → ⊥) → index_of place_for_of < (limits_of s.state).media_ids
  place_for_low (Own i) e n = omega (arith, old_within i e, ok.media)
  place_for_low (Free i) e n = new_within i e
  place_for_low NoneFree e n = absurd (n refl)

  pub index_low : (place_for_of : PlaceFor) → place_for_of ≡ media_place_for s.state id → index_of place_for_of < most_media_ids
  index_low place_for_of e = go place_for_of (sym e)
    where
      go : (x : PlaceFor) → media_place_for s.state id ≡ x → index_of x < most_media_ids
      go (Own i) d = omega (arith, old_within i d, ok.there.media)
      go (Free i) d = omega (arith, new_within i d, (passed (limits_of s.state) (lengths_of s) ok.limits).ranges.media.1)
      go NoneFree d = omega arith

  begins_old : (i : ℕ) → media_place_for s.state id ≡ Own i → Begins s id (Own i) (media_at s.state i)
  unfolding media_in asset_of or_else view view_by
  begins_old i e =
      let st = s.state in
      let l = limits_of st in
      let b = old_within i e in
      let q = media_was l (media_at st i)
      (place_was (media_sound l) media_place_of (used_of st).media_ids media_size media_places st i ok.objects b) in
      let w = found_old i e in
      let y : 0 + i ≡ i = omega arith in
      let g : get_or (entries s) i (0, fresh) ≡ asset_entry l s i (media_at st i) =
      (rw y at (get_d_indexed (asset_entry l s) (media_in st) 0 i blank (0, fresh) (omega (arith, b, length_media st))))
      ∙ ap (asset_entry l s i) (get_d_places media_place_of media_size blank st (used_of st).media_ids i media_places b) in
      record {
        is = ap (or_else fresh) (w.found fresh) ∙ ap (λ (x : ℕ × Asset). x.1) g;
        held = q.0;
        modest = modest_was (media_at st i).stats q.1;
      }

  -- an id that has no place
  unknown : found_from 0 names id ≡ None → asset_of id (view s) ≡ fresh
  unfolding asset_of or_else view view_by
  unknown e =
      ap (or_else fresh) (absent (entries s) id 0 (ap (λ (ns : List ℕ). found_from 0 ns id) (entry_names s) ∙ e)).0

  begins_blank : (place_for_of : PlaceFor) → asset_of id (view s) ≡ fresh → Begins s id place_for_of blank
  unfolding every
  begins_blank place_for_of e =
      record {
        is = e ∙ sym (blank_fresh (part (index_of place_for_of * (limits_of s.state).mfu_area) 0 s.objects));
        held = λ t. true_not_false false t refl;
        modest = modest_was blank.stats refl;
      }

  begins_at : (place_for_of : PlaceFor) → media_place_for s.state id ≡ place_for_of → Begins s id place_for_of (place_in s.state place_for_of)
  unfolding place_in media_place_for
  begins_at (Own i) e = begins_old i e
  begins_at (Free i) e = begins_blank (Free i) (unknown (place_for_was_new names (limits_of s.state).media_ids id i e).0)
  begins_at NoneFree e = begins_blank NoneFree (unknown (place_for_was_full names (limits_of s.state).media_ids id e).0)

  pub begins : (place_for_of : PlaceFor) → place_for_of ≡ media_place_for s.state id → (p : Media) → p ≡ place_in s.state place_for_of → Begins s id place_for_of p
  begins place_for_of e p ep = subst (λ (x : Media). Begins s id place_for_of x) (sym ep) (begins_at place_for_of (sym e))

-- ---- the answer

answer_number : (n records bytes : ℕ) → (answer_by n records bytes).number ≡ n
answer_number n records bytes = go (eqb n 0) refl
  where
    go : (z : Bool) → eqb n 0 ≡ z → (cond z (accepted records bytes) (refused n)).number ≡ n
    go true e = sym (eqb-true n 0 e)
    go false e = refl

answer_nothing : (n records bytes : ℕ) → (n ≡ 0 → ⊥) → answer_by n records bytes ≡ refused n
answer_nothing n records bytes h = ap (λ z. cond z (accepted records bytes) (refused n)) (ne_eqb n 0 h)

answer_all : (n records bytes : ℕ) → n ≡ 0 → answer_by n records bytes ≡ accepted records bytes
answer_all n records bytes h = ap (λ z. cond z (accepted records bytes) (refused n)) (eq-eqb n 0 h)

asked_no : (b : Bool) (k n : ℕ) → cond b (suc k) n ≡ 0 → (b ≡ false) × (n ≡ 0)
asked_no true k n e = absurd (omega arith)
asked_no false k n e = (refl, e)

-- what an answer 0 says
pub record Fitting (s : Session) (rows bytes : ℕ) (m : MpuPacket) : Type 0 where
  pub object : (needs (view s) (media m)).object ≤ (limits_of s.state).mfu_area
  pub records : row_size * (needs (view s) (media m)).records ≤ rows
  pub data_bytes : (needs (view s) (media m)).data_bytes ≤ bytes

fitting : (s : Session) (rows bytes : ℕ) (m : MpuPacket) → media_asks s rows bytes m ≡ 0 → Fitting s rows bytes m
unfolding media_asks
fitting s rows bytes m e =
    let l = limits_of s.state in
    let n = needs (view s) (media m) in
    let a8 = asked_no (l.media_ids <? (used_of s.state).media_ids + n.media_ids) 7 _ e in
    let a9 = asked_no (l.mfu_area <? n.object) 8 _ a8.1 in
    let r = asked_no (rows <? row_size * n.records) 9 _ a9.1 in
    let d = asked_no (bytes <? n.data_bytes) 9 _ r.1 in
    record { object = ltb-false _ _ a9.0; records = ltb-false _ _ r.0; data_bytes = ltb-false _ _ d.0 }

-- what is passed on, counted
passed_records : (h : Header) (b : Bytes) (pass z : Bool) → z ≡ passes_on pass h.scramble_info (payload_header b)
    → length (passes pass (media_of h b)) ≡ one z
passed_records h b pass z e = go z e
  where
    go : (y : Bool) → y ≡ passes_on pass h.scramble_info (payload_header b) → length (passes pass (media_of h b)) ≡ one y
    go true d = ap length (is_passed pass h b (sym d))
    go false d = ap length (not_passed pass h b (sym d))

passed_bytes : (h : Header) (b : Bytes) (pass z : Bool) → z ≡ passes_on pass h.scramble_info (payload_header b)
    → data_of (passes pass (media_of h b)) ≡ cond z (length b - 8) 0
passed_bytes h b pass z e = go z e
  where
    go : (y : Bool) → y ≡ passes_on pass h.scramble_info (payload_header b) → data_of (passes pass (media_of h b)) ≡ cond y (length b - 8) 0
    go true d = ap data_of (is_passed pass h b (sym d)) ∙ add-zero (length (drop 8 b)) ∙ length-drop 8 b
    go false d = ap data_of (not_passed pass h b (sym d))

passing_is : (s : Session) → (view s).passing ≡ (limits_of s.state).pass_scrambled
unfolding view view_by
passing_is s = refl

not_full : (area longest rows given records bytes : ℕ) → number_of NoneFree area longest rows given records bytes ≡ 0 → ⊥
unfolding number_of
not_full area longest rows given records bytes e = omega arith

low_place : (i area : ℕ) → i < most_media_ids → area ≤ most_mfu_area → i * area ≤ 1073741824
low_place i area h k = let n : i ≤ 64 = omega arith in omega (arith, mul-le-mul n k)

-- ---- the push

pub push_place_for : (s : Session) (b : Bytes) (l : Limits) → CanPushMedia s b → l ≡ limits_of s.state → CanTakePlace s.state l
push_place_for s b l can e = record { there = can.sound.there; limits = e }

module _ (st ot ob me ta : List ℕ) (h : Header) (b rows bytes : Bytes) (can : CanPushMedia (lent st ot ob me ta) b)
    (l : Limits) (el : l ≡ limits_of st) (place_for_of : PlaceFor) (es : place_for_of ≡ media_place_for st h.packet_id) where
  abbrev s : Session
  s = lent st ot ob me ta

  abbrev id : ℕ
  id = h.packet_id

  abbrev m : MpuPacket
  m = media_of h b

  pub push_index : index_of place_for_of < most_media_ids
  push_index = index_low s can.sound id place_for_of es

  module _ (p : Media) (ep : p ≡ place_in st place_for_of) where
    start : Begins s id place_for_of p
    start = begins s can.sound id place_for_of es p ep

    abbrev at : ℕ
    at = index_of place_for_of * (limits_of st).mfu_area

    pub push_outcome : CanReadUnits p b
    push_outcome =
        record {
          long = can.long;
          object = λ t. omega (arith, start.held t, (passed (limits_of st) (lengths_of s) can.sound.limits).ranges.object.1);
        }

    module _ (r : MediaOutcome) (er : r ≡ media_outcome p h.sequence h.scramble_info h.rap b) where
      pub push_small : Small r.units × (length b ≤ 65535)
      push_small = (outcome_small p h.sequence h.scramble_info h.rap b r push_outcome er, can.long)

      abbrev t0 : MediaEffect
      t0 = start_of p h.sequence

      abbrev there : Bytes
      there = part at p.object.length ob

      -- an id that is seated has an area of its own
      area_there : (place_for_of ≡ NoneFree → ⊥) → at + (limits_of st).mfu_area ≤ length ob
      area_there n =
          let k = place_for_low s can.sound id place_for_of (sym es) n in
          omega
          (arith, whole_area (index_of place_for_of) (limits_of st).media_ids (limits_of st).mfu_area (length ob) k (passed (limits_of st) (lengths_of s) can.sound.limits).objects)

      held_there : (place_for_of ≡ NoneFree → ⊥) → p.held ≡ true → at + p.object.length ≤ length ob
      held_there n t = omega (arith, area_there n, start.held t)

      module _ (own_place : place_for_of ≡ NoneFree → ⊥) where
        long : p.held ≡ true → length there ≡ p.object.length
        long t = length_part at p.object.length ob (held_there own_place t)

        told : Told m t0 (after_headers (asset_of id (view s)) m) r.units (readable m)
        told =
            subst (λ (a : Asset). Told m t0 (after_headers a m) r.units (readable m)) (sym start.is)
            (subst (λ (y : MediaOutcome). Told m t0 (after_headers (asset_of_place p there) m) y.units (readable m)) (sym er) (outcome_is id p there h b long).units)

        zeros : (t0.records ≡ 0) × ((t0.bytes ≡ 0) × (t0.longest ≡ 0))
        unfolding media_of
        zeros = start_zero p there m long

        free : (used_of st).media_ids + (needs (view s) (media m)).media_ids ≤ (limits_of st).media_ids
        unfolding media_of
        free = go place_for_of (sym es) own_place
          where
            go : (x : PlaceFor) → media_place_for st id ≡ x → (x ≡ NoneFree → ⊥) → (used_of st).media_ids + (needs (view s) (media m)).media_ids ≤ (limits_of st).media_ids
            go (Own i) e n = old_is s can.sound m i e
            go (Free i) e n = new_is s can.sound m i e
            go NoneFree e n = absurd (n refl)

        abbrev passing : Bool
        passing = passes_on l.pass_scrambled h.scramble_info r.header

        passed_is : passing ≡ passes_on (limits_of st).pass_scrambled h.scramble_info (payload_header b)
        passed_is =
            ap (λ (x : Limits). passes_on x.pass_scrambled h.scramble_info r.header) el
            ∙ ap (passes_on (limits_of st).pass_scrambled h.scramble_info) (outcome_header p h.sequence h.scramble_info h.rap b r er)

        records_are : length (passes (view s).passing m) ≡ one passing
        records_are =
            ap (λ z. length (passes z m)) (passing_is s) ∙ passed_records h b (limits_of st).pass_scrambled passing passed_is

        bytes_are : data_of (passes (view s).passing m) ≡ cond passing (length b - 8) 0
        bytes_are =
            ap (λ z. data_of (passes z m)) (passing_is s) ∙ passed_bytes h b (limits_of st).pass_scrambled passing passed_is

        seated_number : fits_number l.mfu_area r.units.longest (length rows) (length bytes) (records_handed passing r.units) (bytes_handed passing (length b) r.units)
            ≡ media_asks s (length rows) (length bytes) m
        unfolding fits_number media_of
        seated_number =
            ap (λ (x : Limits). cond (ltb x.mfu_area r.units.longest) 9
            (cond (ltb (length rows) (row_size * records_handed passing r.units)) 10 (cond (ltb (length bytes) (bytes_handed passing (length b) r.units)) 10 0))) el
            ∙ ap (λ k. cond (ltb (limits_of st).mfu_area r.units.longest) 9
            (cond (ltb (length rows) (row_size * (k + r.units.records))) 10 (cond (ltb (length bytes) (bytes_handed passing (length b) r.units)) 10 0))) (sym records_are)
            ∙ ap (λ k. cond (ltb (limits_of st).mfu_area r.units.longest) 9
            (cond (ltb (length rows) (row_size * (length (passes (view s).passing m) + r.units.records))) 10 (cond (ltb (length bytes) (k + r.units.bytes)) 10 0))) (sym bytes_are)
            ∙ sym (number_is s can.sound m (length rows) (length bytes) t0 r.units zeros.0 zeros.1.0 zeros.1.1 told free)

        need_records : records_handed passing r.units ≡ (needs (view s) (media m)).records
        unfolding media_of
        need_records =
            sym (records_is s m t0 r.units zeros.0 zeros.1.0 zeros.1.1 told ∙ ap (λ k. k + r.units.records) records_are)

        need_bytes_lem : bytes_handed passing (length b) r.units ≡ (needs (view s) (media m)).data_bytes
        unfolding media_of
        need_bytes_lem =
            sym (bytes_is s m t0 r.units zeros.0 zeros.1.0 zeros.1.1 told ∙ ap (λ k. k + r.units.bytes) bytes_are)

        need_object : r.units.longest ≡ (needs (view s) (media m)).object
        unfolding media_of
        need_object = sym (object_is s m t0 r.units zeros.0 zeros.1.0 zeros.1.1 told)

      abbrev passes_here : Bool
      passes_here = passes_on l.pass_scrambled h.scramble_info r.header

      abbrev number_here_lem : ℕ
      number_here_lem =
          number_of place_for_of l.mfu_area r.units.longest (length rows) (length bytes) (records_handed passes_here r.units) (bytes_handed passes_here (length b) r.units)

      number_here : number_here_lem ≡ media_asks s (length rows) (length bytes) m
      unfolding number_of media_of
      number_here = go place_for_of refl
        where
          go : (x : PlaceFor) → place_for_of ≡ x
              → number_of x l.mfu_area r.units.longest (length rows) (length bytes) (records_handed passes_here r.units) (bytes_handed passes_here (length b) r.units)
              ≡ media_asks s (length rows) (length bytes) m
          go (Own i) e = seated_number (λ f. let z : ◌≡◌ {A = ℕ} 0 1 = cc in omega arith)
          go (Free i) e = seated_number (λ f. let z : ◌≡◌ {A = ℕ} 0 1 = cc in omega arith)
          go NoneFree e = sym (number_full s can.sound m (length rows) (length bytes) (sym es ∙ e))

      module _ (a : Answer) (ea : a ≡ answer_of place_for_of l h.scramble_info r (length b) (length rows) (length bytes)) where
        answer_by_lem : a ≡ answer_by number_here_lem (records_handed passes_here r.units) (bytes_handed passes_here (length b) r.units)
        unfolding answer_of
        answer_by_lem = ea

        number_is_here : a.number ≡ number_here_lem
        number_is_here =
            ap (λ (x : Answer). x.number) answer_by_lem
            ∙ answer_number number_here_lem (records_handed passes_here r.units) (bytes_handed passes_here (length b) r.units)

        pub pushed_no : (a.number ≡ 0 → ⊥) → MediaPushed s rows bytes m a.number a.records a.bytes s rows bytes
        pushed_no n =
            let k : a ≡ refused number_here_lem = answer_by_lem ∙ answer_nothing number_here_lem _ _ (λ z. n (number_is_here ∙ z)) in
            record {
              number = number_is_here ∙ number_here;
              same = λ z. refl;
              kept = λ z. (refl, refl);
              nothing = λ z. (ap (λ (x : Answer). x.records) k, ap (λ (x : Answer). x.bytes) k);
              session = λ z. absurd (n z);
              rows_out = λ z. absurd (n z);
              data_out = λ z. absurd (n z);
              counts = λ z. absurd (n z);
            }

        module _ (yes : a.number ≡ 0) where
          zero_here : number_here_lem ≡ 0
          zero_here = sym number_is_here ∙ yes

          own_place : place_for_of ≡ NoneFree → ⊥
          own_place e =
              not_full l.mfu_area r.units.longest (length rows) (length bytes) (records_handed passes_here r.units) (bytes_handed passes_here (length b) r.units)
              (ap
              (λ (x : PlaceFor).
              number_of x l.mfu_area r.units.longest (length rows) (length bytes) (records_handed passes_here r.units) (bytes_handed passes_here (length b) r.units))
              (sym e)
              ∙ zero_here)

          fit : Fitting s (length rows) (length bytes) m
          fit = fitting s (length rows) (length bytes) m (sym number_here ∙ zero_here)

          gives_are : gives (view s) (media m) ≡ gives_from at (limits_of st).pass_scrambled p h b ob
          unfolding gives media_of
          gives_are = ap (λ (x : Asset). media_gives (view s).passing x m) start.is ∙ ap (λ z. media_gives z (starts_from at p ob) m) (passing_is s)

          need_rows : (needs (view s) (media m)).records ≡ length (gives (view s) (media m))
          unfolding needs
          need_rows = refl

          need_data : (needs (view s) (media m)).data_bytes ≡ data_of (gives (view s) (media m))
          unfolding needs
          need_data = refl

          can_here : CanCommit at (limits_of st).pass_scrambled p r h b ob rows bytes
          can_here =
              let ps = passed (limits_of st) (lengths_of s) can.sound.limits in
              record {
                look = er;
                can = push_outcome;
                low = low_place (index_of place_for_of) (limits_of st).mfu_area push_index ps.ranges.object.1;
                held = held_there own_place;
                room = omega (arith, need_object own_place, fit.object, area_there own_place);
                rows_fit = rw (need_rows, gives_are) at fit.records;
                data_fit = rw (need_data, gives_are) at fit.data_bytes;
              }

          pub can_all : CanCommitAll l place_for_of p r h b st ob rows bytes
          can_all =
              subst (λ (x : Limits). CanCommitAll x place_for_of p r h b st ob rows bytes) (sym el)
              (record {
                commit = can_here;
                store =
                    record {
                      long = can.sound.there.long;
                      index = push_index;
                      used = can.sound.there.media;
                      packets = count_was (packet_counts (counters_of st)) 0 can.sound.packets;
                    };
                modest = start.modest;
                area = (passed (limits_of st) (lengths_of s) can.sound.limits).ranges.object.1;
              })

          module _ (st' ob' rows' bytes' : Bytes) (w : CommittedAll l place_for_of p r h b st ob rows bytes st' ob' rows' bytes') where
            done : Committed at (limits_of st).pass_scrambled p h b ob rows bytes ob' rows' bytes'
            done = rw el at w.commit

            next_is : asset_after (starts_from at p ob) m ≡ asset_next s m
            unfolding asset_next media_of
            next_is = ap (λ (x : Asset). asset_after x m) (sym start.is)

            place_next_lem : place_after_of id p h.sequence h.scramble_info r.header r.bad r.units ≡ place_for_asset id (asset_next s m)
            place_next_lem = place_is id p there h b (long own_place) r er ∙ ap (place_for_asset id) next_is

            state_next_lem : st' ≡ state_after st (place_for_asset id (asset_next s m)) place_for_of
            state_next_lem = w.store ∙ ap (λ (x : Media). state_after st x place_for_of) place_next_lem

            objects_next : ob' ≡ held_over at (asset_next s m).held ob
            objects_next = done.area ∙ ap (λ (x : Asset). held_over at x.held ob) next_is

            leaves : lent st' ot ob' me ta ≡ media_leaves s m
            unfolding media_leaves media_of state_after
            leaves = go place_for_of (sym es) own_place state_next_lem objects_next
              where
                go : (x : PlaceFor) → media_place_for st id ≡ x → (x ≡ NoneFree → ⊥) → st' ≡ state_after st (place_for_asset id (asset_next s m)) x
                    → ob' ≡ held_over (index_of x * (limits_of st).mfu_area) (asset_next s m).held ob
                    → lent st' ot ob' me ta ≡ leaves_at s id (asset_next s m) (media_place_for st id)
                go (Own i) e n d o = (λ j. lent (d j) ot (o j) me ta) ∙ ap (leaves_at s id (asset_next s m)) (sym e)
                go (Free i) e n d o = (λ j. lent (d j) ot (o j) me ta) ∙ ap (leaves_at s id (asset_next s m)) (sym e)
                go NoneFree e n d o = absurd (n refl)

            pub pushed_yes : MediaPushed s rows bytes m a.number a.records a.bytes (lent st' ot ob' me ta) rows' bytes'
            pushed_yes =
                let k : a ≡ accepted (records_handed passes_here r.units) (bytes_handed passes_here (length b) r.units) =
                answer_by_lem ∙ answer_all number_here_lem _ _ zero_here in
                record {
                  number = number_is_here ∙ number_here;
                  same = λ z. absurd (z yes);
                  kept = λ z. absurd (z yes);
                  nothing = λ z. absurd (z yes);
                  session = λ z. leaves;
                  rows_out = λ z. done.rows_out ∙ ap (λ (rs : List Rec). over 0 (rows_from 0 rs) rows) (sym gives_are);
                  data_out = λ z. done.data_out ∙ ap (λ (rs : List Rec). over 0 (data_from rs) bytes) (sym gives_are);
                  counts = λ z. (ap (λ (x : Answer). x.records) k ∙ need_records own_place, ap (λ (x : Answer). x.bytes) k ∙ need_bytes_lem own_place);
                }
