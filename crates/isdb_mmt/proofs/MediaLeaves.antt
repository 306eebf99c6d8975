-- What a media packet leaves, seen as the model's state: only this id's entry and the count of packets differ. Assumes nothing.
use Rattle.std.specs.Prelude.{None, Some, Option, is_some}
use Rattle.std.proofs.Common.{◌≡◌, ℕ, ◌+◌, ◌-◌, ◌*◌, ◌^◌, ◌<◌, ◌≤◌, Bool, true, false, eqb, List, [], ◌∷◌, ◌++◌, length, get_or, set, sym, refl, ap, ◌∙◌, subst, inl, inr, add-zero, arith, length-append, eqb-true}
use Rattle.isdb_tlv.specs.Bytes.{be}
use Rattle.isdb_tlv.specs.Fields.{field, written, Fit}
use Rattle.isdb_tlv.proofs.Fields.{length_written}
use Rattle.isdb_tlv.proofs.Guards.{either}
use Rattle.isdb_mmt.specs.Decoder.Packet.{MpuPacket, media as media_packet, Bytes, PayloadUnit, readable}
use Rattle.isdb_mmt.specs.Decoder.Maps.{find, put, or_else}
use Rattle.isdb_mmt.specs.Decoder.Objects.{new_mpu, mpu_after, range_after, mpu_in, Mfu, Asset, fresh, asset_after, unit_effect, after_unit, after_units, gap, after_headers}
use Rattle.isdb_mmt.specs.Decoder.Model.{asset_of, pushed, packet_counted}
use Rattle.isdb_mmt.specs.Decoder.Needs.{held_length, needs}
use Rattle.isdb_mmt.specs.Memory.Lent.{part, over, names_from, found_from, indexed}
use Rattle.isdb_mmt.specs.Memory.Session.{Session, limits_of, used_of, used_fields, latest_of, time_of, counters_of, media_fields}
use Rattle.isdb_mmt.specs.Memory.Check.{media_in, controls_in, sections_in, media_sound, packet_counts, lengths_of, Sound}
use Rattle.isdb_mmt.specs.Memory.View.{given, mfu_of, asset_of_place, asset_entry, control_entry, section_entry, kept_table_at, view_by, view}
use Rattle.isdb_mmt.specs.Memory.Opening.{lent}
use Rattle.isdb_mmt.specs.Pushes.MediaPush.{place_for_asset, held_for, first_in, held_over, with_place, one_more_of, with_used, with_packets, media_place_for, leaves_at, asset_next, media_leaves}
use Rattle.isdb_mmt.specs.declared.decoder.place.PlaceFor.{PlaceFor}
use Rattle.isdb_mmt.specs.declared.decoder.place.PlaceFor.TheVariants.{Own, Free, NoneFree}
use Rattle.isdb_mmt.specs.declared.decoder.counts.Counters.{Counters}
use Rattle.isdb_mmt.specs.declared.decoder.head.Used.{Used}
use Rattle.isdb_mmt.specs.declared.decoder.limits.Limits.{Limits}
use Rattle.isdb_mmt.specs.declared.decoder.media.Media.{Media}
use Rattle.isdb_mmt.proofs.Lent.{length_part, length_over, part_over, be_apart, length_names}
use Rattle.isdb_mmt.proofs.Stored.{apart, limits_own, latest_own, time_own, counters_own, used_back, holds_over}
use Rattle.isdb_mmt.proofs.Sessions.{media, controls, sections, in_use, named, place_set, place_new, place_apart, used_apart}
use Rattle.isdb_mmt.proofs.Views.{keys, FoundAt, found_at, absent, indexed_set, indexed_snoc, indexed_same, area_apart}
use Rattle.isdb_mmt.proofs.Limits.{passed, whole_area, in_buffer}
use Rattle.isdb_mmt.proofs.Checks.{media_was, count_was}
use Rattle.isdb_mmt.proofs.Counting.{counting, counted_alone}
use Rattle.isdb_mmt.specs.declared.mpu.PayloadHeader.{PayloadHeader}
use Rattle.isdb_mmt.proofs.StateWrites.{used_other}
use Rattle.isdb_mmt.proofs.PlacesFor.{entries, entry_names, length_media, place_for_was_old, place_for_was_new, place_for_was_full, length_indexed, every_at, set_indexed, get_d_indexed, none_some}
use Rattle.isdb_mmt.proofs.RecordRows.{header_back, item_back}
use Rattle.isdb_mmt.proofs.Placed.{range_for, Tied}
use Rattle.isdb_mmt.proofs.MediaUnits.{units_held}

-- ---- what a write leaves of the state, beside media places, the numbers in use and the counters

pub record Keeps (l m : List ℕ) : Type 0 where
  pub long : length m ≡ length l
  pub limits : limits_of m ≡ limits_of l
  pub latest : latest_of m ≡ latest_of l
  pub time : time_of m ≡ time_of l
  pub controls : controls_in m ≡ controls_in l
  pub sections : sections_in m ≡ sections_in l

keeps_on : {l m n : List ℕ} → Keeps l m → Keeps m n → Keeps l n
keeps_on a b =
    record {
      long = b.long ∙ a.long;
      limits = b.limits ∙ a.limits;
      latest = b.latest ∙ a.latest;
      time = b.time ∙ a.time;
      controls = b.controls ∙ a.controls;
      sections = b.sections ∙ a.sections;
    }

module _ (l : List ℕ) (long : 13144 ≤ length l) (tc : (used_of l).control_ids ≤ 32) (ts : (used_of l).sections ≤ 512) where
  -- a media place
  pub keeps_place : (i : ℕ) (bs : List ℕ) → i < 64 → length bs ≡ 120 → Keeps l (over (184 + 120 * i) bs l)
  keeps_place i bs h e =
      let b : ℕ = 184 + 120 * i in
      let k : b + length bs ≤ length l = omega arith in
      record {
        long = length_over b bs l k;
        limits = apart limits_of 0 57 limits_own b bs l (inl (omega arith)) k;
        latest = apart latest_of 69 10 latest_own b bs l (inl (omega arith)) k;
        time = apart time_of 79 9 time_own b bs l (inl (omega arith)) k;
        controls = sym (named.controls (over b bs l)) ∙ place_apart controls l long tc b bs (inl (omega arith)) (inl (omega arith)) k ∙ named.controls l;
        sections = sym (named.sections (over b bs l)) ∙ place_apart sections l long ts b bs (inl (omega arith)) (inl (omega arith)) k ∙ named.sections l;
      }

  -- the count of packets
  pub keeps_packets : (n : ℕ) → Keeps l (with_packets n l)
  keeps_packets n =
      let bs : List ℕ = written (field 8 n ∷ []) in
      let e : length bs ≡ 8 = length_written (field 8 n ∷ []) in
      let k : 88 + length bs ≤ length l = omega arith in
      record {
        long = length_over 88 bs l k;
        limits = apart limits_of 0 57 limits_own 88 bs l (inl (omega arith)) k;
        latest = apart latest_of 69 10 latest_own 88 bs l (inl (omega arith)) k;
        time = apart time_of 79 9 time_own 88 bs l (inl (omega arith)) k;
        controls = sym (named.controls (over 88 bs l)) ∙ place_apart controls l long tc 88 bs (inl (omega arith)) (inl (omega arith)) k ∙ named.controls l;
        sections = sym (named.sections (over 88 bs l)) ∙ place_apart sections l long ts 88 bs (inl (omega arith)) (inl (omega arith)) k ∙ named.sections l;
      }

  -- one media place more in use
  module _ (u : Used) (f : Fit (used_fields u)) where
    pub keeps_used : u.control_ids ≡ (used_of l).control_ids → u.sections ≡ (used_of l).sections → Keeps l (with_used u l)
    keeps_used ec es =
        let bs : List ℕ = written (used_fields u) in
        let e : length bs ≡ 12 = length_written (used_fields u) in
        let k : 57 + length bs ≤ length l = omega arith in
        record {
          long = length_over 57 bs l k;
          limits = apart limits_of 0 57 limits_own 57 bs l (inl (omega arith)) k;
          latest = apart latest_of 69 10 latest_own 57 bs l (inr (omega arith)) k;
          time = apart time_of 79 9 time_own 57 bs l (inr (omega arith)) k;
          controls = sym (named.controls (with_used u l)) ∙ used_other l long u f controls ec ∙ named.controls l;
          sections = sym (named.sections (with_used u l)) ∙ used_other l long u f sections es ∙ named.sections l;
        }

pub packets_back : (n : ℕ) (l : List ℕ) → n < 256 ^ 8 → 13144 ≤ length l → counters_of (with_packets n l) ≡ counting n (counters_of l)
unfolding counters_of
packets_back n l f h =
    let bs : List ℕ = written (field 8 n ∷ []) in
    let e : length bs ≡ 8 = length_written (field 8 n ∷ []) in
    let k : 88 + length bs ≤ length l = omega arith in
    let o : (at : ℕ) → 96 ≤ at → be 8 (over 88 bs l) at ≡ be 8 l at = λ at b. be_apart 88 bs l k 8 at (inr (omega arith)) in
    let t : be 8 (over 88 bs l) 88 ≡ n = holds_over 88 (field 8 n ∷ []) l (f, tt) (omega arith) 0 in
    λ i.
    record {
      tlv_packets = t i;
      ip_errors = o 96 (omega arith) i;
      non_mmtp = o 104 (omega arith) i;
      ntp = o 112 (omega arith) i;
      tables = o 120 (omega arith) i;
      crc_errors = o 128 (omega arith) i;
      malformed = o 136 (omega arith) i;
      version_changes = o 144 (omega arith) i;
      orphan_fragments = o 152 (omega arith) i;
      oversize = o 160 (omega arith) i;
      message_malformed = o 168 (omega arith) i;
      split_errors = o 176 (omega arith) i;
    }

-- ---- an asset in its place

pub given_back : (o : Option ℕ) → given (is_some o) (or_else 0 o) ≡ o
unfolding or_else
given_back None = refl
given_back (Some n) = refl

held_back : (o : Option Mfu) (b : List ℕ) → ((h : Mfu) → o ≡ Some h → b ≡ h.bytes) → given (is_some o) (mfu_of (held_for o) b) ≡ o
unfolding mfu_of
held_back None b e = refl
held_back (Some h) b e =
    λ i. Some (record { mpu = h.mpu; rap = h.rap; mfu = header_back h.mfu i; item_id = item_back h.item_id i; bytes = e h refl i })

range_back : (o : Option ℕ) (f : ℕ) → given (is_some o) (f, or_else 0 o) ≡ range_for o f
unfolding or_else
range_back None f = refl
range_back (Some n) f = refl

pub place_back : (id : ℕ) (a : Asset) (b : List ℕ) → Tied a → ((h : Mfu) → a.held ≡ Some h → b ≡ h.bytes) → asset_of_place (place_for_asset id a) b ≡ a
unfolding asset_of_place place_for_asset
place_back id a b t e =
    let er : given (is_some a.mpu) (first_in a.range, or_else 0 a.mpu) ≡ a.range =
    range_back a.mpu (first_in a.range) ∙ sym t in
    λ i.
    record {
      number = given_back a.number i;
      mpu = given_back a.mpu i;
      held = held_back a.held b e i;
      range = er i;
      stats = a.stats;
    }

-- of a place without an object, the bytes do not matter
pub no_bytes : (m : Media) (b c : List ℕ) → (m.held ≡ true → b ≡ c) → asset_of_place m b ≡ asset_of_place m c
unfolding asset_of_place mfu_of
no_bytes m b c e =
    either m.held (λ t. rw (e t)) (λ f. rw f)

-- ---- the entries of places

-- ---- areas

own_bytes : (o : Option Mfu) (at : ℕ) (l : List ℕ) → at + held_length o ≤ length l → (h : Mfu) → o ≡ Some h
    → part at (held_for o).length (held_over at o l) ≡ h.bytes
own_bytes None at l b h e = let z : ◌≡◌ {A = ℕ} 0 1 = cc in absurd (omega arith)
own_bytes (Some g) at l b h e = let q : g ≡ h = cc in part_over at g.bytes l b ∙ ap (λ (x : Mfu). x.bytes) q

held_apart : (o : Option Mfu) (area : ℕ) (l : List ℕ) (i j n : ℕ) → held_length o ≤ area → (i + 1) * area ≤ length l → (j ≡ i → ⊥) → n ≤ area
    → part (j * area) n (held_over (i * area) o l) ≡ part (j * area) n l
held_apart None area l i j n h w ne b = refl
held_apart (Some g) area l i j n h w ne b =
    rw (add-zero (i * area)) at (area_apart area l g.bytes i 0 (omega arith) w j n ne b)

module _ (s : Session) (ok : Sound s.state s.others (lengths_of s)) (id : ℕ) (a : Asset) (tied : Tied a)
    (fits : Fit (media_fields (place_for_asset id a))) (room : held_length a.held ≤ (limits_of s.state).mfu_area) where
  abbrev st : List ℕ
  st = s.state

  abbrev area : ℕ
  area = (limits_of st).mfu_area

  abbrev place : Media
  place = place_for_asset id a

  abbrev packets_now : ℕ
  packets_now = (counters_of st).tlv_packets + 1

  abbrev objects_after : ℕ → List ℕ
  objects_after i = held_over (i * area) a.held s.objects

  pub in_objects : (i : ℕ) → i < (limits_of st).media_ids → (i + 1) * area ≤ length s.objects
  in_objects i h =
      let p = passed (limits_of st) (lengths_of s) ok.limits in
      whole_area i (limits_of st).media_ids area (length s.objects) h p.objects

  -- this id's entry
  own_entry : (st' : List ℕ) (i : ℕ) → i < (limits_of st).media_ids
      → asset_entry (limits_of st) (lent st' s.others (objects_after i) s.messages s.tables) (0 + i) place ≡ (id, a)
  unfolding place_for_asset
  own_entry st' i h =
      let w = in_objects i h in
      let z : 0 + i ≡ i = omega arith in
      let e : asset_of_place place (part (i * area) place.object.length (objects_after i)) ≡ a =
      place_back id a (part (i * area) place.object.length (objects_after i)) tied
      (own_bytes a.held (i * area) s.objects (omega arith)) in
      rw z (λ k. (id, e k))

  -- another's
  other_entry_lem : (st' : List ℕ) (i j : ℕ) → i < (limits_of st).media_ids → j < length (media_in st) → (j ≡ i → ⊥)
      → asset_entry (limits_of st) (lent st' s.others (objects_after i) s.messages s.tables) (0 + j) (get_or (media_in st) j place)
      ≡ asset_entry (limits_of st) s (0 + j) (get_or (media_in st) j place)
  other_entry_lem st' i j h b ne =
      let m : Media = get_or (media_in st) j place in
      let z : 0 + j ≡ j = omega arith in
      let q = media_was (limits_of st) m (every_at (media_sound (limits_of st)) place (media_in st) j ok.objects b) in
      let e : asset_of_place m (part (j * area) m.object.length (objects_after i)) ≡ asset_of_place m (part (j * area) m.object.length s.objects) =
      no_bytes m (part (j * area) m.object.length (objects_after i)) (part (j * area) m.object.length s.objects)
      (λ t. held_apart a.held area s.objects i j m.object.length room (in_objects i h) ne (q.0 t)) in
      rw z (λ k. (m.packet_id, e k))

  packets_small : packets_now < 256 ^ 8
  packets_small = let c = count_was (packet_counts (counters_of st)) 0 ok.packets in omega arith

  long : 13144 ≤ length st
  long = ok.there.long

  -- ---- a place that is there
  module _ (i : ℕ) (place_for_of : media_place_for st id ≡ Own i) where
    abbrev state_old : List ℕ
    state_old = with_packets packets_now (with_place i id a st)

    abbrev session_old : Session
    session_old = lent state_old s.others (objects_after i) s.messages s.tables

    found_old : FoundAt (entries s) id i
    unfolding media_place_for
    found_old =
        let e : found_from 0 (keys (entries s)) id ≡ Some i =
        ap (λ (ns : List ℕ). found_from 0 ns id) (entry_names s)
        ∙ place_for_was_old (names_from (used_of st).media_ids 120 184 st) (limits_of st).media_ids id i place_for_of in
        let z : i - 0 ≡ i = omega arith in
        rw z at (found_at (entries s) id 0 i e).1

    pub within_old : i < (used_of st).media_ids
    within_old = omega (arith, found_old.within, length_indexed (asset_entry (limits_of st) s) 0 (media_in st), length_media st)

    pub keeps_old : Keeps st state_old
    keeps_old =
        let e : length (written (media_fields place)) ≡ 120 = length_written (media_fields place) in
        let u : i < 64 = omega (arith, within_old, ok.there.media) in
        let k = keeps_place st long ok.there.controls ok.there.sections i (written (media_fields place)) u e in
        let q : used_of (with_place i id a st) ≡ used_of st =
        used_apart (184 + 120 * i) (written (media_fields place)) st (inl (omega arith)) (omega arith) in
        keeps_on k (keeps_packets (with_place i id a st) (omega (arith, k.long)) (rw q ok.there.controls) (rw q ok.there.sections) packets_now)

    pub media_old : media_in state_old ≡ set (media_in st) i place
    media_old =
        let e : length (written (media_fields place)) ≡ 120 = length_written (media_fields place) in
        let u : i < 64 = omega (arith, within_old, ok.there.media) in
        let lo : length (with_place i id a st) ≡ length st = length_over (184 + 120 * i) (written (media_fields place)) st (omega arith) in
        let q : used_of (with_place i id a st) ≡ used_of st =
        used_apart (184 + 120 * i) (written (media_fields place)) st (inl (omega arith)) (omega arith) in
        let bs : List ℕ = written (field 8 packets_now ∷ []) in
        let eb : length bs ≡ 8 = length_written (field 8 packets_now ∷ []) in
        sym (named.media state_old)
        ∙ place_apart media (with_place i id a st) (omega arith) (rw q ok.there.media) 88 bs (inl (omega arith)) (inl (omega arith)) (omega arith)
        ∙ place_set media st long place fits i within_old u
        ∙ ap (λ (ms : List Media). set ms i place) (named.media st)

    entries_old : indexed (asset_entry (limits_of st) session_old) 0 (media_in state_old) ≡ put id a (entries s)
    entries_old =
        let h : i < (limits_of st).media_ids = omega (arith, within_old, ok.media) in
        ap (indexed (asset_entry (limits_of st) session_old) 0) media_old
        ∙ indexed_set (asset_entry (limits_of st) session_old) (media_in st) 0 i place
        ∙ set_indexed (asset_entry (limits_of st) session_old) (asset_entry (limits_of st) s) place (media_in st) 0 i
        (asset_entry (limits_of st) session_old (0 + i) place) (λ j b n. other_entry_lem state_old i j h b n)
        ∙ ap (λ (x : ℕ × Asset). set (entries s) i x) (own_entry state_old i h)
        ∙ sym (found_old.stored a)

    counters_old : counters_of state_old ≡ counting packets_now (counters_of st)
    counters_old =
        let e : length (written (media_fields place)) ≡ 120 = length_written (media_fields place) in
        let u : i < 64 = omega (arith, within_old, ok.there.media) in
        let lo : length (with_place i id a st) ≡ length st = length_over (184 + 120 * i) (written (media_fields place)) st (omega arith) in
        packets_back packets_now (with_place i id a st) packets_small (omega arith)
        ∙ ap (counting packets_now) (apart counters_of 88 96 counters_own (184 + 120 * i) (written (media_fields place)) st (inl (omega arith)) (omega arith))

  -- ---- a new place
  module _ (i : ℕ) (place_for_of : media_place_for st id ≡ Free i) where
    abbrev used_now : Used
    used_now = one_more_of (used_of st)

    abbrev state_new : List ℕ
    state_new = with_packets packets_now (with_used used_now (with_place i id a st))

    abbrev session_new : Session
    session_new = lent state_new s.others (objects_after i) s.messages s.tables

    pub record NewFacts : Type 0 where
      pub is : i ≡ (used_of st).media_ids
      pub free : i < (limits_of st).media_ids
      pub small : i < 64
      pub put_last : put id a (entries s) ≡ entries s ++ ((id, a) ∷ [])
      pub unknown : find id (entries s) ≡ None

    pub new_facts : NewFacts
    unfolding media_place_for
    new_facts =
        let w = place_for_was_new (names_from (used_of st).media_ids 120 184 st) (limits_of st).media_ids id i place_for_of in
        let e : found_from 0 (keys (entries s)) id ≡ None =
        ap (λ (ns : List ℕ). found_from 0 ns id) (entry_names s) ∙ w.0 in
        let r = absent (entries s) id 0 e in
        let p = passed (limits_of st) (lengths_of s) ok.limits in
        record {
          is = w.1.0 ∙ length_names 120 (used_of st).media_ids 184 st;
          free = w.1.1;
          small = omega (arith, w.1.1, p.ranges.media);
          put_last = r.1 a;
          unknown = r.0;
        }

    used_fits : Fit (used_fields used_now)
    used_fits =
        let t = ok.there in
        (omega arith, (omega arith, (omega arith, tt)))

    length_place : length (with_place i id a st) ≡ length st
    length_place =
        let e : length (written (media_fields place)) ≡ 120 = length_written (media_fields place) in
        length_over (184 + 120 * i) (written (media_fields place)) st (omega (arith, new_facts.small))

    length_used : length (with_used used_now (with_place i id a st)) ≡ length st
    length_used =
        let e : length (written (used_fields used_now)) ≡ 12 = length_written (used_fields used_now) in
        length_over 57 (written (used_fields used_now)) (with_place i id a st) (omega (arith, length_place)) ∙ length_place

    used_new : used_of (with_used used_now (with_place i id a st)) ≡ used_now
    used_new = used_back used_now (with_place i id a st) used_fits (omega (arith, length_place))

    pub keeps_new : Keeps st state_new
    keeps_new =
        let e : length (written (media_fields place)) ≡ 120 = length_written (media_fields place) in
        let u = new_facts.small in
        let t = ok.there in
        let k1 = keeps_place st long t.controls t.sections i (written (media_fields place)) u e in
        let q : used_of (with_place i id a st) ≡ used_of st =
        used_apart (184 + 120 * i) (written (media_fields place)) st (inl (omega arith)) (omega arith) in
        let k2 = keeps_used (with_place i id a st) (omega (arith, length_place)) (rw q t.controls) (rw q t.sections) used_now used_fits (rw q) (rw q) in
        let k3 = keeps_packets (with_used used_now (with_place i id a st)) (omega (arith, length_used)) (rw used_new t.controls) (rw used_new t.sections) packets_now in
        keeps_on (keeps_on k1 k2) k3

    pub media_new : media_in state_new ≡ media_in st ++ (place ∷ [])
    media_new =
        let f = new_facts in
        let bs : List ℕ = written (field 8 packets_now ∷ []) in
        let eb : length bs ≡ 8 = length_written (field 8 packets_now ∷ []) in
        let t : (used_of (with_used used_now (with_place i id a st))).media_ids ≤ 64 = rw used_new (omega (arith, f.is, f.small)) in
        sym (named.media state_new)
        ∙ place_apart media (with_used used_now (with_place i id a st)) (omega (arith, length_used)) t 88 bs (inl (omega arith)) (inl (omega arith))
        (omega (arith, length_used))
        ∙ ap (λ n. in_use media (with_used used_now (with_place n id a st))) f.is
        ∙ place_new media st long place fits used_now (omega arith) used_fits (omega (arith, f.is, f.small))
        ∙ ap (λ (ms : List Media). ms ++ (place ∷ [])) (named.media st)

    entries_new : indexed (asset_entry (limits_of st) session_new) 0 (media_in state_new) ≡ put id a (entries s)
    entries_new =
        let f = new_facts in
        let n : length (media_in st) ≡ i = length_media st ∙ sym f.is in
        ap (indexed (asset_entry (limits_of st) session_new) 0) media_new
        ∙ indexed_snoc (asset_entry (limits_of st) session_new) (media_in st) 0 place
        ∙ ap (λ (es : List (ℕ × Asset)). es ++ (asset_entry (limits_of st) session_new (0 + length (media_in st)) place ∷ []))
        (indexed_same (asset_entry (limits_of st) session_new) (asset_entry (limits_of st) s) place (media_in st) 0
        (λ j b. other_entry_lem state_new i j f.free b (λ z. omega arith)))
        ∙ ap (λ (x : ℕ × Asset). entries s ++ (x ∷ []))
        (ap (λ k. asset_entry (limits_of st) session_new (0 + k) place) n ∙ own_entry state_new i f.free)
        ∙ sym f.put_last

    counters_new : counters_of state_new ≡ counting packets_now (counters_of st)
    counters_new =
        let e : length (written (media_fields place)) ≡ 120 = length_written (media_fields place) in
        let eu : length (written (used_fields used_now)) ≡ 12 = length_written (used_fields used_now) in
        let u = new_facts.small in
        packets_back packets_now (with_used used_now (with_place i id a st)) packets_small (omega (arith, length_used))
        ∙ ap (counting packets_now)
        (apart counters_of 88 96 counters_own 57 (written (used_fields used_now)) (with_place i id a st) (inr (omega arith)) (omega (arith, length_place))
        ∙ apart counters_of 88 96 counters_own (184 + 120 * i) (written (media_fields place)) st (inl (omega arith)) (omega arith))

-- ---- the view

module _ (s : Session) (st' ob' : List ℕ) (es : List (ℕ × Asset)) where
  abbrev after : Session
  after = lent st' s.others ob' s.messages s.tables

  view_from :
      Keeps s.state st'
      → indexed (asset_entry (limits_of s.state) after) 0 (media_in st') ≡ es
      → counters_of st' ≡ counting ((counters_of s.state).tlv_packets + 1) (counters_of s.state)
      → view after
      ≡ record {
        passing = (view s).passing;
        assets = es;
        controls = (view s).controls;
        store = (view s).store;
        time = (view s).time;
        counters = packet_counted (view s).counters 0 0 0;
      }
  unfolding view view_by
  view_from k ea ec =
      let l = limits_of s.state in
      ap (λ (x : Limits). view_by x after) k.limits
      ∙ (λ i.
      record {
        passing = l.pass_scrambled;
        assets = ea i;
        controls = indexed (control_entry l s) 0 (k.controls i);
        store =
            record {
              plt = given (k.latest i).plt (kept_table_at l s (l.sections + l.control_ids) (k.latest i).plt_length);
              tot = given (k.latest i).tot (kept_table_at l s (l.sections + l.control_ids + 1) (k.latest i).tot_length);
              kept = indexed (section_entry l s) 0 (k.sections i);
              others = s.others;
            };
        time = given (k.time i).seen (k.time i).timestamp;
        counters = (ec i);
      })
      ∙ ap
      (λ (x : Counters).
      record {
        passing = l.pass_scrambled;
        assets = es;
        controls = (view s).controls;
        store = (view s).store;
        time = (view s).time;
        counters = x;
      })
      (sym (counted_alone (counters_of s.state)))

-- what a media packet leaves is what the model's state is after it, where the asset fits its place and its object its area
module _ (s : Session) (m : MpuPacket) (ok : Sound s.state s.others (lengths_of s)) (tied : Tied (asset_next s m))
    (fits : Fit (media_fields (place_for_asset m.id (asset_next s m)))) (room : held_length (asset_next s m).held ≤ (limits_of s.state).mfu_area) where
  pub leaves_view : (media_place_for s.state m.id ≡ NoneFree → ⊥) → view (media_leaves s m) ≡ pushed (view s) (media_packet m)
  unfolding media_leaves pushed asset_next view view_by
  leaves_view free = go (media_place_for s.state m.id) refl
    where
      go : (x : PlaceFor) → media_place_for s.state m.id ≡ x → view (leaves_at s m.id (asset_next s m) x) ≡ pushed (view s) (media_packet m)
      go (Own i) e =
          view_from s (state_old s ok m.id (asset_next s m) tied fits room i e) (objects_after s ok m.id (asset_next s m) tied fits room i)
          (put m.id (asset_next s m) (entries s))
          (keeps_old s ok m.id (asset_next s m) tied fits room i e) (entries_old s ok m.id (asset_next s m) tied fits room i e)
          (counters_old s ok m.id (asset_next s m) tied fits room i e)
      go (Free i) e =
          view_from s (state_new s ok m.id (asset_next s m) tied fits room i e) (objects_after s ok m.id (asset_next s m) tied fits room i)
          (put m.id (asset_next s m) (entries s))
          (keeps_new s ok m.id (asset_next s m) tied fits room i e) (entries_new s ok m.id (asset_next s m) tied fits room i e)
          (counters_new s ok m.id (asset_next s m) tied fits room i e)
      go NoneFree e = absurd (free e)

-- ---- what is held fits where the needs do

applied_held : (a : Asset) (m : MpuPacket) → held_length (after_headers a m).held ≤ held_length a.held
unfolding after_headers
applied_held a m = either (gap a.number m.number) (λ t. rw t (omega arith)) (λ f. rw f (omega arith))

-- ---- the asset before the packet, as a place and its bytes

pub record Before (s : Session) (a : Asset) : Type 0 where
  pub place : Media
  pub bytes : Bytes
  pub is : a ≡ asset_of_place place bytes
  pub long : place.held ≡ true → length bytes ≡ place.object.length
  pub room : held_length a.held ≤ (limits_of s.state).mfu_area

place_room : (p : Media) (b : Bytes) (area : ℕ) → (p.held ≡ true → length b ≤ area) → held_length (asset_of_place p b).held ≤ area
unfolding asset_of_place mfu_of
place_room p b area h = go p.held h
  where
    go : (x : Bool) → (x ≡ true → length b ≤ area) → held_length (given x (mfu_of p.object b)) ≤ area
    go true k = k refl
    go false k = omega arith

tied_fresh : Tied fresh
unfolding fresh
tied_fresh = refl

fresh_held : fresh.held ≡ None
unfolding fresh
fresh_held = refl

blank_not_held : {A : Type 0} → (place_for_asset 0 fresh).held ≡ true → A
unfolding place_for_asset fresh
blank_not_held t = let z : ◌≡◌ {A = ℕ} 0 1 = cc in absurd (omega arith)

module _ (s : Session) (ok : Sound s.state s.others (lengths_of s)) (id : ℕ) where
  before_old : (i : ℕ) → media_place_for s.state id ≡ Own i → Before s (asset_of id (view s))
  unfolding media_place_for asset_of or_else view view_by
  before_old i place_for_of =
      let st = s.state in
      let l = limits_of st in
      let e : found_from 0 (keys (entries s)) id ≡ Some i =
      ap (λ (ns : List ℕ). found_from 0 ns id) (entry_names s)
      ∙ place_for_was_old (names_from (used_of st).media_ids 120 184 st) l.media_ids id i place_for_of in
      let z : i - 0 ≡ i = omega arith in
      let w : FoundAt (entries s) id i = rw z at (found_at (entries s) id 0 i e).1 in
      let b : i < length (media_in st) = omega (arith, w.within, length_indexed (asset_entry l s) 0 (media_in st)) in
      let blank : Media = place_for_asset 0 fresh in
      let p : Media = get_or (media_in st) i blank in
      let q = media_was l p (every_at (media_sound l) blank (media_in st) i ok.objects b) in
      let ps = passed l (lengths_of s) ok.limits in
      let bs : Bytes = part (i * l.mfu_area) p.object.length s.objects in
      let lb : p.held ≡ true → length bs ≡ p.object.length =
      λ t.
      length_part (i * l.mfu_area) p.object.length s.objects
      (in_buffer i p.object.length l.mfu_area (length s.objects) l.media_ids (q.0 t) (omega (arith, b, length_media st, ok.media)) ps.objects) in
      let g : get_or (entries s) i (0, fresh) ≡ asset_entry l s i p =
      let y : 0 + i ≡ i = omega arith in
      rw y at (get_d_indexed (asset_entry l s) (media_in st) 0 i blank (0, fresh) b) in
      let f : or_else fresh (find id (entries s)) ≡ asset_of_place p bs =
      ap (or_else fresh) (w.found fresh) ∙ ap (λ (x : ℕ × Asset). x.1) g in
      record {
        place = p;
        bytes = bs;
        is = f;
        long = lb;
        room = subst (λ (x : Asset). held_length x.held ≤ l.mfu_area) (sym f) (place_room p bs l.mfu_area (λ t. omega (arith, lb t, q.0 t)));
      }

  before_new : (i : ℕ) → media_place_for s.state id ≡ Free i → Before s (asset_of id (view s))
  unfolding media_place_for asset_of or_else view view_by
  before_new i place_for_of =
      let st = s.state in
      let w = place_for_was_new (names_from (used_of st).media_ids 120 184 st) (limits_of st).media_ids id i place_for_of in
      let e : found_from 0 (keys (entries s)) id ≡ None = ap (λ (ns : List ℕ). found_from 0 ns id) (entry_names s) ∙ w.0 in
      let f : or_else fresh (find id (entries s)) ≡ fresh = ap (or_else fresh) (absent (entries s) id 0 e).0 in
      let p : Media = place_for_asset 0 fresh in
      let g : asset_of_place p [] ≡ fresh = place_back 0 fresh [] tied_fresh (λ h x. absurd (none_some h (sym fresh_held ∙ x))) in
      record {
        place = p;
        bytes = [];
        is = f ∙ sym g;
        long = λ t. blank_not_held t;
        room = subst (λ (x : Asset). held_length x.held ≤ (limits_of st).mfu_area) (sym f) fresh_room;
      }
    where
      fresh_room : held_length fresh.held ≤ (limits_of s.state).mfu_area
      fresh_room = omega arith

-- ---- the range ends with the last MPU number, before and after

tied_place : (p : Media) (b : Bytes) → Tied (asset_of_place p b)
unfolding asset_of_place
tied_place p b = either p.mpu_seen (λ t. rw t) (λ f. rw f)

module _ (f : ℕ) where
  tied_on : (o : Option ℕ) (r : Option (ℕ × ℕ)) (n : ℕ) → r ≡ range_for o (first_in r)
      → range_after (new_mpu o (Some n)) r (Some n) ≡ range_for (Some n) (first_in (range_after (new_mpu o (Some n)) r (Some n)))
  unfolding new_mpu range_after
  tied_on None r n e = rw e
  tied_on (Some l) r n e =
      either (eqb n l) (λ t. let z = eqb-true n l t in rw (t, e, z)) (λ t. rw (t, e))

tied_applied : (a : Asset) (m : MpuPacket) → Tied a → Tied (after_headers a m)
unfolding after_headers
tied_applied a m t = go m.header
  where
    go : (h : Option PayloadHeader)
        → range_after (new_mpu a.mpu (mpu_in h)) a.range (mpu_in h)
        ≡ range_for (mpu_after a.mpu (mpu_in h)) (first_in (range_after (new_mpu a.mpu (mpu_in h)) a.range (mpu_in h)))
    go None = t
    go (Some h) = tied_on 0 a.mpu a.range h.mpu_sequence_number t

tied_units : (m : MpuPacket) (us : List PayloadUnit) (a : Asset) → Tied a → Tied (after_units m a us)
unfolding after_units after_unit
tied_units m [] a t = t
tied_units m (u ∷ us) a t = tied_units m us (after_unit a (unit_effect m a u)) t

tied_after : (a : Asset) (m : MpuPacket) → Tied a → Tied (asset_after a m)
unfolding asset_after
tied_after a m t = tied_units m (readable m) (after_headers a m) (tied_applied a m t)

module _ (s : Session) (ok : Sound s.state s.others (lengths_of s)) (m : MpuPacket)
    (places : (used_of s.state).media_ids + (needs (view s) (media_packet m)).media_ids ≤ (limits_of s.state).media_ids)
    (object : (needs (view s) (media_packet m)).object ≤ (limits_of s.state).mfu_area) where
  pub place_for_free : media_place_for s.state m.id ≡ NoneFree → ⊥
  unfolding media_place_for needs pushed view view_by
  place_for_free e =
      let st = s.state in
      let w = place_for_was_full (names_from (used_of st).media_ids 120 184 st) (limits_of st).media_ids m.id e in
      let f : found_from 0 (keys (entries s)) m.id ≡ None = ap (λ (ns : List ℕ). found_from 0 ns m.id) (entry_names s) ∙ w.0 in
      let r = (absent (entries s) m.id 0 f).1 (asset_after (asset_of m.id (view s)) m) in
      let n : length (names_from (used_of st).media_ids 120 184 st) ≡ (used_of st).media_ids = length_names 120 (used_of st).media_ids 184 st in
      let k : length (put m.id (asset_after (asset_of m.id (view s)) m) (entries s)) ≡ length (entries s) + 1 =
      ap length r ∙ length-append (entries s) ((m.id, asset_after (asset_of m.id (view s)) m) ∷ []) in
      omega (arith, places, k, w.1, n)

  before_any : Before s (asset_of m.id (view s))
  before_any = go (media_place_for s.state m.id) refl
    where
      go : (x : PlaceFor) → media_place_for s.state m.id ≡ x → Before s (asset_of m.id (view s))
      go (Own i) e = before_old s ok m.id i e
      go (Free i) e = before_new s ok m.id i e
      go NoneFree e = absurd (place_for_free e)

  pub held_room : held_length (asset_next s m).held ≤ (limits_of s.state).mfu_area
  unfolding asset_next asset_after needs
  held_room =
      let a = asset_of m.id (view s) in
      omega (arith, units_held m (readable m) (after_headers a m), applied_held a m, before_any.room, object)

  pub tied_next : Tied (asset_next s m)
  unfolding asset_next
  tied_next =
      let b = before_any in
      subst (λ (a : Asset). Tied (asset_after a m)) (sym b.is) (tied_after (asset_of_place b.place b.bytes) m (tied_place b.place b.bytes))

  -- every number of the place fits its field
  pub media_leaves_lem : Fit (media_fields (place_for_asset m.id (asset_next s m))) → view (media_leaves s m) ≡ pushed (view s) (media_packet m)
  media_leaves_lem fits = leaves_view s m ok tied_next fits held_room place_for_free
