-- What message packets, control packets and the others leave, seen as the model's state. Assumes nothing.
use Rattle.std.specs.Prelude.{None, Some, Option, is_some}
use Rattle.std.proofs.Common.{◌≡◌, ℕ, suc, ◌+◌, ◌-◌, ◌*◌, ◌<◌, ◌≤◌, Bool, true, false, List, [], ◌∷◌, ◌++◌, map, length, get_or, set, sym, refl, ap, ◌∙◌, inl, inr, mul-le-mul_right, arith, length-append, length-set}
use Rattle.isdb_tlv.specs.Fields.{written, Fit}
use Rattle.isdb_tlv.proofs.Fields.{length_written}
use Rattle.isdb_tlv.proofs.Guards.{either}
use Rattle.isdb_mmt.specs.Decoder.Packet.{Bytes}
use Rattle.isdb_mmt.specs.Decoder.Maps.{put}
use Rattle.isdb_mmt.specs.Decoder.Objects.{Asset}
use Rattle.isdb_mmt.specs.Decoder.Reassembly.{PartialMessage}
use Rattle.isdb_mmt.specs.Decoder.Model.{State, Control as ControlState, idle_control}
use Rattle.isdb_mmt.specs.Decoder.Needs.{partial_length}
use Rattle.isdb_mmt.specs.Memory.Layout.{control_places, control_size, media_places, most_media_ids, most_control_ids, most_sections, state_size, section_places}
use Rattle.isdb_mmt.specs.Memory.Lent.{part, names_from, found_from, indexed}
use Rattle.isdb_mmt.specs.Memory.Session.{Session, limits_of, used_of, latest_of, time_of, counters_of, control_fields}
use Rattle.isdb_mmt.specs.Memory.Check.{media_in, controls_in, sections_in, control_sound, lengths_of, Sound}
use Rattle.isdb_mmt.specs.Memory.View.{given, control_state_in, asset_entry, control_entry, section_entry, kept_table_at, view_by, view}
use Rattle.isdb_mmt.specs.Memory.Opening.{lent}
use Rattle.isdb_mmt.specs.Pushes.MediaPush.{with_used}
use Rattle.isdb_mmt.specs.Memory.PlacesOf.{table_length, long_in, aggregated_in, control_for, latest_for}
use Rattle.isdb_mmt.specs.Pushes.Leaves.{joined_in, kept_place, used_for, with_control, with_latest, state_of_tables, bytes_over, kept_over, control_place_for}
use Rattle.isdb_mmt.specs.declared.decoder.place.PlaceFor.TheVariants.{Own, Free}
use Rattle.isdb_mmt.specs.declared.decoder.limits.Limits.{Limits}
use Rattle.isdb_mmt.specs.declared.decoder.head.Used.{Used}
use Rattle.isdb_mmt.specs.declared.decoder.head.Latest.{Latest}
use Rattle.isdb_mmt.specs.declared.decoder.head.Time.{Time}
use Rattle.isdb_mmt.specs.declared.decoder.control.Control.{Control}
use Rattle.isdb_mmt.proofs.Lent.{length_over, part_over, length_names}
use Rattle.isdb_mmt.proofs.Stored.{apart, limits_own, time_own}
use Rattle.isdb_mmt.proofs.Sessions.{Sort, media, controls, sections, in_use, named, place_set, place_new, place_apart, used_apart}
use Rattle.isdb_mmt.proofs.Views.{keys, FoundAt, found_at, absent, indexed_set, indexed_snoc, indexed_same}
use Rattle.isdb_mmt.proofs.Limits.{passed, Passed, whole_area}
use Rattle.isdb_mmt.proofs.Checks.{control_was}
use Rattle.isdb_mmt.proofs.PlacesFor.{length_controls, control_entries, control_names_lem, length_media, place_for_was_old, place_for_was_new, length_indexed, every_at, set_indexed}
use Rattle.isdb_mmt.proofs.TableAreas.{length_laid, laid_apart, laid, length_kept, kept_apart, Lie, kept_lie, lie_on, lie_read}
use Rattle.isdb_mmt.proofs.StateWrites.{used_other, TablesFit, used_fits, length_tables, limits_tables, latest_tables, time_tables, counters_tables, used_tables, others_tables, sections_tables, latest_read, limits_latest, time_latest, counters_latest, places_latest}
use Rattle.isdb_mmt.proofs.MediaLeaves.{given_back}
use Rattle.isdb_mmt.specs.Pushes.Placed.{join_of}

-- ---- a view put together

-- what a session says after, part by part
pub record Says (s s' : Session) (n : State) : Type 0 where
  pub limits : limits_of s'.state ≡ limits_of s.state
  pub passing : (limits_of s.state).pass_scrambled ≡ n.passing
  pub assets : indexed (asset_entry (limits_of s.state) s') 0 (media_in s'.state) ≡ n.assets
  pub controls : indexed (control_entry (limits_of s.state) s') 0 (controls_in s'.state) ≡ n.controls
  pub plt :
      given (latest_of s'.state).plt
      (kept_table_at (limits_of s.state) s' ((limits_of s.state).sections + (limits_of s.state).control_ids) (latest_of s'.state).plt_length)
      ≡ n.store.plt
  pub tot :
      given (latest_of s'.state).tot
      (kept_table_at (limits_of s.state) s' ((limits_of s.state).sections + (limits_of s.state).control_ids + 1) (latest_of s'.state).tot_length)
      ≡ n.store.tot
  pub kept : indexed (section_entry (limits_of s.state) s') 0 (sections_in s'.state) ≡ n.store.kept
  pub others : s'.others ≡ n.store.others
  pub time : given (time_of s'.state).seen (time_of s'.state).timestamp ≡ n.time
  pub counters : counters_of s'.state ≡ n.counters

pub says : (s s' : Session) (n : State) → Says s s' n → view s' ≡ n
unfolding view view_by
says s s' n h =
    ap (λ (x : Limits). view_by x s') h.limits
    ∙ (λ i.
    record {
      passing = h.passing i;
      assets = h.assets i;
      controls = h.controls i;
      store = record { plt = h.plt i; tot = h.tot i; kept = h.kept i; others = h.others i };
      time = h.time i;
      counters = (h.counters i);
    })

-- ---- a control place

-- bytes that its flags do not speak of do not matter
control_bytes : (c : Control) (a b m t : Bytes) → (c.joining ≡ true → a ≡ b) → (c.mpt ≡ true → m ≡ t)
    → control_state_in c a m ≡ control_state_in c b t
unfolding control_state_in
control_bytes c a b m t e f =
    let p : given c.joining (join_of c.long_length c.aggregated a) ≡ given c.joining (join_of c.long_length c.aggregated b) =
    either c.joining (λ y. rw (e y)) (λ y. rw y) in
    let q : given c.mpt m ≡ given c.mpt t = either c.mpt (λ y. rw (f y)) (λ y. rw y) in
    λ i. record { reassembly = record { number = given c.seen c.sequence; partial = p i }; mpt = q i }

join_laid : (o : Option PartialMessage) (area i : ℕ) (l : Bytes) → partial_length o ≤ area → (i + 1) * area ≤ length l
    → given (is_some o) (join_of (long_in o) (aggregated_in o) (part (i * area) (partial_length o) (bytes_over (i * area) (joined_in o) l))) ≡ o
join_laid None area i l h w = refl
join_laid (Some j) area i l h w =
    let e = part_over (i * area) j.bytes l (omega arith) in
    λ k. Some (record { long = j.long; aggregated = j.aggregated; bytes = e k })

pub joined_length : (o : Option PartialMessage) → table_length (joined_in o) ≡ partial_length o
joined_length None = refl
joined_length (Some j) = refl

-- ---- sound sessions

module _ (s : Session) (ok : Sound s.state s.others (lengths_of s)) where
  abbrev st : List ℕ
  st = s.state

  abbrev l : Limits
  l = limits_of st

  abbrev area : ℕ
  area = l.table_area

  pub ranges : Passed l (lengths_of s)
  ranges = passed l (lengths_of s) ok.limits

  pub in_tables : (k : ℕ) → k < l.sections + l.control_ids + 2 → (k + 1) * area ≤ length s.tables
  in_tables k h = whole_area k (l.sections + l.control_ids + 2) area (length s.tables) h ranges.tables

  -- so do `n` bytes in area `k` of the tables
  pub in_table : (k n : ℕ) → k < l.sections + l.control_ids + 2 → n ≤ area → k * area + n ≤ length s.tables
  in_table k n h b = omega (arith, in_tables k h)

  pub kept_within : (n : State) → TablesFit l n → (0 + length n.store.kept) * area ≤ length s.tables
  kept_within n f =
      let m : (0 + length n.store.kept) * area ≤ (l.sections + l.control_ids + 2) * area = mul-le-mul_right area (omega (arith, f.sections)) in
      omega (arith, ranges.tables)

  -- media and control places, with as many in use
  module _ (n : State) (f : TablesFit l n) (b : List ℕ) (long : state_size ≤ length b) where
    pub kept_places : {A : Type 0} (o : Sort A) → o.count (used_for n) ≤ o.places → o.count (used_for n) ≡ o.count (used_of b)
        → media_places ≤ o.at → o.at + o.width * o.places ≤ section_places → in_use o (state_of_tables n b) ≡ in_use o b
    kept_places o c e h k =
        let r = ranges.ranges in
        others_tables l n r.media.1 r.controls.1 r.sections.1 f b long o c h k
        ∙ used_other b long (used_for n) (used_fits l n r.media.1 r.controls.1 r.sections.1 f b long) o e

  -- ---- a control packet: nothing of media and control ids, PLT, TOT and time changes
  module _ (n : State) (f : TablesFit l n) (ep : (view s).passing ≡ n.passing) (ea : (view s).assets ≡ n.assets) (ec : (view s).controls ≡ n.controls)
      (el : (view s).store.plt ≡ n.store.plt) (et : (view s).store.tot ≡ n.store.tot) (ei : (view s).time ≡ n.time) where
    abbrev st' : List ℕ
    st' = state_of_tables n st

    abbrev tables' : Bytes
    tables' = kept_over area 0 n.store.kept s.tables

    abbrev s' : Session
    s' = lent st' n.store.others s.objects s.messages tables'

    media_count : (used_for n).media_ids ≡ (used_of st).media_ids
    unfolding view view_by
    media_count = ap (λ (x : List (ℕ × Asset)). length x) (sym ea) ∙ length_indexed (asset_entry l s) 0 (media_in st) ∙ length_media st

    control_count : (used_for n).control_ids ≡ (used_of st).control_ids
    unfolding view view_by
    control_count = ap (λ (x : List (ℕ × ControlState)). length x) (sym ec) ∙ length_indexed (control_entry l s) 0 (controls_in st) ∙ length_controls st

    pub media_same : media_in st' ≡ media_in st
    media_same =
        sym (named.media st')
        ∙ kept_places n f st ok.there.long media (omega (arith, f.media, ranges.ranges.media)) media_count (omega arith) (omega arith)
        ∙ named.media st

    pub controls_same : controls_in st' ≡ controls_in st
    controls_same =
        sym (named.controls st')
        ∙ kept_places n f st ok.there.long controls (omega (arith, f.controls, ranges.ranges.controls)) control_count (omega arith) (omega arith)
        ∙ named.controls st

    -- areas behind those of the sections
    behind : (k m : ℕ) → l.sections ≤ k → m ≤ area → part (k * area) m tables' ≡ part (k * area) m s.tables
    behind k m h b = kept_apart area n.store.kept 0 s.tables f.kept (kept_within n f) k m (inr (omega (arith, f.sections))) b

    entries_same : indexed (control_entry l s') 0 (controls_in st') ≡ n.controls
    unfolding view view_by
    entries_same =
        let d : Control = control_for 0 idle_control in
        ap (indexed (control_entry l s') 0) controls_same
        ∙ indexed_same (control_entry l s') (control_entry l s) d (controls_in st) 0
        (λ j b.
        let c : Control = get_or (controls_in st) j d in
        let q = control_was l c (every_at (control_sound l) d (controls_in st) j ok.messages b) in
        let e = control_bytes c (part ((0 + j) * l.message_area) c.length s.messages) (part ((0 + j) * l.message_area) c.length s.messages)
        (kept_table_at l s' (l.sections + (0 + j)) c.mpt_length) (kept_table_at l s (l.sections + (0 + j)) c.mpt_length) (λ t. refl)
        (λ t. behind (l.sections + (0 + j)) c.mpt_length (omega arith) (q.1 t)) in
        λ k. (c.packet_id, e k))
        ∙ ec

    latest_same : (b : Bool) (k m : ℕ) → l.sections ≤ k → (b ≡ true → m ≤ area) → given b (kept_table_at l s' k m) ≡ given b (kept_table_at l s k m)
    latest_same true k m h q = ap Some (behind k m h (q refl))
    latest_same false k m h q = refl

    pub control_says : Says s s' n
    unfolding view view_by
    control_says =
        let r = ranges.ranges in
        let lt : latest_of st' ≡ latest_of st = latest_tables l n r.media.1 r.controls.1 r.sections.1 f st ok.there.long in
        record {
          limits = limits_tables l n r.media.1 r.controls.1 r.sections.1 f st ok.there.long;
          passing = ep;
          assets = ap (indexed (asset_entry l s') 0) media_same ∙ ea;
          controls = entries_same;
          plt =
              ap (λ (x : Latest). given x.plt (kept_table_at l s' (l.sections + l.control_ids) x.plt_length)) lt
              ∙ latest_same (latest_of st).plt (l.sections + l.control_ids) (latest_of st).plt_length (omega arith) ok.plt ∙ el;
          tot =
              ap (λ (x : Latest). given x.tot (kept_table_at l s' (l.sections + l.control_ids + 1) x.tot_length)) lt
              ∙ latest_same (latest_of st).tot (l.sections + l.control_ids + 1) (latest_of st).tot_length (omega arith) ok.tot ∙ et;
          kept =
              ap (indexed (section_entry l s') 0) (sections_tables l n r.media.1 r.controls.1 r.sections.1 f st ok.there.long)
              ∙ lie_read area n.store.kept 0 tables' (kept_lie area n.store.kept 0 s.tables f.kept (kept_within n f));
          others = refl;
          time = ap (λ (x : Time). given x.seen x.timestamp) (time_tables l n r.media.1 r.controls.1 r.sections.1 f st ok.there.long) ∙ ei;
          counters = counters_tables l n r.media.1 r.controls.1 r.sections.1 f st ok.there.long;
        }

  -- ---- a message packet, whose id has or takes the place i
  module _ (n : State) (f : TablesFit l n) (id : ℕ) (c : ControlState) (fits : Fit (control_fields (control_for id c)))
      (joins : partial_length c.reassembly.partial ≤ l.message_area) (short : table_length c.mpt ≤ area)
      (ep : (view s).passing ≡ n.passing) (ea : (view s).assets ≡ n.assets) (ec : put id c (control_entries s) ≡ n.controls) (ei : (view s).time ≡ n.time)
      (i : ℕ) (free : i < l.control_ids) where
    abbrev st1 : List ℕ
    st1 = with_control i id c st

    abbrev st2 : List ℕ
    st2 = with_latest n.store (state_of_tables n st1)

    abbrev messages2 : Bytes
    messages2 = bytes_over (i * l.message_area) (joined_in c.reassembly.partial) s.messages

    abbrev t0 : Bytes
    t0 = kept_over area 0 n.store.kept s.tables

    abbrev t1 : Bytes
    t1 = bytes_over ((l.sections + l.control_ids) * area) n.store.plt t0

    abbrev t2 : Bytes
    t2 = bytes_over ((l.sections + l.control_ids + 1) * area) n.store.tot t1

    abbrev t3 : Bytes
    t3 = bytes_over ((l.sections + i) * area) c.mpt t2

    abbrev s2 : Session
    s2 = lent st2 n.store.others s.objects messages2 t3

    pub few : i < most_control_ids
    few = omega (arith, free, ranges.ranges.controls)

    pub length_place : length (written (control_fields (control_for id c))) ≡ 21
    length_place = length_written (control_fields (control_for id c))

    pub length_1 : length st1 ≡ length st
    length_1 = length_over (control_places + control_size * i) (written (control_fields (control_for id c))) st (omega (arith, few, length_place, ok.there.long))

    pub long_1 : state_size ≤ length st1
    long_1 = omega (arith, length_1, ok.there.long)

    used_1 : used_of st1 ≡ used_of st
    used_1 = used_apart (control_places + control_size * i) (written (control_fields (control_for id c))) st (inl (omega arith)) (omega (arith, few, length_place, ok.there.long))

    pub long_t : state_size ≤ length (state_of_tables n st1)
    long_t =
        let r = ranges.ranges in
        omega (arith, long_1, length_tables l n r.media.1 r.controls.1 r.sections.1 f st1 long_1)

    used_t : used_of (state_of_tables n st1) ≡ used_for n
    used_t = let r = ranges.ranges in used_tables l n r.media.1 r.controls.1 r.sections.1 f st1 long_1

    media_count2 : (used_for n).media_ids ≡ (used_of st1).media_ids
    unfolding view view_by
    media_count2 =
        ap (λ (x : List (ℕ × Asset)). length x) (sym ea) ∙ length_indexed (asset_entry l s) 0 (media_in st) ∙ length_media st
        ∙ ap (λ (x : Used). x.media_ids) (sym used_1)

    pub media_2 : media_in st2 ≡ media_in st
    media_2 =
        let r = ranges.ranges in
        let k : length n.assets ≤ most_media_ids = omega (arith, f.media, r.media) in
        sym (named.media st2)
        ∙ places_latest n.store area r.table.1 f.plt f.tot (state_of_tables n st1) long_t media (rw used_t k) (omega arith)
        ∙ kept_places n f st1 long_1 media k media_count2 (omega arith) (omega arith)
        ∙ place_apart media st ok.there.long ok.there.media (control_places + control_size * i) (written (control_fields (control_for id c)))
        (inl (omega arith)) (inr (omega arith)) (omega (arith, few, length_place, ok.there.long))
        ∙ named.media st

    controls_2 : in_use controls st2 ≡ in_use controls (state_of_tables n st1)
    controls_2 =
        let r = ranges.ranges in
        let k : length n.controls ≤ most_control_ids = omega (arith, f.controls, r.controls) in
        places_latest n.store area r.table.1 f.plt f.tot (state_of_tables n st1) long_t controls (rw used_t k) (omega arith)

    pub sections_t2 : sections_in st2 ≡ map kept_place n.store.kept
    sections_t2 =
        let r = ranges.ranges in
        let k : length n.store.kept ≤ most_sections = omega (arith, f.sections, r.sections) in
        sym (named.sections st2)
        ∙ places_latest n.store area r.table.1 f.plt f.tot (state_of_tables n st1) long_t sections (rw used_t k) (omega arith)
        ∙ named.sections (state_of_tables n st1)
        ∙ sections_tables l n r.media.1 r.controls.1 r.sections.1 f st1 long_1

    -- ---- areas

    pub len0 : length t0 ≡ length s.tables
    len0 = length_kept area n.store.kept 0 s.tables f.kept (kept_within n f)

    in0 : (k : ℕ) → k < l.sections + l.control_ids + 2 → (k + 1) * area ≤ length t0
    in0 k h = omega (arith, in_tables k h, len0)

    pub len1 : length t1 ≡ length t0
    len1 = length_laid area n.store.plt t0 (l.sections + l.control_ids) f.plt (in0 _ (omega arith))

    in1 : (k : ℕ) → k < l.sections + l.control_ids + 2 → (k + 1) * area ≤ length t1
    in1 k h = omega (arith, in0 k h, len1)

    pub len2 : length t2 ≡ length t1
    len2 = length_laid area n.store.tot t1 (l.sections + l.control_ids + 1) f.tot (in1 _ (omega arith))

    pub in2 : (k : ℕ) → k < l.sections + l.control_ids + 2 → (k + 1) * area ≤ length t2
    in2 k h = omega (arith, in1 k h, len2)

    -- another area than that of this id's MPT; than PLT's and TOT's too
    past3 : (k m : ℕ) → (k ≡ l.sections + i → ⊥) → m ≤ area → part (k * area) m t3 ≡ part (k * area) m t2
    past3 k m h b = laid_apart area c.mpt t2 (l.sections + i) short (in2 _ (omega arith)) k m h b

    past2 : (k m : ℕ) → (k ≡ l.sections + l.control_ids + 1 → ⊥) → m ≤ area → part (k * area) m t2 ≡ part (k * area) m t1
    past2 k m h b = laid_apart area n.store.tot t1 (l.sections + l.control_ids + 1) f.tot (in1 _ (omega arith)) k m h b

    past1 : (k m : ℕ) → (k ≡ l.sections + l.control_ids → ⊥) → m ≤ area → part (k * area) m t1 ≡ part (k * area) m t0
    past1 k m h b = laid_apart area n.store.plt t0 (l.sections + l.control_ids) f.plt (in0 _ (omega arith)) k m h b

    -- MPTs of other ids
    past : (j m : ℕ) → j < l.control_ids → (j ≡ i → ⊥) → m ≤ area → part ((l.sections + j) * area) m t3 ≡ part ((l.sections + j) * area) m s.tables
    past j m h ne b =
        past3 (l.sections + j) m (λ q. ne (omega arith)) b ∙ past2 (l.sections + j) m (λ q. omega arith) b ∙ past1 (l.sections + j) m (λ q. omega arith) b
        ∙ kept_apart area n.store.kept 0 s.tables f.kept (kept_within n f) (l.sections + j) m (inr (omega (arith, f.sections))) b

    plt_2 : given (is_some n.store.plt) (part ((l.sections + l.control_ids) * area) (table_length n.store.plt) t3) ≡ n.store.plt
    plt_2 =
        ap (given (is_some n.store.plt))
        (past3 (l.sections + l.control_ids) (table_length n.store.plt) (λ q. omega arith) f.plt
        ∙ past2 (l.sections + l.control_ids) (table_length n.store.plt) (λ q. omega arith) f.plt)
        ∙ laid area n.store.plt t0 (l.sections + l.control_ids) f.plt (in0 _ (omega arith))

    tot_2 : given (is_some n.store.tot) (part ((l.sections + l.control_ids + 1) * area) (table_length n.store.tot) t3) ≡ n.store.tot
    tot_2 =
        ap (given (is_some n.store.tot))
        (past3 (l.sections + l.control_ids + 1) (table_length n.store.tot) (λ q. omega arith) f.tot)
        ∙ laid area n.store.tot t1 (l.sections + l.control_ids + 1) f.tot (in1 _ (omega arith))

    kept_2 : Lie area t3 0 n.store.kept
    kept_2 =
        lie_on area n.store.kept 0 t0 t3 f.kept
        (λ j m a b d.
        past3 j m (λ q. omega (arith, f.sections)) d ∙ past2 j m (λ q. omega (arith, f.sections)) d ∙ past1 j m (λ q. omega (arith, f.sections)) d)
        (kept_lie area n.store.kept 0 s.tables f.kept (kept_within n f))

    -- ---- entries

    pub in_messages : (i + 1) * l.message_area ≤ length s.messages
    in_messages = whole_area i l.control_ids l.message_area (length s.messages) free ranges.messages

    own_entry : control_entry l s2 (0 + i) (control_for id c) ≡ (id, c)
    unfolding control_for control_state_in
    own_entry =
        let z : 0 + i ≡ i = omega arith in
        let pj = join_laid c.reassembly.partial l.message_area i s.messages joins in_messages in
        let pm = laid area c.mpt t2 (l.sections + i) short (in2 _ (omega arith)) in
        let pn = given_back c.reassembly.number in
        rw z (λ k. (id, record { reassembly = record { number = pn k; partial = pj k }; mpt = pm k }))

    other_entry_lem : (j : ℕ) → j < length (controls_in st) → (j ≡ i → ⊥)
        → control_entry l s2 (0 + j) (get_or (controls_in st) j (control_for id c)) ≡ control_entry l s (0 + j) (get_or (controls_in st) j (control_for id c))
    other_entry_lem j b ne =
        let d : Control = get_or (controls_in st) j (control_for id c) in
        let z : 0 + j ≡ j = omega arith in
        let k : j < l.control_ids = omega (arith, length_controls st, ok.controls) in
        let q = control_was l d (every_at (control_sound l) (control_for id c) (controls_in st) j ok.messages b) in
        let g : table_length (joined_in c.reassembly.partial) ≤ l.message_area = rw (joined_length c.reassembly.partial) joins in
        let e = control_bytes d (part (j * l.message_area) d.length messages2) (part (j * l.message_area) d.length s.messages)
        (kept_table_at l s2 (l.sections + j) d.mpt_length) (kept_table_at l s (l.sections + j) d.mpt_length)
        (λ t. laid_apart l.message_area (joined_in c.reassembly.partial) s.messages i g in_messages j d.length ne (q.0 t))
        (λ t. past j d.mpt_length k ne (q.1 t)) in
        rw z (λ x. (d.packet_id, e x))

    -- ---- all together, but for the entries
    message_says : indexed (control_entry l s2) 0 (controls_in st2) ≡ put id c (control_entries s) → Says s s2 n
    unfolding view view_by latest_for
    message_says es =
        let r = ranges.ranges in
        let tb = area in
        let lt : latest_of st2 ≡ latest_for n.store = latest_read n.store area r.table.1 f.plt f.tot (state_of_tables n st1) long_t in
        let cl : counters_of st2 ≡ counters_of (state_of_tables n st1) = counters_latest n.store area r.table.1 f.plt f.tot (state_of_tables n st1) long_t in
        let w : control_places + control_size * i + length (written (control_fields (control_for id c))) ≤ length st = omega (arith, few, length_place, ok.there.long) in
        record {
          limits =
              limits_latest n.store area r.table.1 f.plt f.tot (state_of_tables n st1) long_t
              ∙ limits_tables l n r.media.1 r.controls.1 r.sections.1 f st1 long_1
              ∙ apart limits_of 0 57 limits_own (control_places + control_size * i) (written (control_fields (control_for id c))) st (inl (omega arith)) w;
          passing = ep;
          assets = ap (indexed (asset_entry l s2) 0) media_2 ∙ ea;
          controls = es ∙ ec;
          plt = ap (λ (x : Latest). given x.plt (kept_table_at l s2 (l.sections + l.control_ids) x.plt_length)) lt ∙ plt_2;
          tot = ap (λ (x : Latest). given x.tot (kept_table_at l s2 (l.sections + l.control_ids + 1) x.tot_length)) lt ∙ tot_2;
          kept = ap (indexed (section_entry l s2) 0) sections_t2 ∙ lie_read area n.store.kept 0 t3 kept_2;
          others = refl;
          time =
              ap (λ (x : Time). given x.seen x.timestamp)
              (time_latest n.store area r.table.1 f.plt f.tot (state_of_tables n st1) long_t
              ∙ time_tables l n r.media.1 r.controls.1 r.sections.1 f st1 long_1
              ∙ apart time_of 79 9 time_own (control_places + control_size * i) (written (control_fields (control_for id c))) st (inl (omega arith)) w)
              ∙ ei;
          counters = cl ∙ counters_tables l n r.media.1 r.controls.1 r.sections.1 f st1 long_1;
        }

    -- ---- a place that is there
    module _ (place_for_of : control_place_for st id ≡ Own i) where
      located_old : FoundAt (control_entries s) id i
      unfolding control_place_for
      located_old =
          let e : found_from 0 (keys (control_entries s)) id ≡ Some i =
          ap (λ (ns : List ℕ). found_from 0 ns id) (control_names_lem s)
          ∙ place_for_was_old (names_from (used_of st).control_ids control_size control_places st) l.control_ids id i place_for_of in
          let z : i - 0 ≡ i = omega arith in
          rw z at (found_at (control_entries s) id 0 i e).1

      pub controls_old : controls_in st2 ≡ set (controls_in st) i (control_for id c)
      controls_old =
          let w = located_old in
          let lu : length (control_entries s) ≡ (used_of st).control_ids = length_indexed (control_entry l s) 0 (controls_in st) ∙ length_controls st in
          let u : i < (used_of st).control_ids = omega (arith, w.within, lu) in
          let k : length n.controls ≤ most_control_ids = omega (arith, f.controls, ranges.ranges.controls) in
          let cn : length n.controls ≡ (used_of st1).control_ids =
          ap (λ (x : List (ℕ × ControlState)). length x) (sym ec ∙ w.stored c) ∙ length-set (control_entries s) i (id, c) ∙ lu
          ∙ ap (λ (x : Used). x.control_ids) (sym used_1) in
          sym (named.controls st2) ∙ controls_2
          ∙ kept_places n f st1 long_1 controls k cn (omega arith) (omega arith)
          ∙ place_set controls st ok.there.long (control_for id c) fits i u few
          ∙ ap (λ (x : List Control). set x i (control_for id c)) (named.controls st)

      pub message_old : Says s s2 n
      message_old =
          message_says
          (ap (indexed (control_entry l s2) 0) controls_old
          ∙ indexed_set (control_entry l s2) (controls_in st) 0 i (control_for id c)
          ∙ set_indexed (control_entry l s2) (control_entry l s) (control_for id c) (controls_in st) 0 i (control_entry l s2 (0 + i) (control_for id c))
          (λ j b ne. other_entry_lem j b ne)
          ∙ ap (λ (x : ℕ × ControlState). set (control_entries s) i x) own_entry
          ∙ sym (located_old.stored c))

    -- ---- a new place
    module _ (place_for_of : control_place_for st id ≡ Free i) where
      is_last : (i ≡ (used_of st).control_ids) × (put id c (control_entries s) ≡ control_entries s ++ ((id, c) ∷ []))
      unfolding control_place_for
      is_last =
          let w = place_for_was_new (names_from (used_of st).control_ids control_size control_places st) l.control_ids id i place_for_of in
          let e : found_from 0 (keys (control_entries s)) id ≡ None =
          ap (λ (ns : List ℕ). found_from 0 ns id) (control_names_lem s) ∙ w.0 in (
            w.1.0 ∙ length_names control_size (used_of st).control_ids control_places st,
            (absent (control_entries s) id 0 e).1 c,
          )

      pub controls_new : controls_in st2 ≡ controls_in st ++ (control_for id c ∷ [])
      controls_new =
          let is = is_last.0 in
          let lu : length (control_entries s) ≡ (used_of st).control_ids = length_indexed (control_entry l s) 0 (controls_in st) ∙ length_controls st in
          let cn : length n.controls ≡ suc (used_of st).control_ids =
          ap (λ (x : List (ℕ × ControlState)). length x) (sym ec ∙ is_last.1) ∙ length-append (control_entries s) ((id, c) ∷ []) ∙ (omega (arith, lu)) in
          let k : length n.controls ≤ most_control_ids = omega (arith, f.controls, ranges.ranges.controls) in
          let r = ranges.ranges in
          let uf = used_fits l n r.media.1 r.controls.1 r.sections.1 f st1 long_1 in
          sym (named.controls st2) ∙ controls_2
          ∙ others_tables l n r.media.1 r.controls.1 r.sections.1 f st1 long_1 controls k (omega arith) (omega arith)
          ∙ ap (λ m. in_use controls (with_used (used_for n) (with_control m id c st))) is
          ∙ place_new controls st ok.there.long (control_for id c) fits (used_for n) cn uf (omega (arith, is, few))
          ∙ ap (λ (x : List Control). x ++ (control_for id c ∷ [])) (named.controls st)

      pub all_before : length (controls_in st) ≡ i
      all_before = length_controls st ∙ sym is_last.0

      pub message_new : Says s s2 n
      message_new =
          message_says
          (ap (indexed (control_entry l s2) 0) controls_new
          ∙ indexed_snoc (control_entry l s2) (controls_in st) 0 (control_for id c)
          ∙ ap (λ (es : List (ℕ × ControlState)). es ++ (control_entry l s2 (0 + length (controls_in st)) (control_for id c) ∷ []))
          (indexed_same (control_entry l s2) (control_entry l s) (control_for id c) (controls_in st) 0 (λ j b. other_entry_lem j b (λ q. omega (arith, all_before))))
          ∙ ap (λ (x : ℕ × ControlState). control_entries s ++ (x ∷ []))
          (ap (λ m. control_entry l s2 (0 + m) (control_for id c)) all_before ∙ own_entry)
          ∙ sym is_last.1)
