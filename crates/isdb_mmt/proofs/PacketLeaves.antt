-- What an accepted packet leaves, of any kind, is the model's next state, where every number that it stores fits its field. Assumes
-- nothing.
use Rattle.std.specs.Prelude.{None, Some}
use Rattle.std.proofs.Common.{◌≡◌, ℕ, ◌+◌, ◌^◌, ◌<◌, ◌≤◌, true, ltb, leb, List, [], ◌∷◌, length, sym, refl, ap, ◌∙◌, inl, arith, length-append, ltb-true, leb-true}
use Rattle.isdb_tlv.specs.Fields.{written, Fit}
use Rattle.isdb_tlv.proofs.Fields.{length_written}
use Rattle.isdb_mmt.specs.Decoder.Packet.{Bytes, MessagePacket, Packet, ip_error, ntp, non_mmtp_of, media, message, control, other}
use Rattle.isdb_mmt.specs.Decoder.Maps.{put, or_else}
use Rattle.isdb_mmt.specs.Decoder.Kept.{KeptTables, a_section, section_of, stored, stored_all}
use Rattle.isdb_mmt.specs.Decoder.Model.{State, Control as ControlState, control_of, pushed, time_after}
use Rattle.isdb_mmt.specs.Decoder.GivenTables.{control_tables}
use Rattle.isdb_mmt.specs.Decoder.Needs.{partial_length, needs}
use Rattle.isdb_mmt.specs.Memory.Layout.{control_places, control_size, time_place, counters_place, state_size, latest_place, media_places}
use Rattle.isdb_mmt.specs.Memory.Lent.{names_from, found_from, indexed}
use Rattle.isdb_mmt.specs.Memory.Session.{Session, limits_of, used_of, latest_of, time_of, time_fields, counters_of, counters_fields, control_fields, media_fields}
use Rattle.isdb_mmt.specs.Memory.Check.{media_in, controls_in, sections_in, lengths_of, sound, Sound}
use Rattle.isdb_mmt.specs.Memory.View.{given, asset_entry, control_entry, section_entry, kept_table_at, view_by, view}
use Rattle.isdb_mmt.specs.Memory.Opening.{lent}
use Rattle.isdb_mmt.specs.Pushes.MediaPush.{place_for_asset, asset_next}
use Rattle.isdb_mmt.specs.Memory.PlacesOf.{table_length, control_for}
use Rattle.isdb_mmt.specs.Pushes.Leaves.{with_time, with_counters, counted_in, time_leaves, control_leaves, message_in, control_place_for, message_at, message_leaves, packet_leaves}
use Rattle.isdb_mmt.specs.Pushes.Push.{Input, packet_of, has_places, has_areas, has_outputs, asks_of, asks_later, asks, Fits, Taken}
use Rattle.isdb_mmt.specs.declared.decoder.place.PlaceFor.{PlaceFor}
use Rattle.isdb_mmt.specs.declared.decoder.place.PlaceFor.TheVariants.{Own, Free, NoneFree}
use Rattle.isdb_mmt.specs.declared.decoder.limits.Limits.{Limits}
use Rattle.isdb_mmt.specs.declared.decoder.head.Latest.{Latest}
use Rattle.isdb_mmt.specs.declared.decoder.head.Time.{Time}
use Rattle.isdb_mmt.proofs.Lent.{length_over, length_names}
use Rattle.isdb_mmt.proofs.Guards.{was_asked, was_guarded}
use Rattle.isdb_mmt.proofs.Maps.{find_put}
use Rattle.isdb_mmt.proofs.Stored.{apart, limits_own, latest_own, time_own, counters_back, time_back}
use Rattle.isdb_mmt.proofs.Sessions.{Sort, media as media_sort, controls as control_sort, sections as section_sort, in_use, named, place_apart, used_apart}
use Rattle.isdb_mmt.proofs.Views.{keys, found_at, absent}
use Rattle.isdb_mmt.proofs.PlacesFor.{length_controls, control_entries, control_names_lem, place_for_was_old, place_for_was_new, place_for_was_full, length_indexed}
use Rattle.isdb_mmt.proofs.StateWrites.{TablesFit}
use Rattle.isdb_mmt.proofs.MediaLeaves.{media_leaves_lem}
use Rattle.isdb_mmt.proofs.MessageLeaves.{Says, says, control_says, message_old, message_new}

-- ---- the questions, each by itself

pub fits_of : (s : Session) (rows out : ℕ) (p : Packet) → asks_of s rows out p ≡ 0 → Fits s rows out p
unfolding asks_of has_places has_areas has_outputs
fits_of s rows out p e =
    let q8 = was_asked (has_places (limits_of s.state) (used_of s.state) (needs (view s) p)) 7 _ e in
    let q9 = was_asked (has_areas (limits_of s.state) (needs (view s) p)) 8 _ q8.1 in
    let q10 = was_asked (has_outputs rows out (needs (view s) p)) 9 _ q9.1 in
    let p1 = was_guarded _ _ q8.0 in
    let p2 = was_guarded _ _ p1.1 in
    let a1 = was_guarded _ _ q9.0 in
    let a2 = was_guarded _ _ a1.1 in
    let o1 = was_guarded _ _ q10.0 in
    record {
      media = leb-true _ _ p1.0;
      controls = leb-true _ _ p2.0;
      sections = leb-true _ _ p2.1;
      object = leb-true _ _ a1.0;
      message = leb-true _ _ a2.0;
      table = leb-true _ _ a2.1;
      records = leb-true _ _ o1.0;
      data_bytes = leb-true _ _ o1.1;
    }

pub taken : (s : Session) (x : Input) → asks s x ≡ 0 → Taken s x
unfolding asks asks_later
taken s x e =
    let q5 = was_asked (sound s) 4 _ e in
    let q6 = was_asked (leb (length x.bytes) 65535) 5 _ q5.1 in
    let q7 = was_asked (ltb (counters_of s.state).tlv_packets (limits_of s.state).packets) 6 _ q6.1 in
    record {
      session = q5.0;
      short = leb-true _ _ q6.0;
      packets = ltb-true _ _ q7.0;
      fits = fits_of s (length x.rows) (length x.out) (packet_of x) q7.1;
    }

-- ---- what is stored fits

pub record ControlFits (l : Limits) (id : ℕ) (c : ControlState) : Type 0 where
  pub fields : Fit (control_fields (control_for id c))
  pub joins : partial_length c.reassembly.partial ≤ l.message_area
  pub mpt : table_length c.mpt ≤ l.table_area

pub record MessageFits (l : Limits) (id : ℕ) (n : State) : Type 0 where
  pub tables : TablesFit l n
  pub place : ControlFits l id (control_of id n)

abbrev pub CountersFit : State → Type 0
CountersFit n = Fit (counters_fields n.counters)

abbrev pub Stores : Session → Packet → Type 0
Stores s ip_error = CountersFit (pushed (view s) ip_error)
Stores s non_mmtp_of = CountersFit (pushed (view s) non_mmtp_of)
Stores s other = CountersFit (pushed (view s) other)
Stores s (ntp None) = CountersFit (pushed (view s) (ntp None))
Stores s (ntp (Some t)) = CountersFit (pushed (view s) (ntp (Some t))) × (t < 256 ^ 8)
Stores s (media m) = Fit (media_fields (place_for_asset m.id (asset_next s m)))
Stores s (message c) = MessageFits (limits_of s.state) c.id (pushed (view s) (message c))
Stores s (control bs) = TablesFit (limits_of s.state) (pushed (view s) (control bs))

seen_controls : (s : Session) → length (view s).controls ≡ length (control_entries s)
unfolding view view_by
seen_controls s = refl

module _ (s : Session) (ok : Sound s.state s.others (lengths_of s)) where
  abbrev st : List ℕ
  st = s.state

  abbrev l : Limits
  l = limits_of st

  -- ---- counters alone, on a state that is as before but for the time
  module _ (n : State) (b : List ℕ) (long : length b ≡ length st) (el : limits_of b ≡ l) (eu : latest_of b ≡ latest_of st)
      (em : media_in b ≡ media_in st) (ec : controls_in b ≡ controls_in st) (es : sections_in b ≡ sections_in st)
      (eq : used_of b ≡ used_of st) (f : CountersFit n) where
    abbrev cs : List ℕ
    cs = written (counters_fields n.counters)

    length_cs : length cs ≡ 96
    length_cs = length_written (counters_fields n.counters)

    abbrev b' : List ℕ
    b' = with_counters n.counters b

    abbrev s' : Session
    s' = lent b' s.others s.objects s.messages s.tables

    long_b : state_size ≤ length b
    long_b = omega (arith, long, ok.there.long)

    within : counters_place + length cs ≤ length b
    within = omega (arith, long_b, length_cs)

    sort_same : {A : Type 0} (o : Sort A) → o.count (used_of st) ≤ o.places → media_places ≤ o.at → in_use o b' ≡ in_use o b
    sort_same o c h = place_apart o b long_b (rw eq c) counters_place cs (inl (omega arith)) (inl (omega (arith, length_cs))) within

    counted_says : n.passing ≡ (view s).passing → n.assets ≡ (view s).assets → n.controls ≡ (view s).controls → n.store ≡ (view s).store
        → given (time_of b).seen (time_of b).timestamp ≡ n.time → Says s s' n
    unfolding view view_by
    counted_says ep ea ek et ei =
        let lt : latest_of b' ≡ latest_of st = apart latest_of latest_place 10 latest_own counters_place cs b (inl (omega arith)) within ∙ eu in
        record {
          limits = apart limits_of 0 57 limits_own counters_place cs b (inl (omega arith)) within ∙ el;
          passing = sym ep;
          assets =
              ap (indexed (asset_entry l s') 0) (sym (named.media b') ∙ sort_same media_sort ok.there.media (omega arith) ∙ named.media b ∙ em) ∙ sym ea;
          controls =
              ap (indexed (control_entry l s') 0) (sym (named.controls b') ∙ sort_same control_sort ok.there.controls (omega arith) ∙ named.controls b ∙ ec)
              ∙ sym ek;
          plt =
              ap (λ (x : Latest). given x.plt (kept_table_at l s' (l.sections + l.control_ids) x.plt_length)) lt
              ∙ ap (λ (x : KeptTables). x.plt) (sym et);
          tot =
              ap (λ (x : Latest). given x.tot (kept_table_at l s' (l.sections + l.control_ids + 1) x.tot_length)) lt
              ∙ ap (λ (x : KeptTables). x.tot) (sym et);
          kept =
              ap (indexed (section_entry l s') 0)
              (sym (named.sections b') ∙ sort_same section_sort ok.there.sections (omega arith) ∙ named.sections b ∙ es)
              ∙ ap (λ (x : KeptTables). x.kept) (sym et);
          others = ap (λ (x : KeptTables). x.others) (sym et);
          time =
              ap (λ (x : Time). given x.seen x.timestamp) (apart time_of time_place 9 time_own counters_place cs b (inl (omega arith)) within) ∙ ei;
          counters = counters_back n.counters b f long_b;
        }

  -- ---- the count of a packet without more
  plain : (n : State) → CountersFit n → n.passing ≡ (view s).passing → n.assets ≡ (view s).assets → n.controls ≡ (view s).controls
      → n.store ≡ (view s).store → n.time ≡ (view s).time → view (counted_in s n) ≡ n
  unfolding view view_by
  plain n f ep ea ek et ei =
      says s (counted_in s n) n (counted_says n st refl refl refl refl refl refl refl f ep ea ek et (sym ei))

  -- ---- a time
  module _ (t : ℕ) (small : t < 256 ^ 8) where
    abbrev ts : List ℕ
    ts = written (time_fields (record { seen = true; timestamp = t }))

    length_ts : length ts ≡ 9
    length_ts = length_written (time_fields (record { seen = true; timestamp = t }))

    places_timed : {A : Type 0} (o : Sort A) → o.count (used_of st) ≤ o.places → media_places ≤ o.at → in_use o (with_time (Some t) st) ≡ in_use o st
    places_timed o c h =
        place_apart o st ok.there.long c time_place ts (inl (omega arith)) (inl (omega (arith, length_ts))) (omega (arith, length_ts, ok.there.long))

    timed : (n : State) → CountersFit n → n.passing ≡ (view s).passing → n.assets ≡ (view s).assets → n.controls ≡ (view s).controls
        → n.store ≡ (view s).store → n.time ≡ Some t → view (time_leaves s (Some t) n) ≡ n
    timed n f ep ea ek et ei =
        let b : List ℕ = with_time (Some t) st in
        let w : time_place + length ts ≤ length st = omega (arith, length_ts, ok.there.long) in
        let tb : time_of b ≡ record { seen = true; timestamp = t } =
        time_back (record { seen = true; timestamp = t }) st (omega arith, (small, tt)) ok.there.long in
        says s (time_leaves s (Some t) n) n
        (counted_says n b (length_over time_place ts st w)
        (apart limits_of 0 57 limits_own time_place ts st (inl (omega arith)) w)
        (apart latest_of latest_place 10 latest_own time_place ts st (inl (omega arith)) w)
        (sym (named.media b) ∙ places_timed media_sort ok.there.media (omega arith) ∙ named.media st)
        (sym (named.controls b) ∙ places_timed control_sort ok.there.controls (omega arith) ∙ named.controls st)
        (sym (named.sections b) ∙ places_timed section_sort ok.there.sections (omega arith) ∙ named.sections st)
        (used_apart time_place ts st (inl (omega arith)) w) f ep ea ek et
        (ap (λ (x : Time). given x.seen x.timestamp) tb ∙ sym ei))

  -- ---- a message packet
  module _ (c : MessagePacket) (rows out : ℕ) (yes : Fits s rows out (message c)) (f : MessageFits l c.id (pushed (view s) (message c))) where
    abbrev n : State
    n = pushed (view s) (message c)

    pub own : put c.id (control_of c.id n) (control_entries s) ≡ n.controls
    unfolding pushed control_of or_else view view_by
    own = rw (find_put c.id _ (control_entries s))

    pub place_for_free : control_place_for st c.id ≡ NoneFree → ⊥
    unfolding control_place_for needs
    place_for_free e =
        let w = place_for_was_full (names_from (used_of st).control_ids control_size control_places st) l.control_ids c.id e in
        let q : found_from 0 (keys (control_entries s)) c.id ≡ None = ap (λ (ns : List ℕ). found_from 0 ns c.id) (control_names_lem s) ∙ w.0 in
        let a = (absent (control_entries s) c.id 0 q).1 (control_of c.id n) in
        let k : length n.controls ≡ length (control_entries s) + 1 =
        ap (λ (x : List (ℕ × ControlState)). length x) (sym own ∙ a) ∙ length-append (control_entries s) ((c.id, control_of c.id n) ∷ []) in
        let m : length (names_from (used_of st).control_ids control_size control_places st) ≡ (used_of st).control_ids =
        length_names control_size (used_of st).control_ids control_places st in
        omega (arith, yes.controls, k, w.1, m, seen_controls s)

    pub old_free : (i : ℕ) → control_place_for st c.id ≡ Own i → i < l.control_ids
    unfolding control_place_for
    old_free i e =
        let q : found_from 0 (keys (control_entries s)) c.id ≡ Some i =
        ap (λ (ns : List ℕ). found_from 0 ns c.id) (control_names_lem s)
        ∙ place_for_was_old (names_from (used_of st).control_ids control_size control_places st) l.control_ids c.id i e in
        let w = found_at (control_entries s) c.id 0 i q in
        omega (arith, w.0, w.1.within, length_indexed (control_entry l s) 0 (controls_in st), length_controls st, ok.controls)

    pub new_free : (i : ℕ) → control_place_for st c.id ≡ Free i → i < l.control_ids
    unfolding control_place_for
    new_free i e = (place_for_was_new (names_from (used_of st).control_ids control_size control_places st) l.control_ids c.id i e).1.1

    at_place_for : (x : PlaceFor) → control_place_for st c.id ≡ x → view (message_at s n c.id x) ≡ n
    unfolding pushed view view_by message_in
    at_place_for (Own i) e =
        says s (message_in s n c.id i) n
        (message_old s ok n f.tables c.id (control_of c.id n) f.place.fields f.place.joins f.place.mpt refl refl own refl i (old_free i e) e)
    at_place_for (Free i) e =
        says s (message_in s n c.id i) n
        (message_new s ok n f.tables c.id (control_of c.id n) f.place.fields f.place.joins f.place.mpt refl refl own refl i (new_free i e) e)
    at_place_for NoneFree e = absurd (place_for_free e)

  -- ---- a control packet has no PLT and no TOT
  pub sections_plt : (bs : List Bytes) (x : KeptTables) → (stored_all x (control_tables bs)).plt ≡ x.plt
  unfolding stored_all stored
  sections_plt [] x = refl
  sections_plt (b ∷ bs) x = sections_plt bs (stored x (a_section (section_of b)))

  pub sections_tot : (bs : List Bytes) (x : KeptTables) → (stored_all x (control_tables bs)).tot ≡ x.tot
  unfolding stored_all stored
  sections_tot [] x = refl
  sections_tot (b ∷ bs) x = sections_tot bs (stored x (a_section (section_of b)))

  -- ---- all of them
  pub packet_leaves_lem : (p : Packet) (rows out : ℕ) → Fits s rows out p → Stores s p → view (packet_leaves s p) ≡ pushed (view s) p
  unfolding packet_leaves pushed message_leaves control_leaves time_after
  packet_leaves_lem ip_error rows out h f = plain (pushed (view s) ip_error) f refl refl refl refl refl
  packet_leaves_lem non_mmtp_of rows out h f = plain (pushed (view s) non_mmtp_of) f refl refl refl refl refl
  packet_leaves_lem other rows out h f = plain (pushed (view s) other) f refl refl refl refl refl
  packet_leaves_lem (ntp None) rows out h f = plain (pushed (view s) (ntp None)) f refl refl refl refl refl
  packet_leaves_lem (ntp (Some t)) rows out h f = timed t f.1 (pushed (view s) (ntp (Some t))) f.0 refl refl refl refl refl
  packet_leaves_lem (media m) rows out h f = media_leaves_lem s ok m h.media h.object f
  packet_leaves_lem (message c) rows out h f = at_place_for c rows out h f (control_place_for st c.id) refl
  packet_leaves_lem (control bs) rows out h f =
      says s (control_leaves s (pushed (view s) (control bs))) (pushed (view s) (control bs))
      (control_says s ok (pushed (view s) (control bs)) f refl refl refl (sym (sections_plt bs (view s).store)) (sym (sections_tot bs (view s).store)) refl)
