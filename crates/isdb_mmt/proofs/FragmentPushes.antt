-- A message packet with which no message is whole: what is asked and stored is what the model asks and leaves. Assumes nothing.
use Rattle.std.proofs.Common.{◌≡◌, ℕ, ◌+◌, ◌*◌, ◌<◌, ◌≤◌, false, ltb, List, [], map, length, sym, refl, ap, ◌∙◌, subst, inr, add-zero, arith, ltb-false}
use Rattle.isdb_tlv.specs.Guards.{◌<?◌}
use Rattle.std.specs.Prelude.{if◌then◌else◌, Option, is_some}
use Rattle.isdb_tlv.specs.Fields.{written}
use Rattle.isdb_tlv.proofs.Fields.{length_written}
use Rattle.isdb_tlv.proofs.Guards.{either}
use Rattle.isdb_mmt.specs.Decoder.Packet.{message_packet, Bytes, MessagePacket, message}
use Rattle.isdb_mmt.specs.Memory.Lent.{part, over, names_from, place_for_name}
use Rattle.isdb_mmt.specs.Memory.Layout.{used_place, counters_place, control_places, control_size, most_control_ids, section_places, section_size}
use Rattle.isdb_mmt.specs.Memory.Session.{Session, limits_of, used_of, used_fields, latest_of, counters_of, counters_fields, control_fields}
use Rattle.isdb_mmt.specs.Memory.Check.{PlacesThere, Sound, lengths_of}
use Rattle.isdb_mmt.specs.Pushes.Leaves.{control_place_for, used_for, with_control, with_sections, with_latest, with_counters, state_of_tables, bytes_over, kept_over, latest_over, message_in, message_at, message_leaves, packet_leaves}
use Rattle.isdb_mmt.specs.Pushes.Fragments.{laid_by, area_by, fragment_counted, fragment_outcome, completes, joined_by, control_with}
use Rattle.isdb_mmt.specs.Pushes.FragmentPush.{place_in, PlaceForThere, normal_latest, with_more, with_reassembly, with_counts, place_next, state_next, CanJoinAt, JoinedAt, CanJoin, length_if, received_fragment}
use Rattle.isdb_mmt.specs.Decoder.Reassembly.{PartialMessage, cut_of_all}
use Rattle.isdb_mmt.specs.Decoder.Model.{State, Control as ControlState, control_of, reassembly_of, pushed, packet_counted, reassembly_counted, gives}
use Rattle.isdb_mmt.specs.Memory.View.{kept_table_at, view_by, view, given}
use Rattle.isdb_mmt.specs.Decoder.Kept.{with_packet_counts, Table, table_read, stored_all, mpt_after_all, KeptTables, counted_all}
use Rattle.isdb_mmt.specs.Decoder.GivenTables.{tables_given}
use Rattle.isdb_mmt.specs.Memory.PlacesOf.{table_length, control_for, latest_for}
use Rattle.isdb_mmt.specs.Decoder.Needs.{needs, tables_need}
use Rattle.isdb_mmt.specs.Memory.Octets.{Octets}
use Rattle.isdb_mmt.specs.Memory.Opening.{lent}
use Rattle.isdb_mmt.specs.Pushes.MediaPush.{with_used}
use Rattle.isdb_mmt.specs.Pushes.Push.{asks_of, QuietPushed}
use Rattle.isdb_mmt.specs.declared.decoder.counts.Counters.{Counters}
use Rattle.isdb_mmt.specs.declared.decoder.limits.Limits.{Limits}
use Rattle.isdb_mmt.specs.declared.decoder.head.Used.{Used}
use Rattle.isdb_mmt.specs.declared.decoder.head.Latest.{Latest}
use Rattle.isdb_mmt.specs.declared.decoder.control.Control.{Control}
use Rattle.isdb_mmt.specs.declared.decoder.messages.FragmentOutcome.{FragmentOutcome}
use Rattle.isdb_mmt.specs.declared.decoder.place.PlaceFor.{PlaceFor}
use Rattle.isdb_mmt.specs.declared.decoder.place.PlaceFor.TheVariants.{Own, Free, NoneFree}
use Rattle.isdb_mmt.specs.declared.decoder.messages.ReceivedFragment.{ReceivedFragment}
use Rattle.isdb_mmt.proofs.Lent.{length_names, length_over, part_apart}
use Rattle.isdb_mmt.proofs.Limits.{passed, whole_area}
use Rattle.isdb_mmt.proofs.Counting.{fragment_countable}
use Rattle.isdb_mmt.proofs.PlacesFor.{place_for_was_old}
use Rattle.isdb_mmt.proofs.Fragments.{Does, none_whole}
use Rattle.isdb_mmt.proofs.Unchanged.{laid_same, given_length, is_there, sections_same, tables_same, latest_same}
use Rattle.isdb_mmt.proofs.ControlPlaces.{used_after, no_place, Sits, sits_old, sits_new, length_all, does, own, place_after, mpt_before, counts_after, length_kept, controls_more, messages_are}
use Rattle.isdb_mmt.proofs.Quiet.{asks_by}
use Rattle.isdb_mmt.proofs.TableOutcomes.{found_within}

-- ---- the calls: a place and its place

pub place_for_is : (l : List ℕ) (x : Limits) (u : Used) (id : ℕ) (r : PlaceFor) → x ≡ limits_of l → u ≡ used_of l
    → r ≡ place_for_name (names_from u.control_ids control_size control_places l) x.control_ids id → r ≡ control_place_for l id
unfolding control_place_for
place_for_is l x u id r ex eu e =
    e
    ∙ ap (λ (y : Used). place_for_name (names_from y.control_ids control_size control_places l) x.control_ids id) eu
    ∙ ap (λ (y : Limits). place_for_name (names_from (used_of l).control_ids control_size control_places l) y.control_ids id) ex

-- ---- the calls: stores one behind the other

pub next_stored : (l m m' : List ℕ) (i k : ℕ) (d : Control) (f : FragmentOutcome) (a b : Counters) (x y : Latest) (u v : Used)
    → a ≡ counters_of l → b ≡ fragment_counted f a → x ≡ latest_of l → y ≡ normal_latest x → u ≡ used_of l → v ≡ with_more k u
    → m ≡ with_reassembly i d v l → m' ≡ with_counts b y m → m' ≡ state_next i k d f l
unfolding state_next
next_stored l m m' i k d f a b x y u v ea eb ex ey eu ev em en =
    en
    ∙ ap (λ (z : Counters). with_counts z y m) (eb ∙ ap (fragment_counted f) ea)
    ∙ ap (λ (z : Latest). with_counts (fragment_counted f (counters_of l)) z m) (ey ∙ ap normal_latest ex)
    ∙ ap (with_counts (fragment_counted f (counters_of l)) (normal_latest (latest_of l))) (em ∙ ap (λ (z : Used). with_reassembly i d z l) (ev ∙ ap (with_more k) eu))

-- ---- what the model makes of the packet

module _ (s : Session) (ok : Sound s.state s.others (lengths_of s)) (x : MessagePacket) (i k : ℕ) (c : Control) (at : Sits s x.id i k c) (f : FragmentOutcome)
    (ef : f ≡ fragment_outcome c x.number x.payload) (part-only : completes f ≡ false) where
  abbrev v : State
  v = view s

  abbrev n : State
  n = pushed v (message x)

  abbrev lim : Limits
  lim = limits_of s.state

  abbrev b : Bytes
  b = x.payload

  abbrev m : Bytes
  m = part (i * lim.message_area) c.length s.messages

  abbrev t : Bytes
  t = kept_table_at lim s (lim.sections + i) c.mpt_length

  done : Does (reassembly_of x.id v) x c m f
  done = does s ok x i k c at f ef

  none_given : tables_given (reassembly_of x.id v) x ≡ []
  unfolding tables_given cut_of_all
  none_given =
      ap (λ (o : Option PartialMessage). map table_read (cut_of_all o).tables) (done.whole ∙ none_whole f c m b part-only)

  store_is : n.store ≡ v.store
  unfolding pushed stored_all
  store_is = ap (stored_all v.store) none_given

  -- the MPT stays
  mpt_is : (control_of x.id n).mpt ≡ given c.mpt t
  unfolding mpt_after_all
  mpt_is =
      ap (λ (y : ControlState). y.mpt) (own s ok x i k c at f ef) ∙ ap (mpt_after_all (control_of x.id v).mpt) none_given ∙ mpt_before s ok x i k c at f ef

  counters_are : n.counters ≡ fragment_counted f (counters_of s.state)
  unfolding pushed counted_all cut_of_all
  counters_are =
      let r = reassembly_of x.id v in
      let d : Counters = fragment_counted f (counters_of s.state) in
      ap (λ (ts : List Table). (counted_all (control_of x.id v).mpt v.store (reassembly_counted (packet_counted v.counters 0 0 0) r x) ts)) none_given
      ∙ counts_after s ok x i k c at f ef 0 (ap (λ (o : Option PartialMessage). (cut_of_all o).malformed) (done.whole ∙ none_whole f c m b part-only))
      ∙ ap (with_packet_counts d d.tlv_packets d.orphan_fragments d.oversize) (add-zero d.message_malformed)

  place_is : control_for x.id (control_of x.id n) ≡ place_next x.id x.number c f b
  place_is =
      let h : is_some (given c.mpt t) ≡ c.mpt = is_there c.mpt t in
      let g : table_length (given c.mpt t) ≡ length_if c.mpt c.mpt_length =
      given_length c.mpt ((lim.sections + i) * lim.table_area) c.mpt_length s.tables at.mpt in
      place_after s ok x i k c at f ef
      ∙ ap (λ (y : Option Bytes). control_with x.id x.number (joined_by f c b) (is_some y) (table_length y)) mpt_is
      ∙ (λ j. control_with x.id x.number (joined_by f c b) (h j) (g j))

  used_is : used_for n ≡ with_more k (used_of s.state)
  used_is =
      let g : length n.store.kept ≡ (used_of s.state).sections = ap (λ (y : KeptTables). length y.kept) store_is ∙ length_kept s ok x i k c at f ef in
      used_after s ok x i k c at f ef
      ∙ (λ j. record { media_ids = (used_of s.state).media_ids; control_ids = (used_of s.state).control_ids + k; sections = g j })

  abbrev next : Control
  next = place_next x.id x.number c f b

  abbrev room : ℕ
  room = (lim.sections + i) * lim.table_area

  state_is : Octets s.state → with_latest n.store (state_of_tables n (with_control i x.id (control_of x.id n) s.state)) ≡ state_next i k next f s.state
  unfolding state_next
  state_is o =
      let st = s.state in
      let cs : List ℕ = written (control_fields next) in
      let us : List ℕ = written (used_fields (with_more k (used_of st))) in
      let b0 : List ℕ = over (control_places + control_size * i) cs st in
      let b1 : List ℕ = with_reassembly i next (with_more k (used_of st)) st in
      let lc : length cs ≡ 21 = length_written (control_fields next) in
      let lu : length us ≡ 12 = length_written (used_fields (with_more k (used_of st))) in
      let few : i < most_control_ids = omega (arith, at.free, (passed lim (lengths_of s) ok.limits).ranges.controls) in
      let w : control_places + control_size * i + length cs ≤ length st = omega (arith, ok.there.long) in
      let l0 : length b0 ≡ length st = length_over (control_places + control_size * i) cs st w in
      let p : part section_places (section_size * (used_of st).sections) b1 ≡ part section_places (section_size * (used_of st).sections) st =
      part_apart section_places (section_size * (used_of st).sections) used_place us b0 (inr (omega arith)) (omega (arith, ok.there.long))
      ∙ part_apart section_places (section_size * (used_of st).sections) (control_places + control_size * i) cs st (inr (omega arith)) w in
      let e1 : with_used (used_for n) (with_control i x.id (control_of x.id n) st) ≡ b1 =
      ap (λ (y : Control). with_used (used_for n) (over (control_places + control_size * i) (written (control_fields y)) st)) place_is
      ∙ ap (λ (y : Used). with_used y b0) used_is in
      let e2 : with_sections n.store.kept b1 ≡ b1 = ap (λ (y : KeptTables). with_sections y.kept b1) store_is ∙ sections_same s ok o b1 p in
      ap (λ (y : List ℕ). with_latest n.store (with_counters n.counters (with_sections n.store.kept y))) e1
      ∙ ap (λ (y : List ℕ). with_latest n.store (with_counters n.counters y)) e2
      ∙ ap (λ (y : Counters). with_latest n.store (over counters_place (written (counters_fields y)) b1)) counters_are
      ∙ ap (λ (y : Latest). with_counts (fragment_counted f (counters_of st)) y b1) (ap latest_for store_is ∙ latest_same s ok)

  tables_are : bytes_over room (control_of x.id n).mpt
      (latest_over lim n.store (kept_over lim.table_area 0 n.store.kept s.tables)) ≡ s.tables
  tables_are =
      ap (λ (y : Option Bytes). bytes_over room y (latest_over lim n.store (kept_over lim.table_area 0 n.store.kept s.tables))) mpt_is
      ∙ ap (λ (y : KeptTables). bytes_over room (given c.mpt t) (latest_over lim y (kept_over lim.table_area 0 y.kept s.tables))) store_is
      ∙ ap (bytes_over room (given c.mpt t)) (tables_same s ok)
      ∙ laid_same c.mpt room c.mpt_length s.tables

  session_is : Octets s.state → area_by f c b ≤ lim.message_area
      → message_in s n x.id i ≡ lent (state_next i k next f s.state) s.others s.objects (laid_by f (i * lim.message_area) c b s.messages) s.tables
  unfolding message_in view view_by
  session_is o h =
      let p = state_is o in
      let q : n.store.others ≡ s.others = ap (λ (y : KeptTables). y.others) store_is in
      let r = messages_are s ok x i k c at f ef h in
      let t = tables_are in
      λ j. lent (p j) (q j) s.objects (r j) (t j)

  -- ---- what it asks

  asks_is : asks_of s 0 0 (message x) ≡ (if lim.message_area <? area_by f c b then 9 else 0)
  unfolding asks_of needs pushed gives
  asks_is =
      asks_by (needs v (message x)) lim (used_of s.state) (omega (arith, ok.media))
      (omega (arith, controls_more s ok x i k c at f ef, length_all s ok x.id, at.room))
      (omega (arith, ap (λ (y : KeptTables). length y.kept) store_is, ok.sections)) (omega arith)
      (subst (λ (y : ℕ). y ≤ lim.table_area) (sym (no_table none_given)) (omega arith)) refl refl
      ∙ ap (λ y. if lim.message_area <? y then 9 else 0) done.area
    where
      no_table : {ts : List Table} → ts ≡ [] → tables_need v.store ts ≡ 0
      no_table e = ap (tables_need v.store) e

  -- ---- all together
  module _ (o : Octets s.state) (r : ℕ) (l' m' : List ℕ) (j : JoinedAt s.state s.messages i k x.id x.number b c f r l' m') where
    abbrev s' : Session
    s' = lent l' s.others s.objects m' s.tables

    area_there : r ≡ 0 → area_by f c b ≤ lim.message_area
    area_there e =
        either (ltb lim.message_area (area_by f c b)) (λ y. absurd (nine (rw y at (sym j.number ∙ e)))) (λ y. ltb-false _ _ y)
      where
        nine : ◌≡◌ {A = ℕ} 9 0 → ⊥
        nine q = omega arith

    pub quiet : (place_for_of : PlaceFor) → control_place_for s.state x.id ≡ place_for_of → message_at s n x.id place_for_of ≡ message_in s n x.id i → QuietPushed s (message x) r s'
    unfolding packet_leaves message_leaves
    quiet place_for_of e q =
        record {
          number = j.number ∙ sym asks_is;
          same = λ z. let w = j.same z in λ d. lent (w.0 d) s.others s.objects (w.1 d) s.tables;
          session =
              λ z.
              (λ d. lent (j.state z d) s.others s.objects (j.messages z d) s.tables)
              ∙ sym (session_is o (area_there z))
              ∙ sym q
              ∙ ap (message_at s n x.id) (sym e);
        }

-- ---- the calls: a fragment as it is received

pub place_for_place : (l : List ℕ) (id : ℕ) (t : PlaceFor) → PlacesThere l → t ≡ control_place_for l id → PlaceForThere t
unfolding control_place_for
place_for_place l id (Own i) h e =
    let w = place_for_was_old (names_from (used_of l).control_ids control_size control_places l) (limits_of l).control_ids id i (sym e) in
    omega (
      arith,
      found_within 0 (names_from (used_of l).control_ids control_size control_places l) id i w,
      length_names control_size (used_of l).control_ids control_places l,
      h.controls,
    )
place_for_place l id (Free i) h e = tt
place_for_place l id NoneFree h e = tt

pub received_is : (l : List ℕ) (id n : ℕ) (b : Bytes) (t : PlaceFor) (c : Control) (f : FragmentOutcome) → t ≡ control_place_for l id → c ≡ place_in l t → f ≡ fragment_outcome c n b
    → record { place_for = t; place = c; outcome = f } ≡ received_fragment l (message_packet id n b)
unfolding received_fragment
received_is l id n b t c f et ec ef =
    let p : c ≡ place_in l (control_place_for l id) = ec ∙ ap (place_in l) et in
    let q : f ≡ fragment_outcome (place_in l (control_place_for l id)) n b = ef ∙ ap (λ (z : Control). fragment_outcome z n b) p in
    λ j. record { place_for = et j; place = p j; outcome = q j }

-- ---- the calls: a packet, by its place

-- what was received of a fragment: the place, what stands there and what becomes of it are those of the packet
pub record Met (s : Session) (x : MessagePacket) (y : ReceivedFragment) : Type 0 where
  pub place_for : y.place_for ≡ control_place_for s.state x.id
  pub place : y.place ≡ place_in s.state y.place_for
  pub outcome : y.outcome ≡ fragment_outcome y.place x.number x.payload

pub received_met : (s : Session) (x : MessagePacket) (y : ReceivedFragment) → y ≡ received_fragment s.state x → Met s x y
unfolding received_fragment
received_met s x y e =
    let a : y.place_for ≡ control_place_for s.state x.id = ap (λ (z : ReceivedFragment). z.place_for) e in
    let p : y.place ≡ place_in s.state (control_place_for s.state x.id) = ap (λ (z : ReceivedFragment). z.place) e in
    record {
      place_for = a;
      place = p ∙ ap (place_in s.state) (sym a);
      outcome =
          ap (λ (z : ReceivedFragment). z.outcome) e ∙ ap (λ (z : Control). fragment_outcome z x.number x.payload) (sym p);
    }

module _ (s : Session) (x : MessagePacket) (y : ReceivedFragment) (h : CanJoin s x y) where
  fragment : Met s x y
  fragment = received_met s x y h.received

  can_join_at : (i k : ℕ) → Sits s x.id i k y.place → CanJoinAt s.state s.messages i k x.payload
  can_join_at i k a =
      let ok = h.session in
      let r = passed (limits_of s.state) (lengths_of s) ok.limits in
      record {
        stores =
            record {
              long = ok.there.long;
              place = omega (arith, a.free, r.ranges.controls);
              new = a.few;
              used = ok.there.controls;
              counts = fragment_countable s ok;
            };
        short = h.short;
        area = r.ranges.message.1;
        room = whole_area i _ (limits_of s.state).message_area _ a.free r.messages;
      }

  module _ (i : ℕ) where
    is_old : y.place_for ≡ Own i → Sits s x.id i 0 y.place
    unfolding place_in
    is_old e = subst (Sits s x.id i 0) (sym (fragment.place ∙ ap (place_in s.state) e)) (sits_old s h.session x.id i (sym fragment.place_for ∙ e))

    is_new : y.place_for ≡ Free i → Sits s x.id i 1 y.place
    unfolding place_in
    is_new e = subst (Sits s x.id i 1) (sym (fragment.place ∙ ap (place_in s.state) e)) (sits_new s h.session x.id i (sym fragment.place_for ∙ e))

    pub joins_old : y.place_for ≡ Own i → CanJoinAt s.state s.messages i 0 x.payload
    joins_old e = can_join_at i 0 (is_old e)

    pub joins_new : y.place_for ≡ Free i → CanJoinAt s.state s.messages i 1 x.payload
    joins_new e = can_join_at i 1 (is_new e)

    module _ (o : Octets s.state) (r : ℕ) (l' m' : List ℕ) where
      pub pushed_old : y.place_for ≡ Own i → JoinedAt s.state s.messages i 0 x.id x.number x.payload y.place y.outcome r l' m'
          → QuietPushed s (message x) r (lent l' s.others s.objects m' s.tables)
      pushed_old e j = quiet s h.session x i 0 y.place (is_old e) y.outcome fragment.outcome h.divided o r l' m' j (Own i) (sym fragment.place_for ∙ e) refl

      pub pushed_new : y.place_for ≡ Free i → JoinedAt s.state s.messages i 1 x.id x.number x.payload y.place y.outcome r l' m'
          → QuietPushed s (message x) r (lent l' s.others s.objects m' s.tables)
      pushed_new e j = quiet s h.session x i 1 y.place (is_new e) y.outcome fragment.outcome h.divided o r l' m' j (Free i) (sym fragment.place_for ∙ e) refl

  pub pushed_full : y.place_for ≡ NoneFree → QuietPushed s (message x) 8 s
  pushed_full e = no_place s h.session x (sym fragment.place_for ∙ e)
