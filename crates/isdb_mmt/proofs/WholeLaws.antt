-- A message packet with which a message is whole, and the model: what is asked and left. Assumes nothing.
use Rattle.std.proofs.Common.{◌≡◌, ℕ, zero, suc, ◌+◌, ◌*◌, ◌<◌, ◌≤◌, Bool, true, false, not, ltb, List, ◌++◌, map, length, get_or, take, drop, sym, refl, ap, ◌∙◌, subst, arith, length-append, length-drop, length-take, w8, Fits, ltb-false, lt-ltb}
use Rattle.isdb_tlv.specs.Guards.{◌<?◌}
use Rattle.std.specs.Prelude.{if◌then◌else◌, Option, None, Some, is_some}
use Rattle.isdb_tlv.proofs.Guards.{either, cond_elim}
use Rattle.isdb_mmt.specs.Memory.Layout.{most_sections, most_message_area, table_ids, control_places, control_size, section_places, section_size}
use Rattle.isdb_mmt.specs.Decoder.Packet.{Bytes, MessagePacket, message}
use Rattle.isdb_mmt.specs.Decoder.Reassembly.{PartialMessage, Reassembly, most_message, cut_of, cut_of_all, message_completed}
use Rattle.isdb_mmt.specs.Decoder.Kept.{KeptTables, Table, table_read, mpt_after_all, stored_all, counted_all}
use Rattle.isdb_mmt.specs.Decoder.GivenTables.{tables_given}
use Rattle.isdb_mmt.specs.Decoder.Model.{State, Control as ControlState, control_of, reassembly_of, pushed}
use Rattle.isdb_mmt.specs.Decoder.Needs.{needs, tables_need}
use Rattle.isdb_mmt.specs.Memory.Lent.{part, over, names_from}
use Rattle.isdb_mmt.specs.Memory.Session.{Session, limits_of, used_of, counters_of, control_place_of, control_at}
use Rattle.isdb_mmt.specs.Memory.Check.{table_counts, control_sound, controls_in, lengths_of, Sound}
use Rattle.isdb_mmt.specs.Memory.View.{given, view}
use Rattle.isdb_mmt.specs.Memory.Opening.{lent}
use Rattle.isdb_mmt.specs.Memory.PlacesOf.{table_length, latest_for}
use Rattle.isdb_mmt.specs.Pushes.Leaves.{section_rows, bytes_over, kept_over, latest_over, control_place_for, message_at, message_in, packet_leaves}
use Rattle.isdb_mmt.specs.Pushes.Push.{asks_of, QuietPushed}
use Rattle.isdb_mmt.specs.Pushes.Fragments.{fragment_outcome, by_division, flags_in, continued, in_sequence, grown_length, joined_by, control_with, laid_by, area_by, whole_by_of, completes, fragment_counted, CanCount}
use Rattle.isdb_mmt.specs.Pushes.FragmentPush.{place_in, with_reassembly, with_counts}
use Rattle.isdb_mmt.specs.Pushes.TableOutcome.{index_size, recent_length}
use Rattle.isdb_mmt.specs.Pushes.Commit.{put_areas, logged_from, CanStoreAreas}
use Rattle.isdb_mmt.specs.Pushes.Start.{latest_with, counters_with, tables_ask, malformed_more, CountsFit}
use Rattle.isdb_mmt.specs.Pushes.WholeMessage.{is_last, before_by, join_by, held_in, WalkedWhole, CanWalkWhole, whole_ask, place_whole, state_left, CanLeaveState, place_for_at, CanPushWhole, CanPushAt}
use Rattle.isdb_mmt.specs.declared.decoder.limits.Limits.{Limits}
use Rattle.isdb_mmt.specs.declared.decoder.counts.Counters.{Counters}
use Rattle.isdb_mmt.specs.declared.decoder.control.Control.{Control}
use Rattle.isdb_mmt.specs.declared.decoder.messages.FragmentOutcome.{FragmentOutcome}
use Rattle.isdb_mmt.specs.declared.decoder.messages.FragmentOutcome.TheVariants.{Short, Undivided, First, Orphan, Oversize, Grown, Whole}
use Rattle.isdb_mmt.specs.declared.decoder.messages.ReceivedFragment.{ReceivedFragment}
use Rattle.isdb_mmt.specs.declared.message.Division.{Division}
use Rattle.isdb_mmt.specs.declared.message.Division.TheVariants.{Undivided as undivided, First as first, Middle as middle, Last as last_part}
use Rattle.isdb_mmt.specs.declared.decoder.place.PlaceFor.TheVariants.{NoneFree}
use Rattle.isdb_mmt.specs.declared.decoder.walk.WalkState.{WalkState}
use Rattle.isdb_mmt.proofs.Names.{true_not_false}
use Rattle.isdb_mmt.proofs.Lent.{length_names}
use Rattle.isdb_mmt.proofs.Limits.{Passed, passed, whole_area}
use Rattle.isdb_mmt.proofs.Checks.{count_was, place_was, control_was}
use Rattle.isdb_mmt.proofs.Counting.{fragment_countable}
use Rattle.isdb_mmt.proofs.PlacesFor.{place_for_was_old}
use Rattle.isdb_mmt.proofs.Fragments.{Does}
use Rattle.isdb_mmt.proofs.ControlPlaces.{Sits, sits_old, sits_new, does, own, mpt_before, counts_after, asks_message, leaves_parts, length_kept, no_place}
use Rattle.isdb_mmt.proofs.TableOutcomes.{found_within}
use Rattle.isdb_mmt.proofs.Loaded.{can_go}
use Rattle.isdb_mmt.proofs.MessageTables.{message_can, message_full, message_grows, message_used, message_longest, message_others, message_counters_lem, message_areas_can, message_rows, message_mpt_there, message_mpt_long, message_latest, message_areas}
use Rattle.isdb_mmt.proofs.FragmentPushes.{Met, received_met}

-- ---- by the fragment's fate

whole_is : (f : FragmentOutcome) → completes f ≡ true → (c : Control) (m b : Bytes) → whole_by_of f c m b ≡ Some (join_by (is_last f) c m b)
unfolding whole_by_of
whole_is Short e c m b = true_not_false false e refl
whole_is Undivided e c m b = refl
whole_is First e c m b = true_not_false false e refl
whole_is Orphan e c m b = true_not_false false e refl
whole_is Oversize e c m b = true_not_false false e refl
whole_is Grown e c m b = true_not_false false e refl
whole_is Whole e c m b = refl

no_fault : (f : FragmentOutcome) → completes f ≡ true → (a : Counters) → fragment_counted f a ≡ fragment_counted Undivided a
no_fault Short e a = true_not_false false e refl
no_fault Undivided e a = refl
no_fault First e a = true_not_false false e refl
no_fault Orphan e a = true_not_false false e refl
no_fault Oversize e a = true_not_false false e refl
no_fault Grown e a = true_not_false false e refl
no_fault Whole e a = refl

none_after : (f : FragmentOutcome) → completes f ≡ true → (c : Control) (b : Bytes) → joined_by f c b ≡ None
unfolding joined_by
none_after Short e c b = true_not_false false e refl
none_after Undivided e c b = refl
none_after First e c b = true_not_false false e refl
none_after Orphan e c b = true_not_false false e refl
none_after Oversize e c b = true_not_false false e refl
none_after Grown e c b = true_not_false false e refl
none_after Whole e c b = refl

none_laid : (f : FragmentOutcome) → completes f ≡ true → (at : ℕ) (c : Control) (b l : Bytes) → laid_by f at c b l ≡ l
unfolding laid_by
none_laid Short e at c b l = refl
none_laid Undivided e at c b l = refl
none_laid First e at c b l = true_not_false false e refl
none_laid Orphan e at c b l = refl
none_laid Oversize e at c b l = refl
none_laid Grown e at c b l = true_not_false false e refl
none_laid Whole e at c b l = refl

-- a message that is whole with its last fragment is not too long
abbrev NotLong : Control → Bytes → FragmentOutcome → Type 0
NotLong c b Short = Unit {0}
NotLong c b Undivided = Unit {0}
NotLong c b First = Unit {0}
NotLong c b Orphan = Unit {0}
NotLong c b Oversize = Unit {0}
NotLong c b Grown = Unit {0}
NotLong c b Whole = grown_length c b ≤ most_message

goes : (c : Control) (n : ℕ) (b : Bytes) (ends : Bool) → NotLong c b (continued ends c n b)
unfolding continued
goes c n b ends =
    cond_elim (NotLong c b) (not (in_sequence c n)) (λ e. tt) (λ e.
    cond_elim (NotLong c b) (most_message <? grown_length c b) (λ d. tt) (λ d.
    cond_elim (NotLong c b) ends (λ z. ltb-false most_message (grown_length c b) d) (λ z. tt)))

not_long : (c : Control) (n : ℕ) (b : Bytes) → NotLong c b (fragment_outcome c n b)
unfolding fragment_outcome
not_long c n b = cond_elim (NotLong c b) (length b <? 2) (λ e. tt) (λ e. by (flags_in b).division)
  where
    by : (d : Division) → NotLong c b (by_division d c n b)
    by undivided = tt
    by first = tt
    by middle = goes c n b false
    by last_part = goes c n b true

bytes_short : (f : FragmentOutcome) (c : Control) (m b : Bytes) → length m ≤ c.length → length b ≤ 65535 → NotLong c b f → length (before_by (is_last f) m ++ drop 2 b) ≤ most_message_area
bytes_short Short c m b h k n = omega (arith, length-drop 2 b)
bytes_short Undivided c m b h k n = omega (arith, length-drop 2 b)
bytes_short First c m b h k n = omega (arith, length-drop 2 b)
bytes_short Orphan c m b h k n = omega (arith, length-drop 2 b)
bytes_short Oversize c m b h k n = omega (arith, length-drop 2 b)
bytes_short Grown c m b h k n = omega (arith, length-drop 2 b)
bytes_short Whole c m b h k n = omega (arith, length-append m (drop 2 b), length-drop 2 b)

-- the walk's answer, by what is kept and needed
whole_cases : (l : Limits) (area : ℕ) (r : WalkState) (kept need : ℕ) → (r.full ≡ true → l.sections < kept) → (r.full ≡ false → r.used ≡ kept)
    → (r.full ≡ false → r.longest ≡ need)
    → ◌≡◌ {A = ℕ} (whole_ask l area r)
    (if l.sections <? kept then 8
    else if l.message_area <? area then 9
    else if l.table_area <? need then 9
    else 0)
unfolding whole_ask tables_ask
whole_cases l area r kept need hf hu hn =
    either r.full (λ y. rw (y, lt-ltb l.sections kept (hf y)))
    (λ y.
    rw (← hu y, ← hn y, y)
    (either (ltb l.sections r.used) (λ q. rw q)
    (λ q.
    rw q
    (either (ltb l.message_area area) (λ p. either (ltb l.table_area r.longest) (λ t. rw (t, p)) (λ t. rw (t, p)))
    (λ p. either (ltb l.table_area r.longest) (λ t. rw (t, p)) (λ t. rw (t, p)))))))

record Nothing-asked (l : Limits) (area : ℕ) (r : WalkState) : Type 0 where
  full : r.full ≡ false
  few : r.used ≤ l.sections
  fits : r.longest ≤ l.table_area
  room : area ≤ l.message_area

none_asked : (l : Limits) (area : ℕ) (r : WalkState) → whole_ask l area r ≡ 0 → Nothing-asked l area r
unfolding whole_ask tables_ask
none_asked l area r e =
    either r.full (λ y. absurd (eight (rw y at e)))
    (λ y.
    either (ltb l.sections r.used) (λ q. absurd (eight (rw (y, q) at e)))
    (λ q.
    either (ltb l.table_area r.longest)
    (λ t. either (ltb l.message_area area) (λ p. absurd (nine (rw (y, q, t, p) at e))) (λ p. absurd (nine (rw (y, q, t, p) at e))))
    (λ t.
    either (ltb l.message_area area) (λ p. absurd (nine (rw (y, q, t, p) at e)))
    (λ p.
    record {
      full = y;
      few = ltb-false l.sections r.used q;
      fits = ltb-false l.table_area r.longest t;
      room = ltb-false l.message_area area p;
    }))))
  where
    eight : ◌≡◌ {A = ℕ} 8 0 → ⊥
    eight q = omega arith

    nine : ◌≡◌ {A = ℕ} 9 0 → ⊥
    nine q = omega arith

-- ---- a packet

module _ (s : Session) (x : MessagePacket) (y : ReceivedFragment) (i k : ℕ) (ix log mine : List ℕ) (can : CanPushAt s x y i k ix log mine) where
  abbrev ok : Sound s.state s.others (lengths_of s)
  ok = can.packet.session

  abbrev c : Control
  c = y.place

  abbrev f : FragmentOutcome
  f = y.outcome

  abbrev b : Bytes
  b = x.payload

  abbrev l : Limits
  l = limits_of s.state

  abbrev a₀ : Counters
  a₀ = counters_of s.state

  whole : completes f ≡ true
  whole = can.packet.whole

  fragment : Met s x y
  fragment = received_met s x y can.packet.received

  sits_by : (k : ℕ) → y.place_for ≡ place_for_at i k → k ≤ 1 → Sits s x.id i k c
  unfolding place_in
  sits_by zero e h = subst (Sits s x.id i 0) (sym (fragment.place ∙ ap (place_in s.state) e)) (sits_old s ok x.id i (sym fragment.place_for ∙ e))
  sits_by (suc zero) e h = subst (Sits s x.id i 1) (sym (fragment.place ∙ ap (place_in s.state) e)) (sits_new s ok x.id i (sym fragment.place_for ∙ e))
  sits_by (suc (suc k)) e h = absurd (omega arith)

  at : Sits s x.id i k c
  at = sits_by k can.place_for can.few

  small_by : (k : ℕ) → y.place_for ≡ place_for_at i k → c.mpt ≡ true → c.mpt_length ≤ l.table_area
  unfolding place_in control_place_for controls_in
  small_by zero e t =
      let u : ℕ = (used_of s.state).control_ids in
      let names : List ℕ = names_from u control_size control_places s.state in
      let w = found_within 0 names x.id i (place_for_was_old names l.control_ids x.id i (sym fragment.place_for ∙ e)) in
      let n : length names ≡ u = length_names control_size u control_places s.state in
      let q = control_was l (control_at s.state i) (place_was (control_sound l) control_place_of u control_size control_places s.state i ok.messages (omega arith)) in
      let ec : c ≡ control_at s.state i = fragment.place ∙ ap (place_in s.state) e in
      rw ec (q.1 (rw ec at t))
  small_by (suc k) e t = true_not_false false (rw (fragment.place ∙ ap (place_in s.state) e) at t) refl

  small : c.mpt ≡ true → c.mpt_length ≤ l.table_area
  small t = small_by k can.place_for t

  abbrev met : Passed l (lengths_of s)
  met = passed l (lengths_of s) ok.limits

  -- the counters before the tables
  abbrev c₀ : Counters
  c₀ = (fragment_counted f a₀)

  counts_fit : CountsFit c₀
  counts_fit =
      let cs = table_counts a₀ in
      subst (λ (z : Counters). CountsFit z) (sym (no_fault f whole a₀))
      (record {
        tables = count_was cs 0 ok.tables;
        crc_errors = count_was cs 1 ok.tables;
        malformed = count_was cs 2 ok.tables;
        version_changes = count_was cs 3 ok.tables;
        message_malformed = omega (arith, count_was cs 6 ok.tables);
        split_errors = count_was cs 7 ok.tables;
      })

  pub whole_countable : (a : Counters) → a ≡ a₀ → CanCount a
  whole_countable a e = rw e (fragment_countable s ok)

  abbrev m : Bytes
  m = held_in s.state s.messages i c

  abbrev j : PartialMessage
  j = join_by (is_last f) c m b

  message_room : (i + 1) * l.message_area ≤ length s.messages
  message_room = whole_area i l.control_ids l.message_area (length s.messages) at.free met.messages

  pub whole_before : (z : Limits) → z ≡ l → (i + 1) * z.message_area ≤ length s.messages
  whole_before z e = rw e message_room

  pub whole_walk : (a : Counters) → a ≡ a₀ → (cs : Counters) → cs ≡ fragment_counted f a → (last : Bool) → last ≡ is_last f
      → CanWalkWhole s.state s.others s.messages s.tables ix log mine i c last cs b
  whole_walk a ea cs ec last el =
      let e : cs ≡ fragment_counted f a₀ = ec ∙ ap (fragment_counted f) ea in
      rw (el, e)
      (record {
        go = can_go s ok;
        copies = can.copies;
        counts = can.copies.others_long ∙ sym can.packet.others_long;
        long = ok.there.long;
        place = at.free;
        room = message_room;
        area = omega (arith, met.ranges.message);
        walk =
            message_can s ok i at.free c.mpt c.mpt_length small j c₀ counts_fit can.packet.others_long
            (bytes_short f c m b (omega (arith, length-take c.length (drop (i * l.message_area) s.messages))) can.packet.short
            (subst (NotLong c b) (sym fragment.outcome) (not_long c x.number b)));
      })

  -- ---- the model's next state

  abbrev v : State
  v = view s

  abbrev n : State
  n = pushed v (message x)

  abbrev reassembly : Reassembly
  reassembly = reassembly_of x.id v

  done : Does reassembly x c m f
  done = does s ok x i k c at f fragment.outcome

  gives_is : message_completed reassembly x ≡ Some j
  gives_is = done.whole ∙ whole_is f whole c m b

  abbrev ts : List Table
  ts = map table_read (cut_of j).tables

  given_is : tables_given reassembly x ≡ ts
  unfolding tables_given cut_of_all
  given_is = ap (λ (o : Option PartialMessage). map table_read (cut_of_all o).tables) gives_is

  abbrev mpt_b : Option Bytes
  mpt_b = given c.mpt (part ((l.sections + i) * l.table_area) c.mpt_length s.tables)

  store_is : n.store ≡ stored_all v.store ts
  unfolding pushed
  store_is = ap (stored_all v.store) given_is

  mpt_is : (control_of x.id n).mpt ≡ mpt_after_all mpt_b ts
  mpt_is =
      ap (λ (z : ControlState). z.mpt) (own s ok x i k c at f fragment.outcome)
      ∙ ap (mpt_after_all (control_of x.id v).mpt) given_is
      ∙ ap (λ (o : Option Bytes). mpt_after_all o ts) (mpt_before s ok x i k c at f fragment.outcome)

  abbrev c₁ : Counters
  c₁ = malformed_more c₀ (cut_of j).malformed

  counters_is : n.counters ≡ counted_all mpt_b v.store c₁ ts
  unfolding pushed cut_of_all
  counters_is =
      ap (λ (z : Counters). counted_all (control_of x.id v).mpt v.store z (tables_given reassembly x))
      (counts_after s ok x i k c at f fragment.outcome (cut_of j).malformed (ap (λ (o : Option PartialMessage). (cut_of_all o).malformed) gives_is))
      ∙ ap (λ (o : Option Bytes). counted_all o v.store c₁ (tables_given reassembly x)) (mpt_before s ok x i k c at f fragment.outcome)
      ∙ ap (λ (zs : List Table). counted_all mpt_b v.store c₁ zs) given_is

  -- ---- after the walk

  module _ (r : WalkState) (ix₂ log₂ mine₂ : List ℕ) (w : WalkedWhole s.state s.others s.tables i c (fragment_counted f a₀) j r ix₂ log₂ mine₂) where
    abbrev kept_now : ℕ
    kept_now = length n.store.kept

    kept_is : length (stored_all v.store ts).kept ≡ kept_now
    kept_is = ap (λ (z : KeptTables). length z.kept) (sym store_is)

    grows : (used_of s.state).sections ≤ kept_now
    grows =
        omega
        (arith, kept_is, message_grows s ok i at.free c.mpt c.mpt_length small j c₀ (length j.bytes + 1) r ix₂ log₂ mine₂ w)

    asked_sections : (used_of s.state).sections + (needs v (message x)).sections ≡ kept_now
    unfolding needs
    asked_sections = omega (arith, grows, length_kept s ok x i k c at f fragment.outcome)

    full_is : r.full ≡ true → most_sections < kept_now
    full_is y =
        omega (arith, kept_is, message_full s ok i at.free c.mpt c.mpt_length small j c₀ (length j.bytes + 1) r ix₂ log₂ mine₂ w y)

    used_is : r.full ≡ false → r.used ≡ kept_now
    used_is y = message_used s ok i at.free c.mpt c.mpt_length small j c₀ (length j.bytes + 1) r ix₂ log₂ mine₂ w y ∙ kept_is

    longest_is : r.full ≡ false → r.longest ≡ tables_need v.store (tables_given reassembly x)
    longest_is y =
        message_longest s ok i at.free c.mpt c.mpt_length small j c₀ (length j.bytes + 1) r ix₂ log₂ mine₂ w y
        ∙ ap (tables_need v.store) (sym given_is)

    abbrev asked_by : ℕ → ℕ → ℕ
    asked_by k t =
        if l.sections <? k then 8
        else if l.message_area <? area_by f c b then 9
        else if l.table_area <? t then 9
        else 0

    asks_is : whole_ask l (area_by f c b) r ≡ asks_of s 0 0 (message x)
    asks_is =
        go
        ∙ sym
        (asks_message s ok x i k c at f fragment.outcome
        ∙ ap (λ z. asked_by z (tables_need v.store (tables_given reassembly x))) asked_sections)
      where
        go : whole_ask l (area_by f c b) r ≡ asked_by kept_now (tables_need v.store (tables_given reassembly x))
        go = whole_cases l (area_by f c b) r kept_now (tables_need v.store (tables_given reassembly x)) (λ y. omega (arith, full_is y, met.ranges.sections)) used_is longest_is

    module _ (z : Limits) (ez : z ≡ l) (area : ℕ) (ea : area ≡ area_by f c b) (q : ℕ) (eq : q ≡ whole_ask z area r) where
      number_is : q ≡ asks_of s 0 0 (message x)
      number_is = eq ∙ ap (λ (y : Limits). whole_ask y area r) ez ∙ ap (λ y. whole_ask l y r) ea ∙ asks_is

      pub whole_refused : (q ≡ 0 → ⊥) → QuietPushed s (message x) q s
      whole_refused h = record { number = number_is; same = λ y. refl; session = λ y. absurd (h y) }

      module _ (e0 : q ≡ 0) where
        free : Nothing-asked l (area_by f c b) r
        free = none_asked l (area_by f c b) r (sym (eq ∙ ap (λ (y : Limits). whole_ask y area r) ez ∙ ap (λ y. whole_ask l y r) ea) ∙ e0)

        module _ (li : length ix₂ ≡ index_size) (ll : length log₂ ≡ most_sections) (lm : length mine₂ ≡ table_ids) where
          pub whole_areas : (a : Bytes) → a ≡ before_by (is_last f) (part (i * z.message_area) c.length s.messages) → (d : Bytes) → d ≡ drop 2 b
              → CanStoreAreas s.tables ix₂ log₂ r z i (a ++ d)
          whole_areas a e d g =
              rw (e, g, ez)
              (message_areas_can s ok i at.free c.mpt c.mpt_length small j c₀ (length j.bytes + 1) r ix₂ log₂ mine₂ w free.full free.few free.fits ll)

          pub whole_state : CanLeaveState s.state ix₂ i k r
          whole_state =
              record {
                long = ok.there.long;
                index_long = li;
                place = omega (arith, at.free, met.ranges.controls);
                few = ok.there.controls;
                new = can.few;
                sections = omega (arith, free.few, met.ranges.sections);
              }

          module _ (o : (t : ℕ) → Fits w8 (get_or ix₂ t 0)) (a : Bytes) (e : a ≡ before_by (is_last f) (part (i * z.message_area) c.length s.messages)) (d : Bytes)
              (g : d ≡ drop 2 b) (tables' : List ℕ) (et : tables' ≡ put_areas z i r (logged_from r.used 0 ix₂ log₂) (a ++ d) s.tables) (others' : List ℕ)
              (eo : others' ≡ mine₂) (p : Control) (ep : p ≡ place_whole x.id x.number r) (state' : List ℕ)
              (es : state' ≡ state_left i k p (fragment_counted f a₀) r ix₂ s.state) where
            tables_left : tables'
                ≡ bytes_over ((l.sections + i) * l.table_area) (control_of x.id n).mpt
                (latest_over l n.store (kept_over l.table_area 0 n.store.kept s.tables))
            tables_left =
                et
                ∙ rw (e, g, ez)
                (message_areas s ok i at.free c.mpt c.mpt_length small j c₀ (length j.bytes + 1) r ix₂ log₂ mine₂ w free.full free.few free.fits ll)
                ∙ ap
                (λ (o : Option Bytes).
                bytes_over ((l.sections + i) * l.table_area) o
                (latest_over l (stored_all v.store ts) (kept_over l.table_area 0 (stored_all v.store ts).kept s.tables)))
                (sym mpt_is)
                ∙ ap
                (λ (y : KeptTables).
                bytes_over ((l.sections + i) * l.table_area) (control_of x.id n).mpt (latest_over l y (kept_over l.table_area 0 y.kept s.tables)))
                (sym store_is)

            others_left : others' ≡ n.store.others
            others_left =
                eo
                ∙ message_others s ok i at.free c.mpt c.mpt_length small j c₀ (length j.bytes + 1) r ix₂ log₂ mine₂ w free.full
                ∙ ap (λ (y : KeptTables). y.others) (sym store_is)

            rows_left : take (section_size * r.used) ix₂ ≡ section_rows n.store.kept
            rows_left =
                message_rows s ok i at.free c.mpt c.mpt_length small j c₀ (length j.bytes + 1) r ix₂ log₂ mine₂ w free.full free.few free.fits
                (λ t. omega (arith, o t)) li
                ∙ ap (λ (y : KeptTables). section_rows y.kept) (sym store_is)

            counters_left : counters_with (fragment_counted f a₀) r ≡ n.counters
            counters_left =
                message_counters_lem s ok i at.free c.mpt c.mpt_length small j c₀ (length j.bytes + 1) r ix₂ log₂ mine₂ w free.full
                ∙ sym counters_is

            latest_left : latest_with r ≡ latest_for n.store
            latest_left =
                message_latest s ok i at.free c.mpt c.mpt_length small j c₀ (length j.bytes + 1) r ix₂ log₂ mine₂ w free.full free.few free.fits
                ∙ ap latest_for (sym store_is)

            mpt_there : is_some r.mpt ≡ is_some (control_of x.id n).mpt
            mpt_there =
                message_mpt_there s ok i at.free c.mpt c.mpt_length small j c₀ (length j.bytes + 1) r ix₂ log₂ mine₂ w free.full free.few free.fits
                ∙ ap (λ (o : Option Bytes). is_some o) (sym mpt_is)

            mpt_long : recent_length r.mpt ≡ table_length (control_of x.id n).mpt
            mpt_long =
                message_mpt_long s ok i at.free c.mpt c.mpt_length small j c₀ (length j.bytes + 1) r ix₂ log₂ mine₂ w free.full free.few free.fits
                ∙ ap table_length (sym mpt_is)

            place_left : p ≡ control_with x.id x.number (joined_by f c b) (is_some (control_of x.id n).mpt) (table_length (control_of x.id n).mpt)
            place_left =
                let h = sym (none_after f whole c b) in
                ep ∙ (λ t. control_with x.id x.number (h t) (mpt_there t) (mpt_long t))

            place_for_by : (k : ℕ) → y.place_for ≡ place_for_at i k → message_at s n x.id y.place_for ≡ message_in s n x.id i
            place_for_by zero h = ap (message_at s n x.id) h
            place_for_by (suc k) h = ap (message_at s n x.id) h

            session_left : lent state' others' s.objects s.messages tables' ≡ packet_leaves s (message x)
            session_left =
                let h = sym (none_laid f whole (i * l.message_area) c b s.messages) in
                (λ t. lent (es t) (others_left t) s.objects (h t) (tables_left t))
                ∙ (λ t.
                lent
                (with_counts (counters_left t) (latest_left t)
                (over section_places (rows_left t)
                (with_reassembly i (place_left t)
                (record {
                  media_ids = (used_of s.state).media_ids;
                  control_ids = (used_of s.state).control_ids + k;
                  sections = used_is free.full t;
                })
                s.state)))
                n.store.others
                s.objects
                (laid_by f (i * l.message_area) c b s.messages)
                (bytes_over ((l.sections + i) * l.table_area) (control_of x.id n).mpt
                (latest_over l n.store (kept_over l.table_area 0 n.store.kept s.tables))))
                ∙ sym (leaves_parts s ok x i k c at f fragment.outcome free.room y.place_for (sym fragment.place_for) (place_for_by k can.place_for))

            pub whole_taken : QuietPushed s (message x) 0 (lent state' others' s.objects s.messages tables')
            whole_taken = record { number = sym e0 ∙ number_is; same = λ h. absurd (h refl); session = λ h. session_left }

  -- ---- in the order of the code

  module _ (a : Counters) (ea : a ≡ a₀) (cs : Counters) (ec : cs ≡ fragment_counted f a) (last : Bool) (el : last ≡ is_last f) (r : WalkState) (ix₂ log₂ mine₂ : List ℕ)
      (w : WalkedWhole s.state s.others s.tables i c cs (join_by last c m b) r ix₂ log₂ mine₂) where
    cs_is : cs ≡ fragment_counted f a₀
    cs_is = ec ∙ ap (fragment_counted f) ea

    w₀ : WalkedWhole s.state s.others s.tables i c (fragment_counted f a₀) j r ix₂ log₂ mine₂
    w₀ = rw (cs_is, el) at w

    module _ (z : Limits) (ez : z ≡ l) (area : ℕ) (eb : area ≡ area_by f c b) (q : ℕ) (eq : q ≡ whole_ask z area r) where
      pub at_refused : (q ≡ 0 → ⊥) → QuietPushed s (message x) q s
      at_refused h = whole_refused r ix₂ log₂ mine₂ w₀ z ez area eb q eq h

      module _ (e0 : q ≡ 0) (li : length ix₂ ≡ index_size) (ll : length log₂ ≡ most_sections) (lm : length mine₂ ≡ table_ids) where
        pub at_state : CanLeaveState s.state ix₂ i k r
        at_state = whole_state r ix₂ log₂ mine₂ w₀ z ez area eb q eq e0 li ll lm

        module _ (u : Bytes) (eu : u ≡ before_by last (part (i * z.message_area) c.length s.messages)) (d : Bytes) (ed : d ≡ drop 2 b) where
          u_is : u ≡ before_by (is_last f) (part (i * z.message_area) c.length s.messages)
          u_is = eu ∙ ap (λ (y : Bool). before_by y (part (i * z.message_area) c.length s.messages)) el

          pub at_areas : CanStoreAreas s.tables ix₂ log₂ r z i (u ++ d)
          at_areas = whole_areas r ix₂ log₂ mine₂ w₀ z ez area eb q eq e0 li ll lm u u_is d ed

          pub at_taken : ((t : ℕ) → Fits w8 (get_or ix₂ t 0)) → (tables' : List ℕ) → tables' ≡ put_areas z i r (logged_from r.used 0 ix₂ log₂) (u ++ d) s.tables
              → (others' : List ℕ) → others' ≡ mine₂ → (len : ℕ) → len ≡ recent_length r.mpt → (p : Control)
              → p ≡ control_with x.id x.number None (is_some r.mpt) len → (state' : List ℕ) → state' ≡ state_left i k p cs r ix₂ s.state
              → QuietPushed s (message x) 0 (lent state' others' s.objects s.messages tables')
          at_taken o tables' et others' eo len en p ep state' es =
              whole_taken r ix₂ log₂ mine₂ w₀ z ez area eb q eq e0 li ll lm o u u_is d ed tables' et others' eo p
              (ep ∙ (λ t. control_with x.id x.number None (is_some r.mpt) (en t))) state'
              (es ∙ ap (λ (y : Counters). state_left i k p y r ix₂ s.state) cs_is)

-- ---- the packet's place

module _ (s : Session) (x : MessagePacket) (y : ReceivedFragment) (h : CanPushWhole s x y) where
  pub whole_full : y.place_for ≡ NoneFree → QuietPushed s (message x) 8 s
  whole_full e = no_place s h.session x (sym (received_met s x y h.received).place_for ∙ e)
