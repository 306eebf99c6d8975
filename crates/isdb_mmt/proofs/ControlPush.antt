-- A control packet: what is asked and left is the model's. Assumes nothing.
use Rattle.std.specs.Prelude.{None}
use Rattle.std.proofs.Common.{◌≡◌, ℕ, ◌+◌, ◌*◌, ◌<◌, ◌≤◌, true, false, ltb, List, map, length, get_or, take, drop, replicate, sym, refl, ap, ◌∙◌, subst, add-zero, mul-le-mul_right, arith, w8, Fits as FitsIn, ltb-false, ltb-true, le-ltb, le-leb}
use native.Mathlib.Nat.{zero-max}
use lib.ListN.{length-replicate}
use borrow.Author.Tests.{lt-leb}
use Rattle.isdb_tlv.specs.Fields.{written}
use Rattle.isdb_tlv.specs.Si.{sections_of}
use Rattle.isdb_tlv.specs.declared.si.Section.{Section as Found}
use Rattle.isdb_tlv.proofs.Guards.{either}
use Rattle.isdb_mmt.specs.Memory.Layout.{most_sections, table_ids, counters_place, section_places, section_size}
use Rattle.isdb_mmt.specs.Decoder.Packet.{Bytes, Packet}
use Rattle.isdb_mmt.specs.Decoder.Kept.{Kept, KeptTables, Table, stored_all, counted_all}
use Rattle.isdb_mmt.specs.Decoder.GivenTables.{control_tables}
use Rattle.isdb_mmt.specs.Decoder.Model.{State, packet_counted, pushed, gives}
use Rattle.isdb_mmt.specs.Decoder.Needs.{Needs, needs, tables_need}
use Rattle.isdb_mmt.specs.Pushes.Records.{row_size}
use Rattle.isdb_mmt.specs.Memory.Octets.{Octets}
use Rattle.isdb_mmt.specs.Memory.Lent.{part, over}
use Rattle.isdb_mmt.specs.Memory.Session.{Session, limits_of, used_of, counters_of, counters_fields}
use Rattle.isdb_mmt.specs.Memory.Check.{media_in, controls_in, sections_in, table_counts, lengths_of, Sound}
use Rattle.isdb_mmt.specs.Memory.View.{asset_entry, control_entry, section_entry, view_by, view}
use Rattle.isdb_mmt.specs.Memory.Opening.{lent}
use Rattle.isdb_mmt.specs.Pushes.MediaPush.{with_used}
use Rattle.isdb_mmt.specs.Pushes.Leaves.{used_for, section_rows, state_of_tables, kept_over, control_leaves, packet_leaves}
use Rattle.isdb_mmt.specs.Pushes.Counted.{Countable}
use Rattle.isdb_mmt.specs.Pushes.Push.{CanTakePacket, has_places, has_areas, asks_of, QuietPushed}
use Rattle.isdb_mmt.specs.Pushes.TableOutcome.{index_size, index_of}
use Rattle.isdb_mmt.specs.Pushes.Placed.{table_bytes, placed_sections}
use Rattle.isdb_mmt.specs.Pushes.TableState.{TableState}
use Rattle.isdb_mmt.specs.Pushes.PendingTables.{section_read, Logged, with_log, pending_of, Areas, committed, Versions, Walked, CanWalkSections}
use Rattle.isdb_mmt.specs.Pushes.Commit.{put_tables, AllFit}
use Rattle.isdb_mmt.specs.Pushes.Start.{walk_start, tables_ask, signal_of, counters_with, with_sections_used, CanLeave, SectionsLeft}
use Rattle.isdb_mmt.specs.declared.decoder.limits.Limits.{Limits}
use Rattle.isdb_mmt.specs.declared.decoder.counts.Counters.{Counters}
use Rattle.isdb_mmt.specs.declared.decoder.head.Used.{Used}
use Rattle.isdb_mmt.specs.declared.decoder.walk.WalkState.{WalkState}
use Rattle.isdb_mmt.proofs.Lent.{length_part}
use Rattle.isdb_mmt.proofs.Checks.{count_was}
use Rattle.isdb_mmt.proofs.Counting.{countable, state_countable}
use Rattle.isdb_mmt.proofs.Questions.{asks_zero, asks_places, asks_areas}
use Rattle.isdb_mmt.proofs.PlacesFor.{length_controls, length_sections, length_media, length_indexed}
use Rattle.isdb_mmt.proofs.Placing.{bytes_sections, sections_placed}
use Rattle.isdb_mmt.proofs.Committed.{sections_located}
use Rattle.isdb_mmt.proofs.Loaded.{no_log, met, areas, store_view, held_view, versions_view}
use Rattle.isdb_mmt.proofs.Leaving.{counters_are}
use Rattle.isdb_mmt.proofs.Logging.{AllHeld}
use Rattle.isdb_mmt.proofs.Modelled.{AsModel, walk_is, full_above, used_after, kept_grows, fits_after, committed_kept_lem, committed_rows}
use Rattle.isdb_mmt.proofs.Commits.{store_can, logged_all}

module _ (state others objects messages tables : List ℕ) (b : Bytes) (can : CanTakePacket (lent state others objects messages tables) b) where
  abbrev s : Session
  s = lent state others objects messages tables

  abbrev l : Limits
  l = limits_of state

  abbrev ok : Sound state others (lengths_of s)
  ok = can.session

  abbrev c₁ : Counters
  c₁ = packet_counted (counters_of state) 0 0 0

  pub control_countable : (c : Counters) → c ≡ counters_of state → Countable c 0 0 0
  control_countable c e = countable state c e 0 0 0 (state_countable s ok 0 0 0 (omega arith) (omega arith) (omega arith))

  abbrev ix₀ : List ℕ
  ix₀ = part section_places index_size state

  abbrev log₀ : List ℕ
  log₀ = replicate most_sections 0

  abbrev g₀ : WalkState
  g₀ = walk_start state tables c₁ None

  control_can : CanWalkSections ix₀ log₀ others g₀ b
  unfolding packet_counted
  control_can =
      let cs = table_counts (counters_of state) in
      record {
        copies =
            record {
              index_long = length_part section_places index_size state (omega (arith, ok.there.long));
              log_long = length-replicate {A = ℕ} most_sections 0;
              others_long = can.others_long;
              used = ok.there.sections;
            };
        room =
            record {
              tables = count_was cs 0 ok.tables;
              crc_errors = count_was cs 1 ok.tables;
              malformed = count_was cs 2 ok.tables;
              changes = count_was cs 3 ok.tables;
              breaks = count_was cs 7 ok.tables;
              bad = count_was cs 6 ok.tables;
              each = λ k. count_was others k ok.counts;
            };
        short = omega (arith, can.short);
      }

  -- the copies are those
  module _ (c : Counters) (ec : c ≡ c₁) (log : List ℕ) (ll : length log ≡ most_sections) (ix log' mine : List ℕ) (ei : ix ≡ ix₀)
      (el : log' ≡ replicate (length log) 0) (em : mine ≡ others) (g : WalkState) (eg : g ≡ walk_start state tables c None) where
    el₀ : log' ≡ log₀
    el₀ = el ∙ ap (λ n. replicate {A = ℕ} n 0) ll

    eg₀ : g ≡ g₀
    eg₀ = eg ∙ ap (λ (x : Counters). walk_start state tables x None) ec

    pub copies_can : CanWalkSections ix log' mine g b
    copies_can = rw (ei, el₀, em, eg₀) control_can

    pub copies_walked : (n k : ℕ) (r : WalkState) (ix'' log'' mine'' : List ℕ) → Walked section_read ix log' mine g (placed_sections b 0) n k r ix'' log'' mine''
        → Walked section_read ix₀ log₀ others g₀ (placed_sections b 0) n k r ix'' log'' mine''
    copies_walked n k r ix'' log'' mine'' w = rw (ei, el₀, em, eg₀) at w

  -- ---- after the walk

  module _ (n : ℕ) (r : WalkState) (ix log mine : List ℕ) (w : Walked section_read ix₀ log₀ others g₀ (placed_sections b 0) n 0 r ix log mine) where
    abbrev p : Packet
    p = signal_of b

    abbrev next : State
    next = pushed (view s) p

    abbrev bs : List Bytes
    bs = map (λ (x : Found). take x.size (drop x.offset b)) (sections_of b)

    abbrev a : Areas
    a = areas s ok b log₀ (no_log most_sections) None 0 c₁ c₁

    abbrev before : TableState
    before = committed b a c₁ (pending_of ix₀ log₀ others g₀)

    abbrev ts : List Table
    ts = map section_read (table_bytes (placed_sections b 0))

    same_tables : ts ≡ control_tables bs
    same_tables = ap (map section_read) (bytes_sections b)

    same_store : before.store ≡ (view s).store
    same_store = store_view s ok b log₀ (no_log most_sections) None 0 c₁ c₁

    store_next : stored_all before.store ts ≡ next.store
    unfolding pushed
    store_next = ap (λ (x : KeptTables). stored_all x ts) same_store ∙ ap (stored_all (view s).store) same_tables

    counters_next : counted_all before.mpt before.store before.counters ts ≡ next.counters
    unfolding pushed committed packet_counted view view_by
    counters_next =
        ap (λ (x : KeptTables). counted_all None x c₁ ts) same_store ∙ ap (λ (x : List Table). counted_all None (view s).store c₁ x) same_tables

    need_next : tables_need before.store ts ≡ (needs (view s) p).table
    unfolding needs
    need_next = ap (λ (x : KeptTables). tables_need x ts) same_store ∙ ap (tables_need (view s).store) same_tables

    versions : Versions b a (pending_of ix₀ log₀ others g₀)
    versions = versions_view s ok b log₀ (no_log most_sections) None 0 c₁ c₁ tt

    abbrev after : TableState
    after = committed b a c₁ (pending_of ix log mine r)

    -- where the walk is not full
    is : r.full ≡ false → AsModel before ts after
    is y = walk_is section_read sections_located ix₀ log₀ others g₀ (placed_sections b 0) n 0 r ix log mine w b a c₁ versions (sections_placed b) y

    abbrev kept_now : ℕ
    kept_now = length next.store.kept

    kept_is : length (stored_all before.store ts).kept ≡ kept_now
    kept_is = ap (λ (x : KeptTables). length x.kept) store_next

    -- ---- what it asks for

    media_same : length (view s).assets ≡ (used_of state).media_ids
    unfolding view view_by
    media_same = length_indexed (asset_entry l s) 0 (media_in state) ∙ length_media state

    controls_same : length (view s).controls ≡ (used_of state).control_ids
    unfolding view view_by
    controls_same = length_indexed (control_entry l s) 0 (controls_in state) ∙ length_controls state

    sections_were : length (view s).store.kept ≡ (used_of state).sections
    unfolding view view_by
    sections_were = length_indexed (section_entry l s) 0 (sections_in state) ∙ length_sections state

    grows : (used_of state).sections ≤ kept_now
    grows =
        omega
        (arith, kept_is, kept_grows section_read sections_located ix₀ log₀ others g₀ (placed_sections b 0) n 0 r ix log mine w b a c₁ versions (sections_placed b))

    abbrev u : Used
    u = used_of state

    abbrev asked : Needs
    asked = needs (view s) p

    no_media_lem : u.media_ids + asked.media_ids ≤ l.media_ids
    unfolding needs pushed
    no_media_lem = omega (arith, ok.media)

    no_controls : u.control_ids + asked.control_ids ≤ l.control_ids
    unfolding needs pushed
    no_controls = omega (arith, ok.controls)

    asked_sections : u.sections + asked.sections ≡ kept_now
    unfolding needs
    asked_sections = omega (arith, grows, sections_were)

    no_object_lem : asked.object ≤ l.mfu_area
    unfolding needs
    no_object_lem = omega arith

    no_message_lem : asked.message ≤ l.message_area
    unfolding needs
    no_message_lem = omega arith

    no_records : row_size * asked.records ≤ 0
    unfolding needs gives
    no_records = omega arith

    no_bytes : asked.data_bytes ≤ 0
    unfolding needs gives
    no_bytes = omega arith

    eight : l.sections < kept_now → asks_of s 0 0 p ≡ 8
    unfolding has_places
    eight h =
        asks_places s 0 0 p
        (rw (le-leb _ _ no_media_lem, le-leb _ _ no_controls, lt-leb _ _ (subst (λ k. l.sections < k) (sym asked_sections) h)))

    has_places_lem : kept_now ≤ l.sections → has_places l u asked ≡ true
    unfolding has_places
    has_places_lem h =
        rw (le-leb _ _ no_media_lem, le-leb _ _ no_controls) (le-leb _ _ (subst (λ k. k ≤ l.sections) (sym asked_sections) h))

    nine : kept_now ≤ l.sections → l.table_area < asked.table → asks_of s 0 0 p ≡ 9
    unfolding has_areas
    nine h k = asks_areas s 0 0 p (has_places_lem h) (rw (le-leb _ _ no_object_lem, le-leb _ _ no_message_lem, lt-leb _ _ k))

    zero_asked : kept_now ≤ l.sections → asked.table ≤ l.table_area → asks_of s 0 0 p ≡ 0
    zero_asked h k =
        asks_zero s 0 0 p
        (record {
          media = no_media_lem;
          controls = no_controls;
          sections = subst (λ k. k ≤ l.sections) (sym asked_sections) h;
          object = no_object_lem;
          message = no_message_lem;
          table = k;
          records = no_records;
          data_bytes = no_bytes;
        })

    used_is : r.full ≡ false → r.used ≡ kept_now
    used_is y =
        used_after section_read sections_located ix₀ log₀ others g₀ (placed_sections b 0) n 0 r ix log mine w b a c₁ versions (sections_placed b) y ∙ kept_is

    longest_is : r.full ≡ false → r.longest ≡ asked.table
    unfolding committed
    longest_is y = (is y).longest ∙ zero-max (tables_need before.store ts) ∙ need_next

    -- the walk's answer is the packet's
    pub asks_is : tables_ask l r ≡ asks_of s 0 0 p
    unfolding tables_ask
    asks_is =
        either r.full
        (λ y.
        let h : most_sections < kept_now =
        omega (arith, kept_is, full_above section_read sections_located ix₀ log₀ others g₀ (placed_sections b 0) n 0 r ix log mine w b a c₁ versions (sections_placed b) refl y) in
        rw y (sym (eight (omega (arith, h, (met s ok).ranges.sections)))))
        (λ y.
        let e = used_is y in
        let t = longest_is y in
        either (ltb l.sections r.used)
        (λ q. let h = ltb-true l.sections r.used q in rw (y, q) (sym (eight (omega arith))))
        (λ q.
        let h = ltb-false l.sections r.used q in
        either (ltb l.table_area r.longest)
        (λ k. let j = ltb-true l.table_area r.longest k in rw (y, q, k) (sym (nine (omega arith) (omega arith))))
        (λ k. let j = ltb-false l.table_area r.longest k in rw (y, q, k) (sym (zero_asked (omega arith) (omega arith))))))

    pub refused : (x : ℕ) → x ≡ tables_ask l r → (x ≡ 0 → ⊥) → QuietPushed s p x s
    refused x e z = record { number = e ∙ asks_is; same = λ q. refl; session = λ q. absurd (z q) }

    -- ---- what it leaves

    module _ (x : ℕ) (ex : x ≡ tables_ask l r) (ez : x ≡ 0) where
      none_asked : tables_ask l r ≡ 0
      none_asked = sym ex ∙ ez

      not_full : r.full ≡ false
      unfolding tables_ask
      not_full = either r.full (λ y. absurd (eight_zero (rw y at none_asked))) (λ y. y)
        where
          eight_zero : ◌≡◌ {A = ℕ} 8 0 → ⊥
          eight_zero q = omega arith

      few : r.used ≤ l.sections
      unfolding tables_ask
      few =
          either (ltb l.sections r.used) (λ q. absurd (eight_zero (rw (not_full, q) at none_asked))) (λ q. ltb-false l.sections r.used q)
        where
          eight_zero : ◌≡◌ {A = ℕ} 8 0 → ⊥
          eight_zero q = omega arith

      fits : r.longest ≤ l.table_area
      unfolding tables_ask
      fits =
          either (ltb l.table_area r.longest)
          (λ q. absurd (nine_zero (rw (not_full, le-ltb l.sections r.used few, q) at none_asked)))
          (λ q. ltb-false l.table_area r.longest q)
        where
          nine_zero : ◌≡◌ {A = ℕ} 9 0 → ⊥
          nine_zero q = omega arith

      held : AllHeld b l.table_area 0 (pending_of ix₀ log₀ others g₀).index
      held = held_view s ok b log₀ (no_log most_sections) None 0 c₁ c₁

      all_fit : AllFit l.table_area b (with_log (index_of r.used ix) log)
      all_fit =
          fits_after section_read sections_located ix₀ log₀ others g₀ (placed_sections b 0) n 0 r ix log mine w b a c₁ versions (sections_placed b) not_full held fits

      room : r.used * l.table_area ≤ length tables
      room =
          let k : r.used * l.table_area ≤ (l.sections + l.control_ids + 2) * l.table_area = mul-le-mul_right l.table_area (omega (arith, few)) in
          omega (arith, (met s ok).tables)

      some_sections : r.used ≤ most_sections
      some_sections = omega (arith, few, (met s ok).ranges.sections)

      module _ (li : length ix ≡ index_size) (ll : length log ≡ most_sections) (lm : length mine ≡ table_ids) where
        pub leave_can : CanLeave state others tables ix log mine r b
        leave_can =
            record {
              areas = store_can tables ix log r.used l.table_area b some_sections (omega (arith, some_sections)) room all_fit;
              counts = can.others_long ∙ sym lm;
              long = ok.there.long;
              index_long = li;
            }

        module _ (o : Octets ix) (c : Counters) (ec : c ≡ c₁) (state' others' tables' : List ℕ)
            (left : SectionsLeft state tables ix log mine c r b state' others' tables') where
          abbrev kept : List (ℕ × Kept)
          kept = next.store.kept

          tables_left : tables' ≡ kept_over l.table_area 0 kept tables
          tables_left =
              left.areas
              ∙ ap (λ (es : List Logged). put_tables l.table_area 0 es b tables) (logged_all r.used ix log (omega (arith, some_sections)))
              ∙ committed_kept_lem section_read sections_located ix₀ log₀ others g₀ (placed_sections b 0) n 0 r ix log mine w b a c₁ versions (sections_placed b) not_full
              held fits room
              ∙ ap (λ (x : KeptTables). kept_over l.table_area 0 x.kept tables) store_next

          others_left : others' ≡ next.store.others
          unfolding committed
          others_left = left.counts ∙ ap (λ (x : KeptTables). x.others) ((is not_full).store ∙ store_next)

          rows_left : take (section_size * r.used) ix ≡ section_rows kept
          rows_left =
              committed_rows section_read sections_located ix₀ log₀ others g₀ (placed_sections b 0) n 0 r ix log mine w b a c₁ versions (sections_placed b) not_full held
              fits o (omega (arith, some_sections)) room
              ∙ ap (λ (x : KeptTables). section_rows x.kept) store_next

          counters_left : counters_with c r ≡ next.counters
          unfolding committed packet_counted
          counters_left =
              ap (λ (x : Counters). counters_with x r) ec
              ∙ counters_are ix log mine c₁ r (w.bad ∙ add-zero (counters_of state).message_malformed)
              ∙ (is not_full).counters ∙ counters_next

          used_left : with_sections_used u r.used ≡ used_for next
          unfolding pushed
          used_left =
              λ i.
              record {
                media_ids = sym media_same i;
                control_ids = sym controls_same i;
                sections = used_is not_full i;
              }

          state_left_lem : state' ≡ state_of_tables next state
          state_left_lem =
              left.places
              ∙ (λ i.
              over counters_place (written (counters_fields (counters_left i))) (over section_places (rows_left i) (with_used (used_left i) state)))

          session_left : lent state' others' objects messages tables' ≡ packet_leaves s p
          unfolding packet_leaves control_leaves
          session_left = λ i. lent (state_left_lem i) (others_left i) objects messages (tables_left i)

          pub taken : QuietPushed s p 0 (lent state' others' objects messages tables')
          taken = record { number = sym none_asked ∙ asks_is; same = λ q. absurd (q refl); session = λ q. session_left }

  -- ---- in the order of the code

  module _ (k : Counters) (ek : k ≡ counters_of state) (c : Counters) (ec : c ≡ (packet_counted k 0 0 0)) (log : List ℕ)
      (ll : length log ≡ most_sections) (ix₁ log₁ mine₁ : List ℕ) (ei : ix₁ ≡ ix₀) (el : log₁ ≡ replicate (length log) 0) (em : mine₁ ≡ others) (g : WalkState) (eg : g ≡ walk_start state tables c None) where
    counted_is : c ≡ c₁
    counted_is = ec ∙ ap (λ (x : Counters). packet_counted x 0 0 0) ek

    pub push_can : CanWalkSections ix₁ log₁ mine₁ g b
    push_can = copies_can c counted_is log ll ix₁ log₁ mine₁ ei el em g eg

    module _ (r : WalkState) (ix₂ log₂ mine₂ : List ℕ) (w : Walked section_read ix₁ log₁ mine₁ g (placed_sections b 0) (length b + 1) 0 r ix₂ log₂ mine₂)
        (j : Limits) (ej : j ≡ l) (x : ℕ) (ex : x ≡ tables_ask j r) where
      w₀ : Walked section_read ix₀ log₀ others g₀ (placed_sections b 0) (length b + 1) 0 r ix₂ log₂ mine₂
      w₀ = copies_walked c counted_is log ll ix₁ log₁ mine₁ ei el em g eg (length b + 1) 0 r ix₂ log₂ mine₂ w

      ex₀ : x ≡ tables_ask l r
      ex₀ = ex ∙ ap (λ (y : Limits). tables_ask y r) ej

      pub push_refused : (x ≡ 0 → ⊥) → QuietPushed s (signal_of b) x s
      push_refused q = refused (length b + 1) r ix₂ log₂ mine₂ w₀ x ex₀ q

      module _ (q : x ≡ 0) (li : length ix₂ ≡ index_size) (lg : length log₂ ≡ most_sections) (lm : length mine₂ ≡ table_ids) where
        pub push_leave : CanLeave state others tables ix₂ log₂ mine₂ r b
        push_leave = leave_can (length b + 1) r ix₂ log₂ mine₂ w₀ x ex₀ q li lg lm

        pub push_taken : ((i : ℕ) → FitsIn w8 (get_or ix₂ i 0)) → (state' others' tables' : List ℕ)
            → SectionsLeft state tables ix₂ log₂ mine₂ c r b state' others' tables' → QuietPushed s (signal_of b) 0 (lent state' others' objects messages tables')
        push_taken h state' others' tables' left =
            taken (length b + 1) r ix₂ log₂ mine₂ w₀ x ex₀ q li lg lm (λ i. omega (arith, h i)) c counted_is state' others' tables' left
