-- The tables of a message that a packet makes whole: what the walk and its commit leave is the model's. Assumes nothing.
use Rattle.std.specs.Prelude.{Option, is_some}
use Rattle.std.proofs.Common.{◌≡◌, ℕ, ◌+◌, ◌*◌, ◌<◌, ◌≤◌, Bool, true, false, List, map, length, take, replicate, sym, refl, ap, ◌∙◌, subst, mul-le-mul_right, zero-add, arith}
use native.Mathlib.Nat.{zero-max}
use lib.ListN.{length-replicate}
use Rattle.isdb_mmt.specs.Memory.Layout.{most_sections, most_message_area, most_count, table_ids, section_places, section_size}
use Rattle.isdb_mmt.specs.Decoder.Packet.{Bytes}
use Rattle.isdb_mmt.specs.Decoder.Reassembly.{PartialMessage, cut_of}
use Rattle.isdb_mmt.specs.Decoder.Kept.{KeptTables, Table, table_read, mpt_after_all, stored_all, counted_all}
use Rattle.isdb_mmt.specs.Decoder.Needs.{tables_need}
use Rattle.isdb_mmt.specs.Memory.Octets.{Octets}
use Rattle.isdb_mmt.specs.Memory.Lent.{part}
use Rattle.isdb_mmt.specs.Memory.Session.{Session, limits_of, used_of, latest_of}
use Rattle.isdb_mmt.specs.Memory.Check.{lengths_of, Sound}
use Rattle.isdb_mmt.specs.Memory.View.{given, view}
use Rattle.isdb_mmt.specs.Memory.PlacesOf.{table_length, latest_for}
use Rattle.isdb_mmt.specs.Pushes.Leaves.{section_rows, bytes_over, kept_over, latest_over}
use Rattle.isdb_mmt.specs.Pushes.TableOutcome.{index_size, index_of, recent_length}
use Rattle.isdb_mmt.specs.Pushes.Placed.{table_bytes, placed_cut}
use Rattle.isdb_mmt.specs.Pushes.TableState.{TableState}
use Rattle.isdb_mmt.specs.Pushes.PendingTables.{Logged, with_log, PendingTables, pending_of, committed_recent, Areas, committed, Versions, Walked, CanWalk}
use Rattle.isdb_mmt.specs.Pushes.Commit.{put_tables, put_recent, put_areas, logged_from, AllFit, CanStoreAreas}
use Rattle.isdb_mmt.specs.Pushes.Start.{recent_at, plt_at, tot_at, walk_start, latest_with, counters_with, malformed_more, CountsFit}
use Rattle.isdb_mmt.specs.declared.decoder.limits.Limits.{Limits}
use Rattle.isdb_mmt.specs.declared.decoder.table_outcome.Recent.{Recent}
use Rattle.isdb_mmt.specs.declared.decoder.walk.WalkState.{WalkState}
use Rattle.isdb_mmt.specs.declared.decoder.counts.Counters.{Counters}
use Rattle.isdb_mmt.proofs.Lent.{length_part}
use Rattle.isdb_mmt.proofs.Limits.{whole_area}
use Rattle.isdb_mmt.proofs.Checks.{count_was}
use Rattle.isdb_mmt.proofs.Placing.{bytes_cut, cut_located}
use Rattle.isdb_mmt.proofs.Committed.{tables_located}
use Rattle.isdb_mmt.proofs.Logging.{AllHeld, RecentHeld, Recents, recents_all}
use Rattle.isdb_mmt.proofs.Loaded.{no_log, met, areas, version_start, recent_start, store_view, held_view, versions_view}
use Rattle.isdb_mmt.proofs.Commits.{logged_all, put_length, put_apart, recent_length_lem, recent_apart, recent_is, store_can}
use Rattle.isdb_mmt.proofs.Leaving.{recent_there, recent_long, counters_are}
use Rattle.isdb_mmt.proofs.Modelled.{AsModel, walk_is, full_above, used_after, kept_grows, fits_after, length_after, committed_kept_lem, committed_rows}

-- a session, the MPT of control place `i`, a joined message, and the counters before its tables
module _ (s : Session) (ok : Sound s.state s.others (lengths_of s)) (i : ℕ) (hi : i < (limits_of s.state).control_ids) (there : Bool) (len : ℕ)
    (hm : there ≡ true → len ≤ (limits_of s.state).table_area) (j : PartialMessage) (c₀ : Counters) where
  abbrev l : Limits
  l = limits_of s.state

  abbrev m : Bytes
  m = j.bytes

  abbrev mpt_at : ℕ
  mpt_at = (l.sections + i) * l.table_area

  abbrev mpt₀ : Option Recent
  mpt₀ = recent_at s.tables mpt_at there len

  abbrev ix₀ : List ℕ
  ix₀ = part section_places index_size s.state

  abbrev log₀ : List ℕ
  log₀ = replicate most_sections 0

  abbrev g₀ : WalkState
  g₀ = walk_start s.state s.tables c₀ mpt₀

  abbrev c₁ : Counters
  c₁ = malformed_more c₀ (cut_of j).malformed

  pub message_can : CountsFit c₀ → length s.others ≡ table_ids → length m ≤ most_message_area
      → CanWalk ix₀ log₀ s.others g₀ m 0 most_count
  message_can f lo lm =
      record {
        copies =
            record {
              index_long = length_part section_places index_size s.state (omega (arith, ok.there.long));
              log_long = length-replicate {A = ℕ} most_sections 0;
              others_long = lo;
              used = ok.there.sections;
            };
        room =
            record {
              tables = f.tables;
              crc_errors = f.crc_errors;
              malformed = f.malformed;
              changes = f.version_changes;
              breaks = f.split_errors;
              bad = f.message_malformed;
              each = λ k. count_was s.others k ok.counts;
            };
        short = omega arith;
      }

  abbrev mpt_before : Option Bytes
  mpt_before = given there (part mpt_at len s.tables)

  abbrev store_before : KeptTables
  store_before = (view s).store

  -- the tables
  abbrev given_tables : List Table
  given_tables = map table_read (cut_of j).tables

  abbrev a : Areas
  a = areas s ok m log₀ (no_log most_sections) mpt₀ mpt_at c₁ c₀

  abbrev before : TableState
  before = committed m a c₁ (pending_of ix₀ log₀ s.others g₀)

  abbrev ts : List Table
  ts = map table_read (table_bytes (placed_cut j))

  same_tables : ts ≡ given_tables
  same_tables = ap (map table_read) (bytes_cut j)

  same_store : before.store ≡ store_before
  same_store = store_view s ok m log₀ (no_log most_sections) mpt₀ mpt_at c₁ c₀

  versions : Versions m a (pending_of ix₀ log₀ s.others g₀)
  versions = versions_view s ok m log₀ (no_log most_sections) mpt₀ mpt_at c₁ c₀ (version_start m s.tables mpt_at there len)

  abbrev store_after : KeptTables
  store_after = stored_all store_before given_tables

  abbrev mpt_after_lem : Option Bytes
  mpt_after_lem = mpt_after_all mpt_before given_tables

  store_is : stored_all before.store ts ≡ store_after
  store_is = ap (λ (x : KeptTables). stored_all x ts) same_store ∙ ap (stored_all store_before) same_tables

  mpt_start : before.mpt ≡ mpt_before
  unfolding committed
  mpt_start = recent_start m s.tables mpt_at there len

  mpt_is : mpt_after_all before.mpt ts ≡ mpt_after_lem
  unfolding committed
  mpt_is = ap (λ (x : Option Bytes). mpt_after_all x ts) mpt_start ∙ ap (mpt_after_all mpt_before) same_tables

  counted_is : counted_all before.mpt before.store before.counters ts ≡ counted_all mpt_before store_before c₁ given_tables
  unfolding committed
  counted_is =
      ap (λ (x : Option Bytes). counted_all x before.store c₁ ts) mpt_start ∙ ap (λ (x : KeptTables). counted_all mpt_before x c₁ ts) same_store ∙ ap (λ (x : List Table). counted_all mpt_before store_before c₁ x) same_tables

  held : AllHeld m l.table_area 0 (pending_of ix₀ log₀ s.others g₀).index
  held = held_view s ok m log₀ (no_log most_sections) mpt₀ mpt_at c₁ c₀

  in_area : (there : Bool) (n at : ℕ) → (there ≡ true → n ≤ l.table_area) → RecentHeld m l.table_area 0 (recent_at s.tables at there n)
  in_area true n at h = record { there = λ z. absurd (z refl); small = omega (arith, h refl) }
  in_area false n at h = record { there = tt; small = omega arith }

  recents : Recents m l.table_area (pending_of ix₀ log₀ s.others g₀)
  recents =
      record {
        mpt = in_area there len mpt_at hm;
        plt = in_area (latest_of s.state).plt (latest_of s.state).plt_length (plt_at s.state) ok.plt;
        tot = in_area (latest_of s.state).tot (latest_of s.state).tot_length (tot_at s.state) ok.tot;
      }

  module _ (n : ℕ) (r : WalkState) (ix log mine : List ℕ) (w : Walked table_read ix₀ log₀ s.others g₀ (placed_cut j) n (cut_of j).malformed r ix log mine) where
    kept_is : length (stored_all before.store ts).kept ≡ length store_after.kept
    kept_is = ap (λ (x : KeptTables). length x.kept) store_is

    -- ---- what is asked

    pub message_full : r.full ≡ true → most_sections < length store_after.kept
    message_full y =
        omega
        (arith, kept_is, full_above table_read tables_located ix₀ log₀ s.others g₀ (placed_cut j) n (cut_of j).malformed r ix log mine w m a c₁ versions (cut_located j) refl y)

    pub message_grows : (used_of s.state).sections ≤ length store_after.kept
    message_grows =
        omega
        (arith, kept_is, kept_grows table_read tables_located ix₀ log₀ s.others g₀ (placed_cut j) n (cut_of j).malformed r ix log mine w m a c₁ versions (cut_located j))

    module _ (y : r.full ≡ false) where
      is : AsModel before ts (committed m a c₁ (pending_of ix log mine r))
      is = walk_is table_read tables_located ix₀ log₀ s.others g₀ (placed_cut j) n (cut_of j).malformed r ix log mine w m a c₁ versions (cut_located j) y

      pub message_used : r.used ≡ length store_after.kept
      message_used =
          used_after table_read tables_located ix₀ log₀ s.others g₀ (placed_cut j) n (cut_of j).malformed r ix log mine w m a c₁ versions (cut_located j) y ∙ kept_is

      pub message_longest : r.longest ≡ tables_need store_before given_tables
      unfolding committed
      message_longest =
          is.longest
          ∙ zero-max (tables_need before.store ts)
          ∙ ap (λ (x : KeptTables). tables_need x ts) same_store
          ∙ ap (tables_need store_before) same_tables

      -- ---- what is left

      pub message_others : mine ≡ store_after.others
      unfolding committed
      message_others = ap (λ (x : KeptTables). x.others) (is.store ∙ store_is)

      pub message_counters_lem : counters_with c₀ r ≡ (counted_all mpt_before store_before c₁ given_tables)
      unfolding committed
      message_counters_lem = counters_are ix log mine c₁ r w.bad ∙ is.counters ∙ counted_is

      module _ (few : r.used ≤ l.sections) (fits : r.longest ≤ l.table_area) where
        abbrev es : List Logged
        es = with_log (index_of r.used ix) log

        all_fit : AllFit l.table_area m es
        all_fit =
            fits_after table_read tables_located ix₀ log₀ s.others g₀ (placed_cut j) n (cut_of j).malformed r ix log mine w m a c₁ versions (cut_located j) y held fits

        es_length : length es ≡ r.used
        es_length =
            length_after table_read tables_located ix₀ log₀ s.others g₀ (placed_cut j) n (cut_of j).malformed r ix log mine w m a c₁ versions (cut_located j) y held fits

        recents_now : Recents m l.table_area (pending_of ix log mine r)
        recents_now =
            subst (λ (d : PendingTables). Recents m l.table_area d) (sym (w.to.now y).1)
            (recents_all m table_read tables_located l.table_area (placed_cut j) (pending_of ix₀ log₀ s.others g₀) (cut_located j) recents)

        small_of : (x : Option Recent) → RecentHeld m l.table_area r.longest x → recent_length x ≤ l.table_area
        small_of x h = omega (arith, h.small)

        area_room : (k : ℕ) → k + 1 ≤ l.sections + l.control_ids + 2 → (k + 1) * l.table_area ≤ length s.tables
        area_room k h = whole_area k (l.sections + l.control_ids + 2) l.table_area (length s.tables) (omega arith) (met s ok).tables

        room : r.used * l.table_area ≤ length s.tables
        room =
            let q : r.used * l.table_area ≤ (l.sections + l.control_ids + 2) * l.table_area = mul-le-mul_right l.table_area (omega (arith, few)) in
            omega (arith, (met s ok).tables)

        some_sections : r.used ≤ most_sections
        some_sections = omega (arith, few, (met s ok).ranges.sections)

        pub message_areas_can : length log ≡ most_sections → CanStoreAreas s.tables ix log r l i m
        message_areas_can ll =
            record {
              sections = store_can s.tables ix log r.used l.table_area m some_sections (omega (arith, some_sections)) room all_fit;
              room = (met s ok).tables;
              few = omega (arith, (met s ok).ranges.sections, (met s ok).ranges.controls);
              area = omega (arith, (met s ok).ranges.table);
              place = hi;
              mpt = small_of r.mpt recents_now.mpt;
              plt = small_of r.plt recents_now.plt;
              tot = small_of r.tot recents_now.tot;
            }

        pub message_rows : Octets ix → length ix ≡ index_size → take (section_size * r.used) ix ≡ section_rows store_after.kept
        message_rows o li =
            committed_rows table_read tables_located ix₀ log₀ s.others g₀ (placed_cut j) n (cut_of j).malformed r ix log mine w m a c₁ versions (cut_located j) y held
            fits o (omega (arith, some_sections)) room
            ∙ ap (λ (x : KeptTables). section_rows x.kept) store_is

        -- the MPT, the PLT and the TOT
        abbrev committed_at : ℕ → Option Recent → Option Bytes
        committed_at k x = committed_recent m s.tables (k * l.table_area) x

        abbrev plt_place : ℕ
        plt_place = l.sections + l.control_ids

        abbrev tot_place : ℕ
        tot_place = l.sections + l.control_ids + 1

        abbrev mpt_place : ℕ
        mpt_place = l.sections + i

        mpt_committed : committed_at mpt_place r.mpt ≡ mpt_after_lem
        unfolding committed
        mpt_committed = is.mpt ∙ mpt_is

        plt_committed : committed_at plt_place r.plt ≡ store_after.plt
        unfolding committed
        plt_committed = ap (λ (x : KeptTables). x.plt) (is.store ∙ store_is)

        tot_committed : committed_at tot_place r.tot ≡ store_after.tot
        unfolding committed
        tot_committed = ap (λ (x : KeptTables). x.tot) (is.store ∙ store_is)

        plt_room : (plt_place + 1) * l.table_area ≤ length s.tables
        plt_room = area_room plt_place (omega arith)

        tot_room : (tot_place + 1) * l.table_area ≤ length s.tables
        tot_room = area_room tot_place (omega arith)

        mpt_room : (mpt_place + 1) * l.table_area ≤ length s.tables
        mpt_room = area_room mpt_place (omega (arith, hi))

        module _ (k : ℕ) (x : Option Recent) (h : RecentHeld m l.table_area r.longest x) (q : (k + 1) * l.table_area ≤ length s.tables) where
          there_of : is_some x ≡ is_some (committed_at k x)
          there_of = recent_there m s.tables l.table_area k x

          long_of : recent_length x ≡ table_length (committed_at k x)
          long_of = recent_long m s.tables l.table_area k x q (small_of x h) h.there

        pub message_mpt_there : is_some r.mpt ≡ is_some mpt_after_lem
        message_mpt_there = there_of mpt_place r.mpt recents_now.mpt mpt_room ∙ ap (λ (o : Option Bytes). is_some o) mpt_committed

        pub message_mpt_long : recent_length r.mpt ≡ table_length mpt_after_lem
        message_mpt_long = long_of mpt_place r.mpt recents_now.mpt mpt_room ∙ ap table_length mpt_committed

        pub message_latest : latest_with r ≡ latest_for store_after
        unfolding latest_for
        message_latest =
            let a1 : is_some r.plt ≡ is_some store_after.plt = there_of plt_place r.plt recents_now.plt plt_room ∙ ap (λ (o : Option Bytes). is_some o) plt_committed in
            let a2 : recent_length r.plt ≡ table_length store_after.plt = long_of plt_place r.plt recents_now.plt plt_room ∙ ap table_length plt_committed in
            let a3 : is_some r.tot ≡ is_some store_after.tot = there_of tot_place r.tot recents_now.tot tot_room ∙ ap (λ (o : Option Bytes). is_some o) tot_committed in
            let a4 : recent_length r.tot ≡ table_length store_after.tot = long_of tot_place r.tot recents_now.tot tot_room ∙ ap table_length tot_committed in
            λ k. record { plt = a1 k; plt_length = a2 k; tot = a3 k; tot_length = a4 k }

        -- all areas
        abbrev area : ℕ
        area = l.table_area

        abbrev t1 : Bytes
        t1 = put_tables area 0 es m s.tables

        abbrev t2 : Bytes
        t2 = put_recent (plt_place * area) r.plt m t1

        abbrev t3 : Bytes
        t3 = put_recent (tot_place * area) r.tot m t2

        es_room : (0 + length es) * area ≤ length s.tables
        es_room = rw (es_length, zero-add r.used) room

        length_1 : length t1 ≡ length s.tables
        length_1 = put_length area m es 0 s.tables all_fit es_room

        apart_1 : (k h : ℕ) → l.sections ≤ k → h ≤ area → part (k * area) h t1 ≡ part (k * area) h s.tables
        apart_1 k h b d = put_apart area m es 0 s.tables all_fit es_room k h (omega (arith, es_length, few)) d

        plt_room_1 : (plt_place + 1) * area ≤ length t1
        plt_room_1 = rw length_1 plt_room

        length_2 : length t2 ≡ length s.tables
        length_2 = recent_length_lem area m plt_place r.plt t1 (small_of r.plt recents_now.plt) plt_room_1 ∙ length_1

        apart_2 : (k h : ℕ) → l.sections ≤ k → (k ≡ plt_place → ⊥) → h ≤ area → part (k * area) h t2 ≡ part (k * area) h s.tables
        apart_2 k h b ne d =
            recent_apart area m plt_place r.plt t1 (small_of r.plt recents_now.plt) plt_room_1 k h ne d ∙ apart_1 k h b d

        tot_room_2 : (tot_place + 1) * area ≤ length t2
        tot_room_2 = rw length_2 tot_room

        length_3 : length t3 ≡ length s.tables
        length_3 = recent_length_lem area m tot_place r.tot t2 (small_of r.tot recents_now.tot) tot_room_2 ∙ length_2

        apart_3 : (k h : ℕ) → l.sections ≤ k → (k ≡ plt_place → ⊥) → (k ≡ tot_place → ⊥) → h ≤ area → part (k * area) h t3 ≡ part (k * area) h s.tables
        apart_3 k h b ne nf d =
            recent_apart area m tot_place r.tot t2 (small_of r.tot recents_now.tot) tot_room_2 k h nf d ∙ apart_2 k h b ne d

        laid_1 : t1 ≡ kept_over area 0 store_after.kept s.tables
        laid_1 =
            committed_kept_lem table_read tables_located ix₀ log₀ s.others g₀ (placed_cut j) n (cut_of j).malformed r ix log mine w m a c₁ versions (cut_located j) y held
            fits room
            ∙ ap (λ (x : KeptTables). kept_over area 0 x.kept s.tables) store_is

        laid_2 : t2 ≡ bytes_over (plt_place * area) store_after.plt t1
        laid_2 =
            recent_is area m plt_place r.plt s.tables t1 (small_of r.plt recents_now.plt) plt_room_1 (λ h d. apart_1 plt_place h (omega arith) d)
            ∙ ap (λ (o : Option Bytes). bytes_over (plt_place * area) o t1) plt_committed

        laid_3 : t3 ≡ bytes_over (tot_place * area) store_after.tot t2
        laid_3 =
            recent_is area m tot_place r.tot s.tables t2 (small_of r.tot recents_now.tot) tot_room_2
            (λ h d. apart_2 tot_place h (omega arith) (λ q. absurd (omega arith)) d)
            ∙ ap (λ (o : Option Bytes). bytes_over (tot_place * area) o t2) tot_committed

        laid_4 : put_recent (mpt_place * area) r.mpt m t3 ≡ bytes_over (mpt_place * area) mpt_after_lem t3
        laid_4 =
            recent_is area m mpt_place r.mpt s.tables t3 (small_of r.mpt recents_now.mpt) (rw length_3 mpt_room)
            (λ h d. apart_3 mpt_place h (omega arith) (λ q. absurd (omega (arith, hi))) (λ q. absurd (omega (arith, hi))) d)
            ∙ ap (λ (o : Option Bytes). bytes_over (mpt_place * area) o t3) mpt_committed

        pub message_areas : length log ≡ most_sections → put_areas l i r (logged_from r.used 0 ix log) m s.tables
            ≡ bytes_over (mpt_place * area) mpt_after_lem (latest_over l store_after (kept_over area 0 store_after.kept s.tables))
        message_areas ll =
            ap (λ (zs : List Logged). put_areas l i r zs m s.tables) (logged_all r.used ix log (omega (arith, some_sections)))
            ∙ laid_4
            ∙ ap (λ (z : Bytes). bytes_over (mpt_place * area) mpt_after_lem z)
            (laid_3
            ∙ ap (λ (z : Bytes). bytes_over (tot_place * area) store_after.tot z)
            (laid_2 ∙ ap (λ (z : Bytes). bytes_over (plt_place * area) store_after.plt z) laid_1))
