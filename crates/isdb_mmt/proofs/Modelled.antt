-- A walk over tables, and the model: where the copies are not full they stand for the model's next state. Assumes nothing.
use Rattle.std.proofs.Common.{◌≡◌, ℕ, ◌+◌, ◌*◌, ◌<◌, ◌≤◌, max, true, false, List, map, length, take, sym, refl, ap, ◌∙◌, subst, zero-add, arith}
use Rattle.isdb_mmt.specs.declared.decoder.counts.Counters.{Counters}
use Rattle.isdb_mmt.specs.Memory.Layout.{most_sections, section_size}
use Rattle.isdb_mmt.specs.Decoder.Packet.{Bytes}
use Rattle.isdb_mmt.specs.Decoder.Kept.{KeptTables, Table, mpt_after_all, stored_all, counted_all}
use Rattle.isdb_mmt.specs.Decoder.Needs.{tables_need}
use Rattle.isdb_mmt.specs.declared.decoder.walk.WalkState.{WalkState}
use Rattle.isdb_mmt.specs.Pushes.Placed.{Placed, table_bytes, AllPlaced}
use Rattle.isdb_mmt.specs.Pushes.TableState.{TableState, after_tables}
use Rattle.isdb_mmt.specs.Pushes.TableOutcome.{index_of}
use Rattle.isdb_mmt.specs.Pushes.PendingTables.{Logged, with_log, PendingTables, pending_of, pending_with_all, Walked, Areas, committed_entry, committed, Versions}
use Rattle.isdb_mmt.specs.Pushes.Commit.{put_tables, AllFit}
use Rattle.isdb_mmt.specs.Pushes.Leaves.{section_rows, kept_over}
use Rattle.isdb_mmt.proofs.TableOutcomes.{length_index}
use Rattle.isdb_mmt.proofs.Applied.{log_length}
use Rattle.isdb_mmt.proofs.TableStates.{mpt_all, store_all, counters_all, longest_all}
use Rattle.isdb_mmt.proofs.Committed.{ReadPlaced, all_tables}
use Rattle.isdb_mmt.proofs.Logging.{AllHeld, held_all, all_fit}
use Rattle.isdb_mmt.specs.Memory.Octets.{Octets}
use Rattle.isdb_mmt.proofs.Commits.{put_is}
use Rattle.isdb_mmt.proofs.Walking.{mono}
use Rattle.isdb_mmt.proofs.Leaving.{rows_are}
use Rattle.isdb_mmt.proofs.PlacesFor.{length_indexed}

pub record AsModel (w : TableState) (ts : List Table) (e : TableState) : Type 0 where
  pub mpt : e.mpt ≡ mpt_after_all w.mpt ts
  pub store : e.store ≡ stored_all w.store ts
  pub counters : e.counters ≡ counted_all w.mpt w.store w.counters ts
  pub longest : e.longest ≡ max w.longest (tables_need w.store ts)

as_model : (w : TableState) (ts : List Table) (e : TableState) → after_tables w ts ≡ e → AsModel w ts e
as_model w ts e q =
    record {
      mpt = ap (λ (z : TableState). z.mpt) (sym q) ∙ mpt_all ts w;
      store = ap (λ (z : TableState). z.store) (sym q) ∙ store_all ts w;
      counters = ap (λ (z : TableState). z.counters) (sym q) ∙ counters_all ts w;
      longest = ap (λ (z : TableState). z.longest) (sym q) ∙ longest_all ts w;
    }

module _ (read : Bytes → Table) (found_at : ReadPlaced read) (ix log others : List ℕ) (g : WalkState) (xs : List Placed) (n k : ℕ) (r : WalkState) (ix' log' others' : List ℕ)
    (walked : Walked read ix log others g xs n k r ix' log' others') (m : Bytes) (a : Areas) (c : Counters)
    (versions : Versions m a (pending_of ix log others g)) (stand : AllPlaced m xs) where
  abbrev before : TableState
  before = committed m a c (pending_of ix log others g)

  abbrev given : List Table
  given = map read (table_bytes xs)

  ends : after_tables before given ≡ committed m a c (pending_with_all read (pending_of ix log others g) xs)
  ends = all_tables read found_at m a c xs (pending_of ix log others g) versions stand

  kept_length_lem : (d : PendingTables) → length (committed m a c d).store.kept ≡ length d.index
  unfolding committed
  kept_length_lem d = length_indexed (committed_entry m a.bytes a.area) 0 d.index

  -- not full: index, log and counts stand for the model's next state
  pub walk_is : r.full ≡ false → AsModel before given (committed m a c (pending_of ix' log' others' r))
  walk_is y =
      as_model before given (committed m a c (pending_of ix' log' others' r))
      (ends ∙ ap (committed m a c) (sym (walked.to.now y).1))

  kept_all : length (stored_all before.store given).kept ≡ length (pending_with_all read (pending_of ix log others g) xs).index
  kept_all =
      ap (λ (s : KeptTables). length s.kept) (sym (store_all given before))
      ∙ ap (λ (z : TableState). length z.store.kept) ends
      ∙ kept_length_lem (pending_with_all read (pending_of ix log others g) xs)

  -- full exactly where the model keeps more sections than the index has places
  pub full_above : g.full ≡ false → r.full ≡ true → most_sections < length (stored_all before.store given).kept
  full_above y z = omega (arith, walked.to.over y z, kept_all)

  module _ (y : r.full ≡ false) (held : AllHeld m a.area g.longest (pending_of ix log others g).index) (fits : r.longest ≤ a.area) where
    abbrev logged_now : List Logged
    logged_now = with_log (index_of r.used ix') log'

    pub fits_after : AllFit a.area m logged_now
    fits_after =
        let e = (walked.to.now y).1 in
        let h : AllHeld m a.area r.longest logged_now =
        subst (λ (d : PendingTables). AllHeld m a.area d.longest d.index) (sym e) (held_all m read found_at a.area xs (pending_of ix log others g) stand held) in
        all_fit m a.area r.longest fits logged_now h

    pub length_after : length logged_now ≡ r.used
    length_after = log_length (index_of r.used ix') log' ∙ length_index r.used ix'

    -- after the commit the areas have the model's kept sections
    pub committed_kept_lem : r.used * a.area ≤ length a.bytes
        → put_tables a.area 0 logged_now m a.bytes ≡ kept_over a.area 0 (stored_all before.store given).kept a.bytes
    unfolding committed
    committed_kept_lem room =
        let z : (0 + length logged_now) * a.area ≤ length a.bytes = rw (length_after, zero-add r.used) room in
        put_is a.area m logged_now 0 a.bytes a.bytes fits_after z (λ j n b c. refl)
        ∙ ap (λ (s : KeptTables). kept_over a.area 0 s.kept a.bytes) (walk_is y).store

    -- and the section places are theirs
    pub committed_rows : Octets ix' → section_size * r.used ≤ length ix' → r.used * a.area ≤ length a.bytes
        → take (section_size * r.used) ix' ≡ section_rows (stored_all before.store given).kept
    unfolding committed
    committed_rows o h room =
        rows_are m a.bytes a.area ix' log' o r.used h fits_after room length_after
        ∙ ap (λ (s : KeptTables). section_rows s.kept) (walk_is y).store

  pub used_after : r.full ≡ false → r.used ≡ length (stored_all before.store given).kept
  used_after y =
      sym
      (kept_all
      ∙ ap (λ (d : PendingTables). length d.index) (sym (walked.to.now y).1)
      ∙ log_length (index_of r.used ix') log'
      ∙ length_index r.used ix')

  -- what is kept never shrinks
  pub kept_grows : g.used ≤ length (stored_all before.store given).kept
  kept_grows =
      let n : length (pending_of ix log others g).index ≡ g.used = log_length (index_of g.used ix) log ∙ length_index g.used ix in
      omega (arith, kept_all, mono read xs (pending_of ix log others g))
