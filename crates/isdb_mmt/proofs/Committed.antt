-- The walk over the index and its log is the model's walk. Assumes nothing.
use Rattle.std.specs.Prelude.{None, Some, Option}
use Rattle.std.proofs.Common.{◌≡◌, ℕ, zero, suc, ◌+◌, ◌-◌, ◌*◌, ◌<◌, max, Bool, true, false, cond, not, ◌&&◌, eqb, List, [], ◌∷◌, ◌++◌, map, length, get_or, take, set, sym, refl, ap, ◌∙◌, add-zero, zero-add, arith, le-ltb, lt-ltb, ne_eqb}
use lib.ListN.{length-map}
use Rattle.isdb_tlv.specs.Guards.{◌=?◌}
use Rattle.isdb_tlv.specs.Bytes.{be}
use Rattle.isdb_tlv.proofs.Guards.{cond_elim}
use Rattle.isdb_mmt.specs.declared.decoder.counts.Counters.{Counters}
use Rattle.isdb_mmt.specs.Decoder.Packet.{Bytes}
use Rattle.isdb_mmt.specs.Decoder.Maps.{find, put, one}
use Rattle.isdb_mmt.specs.Memory.Lent.{found_from, indexed}
use Rattle.isdb_mmt.specs.Formats.Section.{length12}
use Rattle.isdb_mmt.specs.Decoder.Kept.{Section, section_of, Kept, Table, empty_table, mpt_table, plt_table, tot_table, truncated_section, a_section, other_table, other_version, keep_if, keep, with_table_counts, table_counted, section_increments, changes, table_increments, mpt_after, stored, table_read}
use Rattle.isdb_mmt.specs.Decoder.Needs.{table_area_of}
use Rattle.isdb_mmt.specs.declared.decoder.section.KeptSection.{KeptSection}
use Rattle.isdb_mmt.proofs.Views.{keys, entry, FoundAt, found_at, absent, indexed_set, indexed_snoc, keys_indexed}
use Rattle.isdb_mmt.specs.declared.decoder.table_outcome.Recent.{Recent}
use Rattle.isdb_mmt.specs.declared.decoder.table_outcome.TableAction.TheVariants.{Nothing}
use Rattle.isdb_mmt.specs.declared.decoder.table_outcome.TableOutcome.{TableOutcome}
use Rattle.isdb_mmt.specs.Pushes.Placed.{Placed, PlacedAt, AllPlaced, table_bytes}
use Rattle.isdb_mmt.specs.Pushes.TableState.{TableState, after_table, after_tables}
use Rattle.isdb_mmt.specs.Pushes.TableOutcome.{keys_of, no_section, outcome, changes_to, body_outcome, version_outcome, section_outcome, table_outcome}
use Rattle.isdb_mmt.specs.Pushes.PendingTables.{section_read, mpt_after as recent_mpt, plt_after as recent_plt, Logged, logged, places_of, PendingTables, recent, put_at, pending_after, pending_with, pending_with_all, bytes_at, committed_entry, committed_kept, committed_recent, Areas, committed, VersionOf, Versions}
use Rattle.isdb_mmt.proofs.Placing.{part_located}
use Rattle.isdb_mmt.proofs.TableOutcomes.{found_within}
use Rattle.isdb_mmt.proofs.TableKinds.{by_kinds}

-- ---- where the bytes of a table that is kept stand

abbrev pub TableAt : Bytes → ℕ → Table → Type 0
TableAt m at empty_table = Unit {0}
TableAt m at (mpt_table ok breaks b) = PlacedAt m at b
TableAt m at (plt_table ok b) = PlacedAt m at b
TableAt m at (tot_table ok crc breaks b) = PlacedAt m at b
TableAt m at truncated_section = Unit {0}
TableAt m at (a_section x) = PlacedAt m at x.bytes
TableAt m at (other_table id) = Unit {0}

declared : (m : Bytes) (at : ℕ) (b : Bytes) → PlacedAt m at b → (n : ℕ) → PlacedAt m at (take n b)
declared m at b h n = rw add-zero at (part_located m at b (record { start = 0; length = n }) h)

section_located : (m : Bytes) (at : ℕ) (b : Bytes) → PlacedAt m at b → PlacedAt m at (section_of b).bytes
unfolding section_of
section_located m at b h = declared m at b h (length12 b 1 + 3)

-- a way to read tables keeps bytes that stand there
abbrev pub ReadPlaced : (Bytes → Table) → Type 0
ReadPlaced read = (m : Bytes) (at : ℕ) (b : Bytes) → PlacedAt m at b → TableAt m at (read b)

pub tables_located : ReadPlaced table_read
tables_located m at b h =
    by_kinds (TableAt m at) b
    (record {
      empty = tt;
      mpt = λ l k. declared m at b h (be 2 b 2 + 4);
      plt = declared m at b h (be 2 b 2 + 4);
      tot = declared m at b h (length12 b 1 + 3);
      truncated = tt;
      section = section_located m at b h;
      others = tt;
    })

pub sections_located : ReadPlaced section_read
sections_located m at b h = section_located m at b h

-- what is logged is read from the message
pub bytes_new : (m areas : Bytes) (k at : ℕ) (b : Bytes) → PlacedAt m at b → b ≡ bytes_at m areas k (at + 1) (length b)
bytes_new m areas k at b h =
    let e : eqb (at + 1) 0 ≡ false = ne_eqb (at + 1) 0 (λ z. absurd (omega arith)) in
    let q : at + 1 - 1 ≡ at = omega arith in
    h ∙ sym (rw (e, q))

-- a section leaves the MPT and the PLT
abbrev Same : TableOutcome → Option Recent → ℕ → Type 0
Same t r f = (recent_mpt r t.act f ≡ r) × (recent_plt r t.act f ≡ r)

no_recent_lem : (ks : List KeptSection) (x : Section) (r : Option Recent) (f : ℕ) → Same (section_outcome ks x) r f
unfolding section_outcome
no_recent_lem ks x r f =
    cond_elim (λ t. Same t r f) x.header_and_crc_good (λ e. by_version (found_from 0 (keys_of ks) x.key))
    (λ e. cond_elim (λ t. Same t r f) x.crc_bad (λ e. (refl, refl)) (λ e. (refl, refl)))
  where
    by_body : (n i : ℕ) → Same (body_outcome x n i) r f
    by_body n i = cond_elim (λ t. Same t r f) x.body_ok (λ e. (refl, refl)) (λ e. (refl, refl))

    by_version : (g : Option ℕ) → Same (version_outcome ks x g) r f
    by_version None = by_body 0 (length ks)
    by_version (Some i) = cond_elim (λ t. Same t r f) ((get_or ks i no_section).version =? x.version) (λ e. (refl, refl)) (λ e. by_body 1 i)

module _ (m : Bytes) (a : Areas) (c : Counters) (d : PendingTables) (at : ℕ) where
  abbrev es : List Logged
  es = d.index

  abbrev ks : List KeptSection
  ks = places_of d.index

  abbrev kepts : List Logged → List (ℕ × Kept)
  kepts l = committed_kept m a.bytes a.area l

  keys_map : (l : List Logged) → map (λ (e : Logged). e.place.key) l ≡ keys_of (places_of l)
  keys_map [] = refl
  keys_map (e ∷ l) = ap (λ (r : List ℕ). e.place.key ∷ r) (keys_map l)

  keys_committed : keys (kepts es) ≡ keys_of ks
  keys_committed = keys_indexed (committed_entry m a.bytes a.area) (λ (e : Logged). e.place.key) (λ i x. refl) es 0 ∙ keys_map es

  -- ---- a section's place

  within : (key i : ℕ) → found_from 0 (keys_of ks) key ≡ Some i → i < length es
  within key i e =
      omega (arith, found_within 0 (keys_of ks) key i e, length-map ks (λ (k : KeptSection). k.key), length-map es (λ (l : Logged). l.place))

  version_at : (l : List Logged) (k i : ℕ) (z : Kept) → i < length l
      → (get_or (indexed (committed_entry m a.bytes a.area) k l) i (0, z)).1.version ≡ (get_or (places_of l) i no_section).version
  unfolding indexed
  version_at [] k i z h = absurd (omega arith)
  version_at (e ∷ l) k zero z h = refl
  version_at (e ∷ l) k (suc i) z h = version_at l (k + 1) i z (omega arith)

  abbrev kept_of : ℕ → Bytes → Kept
  kept_of v bs = record { version = v; bytes = bs }

  module _ (key v : ℕ) (bs : Bytes) (stood : PlacedAt m at bs) where
    abbrev place : KeptSection
    place = record { key = key; version = v; length = length bs }

    pub put_old : (i : ℕ) → found_from 0 (keys_of ks) key ≡ Some i
        → put key (kept_of v bs) (kepts es) ≡ kepts (put_at es i (logged place (at + 1)))
    put_old i e =
        let f : found_from 0 (keys (kepts es)) key ≡ Some i = ap (λ (ns : List ℕ). found_from 0 ns key) keys_committed ∙ e in
        let s : FoundAt (kepts es) key (i - 0) = (found_at (kepts es) key 0 i f).1 in
        let z : i - 0 ≡ i = omega arith in
        let w : i < length es = within key i e in
        let n : bs ≡ bytes_at m a.bytes (i * a.area) (at + 1) (length bs) = bytes_new m a.bytes (i * a.area) at bs stood in
        s.stored (kept_of v bs)
        ∙ ap (λ j. set (kepts es) j (key, kept_of v bs)) z
        ∙ ap (λ (b : Bytes). set (kepts es) i (key, kept_of v b)) n
        ∙ ap (λ j. set (kepts es) i (key, kept_of v (bytes_at m a.bytes (j * a.area) (at + 1) (length bs)))) (sym (zero-add i))
        ∙ sym (indexed_set (committed_entry m a.bytes a.area) es 0 i (logged place (at + 1)))
        ∙ rw (lt-ltb i (length es) w)

    pub put_new : found_from 0 (keys_of ks) key ≡ None
        → put key (kept_of v bs) (kepts es) ≡ kepts (put_at es (length ks) (logged place (at + 1)))
    put_new e =
        let f : found_from 0 (keys (kepts es)) key ≡ None = ap (λ (ns : List ℕ). found_from 0 ns key) keys_committed ∙ e in
        let l : length ks ≡ length es = length-map es (λ (x : Logged). x.place) in
        let n : bs ≡ bytes_at m a.bytes ((0 + length es) * a.area) (at + 1) (length bs) = bytes_new m a.bytes ((0 + length es) * a.area) at bs stood in
        (absent (kepts es) key 0 f).1 (kept_of v bs)
        ∙ ap (λ (b : Bytes). kepts es ++ ((key, kept_of v b) ∷ [])) n
        ∙ sym (indexed_snoc (committed_entry m a.bytes a.area) es 0 (logged place (at + 1)))
        ∙ rw (le-ltb (length ks) (length es) (omega arith))

  -- the map has what the index has
  abbrev pub Agree : Option Kept → Option ℕ → Type 0
  Agree None None = Unit {0}
  Agree None (Some i) = ⊥
  Agree (Some k) None = ⊥
  Agree (Some k) (Some i) = k.version ≡ (get_or ks i no_section).version

  pub agree : (key : ℕ) (f : Option ℕ) → found_from 0 (keys_of ks) key ≡ f → Agree (find key (kepts es)) f
  agree key None e =
      let f : found_from 0 (keys (kepts es)) key ≡ None = ap (λ (ns : List ℕ). found_from 0 ns key) keys_committed ∙ e in
      rw (absent (kepts es) key 0 f).0 tt
  agree key (Some i) e =
      let f : found_from 0 (keys (kepts es)) key ≡ Some i = ap (λ (ns : List ℕ). found_from 0 ns key) keys_committed ∙ e in
      let s : FoundAt (kepts es) key (i - 0) = (found_at (kepts es) key 0 i f).1 in
      let z : i - 0 ≡ i = omega arith in
      let z0 : Kept = kept_of 0 [] in
      let w : find key (kepts es) ≡ Some (entry (kepts es) i z0) = s.found z0 ∙ ap (λ j. Some (entry (kepts es) j z0)) z in
      rw w (version_at es 0 i z0 (within key i e))

  -- ---- one table

  abbrev mk : Option Bytes → Option Bytes → Option Bytes → List (ℕ × Kept) → List ℕ → ℕ → ℕ → ℕ → ℕ → ℕ → ℕ → TableState
  mk mpt plt tot kept others tables crc malformed changed breaks longest =
      record {
        mpt = mpt;
        store = record { plt = plt; tot = tot; kept = kept; others = others };
        counters = with_table_counts c tables crc malformed changed c.message_malformed breaks;
        longest = longest;
      }

  abbrev mpt_d : Option Bytes
  mpt_d = committed_recent m a.bytes a.mpt d.mpt

  abbrev plt_d : Option Bytes
  plt_d = committed_recent m a.bytes a.plt d.plt

  abbrev tot_d : Option Bytes
  tot_d = committed_recent m a.bytes a.tot d.tot

  -- what a table leaves, by what is kept and what it adds
  abbrev left : List (ℕ × Kept) → ℕ → ℕ → ℕ → ℕ → ℕ → TableState
  left kept crc malformed changed breaks n =
      mk mpt_d plt_d tot_d kept d.others (d.tables + 1) (d.crc_errors + crc) (d.malformed + malformed) (d.changes + changed)
      (d.breaks + breaks) (max d.longest n)

  abbrev after : TableOutcome → TableState
  after t = committed m a c (pending_after d t (at + 1))

  module _ (key : ℕ) (cb : Bool) (v : ℕ) (br : ℕ) (bs : Bytes) (stood : PlacedAt m at bs) where
    abbrev sect : Bool → Bool → Section
    sect h ok = record { key = key; header_and_crc_good = h; crc_bad = cb; version = v; body_ok = ok; breaks = br; bytes = bs }

    abbrev model : Bool → Bool → Option Kept → TableState
    model h ok o =
        left (cond h (keep_if (other_version o v) ok (sect h ok) (kepts es)) (kepts es)) (section_increments (sect h ok) o).crc_errors
        (section_increments (sect h ok) o).malformed (section_increments (sect h ok) o).version_changes (section_increments (sect h ok) o).breaks
        (cond (h && (other_version o v && ok)) (length bs) 0)

    abbrev index : Bool → Bool → Option ℕ → TableOutcome
    index h ok f = cond h (version_outcome ks (sect h ok) f) (cond cb (outcome 1 0 0 0 Nothing) (outcome 0 1 0 0 Nothing))

    old : (ok q : Bool) (k : Kept) (i : ℕ) → found_from 0 (keys_of ks) key ≡ Some i
        → k.version ≡ (get_or ks i no_section).version → eqb (get_or ks i no_section).version v ≡ q
        → model true ok (Some k) ≡ after (index true ok (Some i))
    unfolding keep_if other_version section_increments committed
    old ok true k i e w q = rw (w, q)
    old true false k i e w q =
        rw (w, q) (ap (λ (l : List (ℕ × Kept)). left l 0 0 1 br (length bs)) (put_old key v bs stood i e))
    old false false k i e w q = rw (w, q)

    fresh : (ok : Bool) → found_from 0 (keys_of ks) key ≡ None → model true ok None ≡ after (index true ok None)
    unfolding keep_if other_version section_increments committed
    fresh true e = ap (λ (l : List (ℕ × Kept)). left l 0 0 0 br (length bs)) (put_new key v bs stood e)
    fresh false e = refl

    sec : (h ok : Bool) (o : Option Kept) (f : Option ℕ) → found_from 0 (keys_of ks) key ≡ f → Agree o f
        → model h ok o ≡ after (index h ok f)
    unfolding keep_if other_version section_increments committed
    sec true ok None None e g = fresh ok e
    sec true ok None (Some i) e g = absurd g
    sec true ok (Some k) None e g = absurd g
    sec true ok (Some k) (Some i) e g = old ok (eqb (get_or ks i no_section).version v) k i e g refl
    sec false ok o f e g = bad cb
      where
        bad : (b : Bool)
            → left (kepts es) (one b) (one (not b)) 0 0 0 ≡ after (cond b (outcome 1 0 0 0 Nothing) (outcome 0 1 0 0 Nothing))
        bad true = refl
        bad false = refl

  one_section_lem : (x : Section) → PlacedAt m at x.bytes → after_table (committed m a c d) (a_section x) ≡ after (table_outcome ks d.mpt d.plt (a_section x))
  unfolding stored table_increments table_counted mpt_after table_area_of keep table_outcome section_outcome committed
  one_section_lem x h =
      sec x.key x.crc_bad x.version x.breaks x.bytes h x.header_and_crc_good x.body_ok (find x.key (kepts es))
      (found_from 0 (keys_of ks) x.key) refl (agree x.key (found_from 0 (keys_of ks) x.key) refl)

  -- a version change is the model's
  changed : (o : Option Bytes) (r : Option Recent) → VersionOf o r → (b : Bytes) → changes o b ≡ changes_to r (get_or b 1 0)
  changed None None w b = refl
  changed None (Some r) w b = absurd w
  changed (Some old) None w b = absurd w
  changed (Some old) (Some r) w b = rw w

  pub one_table : Versions m a d → (t : Table) → TableAt m at t → after_table (committed m a c d) t ≡ after (table_outcome ks d.mpt d.plt t)
  unfolding stored table_increments table_counted mpt_after table_area_of table_outcome committed
  one_table w empty_table h = refl
  one_table w (mpt_table true breaks b) h =
      let n = bytes_new m a.bytes a.mpt at b h in
      let e = changed mpt_d d.mpt w.mpt b in
      λ i.
      mk (Some (n i)) plt_d tot_d (kepts es) d.others (d.tables + 1) (d.crc_errors + 0) (d.malformed + 0) (d.changes + one (e i))
      (d.breaks + breaks) (max d.longest (length b))
  one_table w (mpt_table false breaks b) h = refl
  one_table w (plt_table true b) h =
      let n = bytes_new m a.bytes a.plt at b h in
      let e = changed plt_d d.plt w.plt b in
      λ i.
      mk mpt_d (Some (n i)) tot_d (kepts es) d.others (d.tables + 1) (d.crc_errors + 0) (d.malformed + 0) (d.changes + one (e i))
      (d.breaks + 0) (max d.longest (length b))
  one_table w (plt_table false b) h = refl
  one_table w (tot_table true crc breaks b) h =
      let n = bytes_new m a.bytes a.tot at b h in
      λ i.
      mk mpt_d plt_d (Some (n i)) (kepts es) d.others (d.tables + 1) (d.crc_errors + one crc) (d.malformed + 0) (d.changes + 0)
      (d.breaks + breaks) (max d.longest (length b))
  one_table w (tot_table false crc breaks b) h = refl
  one_table w truncated_section h = refl
  one_table w (a_section x) h = one_section_lem x h
  one_table w (other_table id) h = refl

  -- the versions stay those of the bytes
  kept_version : (areaAt : ℕ) (b : Bytes) → PlacedAt m at b → VersionOf (committed_recent m a.bytes areaAt (recent (get_or b 1 0) (at + 1) (length b))) (recent (get_or b 1 0) (at + 1) (length b))
  kept_version areaAt b h = ap (λ (x : Bytes). get_or x 1 0) (bytes_new m a.bytes areaAt at b h)

  pub versions_stay : Versions m a d → (t : Table) → TableAt m at t → Versions m a (pending_after d (table_outcome ks d.mpt d.plt t) (at + 1))
  unfolding table_outcome
  versions_stay w empty_table h = record { mpt = w.mpt; plt = w.plt }
  versions_stay w (mpt_table true breaks b) h = record { mpt = kept_version a.mpt b h; plt = w.plt }
  versions_stay w (mpt_table false breaks b) h = record { mpt = w.mpt; plt = w.plt }
  versions_stay w (plt_table true b) h = record { mpt = w.mpt; plt = kept_version a.plt b h }
  versions_stay w (plt_table false b) h = record { mpt = w.mpt; plt = w.plt }
  versions_stay w (tot_table true crc breaks b) h = record { mpt = w.mpt; plt = w.plt }
  versions_stay w (tot_table false crc breaks b) h = record { mpt = w.mpt; plt = w.plt }
  versions_stay w truncated_section h = record { mpt = w.mpt; plt = w.plt }
  versions_stay w (a_section x) h = of_section (section_outcome ks x) (no_recent_lem ks x)
    where
      of_section : (t : TableOutcome) → ((r : Option Recent) (f : ℕ) → Same t r f) → Versions m a (pending_after d t (at + 1))
      of_section t s = record { mpt = rw (s d.mpt (at + 1)).0 w.mpt; plt = rw (s d.plt (at + 1)).1 w.plt }
  versions_stay w (other_table id) h = record { mpt = w.mpt; plt = w.plt }

-- ---- all tables

pub all_tables : (read : Bytes → Table) → ReadPlaced read → (m : Bytes) (a : Areas) (c : Counters) (xs : List Placed) (d : PendingTables) → Versions m a d → AllPlaced m xs
    → after_tables (committed m a c d) (map read (table_bytes xs)) ≡ committed m a c (pending_with_all read d xs)
unfolding after_tables pending_with_all
all_tables read found_at m a c [] d w s = refl
all_tables read found_at m a c (x ∷ xs) d w s =
    let h : TableAt m x.at (read x.bytes) = found_at m x.at x.bytes s.0 in
    ap (λ (z : TableState). after_tables z (map read (table_bytes xs))) (one_table m a c d x.at w (read x.bytes) h)
    ∙ all_tables read found_at m a c xs (pending_with read d x) (versions_stay m a c d x.at w (read x.bytes) h) s.1
