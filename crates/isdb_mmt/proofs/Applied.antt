-- One step on the copies: one law for each return of `note`. Assumes nothing.
use Rattle.std.proofs.Common.{◌≡◌, ℕ, zero, suc, ◌+◌, ◌*◌, ◌<◌, ◌≤◌, max, Bool, true, false, ltb, List, [], ◌∷◌, ◌++◌, map, length, get_or, set, sym, refl, ap, ◌∙◌, inr, zero-add, add-one, arith, length-append, w8, w32, Fits, ltb-false, ltb-true, le-ltb}
use Rattle.isdb_tlv.specs.Fields.{written, Fit}
use Rattle.isdb_tlv.proofs.Fields.{length_written}
use Rattle.isdb_tlv.proofs.Guards.{either}
use Rattle.isdb_mmt.specs.Memory.Lent.{part, over, places_from}
use Rattle.isdb_mmt.specs.Memory.Layout.{most_sections, section_size}
use Rattle.isdb_mmt.specs.Memory.Session.{section_place_of, section_fields}
use Rattle.isdb_mmt.specs.declared.decoder.section.KeptSection.{KeptSection}
use Rattle.isdb_mmt.proofs.Lent.{part_over, places_apart}
use Rattle.isdb_mmt.proofs.Names.{true_not_false}
use Rattle.isdb_mmt.proofs.Stored.{section_back}
use Rattle.isdb_mmt.proofs.Views.{values_set, values_snoc}
use Rattle.isdb_mmt.specs.declared.decoder.table_outcome.TableAction.{TableAction}
use Rattle.isdb_mmt.specs.declared.decoder.table_outcome.TableAction.TheVariants.{Put}
use Rattle.isdb_mmt.specs.declared.decoder.table_outcome.TableOutcome.{TableOutcome}
use Rattle.isdb_mmt.specs.declared.decoder.walk.WalkState.{WalkState}
use Rattle.isdb_mmt.specs.Pushes.TableOutcome.{index_size, index_of}
use Rattle.isdb_mmt.specs.Pushes.PendingTables.{most_by_table, Logged, logged, with_log, places_of, PendingTables, pending_of, put_at, index_after, others_after, mpt_after, plt_after, tot_after, kept_length, pending_after, Room, PutWithin, CanApply, marked, counted_by, kept_with, filled, used_with, WalkedTo, Applied}
use Rattle.isdb_mmt.proofs.TableOutcomes.{length_index}

-- ---- an index with its log

pub log_set : (xs : List KeptSection) (fs : List ℕ) (i : ℕ) (x : KeptSection) (f : ℕ) → length xs ≤ length fs
    → with_log (set xs i x) (set fs i f) ≡ set (with_log xs fs) i (logged x f)
log_set [] fs i x f h = refl
log_set (y ∷ xs) [] i x f h = absurd (omega arith)
log_set (y ∷ xs) (g ∷ fs) zero x f h = refl
log_set (y ∷ xs) (g ∷ fs) (suc i) x f h = ap (λ (r : List Logged). logged y g ∷ r) (log_set xs fs i x f (omega arith))

pub log_snoc : (xs : List KeptSection) (fs : List ℕ) (x : KeptSection) (f : ℕ) → length xs < length fs
    → with_log (xs ++ (x ∷ [])) (set fs (length xs) f) ≡ with_log xs fs ++ (logged x f ∷ [])
log_snoc [] [] x f h = absurd (omega arith)
log_snoc [] (g ∷ fs) x f h = refl
log_snoc (y ∷ xs) [] x f h = absurd (omega arith)
log_snoc (y ∷ xs) (g ∷ fs) x f h = ap (λ (r : List Logged). logged y g ∷ r) (log_snoc xs fs x f (omega arith))

pub log_length : (xs : List KeptSection) (fs : List ℕ) → length (with_log xs fs) ≡ length xs
log_length [] fs = refl
log_length (x ∷ xs) [] = ap suc (log_length xs [])
log_length (x ∷ xs) (f ∷ fs) = ap suc (log_length xs fs)

pub log_places : (xs : List KeptSection) (fs : List ℕ) → places_of (with_log xs fs) ≡ xs
log_places [] fs = refl
log_places (x ∷ xs) [] = ap (λ (r : List KeptSection). x ∷ r) (log_places xs [])
log_places (x ∷ xs) (f ∷ fs) = ap (λ (r : List KeptSection). x ∷ r) (log_places xs fs)

-- ---- a place of the index is stored

module _ (ix : List ℕ) (long : length ix ≡ index_size) (x : KeptSection) (fit : Fit (section_fields x)) where
  abbrev ws : List ℕ
  ws = written (section_fields x)

  wide : length ws ≡ section_size
  wide = length_written (section_fields x)

  index_set : (used i : ℕ) → i < used → i < most_sections → index_of used (over (section_size * i) ws ix) ≡ set (index_of used ix) i x
  unfolding index_of
  index_set used i h b =
      let z : 0 + section_size * i ≡ section_size * i = zero-add (section_size * i) in
      ap (λ k. map section_place_of (places_from used section_size 0 (over k ws ix))) (sym z)
      ∙ values_set section_place_of section_size 0 used ix ws i wide h (omega arith)
      ∙ ap (λ (y : KeptSection). set (map section_place_of (places_from used section_size 0 ix)) i y) (section_back x fit)

  index_snoc : (used : ℕ) → used < most_sections → index_of (used + 1) (over (section_size * used) ws ix) ≡ index_of used ix ++ (x ∷ [])
  unfolding index_of
  index_snoc used b =
      let w = wide in
      let m : List ℕ = over (section_size * used) ws ix in
      let z : 0 + section_size * used ≡ section_size * used = zero-add (section_size * used) in
      let p1 : places_from used section_size 0 m ≡ places_from used section_size 0 ix = places_apart section_size (section_size * used) ws ix (omega arith) used 0 (inr (omega arith)) in
      let p2 : section_place_of (part (section_size * used) section_size m) ≡ x =
      ap (λ n. section_place_of (part (section_size * used) n m)) (sym w) ∙ ap section_place_of (part_over (section_size * used) ws ix (omega arith)) ∙ section_back x fit in
      rw (add-one used)
      (values_snoc section_place_of section_size 0 used m
      ∙ ap (λ k. map section_place_of (places_from used section_size 0 m) ++ (section_place_of (part k section_size m) ∷ [])) z
      ∙ ap (λ (l : List (List ℕ)). map section_place_of l ++ (section_place_of (part (section_size * used) section_size m) ∷ [])) p1
      ∙ ap (λ (y : KeptSection). map section_place_of (places_from used section_size 0 ix) ++ (y ∷ [])) p2)

  module _ (fs : List ℕ) (logs : length fs ≡ most_sections) (used i f : ℕ) (h : i ≤ used) (b : i < most_sections) (few : used ≤ most_sections) where
    put_index : with_log (index_of (used_with used i) (over (section_size * i) ws ix)) (set fs i f) ≡ put_at (with_log (index_of used ix) fs) i (logged x f)
    put_index =
        let n : length (with_log (index_of used ix) fs) ≡ used = log_length (index_of used ix) fs ∙ length_index used ix in
        let l : length (index_of used ix) ≡ used = length_index used ix in
        either (ltb i used)
        (λ t.
        let k : i < used = ltb-true i used t in
        rw (t, n, t)
        (ap (λ (y : List KeptSection). with_log y (set fs i f)) (index_set used i k b)
        ∙ log_set (index_of used ix) fs i x f (omega arith)))
        (λ t.
        let k : used ≤ i = ltb-false i used t in
        let e : i ≡ used = omega arith in
        let q : ltb used used ≡ false = le-ltb used used (omega arith) in
        rw (e, n, q)
        (ap (λ (y : List KeptSection). with_log y (set fs used f)) (index_snoc used (omega arith))
        ∙ ap (λ j. with_log (index_of used ix ++ (x ∷ [])) (set fs j f)) (sym l)
        ∙ log_snoc (index_of used ix) fs x f (omega arith)))

-- ---- counts

-- whatever it is marked with
pub room_marked : (g : WalkState) (others : List ℕ) (bad : ℕ) (full : Bool) (n k : ℕ) → n ≤ k → bad ≤ k → Room g others n → Room (marked g bad full) others k
room_marked g others bad full n k h b r =
    record {
      tables = omega (arith, r.tables);
      crc_errors = omega (arith, r.crc_errors);
      malformed = omega (arith, r.malformed);
      changes = omega (arith, r.changes);
      breaks = omega (arith, r.breaks);
      bad = b;
      each = λ j. omega (arith, r.each j);
    }

pub room_more : (g : WalkState) (others : List ℕ) (n k : ℕ) → n ≤ k → Room g others n → Room g others k
room_more g others n k h r = room_marked g others g.message_malformed g.full n k h (omega (arith, r.bad)) r

abbrev applied_by : PendingTables → TableOutcome → TableAction → ℕ → PendingTables
applied_by d t z f =
    record {
      index = index_after d.index z f;
      others = others_after d.others z;
      tables = d.tables + 1;
      crc_errors = d.crc_errors + t.crc_errors;
      malformed = d.malformed + t.malformed;
      changes = d.changes + t.version_changes;
      breaks = d.breaks + t.breaks;
      mpt = mpt_after d.mpt z f;
      plt = plt_after d.plt z f;
      tot = tot_after d.tot z f;
      longest = max d.longest (kept_length z);
    }

module _ (ix log others : List ℕ) (g : WalkState) (t : TableOutcome) (f : ℕ) (can : CanApply ix log others g t) where
  abbrev d : PendingTables
  d = pending_of ix log others g

  room_of : (r : WalkState) (os : List ℕ) → r.tables ≡ g.tables + 1 → r.crc_errors ≡ g.crc_errors + t.crc_errors
      → r.malformed ≡ g.malformed + t.malformed → r.version_changes ≡ g.version_changes + t.version_changes
      → r.split_errors ≡ g.split_errors + t.breaks → r.message_malformed ≡ g.message_malformed → ((most k : ℕ) → Room g others most → get_or os k 0 ≤ most + 1)
      → (most : ℕ) → Room g others most → Room r os (most + 1 * most_by_table)
  room_of r os e0 e1 e2 e3 e4 e5 each most m =
      record {
        tables = omega (arith, m.tables);
        crc_errors = omega (arith, m.crc_errors, can.told.crc_errors);
        malformed = omega (arith, m.malformed, can.told.malformed);
        changes = omega (arith, m.changes, can.told.changes);
        breaks = omega (arith, m.breaks, can.told.breaks);
        bad = omega (arith, m.bad);
        each = λ k. omega (arith, each most k m);
      }

  same_others : (most k : ℕ) → Room g others most → get_or others k 0 ≤ most + 1
  same_others most k m = omega (arith, m.each k)

  module _ (gf : g.full ≡ false) (c : WalkState) (ec : c ≡ counted_by g t) where
    -- what is applied and not full
    applied_as : (z : TableAction) → t.act ≡ z → (r : WalkState) (ix' log' others' : List ℕ) → r.full ≡ g.full → pending_of ix' log' others' r ≡ applied_by d t z f
        → r.used ≤ most_sections → WalkedTo (pending_after d t f) g r ix' log' others'
    applied_as z ez r ix' log' others' e q u =
        record {
          stays = λ y. true_not_false g.full y gf;
          over = λ y w. true_not_false r.full w (e ∙ gf);
          now = λ y. (gf, q ∙ ap (λ (w : TableAction). applied_by d t w f) (sym ez));
          used = u;
        }

    module _ (i : ℕ) (x : KeptSection) (ez : t.act ≡ Put i x) where
      pub put_within : i ≤ g.used
      put_within =
          let w : PutWithin t.act g.used = can.told.within in
          rw ez at w

      pub apply_full : most_sections ≤ i → (r : WalkState) → r ≡ filled c → Applied ix log others g t f r ix log others
      apply_full h r er =
          let w = put_within in
          let u = can.copies.used in
          let es : List Logged = with_log (index_of g.used ix) log in
          let n : length es ≡ g.used = log_length (index_of g.used ix) log ∙ length_index g.used ix in
          let p : length (put_at es i (logged x f)) ≡ length es + 1 =
          rw (le-ltb i (length es) (omega arith)) (length-append es (logged x f ∷ [])) in
          let o : most_sections < length (pending_after d t f).index = rw ez (omega arith) in
          rw (er, ec)
          (record {
            to = record { stays = λ y. refl; over = λ y z. o; now = λ y. true_not_false true refl y; used = u };
            room = room_of (filled (counted_by g t)) others refl refl refl refl refl refl same_others;
            bad = refl;
          })

      pub apply_put : i < most_sections → Fits w32 x.key → Fits w8 x.version → Fits w32 x.length → (ix' log' : List ℕ)
          → ix' ≡ over (section_size * i) (written (section_fields x)) ix → log' ≡ set log i f → (u : ℕ) → u ≡ used_with c.used i
          → (r : WalkState) → r ≡ kept_with c u c.mpt c.plt c.tot x.length → Applied ix log others g t f r ix' log' others
      apply_put b fk fv fl ix' log' ei el u eu r er =
          let w = put_within in
          let few = can.copies.used in
          let fit : Fit (section_fields x) = (omega (arith, fk), (omega (arith, fv), (omega (arith, fl), tt))) in
          let q : with_log (index_of (used_with g.used i) (over (section_size * i) (written (section_fields x)) ix)) (set log i f) ≡ put_at (with_log (index_of g.used ix) log) i (logged x f) =
          put_index ix can.copies.index_long x fit log can.copies.log_long g.used i f w b few in
          let r0 : WalkState = kept_with (counted_by g t) (used_with g.used i) g.mpt g.plt g.tot x.length in
          let us : used_with g.used i ≤ most_sections = either (ltb i g.used) (λ y. rw y few) (λ y. rw y (omega arith)) in
          rw (er, eu, ec, ei, el)
          (record {
            to =
                applied_as (Put i x) ez r0 (over (section_size * i) (written (section_fields x)) ix) (set log i f) others refl
                (ap
                (λ (l : List Logged).
                record {
                  index = l;
                  others = others;
                  tables = g.tables + 1;
                  crc_errors = g.crc_errors + t.crc_errors;
                  malformed = g.malformed + t.malformed;
                  changes = g.version_changes + t.version_changes;
                  breaks = g.split_errors + t.breaks;
                  mpt = g.mpt;
                  plt = g.plt;
                  tot = g.tot;
                  longest = max g.longest x.length;
                })
                q)
                us;
            room = room_of r0 others refl refl refl refl refl refl same_others;
            bad = refl;
          })
