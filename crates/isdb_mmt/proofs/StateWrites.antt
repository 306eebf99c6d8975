-- What tables leave of the state: places in use, section places, counters, PLT and TOT, each read back; all else is as before.
-- Assumes nothing.
use Rattle.std.specs.Prelude.{is_some}
use Rattle.std.proofs.Common.{◌≡◌, ℕ, ◌+◌, ◌*◌, ◌≤◌, List, map, length, take, drop, sym, ap, ◌∙◌, inl, inr, arith, length-take-le}
use Rattle.isdb_tlv.specs.Fields.{written, Fit}
use Rattle.isdb_tlv.proofs.Fields.{length_written}
use Rattle.isdb_mmt.specs.Decoder.Kept.{Kept, KeptTables}
use Rattle.isdb_mmt.specs.Decoder.Model.{State}
use Rattle.isdb_mmt.specs.Memory.Layout.{used_place, latest_place, time_place, counters_place, media_places, section_places, section_size, most_media_ids, most_control_ids, most_sections, most_table_area, state_size}
use Rattle.isdb_mmt.specs.Memory.Lent.{over, places_from}
use Rattle.isdb_mmt.specs.Memory.Session.{limits_of, used_of, used_fields, latest_of, latest_fields, time_of, counters_of, counters_fields, section_place_of}
use Rattle.isdb_mmt.specs.Memory.Check.{sections_in}
use Rattle.isdb_mmt.specs.Pushes.MediaPush.{with_used}
use Rattle.isdb_mmt.specs.Memory.PlacesOf.{table_length, latest_for}
use Rattle.isdb_mmt.specs.Pushes.Leaves.{kept_place, used_for, section_rows, with_sections, with_latest, state_of_tables}
use Rattle.isdb_mmt.specs.declared.decoder.limits.Limits.{Limits}
use Rattle.isdb_mmt.specs.declared.decoder.head.Used.{Used}
use Rattle.isdb_mmt.proofs.Lent.{length_over, places_apart}
use Rattle.isdb_mmt.proofs.Stored.{apart, limits_own, latest_own, time_own, counters_own, used_back, latest_back, counters_back, flag_small}
use Rattle.isdb_mmt.proofs.Sessions.{Sort, sections, in_use, named, place_apart, used_apart}
use Rattle.isdb_mmt.proofs.TableAreas.{AllKept, length_rows, rows_read}

-- a sort with as many places in use as before
pub used_other : (l : List ℕ) → state_size ≤ length l → (u : Used) → Fit (used_fields u) → {A : Type 0} (o : Sort A) → o.count u ≡ o.count (used_of l)
    → in_use o (with_used u l) ≡ in_use o l
used_other l long u f o c =
    let e : length (written (used_fields u)) ≡ 12 = length_written (used_fields u) in
    let b = o.behind in
    ap (λ (x : Used). map o.of (places_from (o.count x) o.width o.at (with_used u l))) (used_back u l f long)
    ∙ ap (λ n. map o.of (places_from n o.width o.at (with_used u l))) c
    ∙ ap (map o.of) (places_apart o.width used_place (written (used_fields u)) l (omega arith) (o.count (used_of l)) o.at (inl (omega arith)))

-- what is to be stored fits
pub record TablesFit (l : Limits) (n : State) : Type 0 where
  pub counters : Fit (counters_fields n.counters)
  pub media : length n.assets ≤ l.media_ids
  pub controls : length n.controls ≤ l.control_ids
  pub sections : length n.store.kept ≤ l.sections
  pub kept : AllKept l.table_area n.store.kept
  pub plt : table_length n.store.plt ≤ l.table_area
  pub tot : table_length n.store.tot ≤ l.table_area

module _ (l : Limits) (n : State) (few : l.media_ids ≤ most_media_ids) (fewer : l.control_ids ≤ most_control_ids) (some_sections : l.sections ≤ most_sections)
    (f : TablesFit l n) (b : List ℕ) (long : state_size ≤ length b) where
  abbrev kept : List (ℕ × Kept)
  kept = n.store.kept

  pub used_fits : Fit (used_fields (used_for n))
  used_fits = (omega (arith, f.media), (omega (arith, f.controls), (omega (arith, f.sections), tt)))

  abbrev b1 : List ℕ
  b1 = with_used (used_for n) b

  abbrev b2 : List ℕ
  b2 = with_sections kept b1

  length_1 : length b1 ≡ length b
  length_1 =
      let e : length (written (used_fields (used_for n))) ≡ 12 = length_written (used_fields (used_for n)) in
      length_over used_place (written (used_fields (used_for n))) b (omega arith)

  rows_within : section_places + length (section_rows kept) ≤ length b
  rows_within = omega (arith, length_rows kept, f.sections)

  length_2 : length b2 ≡ length b
  length_2 = length_over section_places (section_rows kept) b1 (omega (arith, length_1, rows_within)) ∙ length_1

  abbrev counts : List ℕ
  counts = written (counters_fields n.counters)

  length_counts : length counts ≡ 96
  length_counts = length_written (counters_fields n.counters)

  pub length_tables : length (state_of_tables n b) ≡ length b
  length_tables = length_over counters_place counts b2 (omega (arith, length_2, length_counts)) ∙ length_2

  abbrev us : List ℕ
  us = written (used_fields (used_for n))

  length_us : length us ≡ 12
  length_us = length_written (used_fields (used_for n))

  pub limits_tables : limits_of (state_of_tables n b) ≡ limits_of b
  limits_tables =
      apart limits_of 0 57 limits_own counters_place counts b2 (inl (omega arith)) (omega (arith, length_2, length_counts))
      ∙ apart limits_of 0 57 limits_own section_places (section_rows kept) b1 (inl (omega arith)) (omega (arith, length_1, rows_within))
      ∙ apart limits_of 0 57 limits_own used_place us b (inl (omega arith)) (omega (arith, length_us))

  pub latest_tables : latest_of (state_of_tables n b) ≡ latest_of b
  latest_tables =
      apart latest_of latest_place 10 latest_own counters_place counts b2 (inl (omega arith)) (omega (arith, length_2, length_counts))
      ∙ apart latest_of latest_place 10 latest_own section_places (section_rows kept) b1 (inl (omega arith)) (omega (arith, length_1, rows_within))
      ∙ apart latest_of latest_place 10 latest_own used_place us b (inr (omega (arith, length_us))) (omega (arith, length_us))

  pub time_tables : time_of (state_of_tables n b) ≡ time_of b
  time_tables =
      apart time_of time_place 9 time_own counters_place counts b2 (inl (omega arith)) (omega (arith, length_2, length_counts))
      ∙ apart time_of time_place 9 time_own section_places (section_rows kept) b1 (inl (omega arith)) (omega (arith, length_1, rows_within))
      ∙ apart time_of time_place 9 time_own used_place us b (inr (omega (arith, length_us))) (omega (arith, length_us))

  pub counters_tables : counters_of (state_of_tables n b) ≡ n.counters
  counters_tables = counters_back n.counters b2 f.counters (omega (arith, length_2))

  used_2 : used_of b2 ≡ used_for n
  used_2 =
      used_apart section_places (section_rows kept) b1 (inl (omega arith)) (omega (arith, length_1, rows_within))
      ∙ used_back (used_for n) b used_fits long

  pub used_tables : used_of (state_of_tables n b) ≡ used_for n
  used_tables = used_apart counters_place counts b2 (inl (omega arith)) (omega (arith, length_2, length_counts)) ∙ used_2

  -- media and control places
  pub others_tables : {A : Type 0} (o : Sort A) → o.count (used_for n) ≤ o.places → media_places ≤ o.at → o.at + o.width * o.places ≤ section_places
      → in_use o (state_of_tables n b) ≡ in_use o b1
  others_tables o c h k =
      let q : used_of b1 ≡ used_for n = used_back (used_for n) b used_fits long in
      place_apart o b2 (omega (arith, length_2)) (rw used_2 c) counters_place counts (inl (omega arith)) (inl (omega (arith, length_counts)))
      (omega (arith, length_2, length_counts))
      ∙ place_apart o b1 (omega (arith, length_1)) (rw q c) section_places (section_rows kept) (inl (omega arith)) (inr k) (omega (arith, length_1, rows_within))

  sections_2 : in_use sections b2 ≡ map kept_place kept
  unfolding over
  sections_2 =
      let e : length (take section_places b1) ≡ section_places = length-take-le section_places b1 (omega (arith, length_1)) in
      let r = rows_read l.table_area kept (take section_places b1) (drop (length (section_rows kept)) (drop section_places b1)) f.kept in
      ap (λ (x : Used). map section_place_of (places_from x.sections section_size section_places b2)) used_2 ∙ rw e at r

  pub sections_tables : sections_in (state_of_tables n b) ≡ map kept_place kept
  sections_tables =
      sym (named.sections (state_of_tables n b))
      ∙ place_apart sections b2 (omega (arith, length_2)) (rw used_2 (omega (arith, f.sections))) counters_place counts (inl (omega arith))
      (inl (omega (arith, length_counts))) (omega (arith, length_2, length_counts))
      ∙ sections_2

-- PLT and TOT
module _ (s : KeptTables) (area : ℕ) (small : area ≤ most_table_area) (p : table_length s.plt ≤ area) (t : table_length s.tot ≤ area) (b : List ℕ) (long : state_size ≤ length b) where
  abbrev fields : List ℕ
  fields = written (latest_fields (latest_for s))

  length_latest : length fields ≡ 10
  length_latest = length_written (latest_fields (latest_for s))

  pub long_latest : length (with_latest s b) ≡ length b
  long_latest = length_over latest_place fields b (omega (arith, length_latest))

  latest_fits : Fit (latest_fields (latest_for s))
  unfolding latest_for
  latest_fits = (flag_small (is_some s.plt), (omega arith, (flag_small (is_some s.tot), (omega arith, tt))))

  pub latest_read : latest_of (with_latest s b) ≡ latest_for s
  latest_read = latest_back (latest_for s) b latest_fits long

  pub limits_latest : limits_of (with_latest s b) ≡ limits_of b
  limits_latest = apart limits_of 0 57 limits_own latest_place fields b (inl (omega arith)) (omega (arith, length_latest))

  pub time_latest : time_of (with_latest s b) ≡ time_of b
  time_latest = apart time_of time_place 9 time_own latest_place fields b (inr (omega (arith, length_latest))) (omega (arith, length_latest))

  pub counters_latest : counters_of (with_latest s b) ≡ counters_of b
  counters_latest = apart counters_of counters_place 96 counters_own latest_place fields b (inr (omega (arith, length_latest))) (omega (arith, length_latest))

  pub places_latest : {A : Type 0} (o : Sort A) → o.count (used_of b) ≤ o.places → media_places ≤ o.at → in_use o (with_latest s b) ≡ in_use o b
  places_latest o c h = place_apart o b long c latest_place fields (inl (omega arith)) (inl (omega (arith, length_latest))) (omega (arith, length_latest))
