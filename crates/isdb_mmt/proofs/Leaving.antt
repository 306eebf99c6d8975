-- What the commit of a walk stores is the model's next state, laid out. Assumes nothing.
use Rattle.std.specs.Prelude.{is_some, Option, None, Some}
use Rattle.std.proofs.Common.{◌≡◌, ℕ, zero, suc, ◌+◌, ◌*◌, ◌/◌, ◌%◌, ◌<◌, ◌≤◌, eqb, List, [], ◌∷◌, ◌++◌, map, length, get_or, take, drop, sym, refl, ap, ◌∙◌, append-nil, zero-add, arith, length-drop, get_or-drop, take_all, take-suc, drop-drop, take-add}
use borrow.Author.Tests.{eqb-false}
use Rattle.isdb_tlv.specs.Bytes.{be}
use Rattle.isdb_tlv.specs.Fields.{bytes_of, written}
use Rattle.isdb_tlv.proofs.Guards.{either}
use Rattle.isdb_mmt.specs.Memory.Layout.{section_size}
use Rattle.isdb_mmt.specs.Decoder.Packet.{Bytes}
use Rattle.isdb_mmt.specs.Memory.Octets.{Octets}
use Rattle.isdb_mmt.specs.Memory.Lent.{part, places_from, indexed}
use Rattle.isdb_mmt.specs.Memory.Session.{section_place_of, section_fields}
use Rattle.isdb_mmt.specs.Memory.PlacesOf.{table_length}
use Rattle.isdb_mmt.specs.Pushes.Leaves.{section_rows}
use Rattle.isdb_mmt.specs.Pushes.TableOutcome.{index_of, recent_length}
use Rattle.isdb_mmt.specs.Pushes.PendingTables.{Logged, with_log, places_of, bytes_at, committed_entry, committed_recent, pending_of, committed_counters}
use Rattle.isdb_mmt.specs.Pushes.Commit.{EntryFits, AllFit}
use Rattle.isdb_mmt.specs.Pushes.Start.{counters_with}
use Rattle.isdb_mmt.specs.declared.decoder.section.KeptSection.{KeptSection}
use Rattle.isdb_mmt.specs.declared.decoder.table_outcome.Recent.{Recent}
use Rattle.isdb_mmt.specs.declared.decoder.walk.WalkState.{WalkState}
use Rattle.isdb_mmt.specs.Decoder.Kept.{with_table_counts}
use Rattle.isdb_mmt.specs.declared.decoder.counts.Counters.{Counters}
use Rattle.isdb_mmt.proofs.Lent.{length_part}
use Rattle.isdb_mmt.proofs.Limits.{areas_next}
use Rattle.isdb_mmt.proofs.Brief.{octets_part}
use Rattle.isdb_mmt.proofs.Applied.{log_places}
use Rattle.isdb_mmt.proofs.Logging.{StandsIn}

-- ---- a place written again is what it was

-- a number's bytes are those that it was read from
be_bytes : (w at : ℕ) (l : List ℕ) → Octets l → at + w ≤ length l → bytes_of w (be w l at) ≡ part at w l
unfolding be bytes_of
be_bytes zero at l o h = refl
be_bytes (suc w) at l o h =
    let q : ℕ = be w l at in
    let x : ℕ = get_or l (at + w) 0 in
    let d : (q * 256 + x) / 256 ≡ q = omega (arith, o (at + w)) in
    let m : (q * 256 + x) % 256 ≡ x = omega (arith, o (at + w)) in
    let k : w < length (drop at l) = omega (arith, length-drop at l) in
    let e : bytes_of w q ≡ take w (drop at l) = be_bytes w at l o (omega arith) in
    rw (d, m, e) (sym (take-suc (drop at l) w 0 k ∙ ap (λ y. take w (drop at l) ++ (y ∷ [])) (get_or-drop at l w 0)))

place_again : (p : Bytes) → length p ≡ section_size → Octets p → written (section_fields (section_place_of p)) ≡ p
unfolding section_place_of
place_again p e o =
    let a : bytes_of 4 (be 4 p 0) ≡ part 0 4 p = be_bytes 4 0 p o (omega arith) in
    let b : bytes_of 1 (be 1 p 4) ≡ part 4 1 p = be_bytes 1 4 p o (omega arith) in
    let c : bytes_of 4 (be 4 p 5) ≡ part 5 4 p = be_bytes 4 5 p o (omega arith) in
    let d : part 4 1 p ++ part 5 4 p ≡ part 4 5 p =
    ap (λ (l : Bytes). part 4 1 p ++ take 4 l) (sym (drop-drop 1 4 p)) ∙ sym (take-add 1 4 (drop 4 p)) in
    (λ i. a i ++ (b i ++ (c i ++ [])))
    ∙ ap (λ (l : Bytes). part 0 4 p ++ (part 4 1 p ++ l)) (append-nil (part 5 4 p))
    ∙ ap (λ (l : Bytes). part 0 4 p ++ l) d
    ∙ sym (take-add 4 5 p)
    ∙ take_all 9 p (omega arith)

-- places one behind the other
abbrev pub flat : List KeptSection → Bytes
flat [] = []
flat (x ∷ xs) = written (section_fields x) ++ flat xs

pub flat_places : (ix : Bytes) → Octets ix → (n at : ℕ) → at + section_size * n ≤ length ix
    → flat (map section_place_of (places_from n section_size at ix)) ≡ part at (section_size * n) ix
unfolding places_from
flat_places ix o zero at h = refl
flat_places ix o (suc n) at h =
    let p : Bytes = part at section_size ix in
    let lp : length p ≡ section_size = length_part at section_size ix (omega arith) in
    let e : section_size + section_size * n ≡ section_size * suc n = omega arith in
    ap (λ (l : Bytes). l ++ flat (map section_place_of (places_from n section_size (at + section_size) ix))) (place_again p lp (octets_part at section_size ix o))
    ∙ ap (λ (l : Bytes). p ++ l) (flat_places ix o n (at + section_size) (omega arith))
    ∙ ap (λ (l : Bytes). p ++ take (section_size * n) l) (sym (drop-drop section_size at ix))
    ∙ sym (take-add section_size (section_size * n) (drop at ix))
    ∙ ap (λ k. part at k ix) e

-- ---- the places of what is kept

module _ (m t : Bytes) (area : ℕ) where
  entry_long : (i : ℕ) (e : Logged) → EntryFits area m e → (i + 1) * area ≤ length t
      → length (bytes_at m t (i * area) e.from e.place.length) ≡ e.place.length
  entry_long i e f w =
      either (eqb e.from 0)
      (λ q. rw q (length_part (i * area) e.place.length t (omega (arith, f.small))))
      (λ q. rw q (f.within (eqb-false e.from 0 q)))

  rows_of : (es : List Logged) (i : ℕ) → AllFit area m es → (i + length es) * area ≤ length t
      → section_rows (indexed (committed_entry m t area) i es) ≡ flat (places_of es)
  unfolding section_rows indexed
  rows_of [] i f w = refl
  rows_of (e ∷ es) i f w =
      let q = areas_next i (length es) area (length t) w in
      let n : length (bytes_at m t (i * area) e.from e.place.length) ≡ e.place.length = entry_long i e f.0 q.0 in
      ap (λ n. written (section_fields (record { key = e.place.key; version = e.place.version; length = n })) ++ section_rows (indexed (committed_entry m t area) (i + 1) es)) n
      ∙ ap (λ (l : Bytes). written (section_fields e.place) ++ l) (rows_of es (i + 1) f.1 q.1)

  pub rows_are : (ix log : List ℕ) → Octets ix → (used : ℕ) → section_size * used ≤ length ix → AllFit area m (with_log (index_of used ix) log)
      → used * area ≤ length t → length (with_log (index_of used ix) log) ≡ used
      → take (section_size * used) ix ≡ section_rows (indexed (committed_entry m t area) 0 (with_log (index_of used ix) log))
  unfolding index_of
  rows_are ix log o used h f w l =
      sym
      (rows_of (with_log (index_of used ix) log) 0 f (rw (l, zero-add used) w)
      ∙ ap flat (log_places (index_of used ix) log)
      ∙ flat_places ix o used 0 (omega arith))

  -- ---- an MPT, a PLT or a TOT

  pub recent_there : (i : ℕ) (r : Option Recent) → is_some r ≡ is_some (committed_recent m t (i * area) r)
  recent_there i None = refl
  recent_there i (Some r) = refl

  pub recent_long : (i : ℕ) (r : Option Recent) → (i + 1) * area ≤ length t → recent_length r ≤ area
      → StandsIn m r
      → recent_length r ≡ table_length (committed_recent m t (i * area) r)
  recent_long i None w small found_at = refl
  recent_long i (Some r) w small found_at =
      either (eqb r.from 0) (λ z. rw z (sym (length_part (i * area) r.length t (omega (arith, small)))))
      (λ z. rw z (sym (found_at (eqb-false r.from 0 z))))

-- ---- the counters

pub counters_are : (ix log others : List ℕ) (c : Counters) (r : WalkState) → r.message_malformed ≡ c.message_malformed
    → counters_with c r ≡ (committed_counters c (pending_of ix log others r))
counters_are ix log others c r e =
    ap (λ n. with_table_counts c r.tables r.crc_errors r.malformed r.version_changes n r.split_errors) e
