-- Section places and the areas of tables, written and read back. Assumes nothing.
use Rattle.std.specs.Prelude.{Option, None, Some, is_some}
use Rattle.std.proofs.Common.{◌≡◌, ℕ, ◌+◌, ◌*◌, ◌<◌, ◌≤◌, ◌⊎◌, List, [], ◌∷◌, ◌++◌, map, length, take, sym, refl, ap, ◌∙◌, inl, inr, ⊎_elim, append_assoc, add-zero, arith, length-append, take_at}
use lib.Seq.{drop-append_seam}
use Rattle.isdb_tlv.specs.Fields.{written, Fit}
use Rattle.isdb_tlv.proofs.Fields.{length_written}
use Rattle.isdb_mmt.specs.Standards.StdB60Sections.{All}
use Rattle.isdb_mmt.specs.Decoder.Packet.{Bytes}
use Rattle.isdb_mmt.specs.Decoder.Kept.{Kept}
use Rattle.isdb_mmt.specs.Memory.Layout.{section_size}
use Rattle.isdb_mmt.specs.Memory.Lent.{part, over, places_from, indexed}
use Rattle.isdb_mmt.specs.Memory.Session.{section_place_of, section_fields}
use Rattle.isdb_mmt.specs.Memory.View.{given}
use Rattle.isdb_mmt.specs.Memory.PlacesOf.{table_length}
use Rattle.isdb_mmt.specs.Pushes.Leaves.{kept_place, section_rows, bytes_over, kept_over}
use Rattle.isdb_mmt.specs.declared.decoder.section.KeptSection.{KeptSection}
use Rattle.isdb_mmt.proofs.Lent.{length_over, part_over}
use Rattle.isdb_mmt.proofs.Limits.{areas_next}
use Rattle.isdb_mmt.proofs.Stored.{section_back}
use Rattle.isdb_mmt.proofs.Views.{area_apart}

-- a kept section fits its place and its area
pub record SectionFits (area : ℕ) (e : ℕ × Kept) : Type 0 where
  pub fields : Fit (section_fields (kept_place e))
  pub short : length e.1.bytes ≤ area

abbrev pub AllKept : ℕ → List (ℕ × Kept) → Type 0
AllKept area es = All (SectionFits area) es

-- ---- places

pub length_rows : (es : List (ℕ × Kept)) → length (section_rows es) ≡ section_size * length es
unfolding section_rows
length_rows [] = refl
length_rows (e ∷ es) =
    let a : length (written (section_fields (kept_place e))) ≡ 9 = length_written (section_fields (kept_place e)) in
    rw (length-append, a, length_rows es) (omega arith)

pub rows_read : (area : ℕ) (es : List (ℕ × Kept)) (pre x : List ℕ) → AllKept area es
    → map section_place_of (places_from (length es) section_size (length pre) (pre ++ (section_rows es ++ x))) ≡ map kept_place es
unfolding section_rows places_from
rows_read area [] pre x f = refl
rows_read area (e ∷ es) pre x f =
    let row : List ℕ = written (section_fields (kept_place e)) in
    let rest : List ℕ = section_rows es in
    let lr : length row ≡ 9 = length_written (section_fields (kept_place e)) in
    let ep : pre ++ ((row ++ rest) ++ x) ≡ (pre ++ row) ++ (rest ++ x) =
    ap (λ (z : List ℕ). pre ++ z) (append_assoc row rest x) ∙ sym (append_assoc pre row (rest ++ x)) in
    let lp : length (pre ++ row) ≡ length pre + 9 = length-append pre row ∙ ap (λ n. length pre + n) lr in
    let e0 : part (length pre) 9 (pre ++ ((row ++ rest) ++ x)) ≡ row =
    ap (λ (z : List ℕ). take 9 z) (drop-append_seam pre ((row ++ rest) ++ x)) ∙ ap (λ (z : List ℕ). take 9 z) (append_assoc row rest x)
    ∙ take_at row (rest ++ x) 9 lr in
    let ih : map section_place_of (places_from (length es) 9 (length (pre ++ row)) ((pre ++ row) ++ (rest ++ x))) ≡ map kept_place es =
    rows_read area es (pre ++ row) x f.1 in
    let e1 : map section_place_of (places_from (length es) 9 (length pre + 9) (pre ++ ((row ++ rest) ++ x))) ≡ map kept_place es =
    rw ep (rw lp at ih) in
    let e2 : section_place_of (part (length pre) 9 (pre ++ ((row ++ rest) ++ x))) ≡ kept_place e =
    ap section_place_of e0 ∙ section_back (kept_place e) f.0.fields in
    cc

-- ---- one area, where there is something to lay

module _ (area : ℕ) (o : Option Bytes) (l : Bytes) (i : ℕ) (h : table_length o ≤ area) (w : (i + 1) * area ≤ length l) where
  pub length_laid : length (bytes_over (i * area) o l) ≡ length l
  length_laid = go o h
    where
      go : (o : Option Bytes) → table_length o ≤ area → length (bytes_over (i * area) o l) ≡ length l
      go None k = refl
      go (Some b) k = length_over (i * area) b l (omega arith)

  pub laid_apart : (j m : ℕ) → (j ≡ i → ⊥) → m ≤ area → part (j * area) m (bytes_over (i * area) o l) ≡ part (j * area) m l
  laid_apart j m ne b = go o h
    where
      go : (o : Option Bytes) → table_length o ≤ area → part (j * area) m (bytes_over (i * area) o l) ≡ part (j * area) m l
      go None k = refl
      go (Some c) k = rw (add-zero (i * area)) at (area_apart area l c i 0 (omega arith) w j m ne b)

  pub laid : given (is_some o) (part (i * area) (table_length o) (bytes_over (i * area) o l)) ≡ o
  laid = go o h
    where
      go : (o : Option Bytes) → table_length o ≤ area → given (is_some o) (part (i * area) (table_length o) (bytes_over (i * area) o l)) ≡ o
      go None k = refl
      go (Some b) k = ap Some (part_over (i * area) b l (omega arith))

-- ---- the areas of kept sections

module _ (area : ℕ) where
  pub length_kept : (es : List (ℕ × Kept)) (i : ℕ) (t : Bytes) → AllKept area es → (i + length es) * area ≤ length t
      → length (kept_over area i es t) ≡ length t
  unfolding kept_over
  length_kept [] i t f w = refl
  length_kept (e ∷ es) i t f w =
      let b : Bytes = e.1.bytes in
      let q = areas_next i (length es) area (length t) w in
      let n : length (over (i * area) b t) ≡ length t = length_over (i * area) b t (omega (arith, f.0.short)) in
      length_kept es (i + 1) (over (i * area) b t) f.1 (rw n q.1) ∙ n

  -- other areas keep their bytes
  pub kept_apart : (es : List (ℕ × Kept)) (i : ℕ) (t : Bytes) → AllKept area es → (i + length es) * area ≤ length t → (j m : ℕ)
      → (j < i) ⊎ (i + length es ≤ j) → m ≤ area → part (j * area) m (kept_over area i es t) ≡ part (j * area) m t
  unfolding kept_over
  kept_apart [] i t f w j m d h = refl
  kept_apart (e ∷ es) i t f w j m d h =
      let b : Bytes = e.1.bytes in
      let q = areas_next i (length es) area (length t) w in
      let n : length (over (i * area) b t) ≡ length t = length_over (i * area) b t (omega (arith, f.0.short)) in
      let ne : j ≡ i → ⊥ = λ q. ⊎_elim (λ x. omega arith) (λ x. omega arith) d in
      let a : part (j * area) m (over (i * area) b t) ≡ part (j * area) m t =
      rw (add-zero (i * area)) at (area_apart area t b i 0 (omega (arith, f.0.short)) (omega arith) j m ne h) in
      let d' : (j < i + 1) ⊎ (i + 1 + length es ≤ j) = ⊎_elim (λ x. inl (omega arith)) (λ x. inr (omega arith)) d in
      kept_apart es (i + 1) (over (i * area) b t) f.1 (rw n q.1) j m d' h ∙ a

  -- each lies in its area
  abbrev pub Lie : Bytes → ℕ → List (ℕ × Kept) → Type 0
  Lie t i [] = Unit {0}
  Lie t i (e ∷ es) = (part (i * area) (length e.1.bytes) t ≡ e.1.bytes) × Lie t (i + 1) es

  pub kept_lie : (es : List (ℕ × Kept)) (i : ℕ) (t : Bytes) → AllKept area es → (i + length es) * area ≤ length t → Lie (kept_over area i es t) i es
  unfolding kept_over
  kept_lie [] i t f w = tt
  kept_lie (e ∷ es) i t f w =
      let b : Bytes = e.1.bytes in
      let q = areas_next i (length es) area (length t) w in
      let n : length (over (i * area) b t) ≡ length t = length_over (i * area) b t (omega (arith, f.0.short)) in
      let w' : (i + 1 + length es) * area ≤ length (over (i * area) b t) = rw n q.1 in (
        kept_apart es (i + 1) (over (i * area) b t) f.1 w' i (length b) (inl (omega arith)) f.0.short
            ∙ part_over (i * area) b t (omega (arith, f.0.short)),
        kept_lie es (i + 1) (over (i * area) b t) f.1 w',
      )

  -- and stays there, whatever else is laid
  pub lie_on : (es : List (ℕ × Kept)) (i : ℕ) (t u : Bytes) → AllKept area es
      → ((j m : ℕ) → i ≤ j → j < i + length es → m ≤ area → part (j * area) m u ≡ part (j * area) m t) → Lie t i es → Lie u i es
  lie_on [] i t u f h a = tt
  lie_on (e ∷ es) i t u f h a = (
    h i (length e.1.bytes) (omega arith) (omega arith) f.0.short ∙ a.0,
    lie_on es (i + 1) t u f.1 (λ j m b c d. h j m (omega arith) (omega arith) d) a.1,
  )

  -- read with their places
  abbrev pub entry_in : Bytes → ℕ → KeptSection → ℕ × Kept
  entry_in t i x = (x.key, record { version = x.version; bytes = part (i * area) x.length t })

  pub lie_read : (es : List (ℕ × Kept)) (i : ℕ) (t : Bytes) → Lie t i es → indexed (entry_in t) i (map kept_place es) ≡ es
  unfolding indexed
  lie_read [] i t a = refl
  lie_read (e ∷ es) i t a =
      let q : entry_in t i (kept_place e) ≡ e = λ k. (e.0, record { version = e.1.version; bytes = a.0 k }) in
      let r : indexed (entry_in t) (i + 1) (map kept_place es) ≡ es = lie_read es (i + 1) t a.1 in
      cc
