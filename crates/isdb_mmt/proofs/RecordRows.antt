-- Rows of records: what was written is read back. Assumes nothing.
use Rattle.std.specs.Prelude.{None, Option, Some, is_some, unwrap_or}
use Rattle.isdb_mmt.specs.declared.mpu.MfuHeader.{MfuHeader}
use Rattle.std.proofs.Common.{◌≡◌, ℕ, ◌+◌, ◌*◌, Bool, true, false, List, [], ◌∷◌, ◌++◌, map, length, take, drop, sym, refl, ap, ◌∙◌, append_assoc, arith, length-append, take_at}
use lib.Seq.{take-append_seam, drop-append_seam}
use Rattle.isdb_tlv.specs.Bytes.{be}
use Rattle.isdb_tlv.specs.Fields.{Fit}
use Rattle.isdb_tlv.proofs.Fields.{length_written}
use Rattle.isdb_mmt.specs.Memory.Lent.{part, over, flag_byte, places_from}
use Rattle.isdb_mmt.specs.Decoder.Objects.{Rec}
use Rattle.isdb_mmt.specs.Decoder.Needs.{data_of}
use Rattle.isdb_mmt.specs.Memory.View.{header_given, item_given}
use Rattle.isdb_mmt.specs.Formats.Mpu.{header_or}
use Rattle.isdb_mmt.specs.Pushes.Records.{object_for, row_fields, row_of, rows_from, data_from, bit_of, read_row, read_rows}
use Rattle.isdb_mmt.proofs.Stored.{Holds, holds_written}

-- the flags, bit by bit
flag_bits_lem : (a b c d : Bool) (n : ℕ) → n ≡ flag_byte a + 2 * flag_byte b + 4 * flag_byte c + 8 * flag_byte d
    → (bit_of n 1 ≡ a) × ((bit_of n 2 ≡ b) × ((bit_of n 4 ≡ c) × (bit_of n 8 ≡ d)))
flag_bits_lem true true true true n e = rw e (refl, (refl, (refl, refl)))
flag_bits_lem true true true false n e = rw e (refl, (refl, (refl, refl)))
flag_bits_lem true true false true n e = rw e (refl, (refl, (refl, refl)))
flag_bits_lem true true false false n e = rw e (refl, (refl, (refl, refl)))
flag_bits_lem true false true true n e = rw e (refl, (refl, (refl, refl)))
flag_bits_lem true false true false n e = rw e (refl, (refl, (refl, refl)))
flag_bits_lem true false false true n e = rw e (refl, (refl, (refl, refl)))
flag_bits_lem true false false false n e = rw e (refl, (refl, (refl, refl)))
flag_bits_lem false true true true n e = rw e (refl, (refl, (refl, refl)))
flag_bits_lem false true true false n e = rw e (refl, (refl, (refl, refl)))
flag_bits_lem false true false true n e = rw e (refl, (refl, (refl, refl)))
flag_bits_lem false true false false n e = rw e (refl, (refl, (refl, refl)))
flag_bits_lem false false true true n e = rw e (refl, (refl, (refl, refl)))
flag_bits_lem false false true false n e = rw e (refl, (refl, (refl, refl)))
flag_bits_lem false false false true n e = rw e (refl, (refl, (refl, refl)))
flag_bits_lem false false false false n e = rw e (refl, (refl, (refl, refl)))

pub header_back : (o : Option MfuHeader) → header_given (is_some o) (header_or o) ≡ o
header_back None = refl
header_back (Some h) = refl

pub item_back : (o : Option ℕ) → item_given (is_some o) (unwrap_or o 0) ≡ o
item_back None = refl
item_back (Some i) = refl

-- every number of a record's row fits its field
abbrev pub RowFits : Rec → ℕ → Type 0
RowFits r at = Fit (row_fields r.id r.scrambled (object_for r.mfu) at)

-- one row
pub row_back : (r : Rec) (at : ℕ) (given : List ℕ) → RowFits r at → part at (length r.mfu.bytes) given ≡ r.mfu.bytes
    → read_row given (row_of r at) ≡ r
unfolding read_row
row_back r at given f e =
    let o = object_for r.mfu in
    let h : Holds 0 (row_fields r.id r.scrambled o at) (row_of r at) = holds_written (row_fields r.id r.scrambled o at) f in
    let b = flag_bits_lem o.rap r.scrambled o.timed o.item (be 1 (row_of r at) 2) (h 1) in
    let eh : header_given (bit_of (be 1 (row_of r at) 2) 4) (record {
      movie_fragment_sequence_number = be 4 (row_of r at) 8;
      sample_number = be 4 (row_of r at) 12;
      offset = be 4 (row_of r at) 16;
      priority = be 1 (row_of r at) 20;
      dependency_counter = be 1 (row_of r at) 21;
    }) ≡ r.mfu.mfu =
    (λ i. header_given (b.1.1.0 i) (record {
      movie_fragment_sequence_number = h 4 i;
      sample_number = h 5 i;
      offset = h 6 i;
      priority = h 7 i;
      dependency_counter = h 8 i;
    })) ∙ header_back r.mfu.mfu in
    let ei : item_given (bit_of (be 1 (row_of r at) 2) 8) (be 4 (row_of r at) 24) ≡ r.mfu.item_id =
    (λ i. item_given (b.1.1.1 i) (h 10 i)) ∙ item_back r.mfu.item_id in
    let eb : part (be 4 (row_of r at) 28) (be 4 (row_of r at) 32) given ≡ r.mfu.bytes =
    (λ i. part (h 11 i) (h 12 i) given) ∙ e in
    λ i.
    record {
      id = h 0 i;
      scrambled = b.1.0 i;
      mfu = record { mpu = h 3 i; rap = b.0 i; mfu = eh i; item_id = ei i; bytes = eb i };
    }

-- all rows
abbrev pub AllFit : ℕ → List Rec → Type 0
AllFit at [] = Unit {0}
AllFit at (r ∷ rs) = RowFits r at × AllFit (at + length r.mfu.bytes) rs

pub length_row : (r : Rec) (at : ℕ) → length (row_of r at) ≡ 36
length_row r at = length_written (row_fields r.id r.scrambled (object_for r.mfu) at)

pub length_rows : (at : ℕ) (rs : List Rec) → length (rows_from at rs) ≡ 36 * length rs
unfolding rows_from
length_rows at [] = refl
length_rows at (r ∷ rs) =
    rw (length-append, length_row r at, length_rows (at + length r.mfu.bytes) rs) (omega arith)

pub length_data : (rs : List Rec) → length (data_from rs) ≡ data_of rs
unfolding data_from
length_data [] = refl
length_data (r ∷ rs) = rw (length-append, length_data rs)

-- with anything behind the rows, and anything before and behind the data
rows_at : (rs : List Rec) (pre x y before : List ℕ) → AllFit (length before) rs
    → map (read_row (before ++ (data_from rs ++ y))) (places_from (length rs) 36 (length pre) (pre ++ (rows_from (length before) rs ++ x))) ≡ rs
unfolding rows_from data_from places_from
rows_at [] pre x y before f = refl
rows_at (r ∷ rs) pre x y before f =
    let at : ℕ = length before in
    let d : List ℕ = r.mfu.bytes in
    let row : List ℕ = row_of r at in
    let rest : List ℕ = rows_from (at + length d) rs in
    let lr : length row ≡ 36 = length_row r at in
    let given : List ℕ = before ++ ((d ++ data_from rs) ++ y) in
    let eg : given ≡ (before ++ d) ++ (data_from rs ++ y) =
    ap (λ (z : List ℕ). before ++ z) (append_assoc d (data_from rs) y) ∙ sym (append_assoc before d (data_from rs ++ y)) in
    let ep : pre ++ ((row ++ rest) ++ x) ≡ (pre ++ row) ++ (rest ++ x) =
    ap (λ (z : List ℕ). pre ++ z) (append_assoc row rest x) ∙ sym (append_assoc pre row (rest ++ x)) in
    let lb : length (before ++ d) ≡ at + length d = length-append before d in
    let lp : length (pre ++ row) ≡ length pre + 36 = length-append pre row ∙ ap (λ n. length pre + n) lr in
    let e0 : part (length pre) 36 (pre ++ ((row ++ rest) ++ x)) ≡ row =
    ap (λ (z : List ℕ). take 36 z) (drop-append_seam pre ((row ++ rest) ++ x)) ∙ ap (λ (z : List ℕ). take 36 z) (append_assoc row rest x)
    ∙ take_at row (rest ++ x) 36 lr in
    let ed : part at (length d) given ≡ d =
    ap (λ (z : List ℕ). take (length d) z) (drop-append_seam before ((d ++ data_from rs) ++ y))
    ∙ ap (λ (z : List ℕ). take (length d) z) (append_assoc d (data_from rs) y) ∙ take-append_seam d (data_from rs ++ y) in
    let ih : map (read_row ((before ++ d) ++ (data_from rs ++ y)))
    (places_from (length rs) 36 (length (pre ++ row)) ((pre ++ row) ++ (rows_from (length (before ++ d)) rs ++ x))) ≡ rs =
    rows_at rs (pre ++ row) x y (before ++ d) (rw lb f.1) in
    let e1 : map (read_row given) (places_from (length rs) 36 (length pre + 36) (pre ++ ((row ++ rest) ++ x))) ≡ rs =
    rw (eg, ep) (rw (lb, lp) at ih) in
    let e2 : read_row given (part (length pre) 36 (pre ++ ((row ++ rest) ++ x))) ≡ r =
    ap (read_row given) e0 ∙ row_back r at given f.0 ed in
    cc

pub rows_back : (rs : List Rec) (rows given : List ℕ) → AllFit 0 rs
    → read_rows (length rs) (over 0 (rows_from 0 rs) rows) (over 0 (data_from rs) given) ≡ rs
unfolding read_rows over
rows_back rs rows given f =
    rows_at rs [] (drop (length (rows_from 0 rs)) rows) (drop (length (data_from rs)) given) [] f
