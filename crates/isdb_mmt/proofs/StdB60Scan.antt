-- Sections of TLV-SI as a sender that conforms to ARIB STD-B60 writes them are found by the scan. Assumes nothing.
use Rattle.std.specs.Prelude.{Some}
use Rattle.std.proofs.Common.{◌≡◌, ℕ, ◌+◌, ◌-◌, ◌*◌, ◌/◌, ◌%◌, true, List, [], ◌∷◌, ◌++◌, map, length, get_or, take, drop, refl, ◌∙◌, append-nil, arith, length-append, take_at, le-ltb}
use Rattle.isdb_tlv.specs.Bytes.{be}
use Rattle.isdb_tlv.specs.Crc.{feed, feed_byte, crc_of}
use Rattle.isdb_tlv.specs.Fields.{bytes_of, Field, field, bits, packed, written, Fit}
use Rattle.isdb_tlv.specs.Si.{is_tlv_si, whole_size, section_at, sections_from, sections_of, next_section_of}
use Rattle.isdb_tlv.proofs.Fields.{be_one, length_bytes_of, field_at, offset_of, length_written}
use Rattle.isdb_tlv.proofs.CrcLinear.{crc_closed}
use Rattle.isdb_tlv.proofs.Sections.{next_none, next_here, sections_step}
use Rattle.isdb_mmt.specs.Standards.StdB60.{section_header_fields, section_sent}
use Rattle.isdb_mmt.specs.Standards.StdB60Sections.{All}
use Rattle.isdb_mmt.proofs.BytesAt.{FoundAt, located_whole, located_drop, located_within, located_front, located_rest, field_read, first_read, high_byte}
use Rattle.isdb_mmt.proofs.StdB60.{with_crc_length}
use Rattle.isdb_mmt.specs.Standards.StdB60Scan.{Table, nit_actual, nit_other, amt, table_code, SentSection, bytes_sent, SectionConforming, control_sent}
use Rattle.isdb_mmt.specs.Standards.StdB60Scan.{section_seen, sections_seen, bytes_in, SectionTheorem, ControlTheorem, Examples}

table_known : (t : Table) → is_tlv_si (table_code t) ≡ true
unfolding is_tlv_si
table_known nit_actual = refl
table_known nit_other = refl
table_known amt = refl

-- a section that stands at `at`
module _ {s : List ℕ} {at : ℕ} (x : SentSection) (c : SectionConforming x) (h : FoundAt s at (bytes_sent x)) where
  abbrev fields : List Field
  fields = section_header_fields x.header (length x.body)

  abbrev message : List ℕ
  message = written fields ++ x.body

  abbrev length_word : ℕ
  length_word = packed (bits 1 1 ∷ bits 3 x.header.reserved ∷ bits 12 (length x.body + 9) ∷ [])

  fits : Fit fields
  fits = let k = c.header in let n = c.short in omega arith

  size : length (bytes_sent x) ≡ length x.body + 12
  unfolding section_sent
  size = rw (with_crc_length message, length-append, length_written fields) (omega arith)

  fields_found : FoundAt s at (written fields)
  unfolding section_sent
  fields_found = located_front (written fields) x.body (located_front message (bytes_of 4 (crc_of message)) h)

  of_header : (k : ℕ) → be (field_at k fields).width s (at + offset_of k fields) ≡ (field_at k fields).value
  of_header = field_read fields fits fields_found

  word_found : FoundAt s (at + 1) (written (field 2 length_word ∷ []))
  word_found =
      rw append-nil
      (located_front (bytes_of 2 length_word) _ (located_rest (bytes_of 1 x.header.table_id) _ fields_found (length_bytes_of 1 x.header.table_id)))

  whole : whole_size s at ≡ length (bytes_sent x)
  whole = let k = c.header in let n = c.short in rw (of_header 1, size) (omega arith)

  bytes_found : take (length (bytes_sent x)) (drop at s) ≡ bytes_sent x
  bytes_found = rw (located_drop (bytes_sent x) h) (take_at (bytes_sent x) h.behind (length (bytes_sent x)) refl)

  crc : crc_of (bytes_sent x) ≡ 0
  unfolding section_sent
  crc = crc_closed message

  section_here : section_at s at ≡ Some (section_seen at x)
  unfolding section_at
  section_here =
      let k = c.header in
      let n = c.short in
      let id : get_or s at 0 ≡ table_code x.table = be_one s at ∙ first_read fields fits fields_found ∙ c.table in
      let indicator : get_or s (at + 1) 0 ≡ length_word / 256 = high_byte length_word (omega arith) word_found in
      let flags : get_or s (at + 5) 0 ≡ x.header.reserved2 * 64 + x.header.version * 2 + x.header.current =
      be_one s (at + 5) ∙ of_header 3 ∙ omega arith in
      let version : get_or s (at + 5) 0 / 2 % 32 ≡ x.header.version = omega arith in
      let long = located_within (bytes_sent x) h in
      rw (id, table_known x.table, le-ltb (get_or s (at + 1) 0) 128 (omega arith), whole)
      (rw (le-ltb (length (bytes_sent x)) 12 (omega (arith, size)), le-ltb (length s - at) (length (bytes_sent x)) (omega arith))
      (rw (bytes_found, crc, of_header 2, version)))

  section_next : next_section_of s at ≡ Some (section_seen at x)
  section_next = next_here s at (omega (arith, size, located_within (bytes_sent x) h)) (section_seen at x) section_here

  section_rest : sections_from s at ≡ section_seen at x ∷ sections_from s (at + length (bytes_sent x))
  section_rest = sections_step s at ∙ rw section_next

pub section_found_lem : SectionTheorem
section_found_lem x c a r =
    let h : FoundAt (a ++ (bytes_sent x ++ r)) (length a) (bytes_sent x) = record { before = a; behind = r; place = refl; all = refl } in
    record { found = section_next x c h; bytes = bytes_found x c h; rest = section_rest x c h }

-- the sections from a place on, where nothing follows them
record ControlAt (s : List ℕ) (at : ℕ) (xs : List SentSection) : Type 0 where
  found : sections_from s at ≡ sections_seen at xs
  bytes : map (bytes_in s) (sections_seen at xs) ≡ map bytes_sent xs

control_at_lem : (s : List ℕ) (at : ℕ) (xs : List SentSection) → All SectionConforming xs → FoundAt s at (control_sent xs)
    → at + length (control_sent xs) ≡ length s → ControlAt s at xs
control_at_lem s at [] c h e = record { found = sections_step s at ∙ rw (next_none s at (omega arith)); bytes = refl }
control_at_lem s at (x ∷ xs) c h e =
    let here = located_front (bytes_sent x) (control_sent xs) h in
    let r = control_at_lem s (at + length (bytes_sent x)) xs c.1 (located_rest (bytes_sent x) (control_sent xs) h refl)
    (omega (arith, length-append (bytes_sent x) (control_sent xs))) in
    record {
      found = section_rest x c.0 here ∙ rw r.found;
      bytes = rw (bytes_found x c.0 here, r.bytes);
    }

pub control : ControlTheorem
unfolding sections_of
control xs c =
    let r = control_at_lem (control_sent xs) 0 xs c (located_whole (control_sent xs)) (omega arith) in
    record { found = r.found; bytes = rw r.found r.bytes }

pub scan_examples : Examples
unfolding section_sent bytes_of crc_of feed_byte feed
scan_examples = record { conform = (omega arith, (omega arith, (omega arith, tt))); bytes = refl }
