-- Sections that a sender which conforms to ARIB STD-B60 puts into messages are told from their bytes, and kept. Assumes nothing.
use Rattle.std.specs.Prelude.{Some}
use Rattle.std.proofs.Common.{◌≡◌, ℕ, ◌+◌, ◌%◌, ◌^◌, ◌<◌, ◌≤◌, true, eqb, leb, List, ◌++◌, length, get_or, refl, arith, length-append, take_all, le-ltb, eq-eqb, ne_eqb, leb-false}
use borrow.Author.Tests.{lt-leb, eqb-false}
use Rattle.isdb_tlv.proofs.Guards.{either}
use Rattle.isdb_tlv.specs.Bytes.{be}
use Rattle.isdb_tlv.specs.Crc.{feed, feed_byte, crc_of}
use Rattle.isdb_tlv.specs.Fields.{bytes_of, Field, written, Fit}
use Rattle.isdb_tlv.proofs.Fields.{length_written}
use Rattle.isdb_mmt.specs.Decoder.Maps.{find}
use Rattle.isdb_mmt.specs.Decoder.Packet.{Bytes}
use Rattle.isdb_mmt.specs.Decoder.Kept.{body_read, body, section_of, declared_section, table_by_id, table_read, a_section, other_version, keep_if}
use Rattle.isdb_mmt.specs.Decoder.Kept.{keep, KeptTables, stored, stored_all}
use Rattle.isdb_mmt.specs.Standards.StdB60.{Header, section_header_fields, section_sent, HeaderConforming}
use Rattle.isdb_mmt.specs.Standards.StdB60Sections.{eit_body_sent, sdt_body_sent, bit_body_sent}
use Rattle.isdb_mmt.proofs.Maps.{find_put}
use Rattle.isdb_mmt.proofs.BytesAt.{FoundAt, located_first, located_front, field_read, byte_read}
use Rattle.isdb_mmt.proofs.StdB60.{sections, with_crc_length}
use Rattle.isdb_mmt.proofs.StdB60Sections.{eit, sdt, bit}
use Rattle.isdb_mmt.specs.Standards.StdB60KeptSections.{sent_key, sent_section, Recognized, EitRecognized, SdtRecognized, BitRecognized}
use Rattle.isdb_mmt.specs.Standards.StdB60KeptSections.{SectionKept, sdt_witness, sdt_payload, sdt_payload_bytes, SdtWitness}
use Rattle.isdb_mmt.specs.Standards.StdB60Messages.{control_sent}

-- of the ids 8Bh to A0h all but 9Ch and 9Eh are those of sections
by_key : (id : ℕ) (s : Bytes) → 0x8B ≤ id → id ≤ 0xA0 → (id ≡ 0x9C → ⊥) → (id ≡ 0x9E → ⊥) → 7 ≤ length s
    → table_by_id id s ≡ a_section (section_of s)
unfolding table_by_id
by_key id s from to not9C not9E long =
    rw (le-ltb id 0x11 (omega arith), lt-leb id 0x20 (omega arith), ne_eqb id 0x80 (λ z. omega arith), ne_eqb id 0xA1 (λ z. omega arith))
    (rw (le-ltb id 0x8B from, le-ltb (length s) 7 long)
    (either (leb id 0x9B) (λ y. rw y) (λ n.
    let above = leb-false id 0x9B n in
    rw n (either (eqb id 0x9D) (λ y. rw y) (λ n1.
    let not9D = eqb-false id 0x9D n1 in
    rw n1 (either (eqb id 0x9F) (λ y. rw y) (λ n2.
    let not9F = eqb-false id 0x9F n2 in
    rw (n2, eq-eqb id 0xA0 (omega arith)))))))))

module _ (h : Header) (c : HeaderConforming h) (b : Bytes) (short : length b + 9 < 2 ^ 12) where
  abbrev fs : List Field
  fs = section_header_fields h (length b)

  abbrev s : Bytes
  s = section_sent h b

  header_found : FoundAt s 0 (written fs)
  unfolding section_sent
  header_found = located_front (written fs) b (located_first (written fs ++ b) (bytes_of 4 (crc_of (written fs ++ b))))

  header_fit : Fit fs
  header_fit = omega arith

  section_size_lem : length s ≡ length b + 12
  unfolding section_sent
  section_size_lem = rw (with_crc_length (written fs ++ b), length-append (written fs) b, length_written fs) (omega arith)

  section_id : get_or s 0 0 ≡ h.table_id
  section_id = byte_read fs header_fit header_found 0 refl

  section_declared : declared_section s ≡ s
  section_declared =
      let len : be 2 s 1 % 4096 ≡ length b + 9 = rw (field_read fs header_fit header_found 1) (omega arith) in
      rw len (take_all (length b + 9 + 3) s (omega (arith, section_size_lem)))

  -- a section whose body is read
  section_read_lem : body_read h.table_id s ≡ body true 0 → section_of s ≡ sent_section h b
  unfolding section_of
  section_read_lem e =
      let extension : be 2 s 3 ≡ h.extension = field_read fs header_fit header_found 2 in
      let number : get_or s 6 0 ≡ h.number = byte_read fs header_fit header_found 4 refl in
      let id = section_id in
      rw ((sections h c b short).header, section_declared, id, extension, number, e)

  -- and whose id is one of those that are kept by key
  long_table_lem : 0x8B ≤ h.table_id → h.table_id ≤ 0xA0 → (h.table_id ≡ 0x9C → ⊥) → (h.table_id ≡ 0x9E → ⊥)
      → body_read h.table_id s ≡ body true 0 → Recognized h b
  unfolding table_read
  long_table_lem from to not9C not9E e =
      let size = section_size_lem in
      rw (ne_eqb (length s) 0 (λ z. omega arith), section_id, by_key h.table_id s from to not9C not9E (omega arith), section_read_lem e)

pub eit_recognized : EitRecognized
unfolding body_read
eit_recognized t c from to =
    let id = t.header.table_id in
    long_table_lem t.header c.header (eit_body_sent t) c.short from (omega arith) (λ z. omega arith) (λ z. omega arith)
    (rw (ne_eqb id 0x9D (λ z. omega arith), ne_eqb id 0x9F (λ z. omega arith), ne_eqb id 0xA0 (λ z. omega arith))
    (rw (ne_eqb id 0x40 (λ z. omega arith), ne_eqb id 0x41 (λ z. omega arith), ne_eqb id 0xFE (λ z. omega arith), (eit t c).section)))

pub sdt_recognized : SdtRecognized
unfolding body_read
sdt_recognized t c from to =
    let id = t.header.table_id in
    long_table_lem t.header c.header (sdt_body_sent t) c.short (omega arith) to (λ z. omega arith) (λ z. omega arith)
    (rw (ne_eqb id 0x9D (λ z. omega arith), (sdt t c).section)
    (either (eqb id 0x9F)
    (λ y. rw y)
    (λ n. let o = eqb-false id 0x9F n in rw (n, eq-eqb id 0xA0 (omega arith)))))

pub bit_recognized : BitRecognized
unfolding body_read
bit_recognized t c is =
    long_table_lem t.header c.header (bit_body_sent t) c.short (omega arith) (omega arith) (λ z. omega arith) (λ z. omega arith)
    (rw (eq-eqb t.header.table_id 0x9D is, (bit t c).section))

-- a section of another version than the kept one's
store_one : (st : KeptTables) (h : Header) (b : Bytes) → other_version (find (sent_key h) st.kept) h.version ≡ true
    → find (sent_key h) (stored st (a_section (sent_section h b))).kept ≡ Some (record { version = h.version; bytes = section_sent h b })
unfolding stored keep keep_if
store_one st h b other = rw (other, find_put)

pub section_kept : SectionKept
unfolding stored_all
section_kept h b r c all id xs pushes s other = rw (pushes.store s, all, r) (store_one s.store h b other)

pub sdt_witness_lem : SdtWitness sdt_witness sdt_payload sdt_payload_bytes
unfolding control_sent section_sent bytes_of crc_of feed feed_byte
sdt_witness_lem = record { table = omega arith; payload = omega arith; bytes = refl }
