-- What a sender that conforms to ARIB STD-B60 writes of descriptor loops, locations and sections is read right. Assumes nothing.
use Rattle.std.specs.Prelude.{Ok, Some, None}
use Rattle.std.proofs.Common.{◌≡◌, ℕ, ◌+◌, ◌-◌, ◌*◌, ◌/◌, ◌%◌, ◌^◌, ◌<◌, ◌≤◌, leb, List, [], ◌∷◌, ◌++◌, map, length, get_or, take, refl, add-zero, arith, length-append, take_all, drop_at, le-ltb, lt-ltb, eq-eqb, ne_eqb, le-leb, leb-false, leb-true}
use borrow.Author.Tests.{lt-leb}
use Rattle.isdb_tlv.specs.Bytes.{be}
use Rattle.isdb_tlv.specs.Crc.{crc_of}
use Rattle.isdb_tlv.specs.Fields.{bytes_of, Field, field, bits, packed, written, Fit}
use Rattle.isdb_tlv.proofs.Guards.{either}
use Rattle.isdb_tlv.proofs.CrcLinear.{crc_closed}
use Rattle.isdb_tlv.proofs.Fields.{be_one, length_bytes_of, size, field_at, offset_of, length_written}
use Rattle.isdb_mmt.specs.Formats.Part.{part_at}
use Rattle.isdb_mmt.specs.Formats.Desc.{length_width_of, step_at, Split, split_from, split_of, broken}
use Rattle.isdb_mmt.specs.Formats.Location.{sized, url_of, location_of}
use Rattle.isdb_mmt.specs.Formats.Section.{length12, long_section_of}
use Rattle.isdb_mmt.specs.Standards.StdB60.{TagRange, tag_table, width_in, width_of}
use Rattle.isdb_mmt.specs.Standards.StdB60.{Descriptor, descriptor_sent, loop_sent, DescriptorConforming, LoopConforming, descriptor_in, LoopTheorem}
use Rattle.isdb_mmt.specs.Standards.StdB60.{SentLocation, same_flow, ipv4, ipv6, mpeg2_ts, mpeg2_ts_ipv6, url, location_fields, location_bytes, location_sent, LocationConforming, location_seen, LocationTheorem}
use Rattle.isdb_mmt.specs.Standards.StdB60.{Header, section_header_fields, with_crc, section_sent, HeaderConforming, header_seen, SectionTheorem}
use Rattle.isdb_mmt.specs.declared.desc.Step.TheVariants.{End, Raw}
use Rattle.isdb_mmt.proofs.Descriptors.{split_at}
use Rattle.isdb_mmt.proofs.BytesAt.{FoundAt, located_whole, located_first, located_part, located_within, located_front, located_rest, field_read, first_read, high_byte}

-- four bits and a length of 12
abbrev length_word : ℕ → ℕ → ℕ
length_word upper n = packed (bits 4 upper ∷ bits 12 n ∷ [])

abbrev pub length_field : ℕ → ℕ → List Field
length_field upper n = field 2 (length_word upper n) ∷ []

module _ {s : List ℕ} {at : ℕ} (upper n : ℕ) (fits : upper < 2 ^ 4) (short : n < 2 ^ 12) (h : FoundAt s at (written (length_field upper n))) where
  pub length_read : length12 s at ≡ n
  length_read = rw (first_read (length_field upper n) (omega arith) h) (omega arith)

  pub upper_read : get_or s at 0 / 16 ≡ upper
  upper_read = rw (high_byte (length_word upper n) (omega arith) h) (omega arith)

-- the table's lines one by one: a tag from the first of a line on is in it, or comes behind it
record Gives (rs : List TagRange) (tag w : ℕ) : Type 0 where
  width : w ≡ width_in rs tag

by_line : {r : TagRange} {rs : List TagRange} {tag w : ℕ} → r.first ≤ tag → (tag ≤ r.last → w ≡ r.width)
    → (r.last < tag → Gives rs tag w) → Gives (r ∷ rs) tag w
by_line {r} {rs} {tag} {w} h within behind =
    record {
      width =
          rw (le-leb r.first tag h)
          (either (leb tag r.last) (λ y. rw y (within (leb-true tag r.last y)))
          (λ n. rw n (behind (leb-false tag r.last n)).width));
    }

-- the width that is read is the table's
table_gives : (tag : ℕ) → tag < 2 ^ 16 → Gives tag_table tag (length_width_of tag)
unfolding length_width_of
table_gives tag h =
    by_line (omega arith) (λ l. rw (ne_eqb tag 2 (λ e. omega arith), lt-ltb tag 0x4000 (omega arith))) (λ a.
    by_line (omega arith) (λ l. rw (eq-eqb tag 2 (omega arith))) (λ b.
    let other = ne_eqb tag 2 (λ e. omega arith) in
    by_line (omega arith) (λ l. rw (other, lt-ltb tag 0x4000 (omega arith))) (λ c.
    let from4 = le-ltb tag 0x4000 (omega arith) in
    by_line (omega arith) (λ l. rw (other, from4, lt-ltb tag 0x7000 (omega arith))) (λ d.
    let from7 = le-ltb tag 0x7000 (omega arith) in
    by_line (omega arith) (λ l. rw (other, from4, from7, lt-ltb tag 0x8000 (omega arith))) (λ e.
    let from8 = le-ltb tag 0x8000 (omega arith) in
    by_line (omega arith) (λ l. rw (other, from4, from7, from8, lt-ltb tag 0xF000 (omega arith))) (λ f.
    by_line (omega arith) (λ l. rw (other, from4, from7, from8, le-ltb tag 0xF000 (omega arith))) (λ g. absurd (omega arith))))))))

width_read : (tag : ℕ) → tag < 2 ^ 16 → length_width_of tag ≡ width_of tag
unfolding width_of
width_read tag h = (table_gives tag h).width

-- a descriptor that stands at `at`
abbrev descriptor_fields : Descriptor → List Field
descriptor_fields d = field 2 d.tag ∷ field (width_of d.tag) (length d.content) ∷ []

descriptor_length : (d : Descriptor) → length (descriptor_sent d) ≡ 2 + width_of d.tag + length d.content
descriptor_length d = rw (length-append, length_written (descriptor_fields d)) (omega arith)

module _ {s : List ℕ} {at : ℕ} (d : Descriptor) (c : DescriptorConforming d) (h : FoundAt s at (descriptor_sent d)) where
  head_located : FoundAt s at (written (descriptor_fields d))
  head_located = located_front (written (descriptor_fields d)) d.content h

  descriptor_fits : Fit (descriptor_fields d)
  descriptor_fits = (c.tag, (c.short, tt))

  content_located : FoundAt s (at + 2 + width_of d.tag) d.content
  content_located =
      let e : at + (2 + (width_of d.tag + 0)) ≡ at + 2 + width_of d.tag = omega arith in
      rw e at (located_rest (written (descriptor_fields d)) d.content h (length_written (descriptor_fields d)))

  descriptor_step : step_at s at
      ≡ Raw d.tag (part_at (at + 2 + width_of d.tag) (length d.content)) (at + length (descriptor_sent d))
  unfolding step_at
  descriptor_step =
      let w = width_of d.tag in
      let n = length d.content in
      let long = located_within (descriptor_sent d) h in
      let size = descriptor_length d in
      let tag : be 2 s at ≡ d.tag = first_read (descriptor_fields d) descriptor_fits head_located in
      let len : be w s (at + 2) ≡ n = rw add-zero at (field_read (descriptor_fields d) descriptor_fits head_located 1) in
      let next : at + length (descriptor_sent d) ≡ at + 2 + w + n = omega arith in
      rw (lt-leb (length s) at (omega arith), le-ltb (length s - at) 2 (omega arith), tag, width_read d.tag c.tag)
      (rw (le-ltb (length s - (at + 2)) w (omega arith), len)
      (rw (le-ltb (length s - (at + 2 + w)) n (omega arith), next)))

-- the descriptors from a place on
pub record LoopAt (s : List ℕ) (ds : List Descriptor) (l : Split) : Type 0 where
  pub found : map (descriptor_in s) l.found ≡ ds
  pub whole : l.broke ≡ None

pub loop_at : (s : List ℕ) (at : ℕ) (ds : List Descriptor) → LoopConforming ds → FoundAt s at (loop_sent ds)
    → at + length (loop_sent ds) ≡ length s → LoopAt s ds (split_from s at)
unfolding step_at
loop_at s at [] c h e =
    let end : step_at s at ≡ End = rw (le-leb (length s) at (omega arith)) in
    rw (split_at s at, end) (record { found = refl; whole = refl })
loop_at s at (d ∷ ds) c h e =
    let here = located_front (descriptor_sent d) (loop_sent ds) h in
    let r = loop_at s (at + length (descriptor_sent d)) ds c.1 (located_rest (descriptor_sent d) (loop_sent ds) h refl)
    (omega (arith, length-append (descriptor_sent d) (loop_sent ds))) in
    let body = located_part d.content (content_located d c.0 here) in
    rw (split_at s at, descriptor_step d c.0 here)
    (record { found = rw (body, r.found); whole = r.whole })

pub loops : LoopTheorem
unfolding split_of
loops ds c =
    let r = loop_at (loop_sent ds) 0 ds c (located_whole (loop_sent ds)) (omega arith) in
    record { found = r.found; whole = r.whole }

-- so it does not count as broken
pub loop_whole : (ds : List Descriptor) → LoopConforming ds → broken (loop_sent ds) ≡ 0
loop_whole ds c = rw (loops ds c).whole

-- a location's fields
place_fits : (p : SentLocation) → LocationConforming p → Fit (location_fields p)
place_fits (same_flow id) c = omega arith
place_fits (ipv4 src dst port id) c = omega arith
place_fits (ipv6 sh sl dh dl port id) c = omega arith
place_fits (mpeg2_ts network ts pid) c = omega arith
place_fits (mpeg2_ts_ipv6 sh sl dh dl port pid) c = omega arith
place_fits (url b) c = omega arith

-- what stands in them, by index of the field, tells how the location is read
located_as : (p : SentLocation) (s : List ℕ) → size (location_fields p) + length (location_bytes p) ≤ length s
    → ((k : ℕ) → be (field_at k (location_fields p)).width s (0 + offset_of k (location_fields p)) ≡ (field_at k (location_fields p)).value)
    → location_of s ≡ Some (location_seen p, size (location_fields p) + length (location_bytes p))
unfolding location_of sized url_of
located_as (same_flow id) s long of =
    rw (le-ltb (length s) 1 (omega arith), be_one s 0, of 0, le-ltb (length s) 3 (omega arith), of 1)
located_as (ipv4 src dst port id) s long of =
    rw (le-ltb (length s) 1 (omega arith), be_one s 0, of 0, le-ltb (length s) 13 (omega arith), of 1, of 2, of 3, of 4)
located_as (ipv6 sh sl dh dl port id) s long of =
    rw (le-ltb (length s) 1 (omega arith), be_one s 0, of 0, le-ltb (length s) 37 (omega arith), of 1, of 2, of 3, of 4, of 5, of 6)
located_as (mpeg2_ts network ts pid) s long of =
    rw (le-ltb (length s) 1 (omega arith), be_one s 0, of 0, le-ltb (length s) 7 (omega arith), of 1, of 2, of 3)
located_as (mpeg2_ts_ipv6 sh sl dh dl port pid) s long of =
    rw (le-ltb (length s) 1 (omega arith), be_one s 0, of 0, le-ltb (length s) 37 (omega arith), of 5, of 6)
located_as (url b) s long of =
    let n : length b + 2 ≡ 2 + length b = omega arith in
    rw (le-ltb (length s) 1 (omega arith), be_one s 0, of 0, le-ltb (length s) 2 (omega arith), be_one s 1, of 1)
    (rw (n, le-ltb (length s) (2 + length b) (omega arith)))

place_length : (p : SentLocation) → length (location_sent p) ≡ size (location_fields p) + length (location_bytes p)
place_length p = rw (length-append, length_written (location_fields p))

pub places : LocationTheorem
places p c r =
    let s = location_sent p ++ r in
    let fields = located_front (written (location_fields p)) (location_bytes p) (located_first (location_sent p) r) in
    record {
      location =
          rw (place_length p)
          (located_as p s (omega (arith, place_length p, length-append (location_sent p) r)) (field_read (location_fields p) (place_fits p c) fields));
      rest = drop_at (location_sent p) r (length (location_sent p)) refl;
    }

-- bytes with their CRC behind them
pub with_crc_length : (m : List ℕ) → length (with_crc m) ≡ length m + 4
with_crc_length m = rw (length-append, length_bytes_of 4)

pub with_crc_lem : (m : List ℕ) (n : ℕ) → length m + 4 ≡ n → crc_of (take n (with_crc m)) ≡ 0
with_crc_lem m n e = rw (take_all n (with_crc m) (omega (arith, with_crc_length m))) (crc_closed m)

-- a section
module _ (h : Header) (c : HeaderConforming h) (body : List ℕ) (short : length body + 9 < 2 ^ 12) where
  abbrev message : List ℕ
  message = written (section_header_fields h (length body)) ++ body

  fields_located : FoundAt (section_sent h body) 0 (written (section_header_fields h (length body)))
  unfolding section_sent
  fields_located = located_front (written (section_header_fields h (length body))) body (located_first message (bytes_of 4 (crc_of message)))

  body_located : FoundAt (section_sent h body) 8 body
  unfolding section_sent
  body_located =
      located_rest (written (section_header_fields h (length body))) body (located_first message (bytes_of 4 (crc_of message)))
      (length_written (section_header_fields h (length body)))

  header_fits : Fit (section_header_fields h (length body))
  header_fits = omega arith

  of_header : (k : ℕ) → be (field_at k (section_header_fields h (length body))).width (section_sent h body) (0 + offset_of k (section_header_fields h (length body)))
      ≡ (field_at k (section_header_fields h (length body))).value
  of_header = field_read (section_header_fields h (length body)) header_fits fields_located

  section_length : length (section_sent h body) ≡ length body + 12
  unfolding section_sent
  section_length =
      rw (with_crc_length message, length-append, length_written (section_header_fields h (length body))) (omega arith)

  section_crc : crc_of (take (length body + 12) (section_sent h body)) ≡ 0
  unfolding section_sent
  section_crc =
      with_crc_lem message (length body + 12)
      (rw (length-append, length_written (section_header_fields h (length body))) (omega arith))

  section_header : long_section_of (section_sent h body) ≡ Ok (header_seen h (length body))
  unfolding long_section_of
  section_header =
      let s = section_sent h body in
      let n = length body in
      let len : be 2 s 1 % 4096 ≡ n + 9 = rw (of_header 1) (omega arith) in
      let all : n + 9 + 3 ≡ n + 12 = omega arith in
      let out : n + 9 - 9 ≡ n = omega arith in
      let flags : get_or s 5 0 ≡ h.reserved2 * 64 + h.version * 2 + h.current = rw (be_one s 5, of_header 3) (omega arith) in
      let version : get_or s 5 0 / 2 % 32 ≡ h.version = omega arith in
      let current : get_or s 5 0 % 2 ≡ h.current = omega arith in
      rw (le-ltb (length s) 3 (omega (arith, section_length)), len)
      (rw (le-ltb (n + 9) 9 (omega arith), all, le-ltb (length s) (n + 12) (omega (arith, section_length)), section_crc, out)
      (rw (version, current, be_one s 0, be_one s 6, be_one s 7, of_header 0, of_header 2, of_header 4, of_header 5)))

pub sections : SectionTheorem
sections h c body short =
    record { header = section_header h c body short; content = located_part body (body_located h c body short) }
