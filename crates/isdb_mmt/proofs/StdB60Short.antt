-- What a sender that conforms to ARIB STD-B60 writes of the AMT and the MH-TOT is read right. Assumes nothing.
use Rattle.std.specs.Prelude.{Some}
use Rattle.std.proofs.Common.{◌≡◌, ℕ, ◌+◌, ◌-◌, ◌*◌, ◌/◌, ◌%◌, ◌<◌, List, [], ◌∷◌, ◌++◌, map, length, take, refl, add-zero, arith, length-append, take_all, le-ltb}
use Rattle.isdb_tlv.specs.Guards.{◌=?◌}
use Rattle.isdb_tlv.specs.Bytes.{be}
use Rattle.isdb_tlv.specs.Crc.{crc_of}
use Rattle.isdb_tlv.specs.Fields.{bytes_of, Field, field, bits, packed, written, Fit}
use Rattle.isdb_tlv.proofs.Fields.{be_one, size, field_at, offset_of, length_written}
use Rattle.isdb_mmt.specs.Formats.Part.{part_at, part_of}
use Rattle.isdb_mmt.specs.Formats.Section.{length12}
use Rattle.isdb_mmt.specs.Formats.Amt.{address_size, flow_of, service_at, services_from, services_whole, amt_body, amt_of}
use Rattle.isdb_mmt.specs.Formats.Tot.{tot_of, tot_fields as tot_behind}
use Rattle.isdb_mmt.specs.Standards.StdB60.{loop_sent}
use Rattle.isdb_mmt.specs.Standards.StdB60Sections.{All}
use Rattle.isdb_mmt.specs.Standards.StdB60Tables.{Flow, flow4, flow6, flow_fields, is_ipv6, SentFlow, flow_loop, flow_sent, flows_sent, FlowConforming, flow_seen, SentAmt, amt_body_sent, AmtTheorem}
use Rattle.isdb_mmt.specs.Standards.StdB60Tables.{SentTot, tot_fields, tot_sent, TotConforming, TotTheorem}
use Rattle.isdb_mmt.proofs.StdB60.{loop_whole, with_crc_lem, with_crc_length, sections}
use Rattle.isdb_mmt.proofs.BytesAt.{FoundAt, located_whole, located_first, located_part, located_drop, located_within, located_front, located_rest, field_read, first_read}

-- AMT: the addresses of a service
ipv6_bit : (f : Flow) → is_ipv6 f < 2
ipv6_bit (flow4 s sm d dm) = omega arith
ipv6_bit (flow6 sh sl sm dh dl dm) = omega arith

flow_size : (f : Flow) → size (flow_fields f) ≡ address_size (is_ipv6 f =? 1) * 2 + 2
flow_size (flow4 s sm d dm) = refl
flow_size (flow6 sh sl sm dh dl dm) = refl

-- what stands in them, by index of the field, is what is seen
flow_told_lem : (x : SentFlow) (f : Flow) (s : List ℕ)
    → ((k : ℕ) → be (field_at k (flow_fields f)).width s (0 + offset_of k (flow_fields f)) ≡ (field_at k (flow_fields f)).value)
    → flow_of s x.service_id (address_size (is_ipv6 f =? 1)) (is_ipv6 f =? 1) ≡ flow_seen x f
flow_told_lem x (flow4 a am d dm) s of = rw (be_one s 4, be_one s 9, of 0, of 1, of 2, of 3)
flow_told_lem x (flow6 ah al am dh dl dm) s of = rw (be_one s 16, be_one s 33, of 0, of 1, of 2, of 3, of 4, of 5)

-- a service that stands at `at`
abbrev flow_word : SentFlow → ℕ
flow_word x = packed (bits 1 (is_ipv6 x.flow) ∷ bits 5 x.reserved ∷ bits 10 (length (flow_loop x)) ∷ [])

abbrev flow_head : SentFlow → List Field
flow_head x = field 2 x.service_id ∷ field 2 (flow_word x) ∷ []

flow_length : (x : SentFlow) → length (flow_sent x) ≡ 4 + length (flow_loop x)
flow_length x = rw (length-append (written (flow_head x)) (flow_loop x), length_written (flow_head x))

flow_step : {s : List ℕ} {at : ℕ} (x : SentFlow) → FlowConforming x → FoundAt s at (flow_sent x)
    → service_at s at ≡ Some (flow_seen x x.flow, at + length (flow_sent x))
unfolding service_at
flow_step {s} {at} x c h =
    let n = length (flow_loop x) in
    let bit = ipv6_bit x.flow in
    let fits : Fit (flow_head x) = omega arith in
    let head = located_front (written (flow_head x)) (flow_loop x) h in
    let loop = located_rest (written (flow_head x)) (flow_loop x) h (length_written (flow_head x)) in
    let long = located_within (flow_sent x) h in
    let whole = flow_length x in
    let holds : n ≡ size (flow_fields x.flow) + length x.private = rw (length-append, length_written (flow_fields x.flow)) in
    let wide = flow_size x.flow in
    let id : be 2 s at ≡ x.service_id = first_read (flow_head x) fits head in
    let word : be 2 s (at + 2) ≡ flow_word x = rw add-zero at (field_read (flow_head x) fits head 1) in
    let version : flow_word x / 32768 ≡ is_ipv6 x.flow = omega arith in
    let len : flow_word x % 1024 ≡ n = omega arith in
    let of =
    field_read (flow_fields x.flow) c.flow
    (located_front (written (flow_fields x.flow)) x.private (located_first (flow_loop x) loop.behind)) in
    let next : at + length (flow_sent x) ≡ at + 4 + n = omega arith in
    rw (word, version, len, id, located_drop (flow_loop x) loop, flow_told_lem x x.flow (flow_loop x ++ loop.behind) of, next)
    (rw (le-ltb (length s - at) 4 (omega arith), le-ltb (length s - (at + 4)) n (omega arith))
    (rw (le-ltb n (address_size (is_ipv6 x.flow =? 1) * 2 + 2) (omega arith))))

flows_read : {s : List ℕ} {at : ℕ} (xs : List SentFlow) → All FlowConforming xs → FoundAt s at (flows_sent xs)
    → services_from (length xs) s at ≡ Some (map (λ x. flow_seen x x.flow) xs)
flows_read [] c h = refl
flows_read {s = s} {at = at} (x ∷ xs) c h =
    rw (
      flow_step x c.0 (located_front (flow_sent x) (flows_sent xs) h),
      flows_read {at = at + length (flow_sent x)} xs c.1 (located_rest (flow_sent x) (flows_sent xs) h refl),
    )

abbrev amt_head : SentAmt → List Field
amt_head t = field 2 (packed (bits 10 (length t.services) ∷ bits 6 t.reserved ∷ [])) ∷ []

pub amt : AmtTheorem
unfolding amt_of amt_body services_whole
amt t c =
    let s = amt_body_sent t in
    let n = length t.services in
    let r = sections t.header c.header s c.short in
    let whole = located_first (written (amt_head t)) (flows_sent t.services) in
    let fits : Fit (amt_head t) = omega (arith, c.few, c.reserved) in
    let word = first_read (amt_head t) fits whole in
    let count : be 2 s 0 / 64 ≡ n = rw word (omega (arith, c.few, c.reserved)) in
    let long = length-append (written (amt_head t)) (flows_sent t.services) in
    let services =
    flows_read t.services c.services
    (located_rest (written (amt_head t)) (flows_sent t.services) (located_whole s) (length_written (amt_head t))) in
    record {
      section =
          rw (r.header, r.content, le-ltb (length s) 2 (omega (arith, length_written (amt_head t))), count, services);
      services = services;
    }

-- MH-TOT
module _ (t : SentTot) (c : TotConforming t) where
  abbrev loop : List ℕ
  loop = loop_sent t.descriptors

  abbrev message : List ℕ
  message = written (tot_fields t) ++ loop

  tot_message : length message ≡ length loop + 10
  tot_message = rw (length-append, length_written (tot_fields t)) (omega arith)

  tot_length_lem : length (tot_sent t) ≡ length loop + 14
  unfolding tot_sent
  tot_length_lem = rw (with_crc_length message, tot_message) (omega arith)

  tot_crc : crc_of (take (length loop + 14) (tot_sent t)) ≡ 0
  unfolding tot_sent
  tot_crc = with_crc_lem message (length loop + 14) (omega (arith, tot_message))

  tot_located : FoundAt (tot_sent t) 0 message
  unfolding tot_sent
  tot_located = located_first message (bytes_of 4 (crc_of message))

  tot_fits : Fit (tot_fields t)
  tot_fits = omega arith

  tot_field : (k : ℕ) → be (field_at k (tot_fields t)).width (tot_sent t) (0 + offset_of k (tot_fields t)) ≡ (field_at k (tot_fields t)).value
  tot_field = field_read (tot_fields t) tot_fits (located_front (written (tot_fields t)) loop tot_located)

  tot_loop : part_of (tot_sent t) (part_at 10 (length loop)) ≡ loop
  tot_loop = located_part loop (located_rest (written (tot_fields t)) loop tot_located (length_written (tot_fields t)))

pub tot : TotTheorem
unfolding tot_of tot_behind
tot t c =
    let s = tot_sent t in
    let n = length (loop_sent t.descriptors) in
    let long = tot_length_lem t c in
    let len : length12 s 1 ≡ n + 11 = rw (tot_field t c 1) (omega arith) in
    let all : n + 11 + 3 ≡ n + 14 = omega arith in
    let size : length12 s 8 ≡ n = rw (tot_field t c 3) (omega arith) in
    record {
      section =
          rw (le-ltb (length s) 3 (omega arith), len)
          (rw (le-ltb (n + 11) 11 (omega arith), all, le-ltb (length s) (n + 14) (omega arith), tot_crc t c)
          (rw (take_all (n + 14) s (omega arith), size)
          (rw (le-ltb (length s) (n + 10) (omega arith), tot_field t c 2, tot_loop t c, loop_whole t.descriptors c.descriptors))));
      descriptors = tot_loop t c;
    }
