-- What a sender that conforms to RFC 791 writes is read right. Assumes nothing.
use Rattle.std.specs.Prelude.{None, Some}
use Prim.Native.Nat.{ℕ, ◌+◌, ◌-◌, ◌*◌, ◌≤◌}
use mathlib.Core.Path.{◌≡◌, ◌∙◌}
use mathlib.Core.List.{◌++◌, append_assoc}
use mathlib.Core.Bool.{false}
use native.Mathlib.Nat.{add-zero}
use native.Mathlib.Omega.{arith}
use lib.Dec.{ltb}
use lib.ListN.{length, get_or, drop, length-append}
use lib.Seq.{drop_at}
use borrow.Author.Tests.{le-ltb, eq-eqb}
use Rattle.isdb_tlv.specs.Bytes.{be}
use Rattle.isdb_tlv.specs.Fields.{written}
use Rattle.isdb_tlv.specs.Ip.{version, ihl, protocol, datagram, ipv4_of, wire_of}
use Rattle.isdb_tlv.specs.Rfc791.{Ipv4, words, udp_length, header, udp_header, sent, Conforming, flow_of, Theorem}
use Rattle.isdb_tlv.specs.declared.ip.Wire.TheVariants.{Good}
use Rattle.isdb_tlv.proofs.Fields.{be_one, be_behind, field_at, offset_of, length_written, read}

module _ (d : Ipv4) (c : Conforming d) where
  halves : sent d ≡ written (header d) ++ d.options ++ (written (udp_header d) ++ d.payload)
  unfolding sent
  halves = append_assoc (written (header d) ++ d.options) (written (udp_header d)) d.payload

  upper : length (written (header d) ++ d.options) ≡ words d * 4
  upper = rw (length-append, length_written (header d)) (omega arith)

  front : length (written (header d) ++ d.options ++ written (udp_header d)) ≡ words d * 4 + 8
  front = rw (length-append, upper, length_written (udp_header d))

  whole : length (sent d) ≡ words d * 4 + udp_length d
  unfolding sent
  whole = rw (length-append, front) (omega arith)

  -- the fields of the two headers, by index
  of_ip : (k : ℕ) → be (field_at k (header d)).width (sent d) (offset_of k (header d)) ≡ (field_at k (header d)).value
  of_ip k = rw (halves, append_assoc (written (header d))) (read (header d) (omega arith) k _)

  of_udp : (k : ℕ) → be (field_at k (udp_header d)).width (sent d) (words d * 4 + offset_of k (udp_header d)) ≡ (field_at k (udp_header d)).value
  of_udp k = rw halves (be_behind _ (written (header d) ++ d.options) _ upper _ ∙ read (udp_header d) (omega arith) k d.payload)

  first : get_or (sent d) 0 0 ≡ 64 + words d
  first = be_one (sent d) 0 ∙ of_ip 0

  four : version (sent d) ≡ 4
  four = omega (arith, first)

  ihl_words : ihl (sent d) ≡ words d
  ihl_words = omega (arith, first)

  udp : protocol (sent d) ≡ 17
  udp = be_one (sent d) 9 ∙ of_ip 6

  enough : (n : ℕ) → n ≤ words d * 4 + udp_length d → ltb (length (sent d)) n ≡ false
  enough n h = le-ltb (length (sent d)) n (omega (arith, whole))

  fields : ipv4_of (sent d) ≡ datagram None (Some (flow_of d)) (words d * 4 + 8)
  unfolding ipv4_of
  fields =
      rw (enough 20 (omega arith), four, udp, ihl_words, enough (words d * 4 + 8) (omega arith))
      (rw (of_ip 8, of_ip 9, rw add-zero at (of_udp 0), of_udp 1))

  wire : wire_of (sent d) ≡ Good
  unfolding wire_of
  wire =
      let total = words d * 4 + udp_length d in
      rw (enough 20 (omega arith), four, ihl_words, le-ltb (words d) 5 (omega arith), of_ip 2, enough total (omega arith))
      (rw (le-ltb total (words d * 4 + 8) (omega arith), udp, of_udp 2, eq-eqb (udp_length d) (total - words d * 4) (omega arith)))

  payload : drop (words d * 4 + 8) (sent d) ≡ d.payload
  unfolding sent
  payload = drop_at (written (header d) ++ d.options ++ written (udp_header d)) d.payload (words d * 4 + 8) front

pub rfc791 : Theorem
rfc791 d c = record { fields = fields d c; payload = payload d c; wire = wire d c }
