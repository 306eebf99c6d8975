-- What a sender that conforms to RFC 5905 writes is read right. Assumes nothing.
use Rattle.std.specs.Prelude.{Some}
use Rattle.std.proofs.Common.{◌≡◌, ℕ, List, [], ◌∷◌, ◌++◌, length, refl, ◌∙◌, append_assoc, append-nil, arith, length-append, le-ltb}
use Rattle.isdb_tlv.specs.Bytes.{be}
use Rattle.isdb_tlv.specs.Fields.{bytes_of, Field, field, written}
use Rattle.isdb_tlv.specs.Tlv.{packet_type}
use Rattle.isdb_tlv.proofs.Numbers.{be_add}
use Rattle.isdb_tlv.proofs.Fields.{read, be_behind, be_before, length_written}
use Rattle.isdb_tlv.proofs.Rfc791.{rfc791}
use Rattle.isdb_tlv.proofs.Rfc8200.{rfc8200}
use Rattle.isdb_tlv.proofs.StdB32.{hcfb}
use Rattle.isdb_mmt.specs.Decoder.Packet.{ntp, to_port, classify}
use Rattle.isdb_mmt.specs.Standards.Rfc5905.{Timestamp, sent, Conforming, ticks, Theorem, Packet, packet_fields, packet_sent, PacketConforming, PacketTheorem, PacketExample}
use Rattle.isdb_mmt.proofs.Floats as Floats

abbrev fields : Timestamp → List Field
fields t = field 4 t.seconds ∷ field 4 t.fraction ∷ []

module _ (t : Timestamp) (c : Conforming t) where
  high : be 4 (sent t) 0 ≡ t.seconds
  high = rw append-nil at (read (fields t) (omega arith) 0 [])

  low : be 4 (sent t) 4 ≡ t.fraction
  low = rw append-nil at (read (fields t) (omega arith) 1 [])

  number : be 8 (sent t) 0 ≡ ticks t
  number = be_add 4 4 0 (sent t) ∙ rw (high, low)

pub rfc5905 : Theorem
rfc5905 t c =
    record {
      number = number t c;
      exact = λ h. rw (number t c) (Floats.exact (ticks t) (omega arith) h);
    }

-- the packet: the transmit timestamp stands behind 40 bytes
sent_length : (t : Timestamp) → length (sent t) ≡ 8
sent_length t = length_written (fields t)

abbrev before : Packet → List ℕ
before p = written (packet_fields p) ++ (sent p.reference ++ (sent p.origin ++ sent p.receive))

before_length : (p : Packet) → length (before p) ≡ 40
before_length p =
    rw (length-append, length_written (packet_fields p), length-append, sent_length p.reference)
    (rw (length-append, sent_length p.origin, sent_length p.receive))

split : (p : Packet) → packet_sent p ≡ before p ++ sent p.transmit
split p = simp append_assoc

module _ (p : Packet) (c : PacketConforming p) (r : List ℕ) where
  packet_length : length (packet_sent p) ≡ 48
  packet_length = rw (split p, length-append, before_length p, sent_length p.transmit)

  transmit_read : be 8 (packet_sent p ++ r) 40 ≡ ticks p.transmit
  transmit_read =
      let t = sent p.transmit in
      let inside : be 8 (t ++ r) 0 ≡ be 8 t 0 = be_before 8 t r 0 (omega (arith, sent_length p.transmit)) in
      rw (split p, append_assoc (before p) t r)
      (be_behind 8 (before p) (t ++ r) (before_length p) 0 ∙ inside ∙ number p.transmit c.transmit)

  taken : to_port (packet_sent p ++ r) 123 ≡ ntp (Some (ticks p.transmit))
  taken =
      let long = packet_length in
      rw (le-ltb (length (packet_sent p ++ r)) 48 (omega (arith, length-append (packet_sent p) r)), transmit_read)

pub packets : PacketTheorem
unfolding classify packet_type
packets p c r =
    record {
      long = packet_length p c r;
      transmit = taken p c r;
      over_ipv4 = λ d h port payload. let w = rfc791 d h in rw (w.fields, w.payload, port, payload) (taken p c r);
      over_ipv6 = λ d h port payload. let w = rfc8200 d h in rw (w.fields, w.payload, port, payload) (taken p c r);
      compressed =
          λ d h f flow port payload.
          let w = hcfb d h in rw (w.fields, w.payload, flow, port, payload) (taken p c r);
    }

pub packet_example_lem : PacketExample
unfolding bytes_of
packet_example_lem = record { conforms = omega arith; bytes = refl; carried = omega arith }
