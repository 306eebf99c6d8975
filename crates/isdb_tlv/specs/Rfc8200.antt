-- RFC 8200 (Internet Protocol, version 6) with RFC 768: a datagram without extension headers as a conforming sender writes
-- it, and what it means to read it right.
use Rattle.std.specs.Prelude.{ℕ, ◌+◌, ◌^◌, ◌<◌, ◌≡◌, List, [], ◌∷◌, ◌++◌, length, drop, None, Some}
use Rattle.isdb_tlv.specs.Fields.{Field, field, bits, packed, written}
use Rattle.isdb_tlv.specs.Ip.{datagram, ipv6_of}
use Rattle.isdb_tlv.specs.declared.ip.Address.TheVariants.{V6}
use Rattle.isdb_tlv.specs.declared.ip.Flow.{Flow}

-- an address of 128 bits in two halves
pub record Address : Type 0 where
  pub high : ℕ
  pub low : ℕ

pub record Ipv6 : Type 0 where
  pub traffic_class : ℕ
  pub flow_label : ℕ
  pub hop_limit : ℕ
  pub source : Address
  pub destination : Address
  pub source_port : ℕ
  pub destination_port : ℕ
  pub udp_checksum : ℕ
  pub payload : List ℕ

abbrev pub udp_length : Ipv6 → ℕ
udp_length d = 8 + length d.payload

-- RFC 8200, 3: version 6, traffic class, flow label, payload length, next header 17, hop limit, source and destination
-- address; then RFC 768
abbrev pub header : Ipv6 → List Field
header d =
    field 4 (packed (bits 4 6 ∷ bits 8 d.traffic_class ∷ bits 20 d.flow_label ∷ []))
    ∷ field 2 (udp_length d)
    ∷ field 1 17
    ∷ field 1 d.hop_limit
    ∷ field 8 d.source.high
    ∷ field 8 d.source.low
    ∷ field 8 d.destination.high
    ∷ field 8 d.destination.low
    ∷ field 2 d.source_port
    ∷ field 2 d.destination_port
    ∷ field 2 (udp_length d)
    ∷ field 2 d.udp_checksum
    ∷ []

unfoldable pub sent : Ipv6 → List ℕ
sent d = written (header d) ++ d.payload

pub record Conforming (d : Ipv6) : Type 0 where
  pub traffic_class : d.traffic_class < 2 ^ 8
  pub flow_label : d.flow_label < 2 ^ 20
  pub hop_limit : d.hop_limit < 2 ^ 8
  pub source_high : d.source.high < 2 ^ 64
  pub source_low : d.source.low < 2 ^ 64
  pub destination_high : d.destination.high < 2 ^ 64
  pub destination_low : d.destination.low < 2 ^ 64
  pub source_port : d.source_port < 2 ^ 16
  pub destination_port : d.destination_port < 2 ^ 16
  pub udp_checksum : d.udp_checksum < 2 ^ 16
  pub payload_length : udp_length d < 2 ^ 16

abbrev pub flow_of : Ipv6 → Flow
flow_of d =
    record {
      src = V6 d.source.high d.source.low;
      dst = V6 d.destination.high d.destination.low;
      sport = d.source_port;
      dport = d.destination_port;
    }

pub record Read (d : Ipv6) : Type 0 where
  pub fields : ipv6_of (sent d) ≡ datagram None (Some (flow_of d)) 48
  pub payload : drop 48 (sent d) ≡ d.payload

-- proved in proofs/Rfc8200.antt
abbrev pub Theorem : Type 0
Theorem = (d : Ipv6) → Conforming d → Read d
