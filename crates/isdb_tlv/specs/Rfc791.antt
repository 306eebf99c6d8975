-- RFC 791 (Internet Protocol, version 4) with RFC 768 (User Datagram Protocol): an unfragmented datagram as a conforming
-- sender writes it, and what it means to read it right.
use Rattle.std.specs.Prelude.{ℕ, ◌+◌, ◌*◌, ◌/◌, ◌%◌, ◌^◌, ◌<◌, ◌≤◌, ◌≡◌, List, [], ◌∷◌, ◌++◌, length, drop, None, Some}
use Rattle.isdb_tlv.specs.Fields.{Field, field, bits, packed, written}
use Rattle.isdb_tlv.specs.Ip.{datagram, ipv4_of, wire_of}
use Rattle.isdb_tlv.specs.declared.ip.Address.TheVariants.{V4}
use Rattle.isdb_tlv.specs.declared.ip.Flow.{Flow}
use Rattle.isdb_tlv.specs.declared.ip.Wire.TheVariants.{Good}

-- what the sender says; lengths follow from it
pub record Ipv4 : Type 0 where
  pub type_of_service : ℕ
  pub identification : ℕ
  pub dont_fragment : ℕ
  pub time_to_live : ℕ
  pub header_checksum : ℕ
  pub source : ℕ
  pub destination : ℕ
  -- options with their padding
  pub options : List ℕ
  pub source_port : ℕ
  pub destination_port : ℕ
  pub udp_checksum : ℕ
  pub payload : List ℕ

-- the header's length in words of four bytes
abbrev pub words : Ipv4 → ℕ
words d = 5 + length d.options / 4

-- RFC 768: the length of the UDP header and its data
abbrev pub udp_length : Ipv4 → ℕ
udp_length d = 8 + length d.payload

-- RFC 791, 3.1: version 4, IHL, type of service, total length, identification, flags (reserved, don't fragment, more
-- fragments) with the fragment offset, time to live, protocol 17, header checksum, source and destination address
abbrev pub header : Ipv4 → List Field
header d =
    field 1 (packed (bits 4 4 ∷ bits 4 (words d) ∷ []))
    ∷ field 1 d.type_of_service
    ∷ field 2 (words d * 4 + udp_length d)
    ∷ field 2 d.identification
    ∷ field 2 (packed (bits 1 0 ∷ bits 1 d.dont_fragment ∷ bits 1 0 ∷ bits 13 0 ∷ []))
    ∷ field 1 d.time_to_live
    ∷ field 1 17
    ∷ field 2 d.header_checksum
    ∷ field 4 d.source
    ∷ field 4 d.destination
    ∷ []

-- RFC 768: source port, destination port, length, checksum
abbrev pub udp_header : Ipv4 → List Field
udp_header d =
    field 2 d.source_port
    ∷ field 2 d.destination_port
    ∷ field 2 (udp_length d)
    ∷ field 2 d.udp_checksum
    ∷ []

unfoldable pub sent : Ipv4 → List ℕ
sent d = written (header d) ++ d.options ++ written (udp_header d) ++ d.payload

-- every value fits its field; the options fill whole words; the total length fits 16 bits
pub record Conforming (d : Ipv4) : Type 0 where
  pub type_of_service : d.type_of_service < 2 ^ 8
  pub identification : d.identification < 2 ^ 16
  pub dont_fragment : d.dont_fragment < 2
  pub time_to_live : d.time_to_live < 2 ^ 8
  pub header_checksum : d.header_checksum < 2 ^ 16
  pub source : d.source < 2 ^ 32
  pub destination : d.destination < 2 ^ 32
  pub whole_words : length d.options % 4 ≡ 0
  pub options_fit : length d.options ≤ 40
  pub source_port : d.source_port < 2 ^ 16
  pub destination_port : d.destination_port < 2 ^ 16
  pub udp_checksum : d.udp_checksum < 2 ^ 16
  pub total_length : words d * 4 + udp_length d < 2 ^ 16

abbrev pub flow_of : Ipv4 → Flow
flow_of d = record { src = V4 d.source; dst = V4 d.destination; sport = d.source_port; dport = d.destination_port }

-- the reading gives the sender's addresses and ports, its payload is the sender's, and the wire check finds it good
pub record Read (d : Ipv4) : Type 0 where
  pub fields : ipv4_of (sent d) ≡ datagram None (Some (flow_of d)) (words d * 4 + 8)
  pub payload : drop (words d * 4 + 8) (sent d) ≡ d.payload
  pub wire : wire_of (sent d) ≡ Good

-- proved in proofs/Rfc791.antt
abbrev pub Theorem : Type 0
Theorem = (d : Ipv4) → Conforming d → Read d
