-- RFC 5905: the timestamp of 64 bits (6) and the packet (7.3) as a conforming sender writes them, and what it means to read them right.
use Rattle.std.specs.Prelude.{◌≡◌, ℕ, ◌+◌, ◌*◌, ◌%◌, ◌^◌, ◌<◌, List, [], ◌∷◌, ◌++◌, length, Some}
use Rattle.isdb_tlv.specs.Bytes.{be}
use Rattle.isdb_tlv.specs.Fields.{Field, field, bits, packed, written}
use Rattle.isdb_tlv.specs.Rfc791 as Rfc791
use Rattle.isdb_tlv.specs.Rfc8200 as Rfc8200
use Rattle.isdb_tlv.specs.StdB32 as StdB32
use Rattle.isdb_tlv.specs.declared.ip.Flow.{Flow}
use Rattle.isdb_mmt.specs.Decoder.Packet.{ntp, to_port, classify}
use Rattle.isdb_mmt.specs.Formats.Ntp.{ntp_to_unix_of, Exact}

-- seconds since 1900, 32 bits, and their fraction, 32 bits
pub record Timestamp : Type 0 where
  pub seconds : ℕ
  pub fraction : ℕ

abbrev pub sent : Timestamp → List ℕ
sent t = written (field 4 t.seconds ∷ field 4 t.fraction ∷ [])

pub record Conforming (t : Timestamp) : Type 0 where
  pub seconds : t.seconds < 2 ^ 32
  pub fraction : t.fraction < 2 ^ 32

-- the time in units of 2 ^ -32 seconds
abbrev pub ticks : Timestamp → ℕ
ticks t = t.seconds * 2 ^ 32 + t.fraction

-- the number of 8 bytes is the time, and its seconds since the Unix epoch are exact where the low 11 bits are 0
pub record Read (t : Timestamp) : Type 0 where
  pub number : be 8 (sent t) 0 ≡ ticks t
  pub exact : ticks t % 2048 ≡ 0 → Exact (ticks t) (ntp_to_unix_of (be 8 (sent t) 0))

-- 7.3: leap indicator, version, mode, stratum, poll and precision exponents, root delay and dispersion, reference id, and the times
-- at which the clock was set, the request left, the request came and the answer left
pub record Packet : Type 0 where
  pub leap : ℕ
  pub version : ℕ
  pub mode : ℕ
  pub stratum : ℕ
  pub poll : ℕ
  pub precision : ℕ
  pub root_delay : ℕ
  pub root_dispersion : ℕ
  pub reference_id : ℕ
  pub reference : Timestamp
  pub origin : Timestamp
  pub receive : Timestamp
  pub transmit : Timestamp

-- leap indicator 2 bits, version 3, mode 3, stratum 8, poll 8, precision 8, root delay 32, root dispersion 32, reference id 32
abbrev pub packet_fields : Packet → List Field
packet_fields p =
    field 1 (packed (bits 2 p.leap ∷ bits 3 p.version ∷ bits 3 p.mode ∷ []))
    ∷ field 1 p.stratum
    ∷ field 1 p.poll
    ∷ field 1 p.precision
    ∷ field 4 p.root_delay
    ∷ field 4 p.root_dispersion
    ∷ field 4 p.reference_id
    ∷ []

abbrev pub packet_sent : Packet → List ℕ
packet_sent p = written (packet_fields p) ++ (sent p.reference ++ (sent p.origin ++ (sent p.receive ++ sent p.transmit)))

pub record PacketConforming (p : Packet) : Type 0 where
  pub leap : p.leap < 2 ^ 2
  pub version : p.version < 2 ^ 3
  pub mode : p.mode < 2 ^ 3
  pub stratum : p.stratum < 2 ^ 8
  pub poll : p.poll < 2 ^ 8
  pub precision : p.precision < 2 ^ 8
  pub root_delay : p.root_delay < 2 ^ 32
  pub root_dispersion : p.root_dispersion < 2 ^ 32
  pub reference_id : p.reference_id < 2 ^ 32
  pub reference : Conforming p.reference
  pub origin : Conforming p.origin
  pub receive : Conforming p.receive
  pub transmit : Conforming p.transmit

-- of a packet sent to port 123, with extension fields and a MAC or nothing behind it, the transmit timestamp is taken; so it is of a
-- TLV packet that carries it in an IPv4 or an IPv6 datagram, or in a compressed one with its addresses
pub record PacketRead (p : Packet) (r : List ℕ) : Type 0 where
  pub long : length (packet_sent p) ≡ 48
  pub transmit : to_port (packet_sent p ++ r) 123 ≡ ntp (Some (ticks p.transmit))
  pub over_ipv4 : (d : Rfc791.Ipv4) → Rfc791.Conforming d → d.destination_port ≡ 123 → d.payload ≡ packet_sent p ++ r
      → classify 0x01 (Rfc791.sent d) ≡ ntp (Some (ticks p.transmit))
  pub over_ipv6 : (d : Rfc8200.Ipv6) → Rfc8200.Conforming d → d.destination_port ≡ 123 → d.payload ≡ packet_sent p ++ r
      → classify 0x02 (Rfc8200.sent d) ≡ ntp (Some (ticks p.transmit))
  pub compressed : (d : StdB32.Hcfb) → StdB32.HcfbConforming d → (f : Flow) → StdB32.flow_in d.header ≡ Some f → f.dport ≡ 123
      → d.payload ≡ packet_sent p ++ r → classify 0x03 (StdB32.hcfb_sent d) ≡ ntp (Some (ticks p.transmit))

-- proved in proofs/Rfc5905.antt
abbrev pub Theorem : Type 0
Theorem = (t : Timestamp) → Conforming t → Read t

abbrev pub PacketTheorem : Type 0
PacketTheorem = (p : Packet) → PacketConforming p → (r : List ℕ) → PacketRead p r

-- a server's packet of stratum 1, broadcast: version 4, mode 5. Its transmit timestamp stands as a line `ntp HEX` in crates/cases/stdin
abbrev pub never : Timestamp
never = record { seconds = 0; fraction = 0 }

abbrev pub packet_example : Packet
packet_example =
    record {
      leap = 0;
      version = 4;
      mode = 5;
      stratum = 1;
      poll = 0;
      precision = 0xEC;
      root_delay = 0;
      root_dispersion = 0x100;
      reference_id = 0x47505300;
      reference = record { seconds = 0xE1234567; fraction = 0 };
      origin = never;
      receive = never;
      transmit = record { seconds = 0xE1234567; fraction = 0x800000FF };
    }

abbrev pub packet_bytes : List ℕ
packet_bytes =
    0x25 ∷ 0x01 ∷ 0x00 ∷ 0xEC ∷ 0x00 ∷ 0x00 ∷ 0x00 ∷ 0x00 ∷ 0x00 ∷ 0x00 ∷ 0x01 ∷ 0x00 ∷ 0x47 ∷ 0x50 ∷ 0x53 ∷ 0x00
    ∷ 0xE1 ∷ 0x23 ∷ 0x45 ∷ 0x67 ∷ 0x00 ∷ 0x00 ∷ 0x00 ∷ 0x00 ∷ 0x00 ∷ 0x00 ∷ 0x00 ∷ 0x00 ∷ 0x00 ∷ 0x00 ∷ 0x00 ∷ 0x00
    ∷ 0x00 ∷ 0x00 ∷ 0x00 ∷ 0x00 ∷ 0x00 ∷ 0x00 ∷ 0x00 ∷ 0x00 ∷ 0xE1 ∷ 0x23 ∷ 0x45 ∷ 0x67 ∷ 0x80 ∷ 0x00 ∷ 0x00 ∷ 0xFF ∷ []

-- a datagram that carries it
abbrev pub datagram_example : Rfc8200.Ipv6
datagram_example =
    record {
      traffic_class = 0;
      flow_label = 0;
      hop_limit = 32;
      source = record { high = 0x20010DB800B50000; low = 1 };
      destination = record { high = 0xFF0E000000000000; low = 0x101 };
      source_port = 123;
      destination_port = 123;
      udp_checksum = 0;
      payload = packet_bytes;
    }

pub record PacketExample : Type 0 where
  pub conforms : PacketConforming packet_example
  pub bytes : packet_sent packet_example ≡ packet_bytes
  pub carried : Rfc8200.Conforming datagram_example
