-- ARIB STD-B32 Part 3: TLV packets (3.5) and header-compressed IP (3.7) as a conforming sender writes them, and what it
-- means to read them right.
use Rattle.isdb_tlv.specs.declared.ip.Flow.{Flow}
use Rattle.std.specs.Prelude.{ℕ, ◌^◌, ◌<◌, ◌≡◌, List, [], ◌∷◌, ◌++◌, length, drop, get_or, None, Option, Some}
use Rattle.isdb_tlv.specs.Bytes.{be}
use Rattle.isdb_tlv.specs.Fields.{Field, field, bits, packed, written}
use Rattle.isdb_tlv.specs.Tlv.{packet_type}
use Rattle.isdb_tlv.specs.Ip.{datagram, compressed_of}
use Rattle.isdb_tlv.specs.declared.tlv.PacketType.{PacketType}
use Rattle.isdb_tlv.specs.declared.tlv.PacketType.TheVariants.{Ipv4, Ipv6, Compressed, Control, Null}
use Rattle.isdb_tlv.specs.declared.ip.Address.TheVariants.{V4, V6}

-- 3.5: the types of packets and their numbers
pub data Kind : Type 0 where
  ipv4_packet : Kind
  ipv6_packet : Kind
  compressed_ip : Kind
  transmission_control : Kind
  null_packet : Kind

abbrev pub kind_code : Kind → ℕ
kind_code ipv4_packet = 0x01
kind_code ipv6_packet = 0x02
kind_code compressed_ip = 0x03
kind_code transmission_control = 0xFE
kind_code null_packet = 0xFF

abbrev pub kind_seen : Kind → PacketType
kind_seen ipv4_packet = Ipv4
kind_seen ipv6_packet = Ipv6
kind_seen compressed_ip = Compressed
kind_seen transmission_control = Control
kind_seen null_packet = Null

-- a TLV packet is the bits 01 and 111111, its type, a length and so many bytes of data
pub record Tlv : Type 0 where
  pub kind : Kind
  pub content : List ℕ

abbrev pub tlv_header : Tlv → List Field
tlv_header t =
    field 1 (packed (bits 2 0b01 ∷ bits 6 0b111111 ∷ [])) ∷ field 1 (kind_code t.kind) ∷ field 2 (length t.content) ∷ []

unfoldable pub tlv_sent : Tlv → List ℕ
tlv_sent t = written (tlv_header t) ++ t.content

-- content of at most 65,535 bytes
pub record TlvConforming (t : Tlv) : Type 0 where
  pub short : length t.content < 2 ^ 16

pub record TlvRead (t : Tlv) : Type 0 where
  pub sync : get_or (tlv_sent t) 0 0 ≡ 0x7F
  pub kind : packet_type (get_or (tlv_sent t) 1 0) ≡ kind_seen t.kind
  pub content_length : be 2 (tlv_sent t) 2 ≡ length t.content
  pub content : drop 4 (tlv_sent t) ≡ t.content

-- 3.7: what follows the header type
pub data Header : Type 0 where
  -- 20h: an IPv4 header without total length, checksum and options, and the ports: IHL, type of service, identification,
  -- flags with fragment offset, time to live, source, destination, source port, destination port
  ipv4 : ℕ → ℕ → ℕ → ℕ → ℕ → ℕ → ℕ → ℕ → ℕ → Header
  -- 21h: the identification of the IPv4 header
  ipv4_id : ℕ → Header
  -- 60h: an IPv6 header without payload length, and the ports: traffic class, flow label, hop limit, source and
  -- destination in halves, source port, destination port
  ipv6 : ℕ → ℕ → ℕ → ℕ → ℕ → ℕ → ℕ → ℕ → ℕ → Header
  -- 61h: nothing
  ipv6_id : Header

abbrev pub header_type : Header → ℕ
header_type (ipv4 l t i f h s d p q) = 0x20
header_type (ipv4_id i) = 0x21
header_type (ipv6 t f h sh sl dh dl p q) = 0x60
header_type ipv6_id = 0x61

abbrev pub compressed_fields : Header → List Field
compressed_fields (ipv4 ihl tos id fragment ttl source destination sport dport) =
    field 1 (packed (bits 4 4 ∷ bits 4 ihl ∷ []))
    ∷ field 1 tos
    ∷ field 2 id
    ∷ field 2 fragment
    ∷ field 1 ttl
    ∷ field 1 17
    ∷ field 4 source
    ∷ field 4 destination
    ∷ field 2 sport
    ∷ field 2 dport
    ∷ []
compressed_fields (ipv4_id id) = field 2 id ∷ []
compressed_fields (ipv6 traffic_class flow_label hop_limit sh sl dh dl sport dport) =
    field 4 (packed (bits 4 6 ∷ bits 8 traffic_class ∷ bits 20 flow_label ∷ []))
    ∷ field 1 17
    ∷ field 1 hop_limit
    ∷ field 8 sh
    ∷ field 8 sl
    ∷ field 8 dh
    ∷ field 8 dl
    ∷ field 2 sport
    ∷ field 2 dport
    ∷ []
compressed_fields ipv6_id = []

-- a compressed packet: context id 12 bits, sequence number 4, header type 8, then the header and the payload
pub record Hcfb : Type 0 where
  pub context : ℕ
  pub sequence : ℕ
  pub header : Header
  pub payload : List ℕ

abbrev pub hcfb_fields : Hcfb → List Field
hcfb_fields p =
    field 2 (packed (bits 12 p.context ∷ bits 4 p.sequence ∷ []))
    ∷ field 1 (header_type p.header)
    ∷ compressed_fields p.header

unfoldable pub hcfb_sent : Hcfb → List ℕ
hcfb_sent p = written (hcfb_fields p) ++ p.payload

-- every value fits its field
pub data HeaderConforming : Header → Type 0 where
  ipv4_fits : {ihl tos id fragment ttl source destination sport dport : ℕ}
      → ihl < 2 ^ 4 → tos < 2 ^ 8 → id < 2 ^ 16 → fragment < 2 ^ 16 → ttl < 2 ^ 8
      → source < 2 ^ 32 → destination < 2 ^ 32 → sport < 2 ^ 16 → dport < 2 ^ 16
      → HeaderConforming (ipv4 ihl tos id fragment ttl source destination sport dport)
  ipv4_id_fits : {id : ℕ} → id < 2 ^ 16 → HeaderConforming (ipv4_id id)
  ipv6_fits : {traffic_class flow_label hop_limit sh sl dh dl sport dport : ℕ}
      → traffic_class < 2 ^ 8 → flow_label < 2 ^ 20 → hop_limit < 2 ^ 8
      → sh < 2 ^ 64 → sl < 2 ^ 64 → dh < 2 ^ 64 → dl < 2 ^ 64 → sport < 2 ^ 16 → dport < 2 ^ 16
      → HeaderConforming (ipv6 traffic_class flow_label hop_limit sh sl dh dl sport dport)
  ipv6_id_fits : HeaderConforming ipv6_id

pub record HcfbConforming (p : Hcfb) : Type 0 where
  pub context : p.context < 2 ^ 12
  pub sequence : p.sequence < 2 ^ 4
  pub header : HeaderConforming p.header

-- the flow, where the header carries one
abbrev pub flow_in : Header → Option Flow
flow_in (ipv4 l t i f h source destination sport dport) =
    Some (record { src = V4 source; dst = V4 destination; sport = sport; dport = dport })
flow_in (ipv4_id i) = None
flow_in (ipv6 t f h sh sl dh dl sport dport) =
    Some (record { src = V6 sh sl; dst = V6 dh dl; sport = sport; dport = dport })
flow_in ipv6_id = None

-- where the payload starts
abbrev pub start_of : Header → ℕ
start_of (ipv4 l t i f h s d p q) = 23
start_of (ipv4_id i) = 5
start_of (ipv6 t f h sh sl dh dl p q) = 45
start_of ipv6_id = 3

pub record HcfbRead (p : Hcfb) : Type 0 where
  pub fields : compressed_of (hcfb_sent p) ≡ datagram (Some p.context) (flow_in p.header) (start_of p.header)
  pub payload : drop (start_of p.header) (hcfb_sent p) ≡ p.payload

-- proved in proofs/StdB32.antt
abbrev pub TlvTheorem : Type 0
TlvTheorem = (t : Tlv) → TlvConforming t → TlvRead t

abbrev pub HcfbTheorem : Type 0
HcfbTheorem = (p : Hcfb) → HcfbConforming p → HcfbRead p
