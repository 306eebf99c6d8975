-- What a push is given, as a value: a packet's kind and bytes, read down to a media payload, a control payload, sections, or
-- what else the decoder counts. Each reading is that of its own file.
-- Translated from decoder.rs of isdb-rs (Apache-2.0, see NOTICE) and changed.
use Rattle.isdb_mmt.specs.declared.mpu.MfuHeader.{MfuHeader}
use Rattle.isdb_tlv.specs.declared.mmtp.Packet.{Packet as MmtpPacket}
use Rattle.isdb_tlv.specs.declared.ip.IpError.{IpError}
use Rattle.isdb_tlv.specs.declared.ip.Datagram.{Datagram}
use Rattle.isdb_tlv.specs.declared.ip.Flow.{Flow}
use Rattle.std.specs.Prelude.{ℕ, Bool, true, false, List, [], map, length, take, drop, Err, None, Ok, Result, Some, Option}
use Rattle.isdb_tlv.specs.Guards.{◌<?◌, ◌=?◌}
use Rattle.std.specs.Prelude.{if◌then◌else◌}
use Rattle.isdb_tlv.specs.Bytes.{be}
use Rattle.isdb_tlv.specs.Tlv.{packet_type}
use Rattle.isdb_tlv.specs.Ip.{ipv4_of, ipv6_of, compressed_of}
use Rattle.isdb_tlv.specs.Mmtp.{mmtp_of}
use Rattle.isdb_tlv.specs.Si.{sections_of}
use Rattle.isdb_tlv.specs.declared.tlv.PacketType.{PacketType}
use Rattle.isdb_tlv.specs.declared.tlv.PacketType.TheVariants.{Ipv4, Ipv6, Compressed, Control, Null, Other}
use Rattle.isdb_tlv.specs.declared.mmtp.PayloadType.{PayloadType}
use Rattle.isdb_tlv.specs.declared.mmtp.PayloadType.TheVariants.{Mpu, GenericObject, Messages, FecRepair, Reserved}
use Rattle.isdb_tlv.specs.declared.mmtp.Header.{Header}
use Rattle.isdb_mmt.specs.Formats.Part.{part_of}
use Rattle.isdb_mmt.specs.Formats.Mpu.{payload_header, declared_of, units_of}
use Rattle.isdb_mmt.specs.declared.mpu.FragmentType.{FragmentType}
use Rattle.isdb_mmt.specs.declared.mpu.FragmentType.TheVariants.{MpuMetadata, MovieFragmentMetadata, Mfu, Reserved as reserved_type}
use Rattle.isdb_mmt.specs.declared.mpu.FragmentationIndicator.{FragmentationIndicator}
use Rattle.isdb_mmt.specs.declared.mpu.PayloadHeader.{PayloadHeader}
use Rattle.isdb_mmt.specs.declared.mpu.Unit.{Unit as DataUnit}

abbrev pub Bytes : Type 0
Bytes = List ℕ

-- a unit of a payload, with its data
pub record PayloadUnit : Type 0 where
  pub fragment : FragmentationIndicator
  pub mfu : Option MfuHeader
  pub item_id : Option ℕ
  pub bytes : Bytes

-- an MPU-type packet: its id and number, RAP flag, whether it counts as scrambled, its payload's header, its units where the
-- payload parses whole, and the payload from byte 8 on
pub record MpuPacket : Type 0 where
  pub id : ℕ
  pub number : ℕ
  pub rap : Bool
  pub scrambled : Bool
  pub header : Option PayloadHeader
  pub units : Option (List PayloadUnit)
  pub raw : Bytes

abbrev pub header_in : Option PayloadHeader → Option PayloadHeader
header_in None = None
header_in (Some h) = Some h

abbrev pub payload_unit : PayloadHeader → Bytes → DataUnit → PayloadUnit
payload_unit h q u = record { fragment = h.fragmentation; mfu = u.mfu; item_id = u.item_id; bytes = part_of q u.«data» }

abbrev pub payload_units : PayloadHeader → Bytes → Option (List DataUnit) → Option (List PayloadUnit)
payload_units h q None = None
payload_units h q (Some l) = Some (map (payload_unit h q) l)

-- only a payload of MFUs has units; another is whole with none
abbrev pub units_for : PayloadHeader → FragmentType → Bytes → Option (List PayloadUnit)
units_for h Mfu q = payload_units h q (units_of q h.timed h.aggregated)
units_for h MpuMetadata q = Some []
units_for h MovieFragmentMetadata q = Some []
units_for h (reserved_type c) q = Some []

-- `parse` of the whole payload: none without a header
abbrev pub units_read : Bytes → Option PayloadHeader → Option (List PayloadUnit)
units_read payload None = None
units_read payload (Some h) = units_for h h.fragment_type (declared_of payload)

unfoldable pub media_of : Header → Bytes → MpuPacket
media_of h payload =
    record {
      id = h.packet_id;
      number = h.sequence;
      rap = h.rap;
      scrambled = h.scramble_info;
      header = header_in (payload_header payload);
      units = units_read payload (header_in (payload_header payload));
      raw = drop 8 payload;
    }

-- the units that are taken: those of a clear payload that parses ("readable clear")
unfoldable pub clear : Bool → Option (List PayloadUnit) → List PayloadUnit
clear true us = []
clear false None = []
clear false (Some us) = us

unfoldable pub readable : MpuPacket → List PayloadUnit
unfolding clear
readable m = clear m.scrambled m.units

-- a message packet
pub record MessagePacket : Type 0 where
  pub id : ℕ
  pub number : ℕ
  pub payload : Bytes

abbrev pub message_packet : ℕ → ℕ → Bytes → MessagePacket
message_packet id n b = record { id = id; number = n; payload = b }

pub data Packet : Type 0 where
  -- IP data that cannot be read
  ip_error : Packet
  -- to port 123: the transmit timestamp, bytes 40 to 47 (RFC 5905, 7.3), where it is there
  ntp : Option ℕ → Packet
  -- a UDP payload that is no MMTP packet
  non_mmtp_of : Packet
  media : MpuPacket → Packet
  message : MessagePacket → Packet
  -- a control signal's sections, each with its bytes
  control : List Bytes → Packet
  -- a packet of another kind, or an MMTP packet of another type
  other : Packet

abbrev pub by_type : Header → Bytes → PayloadType → Packet
by_type h payload Mpu = media (media_of h payload)
by_type h payload Messages = message (message_packet h.packet_id h.sequence payload)
by_type h payload GenericObject = other
by_type h payload FecRepair = other
by_type h payload (Reserved c) = other

abbrev pub mmtp_in : Bytes → Option MmtpPacket → Packet
mmtp_in b None = non_mmtp_of
mmtp_in b (Some p) = by_type p.header (drop p.start b) p.header.payload_type

-- port 123 is NTP, before MMTP is tried; a datagram without addresses has no port
abbrev pub to_port : Bytes → ℕ → Packet
to_port b port =
    if port =? 123 then ntp (if length b <? 48 then None else Some (be 8 b 40))
    else mmtp_in b (mmtp_of b)

abbrev pub in_flow : Bytes → Option Flow → Packet
in_flow b None = mmtp_in b (mmtp_of b)
in_flow b (Some f) = to_port b f.dport

abbrev pub datagram_in : Bytes → Result Datagram IpError → Packet
datagram_in b (Err e) = ip_error
datagram_in b (Ok d) = in_flow (drop d.start b) d.flow

abbrev pub by_kind : Bytes → PacketType → Packet
by_kind b Ipv4 = datagram_in b (ipv4_of b)
by_kind b Ipv6 = datagram_in b (ipv6_of b)
by_kind b Compressed = datagram_in b (compressed_of b)
by_kind b Control = control (map (λ x. take x.size (drop x.offset b)) (sections_of b))
by_kind b Null = other
by_kind b (Other v) = other

-- a packet of a kind byte and data
unfoldable pub classify : ℕ → Bytes → Packet
classify kind b = by_kind b (packet_type kind)
