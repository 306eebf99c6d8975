-- A packet of at most 65,535 bytes reads as one whose units have no more. Only the results of the readings are looked at.
use Rattle.std.specs.Prelude.{Err, None, Ok, Result, Some, Option}
use Rattle.isdb_tlv.specs.declared.mmtp.Packet.{Packet}
use Rattle.isdb_tlv.specs.declared.ip.IpError.{IpError}
use Rattle.isdb_tlv.specs.declared.ip.Datagram.{Datagram}
use Rattle.isdb_tlv.specs.declared.ip.Flow.{Flow}
use Rattle.std.proofs.Common.{ℕ, ◌+◌, ◌<◌, Bool, true, false, cond, List, [], ◌∷◌, map, length, take, drop, arith, length-drop, length-take}
use Rattle.isdb_tlv.specs.Guards.{◌<?◌, ◌=?◌}
use Rattle.isdb_tlv.specs.Bytes.{be}
use Rattle.isdb_tlv.specs.Tlv.{packet_type}
use Rattle.isdb_tlv.specs.Ip.{ipv4_of, ipv6_of, compressed_of}
use Rattle.isdb_tlv.specs.Mmtp.{mmtp_of}
use Rattle.isdb_tlv.specs.declared.tlv.PacketType.{PacketType}
use Rattle.isdb_tlv.specs.declared.tlv.PacketType.TheVariants.{Ipv4, Ipv6, Compressed, Control, Null, Other}
use Rattle.isdb_tlv.specs.declared.mmtp.PayloadType.{PayloadType}
use Rattle.isdb_tlv.specs.declared.mmtp.PayloadType.TheVariants.{Mpu, GenericObject, Messages, FecRepair, Reserved}
use Rattle.isdb_tlv.specs.declared.mmtp.Header.{Header}
use Rattle.isdb_mmt.specs.Formats.Mpu.{payload_header, declared_of, units_of}
use Rattle.isdb_mmt.specs.declared.mpu.FragmentType.{FragmentType}
use Rattle.isdb_mmt.specs.declared.mpu.FragmentType.TheVariants.{MpuMetadata, MovieFragmentMetadata, Mfu, Reserved as reserved_type}
use Rattle.isdb_mmt.specs.declared.mpu.PayloadHeader.{PayloadHeader}
use Rattle.isdb_mmt.specs.declared.mpu.Unit.{Unit as DataUnit}
use Rattle.isdb_mmt.specs.Decoder.Packet.{Bytes, ntp, header_in, payload_unit, payload_units, units_for, units_read, media_of, clear, readable, by_type, mmtp_in, to_port, in_flow, datagram_in, by_kind, classify}
use Rattle.isdb_mmt.specs.Books.Demand.{AllSmall, Small, EverySmall, Feed, packets_of, AllFit}

pub take_small : (n : ℕ) (b : Bytes) → length b < 65536 → length (take n b) < 65536
take_small n b l = omega (arith, length-take n b)

pub drop_small : (n : ℕ) (b : Bytes) → length b < 65536 → length (drop n b) < 65536
drop_small n b l = omega (arith, length-drop n b)

-- a media payload

units_small : (h : PayloadHeader) (q : Bytes) (us : List DataUnit) → length q < 65536 → AllSmall (map (payload_unit h q) us)
units_small h q [] l = tt
units_small h q (u ∷ us) l = (
  take_small u.«data».length (drop u.«data».start q) (drop_small u.«data».start q l),
  units_small h q us l,
)

clear_payload_units : (scrambled : Bool) (h : PayloadHeader) (q : Bytes) (o : Option (List DataUnit)) → length q < 65536
    → AllSmall (clear scrambled (payload_units h q o))
unfolding clear
clear_payload_units true h q o l = tt
clear_payload_units false h q None l = tt
clear_payload_units false h q (Some us) l = units_small h q us l

clear_units : (scrambled : Bool) (h : PayloadHeader) (t : FragmentType) (q : Bytes) → length q < 65536
    → AllSmall (clear scrambled (units_for h t q))
unfolding clear
clear_units true h t q l = tt
clear_units false h Mfu q l = clear_payload_units false h q (units_of q h.timed h.aggregated) l
clear_units false h MpuMetadata q l = tt
clear_units false h MovieFragmentMetadata q l = tt
clear_units false h (reserved_type c) q l = tt

clear_read : (scrambled : Bool) (payload : Bytes) (o : Option PayloadHeader) → length payload < 65536
    → AllSmall (clear scrambled (units_read payload o))
unfolding clear
clear_read true payload o l = tt
clear_read false payload None l = tt
clear_read false payload (Some h) l =
    clear_units false h h.fragment_type (declared_of payload) (take_small (be 2 payload 0 + 2) payload l)

media_small : (h : Header) (payload : Bytes) → length payload < 65536 → AllSmall (readable (media_of h payload))
unfolding readable media_of
media_small h payload l = clear_read h.scramble_info payload (header_in (payload_header payload)) l

-- a packet, from its payload outwards

type_small : (h : Header) (payload : Bytes) (t : PayloadType) → length payload < 65536 → Small (by_type h payload t)
type_small h payload Mpu l = media_small h payload l
type_small h payload Messages l = tt
type_small h payload GenericObject l = tt
type_small h payload FecRepair l = tt
type_small h payload (Reserved c) l = tt

mmtp_small : (b : Bytes) (p : Option Packet) → length b < 65536 → Small (mmtp_in b p)
mmtp_small b None l = tt
mmtp_small b (Some p) l = type_small p.header (drop p.start b) p.header.payload_type (drop_small p.start b l)

port_small : (b : Bytes) (port : ℕ) → length b < 65536 → Small (to_port b port)
port_small b port l = go (port =? 123)
  where
    go : (t : Bool) → Small (cond t (ntp (cond (length b <? 48) None (Some (be 8 b 40)))) (mmtp_in b (mmtp_of b)))
    go true = tt
    go false = mmtp_small b (mmtp_of b) l

flow_small : (b : Bytes) (f : Option Flow) → length b < 65536 → Small (in_flow b f)
flow_small b None l = mmtp_small b (mmtp_of b) l
flow_small b (Some f) l = port_small b f.dport l

datagram_small : (b : Bytes) (r : Result Datagram IpError) → length b < 65536 → Small (datagram_in b r)
datagram_small b (Err e) l = tt
datagram_small b (Ok d) l = flow_small (drop d.start b) d.flow (drop_small d.start b l)

kind_small : (b : Bytes) (k : PacketType) → length b < 65536 → Small (by_kind b k)
kind_small b Ipv4 l = datagram_small b (ipv4_of b) l
kind_small b Ipv6 l = datagram_small b (ipv6_of b) l
kind_small b Compressed l = datagram_small b (compressed_of b) l
kind_small b Control l = tt
kind_small b Null l = tt
kind_small b (Other v) l = tt

pub small_of : (kind : ℕ) (b : Bytes) → length b < 65536 → Small (classify kind b)
unfolding classify
small_of kind b l = kind_small b (packet_type kind) l

-- all packets

pub every_small : (f : Feed) → AllFit f → EverySmall (packets_of f)
every_small [] a = tt
every_small (p ∷ f) a = (small_of p.0 p.1 a.0, every_small f a.1)
