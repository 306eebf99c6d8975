-- Where a packet leads, by its kind and its IP headers: the step from a packet's data to the payload of a layer.
use Rattle.isdb_tlv.specs.declared.ip.Datagram.{Datagram}
use Rattle.isdb_tlv.specs.declared.ip.IpError.{IpError as Unreadable}
use Rattle.isdb_tlv.specs.declared.ip.Flow.{Flow}
use Rattle.std.specs.Prelude.{ℕ, map, length, take, drop, Err, None, Ok, Result, Some, Option}
use Rattle.isdb_tlv.specs.Guards.{◌<?◌, ◌=?◌}
use Rattle.std.specs.Prelude.{if◌then◌else◌}
use Rattle.isdb_tlv.specs.Bytes.{be}
use Rattle.isdb_tlv.specs.Ip.{ipv4_of, ipv6_of, compressed_of}
use Rattle.isdb_tlv.specs.Mmtp.{mmtp_of}
use Rattle.isdb_tlv.specs.Si.{sections_of}
use Rattle.isdb_tlv.specs.declared.tlv.PacketType.{PacketType}
use Rattle.isdb_tlv.specs.declared.tlv.PacketType.TheVariants.{Ipv4, Ipv6, Compressed, Control as control_kind, Null as null_kind, Other as other_kind}
use Rattle.isdb_mmt.specs.Decoder.Packet.{Bytes, Packet, ip_error, ntp, control, other, mmtp_in}
use Rattle.isdb_mmt.specs.declared.decoder.route.Route.{Route}
use Rattle.isdb_mmt.specs.declared.decoder.route.Route.TheVariants.{IpError, Time, Mmtp, Control, Null, Other}

-- a datagram whose payload starts at `at`: to port 123 it is NTP
abbrev pub flow_route : ℕ → Option Flow → Route
flow_route at None = Mmtp at
flow_route at (Some f) = if f.dport =? 123 then Time at else Mmtp at

abbrev pub ip_route : Result Datagram Unreadable → Route
ip_route (Err e) = IpError
ip_route (Ok d) = flow_route d.start d.flow

abbrev pub route_of : Bytes → PacketType → Route
route_of b Ipv4 = ip_route (ipv4_of b)
route_of b Ipv6 = ip_route (ipv6_of b)
route_of b Compressed = ip_route (compressed_of b)
route_of b control_kind = Control
route_of b null_kind = Null
route_of b (other_kind v) = Other

-- the transmit timestamp, where it is there
abbrev pub time_in : Bytes → Option ℕ
time_in p = if length p <? 48 then None else Some (be 8 p 40)

abbrev pub time_given : Option ℕ → Option ℕ
time_given None = None
time_given (Some t) = Some t

-- the packet that a route leads to
abbrev pub routed : Bytes → Route → Packet
routed b IpError = ip_error
routed b (Time at) = ntp (time_given (time_in (drop at b)))
routed b (Mmtp at) = mmtp_in (drop at b) (mmtp_of (drop at b))
routed b Control = control (map (λ x. take x.size (drop x.offset b)) (sections_of b))
routed b Null = other
routed b Other = other
