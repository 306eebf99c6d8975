-- A route leads to the packet that the kind and the data are read as. Assumes nothing.
use Rattle.std.specs.Prelude.{Err, None, Ok, Option, Result, Some}
use Rattle.isdb_tlv.specs.declared.ip.IpError.{IpError}
use Rattle.std.proofs.Common.{◌≡◌, ℕ, cond, eqb, ltb, length, drop, sym, refl, ap, ◌∙◌}
use Rattle.isdb_tlv.proofs.Guards.{either}
use Rattle.isdb_tlv.specs.Bytes.{be}
use Rattle.isdb_tlv.specs.Tlv.{packet_type}
use Rattle.isdb_tlv.specs.Ip.{ipv4_of, ipv6_of, compressed_of}
use Rattle.isdb_tlv.specs.declared.tlv.PacketType.{PacketType}
use Rattle.isdb_tlv.specs.declared.tlv.PacketType.TheVariants.{Ipv4, Ipv6, Compressed, Control, Null, Other}
use Rattle.isdb_tlv.specs.declared.ip.Flow.{Flow}
use Rattle.isdb_tlv.specs.declared.ip.Datagram.{Datagram}
use Rattle.isdb_mmt.specs.Decoder.Packet.{Bytes, ntp, in_flow, datagram_in, by_kind, classify}
use Rattle.isdb_mmt.specs.Pushes.Route.{flow_route, ip_route, route_of, time_in, time_given, routed}
use Rattle.isdb_mmt.specs.declared.decoder.route.Route.{Route}

time_given_lem : (p : Bytes) → time_given (time_in p) ≡ cond (ltb (length p) 48) None (Some (be 8 p 40))
time_given_lem p = either (ltb (length p) 48) (λ t. rw t) (λ f. rw f)

flow_routed : (b : Bytes) (at : ℕ) (f : Option Flow) → routed b (flow_route at f) ≡ in_flow (drop at b) f
flow_routed b at None = refl
flow_routed b at (Some f) =
    either (eqb f.dport 123) (λ t. rw t (ap ntp (time_given_lem (drop at b)))) (λ t. rw t)

ip_routed : (b : Bytes) (x : Result Datagram IpError) → routed b (ip_route x) ≡ datagram_in b x
ip_routed b (Err e) = refl
ip_routed b (Ok d) = flow_routed b d.start d.flow

kind_routed : (b : Bytes) (t : PacketType) → routed b (route_of b t) ≡ by_kind b t
kind_routed b Ipv4 = ip_routed b (ipv4_of b)
kind_routed b Ipv6 = ip_routed b (ipv6_of b)
kind_routed b Compressed = ip_routed b (compressed_of b)
kind_routed b Control = refl
kind_routed b Null = refl
kind_routed b (Other v) = refl

pub route_is : (kind : ℕ) (b : Bytes) (r : Route) → r ≡ route_of b (packet_type kind) → classify kind b ≡ routed b r
unfolding classify
route_is kind b r e = sym (ap (routed b) e ∙ kind_routed b (packet_type kind))
