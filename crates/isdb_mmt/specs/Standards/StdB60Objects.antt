-- ARIB STD-B60, 6.3.2, Table 6-3: an object that a conforming sender divides over MMTP packets (ISO/IEC 23008-1), and what it
-- means to join it right.
use Rattle.isdb_tlv.specs.declared.ip.Flow.{Flow}
use Rattle.std.specs.Prelude.{◌≡◌, ℕ, ◌+◌, ◌%◌, ◌^◌, ◌≤◌, Bool, false, List, [], ◌∷◌, ◌++◌, map, length, None, Some, Option}
use Rattle.isdb_tlv.specs.Guards.{◌=?◌}
use Rattle.std.specs.Prelude.{if◌then◌else◌}
use Rattle.isdb_tlv.specs.Fields.{bytes_of}
use Rattle.isdb_tlv.specs.Mmtp.{mmtp_of}
use Rattle.isdb_tlv.specs.Iso23008.{not_protected, mpu, not_scrambled, scrambling, Extension, no_extension, multi_type, Mmtp, Conforming, scrambling_of, info_seen}
use Rattle.isdb_tlv.specs.Iso23008.{sent as mmtp_sent}
use Rattle.isdb_tlv.specs.Rfc791.{Ipv4, Conforming as Ipv4Conforming, flow_of as ipv4_flow, sent as ipv4_sent}
use Rattle.isdb_tlv.specs.Rfc8200.{Ipv6, Conforming as Ipv6Conforming, flow_of as ipv6_flow, sent as ipv6_sent}
use Rattle.isdb_tlv.specs.StdB32.{Hcfb, HcfbConforming, flow_in, hcfb_sent}
use Rattle.isdb_mmt.specs.Decoder.Packet.{Packet, ip_error, ntp, non_mmtp_of, media, message, control, other, mmtp_in}
use Rattle.isdb_mmt.specs.Decoder.Objects.{Mfu, Asset, Rec}
use Rattle.isdb_mmt.specs.Decoder.Model.{State, opened, asset_of}
use Rattle.isdb_mmt.specs.Books.Demand.{push_all, give_all, Feed, packets_of}
use Rattle.isdb_mmt.specs.Standards.StdB60Mpu.{untimed_header, SentUnit, one_unit_of, Division, head, middle, last, SentPayload, payload_sent}
use Rattle.isdb_mmt.specs.Standards.StdB60Mpu.{PayloadConforming, mfu_seen, item_seen}

-- a part of an object, and what else its packet says: of `frame` all but the payload type, packet id, number and payload
pub record ObjectPart : Type 0 where
  pub frame : Mmtp
  pub counter : ℕ
  pub unit : SentUnit

-- an object in two parts or more, all of one MPU; `number` is the first packet's
pub record SentObject : Type 0 where
  pub packet_id : ℕ
  pub number : ℕ
  pub timed : ℕ
  pub mpu_sequence_number : ℕ
  pub first : ObjectPart
  pub middles : List ObjectPart
  pub final : ObjectPart

abbrev pub part_payload : SentObject → Division → ObjectPart → SentPayload
part_payload o d x =
    record { timed = o.timed; division = d; counter = x.counter; mpu_sequence_number = o.mpu_sequence_number; body = one_unit_of x.unit }

-- of the type of MPU payloads
abbrev pub part_packet : SentObject → ℕ → Division → ObjectPart → Mmtp
part_packet o n d x =
    record {
      fec = x.frame.fec;
      reserved = x.frame.reserved;
      rap = x.frame.rap;
      reserved2 = x.frame.reserved2;
      kind = mpu;
      packet_id = o.packet_id;
      delivery_timestamp = x.frame.delivery_timestamp;
      sequence_number = n;
      packet_counter = x.frame.packet_counter;
      extension = x.frame.extension;
      payload = payload_sent (part_payload o d x);
    }

-- packet sequence numbers go on modulo 2^32
abbrev pub next_number : ℕ → ℕ
next_number n = (n + 1) % 2 ^ 32

abbrev pub packets_from : SentObject → ℕ → List ObjectPart → ObjectPart → List Mmtp
packets_from o n [] final = part_packet o n last final ∷ []
packets_from o n (x ∷ xs) final = part_packet o n middle x ∷ packets_from o (next_number n) xs final

abbrev pub object_packets : SentObject → List Mmtp
object_packets o = part_packet o o.number head o.first ∷ packets_from o (next_number o.number) o.middles o.final

abbrev pub data_from : List ObjectPart → ObjectPart → List ℕ
data_from [] final = final.unit.content
data_from (x ∷ xs) final = x.unit.content ++ data_from xs final

-- what was divided
abbrev pub object_data : SentObject → List ℕ
object_data o = o.first.unit.content ++ data_from o.middles o.final

pub record PartConforming (o : SentObject) (n : ℕ) (d : Division) (x : ObjectPart) : Type 0 where
  pub packet : Conforming (part_packet o n d x)
  pub payload : PayloadConforming (part_payload o d x)
  -- no scrambling information, or one that says not scrambled
  pub clear : info_seen (scrambling_of x.frame.extension) ≡ false

abbrev pub PartsConforming : SentObject → ℕ → List ObjectPart → ObjectPart → Type 0
PartsConforming o n [] final = PartConforming o n last final
PartsConforming o n (x ∷ xs) final = PartConforming o n middle x × PartsConforming o (next_number n) xs final

pub record ObjectConforming (o : SentObject) : Type 0 where
  pub first : PartConforming o o.number head o.first
  pub others : PartsConforming o (next_number o.number) o.middles o.final

-- an MMTP packet's bytes, as the decoder has them
abbrev pub received : Mmtp → Packet
received m = mmtp_in (mmtp_sent m) (mmtp_of (mmtp_sent m))

-- the last packet number, if any, is the one before
abbrev pub Before : Option ℕ → ℕ → Type 0
Before None n = Unit {0}
Before (Some l) n = next_number l ≡ n

-- nothing of the object's packet id is held, and its first packet is the next one
pub record Awaited (s : State) (o : SentObject) : Type 0 where
  pub held : (asset_of o.packet_id s).held ≡ None
  pub number : Before (asset_of o.packet_id s).number o.number

-- the object with its whole data, and the fields of its first part
abbrev pub object_seen : SentObject → Mfu
object_seen o =
    record {
      mpu = o.mpu_sequence_number;
      rap = o.first.frame.rap =? 1;
      mfu = mfu_seen o.first.unit.header;
      item_id = item_seen o.first.unit.header;
      bytes = object_data o;
    }

-- what is known of a packet id, before `n` packets that deliver one object and after them: nothing is held, lost or dropped,
-- nothing was malformed
pub record OneDelivered (n : ℕ) (a b : Asset) : Type 0 where
  pub held : b.held ≡ None
  pub packets : b.stats.packets ≡ a.stats.packets + n
  pub delivered : b.stats.mfus ≡ a.stats.mfus + 1
  pub lost : b.stats.packets_lost ≡ a.stats.packets_lost
  pub dropped : b.stats.mfus_dropped ≡ a.stats.mfus_dropped
  pub malformed : b.stats.malformed ≡ a.stats.malformed

abbrev pub record_of : ℕ → Mfu → Rec
record_of i x = record { id = i; scrambled = false; mfu = x }

-- from a state on, the packets give out one record, of the id `i`, and none of them counts as unreadable
pub record Delivers (i : ℕ) (s : State) (ps : List Packet) (x : Mfu) : Type 0 where
  pub given : give_all s ps ≡ record_of i x ∷ []
  pub asset : OneDelivered (length ps) (asset_of i s) (asset_of i (push_all s ps))
  pub ip_errors : (push_all s ps).counters.ip_errors ≡ s.counters.ip_errors
  pub non_mmtp : (push_all s ps).counters.non_mmtp ≡ s.counters.non_mmtp

-- proved in proofs/StdB60Objects.antt; a decoder holds at most 16,777,216 bytes of an object
abbrev pub ObjectTheorem : Type 0
ObjectTheorem = (o : SentObject) → ObjectConforming o → length (object_data o) ≤ 16777216 → (s : State) → Awaited s o
    → Delivers o.packet_id s (map received (object_packets o)) (object_seen o)

-- the media packets of an id, and the records of an id
abbrev pub is_of : ℕ → Packet → Bool
is_of i (media m) = i =? m.id
is_of i ip_error = false
is_of i (ntp t) = false
is_of i non_mmtp_of = false
is_of i (message c) = false
is_of i (control bs) = false
is_of i other = false

unfoldable pub id_packets : ℕ → List Packet → List Packet
id_packets i [] = []
id_packets i (p ∷ ps) = if is_of i p then p ∷ id_packets i ps else id_packets i ps

unfoldable pub id_records : ℕ → List Rec → List Rec
id_records i [] = []
id_records i (r ∷ rs) = if i =? r.id then r ∷ id_records i rs else id_records i rs

-- whatever packets, of any kind and of other ids, arrive in between
abbrev pub AmongOthersTheorem : Type 0
AmongOthersTheorem = (o : SentObject) → ObjectConforming o → length (object_data o) ≤ 16777216 → (s : State) → Awaited s o
    → (ps : List Packet) → id_packets o.packet_id ps ≡ map received (object_packets o)
    → (id_records o.packet_id (give_all s ps) ≡ record_of o.packet_id (object_seen o) ∷ [])
    × OneDelivered (length (object_packets o)) (asset_of o.packet_id s) (asset_of o.packet_id (push_all s ps))

-- to a port other than NTP's
abbrev pub NotNtp : Option Flow → Type 0
NotNtp None = Unit {0}
NotNtp (Some f) = f.dport ≡ 123 → ⊥

-- bytes that a TLV packet carries, by its kind and data: in IPv4 (01h) or IPv6 (02h) with UDP, or header-compressed (03h)
pub data Carried : List ℕ → ℕ × List ℕ → Type 0 where
  by_ipv4 : (d : Ipv4) → Ipv4Conforming d → NotNtp (Some (ipv4_flow d)) → Carried d.payload (0x01, ipv4_sent d)
  by_ipv6 : (d : Ipv6) → Ipv6Conforming d → NotNtp (Some (ipv6_flow d)) → Carried d.payload (0x02, ipv6_sent d)
  by_hcfb : (p : Hcfb) → HcfbConforming p → NotNtp (flow_in p.header) → Carried p.payload (0x03, hcfb_sent p)

abbrev pub AllCarried : List Mmtp → Feed → Type 0
AllCarried [] [] = Unit {0}
AllCarried [] (x ∷ f) = ⊥
AllCarried (m ∷ ms) [] = ⊥
AllCarried (m ∷ ms) (x ∷ f) = Carried (mmtp_sent m) x × AllCarried ms f

-- so a feed's bytes, as pushes are given them, deliver the object
abbrev pub FeedTheorem : Type 0
FeedTheorem = (o : SentObject) → ObjectConforming o → length (object_data o) ≤ 16777216 → (s : State) → Awaited s o
    → (f : Feed) → AllCarried (object_packets o) f → Delivers o.packet_id s (packets_of f) (object_seen o)

-- an item in three parts, over the numbers 4,294,967,295, 0 and 1; the first packet has the RAP flag, the second a packet
-- counter, the last scrambling information that says clear
abbrev pub example_frame : ℕ → Option ℕ → Extension → Mmtp
example_frame rap counter extension =
    record {
      fec = not_protected;
      reserved = 0;
      rap = rap;
      reserved2 = 0;
      kind = mpu;
      packet_id = 0;
      delivery_timestamp = 8;
      sequence_number = 0;
      packet_counter = counter;
      extension = extension;
      payload = [];
    }

abbrev pub example_part : Mmtp → ℕ → ℕ → ObjectPart
example_part frame counter byte =
    record { frame = frame; counter = counter; unit = record { header = untimed_header 9; content = byte ∷ [] } }

abbrev pub example_object : SentObject
example_object =
    record {
      packet_id = 0xf110;
      number = 0xffffffff;
      timed = 0;
      mpu_sequence_number = 7;
      first = example_part (example_frame 1 None no_extension) 1 0x01;
      middles = example_part (example_frame 0 (Some 5) no_extension) 2 0x02 ∷ [];
      final = example_part (example_frame 0 None (multi_type [] (scrambling 0 not_scrambled 0 []))) 3 0x03;
    }

-- behind the MMTP headers stand payloads of crates/cases/stdin, each a line `units HEX`
abbrev pub example_object_bytes : List (List ℕ)
example_object_bytes =
    (bytes_of 12 0x0100f11000000008ffffffff ++ bytes_of 13 0x000b2201000000070000000901)
    ∷ (bytes_of 16 0x2000f110000000080000000000000005 ++ bytes_of 13 0x000b2402000000070000000902)
    ∷ (bytes_of 21 0x0200f1100000000800000001000000058001000100 ++ bytes_of 13 0x000b2603000000070000000903)
    ∷ []

-- each in a header-compressed packet: context 1, number 0, header type 61h
abbrev pub example_feed : Feed
example_feed = map (λ b. (0x03, bytes_of 3 0x001061 ++ b)) example_object_bytes

pub record ObjectExample : Type 0 where
  pub conforms : ObjectConforming example_object
  pub bytes : map mmtp_sent (object_packets example_object) ≡ example_object_bytes
  pub whole : object_data example_object ≡ 0x01 ∷ 0x02 ∷ 0x03 ∷ []
  pub awaited : (pass : Bool) → Awaited (opened pass) example_object
  pub carried : AllCarried (object_packets example_object) example_feed
