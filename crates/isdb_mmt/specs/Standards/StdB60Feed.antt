-- ARIB STD-B60 in ISO/IEC 23008-1, IP and ARIB STD-B32: an MPT in a PA message, in an MMTP packet, in an IP datagram, in a TLV packet,
-- and the MPT that a push of that packet keeps; a divided object, and the record that pushes hand out.
use Rattle.std.specs.Prelude.{◌≡◌, ℕ, ◌≤◌, List, [], ◌∷◌, ◌++◌, map, length, drop, slice_index, Some, None}
use Rattle.isdb_tlv.specs.Iso23008.{not_protected, control_message, no_extension, Mmtp, Conforming, sent as mmtp_sent}
use Rattle.isdb_tlv.specs.StdB32.{compressed_ip, kind_code, Tlv, tlv_sent, TlvConforming, ipv6_id, Hcfb, hcfb_sent}
use Rattle.isdb_mmt.specs.Formats.Part.{part_of}
use Rattle.isdb_mmt.specs.Formats.Mpt.{mpt_of, assets_from}
use Rattle.isdb_mmt.specs.Decoder.Packet.{Bytes, classify}
use Rattle.isdb_mmt.specs.Decoder.Model.{State, control_of, pushed}
use Rattle.isdb_mmt.specs.Books.Demand.{Feed}
use Rattle.isdb_mmt.specs.Memory.Limits.{asked}
use Rattle.isdb_mmt.specs.Memory.Session.{Session}
use Rattle.isdb_mmt.specs.Memory.Check.{lengths_of}
use Rattle.isdb_mmt.specs.Memory.View.{view}
use Rattle.isdb_mmt.specs.Memory.Opening.{opened_session}
use Rattle.isdb_mmt.specs.Memory.Octets.{Lent}
use Rattle.isdb_mmt.specs.Pushes.Push.{Input, Pushed, leaves_all, handed_all, AllTaken, AllBytes, packets_of}
use Rattle.isdb_mmt.specs.Standards.StdB60.{loop_sent}
use Rattle.isdb_mmt.specs.Standards.StdB60Tables.{asset_seen, asset_value, SentMpt, mpt_sent}
use Rattle.isdb_mmt.specs.Standards.StdB60Messages.{control_sent}
use Rattle.isdb_mmt.specs.Standards.StdB60Objects.{SentObject, object_packets, object_data, ObjectConforming}
use Rattle.isdb_mmt.specs.Standards.StdB60Objects.{received, object_seen, record_of, id_packets, id_records, Carried, AllCarried}
use Rattle.isdb_mmt.specs.Standards.StdB60Kept.{MptInPa, mpt_in_pa_sent, MptInPaConforming, mpt_witness, mpt_witness_bytes}
use Rattle.isdb_mmt.specs.declared.decoder.limits.Limits.{Limits}
use Rattle.isdb_mmt.specs.declared.table.mpt.Mpt.{Mpt}

-- STD-B60, 6.4.1.1, Table 6-6: a PA message with an MPT is the payload of an MMTP packet of the type of control messages, which the
-- TLV packet (STD-B32 Part 3, 3.5) of the type `kind` and the data `b` carries
pub record MptCarried (x : MptInPa) (m : Mmtp) (kind : ℕ) (b : Bytes) : Type 0 where
  pub message : MptInPaConforming x
  pub packet : Conforming m
  pub type : m.kind ≡ control_message
  pub payload : m.payload ≡ control_sent (mpt_in_pa_sent x)
  pub datagram : Carried (mmtp_sent m) (kind, b)

-- proved in proofs/StdB60Feed.antt: the MPT of the packet id is the sender's, byte by byte, whatever was kept before
abbrev pub MptFed : Type 0
MptFed =
    (x : MptInPa) (m : Mmtp) (kind : ℕ) (b : Bytes) → MptCarried x m kind b → (s : State)
    → (control_of m.packet_id (pushed s (classify kind b))).mpt ≡ Some (mpt_sent x.mpt)

-- the same of a push in lent memory that is not turned down
abbrev pub MptPushed : Type 0
MptPushed =
    (x : MptInPa) (m : Mmtp) (i : Input) → MptCarried x m i.kind i.bytes
    → (s s' : Session) (number records bytes : ℕ) (rows out : Bytes) → Pushed s i number records bytes s' rows out → number ≡ 0
    → (control_of m.packet_id (view s')).mpt ≡ Some (mpt_sent x.mpt)

-- STD-B32 Part 3, 3.5: the same of the bytes of a whole TLV packet, its type the second and its data from the fifth on
abbrev pub MptInTlv : Type 0
MptInTlv =
    (x : MptInPa) (m : Mmtp) (t : Tlv) → TlvConforming t → MptCarried x m (kind_code t.kind) t.content → (s : State)
    → (control_of m.packet_id (pushed s (classify (slice_index (tlv_sent t) 1) (drop 4 (tlv_sent t))))).mpt ≡ Some (mpt_sent x.mpt)

-- STD-B60, Table 7-6: bytes that are read as the sender's MPT, with its package id, descriptors and assets
pub record ReadAsSent (t : SentMpt) (b : Bytes) : Type 0 where
  pub mpt : Mpt
  pub parsed : (mpt_of b).mpt ≡ Some mpt
  pub table_id : mpt.table_id ≡ t.table_id
  pub version : mpt.version ≡ t.version
  pub mode : mpt.mode ≡ t.mode
  pub package_id : part_of b mpt.package_id ≡ t.package_id
  pub descriptors : part_of b mpt.descriptors ≡ loop_sent t.descriptors
  pub assets : map (asset_seen b) (assets_from mpt.assets b mpt.start).found ≡ map asset_value t.assets

-- so what a push keeps has the sender's assets
abbrev pub AssetsPushed : Type 0
AssetsPushed =
    (x : MptInPa) (m : Mmtp) (i : Input) → MptCarried x m i.kind i.bytes
    → (s s' : Session) (number records bytes : ℕ) (rows out : Bytes) → Pushed s i number records bytes s' rows out → number ≡ 0
    → (kept : Bytes) → (control_of m.packet_id (view s')).mpt ≡ Some kept → ReadAsSent x.mpt kept

-- a witness: the MPT of StdB60Kept in a header-compressed packet, context 1, number 0, header type 61h
abbrev pub fed_mmtp : Mmtp
fed_mmtp =
    record {
      fec = not_protected;
      reserved = 0;
      rap = 0;
      reserved2 = 0;
      kind = control_message;
      packet_id = 0x8001;
      delivery_timestamp = 8;
      sequence_number = 1;
      packet_counter = None;
      extension = no_extension;
      payload = control_sent (mpt_in_pa_sent mpt_witness);
    }

abbrev pub fed_hcfb : Hcfb
fed_hcfb = record { context = 1; sequence = 0; header = ipv6_id; payload = mmtp_sent fed_mmtp }

abbrev pub fed_tlv : Tlv
fed_tlv = record { kind = compressed_ip; content = hcfb_sent fed_hcfb }

abbrev pub fed_bytes : List ℕ
fed_bytes =
    0x7F ∷ 0x03 ∷ 0x00 ∷ 0x30
    ∷ 0x00 ∷ 0x10 ∷ 0x61
    ∷ 0x00 ∷ 0x02 ∷ 0x80 ∷ 0x01 ∷ 0x00 ∷ 0x00 ∷ 0x00 ∷ 0x08 ∷ 0x00 ∷ 0x00 ∷ 0x00 ∷ 0x01
    ∷ mpt_witness_bytes

pub record FedWitness : Type 0 where
  pub conforms : TlvConforming fed_tlv
  pub carried : MptCarried mpt_witness fed_mmtp 0x03 (hcfb_sent fed_hcfb)
  pub bytes : tlv_sent fed_tlv ≡ fed_bytes
  pub kept : (s : State) → (control_of 0x8001 (pushed s (classify 0x03 (drop 4 fed_bytes)))).mpt
      ≡ Some (0x20 ∷ 0x01 ∷ 0x00 ∷ 0x05 ∷ 0xFC ∷ 0x00 ∷ 0x00 ∷ 0x00 ∷ 0x00 ∷ [])

-- ---- a divided object, at the level of accepted pushes from an opened session

abbrev pub feed_of : List Input → Feed
feed_of xs = map (λ i. (i.kind, i.bytes)) xs

-- pushes of packets that carry the object's MMTP packets hand out one record: the object, whole
abbrev pub ObjectHanded : Type 0
ObjectHanded =
    (o : SentObject) → ObjectConforming o → length (object_data o) ≤ 16777216
    → (l : Limits) (s : Session) → asked l (lengths_of s) ≡ 0 → Lent s
    → (xs : List Input) → AllBytes xs → AllTaken (opened_session l s) xs → AllCarried (object_packets o) (feed_of xs)
    → handed_all (opened_session l s) xs ≡ record_of o.packet_id (object_seen o) ∷ []

-- the same of the records of its packet id, whatever else is pushed in between
abbrev pub ObjectHandedAmong : Type 0
ObjectHandedAmong =
    (o : SentObject) → ObjectConforming o → length (object_data o) ≤ 16777216
    → (l : Limits) (s : Session) → asked l (lengths_of s) ≡ 0 → Lent s
    → (xs : List Input) → AllBytes xs → AllTaken (opened_session l s) xs
    → id_packets o.packet_id (packets_of xs) ≡ map received (object_packets o)
    → id_records o.packet_id (handed_all (opened_session l s) xs) ≡ record_of o.packet_id (object_seen o) ∷ []

-- and the MPT after every list of accepted pushes, the last of which carries it
abbrev pub MptPushedLast : Type 0
MptPushedLast =
    (x : MptInPa) (m : Mmtp) (i : Input) → MptCarried x m i.kind i.bytes
    → (l : Limits) (s : Session) → asked l (lengths_of s) ≡ 0 → Lent s
    → (xs : List Input) → AllBytes (xs ++ (i ∷ [])) → AllTaken (opened_session l s) (xs ++ (i ∷ []))
    → (control_of m.packet_id (view (leaves_all (opened_session l s) (xs ++ (i ∷ []))))).mpt ≡ Some (mpt_sent x.mpt)
