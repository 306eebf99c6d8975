-- An MPT that a conforming sender puts into a feed is the one that a push keeps, and an object that it divides is handed out
-- whole. Assumes nothing.
use Rattle.std.specs.Prelude.{Some}
use Rattle.std.proofs.Common.{◌≡◌, ℕ, Bool, List, [], ◌∷◌, ◌++◌, get_or, drop, sym, refl, ap, ◌∙◌, subst, arith}
use Rattle.isdb_tlv.specs.Fields.{bytes_of}
use Rattle.isdb_tlv.specs.Iso23008.{Mmtp, sent as mmtp_sent}
use Rattle.isdb_tlv.specs.StdB32.{kind_code}
use Rattle.isdb_tlv.specs.StdB32.{Tlv, tlv_sent, TlvConforming, hcfb_sent, ipv6_id_fits}
use Rattle.isdb_tlv.proofs.Iso23008.{iso23008}
use Rattle.isdb_tlv.proofs.StdB32.{tlv, kind_named}
use Rattle.isdb_mmt.specs.Decoder.Packet.{Bytes, message, message_packet, classify}
use Rattle.isdb_mmt.specs.Decoder.Maps.{find, or_else}
use Rattle.isdb_mmt.specs.Decoder.Objects.{fresh}
use Rattle.isdb_mmt.specs.Decoder.Model.{State, opened, asset_of, control_of, pushed}
use Rattle.isdb_mmt.specs.Books.Demand.{push_all, packets_of as fed_packets}
use Rattle.isdb_mmt.specs.Memory.View.{view}
use Rattle.isdb_mmt.specs.Pushes.Push.{Input, packet_of, packets_of}
use Rattle.isdb_mmt.specs.Standards.StdB60Tables.{SentMpt, mpt_sent, MptConforming}
use Rattle.isdb_mmt.specs.Standards.StdB60Messages.{control_sent}
use Rattle.isdb_mmt.specs.Standards.StdB60Kept.{MptInPa, mpt_in_pa_sent, mpt_witness}
use Rattle.isdb_mmt.specs.Standards.StdB60Objects.{SentObject, Awaited, id_records, by_hcfb}
use Rattle.isdb_mmt.specs.Standards.StdB60Feed.{MptCarried, MptFed, MptPushed, MptInTlv, ReadAsSent, AssetsPushed}
use Rattle.isdb_mmt.specs.Standards.StdB60Feed.{fed_mmtp, fed_hcfb, FedWitness, feed_of, ObjectHanded, ObjectHandedAmong, MptPushedLast}
use Rattle.isdb_mmt.proofs.StdB60Tables.{mpt}
use Rattle.isdb_mmt.proofs.StdB60Objects.{among_others, carried, feeds}
use Rattle.isdb_mmt.proofs.Accepted.{demand_2}
use Rattle.isdb_mmt.proofs.StdB60Kept.{mpt_in_pa, mpt_witness_lem}

-- the packet is classified as a message packet, with the sender's payload
module _ (x : MptInPa) (m : Mmtp) {kind : ℕ} {b : List ℕ} (c : MptCarried x m kind b) where
  seen : classify kind b ≡ message (message_packet m.packet_id m.sequence_number (control_sent (mpt_in_pa_sent x)))
  seen =
      let r = iso23008 m c.packet in
      carried c.datagram ∙ rw (r.fields, r.payload, c.type, c.payload)

pub mpt_fed : MptFed
mpt_fed x m kind b c s = rw (seen x m c) (mpt_in_pa x c.message s m.packet_id m.sequence_number)

pub mpt_pushed : MptPushed
mpt_pushed x m i c s s' number records bytes rows out p zero =
    ap (λ y. (control_of m.packet_id y).mpt) (p.state zero) ∙ mpt_fed x m i.kind i.bytes c (view s)

tlv_read : (t : Tlv) → TlvConforming t → classify (get_or (tlv_sent t) 1 0) (drop 4 (tlv_sent t)) ≡ classify (kind_code t.kind) t.content
unfolding classify
tlv_read t c = rw ((tlv t c).kind, (tlv t c).content, kind_named t.kind)

pub mpt_in_tlv : MptInTlv
mpt_in_tlv x m t fits c s = rw (tlv_read t fits) (mpt_fed x m (kind_code t.kind) t.content c s)

-- what is read of the sender's bytes
read_as_sent : (t : SentMpt) → MptConforming t → ReadAsSent t (mpt_sent t)
read_as_sent t c =
    let r = mpt t c in
    record {
      mpt = _;
      parsed = ap (λ y. y.mpt) r.table;
      table_id = refl;
      version = refl;
      mode = refl;
      package_id = r.package_id;
      descriptors = r.descriptors;
      assets = r.assets;
    }

same_bytes : {a b : Bytes} → Some a ≡ Some b → a ≡ b
unfolding or_else
same_bytes e = ap (or_else []) e

pub assets_pushed : AssetsPushed
assets_pushed x m i c s s' number records bytes rows out p zero kept e =
    let sent = mpt_pushed x m i c s s' number records bytes rows out p zero in
    subst (ReadAsSent x.mpt) (same_bytes (sym sent ∙ e)) (read_as_sent x.mpt c.message.mpt)

fed_carried : MptCarried mpt_witness fed_mmtp 0x03 (hcfb_sent fed_hcfb)
fed_carried =
    record {
      message = mpt_witness_lem.conforms;
      packet = omega arith;
      type = refl;
      payload = refl;
      datagram = by_hcfb fed_hcfb (record { context = omega arith; sequence = omega arith; header = ipv6_id_fits }) tt;
    }

pub fed_witness : FedWitness
unfolding tlv_sent hcfb_sent mmtp_sent control_sent mpt_sent bytes_of
fed_witness =
    record {
      conforms = omega arith;
      carried = fed_carried;
      bytes = refl;
      kept = λ s. mpt_fed mpt_witness fed_mmtp 0x03 (hcfb_sent fed_hcfb) fed_carried s;
    }

-- ---- a divided object

feed_packets : (xs : List Input) → fed_packets (feed_of xs) ≡ packets_of xs
feed_packets [] = refl
feed_packets (i ∷ xs) = ap (λ ps. packet_of i ∷ ps) (feed_packets xs)

-- an opened state awaits every object
opened_awaits : (pass : Bool) (o : SentObject) → Awaited (opened pass) o
unfolding asset_of opened or_else find fresh
opened_awaits pass o = record { held = refl; number = tt }

pub object_handed : ObjectHanded
object_handed o c short l s a h xs b t all =
    let pass = l.pass_scrambled in
    let d = feeds o c short (opened pass) (opened_awaits pass o) (feed_of xs) all in
    (demand_2 l s a h xs b t).records ∙ (rw (feed_packets xs) at d.given)

pub object_handed_among : ObjectHandedAmong
object_handed_among o c short l s a h xs b t own =
    let pass = l.pass_scrambled in
    let d = among_others o c short (opened pass) (opened_awaits pass o) (packets_of xs) own in
    ap (id_records o.packet_id) (demand_2 l s a h xs b t).records ∙ d.0

-- the last of some packets
push_last : (s : State) (xs : List Input) (i : Input)
    → push_all s (packets_of (xs ++ (i ∷ []))) ≡ pushed (push_all s (packets_of xs)) (packet_of i)
unfolding push_all
push_last s [] i = refl
push_last s (x ∷ xs) i = push_last (pushed s (packet_of x)) xs i

pub mpt_pushed_last : MptPushedLast
mpt_pushed_last x m i c l s a h xs b t =
    let o = opened l.pass_scrambled in
    ap (λ y. (control_of m.packet_id y).mpt) ((demand_2 l s a h (xs ++ (i ∷ [])) b t).state ∙ push_last o xs i)
    ∙ mpt_fed x m i.kind i.bytes c (push_all o (packets_of xs))
