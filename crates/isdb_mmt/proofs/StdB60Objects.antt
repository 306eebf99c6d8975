-- What a sender that conforms to ARIB STD-B60 divides over packets is joined right. Assumes nothing.
use Rattle.std.specs.Prelude.{None, Some, Option, is_some}
use Rattle.isdb_tlv.specs.declared.ip.Flow.{Flow}
use Rattle.std.proofs.Common.{◌≡◌, ℕ, ◌+◌, ◌%◌, ◌^◌, ◌≤◌, Bool, true, false, ◌&&◌, List, [], ◌∷◌, ◌++◌, map, length, get_or, sym, refl, ◌∙◌, append_assoc, append-nil, add-zero, arith, length-append, eq-eqb, ne_eqb, le-leb}
use lib.ListN.{length-map}
use Rattle.isdb_tlv.specs.Guards.{◌=?◌}
use Rattle.isdb_tlv.specs.Tlv.{packet_type}
use Rattle.isdb_tlv.specs.Mmtp.{mmtp_of}
use Rattle.isdb_tlv.specs.Fields.{bytes_of}
use Rattle.isdb_tlv.specs.Iso23008.{Mmtp, header_of, sent as mmtp_sent}
use Rattle.isdb_tlv.specs.Rfc791.{flow_of as ipv4_flow}
use Rattle.isdb_tlv.specs.Rfc8200.{flow_of as ipv6_flow}
use Rattle.isdb_tlv.specs.StdB32.{ipv6_id, Hcfb, ipv6_id_fits, HcfbConforming, flow_in, hcfb_sent}
use Rattle.isdb_tlv.proofs.Guards.{cond_elim, either}
use Rattle.isdb_tlv.proofs.Rfc791.{rfc791}
use Rattle.isdb_tlv.proofs.Rfc8200.{rfc8200}
use Rattle.isdb_tlv.proofs.StdB32.{hcfb}
use Rattle.isdb_tlv.proofs.Iso23008.{iso23008}
use Rattle.isdb_mmt.specs.Formats.Mpu.{follows}
use Rattle.isdb_mmt.specs.Decoder.Packet.{Bytes, PayloadUnit, MpuPacket, clear, readable, mmtp_in, in_flow, classify}
use Rattle.isdb_mmt.specs.Decoder.Packet.{Packet, ip_error, ntp, non_mmtp_of, media, message, control, other}
use Rattle.isdb_mmt.specs.Decoder.Maps.{find, or_else}
use Rattle.isdb_mmt.specs.Decoder.Objects.{Mfu, Asset, fresh, Rec, most_object, gap, lost_by, UnitEffect, grown, continued, effect_of, object_of, unit_effect}
use Rattle.isdb_mmt.specs.Decoder.Objects.{after_unit, after_units, delivered_by, malformed_payload, after_headers, asset_after, tagged, passes, media_gives}
use Rattle.isdb_mmt.specs.Decoder.Model.{State, opened, asset_of, packet_counted, pushed, gives}
use Rattle.isdb_mmt.specs.Books.Demand.{push_all, give_all, Feed, packets_of}
use Rattle.isdb_mmt.specs.declared.mpu.PayloadHeader.{PayloadHeader}
use Rattle.isdb_mmt.proofs.Maps.{eqb_self, eqb-true, find_put, find_put_other}
use Rattle.isdb_mmt.specs.Standards.StdB60Mpu.{Division, head, middle, last, division_seen, payload_sent, header_seen}
use Rattle.isdb_mmt.specs.Standards.StdB60Mpu.{mfu_seen, item_seen, unit_seen, media_seen}
use Rattle.isdb_mmt.specs.Standards.StdB60Objects.{ObjectPart, SentObject, part_payload, part_packet, next_number, packets_from, object_packets, data_from}
use Rattle.isdb_mmt.specs.Standards.StdB60Objects.{PartConforming, PartsConforming, received, Before, Delivers, ObjectTheorem}
use Rattle.isdb_mmt.specs.Standards.StdB60Objects.{is_of, id_packets, id_records, AmongOthersTheorem, NotNtp, Carried, by_ipv4, by_ipv6, by_hcfb, AllCarried, FeedTheorem}
use Rattle.isdb_mmt.specs.Standards.StdB60Objects.{example_object, ObjectExample}
use Rattle.isdb_mmt.proofs.StdB60Mpu.{payloads}

-- the packet of a part, as the decoder has it
abbrev part_seen : SentObject → ℕ → Division → ObjectPart → MpuPacket
part_seen o n d x = media_seen (header_of (part_packet o n d x)) (part_payload o d x) []

part_received : (o : SentObject) (n : ℕ) (d : Division) (x : ObjectPart) → PartConforming o n d x
    → received (part_packet o n d x) ≡ media (part_seen o n d x)
part_received o n d x c =
    let m = part_packet o n d x in
    let p = part_payload o d x in
    let r = iso23008 m c.packet in
    let e = rw (append-nil (payload_sent p)) at ((payloads p c.payload []).media (header_of m)) in
    rw (r.fields, r.payload, e)

-- what follows the last number leaves no gap
no_gap : (l : Option ℕ) (n : ℕ) → Before l n → gap l n ≡ false
unfolding gap follows
no_gap None n b = refl
no_gap (Some l) n b = rw (eq-eqb n ((l + 1) % 2 ^ 32) (sym b))

none_lost : (l : Option ℕ) (n : ℕ) → Before l n → lost_by l n ≡ 0
unfolding lost_by follows
none_lost None n b = refl
none_lost (Some l) n b = rw (eq-eqb n ((l + 1) % 2 ^ 32) (sym b))

-- a clear packet of one unit that follows: what it does is what its unit does
pub record Takes (a : Asset) (m : MpuPacket) (x : UnitEffect) : Type 0 where
  pub given : (pass : Bool) → media_gives pass a m ≡ tagged m.id x.outs
  pub number : (asset_after a m).number ≡ Some m.number
  pub held : (asset_after a m).held ≡ x.held
  pub packets : (asset_after a m).stats.packets ≡ a.stats.packets + 1
  pub delivered : (asset_after a m).stats.mfus ≡ a.stats.mfus + length x.outs
  pub lost : (asset_after a m).stats.packets_lost ≡ a.stats.packets_lost
  pub dropped : (asset_after a m).stats.mfus_dropped ≡ a.stats.mfus_dropped + x.drops
  pub malformed : (asset_after a m).stats.malformed ≡ a.stats.malformed

module _ (a : Asset) (m : MpuPacket) (h : PayloadHeader) (u : PayloadUnit) (next : Before a.number m.number)
    (unscrambled : m.scrambled ≡ false) (headed : m.header ≡ Some h) (holds : m.units ≡ Some (u ∷ [])) where
  units_taken : readable m ≡ u ∷ []
  unfolding readable clear
  units_taken = rw (unscrambled, holds)

  none_passed : (pass : Bool) → passes pass m ≡ []
  unfolding passes
  none_passed true = rw unscrambled
  none_passed false = refl

  pub takes : Takes a m (effect_of u.fragment a.held (object_of m u))
  unfolding asset_after after_units after_unit unit_effect after_headers media_gives delivered_by malformed_payload
  takes =
      let g = no_gap a.number m.number next in
      let l = none_lost a.number m.number next in
      record {
        given = λ pass. rw (none_passed pass, units_taken, g) (rw append-nil);
        number = rw units_taken;
        held = rw (units_taken, g);
        packets = rw units_taken;
        delivered = rw (units_taken, g);
        lost = rw (units_taken, l) (omega arith);
        dropped = rw (units_taken, g) (rw add-zero);
        malformed = rw (units_taken, headed, unscrambled, holds) (rw add-zero);
      }

-- the same of the state
asset_after_lem : (s : State) (m : MpuPacket) → asset_of m.id (pushed s (media m)) ≡ asset_after (asset_of m.id s) m
unfolding asset_of pushed or_else
asset_after_lem s m = rw (find_put m.id (asset_after (asset_of m.id s) m) s.assets)

-- a packet that gives out nothing, before others that deliver an object
pub record Passes (i : ℕ) (s : State) (p : Packet) : Type 0 where
  pub given : gives s p ≡ []
  pub packets : (asset_of i (pushed s p)).stats.packets ≡ (asset_of i s).stats.packets + 1
  pub delivered : (asset_of i (pushed s p)).stats.mfus ≡ (asset_of i s).stats.mfus
  pub lost : (asset_of i (pushed s p)).stats.packets_lost ≡ (asset_of i s).stats.packets_lost
  pub dropped : (asset_of i (pushed s p)).stats.mfus_dropped ≡ (asset_of i s).stats.mfus_dropped
  pub malformed : (asset_of i (pushed s p)).stats.malformed ≡ (asset_of i s).stats.malformed
  pub ip_errors : (pushed s p).counters.ip_errors ≡ s.counters.ip_errors
  pub non_mmtp : (pushed s p).counters.non_mmtp ≡ s.counters.non_mmtp

then_delivers : {i : ℕ} {s : State} {p : Packet} {ps : List Packet} {x : Mfu} → Passes i s p
    → Delivers i (pushed s p) ps x → Delivers i s (p ∷ ps) x
unfolding push_all give_all
then_delivers {i} {s} {p} {ps} f r =
    record {
      given = rw (f.given, r.given);
      asset =
          record {
            held = r.asset.held;
            packets = r.asset.packets ∙ (rw f.packets (omega arith));
            delivered = r.asset.delivered ∙ rw f.delivered;
            lost = r.asset.lost ∙ f.lost;
            dropped = r.asset.dropped ∙ f.dropped;
            malformed = r.asset.malformed ∙ f.malformed;
          };
      ip_errors = r.ip_errors ∙ f.ip_errors;
      non_mmtp = r.non_mmtp ∙ f.non_mmtp;
    }

module _ (s : State) (m : MpuPacket) where
  media_passes : {x : UnitEffect} → Takes (asset_of m.id s) m x → x.outs ≡ [] → x.drops ≡ 0 → Passes m.id s (media m)
  unfolding pushed gives packet_counted tagged
  media_passes t none_out none_dropped =
      record {
        given = t.given s.passing ∙ rw none_out;
        packets = rw (asset_after_lem s m) t.packets;
        delivered = rw (asset_after_lem s m) (t.delivered ∙ rw none_out (rw add-zero));
        lost = rw (asset_after_lem s m) t.lost;
        dropped = rw (asset_after_lem s m) (t.dropped ∙ rw none_dropped (rw add-zero));
        malformed = rw (asset_after_lem s m) t.malformed;
        ip_errors = rw add-zero;
        non_mmtp = rw add-zero;
      }

  media_delivers : {x : UnitEffect} {o : Mfu} → Takes (asset_of m.id s) m x → x.outs ≡ o ∷ [] → x.drops ≡ 0 → x.held ≡ None
      → Delivers m.id s (media m ∷ []) o
  unfolding pushed gives packet_counted tagged push_all give_all
  media_delivers t one_out none_dropped none_held =
      record {
        given = rw append-nil (t.given s.passing ∙ rw one_out);
        asset =
            rw (asset_after_lem s m)
            (record {
              held = t.held ∙ none_held;
              packets = t.packets;
              delivered = t.delivered ∙ rw one_out;
              lost = t.lost;
              dropped = t.dropped ∙ rw none_dropped (rw add-zero);
              malformed = t.malformed;
            });
        ip_errors = rw add-zero;
        non_mmtp = rw add-zero;
      }

-- a part: what its packet does is what its unit does
abbrev part_object : SentObject → ObjectPart → Mfu
part_object o x =
    record {
      mpu = o.mpu_sequence_number;
      rap = x.frame.rap =? 1;
      mfu = mfu_seen x.unit.header;
      item_id = item_seen x.unit.header;
      bytes = x.unit.content;
    }

module _ (o : SentObject) (n : ℕ) (d : Division) (x : ObjectPart) (c : PartConforming o n d x) (a : Asset) where
  part_takes : Before a.number n → Takes a (part_seen o n d x) (effect_of (division_seen d) a.held (part_object o x))
  unfolding object_of
  part_takes b =
      takes a (part_seen o n d x) (header_seen (part_payload o d x)) (unit_seen d x.unit) b c.clear refl refl

grown_twice : (g : Mfu) (a b : Bytes) → grown (grown g a) b ≡ grown g (a ++ b)
unfolding grown
grown_twice g a b = rw (append_assoc g.bytes a b)

-- the parts behind the first, while `g` is held
rest_delivers : (o : SentObject) (xs : List ObjectPart) (final : ObjectPart) (n : ℕ) (s : State) (g : Mfu) → PartsConforming o n xs final
    → (asset_of o.packet_id s).held ≡ Some g → Before (asset_of o.packet_id s).number n
    → length g.bytes + length (data_from xs final) ≤ most_object
    → Delivers o.packet_id s (map received (packets_from o n xs final)) (grown g (data_from xs final))
unfolding effect_of continued
rest_delivers o [] final n s g c held b short =
    let a = asset_of o.packet_id s in
    let t = part_takes o n last final c a b in
    let fits = le-leb (length g.bytes + length final.unit.content) most_object short in
    rw (part_received o n last final c)
    (media_delivers s (part_seen o n last final) t (rw (held, fits)) (rw (held, fits)) (rw (held, fits)))
rest_delivers o (x ∷ xs) final n s g c held b short =
    let m = part_seen o n middle x in
    let a = asset_of o.packet_id s in
    let t = part_takes o n middle x c.0 a b in
    let more = length-append x.unit.content (data_from xs final) in
    let fits = le-leb (length g.bytes + length x.unit.content) most_object (omega arith) in
    let after = asset_after_lem s m in
    let s' = pushed s (media m) in
    let g' = grown g x.unit.content in
    let holds : (asset_of o.packet_id s').held ≡ Some g' = rw after (t.held ∙ rw (held, fits)) in
    let number : (asset_of o.packet_id s').number ≡ Some n = rw after t.number in
    let before : Before (asset_of o.packet_id s').number (next_number n) = rw number refl in
    let long = length-append g.bytes x.unit.content in
    let rest = rest_delivers o xs final (next_number n) s' g' c.1 holds before (omega arith) in
    rw (part_received o n middle x c.0, ← grown_twice g x.unit.content (data_from xs final))
    (then_delivers (media_passes s m t (rw (held, fits)) (rw (held, fits))) rest)

pub objects : ObjectTheorem
unfolding effect_of grown
objects o c short s w =
    let m = part_seen o o.number head o.first in
    let t = part_takes o o.number head o.first c.first (asset_of o.packet_id s) w.number in
    let after = asset_after_lem s m in
    let s' = pushed s (media m) in
    let g = part_object o o.first in
    let holds : (asset_of o.packet_id s').held ≡ Some g = rw after t.held in
    let number : (asset_of o.packet_id s').number ≡ Some o.number = rw after t.number in
    let before : Before (asset_of o.packet_id s').number (next_number o.number) = rw number refl in
    let long = length-append o.first.unit.content (data_from o.middles o.final) in
    let rest = rest_delivers o o.middles o.final (next_number o.number) s' g c.others holds before (omega arith) in
    rw (part_received o o.number head o.first c.first) (then_delivers (media_passes s m t refl (rw w.held)) rest)

-- ---- among other packets: two states that agree on an id agree on it after each packet

record Agree (i : ℕ) (s t : State) : Type 0 where
  passing : s.passing ≡ t.passing
  asset : asset_of i s ≡ asset_of i t

module _ (i : ℕ) where
  asset_own : (s : State) (m : MpuPacket) → (i =? m.id) ≡ true → asset_of i (pushed s (media m)) ≡ asset_after (asset_of i s) m
  asset_own s m e = rw (eqb-true i m.id e) (asset_after_lem s m)

  asset_other : (s : State) (m : MpuPacket) → (i =? m.id) ≡ false → asset_of i (pushed s (media m)) ≡ asset_of i s
  unfolding asset_of pushed
  asset_other s m e = rw (find_put_other i m.id (asset_after (asset_of m.id s) m) s.assets e)

  gives_own : (s : State) (m : MpuPacket) → (i =? m.id) ≡ true → gives s (media m) ≡ media_gives s.passing (asset_of i s) m
  unfolding gives
  gives_own s m e = rw (eqb-true i m.id e)

  records_append : (a b : List Rec) → id_records i (a ++ b) ≡ id_records i a ++ id_records i b
  unfolding id_records
  records_append [] b = refl
  records_append (r ∷ a) b =
      either (i =? r.id) (λ e. rw (e, records_append a b)) (λ e. rw (e, records_append a b))

  records_tagged : (j : ℕ) (ds : List Mfu) → (i =? j) ≡ false → id_records i (tagged j ds) ≡ []
  unfolding id_records tagged
  records_tagged j [] e = refl
  records_tagged j (d ∷ ds) e = rw (e, records_tagged j ds e)

  records_passes : (pass : Bool) (m : MpuPacket) → (i =? m.id) ≡ false → id_records i (passes pass m) ≡ []
  unfolding id_records passes
  records_passes pass m e =
      cond_elim (λ (rs : List Rec). id_records i rs ≡ []) (pass && (m.scrambled && is_some m.header)) (λ d. rw e) (λ d. refl)

  gives_other : (s : State) (m : MpuPacket) → (i =? m.id) ≡ false → id_records i (gives s (media m)) ≡ []
  unfolding gives media_gives
  gives_other s m e =
      let a = asset_of m.id s in
      let ds = delivered_by m (after_headers a m) (readable m) in
      records_append (passes s.passing m) (tagged m.id ds)
      ∙ rw (records_passes s.passing m e, records_tagged m.id ds e)

  -- of what some packets do to the id, the id's own do all
  record Same (s t : State) (ps qs : List Packet) : Type 0 where
    given : id_records i (give_all s ps) ≡ id_records i (give_all t qs)
    asset : asset_of i (push_all s ps) ≡ asset_of i (push_all t qs)

  skip_one : {s t : State} {p : Packet} {ps qs : List Packet} → id_records i (gives s p) ≡ []
      → Same (pushed s p) t ps qs → Same s t (p ∷ ps) qs
  unfolding give_all push_all
  skip_one {s} {t} {p} {ps} quiet r =
      record { given = records_append (gives s p) (give_all (pushed s p) ps) ∙ rw quiet r.given; asset = r.asset }

  take_one : {s t : State} {p : Packet} {ps qs : List Packet} → gives s p ≡ gives t p
      → Same (pushed s p) (pushed t p) ps qs → Same s t (p ∷ ps) (p ∷ qs)
  unfolding give_all push_all
  take_one {s} {t} {p} {ps} {qs} e r =
      record {
        given =
            rw (records_append (gives s p) (give_all (pushed s p) ps), records_append (gives t p) (give_all (pushed t p) qs), e, r.given);
        asset = r.asset;
      }

  -- a packet of another id or kind
  other_agree : {s t : State} (p : Packet) → is_of i p ≡ false → Agree i s t → (id_records i (gives s p) ≡ []) × Agree i (pushed s p) t
  unfolding gives pushed asset_of id_records
  other_agree ip_error e g = (refl, record { passing = g.passing; asset = g.asset })
  other_agree (ntp z) e g = (refl, record { passing = g.passing; asset = g.asset })
  other_agree non_mmtp_of e g = (refl, record { passing = g.passing; asset = g.asset })
  other_agree (message c) e g = (refl, record { passing = g.passing; asset = g.asset })
  other_agree (control bs) e g = (refl, record { passing = g.passing; asset = g.asset })
  other_agree other e g = (refl, record { passing = g.passing; asset = g.asset })
  other_agree {s} (media m) e g = (gives_other s m e, record { passing = g.passing; asset = asset_other s m e ∙ g.asset })

  -- one of the id
  own_agree : {s t : State} (p : Packet) → is_of i p ≡ true → Agree i s t → (gives s p ≡ gives t p) × Agree i (pushed s p) (pushed t p)
  unfolding gives pushed asset_of
  own_agree ip_error e g = (refl, record { passing = g.passing; asset = g.asset })
  own_agree (ntp z) e g = (refl, record { passing = g.passing; asset = g.asset })
  own_agree non_mmtp_of e g = (refl, record { passing = g.passing; asset = g.asset })
  own_agree (message c) e g = (refl, record { passing = g.passing; asset = g.asset })
  own_agree (control bs) e g = (refl, record { passing = g.passing; asset = g.asset })
  own_agree other e g = (refl, record { passing = g.passing; asset = g.asset })
  own_agree {s} {t} (media m) e g = (
    gives_own s m e ∙ rw (g.passing, g.asset) (sym (gives_own t m e)),
    record { passing = g.passing; asset = asset_own s m e ∙ rw g.asset (sym (asset_own t m e)) },
  )

  own_alone : (ps : List Packet) (s t : State) → Agree i s t → Same s t ps (id_packets i ps)
  unfolding id_packets give_all push_all
  own_alone [] s t g = record { given = refl; asset = g.asset }
  own_alone (p ∷ ps) s t g =
      either (is_of i p)
      (λ e. let a = own_agree p e g in rw e (take_one a.0 (own_alone ps (pushed s p) (pushed t p) a.1)))
      (λ e. let a = other_agree p e g in rw e (skip_one a.0 (own_alone ps (pushed s p) t a.1)))

pub among_others : AmongOthersTheorem
unfolding id_records
among_others o c short s w ps own =
    let i = o.packet_id in
    let r = own_alone i ps s s (record { passing = refl; asset = refl }) in
    let d = objects o c short s w in
    (rw own at r.given ∙ rw (d.given, eqb_self i), rw (r.asset, own, ← length-map (object_packets o) received) d.asset)

-- ---- what TLV packets carry

in_flow_lem : (b : List ℕ) (f : Option Flow) → NotNtp f → in_flow b f ≡ mmtp_in b (mmtp_of b)
in_flow_lem b None n = refl
in_flow_lem b (Some f) n = rw (ne_eqb f.dport 123 n)

pub carried : {b : List ℕ} {x : ℕ × List ℕ} → Carried b x → classify x.0 x.1 ≡ mmtp_in b (mmtp_of b)
unfolding classify packet_type
carried (by_ipv4 d c n) = rw ((rfc791 d c).fields, (rfc791 d c).payload) (in_flow_lem d.payload (Some (ipv4_flow d)) n)
carried (by_ipv6 d c n) = rw ((rfc8200 d c).fields, (rfc8200 d c).payload) (in_flow_lem d.payload (Some (ipv6_flow d)) n)
carried (by_hcfb p c n) = rw ((hcfb p c).fields, (hcfb p c).payload) (in_flow_lem p.payload (flow_in p.header) n)

all_carried : (ms : List Mmtp) (f : Feed) → AllCarried ms f → packets_of f ≡ map received ms
all_carried [] [] c = refl
all_carried [] (x ∷ f) c = absurd c
all_carried (m ∷ ms) [] c = absurd c
all_carried (m ∷ ms) (x ∷ f) c = rw (carried c.0, all_carried ms f c.1)

pub feeds : FeedTheorem
feeds o c short s w f all = rw (all_carried (object_packets o) f all) (objects o c short s w)

abbrev example_hcfb : List ℕ → Hcfb
example_hcfb b = record { context = 1; sequence = 0; header = ipv6_id; payload = b }

example_conforms : (b : List ℕ) → HcfbConforming (example_hcfb b)
example_conforms b = record { context = omega arith; sequence = omega arith; header = ipv6_id_fits }

example_carried : (m : Mmtp) → Carried (mmtp_sent m) (0x03, hcfb_sent (example_hcfb (mmtp_sent m)))
example_carried m = by_hcfb (example_hcfb (mmtp_sent m)) (example_conforms (mmtp_sent m)) tt

pub object_example : ObjectExample
unfolding hcfb_sent mmtp_sent payload_sent bytes_of asset_of opened or_else find fresh
object_example =
    let ps = object_packets example_object in
    let m = example_object.first.frame in
    record {
      conforms =
          record {
            first = record { packet = omega arith; payload = omega arith; clear = refl };
            others = (
              record { packet = omega arith; payload = omega arith; clear = refl },
              record { packet = omega arith; payload = omega arith; clear = refl },
            );
          };
      bytes = refl;
      whole = refl;
      awaited = λ pass. record { held = refl; number = tt };
      carried = (example_carried (get_or ps 0 m), (example_carried (get_or ps 1 m), (example_carried (get_or ps 2 m), tt)));
    }
