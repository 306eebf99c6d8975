-- The outcome of a media packet is what the model does with it; the place after it is that of the model's asset. Assumes nothing.
use Rattle.std.specs.Prelude.{None, Some, Option}
use Rattle.std.proofs.Common.{◌≡◌, ℕ, ◌+◌, ◌<◌, ◌≤◌, max, Bool, true, false, cond, not, ◌&&◌, List, [], length, sym, refl, ap, ◌∙◌, subst, arith, length-take}
use Rattle.isdb_tlv.specs.Bytes.{be}
use Rattle.isdb_tlv.specs.declared.mmtp.Header.{Header}
use Rattle.isdb_mmt.specs.Decoder.Packet.{Bytes, PayloadUnit, MpuPacket, header_in, payload_units, units_for, units_read, media_of, clear, readable}
use Rattle.isdb_mmt.specs.Decoder.Maps.{one}
use Rattle.isdb_mmt.specs.Formats.Mpu.{payload_header, declared_of, units_of, lost_from}
use Rattle.isdb_mmt.specs.Decoder.Objects.{Asset, most_object, malformed_payload, after_headers, asset_after}
use Rattle.isdb_mmt.specs.Memory.View.{asset_of_place}
use Rattle.isdb_mmt.specs.Pushes.MediaPush.{place_for_asset}
use Rattle.isdb_mmt.specs.Pushes.MediaEffect.{with_each_unit, units_effect, Roomy, Ready}
use Rattle.isdb_mmt.specs.Pushes.MediaPlace.{gap_in, lost_in, normal_object, begun, start_of, new_in, jump_in, completes_in, adds_of, place_after_of, StatsWithin}
use Rattle.isdb_mmt.specs.Pushes.MediaOutcome.{outcome_with, outcome_of_units, units_outcome, outcome_by, media_outcome, CanReadUnits}
use Rattle.isdb_mmt.specs.Pushes.MediaCommit.{Small}
use Rattle.isdb_mmt.specs.declared.mpu.FragmentType.{FragmentType}
use Rattle.isdb_mmt.specs.declared.mpu.FragmentType.TheVariants.{MpuMetadata, MovieFragmentMetadata, Mfu, Reserved}
use Rattle.isdb_mmt.specs.declared.mpu.PayloadHeader.{PayloadHeader}
use Rattle.isdb_mmt.specs.declared.mpu.Unit.{Unit as DataUnit}
use Rattle.isdb_mmt.specs.declared.decoder.counts.AssetStats.{AssetStats}
use Rattle.isdb_mmt.specs.declared.decoder.media.Media.{Media}
use Rattle.isdb_tlv.proofs.Guards.{either}
use Rattle.isdb_mmt.specs.declared.decoder.reassembler.MediaEffect.{MediaEffect}
use Rattle.isdb_mmt.specs.declared.decoder.reassembler.MediaOutcome.{MediaOutcome}
use Rattle.isdb_mmt.proofs.EffectsModelled.{object_as, Told, told_empty, effect_told}
use Rattle.isdb_mmt.proofs.Placed.{start_object, place_told}
use Rattle.isdb_mmt.proofs.MediaEffects.{roomy_more, roomy_all}
use Rattle.isdb_mmt.proofs.Maps.{one_le}

-- ---- the code's returns: `rw` of a field would rewrite the struct around it too, so each equation is put in its one place

pub ready_declared : (b q : Bytes) (t : MediaEffect) → Ready b t → q ≡ declared_of b → Ready q t
ready_declared b q t r e =
    let k : length q ≤ length b = rw (e, length-take) (omega arith) in
    record { long = omega (arith, k, r.long); room = r.room }

module _ (t : MediaEffect) (h : PayloadHeader) (rap : Bool) (b : Bytes) (r : MediaOutcome) where
  module _ (ek : h.fragment_type ≡ Mfu) (q : Bytes) (eq : q ≡ declared_of b) (s : Option MediaEffect)
      (es : s ≡ units_effect h.fragmentation h.mpu_sequence_number rap q t (units_of q h.timed h.aggregated)) where
    told_is : outcome_of_units t h s ≡ units_outcome t h rap b h.fragment_type
    unfolding units_outcome
    told_is =
        ap (outcome_of_units t h) (rw eq at es) ∙ ap (λ (k : FragmentType). units_outcome t h rap b k) (sym ek)

    pub outcome_malformed : s ≡ None → r ≡ outcome_with true false (Some h) t → r ≡ units_outcome t h rap b h.fragment_type
    outcome_malformed e er = er ∙ ap (outcome_of_units t h) (sym e) ∙ told_is

    pub outcome_whole : (y : MediaEffect) → s ≡ Some y → r ≡ outcome_with false true (Some h) y → r ≡ units_outcome t h rap b h.fragment_type
    outcome_whole y e er = er ∙ ap (outcome_of_units t h) (sym e) ∙ told_is

  pub outcome_metadata : h.fragment_type ≡ MpuMetadata → r ≡ outcome_with false false (Some h) t → r ≡ units_outcome t h rap b h.fragment_type
  unfolding units_outcome
  outcome_metadata ek er = er ∙ ap (λ (k : FragmentType). units_outcome t h rap b k) (sym ek)

  pub outcome_movie : h.fragment_type ≡ MovieFragmentMetadata → r ≡ outcome_with false false (Some h) t → r ≡ units_outcome t h rap b h.fragment_type
  unfolding units_outcome
  outcome_movie ek er = er ∙ ap (λ (k : FragmentType). units_outcome t h rap b k) (sym ek)

  pub outcome_reserved : (c : ℕ) → h.fragment_type ≡ Reserved c → r ≡ outcome_with false false (Some h) t → r ≡ units_outcome t h rap b h.fragment_type
  unfolding units_outcome
  outcome_reserved c ek er = er ∙ ap (λ (k : FragmentType). units_outcome t h rap b k) (sym ek)

pub roomy_start : (p : Media) (n : ℕ) → (p.held ≡ true → p.object.length ≤ most_object) → Roomy (start_of p n) 8
unfolding start_of normal_object
roomy_start p n h = go p.held (gap_in p n) h
  where
    go : (x g : Bool) → (x ≡ true → p.object.length ≤ most_object) → Roomy (cond (not x) (begun None 0) (cond g (begun None 1) (begun (Some (normal_object p.object)) 0))) 8
    go true true k = record { drops = omega arith; records = omega arith; bytes = omega arith }
    go true false k = record { drops = omega arith; records = omega arith; bytes = omega (arith, k refl) }
    go false g k = record { drops = omega arith; records = omega arith; bytes = omega arith }

module _ (p : Media) (n : ℕ) (scrambled rap : Bool) (b : Bytes) (t : MediaEffect) (et : t ≡ start_of p n) where
  pub ready_start : CanReadUnits p b → Ready b t
  ready_start k = record { long = omega (arith, k.long); room = subst (λ (x : MediaEffect). Roomy x 8) (sym et) (roomy_start p n k.object) }

  module _ (x : Option PayloadHeader) (ex : x ≡ payload_header b) (r : MediaOutcome) where
    by_header : r ≡ outcome_by t scrambled rap b x → r ≡ media_outcome p n scrambled rap b
    unfolding media_outcome
    by_header e = e ∙ rw (et, ex)

    pub outcome_none : x ≡ None → r ≡ outcome_with true false None t → r ≡ media_outcome p n scrambled rap b
    unfolding outcome_by
    outcome_none e er = by_header (er ∙ ap (λ (y : Option PayloadHeader). outcome_by t scrambled rap b y) (sym e))

    pub outcome_passed : (h : PayloadHeader) → x ≡ Some h → scrambled ≡ true → r ≡ outcome_with false false (Some h) t → r ≡ media_outcome p n scrambled rap b
    unfolding outcome_by
    outcome_passed h e s er =
        by_header (er ∙ ap (λ y. cond y (outcome_with false false (Some h) t) (units_outcome t h rap b h.fragment_type)) (sym s)
        ∙ ap (λ (y : Option PayloadHeader). outcome_by t scrambled rap b y) (sym e))

    pub outcome_clear : (h : PayloadHeader) → x ≡ Some h → scrambled ≡ false → r ≡ units_outcome t h rap b h.fragment_type → r ≡ media_outcome p n scrambled rap b
    unfolding outcome_by
    outcome_clear h e s er =
        by_header (er ∙ ap (λ y. cond y (outcome_with false false (Some h) t) (units_outcome t h rap b h.fragment_type)) (sym s)
        ∙ ap (λ (y : Option PayloadHeader). outcome_by t scrambled rap b y) (sym e))

-- so much the effect of the units counts at most
module _ (t : MediaEffect) (rap : Bool) (b : Bytes) (r : Roomy t 8) (long : length b ≤ 65535) where
  short : length (declared_of b) ≤ 65535
  short = omega (arith, length-take (be 2 b 0 + 2) b)

  small_told : (x : PayloadHeader) (o : Option (List DataUnit)) → units_of (declared_of b) x.timed x.aggregated ≡ o
      → Roomy (outcome_of_units t x (units_effect x.fragmentation x.mpu_sequence_number rap (declared_of b) t o)).units 65537
  unfolding units_effect units_of
  small_told x None e = roomy_more t 8 65537 (omega arith) r
  small_told x (Some us) e =
      let q : Bytes = declared_of b in
      let s : MediaEffect = with_each_unit x.fragmentation x.mpu_sequence_number rap q t us in
      roomy_more s (max 8 (length q)) 65537 (omega (arith, short))
      (roomy_all q x.timed x.aggregated x.fragmentation x.mpu_sequence_number rap (length q) 8 t us (omega arith) (omega arith) r e)

  small_kind : (x : PayloadHeader) (k : FragmentType) → Roomy (units_outcome t x rap b k).units 65537
  unfolding units_outcome
  small_kind x Mfu = small_told x (units_of (declared_of b) x.timed x.aggregated) refl
  small_kind x MpuMetadata = roomy_more t 8 65537 (omega arith) r
  small_kind x MovieFragmentMetadata = roomy_more t 8 65537 (omega arith) r
  small_kind x (Reserved c) = roomy_more t 8 65537 (omega arith) r

  small_either : (y : Bool) (x : PayloadHeader)
      → Roomy (cond y (outcome_with false false (Some x) t) (units_outcome t x rap b x.fragment_type)).units 65537
  small_either true x = roomy_more t 8 65537 (omega arith) r
  small_either false x = small_kind x x.fragment_type

  small_by : (y : Bool) (k : Option PayloadHeader) → Roomy (outcome_by t y rap b k).units 65537
  unfolding outcome_by
  small_by y None = roomy_more t 8 65537 (omega arith) r
  small_by y (Some x) = small_either y x

pub outcome_small : (p : Media) (n : ℕ) (scrambled rap : Bool) (b : Bytes) (r : MediaOutcome) → CanReadUnits p b → r ≡ media_outcome p n scrambled rap b → Small r.units
unfolding media_outcome
outcome_small p n scrambled rap b r can e =
    let s : Roomy (outcome_by (start_of p n) scrambled rap b (payload_header b)).units 65537 =
    small_by (start_of p n) rap b (roomy_start p n can.object) can.long scrambled (payload_header b) in
    let w : Roomy r.units 65537 = subst (λ (x : MediaOutcome). Roomy x.units 65537) (sym e) s in
    record { drops = omega (arith, w.drops); records = w.records; bytes = omega (arith, w.bytes) }

pub adds_made : (p : Media) (n : ℕ) (scrambled bad : Bool) (h : Option PayloadHeader) (t : MediaEffect) (l o1 o2 o3 o4 o5 : ℕ) (b1 b2 b3 b4 : Bool)
    → l ≡ lost_in p n → o1 ≡ one scrambled → b1 ≡ completes_in h → b2 ≡ scrambled && b1 → o2 ≡ one b2 → b3 ≡ new_in p h → o3 ≡ one b3
    → b4 ≡ jump_in p h → o4 ≡ one b4 → o5 ≡ one bad
    → record {
      packets = 1;
      packets_lost = l;
      scrambled_packets = o1;
      mfus = t.records;
      scrambled_mfus = o2;
      mfus_dropped = t.drops;
      mpus = o3;
      mpu_sequence_jumps = o4;
      malformed = o5;
    } ≡ adds_of p n scrambled h bad t
unfolding adds_of
adds_made p n scrambled bad h t l o1 o2 o3 o4 o5 b1 b2 b3 b4 el e1 eb1 eb2 e2 eb3 e3 eb4 e4 e5 =
    rw (el, e1, e2, eb2, eb1, e3, eb3, e4, eb4, e5)

pub adds_small : (p : Media) (n : ℕ) (scrambled bad : Bool) (h : Option PayloadHeader) (t : MediaEffect) (d : AssetStats) → d ≡ adds_of p n scrambled h bad t
    → t.records < 4294967296 → t.drops < 4294967296 → StatsWithin 4294967295 d
unfolding adds_of lost_in lost_from
adds_small p n scrambled bad h t d e r o =
    let l : lost_in p n ≤ 1048576 = either (gap_in p n) (λ x. rw x (omega arith)) (λ x. rw x (omega arith)) in
    subst (λ (s : AssetStats). StatsWithin 4294967295 s) (sym e)
    (record {
      packets = omega arith;
      lost = omega arith;
      scrambled = omega (arith, one_le scrambled);
      mfus = omega (arith, r);
      scrambled_mfus = omega (arith, one_le (scrambled && completes_in h));
      dropped = omega (arith, o);
      mpus = omega (arith, one_le (new_in p h));
      jumps = omega (arith, one_le (jump_in p h));
      malformed = omega (arith, one_le bad);
    })

pub record OutcomeIs (m : MpuPacket) (t : MediaEffect) (a : Asset) (r : MediaOutcome) : Type 0 where
  pub bad : r.bad ≡ malformed_payload m
  pub header : m.header ≡ header_in r.header
  pub units : Told m t a r.units (readable m)

module _ (x : Header) (b : Bytes) (t : MediaEffect) (a : Asset) (eo : t.object ≡ object_as a.held) where
  -- the packet, with what its payload's header is
  abbrev packet : Option PayloadHeader → MpuPacket
  packet h =
      record {
        id = x.packet_id;
        number = x.sequence;
        rap = x.rap;
        scrambled = x.scramble_info;
        header = header_in h;
        units = units_read b (header_in h);
        raw = (media_of x b).raw;
      }

  module _ (h : PayloadHeader) where
    abbrev q : Bytes
    q = declared_of b

    -- clear, by the kind of payload
    abbrev clear_packet : Option (List PayloadUnit) → MpuPacket
    clear_packet us =
        record {
          id = x.packet_id;
          number = x.sequence;
          rap = x.rap;
          scrambled = false;
          header = Some h;
          units = us;
          raw = (media_of x b).raw;
        }

    units_outcome_lem : (o : Option (List DataUnit))
        → OutcomeIs (clear_packet (payload_units h q o)) t a
        (outcome_of_units t h (units_effect h.fragmentation h.mpu_sequence_number x.rap q t o))
    unfolding units_effect malformed_payload readable clear
    units_outcome_lem None = record { bad = refl; header = refl; units = told_empty (clear_packet None) t a eo }
    units_outcome_lem (Some us) =
        record { bad = refl; header = refl; units = effect_told (clear_packet (payload_units h q (Some us))) h q us t a eo }

    outcome_kind : (k : FragmentType) → OutcomeIs (clear_packet (units_for h k q)) t a (units_outcome t h x.rap b k)
    unfolding units_outcome malformed_payload readable clear
    outcome_kind Mfu = units_outcome_lem (units_of q h.timed h.aggregated)
    outcome_kind MpuMetadata = record { bad = refl; header = refl; units = told_empty (clear_packet (Some [])) t a eo }
    outcome_kind MovieFragmentMetadata = record { bad = refl; header = refl; units = told_empty (clear_packet (Some [])) t a eo }
    outcome_kind (Reserved c) = record { bad = refl; header = refl; units = told_empty (clear_packet (Some [])) t a eo }

  -- scrambled, or clear
  outcome_either : (y : Bool) (h : PayloadHeader)
      → OutcomeIs (record {
        id = x.packet_id;
        number = x.sequence;
        rap = x.rap;
        scrambled = y;
        header = Some h;
        units = units_for h h.fragment_type (declared_of b);
        raw = (media_of x b).raw;
      }) t a (cond y (outcome_with false false (Some h) t) (units_outcome t h x.rap b h.fragment_type))
  unfolding malformed_payload readable clear
  outcome_either true h = record { bad = refl; header = refl; units = told_empty _ t a eo }
  outcome_either false h = outcome_kind h h.fragment_type

  outcome_header : (h : Option PayloadHeader) → OutcomeIs (packet h) t a (outcome_by t x.scramble_info x.rap b h)
  unfolding outcome_by malformed_payload readable clear
  outcome_header None = record { bad = refl; header = refl; units = told_unread x.scramble_info }
    where
      told_unread : (y : Bool) → Told (packet None) t a t (clear y None)
      told_unread true = told_empty (packet None) t a eo
      told_unread false = told_empty (packet None) t a eo
  outcome_header (Some h) = outcome_either x.scramble_info h

-- the outcome of a packet, and the place after it, are the model's
module _ (id : ℕ) (p : Media) (b : Bytes) (x : Header) (bytes : Bytes) (long : p.held ≡ true → length b ≡ p.object.length) where
  abbrev arrived : MpuPacket
  arrived = media_of x bytes

  pub outcome_is : OutcomeIs arrived (start_of p x.sequence) (after_headers (asset_of_place p b) arrived) (media_outcome p x.sequence x.scramble_info x.rap bytes)
  unfolding media_outcome media_of
  outcome_is =
      outcome_header x bytes (start_of p x.sequence) (after_headers (asset_of_place p b) arrived)
      (start_object p b arrived long) (payload_header bytes)

  pub place_is : (r : MediaOutcome) → r ≡ media_outcome p x.sequence x.scramble_info x.rap bytes
      → place_after_of id p x.sequence x.scramble_info r.header r.bad r.units ≡ place_for_asset id (asset_after (asset_of_place p b) arrived)
  unfolding media_of
  place_is r e =
      let w : OutcomeIs arrived (start_of p x.sequence) (after_headers (asset_of_place p b) arrived) r = rw e outcome_is in
      place_told id p b arrived long r.header w.header r.bad w.bad r.units w.units
