-- The place after a packet is the place of the model's asset after it. Assumes nothing.
use Rattle.std.specs.Prelude.{None, Some, Option, unwrap_or, is_some}
use Rattle.std.proofs.Common.{◌≡◌, ℕ, ◌+◌, Bool, true, false, cond, not, ◌&&◌, eqb, List, [], ◌∷◌, length, sym, refl, ap, ◌∙◌, subst, arith}
use Rattle.isdb_tlv.proofs.Guards.{either}
use Rattle.isdb_mmt.specs.Decoder.Packet.{Bytes, PayloadUnit, MpuPacket, header_in, readable}
use Rattle.isdb_mmt.specs.Decoder.Maps.{one, or_else}
use Rattle.isdb_mmt.specs.Formats.Mpu.{follows}
use Rattle.isdb_mmt.specs.Decoder.Objects.{Mfu, Asset, after_unit, unit_effect, after_units, gap, lost_by, mpu_in, new_mpu, jumped, mpu_after, range_after, completes, malformed_payload, after_headers, asset_after}
use Rattle.isdb_mmt.specs.Memory.View.{given, header_given, item_given, mfu_of, asset_of_place}
use Rattle.isdb_mmt.specs.Formats.Mpu.{header_or}
use Rattle.isdb_mmt.specs.Pushes.Records.{object_for}
use Rattle.isdb_mmt.specs.Pushes.MediaPush.{held_for, first_in, place_for_asset}
use Rattle.isdb_mmt.specs.Pushes.MediaEffect.{object_or}
use Rattle.isdb_mmt.specs.Pushes.MediaPlace.{gap_in, lost_in, header_if, item_if, normal_object, begun, start_of, new_in, jump_in, seen_mpu, last_mpu, first_mpu_of, completes_in, adds_of, summed, stats_after, place_after_of}
use Rattle.isdb_mmt.specs.declared.mpu.MfuHeader.{MfuHeader}
use Rattle.isdb_mmt.specs.declared.mpu.PayloadHeader.{PayloadHeader}
use Rattle.isdb_mmt.specs.declared.decoder.media.Object.{Object}
use Rattle.isdb_mmt.specs.declared.decoder.media.Media.{Media}
use Rattle.isdb_mmt.specs.declared.decoder.reassembler.MediaEffect.{MediaEffect}
use Rattle.isdb_mmt.proofs.EffectsModelled.{object_as, as_some, as_object, Told}

-- the range ends with the last MPU number
abbrev pub range_for : Option ℕ → ℕ → Option (ℕ × ℕ)
range_for None f = None
range_for (Some n) f = Some (f, n)

abbrev pub Tied : Asset → Type 0
Tied a = a.range ≡ range_for a.mpu (first_in a.range)

-- ---- the units leave the rest of an asset

abbrev with_units : Asset → Option Mfu → ℕ → ℕ → Asset
with_units a h mfus dropped =
    record {
      number = a.number;
      mpu = a.mpu;
      held = h;
      range = a.range;
      stats =
          record {
            packets = a.stats.packets;
            packets_lost = a.stats.packets_lost;
            scrambled_packets = a.stats.scrambled_packets;
            mfus = mfus;
            scrambled_mfus = a.stats.scrambled_mfus;
            mfus_dropped = dropped;
            mpus = a.stats.mpus;
            mpu_sequence_jumps = a.stats.mpu_sequence_jumps;
            malformed = a.stats.malformed;
          };
    }

pub units_keep : (m : MpuPacket) (us : List PayloadUnit) (a : Asset)
    → after_units m a us ≡ with_units a (after_units m a us).held (after_units m a us).stats.mfus (after_units m a us).stats.mfus_dropped
unfolding after_units after_unit
units_keep m [] a = refl
units_keep m (u ∷ us) a = units_keep m us (after_unit a (unit_effect m a u))

-- ---- the held object

module _ (p : Media) (b : Bytes) (n : ℕ) where
  gap_is : gap_in p n ≡ gap (asset_of_place p b).number n
  unfolding gap_in gap asset_of_place
  gap_is = either p.seen (λ t. rw t) (λ f. rw f)

  lost_is : lost_in p n ≡ lost_by (asset_of_place p b).number n
  unfolding lost_in gap_in lost_by asset_of_place
  lost_is =
      either p.seen
      (λ t. either (follows p.sequence n) (λ x. rw (t, x)) (λ x. rw (t, x)))
      (λ f. rw f)

normal_header : (t : Bool) (h : MfuHeader) → header_if t h ≡ header_or (header_given t h)
normal_header true h = refl
normal_header false h = refl

normal_timed : (t : Bool) (h : MfuHeader) → t ≡ is_some (header_given t h)
normal_timed true h = refl
normal_timed false h = refl

normal_item : (t : Bool) (i : ℕ) → item_if t i ≡ unwrap_or (item_given t i) 0
normal_item true i = refl
normal_item false i = refl

normal_has : (t : Bool) (i : ℕ) → t ≡ is_some (item_given t i)
normal_has true i = refl
normal_has false i = refl

pub normal_is : (o : Object) (b : Bytes) → length b ≡ o.length → normal_object o ≡ object_for (mfu_of o b)
unfolding normal_object mfu_of
normal_is o b e =
    λ i.
    record {
      mpu_sequence_number = o.mpu_sequence_number;
      rap = o.rap;
      timed = normal_timed o.timed o.header i;
      header = normal_header o.timed o.header i;
      item = normal_has o.item o.item_id i;
      item_id = normal_item o.item o.item_id i;
      length = sym e i;
    }

-- what the units start from
module _ (p : Media) (b : Bytes) (m : MpuPacket) (long : p.held ≡ true → length b ≡ p.object.length) where
  starts_by : (x g : Bool) (o : Mfu) → (x ≡ true → normal_object p.object ≡ object_for o)
      → ((cond (not x) (begun None 0) (cond g (begun None 1) (begun (Some (normal_object p.object)) 0))).object ≡ object_as (cond g None (given x o)))
      × ((cond (not x) (begun None 0) (cond g (begun None 1) (begun (Some (normal_object p.object)) 0))).drops ≡ one (g && is_some (given x o)))
  starts_by true true o e = (refl, refl)
  starts_by true false o e = (ap (λ (y : Object). Some y) (e refl), refl)
  starts_by false true o e = (refl, refl)
  starts_by false false o e = (refl, refl)

  abbrev asset : Asset
  asset = asset_of_place p b

  starts : ((start_of p m.number).object ≡ object_as (after_headers asset m).held)
      × ((start_of p m.number).drops ≡ one (gap asset.number m.number && is_some asset.held))
  unfolding start_of after_headers asset_of_place
  starts =
      rw (← gap_is p b m.number)
      (starts_by p.held (gap_in p m.number) (mfu_of p.object b) (λ t. normal_is p.object b (long t)))

  pub start_object : (start_of p m.number).object ≡ object_as (after_headers asset m).held
  start_object = starts.0

  start_drops : (start_of p m.number).drops + asset.stats.mfus_dropped ≡ (after_headers asset m).stats.mfus_dropped
  unfolding after_headers
  start_drops = rw starts.1 (omega arith)

  pub start_zero : ((start_of p m.number).records ≡ 0) × (((start_of p m.number).bytes ≡ 0) × ((start_of p m.number).longest ≡ 0))
  unfolding start_of gap_in
  start_zero =
      either p.held (λ t. either (gap_in p m.number) (λ g. rw (t, g) (refl, (refl, refl))) (λ g. rw (t, g) (refl, (refl, refl))))
      (λ f. rw f (refl, (refl, refl)))

-- ---- the MPU number

module _ (p : Media) (b : Bytes) where
  new_is : (h : Option PayloadHeader) → new_in p h ≡ new_mpu (asset_of_place p b).mpu (mpu_in (header_in h))
  unfolding new_in new_mpu asset_of_place
  new_is None = refl
  new_is (Some h) = either p.mpu_seen (λ t. rw t) (λ f. rw f)

  jump_is : (h : Option PayloadHeader) → jump_in p h ≡ jumped (asset_of_place p b).mpu (mpu_in (header_in h))
  unfolding jump_in jumped asset_of_place
  jump_is None = refl
  jump_is (Some h) =
      either p.mpu_seen
      (λ t. either (eqb h.mpu_sequence_number p.mpu) (λ x. rw (t, x)) (λ x. rw (t, x)))
      (λ f. rw f)

  seen_is : (h : Option PayloadHeader) → seen_mpu p h ≡ is_some (mpu_after (asset_of_place p b).mpu (mpu_in (header_in h)))
  unfolding mpu_after asset_of_place
  seen_is None = either p.mpu_seen (λ t. rw t) (λ f. rw f)
  seen_is (Some h) = refl

  last_is : (h : Option PayloadHeader) → last_mpu p h ≡ or_else 0 (mpu_after (asset_of_place p b).mpu (mpu_in (header_in h)))
  unfolding mpu_after or_else asset_of_place
  last_is None = either p.mpu_seen (λ t. rw t) (λ f. rw f)
  last_is (Some h) = refl

  abbrev range_then : Option PayloadHeader → Option (ℕ × ℕ)
  range_then h = range_after (new_mpu (asset_of_place p b).mpu (mpu_in (header_in h))) (asset_of_place p b).range (mpu_in (header_in h))

  first_is : (h : Option PayloadHeader) → first_mpu_of p h ≡ first_in (range_then h)
  unfolding first_mpu_of new_mpu range_after asset_of_place
  first_is None = either p.mpu_seen (λ t. rw t) (λ f. rw f)
  first_is (Some h) =
      either p.mpu_seen
      (λ t. either (eqb h.mpu_sequence_number p.mpu) (λ x. rw (t, x)) (λ x. rw (t, x)))
      (λ f. rw f)

completes_is : (h : Option PayloadHeader) → completes_in h ≡ completes (header_in h)
completes_is None = refl
completes_is (Some h) = refl

dropped_of_lem : (p : Media) (b : Bytes) → (asset_of_place p b).stats.mfus_dropped ≡ p.stats.mfus_dropped
unfolding asset_of_place
dropped_of_lem p b = refl

after_dropped : (a : Asset) (m : MpuPacket) → (asset_after a m).stats.mfus_dropped ≡ (after_units m (after_headers a m) (readable m)).stats.mfus_dropped
unfolding asset_after
after_dropped a m = refl

-- ---- the place

module _ (id : ℕ) (p : Media) (b : Bytes) (m : MpuPacket) (long : p.held ≡ true → length b ≡ p.object.length)
    (h : Option PayloadHeader) (eh : m.header ≡ header_in h) where
  abbrev before : Asset
  before = asset_of_place p b

  module _ (bad : Bool) (eb : bad ≡ malformed_payload m) (t : MediaEffect)
      (w : Told m (start_of p m.number) (after_headers before m) t (readable m)) where
    mfus_after : p.stats.mfus + t.records ≡ (asset_after before m).stats.mfus
    unfolding asset_after after_headers asset_of_place
    mfus_after = let z = (start_zero p b m long).0 in omega (arith, w.mfus, z)

    dropped_after : p.stats.mfus_dropped + t.drops ≡ (asset_after before m).stats.mfus_dropped
    dropped_after =
        let d = start_drops p b m long in
        let e : before.stats.mfus_dropped ≡ p.stats.mfus_dropped = dropped_of_lem p b in
        let x : (asset_after before m).stats.mfus_dropped ≡ (after_units m (after_headers before m) (readable m)).stats.mfus_dropped = after_dropped before m in
        omega (arith, w.drops, d, e, x)

    pub place_told : place_after_of id p m.number m.scrambled h bad t ≡ place_for_asset id (asset_after before m)
    unfolding place_after_of stats_after summed adds_of place_for_asset asset_after after_headers asset_of_place or_else
    place_told =
        let k = units_keep m (readable m) (after_headers before m) in
        let e0 : seen_mpu p h ≡ is_some (mpu_after before.mpu (mpu_in m.header)) =
        seen_is p b h ∙ ap (λ (o : Option PayloadHeader). is_some (mpu_after before.mpu (mpu_in o))) (sym eh) in
        let e1 : last_mpu p h ≡ or_else 0 (mpu_after before.mpu (mpu_in m.header)) =
        last_is p b h ∙ ap (λ (o : Option PayloadHeader). or_else 0 (mpu_after before.mpu (mpu_in o))) (sym eh) in
        let e2 : first_mpu_of p h ≡ first_in (range_after (new_mpu before.mpu (mpu_in m.header)) before.range (mpu_in m.header)) =
        first_is p b h ∙ ap (λ (o : Option PayloadHeader). first_in (range_after (new_mpu before.mpu (mpu_in o)) before.range (mpu_in o))) (sym eh) in
        let e3 : new_in p h ≡ new_mpu before.mpu (mpu_in m.header) =
        new_is p b h ∙ ap (λ (o : Option PayloadHeader). new_mpu before.mpu (mpu_in o)) (sym eh) in
        let e4 : jump_in p h ≡ jumped before.mpu (mpu_in m.header) =
        jump_is p b h ∙ ap (λ (o : Option PayloadHeader). jumped before.mpu (mpu_in o)) (sym eh) in
        let e5 : completes_in h ≡ completes m.header = completes_is h ∙ ap completes (sym eh) in
        let e6 = lost_is p b m.number in
        let e7 = mfus_after in
        let e8 = dropped_after in
        let e9 : is_some t.object ≡ is_some (after_units m (after_headers before m) (readable m)).held =
        ap (λ (o : Option Object). is_some o) w.object ∙ as_some (after_units m (after_headers before m) (readable m)).held in
        let e10 : object_or t.object ≡ held_for (after_units m (after_headers before m) (readable m)).held =
        ap object_or w.object ∙ as_object (after_units m (after_headers before m) (readable m)).held in
        subst (λ (x : Asset). place_after_of id p m.number m.scrambled h bad t ≡ place_for_asset id x) (sym k)
        (λ i.
        record {
          packet_id = id;
          seen = true;
          sequence = m.number;
          mpu_seen = e0 i;
          mpu = e1 i;
          first_mpu = e2 i;
          held = e9 i;
          object = e10 i;
          stats =
              record {
                packets = p.stats.packets + 1;
                packets_lost = p.stats.packets_lost + e6 i;
                scrambled_packets = p.stats.scrambled_packets + one m.scrambled;
                mfus = e7 i;
                scrambled_mfus = p.stats.scrambled_mfus + one (m.scrambled && e5 i);
                mfus_dropped = e8 i;
                mpus = p.stats.mpus + one (e3 i);
                mpu_sequence_jumps = p.stats.mpu_sequence_jumps + one (e4 i);
                malformed = p.stats.malformed + one (eb i);
              };
        })
