-- What a media packet does to its id: what is held stays within its area, and no count grows by more than 2^21. Assumes nothing.
use Rattle.std.specs.Prelude.{Option, None, Some, is_some}
use Rattle.std.proofs.Common.{ℕ, suc, ◌+◌, ◌<◌, ◌≤◌, Bool, true, false, cond, ◌&&◌, leb, List, [], ◌∷◌, length, arith}
use Rattle.isdb_tlv.proofs.Guards.{cond_elim}
use Rattle.isdb_mmt.specs.Formats.Mpu.{follows, lost_from}
use Rattle.isdb_mmt.specs.Decoder.Packet.{PayloadUnit, MpuPacket, readable}
use Rattle.isdb_mmt.specs.Decoder.Objects.{Mfu, Asset, fresh, most_object, gap, lost_by, UnitEffect, grown, continued, effect_of, after_unit, object_of, unit_effect, after_units, after_headers, new_mpu, jumped, malformed_payload, asset_after, mpu_in, completes}
use Rattle.isdb_mmt.specs.Pushes.MediaPlace.{StatsWithin}
use Rattle.isdb_mmt.specs.Theorems.Room.{most_added}
use Rattle.isdb_mmt.specs.Decoder.Needs.{held_length, unit_area, units_need}
use Rattle.isdb_mmt.specs.declared.mpu.FragmentationIndicator.{FragmentationIndicator}
use Rattle.isdb_mmt.specs.declared.mpu.FragmentationIndicator.TheVariants.{Complete, Head, Middle, Last}
use Rattle.isdb_mmt.proofs.Maps.{one_le}

pub record AssetFits (area n : ℕ) (a : Asset) : Type 0 where
  pub held : held_length a.held ≤ area
  pub counts : StatsWithin n a.stats

pub asset_more : (area n m : ℕ) (a : Asset) → n ≤ m → AssetFits area n a → AssetFits area m a
asset_more area n m a l h =
    record {
      held = h.held;
      counts =
          record {
            packets = omega (arith, h.counts.packets);
            lost = omega (arith, h.counts.lost);
            scrambled = omega (arith, h.counts.scrambled);
            mfus = omega (arith, h.counts.mfus);
            scrambled_mfus = omega (arith, h.counts.scrambled_mfus);
            dropped = omega (arith, h.counts.dropped);
            mpus = omega (arith, h.counts.mpus);
            jumps = omega (arith, h.counts.jumps);
            malformed = omega (arith, h.counts.malformed);
          };
    }

pub fresh_fits : (area n : ℕ) → AssetFits area n fresh
unfolding fresh
fresh_fits area n =
    record {
      held = omega arith;
      counts =
          record {
            packets = omega arith;
            lost = omega arith;
            scrambled = omega arith;
            mfus = omega arith;
            scrambled_mfus = omega arith;
            dropped = omega arith;
            mpus = omega arith;
            jumps = omega arith;
            malformed = omega arith;
          };
    }

-- a unit drops one object, delivers one, and holds what its area counts
pub record Mild (f : FragmentationIndicator) (r : UnitEffect) : Type 0 where
  pub held : held_length r.held ≤ unit_area f r
  pub drops : r.drops ≤ 1
  pub outs : length r.outs ≤ 1

pub mild : (f : FragmentationIndicator) (h : Option Mfu) (u : Mfu) → Mild f (effect_of f h u)
unfolding effect_of continued
mild Complete h u = record { held = omega arith; drops = one_le (is_some h); outs = omega arith }
mild Head h u = record { held = omega arith; drops = one_le (is_some h); outs = omega arith }
mild Middle None u = record { held = omega arith; drops = omega arith; outs = omega arith }
mild Middle (Some h) u = go (leb (length h.bytes + length u.bytes) most_object)
  where
    go : (b : Bool) → Mild Middle (continued b false (grown h u.bytes))
    go true = record { held = omega arith; drops = omega arith; outs = omega arith }
    go false = record { held = omega arith; drops = omega arith; outs = omega arith }
mild Last None u = record { held = omega arith; drops = omega arith; outs = omega arith }
mild Last (Some h) u = go (leb (length h.bytes + length u.bytes) most_object)
  where
    go : (b : Bool) → Mild Last (continued b true (grown h u.bytes))
    go true = record { held = omega arith; drops = omega arith; outs = omega arith }
    go false = record { held = omega arith; drops = omega arith; outs = omega arith }

units_fit : (area : ℕ) (m : MpuPacket) (us : List PayloadUnit) (n : ℕ) (a : Asset) → AssetFits area n a → units_need m a us ≤ area
    → AssetFits area (n + length us) (after_units m a us)
unfolding after_units units_need after_unit unit_effect
units_fit area m [] n a h k = asset_more area n (n + 0) a (omega arith) h
units_fit area m (u ∷ us) n a h k =
    let r = unit_effect m a u in
    let q = mild u.fragment a.held (object_of m u) in
    let next : AssetFits area (n + 1) (after_unit a r) =
    record {
      held = omega (arith, q.held);
      counts =
          record {
            packets = omega (arith, h.counts.packets);
            lost = omega (arith, h.counts.lost);
            scrambled = omega (arith, h.counts.scrambled);
            mfus = omega (arith, h.counts.mfus, q.outs);
            scrambled_mfus = omega (arith, h.counts.scrambled_mfus);
            dropped = omega (arith, h.counts.dropped, q.drops);
            mpus = omega (arith, h.counts.mpus);
            jumps = omega (arith, h.counts.jumps);
            malformed = omega (arith, h.counts.malformed);
          };
    } in
    asset_more area (n + 1 + length us) (n + suc (length us)) (after_units m (after_unit a r) us) (omega arith)
    (units_fit area m us (n + 1) (after_unit a r) next (omega arith))

lost_le : (o : Option ℕ) (n : ℕ) → lost_by o n ≤ 1048576
unfolding lost_by lost_from
lost_le None n = omega arith
lost_le (Some l) n = cond_elim (λ (x : ℕ). x ≤ 1048576) (follows l n) (λ e. omega arith) (λ e. omega arith)

gone_le : (b : Bool) (h : Option Mfu) → held_length (cond b None h) ≤ held_length h
gone_le true h = omega arith
gone_le false h = omega arith

applied_fits : (area n : ℕ) (a : Asset) (m : MpuPacket) → AssetFits area n a → AssetFits area (n + 1048576) (after_headers a m)
unfolding after_headers
applied_fits area n a m h =
    record {
      held = omega (arith, gone_le (gap a.number m.number) a.held, h.held);
      counts =
          record {
            packets = omega (arith, h.counts.packets);
            lost = omega (arith, h.counts.lost, lost_le a.number m.number);
            scrambled = omega (arith, h.counts.scrambled, one_le m.scrambled);
            mfus = omega (arith, h.counts.mfus);
            scrambled_mfus = omega (arith, h.counts.scrambled_mfus, one_le (m.scrambled && completes m.header));
            dropped = omega (arith, h.counts.dropped, one_le (gap a.number m.number && is_some a.held));
            mpus = omega (arith, h.counts.mpus, one_le (new_mpu a.mpu (mpu_in m.header)));
            jumps = omega (arith, h.counts.jumps, one_le (jumped a.mpu (mpu_in m.header)));
            malformed = omega (arith, h.counts.malformed, one_le (malformed_payload m));
          };
    }

pub asset_fits : (area n : ℕ) (a : Asset) (m : MpuPacket) → AssetFits area n a → length (readable m) < 65536
    → units_need m (after_headers a m) (readable m) ≤ area → AssetFits area (n + most_added) (asset_after a m)
unfolding asset_after
asset_fits area n a m h l k =
    asset_more area (n + 1048576 + length (readable m)) (n + most_added) (asset_after a m) (omega arith)
    (units_fit area m (readable m) (n + 1048576) (after_headers a m) (applied_fits area n a m h) k)
