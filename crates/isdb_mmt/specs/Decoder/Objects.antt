-- What a media packet does to the objects and counts of its packet id: the Rust's `Reassembler::push`, on values.
-- Translated from mpu.rs of isdb-rs (Apache-2.0, see NOTICE) and changed.
use Rattle.isdb_mmt.specs.declared.mpu.MfuHeader.{MfuHeader}
use Rattle.std.specs.Prelude.{ℕ, ◌+◌, Bool, true, false, cond, not, ◌&&◌, List, [], ◌∷◌, ◌++◌, length, None, Option, Some, is_some}
use Rattle.isdb_tlv.specs.Guards.{◌≤?◌, ◌=?◌}
use Rattle.std.specs.Prelude.{if◌then◌else◌}
use Rattle.isdb_mmt.specs.Formats.Mpu.{follows, lost_from, completes_of}
use Rattle.isdb_mmt.specs.Decoder.Packet.{Bytes, PayloadUnit, MpuPacket, readable}
use Rattle.isdb_mmt.specs.declared.decoder.counts.AssetStats.{AssetStats}
use Rattle.isdb_mmt.specs.declared.mpu.FragmentationIndicator.{FragmentationIndicator}
use Rattle.isdb_mmt.specs.declared.mpu.FragmentationIndicator.TheVariants.{Complete, Head, Middle, Last}
use Rattle.isdb_mmt.specs.declared.mpu.PayloadHeader.{PayloadHeader}
use Rattle.isdb_mmt.specs.Decoder.Maps.{one}

-- an object: what its record carries, from its first packet and unit, and its bytes
pub record Mfu : Type 0 where
  pub mpu : ℕ
  pub rap : Bool
  pub mfu : Option MfuHeader
  pub item_id : Option ℕ
  pub bytes : Bytes

pub record Asset : Type 0 where
  -- last packet number, last MPU number, the held object
  pub number : Option ℕ
  pub mpu : Option ℕ
  pub held : Option Mfu
  -- first and last MPU number
  pub range : Option (ℕ × ℕ)
  pub stats : AssetStats

abbrev pub no_stats : AssetStats
no_stats =
    record {
      packets = 0;
      packets_lost = 0;
      scrambled_packets = 0;
      mfus = 0;
      scrambled_mfus = 0;
      mfus_dropped = 0;
      mpus = 0;
      mpu_sequence_jumps = 0;
      malformed = 0;
    }

unfoldable pub fresh : Asset
fresh = record { number = None; mpu = None; held = None; range = None; stats = no_stats }

-- with so many objects delivered and dropped more
abbrev pub objects_counted : AssetStats → ℕ → ℕ → AssetStats
objects_counted s delivered dropped =
    record {
      packets = s.packets;
      packets_lost = s.packets_lost;
      scrambled_packets = s.scrambled_packets;
      mfus = s.mfus + delivered;
      scrambled_mfus = s.scrambled_mfus;
      mfus_dropped = s.mfus_dropped + dropped;
      mpus = s.mpus;
      mpu_sequence_jumps = s.mpu_sequence_jumps;
      malformed = s.malformed;
    }

-- the largest object
abbrev pub most_object : ℕ
most_object = 16777216

-- a number that does not follow the last one
unfoldable pub gap : Option ℕ → ℕ → Bool
gap None n = false
gap (Some l) n = not (follows l n)

unfoldable pub lost_by : Option ℕ → ℕ → ℕ
lost_by None n = 0
lost_by (Some l) n = if follows l n then 0 else lost_from l n

-- what one unit does: the object held after it, how many are dropped, which are delivered
pub record UnitEffect : Type 0 where
  pub held : Option Mfu
  pub drops : ℕ
  pub outs : List Mfu

unfoldable pub grown : Mfu → Bytes → Mfu
grown h d = record { mpu = h.mpu; rap = h.rap; mfu = h.mfu; item_id = h.item_id; bytes = h.bytes ++ d }

-- an object continued: it fits or it is dropped; its end delivers it
unfoldable pub continued : Bool → Bool → Mfu → UnitEffect
continued true true h = record { held = None; drops = 0; outs = h ∷ [] }
continued true false h = record { held = Some h; drops = 0; outs = [] }
continued false e h = record { held = None; drops = 1; outs = [] }

unfoldable pub effect_of : FragmentationIndicator → Option Mfu → Mfu → UnitEffect
unfolding continued grown
effect_of Complete h u = record { held = None; drops = one (is_some h); outs = u ∷ [] }
effect_of Head h u = record { held = Some u; drops = one (is_some h); outs = [] }
effect_of Middle None u = record { held = None; drops = 0; outs = [] }
effect_of Middle (Some h) u = continued (length h.bytes + length u.bytes ≤? most_object) false (grown h u.bytes)
effect_of Last None u = record { held = None; drops = 0; outs = [] }
effect_of Last (Some h) u = continued (length h.bytes + length u.bytes ≤? most_object) true (grown h u.bytes)

unfoldable pub after_unit : Asset → UnitEffect → Asset
after_unit a r =
    record {
      number = a.number;
      mpu = a.mpu;
      held = r.held;
      range = a.range;
      stats = objects_counted a.stats (length r.outs) r.drops;
    }

abbrev pub mpu_in : Option PayloadHeader → Option ℕ
mpu_in None = None
mpu_in (Some h) = Some h.mpu_sequence_number

abbrev pub mpu_number : Option PayloadHeader → ℕ
mpu_number None = 0
mpu_number (Some h) = h.mpu_sequence_number

-- the object that a unit begins
unfoldable pub object_of : MpuPacket → PayloadUnit → Mfu
object_of m u =
    record { mpu = mpu_number m.header; rap = m.rap; mfu = u.mfu; item_id = u.item_id; bytes = u.bytes }

unfoldable pub unit_effect : MpuPacket → Asset → PayloadUnit → UnitEffect
unfolding effect_of object_of
unit_effect m a u = effect_of u.fragment a.held (object_of m u)

unfoldable pub after_units : MpuPacket → Asset → List PayloadUnit → Asset
unfolding after_unit unit_effect
after_units m a [] = a
after_units m a (u ∷ us) = after_units m (after_unit a (unit_effect m a u)) us

unfoldable pub delivered_by : MpuPacket → Asset → List PayloadUnit → List Mfu
unfolding after_unit unit_effect
delivered_by m a [] = []
delivered_by m a (u ∷ us) = (unit_effect m a u).outs ++ delivered_by m (after_unit a (unit_effect m a u)) us

unfoldable pub new_mpu : Option ℕ → Option ℕ → Bool
new_mpu o None = false
new_mpu None (Some n) = true
new_mpu (Some l) (Some n) = not (n =? l)

unfoldable pub jumped : Option ℕ → Option ℕ → Bool
jumped o None = false
jumped None (Some n) = false
jumped (Some l) (Some n) = not (n =? l) && not (follows l n)

unfoldable pub mpu_after : Option ℕ → Option ℕ → Option ℕ
mpu_after o None = o
mpu_after o (Some n) = Some n

-- first and last, which moves only with a new number
abbrev pub last_in : Option (ℕ × ℕ) → ℕ → Option (ℕ × ℕ)
last_in None n = Some (n, n)
last_in (Some r) n = Some (r.0, n)

unfoldable pub range_after : Bool → Option (ℕ × ℕ) → Option ℕ → Option (ℕ × ℕ)
range_after false r n = r
range_after true r None = r
range_after true r (Some n) = last_in r n

abbrev pub completes : Option PayloadHeader → Bool
completes None = false
completes (Some h) = completes_of h.fragmentation

-- a payload whose header fails, or a clear one whose units do
unfoldable pub malformed_payload : MpuPacket → Bool
malformed_payload m = cond (is_some m.header) (not m.scrambled && not (is_some m.units)) true

-- the gap rule, and what the packet's and the payload's headers count
unfoldable pub after_headers : Asset → MpuPacket → Asset
unfolding gap lost_by mpu_after new_mpu jumped range_after malformed_payload
after_headers a m =
    record {
      number = Some m.number;
      mpu = mpu_after a.mpu (mpu_in m.header);
      held = cond (gap a.number m.number) None a.held;
      range = range_after (new_mpu a.mpu (mpu_in m.header)) a.range (mpu_in m.header);
      stats =
          record {
            packets = a.stats.packets + 1;
            packets_lost = a.stats.packets_lost + lost_by a.number m.number;
            scrambled_packets = a.stats.scrambled_packets + one m.scrambled;
            mfus = a.stats.mfus;
            scrambled_mfus = a.stats.scrambled_mfus + one (m.scrambled && completes m.header);
            mfus_dropped = a.stats.mfus_dropped + one (gap a.number m.number && is_some a.held);
            mpus = a.stats.mpus + one (new_mpu a.mpu (mpu_in m.header));
            mpu_sequence_jumps = a.stats.mpu_sequence_jumps + one (jumped a.mpu (mpu_in m.header));
            malformed = a.stats.malformed + one (malformed_payload m);
          };
    }

unfoldable pub asset_after : Asset → MpuPacket → Asset
unfolding after_headers readable after_units
asset_after a m = after_units m (after_headers a m) (readable m)

-- a record that is given out: packet id, whether it is a scrambled payload passed on, the object
pub record Rec : Type 0 where
  pub id : ℕ
  pub scrambled : Bool
  pub mfu : Mfu

unfoldable pub tagged : ℕ → List Mfu → List Rec
tagged i [] = []
tagged i (d ∷ ds) = record { id = i; scrambled = false; mfu = d } ∷ tagged i ds

-- a scrambled payload with a good header, passed on from byte 8 to its end where the session is set so
unfoldable pub passes : Bool → MpuPacket → List Rec
passes pass m =
    cond (pass && (m.scrambled && is_some m.header))
    (record {
      id = m.id;
      scrambled = true;
      mfu = record { mpu = mpu_number m.header; rap = m.rap; mfu = None; item_id = None; bytes = m.raw };
    } ∷ [])
    []

unfoldable pub media_gives : Bool → Asset → MpuPacket → List Rec
unfolding passes tagged delivered_by after_headers readable
media_gives pass a m = passes pass m ++ tagged m.id (delivered_by m (after_headers a m) (readable m))
