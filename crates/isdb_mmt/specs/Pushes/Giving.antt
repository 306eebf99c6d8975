-- Whole units given out as records, one behind the other.
use Rattle.std.specs.Prelude.{◌≡◌, ℕ, ◌*◌, ◌≤◌, Bool, true, false, List, [], map, length, Option, None, Some, is_some}
use Rattle.isdb_mmt.specs.Formats.Part.{part_of}
use Rattle.isdb_mmt.specs.Decoder.Packet.{Bytes}
use Rattle.isdb_mmt.specs.Formats.Mpu.{units_of}
use Rattle.isdb_mmt.specs.Decoder.Objects.{Rec}
use Rattle.isdb_mmt.specs.Decoder.Needs.{data_of}
use Rattle.isdb_mmt.specs.Memory.Lent.{over}
use Rattle.isdb_mmt.specs.Pushes.Records.{row_size, rows_from, data_from}
use Rattle.isdb_mmt.specs.declared.mpu.Unit.{Unit as DataUnit}

abbrev pub unit_rec : ℕ → ℕ → Bool → Bytes → DataUnit → Rec
unit_rec id mpu rap q u =
    record {
      id = id;
      scrambled = false;
      mfu = record { mpu = mpu; rap = rap; mfu = u.mfu; item_id = u.item_id; bytes = part_of q u.«data» };
    }

unfoldable pub unit_recs : ℕ → ℕ → Bool → Bytes → Option (List DataUnit) → List Rec
unit_recs id mpu rap q None = []
unit_recs id mpu rap q (Some us) = map (unit_rec id mpu rap q) us

-- the units are whole, and there is room for their records
pub record Outputs (q : Bytes) (timed aggregated : Bool) (id mpu : ℕ) (rap : Bool) (rows given : Bytes) : Type 0 where
  pub long : length q ≤ 65537
  pub whole : is_some (units_of q timed aggregated) ≡ true
  pub rows_fit : row_size * length (unit_recs id mpu rap q (units_of q timed aggregated)) ≤ length rows
  pub data_fit : data_of (unit_recs id mpu rap q (units_of q timed aggregated)) ≤ length given

pub record Gave (q : Bytes) (timed aggregated : Bool) (id mpu : ℕ) (rap : Bool) (rows given rows' given' : Bytes) : Type 0 where
  pub rows_are : rows' ≡ over 0 (rows_from 0 (unit_recs id mpu rap q (units_of q timed aggregated))) rows
  pub data_are : given' ≡ over 0 (data_from (unit_recs id mpu rap q (units_of q timed aggregated))) given
