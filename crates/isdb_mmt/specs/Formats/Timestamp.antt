-- The MPU timestamp descriptor (ARIB STD-B60, 7.4.3.5) and the MPU extended timestamp descriptor (7.4.3.35).
use Rattle.std.specs.Prelude.{ℕ, ◌+◌, ◌-◌, ◌*◌, ◌/◌, ◌%◌, Bool, not, List, [], length, slice_index, slice_index_or, None, Some, Option, is_some}
use Rattle.isdb_tlv.specs.Guards.{◌<?◌, ◌≤?◌, ◌=?◌}
use Rattle.std.specs.Prelude.{if◌then◌else◌}
use Rattle.isdb_tlv.specs.Bytes.{be}
use Rattle.isdb_tlv.specs.Walk.{Next, stop, more, walk, also}
use Rattle.isdb_mmt.specs.Formats.Part.{part_at}
use Rattle.isdb_mmt.specs.declared.timestamp.MpuPresentation.{MpuPresentation}
use Rattle.isdb_mmt.specs.declared.timestamp.Extended.{Extended}
use Rattle.isdb_mmt.specs.Formats.Steps.{MpuStep}
use Rattle.isdb_mmt.specs.declared.walk_step.WalkStep.TheVariants.{End, Malformed, Entry}
use Rattle.isdb_mmt.specs.declared.timestamp.AccessUnit.{AccessUnit}

-- 7.4.3.5: entries of an MPU sequence number, 32 bits, and a presentation time, 64
unfoldable pub timestamp_at : List ℕ → ℕ → Option (MpuPresentation × ℕ)
timestamp_at s at =
    if length s - at <? 12 then None
    else Some (record { mpu_sequence_number = be 4 s at; presentation_time = be 8 s (at + 4) }, at + 12)

-- 7.4.3.35: reserved 5 bits, pts_offset_type 2, timescale_flag 1; a timescale of 32 bits where flagged
abbrev pub scale_end : ℕ → ℕ
scale_end flags = if flags % 2 =? 0 then 1 else 5

-- behind it a default PTS offset of 16 bits where the type is 1
abbrev pub head_end : ℕ → ℕ
head_end flags = if flags / 2 % 4 =? 1 then scale_end flags + 2 else scale_end flags

abbrev pub timescale_of : List ℕ → ℕ → Option ℕ
timescale_of s flags = if flags % 2 =? 0 then None else Some (be 4 s 1)

abbrev pub default_offset : List ℕ → ℕ → Option ℕ
default_offset s flags = if flags / 2 % 4 =? 1 then Some (be 2 s (scale_end flags)) else None

-- an access unit: a DTS-PTS offset of 16 bits, and a PTS offset of its own where the type is 2
abbrev pub unit_size_of : Bool → ℕ
unit_size_of own = if own then 4 else 2

-- an MPU: sequence number 32 bits, leap indicator 2, reserved 6, decoding time offset 16, number of access units 8, and
-- those
unfoldable pub mpu_at : List ℕ → Bool → ℕ → MpuStep
mpu_at s own at =
    if length s ≤? at then End
    else if length s - at <? 8 then Malformed
    else if length s - (at + 8) <? slice_index_or s (at + 7) 0 * unit_size_of own then Malformed
    else Entry (record {
      mpu_sequence_number = be 4 s at;
      leap_indicator = slice_index s (at + 4) / 64;
      decoding_time_offset = be 2 s (at + 5);
      access_units = slice_index s (at + 7);
      units = part_at (at + 8) (slice_index s (at + 7) * unit_size_of own);
    })
    (at + 8 + slice_index s (at + 7) * unit_size_of own)

-- the MPUs from a place on, or none where they do not end with the body
abbrev pub mpu_item : MpuStep → Next (Option (List MpuStep))
mpu_item End = stop (Some [])
mpu_item Malformed = stop None
mpu_item (Entry m next) = more next (also (Entry m next))

unfoldable pub mpus_from : List ℕ → Bool → ℕ → Option (List MpuStep)
mpus_from s own at = walk (λ p. mpu_item (mpu_at s own p)) None (length s) at

unfoldable pub mpus_whole : List ℕ → Bool → ℕ → Bool
mpus_whole s own at = is_some (mpus_from s own at)

-- a whole descriptor: its head and its MPUs are there
unfoldable pub extended_of : List ℕ → Option Extended
extended_of s =
    if length s <? 1 then None
    else if length s <? head_end (slice_index s 0) then None
    else if not (mpus_whole s (slice_index s 0 / 2 % 4 =? 2) (head_end (slice_index s 0))) then None
    else Some (record {
      timescale = timescale_of s (slice_index s 0);
      default_pts_offset = default_offset s (slice_index s 0);
      own_pts_offset = slice_index s 0 / 2 % 4 =? 2;
      start = head_end (slice_index s 0);
    })

-- the access unit at a place
abbrev pub unit_at : List ℕ → Extended → ℕ → AccessUnit
unit_at s e at =
    record {
      dts_pts_offset = be 2 s at;
      pts_offset = if e.own_pts_offset then Some (be 2 s (at + 2)) else e.default_pts_offset;
    }

-- what stands at a place of an MPU's access units
unfoldable pub unit_step : List ℕ → Extended → ℕ → Option (AccessUnit × ℕ)
unit_step s e at =
    if length s - at <? unit_size_of e.own_pts_offset then None
    else Some (unit_at s e at, at + unit_size_of e.own_pts_offset)
