-- MPU payloads: ARIB STD-B60, 6.3.2, Tables 6-1 to 6-3; and the steps of sequence numbers.
use Rattle.std.specs.Prelude.{unwrap_or, ℕ, ◌+◌, ◌-◌, ◌/◌, ◌%◌, ◌^◌, min, Bool, true, false, not, List, [], length, take, slice_index, slice_range, None, Some, Option}
use Rattle.isdb_tlv.specs.Guards.{◌<?◌, ◌≤?◌, ◌=?◌}
use Rattle.std.specs.Prelude.{if◌then◌else◌}
use Rattle.isdb_tlv.specs.Bytes.{be}
use Rattle.isdb_tlv.specs.Walk.{Next, stop, more, walk, also, count_of}
use Rattle.isdb_mmt.specs.Formats.Part.{part_at}
use Rattle.isdb_mmt.specs.declared.mpu.FragmentType.{FragmentType}
use Rattle.isdb_mmt.specs.declared.mpu.FragmentType.TheVariants.{MpuMetadata, MovieFragmentMetadata, Mfu, Reserved}
use Rattle.isdb_mmt.specs.declared.mpu.FragmentationIndicator.{FragmentationIndicator}
use Rattle.isdb_mmt.specs.declared.mpu.FragmentationIndicator.TheVariants.{Complete, Head, Middle, Last}
use Rattle.isdb_mmt.specs.declared.mpu.PayloadHeader.{PayloadHeader}
use Rattle.isdb_mmt.specs.declared.mpu.MfuHeader.{MfuHeader}
use Rattle.isdb_mmt.specs.declared.mpu.Unit.{Unit as DataUnit}
use Rattle.isdb_mmt.specs.Formats.Steps.{UnitStep}
use Rattle.isdb_mmt.specs.declared.walk_step.WalkStep.TheVariants.{End, Malformed, Entry as found}

-- MPU_fragment_type, 4 bits (Table 6-2)
abbrev pub fragment_code_of : FragmentType → ℕ
fragment_code_of MpuMetadata = 0
fragment_code_of MovieFragmentMetadata = 1
fragment_code_of Mfu = 2
fragment_code_of (Reserved c) = c

unfoldable pub fragment_type_of : ℕ → FragmentType
fragment_type_of c =
    if c % 16 =? fragment_code_of MpuMetadata then MpuMetadata
    else if c % 16 =? fragment_code_of MovieFragmentMetadata then MovieFragmentMetadata
    else if c % 16 =? fragment_code_of Mfu then Mfu
    else Reserved (c % 16)

-- fragmentation_indicator, 2 bits (Table 6-3)
abbrev pub indicator_code_of : FragmentationIndicator → ℕ
indicator_code_of Complete = 0
indicator_code_of Head = 1
indicator_code_of Middle = 2
indicator_code_of Last = 3

unfoldable pub indicator : ℕ → FragmentationIndicator
indicator c =
    if c % 4 =? indicator_code_of Complete then Complete
    else if c % 4 =? indicator_code_of Head then Head
    else if c % 4 =? indicator_code_of Middle then Middle
    else Last

abbrev pub completes_of : FragmentationIndicator → Bool
completes_of Complete = true
completes_of Head = false
completes_of Middle = false
completes_of Last = true

-- Table 6-1: payload length 16 bits, fragment type 4, timed flag 1, fragmentation indicator 2, aggregation flag 1, fragment
-- counter 8, MPU sequence number 32
abbrev pub payload_header_fields : List ℕ → PayloadHeader
payload_header_fields s =
    record {
      fragment_type = fragment_type_of (slice_index s 2 / 16);
      timed = slice_index s 2 / 8 % 2 =? 1;
      fragmentation = indicator (slice_index s 2 / 2);
      aggregated = slice_index s 2 % 2 =? 1;
      fragment_counter = slice_index s 3;
      mpu_sequence_number = be 4 s 4;
    }

-- the declared bytes are to be there; the header's 8 bytes are those of the whole payload, whatever it declares
unfoldable pub payload_header : List ℕ → Option PayloadHeader
payload_header s =
    if length s <? 2 then None
    else if length s <? be 2 s 0 + 2 then None
    else if length s <? 8 then None
    else Some (payload_header_fields s)

-- the length counts what stands behind it
abbrev pub declared_of : List ℕ → List ℕ
declared_of s = take (be 2 s 0 + 2) s

-- the header of an MFU of timed data: movie fragment sequence number 32 bits, sample number 32, offset 32, priority 8,
-- dependency counter 8
abbrev pub mfu_at : List ℕ → MfuHeader
mfu_at s =
    record {
      movie_fragment_sequence_number = be 4 s 0;
      sample_number = be 4 s 4;
      offset = be 4 s 8;
      priority = slice_index s 12;
      dependency_counter = slice_index s 13;
    }

-- an absent header has all fields 0
abbrev pub no_header : MfuHeader
no_header =
    record { movie_fragment_sequence_number = 0; sample_number = 0; offset = 0; priority = 0; dependency_counter = 0 }

abbrev pub header_or : Option MfuHeader → MfuHeader
header_or o = unwrap_or o no_header

-- a unit of timed data in the bytes from `at` to `end`, and one of untimed data, with an item id of 32 bits
abbrev pub timed_unit : List ℕ → ℕ → ℕ → DataUnit
timed_unit s at end =
    record { mfu = Some (mfu_at (slice_range s at end)); item_id = None; «data» = part_at (at + 14) (end - at - 14) }

abbrev pub untimed_unit : List ℕ → ℕ → ℕ → DataUnit
untimed_unit s at end =
    record { mfu = None; item_id = Some (be 4 (slice_range s at end) 0); «data» = part_at (at + 4) (end - at - 4) }

unfoldable pub unit_in : List ℕ → Bool → ℕ → ℕ → UnitStep
unit_in s timed at end =
    if timed then (if end - at <? 14 then Malformed else found (timed_unit s at end) end)
    else if end - at <? 4 then Malformed
    else found (untimed_unit s at end) end

-- behind a length of 16 bits where units are aggregated; else one unit has all that is left
unfoldable pub unit_at : List ℕ → Bool → Bool → ℕ → UnitStep
unit_at s timed aggregated at =
    if not aggregated then unit_in s timed at (length s)
    else if length s - at <? 2 then Malformed
    else if length s - (at + 2) <? be 2 s at then Malformed
    else unit_in s timed (at + 2) (at + 2 + be 2 s at)

-- what stands at a place of a payload's declared bytes: the first unit, at 8, is to be there, also for a place before it
unfoldable pub unit_step : List ℕ → Bool → Bool → ℕ → UnitStep
unit_step s timed aggregated at =
    if length s <? 8 then Malformed
    else if at ≤? 8 then unit_at s timed aggregated 8
    else if length s ≤? at then End
    else unit_at s timed aggregated at

abbrev pub item : UnitStep → Next (Option (List DataUnit))
item End = stop (Some [])
item Malformed = stop None
item (found u next) = more next (also u)

-- the units from a place on, or none where one is not whole
unfoldable pub units_from : List ℕ → Bool → Bool → ℕ → Option (List DataUnit)
units_from s timed aggregated at = walk (λ p. item (unit_step s timed aggregated p)) None (length s) at

unfoldable pub units_of : List ℕ → Bool → Bool → Option (List DataUnit)
units_of s timed aggregated = units_from s timed aggregated 8

unfoldable pub counted : Option (List DataUnit) → Option ℕ
counted o = count_of None Some o

-- the number behind another: behind 4,294,967,295 comes 0
unfoldable pub follows : ℕ → ℕ → Bool
follows old new = new =? (old + 1) % 2 ^ 32

-- packets lost from one number to the next: (new - old - 1) modulo 2 ^ 32, at most 1,048,576
unfoldable pub lost_from : ℕ → ℕ → ℕ
lost_from old new = min ((new + 2 ^ 33 - old - 1) % 2 ^ 32) 1048576
