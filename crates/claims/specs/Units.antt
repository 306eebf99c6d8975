-- Units of an MPU payload, messages of a control payload, tables of a message; flags, and what may be absent.
use Rattle.std.specs.Prelude.{ℕ, ◌≡◌, refl, true, false, ◌++◌, get_or, replicate, None, Some, is_some, unwrap_or}
use Rattle.isdb_tlv.specs.Fields.{bytes_of, written}
use Rattle.isdb_tlv.specs.Bytes.{be}
use Rattle.isdb_mmt.specs.Formats.Part.{part_at}
use Rattle.isdb_mmt.specs.Formats.Maybe.{flag_of, given}
use Rattle.isdb_mmt.specs.Formats.Mpu.{fragment_code_of, fragment_type_of, indicator_code_of, indicator, completes_of, payload_header, declared_of, header_or, unit_in, unit_at, unit_step, units_from, units_of, counted, follows, lost_from}
use Rattle.isdb_mmt.specs.Formats.Message.{division_of, fragment_of, aggregated_at, pa_tables, content_of, table_at}
use Rattle.isdb_mmt.specs.Pushes.Records.{held_fields}
use Rattle.isdb_mmt.specs.declared.mpu.FragmentType.TheVariants.{Mfu, Reserved}
use Rattle.isdb_mmt.specs.declared.mpu.FragmentationIndicator.TheVariants.{Complete, Head, Middle, Last}
use Rattle.isdb_mmt.specs.declared.mpu.PayloadHeader.{PayloadHeader}
use Rattle.isdb_mmt.specs.declared.mpu.MfuHeader.{MfuHeader}
use Rattle.isdb_mmt.specs.declared.walk_step.WalkStep.TheVariants.{Entry as unit}
use Rattle.isdb_mmt.specs.declared.message.Division.TheVariants.{Last as last}
use Rattle.isdb_mmt.specs.declared.walk_step.WalkStep.TheVariants.{End as no_more, Entry as Message}
use Rattle.isdb_mmt.specs.declared.message.Content.TheVariants.{Tables}
use Rattle.isdb_mmt.specs.declared.walk_step.WalkStep.TheVariants.{Malformed as bad_table}

-- FragmentType::from: the low four bits
-- wrong: Mfu => Reserved 0x12 (all eight)
-- wrong: Mfu => MovieFragmentMetadata (one before)
pub fragment_from_code : fragment_type_of 0x12 ≡ Mfu
unfolding fragment_type_of
fragment_from_code = refl

-- u8::from of a FragmentType
-- wrong: 15 => 3 (the first that is reserved)
-- wrong: 15 => 7 (halved)
pub fragment_code : fragment_code_of (Reserved 15) ≡ 15
fragment_code = refl

-- FragmentationIndicator::from: the low two bits
-- wrong: Last => Complete (a code above 3)
-- wrong: Last => Middle (one before)
pub indicator_from_code : indicator 7 ≡ Last
unfolding indicator
indicator_from_code = refl

-- u8::from of a FragmentationIndicator
-- wrong: 2 => 1 (the head's)
-- wrong: 2 => 3 (the last's)
pub indicator_code : indicator_code_of Middle ≡ 2
indicator_code = refl

-- FragmentationIndicator::completes
-- wrong: true => false (a complete unit alone)
pub completes_last : completes_of Last ≡ true
completes_last = refl

-- FragmentationIndicator::completes
-- wrong: false => true (a unit begins and so ends)
pub completes_head : completes_of Head ≡ false
completes_head = refl

-- u64::from of a flag
-- wrong: 1 => 0 (no)
-- wrong: 1 => 255 (every bit)
pub flag_yes : flag_of true ≡ 1
flag_yes = refl

-- maybe::number_at: behind the end of a list
-- wrong: 0 => 9 (the last one)
-- wrong: 0 => 7 (from the front again)
pub number_behind : get_or (bytes_of 2 0x0709) 2 0 ≡ 0
unfolding bytes_of
number_behind = refl

-- maybe::given: an id of 16 bits
-- wrong: 1 => 0 (0 taken for absent)
pub u16_given : given {A = ℕ} (Some 0) ≡ 1
u16_given = refl

-- a number of 16 bits, 0 where there is none
-- wrong: 7 => 1 (whether it is there)
-- wrong: 7 => 0 (none)
pub u16_number : unwrap_or {T = ℕ} (Some 7) 0 ≡ 7
u16_number = refl

-- whether there is a number
-- wrong: true => false (0 taken for absent)
pub u32_is_some : is_some {T = ℕ} (Some 0) ≡ true
u32_is_some = refl

-- maybe::given: an id of 32 bits
-- wrong: 1 => 0 (0 taken for absent)
pub u32_given : given {A = ℕ} (Some 0) ≡ 1
u32_given = refl

-- a number of 32 bits, 0 where there is none
-- wrong: 7 => 1 (whether it is there)
-- wrong: 7 => 0 (none)
pub u32_number : unwrap_or {T = ℕ} (Some 7) 0 ≡ 7
u32_number = refl

-- whether there is a header
-- wrong: false => true (a header of zeros)
pub header_absent : is_some {T = MfuHeader} None ≡ false
header_absent = refl

-- a header, that of zeros where there is none
-- wrong: 8 => 9 (the next field's)
-- wrong: 8 => 0 (none)
pub header_there :
    (header_or
    (Some (record { movie_fragment_sequence_number = 5; sample_number = 6; offset = 7; priority = 8; dependency_counter = 9 }))
    ).priority
    ≡ 8
header_there = refl

-- records::held_row: an item that begins with a random access point
-- wrong: 0x0102090000000003 => 0x0102010000000003 (no item id said)
-- wrong: 0x0000000500000000 => 0x0000000000000000 (no item id)
pub held_row :
    written
    (held_fields 0x0102
    (record { mpu_sequence_number = 3; rap = true; mfu = None; item_id = Some 5; bytes = part_at 64 2 }))
    ≡ bytes_of 8 0x0102090000000003 ++ (replicate 16 0 ++ (bytes_of 8 0x0000000500000000 ++ bytes_of 4 2))
unfolding bytes_of
held_row = refl

-- a whole unit of untimed data, of the MPU `n`
abbrev header : ℕ → PayloadHeader
header n =
    record { fragment_type = Mfu; timed = false; fragmentation = Complete; aggregated = false; fragment_counter = 0; mpu_sequence_number = n }

-- mpu::parse_header: the 8 bytes need not lie within the declared ones
-- wrong: Some (header 7) => None (within them)
-- wrong: Some (header 7) => Some (header 0) (behind them 0)
pub parse_header : payload_header (bytes_of 8 0x0000200000000007) ≡ Some (header 7)
unfolding bytes_of be fragment_type_of indicator payload_header
parse_header = refl

-- mpu::declared: the length counts what stands behind it
-- wrong: bytes_of 8 0x0006280000000007 => bytes_of 6 0x000628000000 (it counts itself)
-- wrong: bytes_of 8 0x0006280000000007 => bytes_of 9 0x00062800000000077A (all that is there)
pub declared : declared_of (bytes_of 9 0x00062800000000077A) ≡ bytes_of 8 0x0006280000000007
unfolding bytes_of be
declared = refl

-- mpu::next_unit: an untimed unit of five bytes behind its length
-- wrong: part_at 14 1 => part_at 10 5 (the item id taken for data)
-- wrong: 15 => 13 (the length without its own two bytes)
pub next_unit : unit_step (bytes_of 15 0x000D21000000000700050000000AAA) false true 8
    ≡ unit (record { mfu = None; item_id = Some 10; «data» = part_at 14 1 }) 15
unfolding bytes_of be unit_in unit_at unit_step
next_unit = refl

-- mpu::count_units: a timed unit of 13 bytes
-- wrong: None => Some 0 (passed over)
-- wrong: None => Some 1 (its header cut)
pub count_units : counted (units_of (bytes_of 8 0x0013280000000007 ++ replicate 13 0x00) true false) ≡ None
unfolding bytes_of be unit_in unit_at unit_step units_from units_of counted
count_units = refl

-- mpu::follows_on: behind 4,294,967,295 comes 0
-- wrong: true => false (no wrap)
pub follows_wrap : follows 4294967295 0 ≡ true
unfolding follows
follows_wrap = refl

-- mpu::follows_on: the same number again does not follow
-- wrong: false => true (a repetition taken for the same packet)
pub follows_same : follows 5 5 ≡ false
unfolding follows
follows_same = refl

-- mpu::lost: of a repeated number
-- wrong: 1048576 => 4294967295 (without a most)
-- wrong: 1048576 => 0 (a repetition taken for the same packet)
pub lost : lost_from 5 5 ≡ 1048576
unfolding lost_from
lost = refl

-- Fragment::from
-- wrong: last => middle (one before)
-- wrong: long_length = true => long_length = false (bit 2)
pub fragment_of_lem : fragment_of 0xC2 ≡ record { division = last; long_length = true; aggregated = false }
unfolding division_of
fragment_of_lem = refl

-- message::next_message: a message of one byte behind a length of two
-- wrong: part_at 2 1 => part_at 0 3 (with its length)
-- wrong: 3 => 2 (behind the length)
pub next_message : aggregated_at (bytes_of 3 0x000190) false 0 ≡ Message (part_at 2 1) 3
unfolding bytes_of be aggregated_at
next_message = refl

-- message::next_message: a tail too short for a length is dropped
-- wrong: no_more => past_end (as mmtp::messages has it)
pub next_message_tail : aggregated_at (bytes_of 4 0x00019000) false 3 ≡ no_more
unfolding bytes_of be aggregated_at
next_message_tail = refl

-- message::content_of: the tables of a PA message stand behind 1 + 4n bytes
-- wrong: 5 => 4 (without n itself)
-- wrong: part_at 7 9 => part_at 7 255 (as its length says)
pub content_of_lem : content_of (bytes_of 16 0x000000000000FF012000000020000000) ≡ Tables (part_at 7 9) 5
unfolding bytes_of be pa_tables content_of
content_of_lem = refl

-- message::next_table: one that runs past the body's end
-- wrong: bad_table => no_table_of (the end)
-- wrong: bad_table => table (part_at 0 5) 5 (as much as is there)
pub next_table : table_at (bytes_of 5 0x2001000200) 0 ≡ bad_table
unfolding bytes_of be table_at
next_table = refl
