-- Locations, descriptors, timestamps.
use Rattle.std.specs.Prelude.{◌≡◌, refl, true, false, [], ◌∷◌, None, Some}
use Rattle.std.specs.Float.{binary64}
use Rattle.std.specs.Float.Ieee.{of_int, sub, div, to_bits}
use Rattle.isdb_tlv.specs.Fields.{bytes_of}
use Rattle.isdb_tlv.specs.Bytes.{be}
use Rattle.isdb_mmt.specs.Formats.Part.{part_at}
use Rattle.isdb_mmt.specs.Formats.Location.{sized, url_of, location_of, packet_id_of}
use Rattle.isdb_mmt.specs.Formats.Ntp.{ntp_to_unix_of}
use Rattle.isdb_mmt.specs.Formats.Timestamp.{timestamp_at, mpu_at, mpus_from, mpus_whole, extended_of, unit_step}
use Rattle.isdb_mmt.specs.Formats.Desc.{length_width_of, step_at, split_from, split_of, counted, stream_identifier, descriptor_of, is_other_of, first_of, service_at, genre_at}
use Rattle.isdb_mmt.specs.declared.location.Location.TheVariants.{Mpeg2Ts, Url}
use Rattle.isdb_mmt.specs.declared.timestamp.Extended.{Extended}
use Rattle.isdb_mmt.specs.declared.walk_step.WalkStep.TheVariants.{Entry as an_mpu}
use Rattle.isdb_mmt.specs.declared.desc.Step.TheVariants.{Raw}
use Rattle.isdb_mmt.specs.declared.desc.Descriptor.TheVariants.{StreamIdentifier, ServiceList, Other}

-- Location::parse: a URL's place counts from the location's first byte
-- wrong: part_at 2 3 => part_at 0 3 (from the URL's own)
-- wrong: 5 => 6 (with the byte behind it)
pub location_parse : location_of (bytes_of 6 0x0503616263EE) ≡ Some (Url (part_at 2 3), 5)
unfolding bytes_of sized url_of location_of
location_parse = refl

-- Location::packet_id: an MPEG-2 TS packet has none
-- wrong: None => Some 0x1FFF (its PID)
-- wrong: None => Some 4 (its network id)
pub location_packet_id : packet_id_of (Mpeg2Ts 4 5 0x1FFF) ≡ None
location_packet_id = refl

-- desc::length_width: a tag of 7000h
-- wrong: 4 => 2 (as 6FFFh)
-- wrong: 4 => 1 (as 8000h)
pub length_width : length_width_of 0x7000 ≡ 4
unfolding length_width_of
length_width = refl

-- desc::next: a length of two bytes behind a tag of F001h
-- wrong: part_at 4 1 => part_at 3 0 (a length of one byte)
-- wrong: 5 => 4 (the body's start)
pub desc_next : step_at (bytes_of 5 0xF00100017A) 0 ≡ Raw 0xF001 (part_at 4 1) 5
unfolding bytes_of be length_width_of step_at
desc_next = refl

-- desc::decode_all: a descriptor, and one whose body is not there in full
-- wrong: count = 1 => count = 2 (the broken one too)
-- wrong: broken = true => broken = false (a break taken for the end)
pub decode_all : counted (split_of (bytes_of 8 0x8011020010801109)) ≡ record { count = 1; broken = true }
unfolding bytes_of be length_width_of step_at split_from split_of counted
decode_all = refl

-- Descriptor::decode: a body too short for its structure
-- wrong: Other 0x8011 (part_at 0 1) => StreamIdentifier 0 (the missing byte read as 0)
-- wrong: part_at 0 1 => part_at 0 0 (the body lost)
pub decode : descriptor_of 0x8011 (0x00 ∷ []) ≡ Other 0x8011 (part_at 0 1)
unfolding stream_identifier descriptor_of
decode = refl

-- Descriptor::is_other
-- wrong: false => true (no fields of its own)
pub is_other : is_other_of ServiceList ≡ false
is_other = refl

-- Descriptor::is_other
-- wrong: true => false (one that could not be decoded)
pub is_other_body : is_other_of (Other 0x8011 (part_at 0 1)) ≡ true
is_other_body = refl

-- desc::first_of: the first that could be decoded
-- wrong: Some (StreamIdentifier 16, part_at 7 2) => None (the first of the tag could not)
-- wrong: part_at 7 2 => part_at 3 2 (the first's place)
pub first_of_lem : first_of 0x8011 (bytes_of 9 0x801101008011020010) 0 ≡ Some (StreamIdentifier 16, part_at 7 2)
unfolding bytes_of be length_width_of step_at split_from stream_identifier descriptor_of first_of
first_of_lem = refl

-- desc::next_service: entries of three bytes
-- wrong: }, 6) => }, 5) (the place of the type)
-- wrong: Some (record { service_id = 0x66; service_type = 2 }, 6) => None (three bytes left taken for a rest)
pub next_service : service_at (bytes_of 6 0x006501006602) 3 ≡ Some (record { service_id = 0x66; service_type = 2 }, 6)
unfolding bytes_of be service_at
next_service = refl

-- desc::next_genre: entries of two bytes; a byte left over is none
-- wrong: None => Some (record { level_1 = 7; level_2 = 1; user = 0 }, 3) (the missing byte read as 0)
-- wrong: None => Some (record { level_1 = 0; level_2 = 7; user = 0 }, 4) (one byte further)
pub next_genre : genre_at (bytes_of 3 0x12F071) 2 ≡ None
unfolding bytes_of genre_at
next_genre = refl

-- timestamp::next_timestamp
-- wrong: 0x83AA7E8000000000 => 0x83AA7E80 (the seconds alone)
-- wrong: }, 12) => }, 16) (an entry of 16 bytes)
pub next_timestamp : timestamp_at (bytes_of 12 0x0000000783AA7E8000000000) 0 ≡ Some (record { mpu_sequence_number = 7; presentation_time = 0x83AA7E8000000000 }, 12)
unfolding bytes_of be timestamp_at
next_timestamp = refl

-- timestamp::next_mpu: one access unit with a PTS offset of its own
-- wrong: part_at 8 4 => part_at 8 2 (without it)
-- wrong: leap_indicator = 1; => leap_indicator = 64; (the leap indicator in the low bits)
pub next_mpu : mpu_at (bytes_of 12 0x000000074000640100010002) true 0 ≡ an_mpu (record { mpu_sequence_number = 7; leap_indicator = 1; decoding_time_offset = 100; access_units = 1; units = part_at 8 4 }) 12
unfolding bytes_of be mpu_at
next_mpu = refl

-- timestamp::parse_extended: a default PTS offset, and an MPU that is not there in full
-- wrong: None => Some (record { timescale = None; default_pts_offset = Some 16; own_pts_offset = false; start = 3 }) (its head alone)
-- wrong: None => Some (record { timescale = Some 0; default_pts_offset = None; own_pts_offset = false; start = 1 }) (the flags misread)
pub parse_extended : extended_of (bytes_of 12 0x020010000000074000640100) ≡ None
unfolding bytes_of be mpu_at mpus_from mpus_whole extended_of
parse_extended = refl

-- a default PTS offset of 16
abbrev by_default : Extended
by_default = record { timescale = None; default_pts_offset = Some 16; own_pts_offset = false; start = 3 }

-- timestamp::next_access_unit: the default PTS offset where none is its own
-- wrong: Some 16 => None (no default)
-- wrong: }, 4) => }, 6) (as if it had one of its own)
pub next_access_unit : unit_step (bytes_of 4 0x00010002) by_default 2 ≡ Some (record { dts_pts_offset = 2; pts_offset = Some 16 }, 4)
unfolding bytes_of be unit_step
next_access_unit = refl

-- ntp::ntp_to_unix: a second before 1970, by the bits of the f64
-- wrong: 0xBFF0000000000000 => 0x3FF0000000000000 (the sign lost)
-- wrong: 0xBFF0000000000000 => 0x0000000000000000 (nothing before the epoch)
pub ntp_to_unix : to_bits binary64 (ntp_to_unix_of 0x83AA7E7F00000000) ≡ 0xBFF0000000000000
unfolding ntp_to_unix_of to_bits sub of_int div
ntp_to_unix = refl
