-- Sections and tables.
use Rattle.std.specs.Prelude.{ℕ, ◌≡◌, refl, true, false, List, [], ◌∷◌, drop, Err, None, Ok, Some}
use Rattle.isdb_tlv.specs.Fields.{bytes_of}
use Rattle.isdb_tlv.specs.Bytes.{be}
use Rattle.isdb_tlv.specs.Crc.{feed, feed_byte, crc_of}
use Rattle.isdb_tlv.specs.declared.ip.Address.TheVariants.{V4}
use Rattle.isdb_mmt.specs.Formats.Part.{part_at}
use Rattle.isdb_mmt.specs.Formats.Location.{sized, location_of}
use Rattle.isdb_mmt.specs.Formats.Desc.{length_width_of, step_at, split_from, split_of, broken, stream_identifier, service_text, short_event_of, descriptor_of, first_of}
use Rattle.isdb_mmt.specs.Formats.Section.{long_section_of, entry_at, entries_from, entries_told}
use Rattle.isdb_mmt.specs.Formats.Eit.{eit_body, eit_of, event_step}
use Rattle.isdb_mmt.specs.Formats.Sdt.{sdt_body, sdt_of, service_step}
use Rattle.isdb_mmt.specs.Formats.Bit.{bit_body, bit_of, broadcaster_step}
use Rattle.isdb_mmt.specs.Formats.Nit.{nit_body, nit_of, stream_step, tlv_step_at, frequency_of, whole_body, network_name_of, service_list_of}
use Rattle.isdb_mmt.specs.Formats.Amt.{service_at, services_whole, amt_body, amt_of}
use Rattle.isdb_mmt.specs.Formats.Tot.{tot_fields, tot_of}
use Rattle.isdb_mmt.specs.Formats.Mpt.{declared_length_of, asset_fields, asset_at_of, mpt_assets, mpt_table, mpt_of, service_id_of, first_packet_id, locations_of, component_tag_of}
use Rattle.isdb_mmt.specs.Formats.Plt.{package_at_of, delivery_size, delivery_at_of, deliveries_whole, plt_deliveries, plt_table, plt_of}
use Rattle.isdb_mmt.specs.declared.location.Location.TheVariants.{SameFlow}
use Rattle.isdb_mmt.specs.declared.desc.Descriptor.TheVariants.{Service, ShortEvent}
use Rattle.isdb_mmt.specs.declared.table.section.SectionHeader.{SectionHeader}
use Rattle.isdb_mmt.specs.declared.table.section.SectionError.TheVariants.{Truncated, Malformed}
use Rattle.isdb_mmt.specs.declared.walk_step.WalkStep.TheVariants.{Entry as entry}
use Rattle.isdb_mmt.specs.declared.walk_step.WalkStep.TheVariants.{Entry as event}
use Rattle.isdb_mmt.specs.declared.walk_step.WalkStep.TheVariants.{Entry as service}
use Rattle.isdb_mmt.specs.declared.walk_step.WalkStep.TheVariants.{Entry as broadcaster}
use Rattle.isdb_mmt.specs.declared.walk_step.WalkStep.TheVariants.{Entry as stream}

-- table id, extension, version, section 0 of 0, a body of so many bytes
abbrev header : ℕ → ℕ → ℕ → ℕ → SectionHeader
header id x v n =
    record { table_id = id; extension = x; version = v; current = true; section_number = 0; last_section_number = 0; body = part_at 8 n }

-- section::long_section: the body ends before the CRC
-- wrong: header 0x40 4 1 4 => header 0x40 4 1 8 (at the section's end)
-- wrong: header 0x40 4 1 4 => header 0x40 4 3 4 (the version with the indicator behind it)
pub long_section : long_section_of (bytes_of 16 0x40B00D0004C30000F000F0001751D06F) ≡ Ok (header 0x40 4 1 4)
unfolding bytes_of be feed feed_byte crc_of long_section_of
long_section = refl

-- section::long_section: a length of 8
-- wrong: Err Truncated => Err Crc (the CRC first)
-- wrong: Err Truncated => Ok (header 0x40 0 0 0) (nothing behind the header)
pub long_section_short : long_section_of (bytes_of 11 0x40B0080000000000000000) ≡ Err Truncated
unfolding bytes_of be long_section_of
long_section_short = refl

-- section::next_entry: one byte of fields, a length of 12 bits behind four reserved bits
-- wrong: part_at 3 2 => part_at 2 2 (a length of one byte)
-- wrong: 5 => 3 (the descriptors' start)
pub next_entry : entry_at (bytes_of 5 0x01F0027A7A) 1 0 ≡ entry (record { at = 0; descriptors = part_at 3 2 }) 5
unfolding bytes_of be entry_at
next_entry = refl

-- section::broken
-- wrong: 1 => 0 (a break taken for the end)
-- wrong: 1 => 3 (the bytes left over)
pub broken_loop : broken (bytes_of 3 0x801109) ≡ 1
unfolding bytes_of be length_width_of step_at split_from split_of
broken_loop = refl

-- section::read_entries: two entries, the second with a broken loop, and a byte left over
-- wrong: count = 2 => count = 3 (the byte too)
-- wrong: breaks = 1; whole = false => breaks = 0; whole = false (no breaks of what fails)
pub read_entries : entries_told (entries_from (bytes_of 10 0x01F00002F00380110903) 1 0) ≡ record { count = 2; breaks = 1; whole = false }
unfolding bytes_of be length_width_of step_at split_from split_of entry_at entries_from entries_told
read_entries = refl

-- eit::read: five bytes
-- wrong: Err Malformed => Err Truncated (the section too short)
-- wrong: Err Malformed => Ok (header 0x8B 101 7 5, record { tlv_stream_id = 11; original_network_id = 4; segment_last_section_number = 0; last_table_id = 0; events = 0 }) (the missing byte read as 0)
pub eit_read : eit_body (header 0x8B 101 7 5) (bytes_of 5 0x000B000400) ≡ record { result = Err Malformed; breaks = 0 }
unfolding bytes_of be eit_body
eit_read = refl

-- two events, each with a broken loop
abbrev eit_section : List ℕ
eit_section = bytes_of 48 0x8BF02D0065CF0000000B0004004E0001E3B912345601300090038011090002E3B9123456013000900380110965868DDC

-- eit::parse
-- wrong: events = 2 => events = 0 (a break rejects an event)
-- wrong: breaks = 2 => breaks = 1 (once for a table)
pub eit_parse : eit_of eit_section
    ≡ record {
      result = Ok (header 0x8B 101 7 36, record { tlv_stream_id = 11; original_network_id = 4; segment_last_section_number = 0; last_table_id = 78; events = 2 });
      breaks = 2;
    }
unfolding bytes_of be feed feed_byte crc_of length_width_of step_at split_from split_of long_section_of entry_at entries_from eit_body eit_of
eit_parse = refl

-- eit::next_event
-- wrong: start = 0xE3B9123456; duration = 0x013000 => start = 0xE3B91234; duration = 0x560130 (a start of 32 bits)
-- wrong: 21 => 18 (the descriptors' start)
pub next_event : event_step (drop 8 eit_section) 6
    ≡ event (record { event_id = 1; start = 0xE3B9123456; duration = 0x013000; running_status = 4; free_ca = true; descriptors = part_at 18 3 }) 21
unfolding bytes_of be entry_at event_step
next_event = refl

-- eit::short_event: the first that could be decoded
-- wrong: part_at 11 15) => part_at 4 3) (the first)
-- wrong: first = 0x6A; second = 0x70; third = 0x6E => first = 0x6E; second = 0x70; third = 0x6A (backwards)
pub short_event : first_of 0xF001 (bytes_of 26 0xF00100036A706EF001000F6A706E05546F64617900046E657773) 0
    ≡ Some (ShortEvent (record { first = 0x6A; second = 0x70; third = 0x6E }) (part_at 4 5) (part_at 11 4), part_at 11 15)
unfolding bytes_of be length_width_of step_at split_from short_event_of descriptor_of first_of
short_event = refl

-- sdt::read: one byte
-- wrong: Err Malformed => Err Crc (a bad section)
-- wrong: Err Malformed => Ok (header 0x9F 11 2 1, record { original_network_id = 0; services = 0 }) (the missing byte read as 0)
pub sdt_read : sdt_body (header 0x9F 11 2 1) (0x00 ∷ []) ≡ record { result = Err Malformed; breaks = 0 }
unfolding sdt_body
sdt_read = refl

-- sdt::parse: the reserved byte may be missing where no service follows
-- wrong: Ok (header 0x9F 11 2 2, record { original_network_id = 4; services = 0 }) => Err Malformed (it must be there)
-- wrong: services = 0 => services = 1 (the missing byte taken for a service)
pub sdt_parse : sdt_of (bytes_of 14 0x9FF00B000BC5000000046D0AFAEC)
    ≡ record { result = Ok (header 0x9F 11 2 2, record { original_network_id = 4; services = 0 }); breaks = 0 }
unfolding bytes_of be feed feed_byte crc_of long_section_of entry_at entries_from sdt_body sdt_of
sdt_parse = refl

-- sdt::next_service
-- wrong: eit_schedule = true; eit_present_following = false => eit_schedule = false; eit_present_following = true (the flags exchanged)
-- wrong: running_status = 1 => running_status = 2 (with the bit behind it)
pub sdt_service : service_step (bytes_of 8 0x0004FF0065FE2000) 3
    ≡ service (record { service_id = 101; eit_user_defined_flags = 7; eit_schedule = true; eit_present_following = false; running_status = 1; free_ca = false; descriptors = part_at 8 0 }) 8
unfolding bytes_of be entry_at service_step
sdt_service = refl

-- sdt::service_descriptor: the first that could be decoded
-- wrong: part_at 7 10) => part_at 3 1) (the first)
-- wrong: (part_at 2 3) (part_at 6 4) => (part_at 6 4) (part_at 2 3) (name and provider exchanged)
pub service_descriptor : first_of 0x8019 (bytes_of 17 0x8019010180190A01034E484B044253344B) 0 ≡ Some (Service 1 (part_at 2 3) (part_at 6 4), part_at 7 10)
unfolding bytes_of be length_width_of step_at split_from service_text descriptor_of first_of
service_descriptor = refl

-- bit::read: a first loop longer than the body
-- wrong: Err Malformed; breaks = 0 => Err Malformed; breaks = 1 (the loop counts as broken)
-- wrong: Err Malformed => Err Truncated (the section too short)
pub bit_read : bit_body (header 0x9D 4 1 2) (bytes_of 2 0xF001) ≡ record { result = Err Malformed; breaks = 0 }
unfolding bytes_of be bit_body
bit_read = refl

-- bit::parse: the first loop and a broadcaster's are broken
-- wrong: breaks = 2 => breaks = 1 (the first loop not counted)
-- wrong: broadcast_view_propriety = true => broadcast_view_propriety = false (the bit before it)
pub bit_parse : bit_of (bytes_of 23 0x9DF0140004C30000F00380110901F00380110988268BE4)
    ≡ record {
      result = Ok (header 0x9D 4 1 11, record { broadcast_view_propriety = true; descriptors = part_at 2 3; broadcasters = 1 });
      breaks = 2;
    }
unfolding bytes_of be feed feed_byte crc_of length_width_of step_at split_from split_of long_section_of entry_at entries_from bit_body bit_of
bit_parse = refl

-- bit::next_broadcaster
-- wrong: broadcaster (record { broadcaster_id = 2; descriptors = part_at 3 0 }) 3 => no_broadcaster (an empty loop is none)
-- wrong: broadcaster_id = 2 => broadcaster_id = 0xF0 (one byte further)
pub next_broadcaster : broadcaster_step (bytes_of 3 0x02F000) 0 ≡ broadcaster (record { broadcaster_id = 2; descriptors = part_at 3 0 }) 3
unfolding bytes_of be entry_at broadcaster_step
next_broadcaster = refl

-- nit::read: a loop of streams that does not end with a stream
-- wrong: Err Malformed => Ok (header 0x40 4 3 5, record { descriptors = part_at 2 0; loop_part = part_at 4 1; streams = 0 }) (the rest passed over)
-- wrong: Err Malformed => Err Truncated (the section too short)
pub nit_read : nit_body (header 0x40 4 3 5) (bytes_of 5 0xF000F00100) ≡ Err Malformed
unfolding bytes_of be entry_at entries_from nit_body
nit_read = refl

-- nit::parse: bytes behind the loop of streams
-- wrong: Ok (header 0x41 4 3 6, record { descriptors = part_at 2 0; loop_part = part_at 4 0; streams = 0 }) => Err Malformed (the loop must end with the body)
-- wrong: loop_part = part_at 4 0 => loop_part = part_at 4 2 (to the body's end)
pub nit_parse : nit_of (bytes_of 18 0x41F00F0004C70000F000F0007A7A40613946)
    ≡ Ok (header 0x41 4 3 6, record { descriptors = part_at 2 0; loop_part = part_at 4 0; streams = 0 })
unfolding bytes_of be feed feed_byte crc_of long_section_of entry_at entries_from nit_body nit_of
nit_parse = refl

-- nit::next_stream
-- wrong: tlv_stream_id = 11; original_network_id = 4 => tlv_stream_id = 4; original_network_id = 11 (exchanged)
-- wrong: part_at 6 0 => part_at 4 0 (without the length)
pub next_stream : stream_step (bytes_of 6 0x000B0004F000) 0
    ≡ stream (record { tlv_stream_id = 11; original_network_id = 4; descriptors = part_at 6 0 }) 6
unfolding bytes_of be entry_at stream_step
next_stream = refl

-- nit::next_tlv: a descriptor that does not fit ends the loop
-- wrong: None => Some (record { tag = 0x40; body = part_at 2 1 }, 3) (as much as is there)
-- wrong: None => Some (record { tag = 0x40; body = part_at 2 2 }, 4) (beyond the end)
pub next_tlv : tlv_step_at (bytes_of 3 0x400242) 0 ≡ None
unfolding bytes_of tlv_step_at
next_tlv = refl

-- nit::satellite_frequency_khz: eight digits in units of 10 kHz
-- wrong: Some 11727480 => Some 1172748 (not in kHz)
-- wrong: Some 11727480 => Some 0x01172748 (the digits taken for a number)
pub frequency : frequency_of 0x43 (bytes_of 5 0x01172748AA) ≡ Some 11727480
unfolding bytes_of frequency_of
frequency = refl

-- nit::network_name: another tag
-- wrong: None => Some (part_at 0 2) (any tag)
-- wrong: None => Some (part_at 0 0) (an empty name)
pub network_name : network_name_of 0x41 (bytes_of 2 0x4253) ≡ None
unfolding whole_body
network_name = refl

-- nit::service_list
-- wrong: Some (part_at 0 6) => None (another tag)
-- wrong: part_at 0 6 => part_at 0 2 (how many services)
pub service_list : service_list_of 0x41 (bytes_of 6 0x006501006602) ≡ Some (part_at 0 6)
unfolding bytes_of whole_body
service_list = refl

-- amt::service_at: IPv4, with a byte behind the masks
-- wrong: 15 => 14 (the masks' end)
-- wrong: src_mask = 32 => src_mask = 0xEF (one byte further)
pub amt_service : service_at (bytes_of 15 0x00657C0BC0A8000120EFFF0102187A) 0
    ≡ Some (record { service_id = 101; src = V4 0xC0A80001; src_mask = 32; dst = V4 0xEFFF0102; dst_mask = 24 }, 15)
unfolding bytes_of be service_at
amt_service = refl

-- amt::read: two services said, one there
-- wrong: Err Malformed => Ok (header 0xFE 0 1 16, record { services = 1 }) (as many as are there)
-- wrong: Err Malformed => Ok (header 0xFE 0 1 16, record { services = 2 }) (as many as are said)
pub amt_read : amt_body (header 0xFE 0 1 16) (bytes_of 16 0x008000657C0AC0A8000120EFFF010218) ≡ Err Malformed
unfolding bytes_of be service_at services_whole amt_body
amt_read = refl

-- amt::parse: the number of services is the high ten bits
-- wrong: services = 0 => services = 63 (all sixteen)
-- wrong: Ok (header 0xFE 0 1 2, record { services = 0 }) => Err Malformed (no service)
pub amt_parse : amt_of (bytes_of 14 0xFEF00B0000C30000003FB63BB41B) ≡ Ok (header 0xFE 0 1 2, record { services = 0 })
unfolding bytes_of be feed feed_byte crc_of long_section_of services_whole amt_body amt_of
amt_parse = refl

-- tot::parse: the descriptors may run into the CRC
-- wrong: Ok (record { jst = 0xE3B9123456; descriptors = part_at 10 4 }); breaks = 1 => Err Malformed; breaks = 0 (they may not)
-- wrong: breaks = 1 => breaks = 0 (a break in the CRC's bytes not counted)
pub tot_parse : tot_of (bytes_of 14 0xA1700BE3B9123456F004A4B4A880) ≡ record { result = Ok (record { jst = 0xE3B9123456; descriptors = part_at 10 4 }); breaks = 1 }
unfolding bytes_of be feed feed_byte crc_of length_width_of step_at split_from split_of tot_fields tot_of
tot_parse = refl

-- mpt::declared_length
-- wrong: Some 9 => Some 5 (without the header)
-- wrong: Some 9 => Some 11 (all that is there)
pub declared_length : declared_length_of (bytes_of 11 0x20010005FC000000007A7A) ≡ Some 9
unfolding bytes_of be declared_length_of
declared_length = refl

-- mpt::location_at
-- wrong: Some (SameFlow 0xF101, 3) => None (from the table's first byte)
-- wrong: 0xF101, 3) => 0xF101, 5) (the place behind it)
pub location_at : location_of (drop 2 (bytes_of 5 0x7A7A00F101)) ≡ Some (SameFlow 0xF101, 3)
unfolding bytes_of be sized location_of
location_at = refl

-- mpt::asset_at
-- wrong: asset_id = part_at 15 1 => asset_id = part_at 14 1 (with its length)
-- wrong: locations_start = 22 => locations_start = 21 (with their number)
pub asset_at : asset_at_of (bytes_of 24 0x20030014FE000000010000000000017873747070FE000000) 9
    ≡ Some (record { identifier_type = 0; asset_id_scheme = 0; asset_id = part_at 15 1; asset_type = 0x73747070; clock_relation = false; locations = 0; locations_start = 22; descriptors = part_at 24 0 }, 24)
unfolding bytes_of be asset_fields asset_at_of
asset_at = refl

-- mpt::parse: a broken loop counts also where the table then fails
-- wrong: breaks = 1 => breaks = 0 (it does not)
-- wrong: mpt = None; breaks = 1 => mpt = Some (record { table_id = 0x20; version = 3; mode = 1; package_id = part_at 6 2; descriptors = part_at 10 1; assets = 0; start = 12 }); breaks = 1 (the missing number of assets read as 0)
pub mpt_parse : mpt_of (bytes_of 11 0x20030007FD020065000100) ≡ record { mpt = None; breaks = 1 }
unfolding bytes_of be length_width_of step_at split_from split_of declared_length_of mpt_assets mpt_table mpt_of
mpt_parse = refl

-- Mpt::service_id: the last two bytes of the package id
-- wrong: Some 0x0065 => Some 0x7A00 (the first two)
-- wrong: Some 0x0065 => Some 0x6500 (backwards)
pub service_id_of_lem : service_id_of (bytes_of 4 0x7A7A0065) (part_at 1 3) ≡ Some 0x0065
unfolding bytes_of be service_id_of
service_id_of_lem = refl

-- Asset::packet_id: of the first location that has one
-- wrong: Some 0xF101 => None (of the first location)
-- wrong: Some 0xF101 => Some 0x1FFF (a PID)
pub asset_packet_id : first_packet_id (locations_of 2 (bytes_of 10 0x03000400051FFF00F101) 0) ≡ Some 0xF101
unfolding bytes_of be sized location_of
asset_packet_id = refl

-- mpt::component_tag: of the first descriptor that could be decoded
-- wrong: Some 16 => None (the first of the tag could not)
-- wrong: Some 16 => Some 0 (the missing byte read as 0)
pub component_tag_of_lem : component_tag_of (bytes_of 9 0x801101008011020010) ≡ Some 16
unfolding bytes_of be length_width_of step_at split_from stream_identifier descriptor_of first_of component_tag_of
component_tag_of_lem = refl

-- plt::package_at
-- wrong: location_start = 8 => location_start = 5 (with the id)
-- wrong: 11 => 8 (the location's start)
pub package_at : package_at_of (bytes_of 11 0x7A7A7A7A7A02006500F101) 5
    ≡ Some (record { package_id = part_at 6 2; location = SameFlow 0xF101; location_start = 8 }, 11)
unfolding bytes_of be sized location_of package_at_of
package_at = refl

-- plt::delivery_at: a location type that is none
-- wrong: None => Some (record { transport_file_id = 1; location_type = 3 }, 7) (no location)
-- wrong: None => Some (record { transport_file_id = 1; location_type = 3 }, 17) (as IPv4)
pub delivery_at : delivery_at_of (bytes_of 17 0x0000000103000000000000000000000000) 0 ≡ None
unfolding bytes_of be delivery_size delivery_at_of
delivery_at = refl

-- plt::parse: the last delivery's descriptors may overrun the table
-- wrong: Some (record { version = 4; packages = 0; ip_deliveries = 1; deliveries_start = 6 }) => None (they may not)
-- wrong: ip_deliveries = 1 => ip_deliveries = 0 (the last one left out)
pub plt_parse : plt_of (bytes_of 23 0x80040013000100000009010000000000000000000001F4)
    ≡ Some (record { version = 4; packages = 0; ip_deliveries = 1; deliveries_start = 6 })
unfolding bytes_of be declared_length_of delivery_size delivery_at_of deliveries_whole plt_deliveries plt_table plt_of
plt_parse = refl
