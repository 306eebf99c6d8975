-- Worked cases of whole values, by computation: an MPT with one asset, one location and three descriptors, and an SDT with one
-- service. Every byte that they hold is in the value.
use Rattle.std.specs.Prelude.{◌≡◌, ℕ, true, false, List, [], ◌∷◌, ◌++◌, refl, None, Some}
use Rattle.isdb_tlv.specs.Bytes.{be}
use Rattle.isdb_tlv.specs.Crc.{feed, feed_byte, crc_of}
use Rattle.isdb_mmt.specs.Formats.Part.{part_at}
use Rattle.isdb_mmt.specs.WholeValues.Steps.{to_end}
use Rattle.isdb_mmt.specs.Formats.Location.{sized, url_of, location_of}
use Rattle.isdb_mmt.specs.Formats.Timestamp.{timestamp_at, mpu_at, mpus_from, mpus_whole, extended_of, unit_step}
use Rattle.isdb_mmt.specs.Formats.Desc.{length_width_of, step_at, split_from, split_of, access_control, service_text, extended_timestamp, descriptor_of}
use Rattle.isdb_mmt.specs.Formats.Section.{long_section_of, entry_at, entries_from}
use Rattle.isdb_mmt.specs.Formats.Mpt.{declared_length_of, asset_fields, asset_at_of, mpt_assets, mpt_table, mpt_of}
use Rattle.isdb_mmt.specs.Formats.Sdt.{sdt_body, sdt_of, service_step}
use Rattle.isdb_mmt.specs.WholeValues.WholeDescriptors.{access_control as control, mpu_timestamp, extended_timestamp as extended, service_names}
use Rattle.isdb_mmt.specs.WholeValues.Whole.{mpt_value}
use Rattle.isdb_mmt.specs.WholeValues.WholeSections.{sdt_value}
use Rattle.isdb_mmt.specs.declared.location.Location.TheVariants.{SameFlow, Url}

-- access control: CA system 5, packet id F100h in the same flow
abbrev access_body : List ℕ
access_body = 0x00 ∷ 0x05 ∷ 0x00 ∷ 0xF1 ∷ 0x00 ∷ []

-- MPU timestamp: MPU 7
abbrev time_body : List ℕ
time_body = 0x00 ∷ 0x00 ∷ 0x00 ∷ 0x07 ∷ 0xE8 ∷ 0x00 ∷ 0x00 ∷ 0x00 ∷ 0x80 ∷ 0x00 ∷ 0x00 ∷ 0x00 ∷ []

-- extended timestamp: a timescale of 1,000; MPU 7 with one access unit that has a PTS offset of its own
abbrev extended_body : List ℕ
extended_body =
    0xFD ∷ 0x00 ∷ 0x00 ∷ 0x03 ∷ 0xE8 ∷ 0x00 ∷ 0x00 ∷ 0x00 ∷ 0x07 ∷ 0x3F ∷ 0x00 ∷ 0x0A ∷ 0x01 ∷ 0x00 ∷ 0x14 ∷ 0x00 ∷ 0x1E ∷ []

abbrev asset_descriptors : List ℕ
asset_descriptors =
    (0x80 ∷ 0x04 ∷ 0x05 ∷ access_body) ++ ((0x00 ∷ 0x01 ∷ 0x0C ∷ time_body) ++ (0x80 ∷ 0x26 ∷ 0x11 ∷ extended_body))

-- asset id 41h 31h, of type hev1, located by the URL of the bytes 61h 62h
abbrev asset_bytes : List ℕ
asset_bytes =
    (0x00 ∷ 0x00 ∷ 0x00 ∷ 0x00 ∷ 0x01 ∷ 0x02 ∷ 0x41 ∷ 0x31 ∷ 0x68 ∷ 0x65 ∷ 0x76 ∷ 0x31 ∷ 0xFF ∷ 0x01 ∷ 0x05 ∷ 0x02 ∷ 0x61 ∷ 0x62 ∷ 0x00 ∷ 0x2B ∷ [])
    ++ asset_descriptors

-- package id 0065h; a byte stands behind the declared ones
abbrev mpt_bytes : List ℕ
mpt_bytes =
    (0x20 ∷ 0x01 ∷ 0x00 ∷ 0x46 ∷ 0xFC ∷ 0x02 ∷ 0x00 ∷ 0x65 ∷ 0x00 ∷ 0x00 ∷ 0x01 ∷ asset_bytes) ++ (0xFF ∷ [])

pub mpt_whole : mpt_value mpt_bytes ≡ Some (record {
  mpt = record {
    table_id = 0x20;
    version = 1;
    mode = 0;
    package_id = part_at 6 2;
    descriptors = part_at 10 0;
    assets = 1;
    start = 11;
  };
  package_id = 0x00 ∷ 0x65 ∷ [];
  descriptors = record { found = []; whole = true };
  assets = record {
    asset = record {
      identifier_type = 0;
      asset_id_scheme = 1;
      asset_id = part_at 17 2;
      asset_type = 0x68657631;
      clock_relation = true;
      locations = 1;
      locations_start = 25;
      descriptors = part_at 31 43;
    };
    asset_id = 0x41 ∷ 0x31 ∷ [];
    locations = record { location = Url (part_at 2 2); url = 0x61 ∷ 0x62 ∷ [] } ∷ [];
    descriptors = record {
      found =
          record { tag = 0x8004; body = access_body; value = control 5 (Some (record { location = SameFlow 0xF100; url = [] })) }
          ∷ record {
            tag = 0x0001;
            body = time_body;
            value = mpu_timestamp (record { sequence_number = 7; presentation_time = 0xE800000080000000 } ∷ []);
          }
          ∷ record {
            tag = 0x8026;
            body = extended_body;
            value = extended (record {
              timescale = Some 1000;
              default_pts_offset = None;
              mpus = record {
                sequence_number = 7;
                leap_indicator = 0;
                decoding_time_offset = 10;
                access_units = record { dts_pts_offset = 20; pts_offset = Some 30 } ∷ [];
              } ∷ [];
            });
          }
          ∷ [];
      whole = true;
    };
  } ∷ [];
})
unfolding mpt_of declared_length_of mpt_table mpt_assets asset_at_of asset_fields location_of sized url_of to_end step_at length_width_of split_of split_from descriptor_of access_control timestamp_at extended_timestamp extended_of mpus_whole mpus_from mpu_at unit_step be
mpt_whole = refl

-- service 101 with its names: provider 61h 62h, service 63h 64h
abbrev name_body : List ℕ
name_body = 0x01 ∷ 0x02 ∷ 0x61 ∷ 0x62 ∷ 0x02 ∷ 0x63 ∷ 0x64 ∷ []

abbrev sdt_bytes : List ℕ
sdt_bytes =
    (0x9F ∷ 0xB0 ∷ 0x1B ∷ 0x00 ∷ 0x04 ∷ 0xC3 ∷ 0x00 ∷ 0x00 ∷ 0x00 ∷ 0x04 ∷ 0xFF ∷ 0x00 ∷ 0x65 ∷ 0xE3 ∷ 0x00 ∷ 0x0A ∷ 0x80 ∷ 0x19 ∷ 0x07 ∷ name_body)
    ++ (0xE3 ∷ 0xE1 ∷ 0x01 ∷ 0x1E ∷ [])

pub sdt_whole : sdt_value sdt_bytes ≡ Some (record {
  header = record {
    table_id = 0x9F;
    extension = 4;
    version = 1;
    current = true;
    section_number = 0;
    last_section_number = 0;
    body = part_at 8 18;
  };
  table = record {
    sdt = record { original_network_id = 4; services = 1 };
    services = record {
      value = record {
        service_id = 101;
        eit_user_defined_flags = 0;
        eit_schedule = true;
        eit_present_following = true;
        running_status = 0;
        free_ca = false;
        descriptors = part_at 8 10;
      };
      descriptors = record {
        found =
            record { tag = 0x8019; body = name_body; value = service_names 1 (0x61 ∷ 0x62 ∷ []) (0x63 ∷ 0x64 ∷ []) } ∷ [];
        whole = true;
      };
    } ∷ [];
  };
})
unfolding sdt_of sdt_body long_section_of crc_of feed_byte feed entries_from entry_at service_step to_end step_at length_width_of split_of split_from descriptor_of service_text be
sdt_whole = refl
