-- Worked cases of readings, as one table: what each answers of a session after some packets, of lent bytes that hold no session, and
-- of a session whose kept bytes were overwritten.
use Rattle.std.specs.Prelude.{ℕ, false, List, [], ◌∷◌, ◌++◌, replicate, refl, Option, Some, None, Result, Ok}
use Rattle.isdb_mmt.specs.declared.decoder.refusal.Refusal.{Refusal}
use Rattle.isdb_mmt.specs.declared.decoder.readings.MediaState.{MediaState}
use Rattle.isdb_mmt.specs.declared.decoder.readings.Held.{Held}
use Rattle.isdb_mmt.specs.declared.decoder.readings.Held.TheVariants.{NoId, NoObject, Object}
use Rattle.isdb_mmt.specs.declared.decoder.readings.ControlState.{ControlState}
use Rattle.isdb_mmt.specs.declared.decoder.readings.CarriedAsset.{CarriedAsset}
use Rattle.isdb_mmt.specs.Examples.Worked.{Case, ◌⇒◌, Holds}
use Rattle.isdb_mmt.specs.Decoder.Packet.{Bytes}
use Rattle.isdb_mmt.specs.Formats.Part.{part_at}
use Rattle.isdb_mmt.specs.Formats.Location.{sized, location_of}
use Rattle.isdb_mmt.specs.Decoder.Kept.{parses_as}
use Rattle.isdb_mmt.specs.Formats.Mpt.{asset_fields, asset_at_of, service_id_of}
use Rattle.isdb_mmt.specs.Memory.Layout.{table_ids, state_size}
use Rattle.isdb_mmt.specs.Memory.Session.{Session}
use Rattle.isdb_mmt.specs.Memory.Opening.{lent, opened_session}
use Rattle.isdb_mmt.specs.Pushes.Push.{leaves_all}
use Rattle.isdb_mmt.specs.Answers.Readings.{media_found, control_found, section_found, counters_read, time_read, count_read, least_from, ascending_from, next_media_read, next_control_read, next_key_read, media_read, held_read, control_read, section_read, mpt_read, plt_read, tot_read, first_carried, asset_among, asset_read, TableTold, refused, nothing, these, told_by}
use Rattle.isdb_mmt.specs.Theorems.Calls.{Reading, counters, time, count, next_media_of, next_control_of, next_key_of, media_of, held, control_of, plt, tot, section, asset_of, reading_number}
use Rattle.isdb_mmt.specs.Examples.Cases.{complete_of, head_of, compressed, payload, ab}
use Rattle.isdb_mmt.specs.Examples.ControlCases.{fragment, first_part, nit1, nit_next, mpt, table_message}
use Rattle.isdb_mmt.specs.Examples.PushCases.{input, only, ntp, plt as plt_bytes, tot as tot_bytes, told as told_of_pushes}
use Rattle.isdb_mmt.specs.declared.decoder.limits.Limits.{Limits}
use Rattle.isdb_mmt.specs.declared.decoder.counts.AssetStats.{AssetStats}
use Rattle.isdb_mmt.specs.declared.decoder.counts.Counters.{Counters}

-- two places of each sort, with areas of 2, 8 and 32 bytes
abbrev pub two : Limits
two =
    record {
      media_ids = 2;
      control_ids = 2;
      sections = 2;
      mfu_area = 2;
      message_area = 8;
      table_area = 32;
      packets = 9;
      pass_scrambled = false;
    }

-- lent memory of zeros, and a session opened in it after some packets
abbrev pub blank : Session
blank = lent (replicate state_size 0) (replicate table_ids 0) (replicate 4 0) (replicate 16 0) (replicate 192 0)

abbrev pub after : List (ℕ × Bytes) → Session
after [] = opened_session two blank
after (p ∷ []) = leaves_all (opened_session two blank) (only p ∷ [])
after (p ∷ q ∷ ps) = leaves_all (opened_session two blank) (only p ∷ only q ∷ [])

-- with other bytes for the tables
abbrev pub damaged : Session → Session
damaged s = lent s.state s.others s.objects s.messages (replicate 192 0)

-- what is asked, and what is answered
pub data Ask : Type 0 where
  number_of : Session → Reading → Ask
  counters_in : Session → Ask
  time_in : Session → Ask
  count_in : Session → ℕ → Ask
  media_from : Session → ℕ → Ask
  control_from : Session → ℕ → Ask
  key_from : Session → ℕ → ℕ → Ask
  media_in : Session → ℕ → Ask
  held_in : Session → ℕ → Ask
  control_in : Session → ℕ → Ask
  section_in : Session → ℕ → Ask
  mpt_in : Session → ℕ → Ask
  plt_in : Session → Ask
  tot_in : Session → Ask
  asset_in : Session → ℕ → Ask

pub data Told : Type 0 where
  number : ℕ → Told
  feed : Result Counters Refusal → Told
  timed : Result (Option ℕ) Refusal → Told
  counted : Result ℕ Refusal → Told
  name : Result (Option ℕ) Refusal → Told
  media : Result (Option MediaState) Refusal → Told
  object : Result Held Refusal → Told
  control : Result (Option ControlState) Refusal → Told
  table : TableTold → Told
  asset : Result (Option CarriedAsset) Refusal → Told

unfoldable pub told : Ask → Told
unfolding told_of_pushes sized location_of asset_fields asset_at_of service_id_of parses_as media_found control_found section_found counters_read time_read count_read least_from ascending_from next_media_read next_control_read next_key_read media_read held_read control_read section_read mpt_read plt_read tot_read first_carried asset_among asset_read reading_number
told (number_of s r) = number (reading_number s r)
told (counters_in s) = feed (counters_read s)
told (time_in s) = timed (time_read s)
told (count_in s id) = counted (count_read s id)
told (media_from s a) = name (next_media_read s a)
told (control_from s a) = name (next_control_read s a)
told (key_from s a b) = name (next_key_read s a b)
told (media_in s id) = media (media_read s id)
told (held_in s id) = object (held_read s id)
told (control_in s id) = control (control_read s id)
told (section_in s k) = table (told_by s.tables (section_read s k))
told (mpt_in s id) = table (told_by s.tables (mpt_read s id))
told (plt_in s) = table (told_by s.tables (plt_read s))
told (tot_in s) = table (told_by s.tables (tot_read s))
told (asset_in s p) = asset (asset_read s p)

-- a unit of F101h and one of F100h, whose object is held; both sections of a NIT, the later one first
abbrev pub units : Session
units = after (compressed 0x00 0x00 0xF101 5 (payload 22 0x2A (replicate 14 0x00 ++ ab)) ∷ head_of 5 ab ∷ [])

abbrev pub nits : Session
nits = after ((0xFE, nit_next) ∷ (0xFE, nit1) ∷ [])

-- an MPT of the service 65h with one asset, whose packet id is F100h
abbrev pub asset_mpt : Bytes
asset_mpt =
    0x20 ∷ 0x01 ∷ 0x00 ∷ 0x19 ∷ 0xFC ∷ 0x02 ∷ 0x00 ∷ 0x65 ∷ 0x00 ∷ 0x00 ∷ 0x01
    ∷ 0x00 ∷ 0x00 ∷ 0x00 ∷ 0x00 ∷ 0x00 ∷ 0x01 ∷ 0x41
    ∷ 0x68 ∷ 0x65 ∷ 0x76 ∷ 0x31 ∷ 0xFE ∷ 0x01 ∷ 0x00 ∷ 0xF1 ∷ 0x00 ∷ 0x00 ∷ 0x00 ∷ []

-- in a message of the control id 8001h, behind an MPT without assets in one of 8000h
abbrev pub mpts : Session
mpts = after (fragment 0x00 (table_message 29 asset_mpt) ∷ compressed 0x00 0x02 0x8000 5 (0x00 ∷ 0x00 ∷ table_message 9 mpt) ∷ [])

-- one packet with one unit that begins an object, in MPU 7
abbrev pub one_unit_of : AssetStats
one_unit_of =
    record {
      packets = 1;
      packets_lost = 0;
      scrambled_packets = 0;
      mfus = 0;
      scrambled_mfus = 0;
      mfus_dropped = 0;
      mpus = 1;
      mpu_sequence_jumps = 0;
      malformed = 0;
    }

-- so many packets and tables, and nothing else
abbrev pub only_counted : ℕ → ℕ → Counters
only_counted packets tables =
    record {
      tlv_packets = packets;
      ip_errors = 0;
      non_mmtp = 0;
      ntp = 0;
      tables = tables;
      crc_errors = 0;
      malformed = 0;
      version_changes = 0;
      orphan_fragments = 0;
      oversize = 0;
      message_malformed = 0;
      split_errors = 0;
    }

abbrev cases : List (Case Ask Told)
cases =
    -- nothing yet
    (counters_in (after []) ⇒ feed (Ok (only_counted 0 0)))
    ∷ (time_in (after []) ⇒ timed (Ok None))
    ∷ (count_in (after []) 0x21 ⇒ counted (Ok 0))
    ∷ (media_from (after []) 0 ⇒ name (Ok None))
    ∷ (media_in (after []) 0xF100 ⇒ media (Ok None))
    ∷ (held_in (after []) 0xF100 ⇒ object (Ok NoId))
    ∷ (control_in (after []) 0x8001 ⇒ control (Ok None))
    ∷ (section_in (after []) 0x40000400 ⇒ table nothing)
    ∷ (mpt_in (after []) 0x8001 ⇒ table nothing)
    ∷ (plt_in (after []) ⇒ table nothing)
    ∷ (tot_in (after []) ⇒ table nothing)
    ∷ (asset_in (after []) 0xF100 ⇒ asset (Ok None))
    -- no session: 5
    ∷ (number_of blank counters ⇒ number 5)
    ∷ (number_of blank time ⇒ number 5)
    ∷ (number_of blank (count 0) ⇒ number 5)
    ∷ (number_of blank (next_media_of 0) ⇒ number 5)
    ∷ (number_of blank (next_control_of 0) ⇒ number 5)
    ∷ (number_of blank (next_key_of 0 4294967295) ⇒ number 5)
    ∷ (number_of blank (media_of 0) ⇒ number 5)
    ∷ (number_of blank (held 0) ⇒ number 5)
    ∷ (number_of blank (control_of 0) ⇒ number 5)
    ∷ (number_of blank plt ⇒ number 5)
    ∷ (number_of blank tot ⇒ number 5)
    ∷ (number_of blank (section 0) ⇒ number 5)
    ∷ (number_of blank (asset_of 0) ⇒ number 5)
    ∷ (number_of (after []) counters ⇒ number 0)
    -- counted
    ∷ (counters_in nits ⇒ feed (Ok (only_counted 2 2)))
    ∷ (time_in (after (ntp ∷ [])) ⇒ timed (Ok (Some 0x0102030405060708)))
    ∷ (count_in (after (fragment 0x00 (table_message 1 (0x21 ∷ [])) ∷ [])) 0x21 ⇒ counted (Ok 1))
    -- ids in ascending order, whichever came first
    ∷ (media_from units 0 ⇒ name (Ok (Some 0xF100)))
    ∷ (media_from units 0xF100 ⇒ name (Ok (Some 0xF100)))
    ∷ (media_from units 0xF101 ⇒ name (Ok (Some 0xF101)))
    ∷ (media_from units 0xF102 ⇒ name (Ok None))
    ∷ (media_in units 0xF100 ⇒ media (Ok (Some (record { stats = one_unit_of; sequence = Some 5; mpu_range = Some (record { first = 7; last = 7 }); held = Some 2 }))))
    ∷ (media_in units 0xF102 ⇒ media (Ok None))
    -- the held object of F100h lies in the second area
    ∷ (held_in units 0xF100
    ⇒ object (Ok (Object (record {
      mpu_sequence_number = 7;
      rap = false;
      mfu = Some (record { movie_fragment_sequence_number = 0; sample_number = 0; offset = 0; priority = 0; dependency_counter = 0 });
      item_id = None;
      bytes = part_at 2 2;
    }))))
    ∷ (held_in (leaves_all (opened_session two blank) (input 36 2 (complete_of 5 ab) ∷ [])) 0xF100 ⇒ object (Ok NoObject))
    -- a control id whose message is being joined, and one whose message is whole
    ∷ (control_in (after (first_part 5 ab ∷ [])) 0x8001 ⇒ control (Ok (Some (record { sequence = Some 5; joined = Some 2 }))))
    ∷ (control_in mpts 0x8000 ⇒ control (Ok (Some (record { sequence = Some 5; joined = None }))))
    ∷ (control_from mpts 0 ⇒ name (Ok (Some 0x8000)))
    ∷ (control_from mpts 0x8001 ⇒ name (Ok (Some 0x8001)))
    -- keys within a sort, here a table id
    ∷ (key_from nits 0x40000000 0x40FFFFFF ⇒ name (Ok (Some 0x40000400)))
    ∷ (key_from nits 0x40000401 0x40FFFFFF ⇒ name (Ok (Some 0x40000401)))
    ∷ (key_from nits 0x40000402 0x40FFFFFF ⇒ name (Ok None))
    ∷ (key_from nits 0x41000000 0x41FFFFFF ⇒ name (Ok None))
    -- kept sections, and one whose bytes were overwritten: 5, of it alone
    ∷ (section_in nits 0x40000400 ⇒ table (these nit1))
    ∷ (section_in nits 0x40000401 ⇒ table (these nit_next))
    ∷ (section_in nits 0x40000402 ⇒ table nothing)
    ∷ (section_in (damaged nits) 0x40000400 ⇒ table (refused 5))
    ∷ (section_in (damaged nits) 0x40000402 ⇒ table nothing)
    ∷ (number_of (damaged nits) counters ⇒ number 0)
    -- PLT and TOT
    ∷ (plt_in (after (fragment 0x00 (table_message 6 plt_bytes) ∷ [])) ⇒ table (these plt_bytes))
    ∷ (tot_in (after (fragment 0x00 (table_message 14 tot_bytes) ∷ [])) ⇒ table (these tot_bytes))
    ∷ (plt_in (damaged (after (fragment 0x00 (table_message 6 plt_bytes) ∷ []))) ⇒ table (refused 5))
    -- the MPT of each control id, and the asset that a packet id carries
    ∷ (mpt_in mpts 0x8000 ⇒ table (these mpt))
    ∷ (mpt_in mpts 0x8001 ⇒ table (these asset_mpt))
    ∷ (mpt_in (damaged mpts) 0x8001 ⇒ table (refused 5))
    ∷ (asset_in mpts 0xF100
    ⇒ asset (Ok (Some (record {
      control_id = 0x8001;
      mpt = part_at 64 29;
      service_id = Some 0x0065;
      asset =
          record {
            identifier_type = 0;
            asset_id_scheme = 0;
            asset_id = part_at 17 1;
            asset_type = 0x68657631;
            clock_relation = false;
            locations = 1;
            locations_start = 24;
            descriptors = part_at 29 0;
          };
    }))))
    ∷ (asset_in mpts 0xF101 ⇒ asset (Ok None))
    ∷ (number_of (damaged mpts) (asset_of 0xF100) ⇒ number 5)
    ∷ []

pub table_of_readings : Holds told cases
unfolding told
table_of_readings = refl
