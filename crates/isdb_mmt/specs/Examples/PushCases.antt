-- Worked cases of a push over the session's bytes, as one table: the rows of records, the question that a packet fails, and the
-- bytes that an accepted one leaves at their places.
use Rattle.std.specs.Prelude.{ℕ, ◌+◌, ◌*◌, true, false, List, [], ◌∷◌, ◌++◌, length, take, replicate, slice_index, refl, None, Some}
use Rattle.isdb_mmt.specs.Examples.Worked.{Case, ◌⇒◌, Holds}
use Rattle.isdb_tlv.specs.Ip.{ipv4_of}
use Rattle.isdb_mmt.specs.Formats.Plt.{package_at_of, delivery_size, delivery_at_of, deliveries_whole, plt_deliveries, plt_table, plt_of}
use Rattle.isdb_mmt.specs.Formats.Tot.{tot_fields, tot_of}
use Rattle.isdb_mmt.specs.Decoder.Packet.{Bytes}
use Rattle.isdb_mmt.specs.Decoder.Objects.{Rec}
use Rattle.isdb_mmt.specs.Memory.Layout.{table_ids, used_place, latest_place, time_place, counters_place, media_places, held_place, stats_place, control_places, control_size, section_places, section_size, state_size}
use Rattle.isdb_mmt.specs.Memory.Lent.{part, over, places_from, names_from, among, distinct, found_from, place_for_name, every, indexed}
use Rattle.isdb_mmt.specs.Memory.Limits.{in_range, places_in_range, areas_in_range, packets_in_range, lengths_for, long_enough, asked}
use Rattle.isdb_mmt.specs.Memory.Session.{Session, limits_of, used_of, latest_of, time_of, counters_of, held_object_at, stats_of, media_place_of, control_place_of, section_place_of}
use Rattle.isdb_mmt.specs.Memory.Check.{media_sound, control_sound, used_sound, latest_sound, counters_sound, media_in, controls_in, sections_in, head_sound, places_sound, names_sound, sound_in, sound}
use Rattle.isdb_mmt.specs.Memory.View.{mfu_of, asset_of_place, control_state_in, view_by, view}
use Rattle.isdb_mmt.specs.Memory.Opening.{lent, opened_state, opened_session}
use Rattle.isdb_mmt.specs.Memory.PlacesOf.{place_for_asset, control_for, latest_for}
use Rattle.isdb_mmt.specs.Pushes.MediaPush.{media_place_for, asset_next, media_leaves}
use Rattle.isdb_mmt.specs.Pushes.Leaves.{section_rows, kept_over, control_leaves, message_in, control_place_for, message_leaves, packet_leaves}
use Rattle.isdb_mmt.specs.Pushes.Push.{Input, packet_of, has_places, has_areas, has_outputs, asks_of, asks_later, asks, leaves_of, reply_of, leaves_all}
use Rattle.isdb_mmt.specs.Pushes.PushAll.{Ran, nothing_taken, run_of, pushed_each}
use Rattle.isdb_mmt.specs.declared.decoder.many.Progress.{Progress}
use Rattle.isdb_mmt.specs.declared.decoder.many.Halt.{Halt}
use Rattle.isdb_mmt.specs.declared.decoder.many.Halt.TheVariants.{End, Short, Bad, Full, Refused}
use Rattle.isdb_tlv.specs.Bytes.{put_be}
use Rattle.isdb_tlv.specs.Fields.{bytes_of}
use Rattle.isdb_tlv.specs.Cut.{cut_at, recording_from, recording_of}
use Rattle.isdb_mmt.specs.Pushes.Records.{rows_from, data_from, read_row, read_rows}
use Rattle.isdb_mmt.specs.Examples.Cases.{told as told_of_feeds, compressed, mmtp, payload, complete_of, head_of, last_of, ab, cd, one_to14, header}
use Rattle.isdb_mmt.specs.Examples.ControlCases.{fragment, first_part, nit1, nit_next, empty_pa, mpt, table_message, mpt_message}
use Rattle.isdb_mmt.specs.declared.decoder.limits.Limits.{Limits}
use Rattle.isdb_mmt.specs.declared.decoder.refusal.Refusal.TheVariants.{PacketsUsedUp, NoPlaceFree, OutputTooSmall}
use Rattle.isdb_mmt.specs.Memory.Refusals.{refusal_of}

-- one place of each sort, with areas of 2, 8 and 16 bytes, for so many packets
abbrev pub small : ℕ → Limits
small packets =
    record {
      media_ids = 1;
      control_ids = 1;
      sections = 1;
      mfu_area = 2;
      message_area = 8;
      table_area = 16;
      packets = packets;
      pass_scrambled = false;
    }

-- lent memory of zeros, with so many bytes for objects; and a session opened in it
abbrev pub blank : ℕ → Session
blank n = lent (replicate state_size 0) (replicate table_ids 0) (replicate n 0) (replicate 8 0) (replicate 64 0)

abbrev pub fresh : ℕ → Session
fresh packets = opened_session (small packets) (blank 2)

-- a packet, with room for so many bytes of rows and of data; and with none
abbrev pub input : ℕ → ℕ → ℕ × Bytes → Input
input rows out p = record { kind = p.0; bytes = p.1; rows = replicate rows 0; out = replicate out 0 }

abbrev pub only : ℕ × Bytes → Input
only p = input 0 0 p

-- a whole unit of two bytes, with just the room that it needs
abbrev pub whole : Input
whole = input 36 2 (complete_of 5 ab)

-- what is asked, and what is answered: the rows of records, the records of rows and data; the number of a push to a session, and
-- of one behind others in a session of so many packets; of what a packet leaves in a session of 9 packets, so many bytes of the
-- state from a place on, each of the areas, and the count of a table id; of a call for many packets with room for so many rows and lines,
-- in a session of so many packets: why it ends, how far it came, the data and the lines
pub data Ask : Type 0 where
  rows_of : List Rec → Ask
  records_of : ℕ → Bytes → Bytes → Ask
  pushed_to : Session → Input → Ask
  behind : ℕ → List Input → Input → Ask
  state_at : ℕ → ℕ → ℕ × Bytes → Ask
  objects_by : ℕ × Bytes → Ask
  messages_by : ℕ × Bytes → Ask
  tables_by : ℕ × Bytes → Ask
  count_of : ℕ → ℕ × Bytes → Ask
  all_of : ℕ → ℕ → ℕ → Bytes → Ask

pub data Told : Type 0 where
  bytes : Bytes → Told
  records : List Rec → Told
  number : ℕ → Told
  halted : Halt → Progress → Bytes → Bytes → Told

abbrev left_by : ℕ × Bytes → Session
left_by p = packet_leaves (fresh 9) (packet_of (only p))

-- packets one behind the other, and a call for them; every row has room for two bytes of data
abbrev pub framed : ℕ × Bytes → Bytes
framed p = 0x7F ∷ p.0 ∷ bytes_of 2 (length p.1) ++ p.1

abbrev ran_on : ℕ → ℕ → ℕ → Bytes → Ran
ran_on packets rows lines given =
    pushed_each given 255
    (run_of (fresh packets) (replicate (36 * rows) 0x00) (replicate (2 * rows) 0x00) (replicate (16 * lines) 0x00) nothing_taken)
    (recording_of given 255).packets

abbrev halted_as : Ran → Told
halted_as r = halted r.halt r.run.progress r.run.out r.run.lines

unfoldable pub told : Ask → Told
unfolding told_of_feeds ipv4_of package_at_of delivery_size delivery_at_of deliveries_whole plt_deliveries plt_table plt_of tot_fields tot_of over places_from names_from among distinct found_from place_for_name every indexed in_range places_in_range areas_in_range packets_in_range lengths_for long_enough asked limits_of used_of latest_of time_of counters_of held_object_at stats_of media_place_of control_place_of section_place_of media_sound control_sound used_sound latest_sound counters_sound media_in controls_in sections_in head_sound places_sound names_sound sound_in sound mfu_of asset_of_place control_state_in view_by view opened_state opened_session place_for_asset control_for latest_for media_place_for asset_next media_leaves section_rows kept_over control_leaves message_in control_place_for message_leaves packet_leaves has_places has_areas has_outputs asks_of asks_later asks bytes_of put_be leaves_of reply_of cut_at recording_from recording_of pushed_each leaves_all rows_from data_from read_row read_rows
told (rows_of rs) = bytes (rows_from 0 rs)
told (records_of n rows given) = records (read_rows n rows given)
told (pushed_to s x) = number (asks s x)
told (behind packets xs x) = number (asks (leaves_all (fresh packets) xs) x)
told (state_at at n p) = bytes (part at n (left_by p).state)
told (objects_by p) = bytes (left_by p).objects
told (messages_by p) = bytes (left_by p).messages
told (tables_by p) = bytes (left_by p).tables
told (count_of i p) = number (slice_index (left_by p).others i)
told (all_of packets rows lines given) = halted_as (ran_on packets rows lines given)

-- a packet of two bytes in a unit of the media id F101h
abbrev pub second_id : ℕ × Bytes
second_id = compressed 0x00 0x00 0xF101 5 (payload 22 0x28 (replicate 14 0x00 ++ ab))

-- a head of three bytes, of either media id
abbrev pub long_head : ℕ → ℕ × Bytes
long_head i = compressed 0x00 0x00 i 5 (payload 23 0x2A (replicate 14 0x00 ++ (0xAA ∷ 0xBB ∷ 0xCC ∷ [])))

-- a head with a header of the bytes 1 to 14
abbrev headed_head : ℕ × Bytes
headed_head = mmtp 0x00 5 (payload 22 0x2A (one_to14 ++ ab))

-- a message to the control id 0
abbrev second_control : ℕ × Bytes
second_control = compressed 0x00 0x02 0x0000 5 (0x00 ∷ 0x00 ∷ empty_pa)

-- an MPT of 17 bytes, with a package id of eight
abbrev pub long_mpt : Bytes
long_mpt = 0x20 ∷ 0x01 ∷ 0x00 ∷ 0x0D ∷ 0xFC ∷ 0x08 ∷ replicate 8 0x65 ++ (0x00 ∷ 0x00 ∷ 0x00 ∷ [])

-- a PLT without packages, and a TOT without descriptors
abbrev pub plt : Bytes
plt = 0x80 ∷ 0x01 ∷ 0x00 ∷ 0x02 ∷ 0x00 ∷ 0x00 ∷ []

abbrev pub tot : Bytes
tot = 0xA1 ∷ 0xF0 ∷ 0x0B ∷ 0xE8 ∷ 0xD4 ∷ 0x12 ∷ 0x34 ∷ 0x56 ∷ 0xF0 ∷ 0x00 ∷ 0xC1 ∷ 0x57 ∷ 0x0A ∷ 0x52 ∷ []

-- a packet that is only counted, of so many bytes
abbrev pub null : ℕ → ℕ × Bytes
null n = (0xFF, replicate n 0x00)

-- NTP behind an IPv4 and a UDP header: zeros but for the transmit timestamp
abbrev pub ntp : ℕ × Bytes
ntp =
    (0x01, 0x45 ∷ replicate 7 0x00 ++ (0x40 ∷ 0x11 ∷ replicate 10 0x00 ++ (0x00 ∷ 0x01 ∷ 0x00 ∷ 0x7B ∷ replicate 44 0x00 ++ (0x01 ∷ 0x02 ∷ 0x03 ∷ 0x04 ∷ 0x05 ∷ 0x06 ∷ 0x07 ∷ 0x08 ∷ []))))

-- a record with all that a row has, and one with nothing but data
abbrev full : Rec
full =
    record {
      id = 0xF100;
      scrambled = true;
      mfu = record { mpu = 7; rap = true; mfu = Some header; item_id = Some 0x11121314; bytes = ab };
    }

abbrev pub bare : Rec
bare =
    record {
      id = 0xF101;
      scrambled = false;
      mfu = record { mpu = 8; rap = false; mfu = None; item_id = None; bytes = 0xCC ∷ 0xDD ∷ 0xEE ∷ [] };
    }

-- a number of four bytes, and of eight, below 256
abbrev pub low4 : ℕ → Bytes
low4 n = 0x00 ∷ 0x00 ∷ 0x00 ∷ n ∷ []

abbrev low8 : ℕ → Bytes
low8 n = low4 0 ++ low4 n

abbrev full_row : Bytes
full_row =
    0xF1 ∷ 0x00 ∷ 0x0F ∷ 0x00 ∷ low4 7 ++ (one_to14 ++ (0x00 ∷ 0x00 ∷ 0x11 ∷ 0x12 ∷ 0x13 ∷ 0x14 ∷ low4 0 ++ low4 2))

-- two units of two bytes each, one packet behind the other, and their lines
abbrev pub two : Bytes
two = framed (complete_of 5 ab) ++ framed (complete_of 6 cd)

abbrev pub place : ℕ → ℕ → ℕ → ℕ → Progress
place at n m k = record { at = at; packets = n; records = m; bytes = k }

abbrev pub line1 : Bytes
line1 = low8 1 ++ low8 2

-- its data start behind the two bytes of the first
abbrev bare_row : Bytes
bare_row = 0xF1 ∷ 0x01 ∷ 0x00 ∷ 0x00 ∷ low4 8 ++ (replicate 20 0x00 ++ (low4 2 ++ low4 3))

abbrev cases : List (Case Ask Told)
cases =
    (rows_of (full ∷ bare ∷ []) ⇒ bytes (full_row ++ bare_row))
    ∷ (records_of 2 (full_row ++ bare_row) (ab ++ (0xCC ∷ 0xDD ∷ 0xEE ∷ [])) ⇒ records (full ∷ bare ∷ []))
    -- taken, with room for one row and its data
    ∷ (behind 9 [] whole ⇒ number 0)
    -- 5: no session, and one whose objects are lent a byte less
    ∷ (pushed_to (blank 2) (only (null 0)) ⇒ number 5)
    ∷ (pushed_to (opened_session (small 9) (blank 1)) (only (null 0)) ⇒ number 5)
    -- 6: above 65,535 bytes
    ∷ (behind 9 [] (only (null 65535)) ⇒ number 0)
    ∷ (behind 9 [] (only (null 65536)) ⇒ number 6)
    -- 7: all packets counted
    ∷ (behind 2 (only (null 0) ∷ []) (only (null 0)) ⇒ number 0)
    ∷ (behind 1 (only (null 0) ∷ []) (only (null 0)) ⇒ number 7)
    -- 8: no place for another media id, control id or key
    ∷ (behind 9 (whole ∷ []) (input 36 2 second_id) ⇒ number 8)
    ∷ (behind 9 (only (fragment 0x00 empty_pa) ∷ []) (only second_control) ⇒ number 8)
    ∷ (behind 9 [] (only (0xFE, nit1 ++ nit_next)) ⇒ number 8)
    -- 9: an object, a message, a table longer than its area
    ∷ (behind 9 [] (only (long_head 0xF100)) ⇒ number 9)
    ∷ (behind 9 [] (only (first_part 5 (take 9 mpt_message))) ⇒ number 9)
    ∷ (behind 9 [] (only (fragment 0x00 (table_message 17 long_mpt))) ⇒ number 9)
    -- 10: no room, a byte too few for the row, and for the data
    ∷ (behind 9 [] (only (complete_of 5 ab)) ⇒ number 10)
    ∷ (behind 9 [] (input 35 2 (complete_of 5 ab)) ⇒ number 10)
    ∷ (behind 9 [] (input 36 1 (complete_of 5 ab)) ⇒ number 10)
    -- the first no decides
    ∷ (pushed_to (blank 2) (only (null 65536)) ⇒ number 5)
    ∷ (behind 1 (only (null 0) ∷ []) (only (null 65536)) ⇒ number 6)
    ∷ (behind 1 (whole ∷ []) (only second_id) ⇒ number 7)
    ∷ (behind 9 (whole ∷ []) (only (long_head 0xF101)) ⇒ number 8)
    ∷ (behind 9 (only (head_of 5 ab) ∷ []) (only (last_of 6 cd)) ⇒ number 9)
    -- a whole unit: the places in use, the count of packets, the media place with nothing held
    ∷ (state_at used_place 12 (complete_of 5 ab) ⇒ bytes (low4 1 ++ (low4 0 ++ low4 0)))
    ∷ (state_at counters_place 96 (complete_of 5 ab) ⇒ bytes (low8 1 ++ replicate 88 0x00))
    ∷ (state_at media_places held_place (complete_of 5 ab) ⇒ bytes (0x00 ∷ 0x00 ∷ 0xF1 ∷ 0x00 ∷ 0x01 ∷ low4 5 ++ (0x01 ∷ low4 7 ++ low4 7)))
    ∷ (state_at (media_places + held_place) 30 (complete_of 5 ab) ⇒ bytes (replicate 30 0x00))
    ∷ (state_at (media_places + stats_place) 72 (complete_of 5 ab) ⇒ bytes (low8 1 ++ (replicate 16 0x00 ++ (low8 1 ++ (replicate 16 0x00 ++ (low8 1 ++ replicate 16 0x00))))))
    ∷ (objects_by (complete_of 5 ab) ⇒ bytes (replicate 2 0x00))
    -- a head: what is held of it, and its bytes
    ∷ (state_at (media_places + held_place) 30 headed_head ⇒ bytes (0x01 ∷ low4 7 ++ (0x00 ∷ 0x01 ∷ one_to14 ++ (0x00 ∷ low4 0 ++ low4 2))))
    ∷ (objects_by headed_head ⇒ bytes ab)
    -- a NIT: its place (key, version, length), its bytes, the places in use, the count of tables
    ∷ (state_at section_places section_size (0xFE, nit1) ⇒ bytes (0x40 ∷ 0x00 ∷ 0x04 ∷ 0x00 ∷ 0x01 ∷ low4 16))
    ∷ (tables_by (0xFE, nit1) ⇒ bytes (nit1 ++ replicate 48 0x00))
    ∷ (state_at used_place 12 (0xFE, nit1) ⇒ bytes (low4 0 ++ (low4 0 ++ low4 1)))
    ∷ (state_at counters_place 40 (0xFE, nit1) ⇒ bytes (low8 1 ++ (replicate 24 0x00 ++ low8 1)))
    -- an MPT: its control place, and its bytes behind the sections'
    ∷ (state_at control_places control_size (fragment 0x00 mpt_message) ⇒ bytes (0x00 ∷ 0x00 ∷ 0x80 ∷ 0x01 ∷ 0x01 ∷ low4 5 ++ (replicate 7 0x00 ++ (0x01 ∷ low4 9))))
    ∷ (tables_by (fragment 0x00 mpt_message) ⇒ bytes (replicate 16 0x00 ++ (mpt ++ replicate 39 0x00)))
    -- a PLT and a TOT: whether each is there, its length, its bytes behind the MPTs'; a table of an id that is not read is counted
    ∷ (state_at latest_place 10 (fragment 0x00 (table_message 6 plt)) ⇒ bytes (0x01 ∷ low4 6 ++ (0x00 ∷ low4 0)))
    ∷ (tables_by (fragment 0x00 (table_message 6 plt)) ⇒ bytes (replicate 32 0x00 ++ (plt ++ replicate 26 0x00)))
    ∷ (state_at latest_place 10 (fragment 0x00 (table_message 14 tot)) ⇒ bytes (0x00 ∷ low4 0 ++ (0x01 ∷ low4 14)))
    ∷ (tables_by (fragment 0x00 (table_message 14 tot)) ⇒ bytes (replicate 48 0x00 ++ (tot ++ replicate 2 0x00)))
    ∷ (count_of 0x21 (fragment 0x00 (table_message 1 (0x21 ∷ []))) ⇒ number 1)
    ∷ (count_of 0x20 (fragment 0x00 (table_message 1 (0x21 ∷ []))) ⇒ number 0)
    -- a first fragment of an aggregated message with long lengths: the message being joined
    ∷ (state_at control_places control_size (fragment 0x43 ab) ⇒ bytes (0x00 ∷ 0x00 ∷ 0x80 ∷ 0x01 ∷ 0x01 ∷ low4 5 ++ (0x01 ∷ 0x01 ∷ 0x01 ∷ low4 2 ++ replicate 5 0x00)))
    ∷ (messages_by (fragment 0x43 ab) ⇒ bytes (ab ++ replicate 6 0x00))
    -- many packets: all of them; none; the third is cut off, and is no packet; too many data
    ∷ (all_of 9 2 2 two ⇒ halted End (place 86 2 2 4) (ab ++ cd) (line1 ++ line1))
    ∷ (all_of 9 2 2 [] ⇒ halted End (place 0 0 0 0) (replicate 4 0x00) (replicate 32 0x00))
    ∷ (all_of 9 2 2 (two ++ (0x7F ∷ 0xFF ∷ 0x00 ∷ [])) ⇒ halted Short (place 86 2 2 4) (ab ++ cd) (line1 ++ line1))
    ∷ (all_of 9 2 2 (two ++ (0x47 ∷ [])) ⇒ halted Bad (place 86 2 2 4) (ab ++ cd) (line1 ++ line1))
    ∷ (all_of 9 2 2 (0x7F ∷ 0xFF ∷ 0x01 ∷ 0x00 ∷ []) ⇒ halted Bad (place 0 0 0 0) (replicate 4 0x00) (replicate 32 0x00))
    -- no room for the second's line, for its row and data, for another packet; no place for it
    ∷ (all_of 9 2 1 two ⇒ halted Full (place 43 1 1 2) (ab ++ (0x00 ∷ 0x00 ∷ [])) line1)
    ∷ (all_of 9 1 2 two ⇒ halted (Refused OutputTooSmall) (place 43 1 1 2) ab (line1 ++ replicate 16 0x00))
    ∷ (all_of 1 2 2 two ⇒ halted (Refused PacketsUsedUp) (place 43 1 1 2) (ab ++ (0x00 ∷ 0x00 ∷ [])) (line1 ++ replicate 16 0x00))
    ∷ (all_of 9 2 2 (framed (complete_of 5 ab) ++ framed second_id) ⇒ halted (Refused NoPlaceFree) (place 43 1 1 2) (ab ++ (0x00 ∷ 0x00 ∷ [])) (line1 ++ replicate 16 0x00))
    -- the time
    ∷ (state_at time_place 9 ntp ⇒ bytes (0x01 ∷ 0x01 ∷ 0x02 ∷ 0x03 ∷ 0x04 ∷ 0x05 ∷ 0x06 ∷ 0x07 ∷ 0x08 ∷ []))
    ∷ []

pub table : Holds told cases
unfolding told refusal_of
table = refl
