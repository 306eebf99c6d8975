-- The lines of `feeddump` but for the kept tables: what each packet gave, and what a session holds.
use Rattle.std.specs.Prelude.{ℕ, zero, suc, ◌+◌, ◌-◌, ◌*◌, ◌%◌, List, [], ◌∷◌, ◌++◌, length, take, drop, to_bits, Option, Some, None, Result, Ok, Err, if◌then◌else◌, unwrap_or}
use Rattle.isdb_mmt.specs.declared.decoder.refusal.Refusal.{Refusal}
use Rattle.isdb_mmt.specs.declared.decoder.readings.Held.{Held}
use Rattle.isdb_mmt.specs.declared.decoder.readings.Held.TheVariants.{NoId, NoObject, Object}
use Rattle.isdb_mmt.specs.declared.decoder.readings.MpuRange.{MpuRange}
use Rattle.isdb_mmt.specs.declared.decoder.readings.ControlState.{ControlState}
use Rattle.std.specs.Float.{binary64}
use Rattle.isdb_tlv.specs.Guards.{◌<?◌, ◌≤?◌, ◌=?◌}
use Rattle.isdb_tlv.specs.Bytes.{be}
use Rattle.isdb_tlv.specs.Crc.{crc_of}
use Rattle.isdb_tlv.specs.Fields.{written}
use Rattle.isdb_mmt.specs.Formats.Ntp.{ntp_to_unix_of}
use Rattle.isdb_mmt.specs.Formats.Part.{part_of}
use Rattle.isdb_mmt.specs.Memory.Lent.{part, flag_byte, names_from}
use Rattle.isdb_mmt.specs.Memory.Layout.{most_media_ids, most_control_ids, most_message_area, table_ids, control_places, control_size}
use Rattle.isdb_mmt.specs.Memory.Session.{Session, limits_of, used_of, control_place_of}
use Rattle.isdb_mmt.specs.Pushes.Records.{held_fields}
use Rattle.isdb_mmt.specs.Answers.Readings.{counters_read, time_read, count_read, next_media_read, media_read, held_read, asset_read, next_control_read, control_read}
use Rattle.isdb_mmt.specs.Pushes.Answer.{Answer}
use Rattle.isdb_mmt.specs.declared.decoder.records.HandedOut.{HandedOut}
use Rattle.isdb_mmt.specs.declared.decoder.counts.AssetStats.{AssetStats}
use Rattle.isdb_mmt.specs.declared.decoder.counts.Counters.{Counters}
use Rattle.isdb_mmt.specs.declared.decoder.readings.MediaState.{MediaState}
use Rattle.isdb_mmt.specs.declared.decoder.readings.HeldObject.{HeldObject}
use Rattle.isdb_mmt.specs.declared.decoder.readings.CarriedAsset.{CarriedAsset}
use Rattle.isdb_text.specs.Text.{ascii, bytes_as_hex}
use Rattle.isdb_text.specs.Fill.{filled}
use Rattle.isdb_text.specs.Ascending.{ascending_text}
use Rattle.isdb_mmt.specs.Formats.Maybe.{given}

-- ---- a packet

-- an answer by its number
abbrev pub numbered : ℕ → HandedOut → Answer
numbered n h = record { number = n; records = h.records; bytes = h.bytes }

-- what a push answered to the packet with this number: its kind, its length, and what was handed out
unfoldable pub packet_line : ℕ → ℕ → ℕ → Answer → List ℕ
packet_line number kind n a =
    if a.number =? 0
    then filled (ascii "packet # kind %% length # records # bytes #\n") (number ∷ kind ∷ n ∷ a.records ∷ a.bytes ∷ [])
    else filled (ascii "packet # kind %% length # refused #\n") (number ∷ kind ∷ n ∷ a.number ∷ [])

-- LENGTH CRC
unfoldable pub data_text : List ℕ → List ℕ
data_text b = filled (ascii " # %%%%%%%%\n") (length b ∷ crc_of b ∷ [])

-- RECORD LENGTH CRC
unfoldable pub record_text : List ℕ → List ℕ → List ℕ
record_text row b = bytes_as_hex row ++ data_text b

-- a record that a push handed out: its last two fields say where its data lie among those of all
unfoldable pub mfu_line : List ℕ → List ℕ → List ℕ
mfu_line row given = ascii "mfu " ++ record_text row (take (be 4 row 32) (drop (be 4 row 28) given))

-- ---- the feed

abbrev pub feed_counters : Counters → List ℕ
feed_counters c =
    filled (ascii "counter tlv_packets #\ncounter ip_errors #\ncounter non_mmtp #\ncounter ntp #\n")
    (c.tlv_packets ∷ c.ip_errors ∷ c.non_mmtp ∷ c.ntp ∷ [])

abbrev pub table_counters : Counters → List ℕ
table_counters c =
    filled (ascii "counter tables #\ncounter crc_errors #\ncounter malformed #\ncounter version_changes #\n")
    (c.tables ∷ c.crc_errors ∷ c.malformed ∷ c.version_changes ∷ [])

abbrev pub message_counters : Counters → List ℕ
message_counters c =
    filled (ascii "counter message_orphan_fragments #\ncounter message_oversize #\ncounter message_malformed #\n")
    (c.orphan_fragments ∷ c.oversize ∷ c.message_malformed ∷ [])
    ++ filled (ascii "counter split_errors #\n") (c.split_errors ∷ [])

-- a reading that is refused has no line, here and below
abbrev pub counter_lines : Result Counters Refusal → List ℕ
counter_lines (Ok c) = feed_counters c ++ (table_counters c ++ message_counters c)
counter_lines (Err e) = []

unfoldable pub unix_bits : ℕ → ℕ
unix_bits t = to_bits binary64 (ntp_to_unix_of t)

abbrev pub ntp_line : Result (Option ℕ) Refusal → List ℕ
ntp_line (Ok (Some t)) = filled (ascii "ntp %%%%%%%%%%%%%%%% unix_bits %%%%%%%%%%%%%%%%\n") (t ∷ unix_bits t ∷ [])
ntp_line (Ok None) = ascii "ntp none\n"
ntp_line (Err e) = []

-- ---- a media id

abbrev pub stats_line : ℕ → AssetStats → List ℕ
stats_line id s =
    filled (ascii "media # packets # packets_lost # scrambled_packets # mfus # ")
    (id ∷ s.packets ∷ s.packets_lost ∷ s.scrambled_packets ∷ s.mfus ∷ [])
    ++ filled (ascii "scrambled_mfus # mfus_dropped # mpus # mpu_sequence_jumps # malformed #\n")
    (s.scrambled_mfus ∷ s.mfus_dropped ∷ s.mpus ∷ s.mpu_sequence_jumps ∷ s.malformed ∷ [])

abbrev pub range_line : ℕ → Option MpuRange → List ℕ
range_line id None = filled (ascii "media # mpu_range none\n") (id ∷ [])
range_line id (Some x) = filled (ascii "media # mpu_range # #\n") (id ∷ x.first ∷ x.last ∷ [])

unfoldable pub state_lines : ℕ → MediaState → List ℕ
state_lines id m =
    stats_line id m.stats
    ++ (range_line id m.mpu_range
    ++ filled (ascii "media # last_sequence ?\n") (id ∷ given m.sequence ∷ unwrap_or m.sequence 0 ∷ []))

abbrev pub media_lines : ℕ → Result (Option MediaState) Refusal → List ℕ
media_lines id (Ok (Some m)) = state_lines id m
media_lines id (Ok None) = []
media_lines id (Err e) = []

unfoldable pub object_line : ℕ → HeldObject → List ℕ → List ℕ
object_line id o objects =
    filled (ascii "media # held ") (id ∷ []) ++ record_text (written (held_fields id o)) (part_of objects o.bytes)

abbrev pub held_line : ℕ → Result Held Refusal → List ℕ → List ℕ
held_line id (Ok (Object o)) objects = object_line id o objects
held_line id (Ok NoObject) objects = filled (ascii "media # held none\n") (id ∷ [])
held_line id (Ok NoId) objects = []
held_line id (Err e) objects = []

-- the asset's id lies in the bytes of its MPT
unfoldable pub carried_line : ℕ → CarriedAsset → List ℕ → List ℕ
carried_line id a tables =
    filled (ascii "media # asset_of service ? type %%%%%%%% id ")
    (id ∷ given a.service_id ∷ unwrap_or a.service_id 0 ∷ a.asset.asset_type ∷ [])
    ++ (bytes_as_hex (part_of (part_of tables a.mpt) a.asset.asset_id) ++ ascii "\n")

abbrev pub asset_line : ℕ → Result (Option CarriedAsset) Refusal → List ℕ → List ℕ
asset_line id (Ok (Some a)) tables = carried_line id a tables
asset_line id (Ok None) tables = filled (ascii "media # asset_of none\n") (id ∷ [])
asset_line id (Err e) tables = []

-- the five lines of a media id; packet ids have 16 bits
unfoldable pub media_text : Session → ℕ → List ℕ
media_text s id =
    media_lines id (media_read s id) ++ (held_line id (held_read s id) s.objects ++ asset_line id (asset_read s (id % 65536)) s.tables)

-- of all, in ascending order
unfoldable pub all_media : Session → List ℕ
all_media s = ascending_text most_media_ids (next_media_read s) (media_text s) 0

-- ---- a control id

abbrev pub control_line : ℕ → Result (Option ControlState) Refusal → List ℕ
control_line id (Ok (Some c)) =
    filled (ascii "control # last_sequence ?\n") (id ∷ given c.sequence ∷ unwrap_or c.sequence 0 ∷ [])
control_line id (Ok None) = []
control_line id (Err e) = []

-- the index of the first `x` among some names, where the first name has the index `i`; behind the last where there is none
unfoldable pub index_from : ℕ → List ℕ → ℕ → ℕ
index_from i [] x = i
index_from i (y ∷ ys) x = if y =? x then i else index_from (i + 1) ys x

-- the index of its place
unfoldable pub control_index : List ℕ → ℕ → ℕ
control_index state id = index_from 0 (names_from (used_of state).control_ids control_size control_places state) id

-- a message that is being joined, by the bytes of its place and of the area that its bytes so far begin
unfoldable pub joined_line : ℕ → List ℕ → List ℕ → List ℕ
joined_line id place area =
    let c = control_place_of place in
    if c.joining
    then filled (ascii "control # held long_length # aggregated #") (id ∷ flag_byte c.long_length ∷ flag_byte c.aggregated ∷ [])
    ++ data_text (take c.length area)
    else filled (ascii "control # held none\n") (id ∷ [])

-- of control place `i`, whose area is the one with this index; of a session the limits are in range
unfoldable pub message_line : ℕ → ℕ → List ℕ → List ℕ → List ℕ
message_line id i state messages =
    if most_control_ids ≤? i then []
    else if most_message_area <? (limits_of state).message_area then []
    else joined_line id (part (control_places + control_size * i) control_size state) (drop (i * (limits_of state).message_area) messages)

unfoldable pub control_text : Session → ℕ → List ℕ
control_text s id = control_line id (control_read s id) ++ message_line id (control_index s.state id) s.state s.messages

unfoldable pub all_controls : Session → List ℕ
all_controls s = ascending_text most_control_ids (next_control_read s) (control_text s) 0

-- ---- tables that are not decoded

abbrev pub other_line : ℕ → Result ℕ Refusal → List ℕ
other_line id (Ok n) = if n =? 0 then [] else filled (ascii "other 0x%% #\n") (id ∷ n ∷ [])
other_line id (Err e) = []

unfoldable pub other_text : Session → ℕ → List ℕ
other_text s id = other_line id (count_read s id)

-- the last `k` of the table ids
unfoldable pub other_last : ℕ → Session → List ℕ
other_last zero s = []
other_last (suc k) s = other_text s (table_ids - suc k) ++ other_last k s

unfoldable pub other_lines : Session → List ℕ
other_lines s = other_last table_ids s

-- ---- the whole

unfoldable pub feed_lines : Session → List ℕ
feed_lines s = counter_lines (counters_read s) ++ ntp_line (time_read s)

unfoldable pub session_lines : Session → List ℕ
session_lines s = feed_lines s ++ (all_media s ++ (all_controls s ++ other_lines s))
