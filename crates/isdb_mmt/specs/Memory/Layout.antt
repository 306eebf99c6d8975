-- The numbers of a session, each once: the most that limits and counts may be, and where the parts of the state lie.
use Rattle.std.specs.Prelude.{ℕ, ◌+◌, ◌*◌}

-- limits: places, the bytes of an area, packets
abbrev pub most_media_ids : ℕ
most_media_ids = 64

abbrev pub most_control_ids : ℕ
most_control_ids = 32

abbrev pub most_sections : ℕ
most_sections = 512

abbrev pub most_mfu_area : ℕ
most_mfu_area = 16777216

abbrev pub most_message_area : ℕ
most_message_area = 1048576

abbrev pub most_table_area : ℕ
most_table_area = 65539

abbrev pub most_packets : ℕ
most_packets = 4294967295

-- a count: 2^53
abbrev pub most_count : ℕ
most_count = 9007199254740992

-- one count for each table id
abbrev pub table_ids : ℕ
table_ids = 256

-- the head: limits from 0, places in use, PLT and TOT, the time, counters
abbrev pub used_place : ℕ
used_place = 57

abbrev pub latest_place : ℕ
latest_place = used_place + 12

abbrev pub time_place : ℕ
time_place = latest_place + 10

abbrev pub counters_place : ℕ
counters_place = time_place + 9

-- then places of each sort
abbrev pub media_places : ℕ
media_places = counters_place + 96

-- a media place: numbers from 0, whether an object is held, the object, counts
abbrev pub held_place : ℕ
held_place = 18

abbrev pub object_place : ℕ
object_place = held_place + 1

abbrev pub stats_place : ℕ
stats_place = object_place + 29

abbrev pub media_size : ℕ
media_size = stats_place + 72

abbrev pub control_places : ℕ
control_places = media_places + most_media_ids * media_size

abbrev pub control_size : ℕ
control_size = 21

abbrev pub section_places : ℕ
section_places = control_places + most_control_ids * control_size

abbrev pub section_size : ℕ
section_size = 9

abbrev pub state_size : ℕ
state_size = section_places + most_sections * section_size
