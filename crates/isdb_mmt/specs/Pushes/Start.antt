-- What a walk over tables starts with, and the counters after it.
use Rattle.std.specs.Prelude.{◌≡◌, ℕ, ◌+◌, ◌*◌, ◌≤◌, Bool, false, List, map, length, take, drop, Option, is_some}
use Rattle.isdb_tlv.specs.Fields.{written}
use Rattle.isdb_tlv.specs.Si.{sections_of}
use Rattle.isdb_tlv.specs.declared.si.Section.{Section}
use Rattle.isdb_tlv.specs.Guards.{◌<?◌}
use Rattle.std.specs.Prelude.{if◌then◌else◌}
use Rattle.isdb_tlv.specs.Bytes.{be}
use Rattle.isdb_mmt.specs.Memory.Layout.{most_sections, most_control_ids, most_table_area, most_count, table_ids, counters_place, section_places, section_size, state_size}
use Rattle.isdb_mmt.specs.Decoder.Packet.{Bytes, Packet, control}
use Rattle.isdb_mmt.specs.Decoder.Kept.{with_packet_counts, with_table_counts}
use Rattle.isdb_mmt.specs.Memory.Lent.{part, over}
use Rattle.isdb_mmt.specs.Memory.Session.{limits_of, used_of, latest_of, counters_fields}
use Rattle.isdb_mmt.specs.Memory.View.{given}
use Rattle.isdb_mmt.specs.Pushes.MediaPush.{with_used}
use Rattle.isdb_mmt.specs.Pushes.Commit.{put_tables, logged_from, CanStore}
use Rattle.isdb_mmt.specs.Pushes.TableOutcome.{index_size, recent_length}
use Rattle.isdb_mmt.specs.declared.decoder.limits.Limits.{Limits}
use Rattle.isdb_mmt.specs.declared.decoder.counts.Counters.{Counters}
use Rattle.isdb_mmt.specs.declared.decoder.head.Used.{Used}
use Rattle.isdb_mmt.specs.declared.decoder.head.Latest.{Latest}
use Rattle.isdb_mmt.specs.declared.decoder.table_outcome.Recent.{Recent}
use Rattle.isdb_mmt.specs.declared.decoder.walk.WalkState.{WalkState}

-- a table of `n` bytes in the area that starts at `at`
abbrev pub recent_at : List ℕ → ℕ → Bool → ℕ → Option Recent
recent_at t at there n = given there (record { version = be 1 (part at n t) 1; from = 0; length = n })

abbrev pub start_of : Counters → ℕ → Option Recent → Option Recent → Option Recent → WalkState
start_of c used mpt plt tot =
    record {
      used = used;
      tables = c.tables;
      crc_errors = c.crc_errors;
      malformed = c.malformed;
      version_changes = c.version_changes;
      split_errors = c.split_errors;
      message_malformed = c.message_malformed;
      mpt = mpt;
      plt = plt;
      tot = tot;
      longest = 0;
      full = false;
    }

abbrev pub counters_with : Counters → WalkState → Counters
counters_with c g = with_table_counts c g.tables g.crc_errors g.malformed g.version_changes g.message_malformed g.split_errors

-- from a session: its kept sections, its PLT and its TOT, with the MPT of a control id
abbrev pub plt_at : List ℕ → ℕ
plt_at state = ((limits_of state).sections + (limits_of state).control_ids) * (limits_of state).table_area

abbrev pub tot_at : List ℕ → ℕ
tot_at state = ((limits_of state).sections + (limits_of state).control_ids + 1) * (limits_of state).table_area

abbrev pub walk_start : List ℕ → List ℕ → Counters → Option Recent → WalkState
walk_start state t c mpt =
    start_of c (used_of state).sections mpt (recent_at t (plt_at state) (latest_of state).plt (latest_of state).plt_length)
    (recent_at t (tot_at state) (latest_of state).tot (latest_of state).tot_length)

abbrev pub latest_with : WalkState → Latest
latest_with g =
    record {
      plt = is_some g.plt;
      plt_length = recent_length g.plt;
      tot = is_some g.tot;
      tot_length = recent_length g.tot;
    }

-- questions 8 and 9 of the tables, from a walk
unfoldable pub tables_ask : Limits → WalkState → ℕ
tables_ask l g =
    if g.full then 8
    else if l.sections <? g.used then 8
    else if l.table_area <? g.longest then 9
    else 0

-- the copies, as lent to a walk
pub record CopiesLent (ix log mine : List ℕ) : Type 0 where
  pub index_long : length ix ≡ index_size
  pub log_long : length log ≡ most_sections
  pub others_long : length mine ≡ table_ids

pub record CanGo (state t : List ℕ) : Type 0 where
  pub few : (limits_of state).sections + (limits_of state).control_ids ≤ most_sections + most_control_ids
  pub area : (limits_of state).table_area ≤ most_table_area
  pub room : ((limits_of state).sections + (limits_of state).control_ids + 2) * (limits_of state).table_area ≤ length t

-- ---- a control packet

-- the packet that a control signal's data are
abbrev pub signal_of : Bytes → Packet
signal_of b = control (map (λ (x : Section). take x.size (drop x.offset b)) (sections_of b))

abbrev pub with_sections_used : Used → ℕ → Used
with_sections_used u n = record { media_ids = u.media_ids; control_ids = u.control_ids; sections = n }

pub record CanLeave (state others tables ix log mine : List ℕ) (g : WalkState) (b : Bytes) : Type 0 where
  pub areas : CanStore tables ix log g.used (limits_of state).table_area b
  pub counts : length others ≡ length mine
  pub long : state_size ≤ length state
  pub index_long : length ix ≡ index_size

pub record SectionsLeft (state tables ix log mine : List ℕ) (c : Counters) (g : WalkState) (b : Bytes) (state' others' tables' : List ℕ) : Type 0 where
  pub areas : tables' ≡ put_tables (limits_of state).table_area 0 (logged_from g.used 0 ix log) b tables
  pub counts : others' ≡ mine
  pub places : state' ≡ over counters_place (written (counters_fields (counters_with c g))) (over section_places (take (section_size * g.used) ix) (with_used (with_sections_used (used_of state) g.used) state))

-- ---- a message

-- counters with more messages or tables of messages that are cut short
abbrev pub malformed_more : Counters → ℕ → Counters
malformed_more c k = with_packet_counts c c.tlv_packets c.orphan_fragments c.oversize (c.message_malformed + k)

-- the counts that tables raise
pub record CountsFit (c : Counters) : Type 0 where
  pub tables : c.tables ≤ most_count
  pub crc_errors : c.crc_errors ≤ most_count
  pub malformed : c.malformed ≤ most_count
  pub version_changes : c.version_changes ≤ most_count
  pub message_malformed : c.message_malformed ≤ most_count
  pub split_errors : c.split_errors ≤ most_count
