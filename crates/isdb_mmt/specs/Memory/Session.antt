-- The session in lent memory: its buffers, and the layout of its state. Every number stands with its high byte first, in as
-- many bytes as its type has, so that any bytes are some session's.
use Rattle.std.specs.Prelude.{ℕ, ◌+◌, ◌*◌, List, [], ◌∷◌, ◌++◌}
use Rattle.isdb_tlv.specs.Bytes.{be}
use Rattle.isdb_tlv.specs.Fields.{Field, field}
use Rattle.isdb_mmt.specs.Memory.Lent.{part, flag, flag_byte}
use Rattle.isdb_mmt.specs.Memory.Layout.{used_place, latest_place, time_place, counters_place, media_places, held_place, object_place, stats_place, media_size, control_places, control_size, section_places, section_size}
use Rattle.isdb_mmt.specs.declared.decoder.limits.Limits.{Limits}
use Rattle.isdb_mmt.specs.declared.decoder.counts.AssetStats.{AssetStats}
use Rattle.isdb_mmt.specs.declared.decoder.counts.Counters.{Counters}
use Rattle.isdb_mmt.specs.declared.decoder.head.Used.{Used}
use Rattle.isdb_mmt.specs.declared.decoder.head.Latest.{Latest}
use Rattle.isdb_mmt.specs.declared.decoder.head.Time.{Time}
use Rattle.isdb_mmt.specs.declared.decoder.media.Object.{Object}
use Rattle.isdb_mmt.specs.declared.decoder.media.Media.{Media}
use Rattle.isdb_mmt.specs.declared.decoder.control.Control.{Control}
use Rattle.isdb_mmt.specs.declared.decoder.section.KeptSection.{KeptSection}

-- what is lent: the state, one count for each table id, and an area for each held object, message being joined and kept table
pub record Session : Type 0 where
  pub state : List ℕ
  pub others : List ℕ
  pub objects : List ℕ
  pub messages : List ℕ
  pub tables : List ℕ

-- the head
unfoldable pub limits_of : List ℕ → Limits
limits_of l =
    record {
      media_ids = be 8 l 0;
      control_ids = be 8 l 8;
      sections = be 8 l 16;
      mfu_area = be 8 l 24;
      message_area = be 8 l 32;
      table_area = be 8 l 40;
      packets = be 8 l 48;
      pass_scrambled = flag l 56;
    }

abbrev pub limits_fields : Limits → List Field
limits_fields x =
    field 8 x.media_ids
    ∷ field 8 x.control_ids
    ∷ field 8 x.sections
    ∷ field 8 x.mfu_area
    ∷ field 8 x.message_area
    ∷ field 8 x.table_area
    ∷ field 8 x.packets
    ∷ field 1 (flag_byte x.pass_scrambled)
    ∷ []

unfoldable pub used_of : List ℕ → Used
used_of l =
    record {
      media_ids = be 4 l used_place;
      control_ids = be 4 l (used_place + 4);
      sections = be 4 l (used_place + 8);
    }

abbrev pub used_fields : Used → List Field
used_fields x = field 4 x.media_ids ∷ field 4 x.control_ids ∷ field 4 x.sections ∷ []

unfoldable pub latest_of : List ℕ → Latest
latest_of l =
    record {
      plt = flag l latest_place;
      plt_length = be 4 l (latest_place + 1);
      tot = flag l (latest_place + 5);
      tot_length = be 4 l (latest_place + 6);
    }

abbrev pub latest_fields : Latest → List Field
latest_fields x =
    field 1 (flag_byte x.plt) ∷ field 4 x.plt_length ∷ field 1 (flag_byte x.tot) ∷ field 4 x.tot_length ∷ []

unfoldable pub time_of : List ℕ → Time
time_of l = record { seen = flag l time_place; timestamp = be 8 l (time_place + 1) }

abbrev pub time_fields : Time → List Field
time_fields x = field 1 (flag_byte x.seen) ∷ field 8 x.timestamp ∷ []

unfoldable pub counters_of : List ℕ → Counters
counters_of l =
    record {
      tlv_packets = be 8 l counters_place;
      ip_errors = be 8 l (counters_place + 8);
      non_mmtp = be 8 l (counters_place + 16);
      ntp = be 8 l (counters_place + 24);
      tables = be 8 l (counters_place + 32);
      crc_errors = be 8 l (counters_place + 40);
      malformed = be 8 l (counters_place + 48);
      version_changes = be 8 l (counters_place + 56);
      orphan_fragments = be 8 l (counters_place + 64);
      oversize = be 8 l (counters_place + 72);
      message_malformed = be 8 l (counters_place + 80);
      split_errors = be 8 l (counters_place + 88);
    }

abbrev pub counters_fields : Counters → List Field
counters_fields c =
    field 8 c.tlv_packets
    ∷ field 8 c.ip_errors
    ∷ field 8 c.non_mmtp
    ∷ field 8 c.ntp
    ∷ field 8 c.tables
    ∷ field 8 c.crc_errors
    ∷ field 8 c.malformed
    ∷ field 8 c.version_changes
    ∷ field 8 c.orphan_fragments
    ∷ field 8 c.oversize
    ∷ field 8 c.message_malformed
    ∷ field 8 c.split_errors
    ∷ []

-- a media place
unfoldable pub held_object_at : List ℕ → Object
held_object_at p =
    record {
      mpu_sequence_number = be 4 p object_place;
      rap = flag p (object_place + 4);
      timed = flag p (object_place + 5);
      header =
          record {
            movie_fragment_sequence_number = be 4 p (object_place + 6);
            sample_number = be 4 p (object_place + 10);
            offset = be 4 p (object_place + 14);
            priority = be 1 p (object_place + 18);
            dependency_counter = be 1 p (object_place + 19);
          };
      item = flag p (object_place + 20);
      item_id = be 4 p (object_place + 21);
      length = be 4 p (object_place + 25);
    }

unfoldable pub stats_of : List ℕ → AssetStats
stats_of p =
    record {
      packets = be 8 p stats_place;
      packets_lost = be 8 p (stats_place + 8);
      scrambled_packets = be 8 p (stats_place + 16);
      mfus = be 8 p (stats_place + 24);
      scrambled_mfus = be 8 p (stats_place + 32);
      mfus_dropped = be 8 p (stats_place + 40);
      mpus = be 8 p (stats_place + 48);
      mpu_sequence_jumps = be 8 p (stats_place + 56);
      malformed = be 8 p (stats_place + 64);
    }

unfoldable pub media_place_of : List ℕ → Media
unfolding held_object_at stats_of
media_place_of p =
    record {
      packet_id = be 4 p 0;
      seen = flag p 4;
      sequence = be 4 p 5;
      mpu_seen = flag p 9;
      mpu = be 4 p 10;
      first_mpu = be 4 p 14;
      held = flag p held_place;
      object = held_object_at p;
      stats = stats_of p;
    }

abbrev pub number_fields : Media → List Field
number_fields m =
    field 4 m.packet_id
    ∷ field 1 (flag_byte m.seen)
    ∷ field 4 m.sequence
    ∷ field 1 (flag_byte m.mpu_seen)
    ∷ field 4 m.mpu
    ∷ field 4 m.first_mpu
    ∷ field 1 (flag_byte m.held)
    ∷ []

abbrev pub object_fields : Object → List Field
object_fields o =
    field 4 o.mpu_sequence_number
    ∷ field 1 (flag_byte o.rap)
    ∷ field 1 (flag_byte o.timed)
    ∷ field 4 o.header.movie_fragment_sequence_number
    ∷ field 4 o.header.sample_number
    ∷ field 4 o.header.offset
    ∷ field 1 o.header.priority
    ∷ field 1 o.header.dependency_counter
    ∷ field 1 (flag_byte o.item)
    ∷ field 4 o.item_id
    ∷ field 4 o.length
    ∷ []

abbrev pub stats_fields : AssetStats → List Field
stats_fields s =
    field 8 s.packets
    ∷ field 8 s.packets_lost
    ∷ field 8 s.scrambled_packets
    ∷ field 8 s.mfus
    ∷ field 8 s.scrambled_mfus
    ∷ field 8 s.mfus_dropped
    ∷ field 8 s.mpus
    ∷ field 8 s.mpu_sequence_jumps
    ∷ field 8 s.malformed
    ∷ []

abbrev pub media_fields : Media → List Field
media_fields m = number_fields m ++ (object_fields m.object ++ stats_fields m.stats)

-- a control place
unfoldable pub control_place_of : List ℕ → Control
control_place_of p =
    record {
      packet_id = be 4 p 0;
      seen = flag p 4;
      sequence = be 4 p 5;
      joining = flag p 9;
      long_length = flag p 10;
      aggregated = flag p 11;
      length = be 4 p 12;
      mpt = flag p 16;
      mpt_length = be 4 p 17;
    }

abbrev pub control_fields : Control → List Field
control_fields c =
    field 4 c.packet_id
    ∷ field 1 (flag_byte c.seen)
    ∷ field 4 c.sequence
    ∷ field 1 (flag_byte c.joining)
    ∷ field 1 (flag_byte c.long_length)
    ∷ field 1 (flag_byte c.aggregated)
    ∷ field 4 c.length
    ∷ field 1 (flag_byte c.mpt)
    ∷ field 4 c.mpt_length
    ∷ []

-- a section place
unfoldable pub section_place_of : List ℕ → KeptSection
section_place_of p = record { key = be 4 p 0; version = be 1 p 4; length = be 4 p 5 }

abbrev pub section_fields : KeptSection → List Field
section_fields x = field 4 x.key ∷ field 1 x.version ∷ field 4 x.length ∷ []

-- the place with the index `i`
abbrev pub media_at : List ℕ → ℕ → Media
media_at l i = media_place_of (part (media_places + media_size * i) media_size l)

abbrev pub control_at : List ℕ → ℕ → Control
control_at l i = control_place_of (part (control_places + control_size * i) control_size l)

abbrev pub section_at : List ℕ → ℕ → KeptSection
section_at l i = section_place_of (part (section_places + section_size * i) section_size l)
