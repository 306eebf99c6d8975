-- What is known of an id, a key and the whole, as the places of a session hold it: what is absent is 0.
use Rattle.std.specs.Prelude.{ℕ, Bool, false, length, Option, None, Some, is_some}
use Rattle.isdb_mmt.specs.Decoder.Packet.{Bytes}
use Rattle.isdb_mmt.specs.Decoder.Maps.{or_else}
use Rattle.isdb_mmt.specs.Decoder.Objects.{Mfu, Asset}
use Rattle.isdb_mmt.specs.Decoder.Reassembly.{PartialMessage}
use Rattle.isdb_mmt.specs.Decoder.Kept.{Kept, KeptTables}
use Rattle.isdb_mmt.specs.Decoder.Model.{Control as ControlState}
use Rattle.isdb_mmt.specs.Decoder.Needs.{partial_length}
use Rattle.isdb_mmt.specs.Formats.Mpu.{no_header}
use Rattle.isdb_mmt.specs.Pushes.Records.{object_for}
use Rattle.isdb_mmt.specs.declared.decoder.head.Latest.{Latest}
use Rattle.isdb_mmt.specs.declared.decoder.media.Object.{Object}
use Rattle.isdb_mmt.specs.declared.decoder.media.Media.{Media}
use Rattle.isdb_mmt.specs.declared.decoder.control.Control.{Control}
use Rattle.isdb_mmt.specs.declared.decoder.section.KeptSection.{KeptSection}

abbrev pub no_object : Object
no_object =
    record { mpu_sequence_number = 0; rap = false; timed = false; header = no_header; item = false; item_id = 0; length = 0 }

abbrev pub held_for : Option Mfu → Object
held_for None = no_object
held_for (Some h) = object_for h

abbrev pub first_in : Option (ℕ × ℕ) → ℕ
first_in None = 0
first_in (Some r) = r.0

unfoldable pub place_for_asset : ℕ → Asset → Media
unfolding or_else
place_for_asset id a =
    record {
      packet_id = id;
      seen = is_some a.number;
      sequence = or_else 0 a.number;
      mpu_seen = is_some a.mpu;
      mpu = or_else 0 a.mpu;
      first_mpu = first_in a.range;
      held = is_some a.held;
      object = held_for a.held;
      stats = a.stats;
    }

-- the flags of the message that is being joined
abbrev pub long_in : Option PartialMessage → Bool
long_in None = false
long_in (Some j) = j.long

abbrev pub aggregated_in : Option PartialMessage → Bool
aggregated_in None = false
aggregated_in (Some j) = j.aggregated

abbrev pub table_length : Option Bytes → ℕ
table_length None = 0
table_length (Some b) = length b

unfoldable pub control_for : ℕ → ControlState → Control
unfolding or_else
control_for id c =
    record {
      packet_id = id;
      seen = is_some c.reassembly.number;
      sequence = or_else 0 c.reassembly.number;
      joining = is_some c.reassembly.partial;
      long_length = long_in c.reassembly.partial;
      aggregated = aggregated_in c.reassembly.partial;
      length = partial_length c.reassembly.partial;
      mpt = is_some c.mpt;
      mpt_length = table_length c.mpt;
    }

abbrev pub section_for : ℕ → Kept → KeptSection
section_for k x = record { key = k; version = x.version; length = length x.bytes }

unfoldable pub latest_for : KeptTables → Latest
latest_for s =
    record {
      plt = is_some s.plt;
      plt_length = table_length s.plt;
      tot = is_some s.tot;
      tot_length = table_length s.tot;
    }
