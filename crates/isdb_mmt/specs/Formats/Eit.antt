-- MH-EIT: ARIB STD-B60, Table 7-18.
use Rattle.isdb_mmt.specs.declared.table.section.Parsed.{Parsed}
use Rattle.std.specs.Prelude.{ℕ, ◌+◌, ◌/◌, ◌%◌, List, map, length, slice_index, Err, Ok}
use Rattle.isdb_tlv.specs.Guards.{◌<?◌, ◌=?◌}
use Rattle.std.specs.Prelude.{if◌then◌else◌}
use Rattle.isdb_tlv.specs.Bytes.{be}
use Rattle.isdb_mmt.specs.Formats.Desc.{Loop}
use Rattle.isdb_mmt.specs.Formats.Section.{long_section_of, in_section, entry_at, entry_as, entries_from, parsed}
use Rattle.isdb_mmt.specs.declared.table.section.SectionHeader.{SectionHeader}
use Rattle.isdb_mmt.specs.declared.table.section.SectionError.TheVariants.{Malformed}
use Rattle.isdb_mmt.specs.declared.table.section.Entry.{Entry}
use Rattle.isdb_mmt.specs.declared.table.eit.Eit.{Eit}
use Rattle.isdb_mmt.specs.declared.table.eit.Event.{Event}
use Rattle.isdb_mmt.specs.Formats.Steps.{EventStep}
use Rattle.isdb_mmt.specs.declared.walk_step.WalkStep.TheVariants.{End, Malformed as broken, Entry as event}

-- TLV stream id 16 bits, original network id 16, segment last section number 8, last table id 8, then events
abbrev pub eit_fields : List ℕ → Loop Entry → Eit
eit_fields s l =
    record {
      tlv_stream_id = be 2 s 0;
      original_network_id = be 2 s 2;
      segment_last_section_number = slice_index s 4;
      last_table_id = slice_index s 5;
      events = length l.found;
    }

-- the events are to end with the body
abbrev pub eit_loop : SectionHeader → List ℕ → Loop Entry → Parsed (SectionHeader × Eit)
eit_loop h s l = parsed (if l.whole then Ok (h, eit_fields s l) else Err Malformed) l.breaks

unfoldable pub eit_body : SectionHeader → List ℕ → Parsed (SectionHeader × Eit)
eit_body h s = if length s <? 6 then parsed (Err Malformed) 0 else eit_loop h s (entries_from s 10 6)

unfoldable pub eit_of : List ℕ → Parsed (SectionHeader × Eit)
eit_of s = in_section (λ e. parsed (Err e) 0) eit_body s (long_section_of s)

-- an event: event id 16 bits, start time 40, duration 24, running status 3, free CA mode 1, descriptors' length 12
abbrev pub event_of : List ℕ → Entry → Event
event_of s e =
    record {
      event_id = be 2 s e.at;
      start = be 5 s (e.at + 2);
      duration = be 3 s (e.at + 7);
      running_status = slice_index s (e.at + 10) / 32;
      free_ca = slice_index s (e.at + 10) / 16 % 2 =? 1;
      descriptors = e.descriptors;
    }

-- what stands at a place of the body
unfoldable pub event_step : List ℕ → ℕ → EventStep
event_step s at = entry_as End broken (λ e. event (event_of s e)) (entry_at s 10 at)

-- the events of a body
unfoldable pub events_of : List ℕ → List Event
events_of s = map (event_of s) (entries_from s 10 6).found
