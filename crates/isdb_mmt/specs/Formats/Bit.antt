-- MH-BIT: ARIB STD-B60, Table 7-21.
use Rattle.isdb_mmt.specs.declared.table.section.Parsed.{Parsed}
use Rattle.std.specs.Prelude.{ℕ, ◌+◌, ◌/◌, ◌%◌, List, map, length, take, drop, slice_index, Err, Ok}
use Rattle.isdb_tlv.specs.Guards.{◌<?◌, ◌=?◌}
use Rattle.std.specs.Prelude.{if◌then◌else◌}
use Rattle.isdb_mmt.specs.Formats.Part.{part_at}
use Rattle.isdb_mmt.specs.Formats.Desc.{broken, Loop}
use Rattle.isdb_mmt.specs.Formats.Section.{length12, long_section_of, in_section, entry_at, entry_as, entries_from, parsed}
use Rattle.isdb_mmt.specs.declared.table.section.SectionHeader.{SectionHeader}
use Rattle.isdb_mmt.specs.declared.table.section.SectionError.TheVariants.{Malformed}
use Rattle.isdb_mmt.specs.declared.table.section.Entry.{Entry}
use Rattle.isdb_mmt.specs.declared.table.bit.Bit.{Bit}
use Rattle.isdb_mmt.specs.declared.table.bit.Broadcaster.{Broadcaster}
use Rattle.isdb_mmt.specs.Formats.Steps.{BroadcasterStep}
use Rattle.isdb_mmt.specs.declared.walk_step.WalkStep.TheVariants.{End, Malformed as not_whole, Entry as broadcaster}

-- reserved 3 bits, broadcast view propriety 1, length of the first descriptor loop 12, that loop, then broadcasters, which
-- are to end with the body
abbrev pub bit_fields : List ℕ → Loop Entry → Bit
bit_fields s l =
    record {
      broadcast_view_propriety = slice_index s 0 / 16 % 2 =? 1;
      descriptors = part_at 2 (length12 s 0);
      broadcasters = length l.found;
    }

abbrev pub bit_loop : SectionHeader → List ℕ → Loop Entry → Parsed (SectionHeader × Bit)
bit_loop h s l =
    parsed (if l.whole then Ok (h, bit_fields s l) else Err Malformed) (broken (take (length12 s 0) (drop 2 s)) + l.breaks)

unfoldable pub bit_body : SectionHeader → List ℕ → Parsed (SectionHeader × Bit)
bit_body h s =
    if length s <? 2 then parsed (Err Malformed) 0
    else if length s <? length12 s 0 + 2 then parsed (Err Malformed) 0
    else bit_loop h s (entries_from s 1 (length12 s 0 + 2))

unfoldable pub bit_of : List ℕ → Parsed (SectionHeader × Bit)
bit_of s = in_section (λ e. parsed (Err e) 0) bit_body s (long_section_of s)

-- a broadcaster: id 8 bits, reserved 4, descriptors' length 12
abbrev pub broadcaster_of : List ℕ → Entry → Broadcaster
broadcaster_of s e = record { broadcaster_id = slice_index s e.at; descriptors = e.descriptors }

-- what stands at a place of the body
unfoldable pub broadcaster_step : List ℕ → ℕ → BroadcasterStep
broadcaster_step s at = entry_as End not_whole (λ e. broadcaster (broadcaster_of s e)) (entry_at s 1 at)

-- the broadcasters of a body
unfoldable pub broadcasters_of : List ℕ → List Broadcaster
broadcasters_of s = map (broadcaster_of s) (entries_from s 1 (length12 s 0 + 2)).found
