-- The long-form section (ARIB STD-B60, 7.2.3.2; ISO/IEC 13818-1, 2.4.4.11) and the loops of entries in it.
use Rattle.isdb_mmt.specs.declared.table.section.Parsed.{Parsed}
use Rattle.std.specs.Prelude.{ℕ, ◌+◌, ◌-◌, ◌/◌, ◌%◌, true, false, List, length, take, slice_index, Err, Ok, Result}
use Rattle.isdb_tlv.specs.Guards.{◌<?◌, ◌≤?◌, ◌=?◌, ◌≠?◌}
use Rattle.std.specs.Prelude.{if◌then◌else◌}
use Rattle.isdb_tlv.specs.Bytes.{be}
use Rattle.isdb_tlv.specs.Crc.{crc_of}
use Rattle.isdb_tlv.specs.Walk.{Next, stop, more, walk}
use Rattle.isdb_mmt.specs.Formats.Part.{part_at, part_of}
use Rattle.isdb_mmt.specs.Formats.Desc.{Loop, ended, also_described}
use Rattle.isdb_mmt.specs.declared.table.section.SectionHeader.{SectionHeader}
use Rattle.isdb_mmt.specs.declared.table.section.SectionError.{SectionError}
use Rattle.isdb_mmt.specs.declared.table.section.SectionError.TheVariants.{Truncated, Crc}
use Rattle.isdb_mmt.specs.declared.table.section.Entry.{Entry}
use Rattle.isdb_mmt.specs.Formats.Steps.{EntryStep}
use Rattle.isdb_mmt.specs.declared.walk_step.WalkStep.TheVariants.{End, Malformed as malformed, Entry as entry}
use Rattle.isdb_mmt.specs.declared.table.section.Entries.{Entries}

-- a length of 12 bits, in the low bits of two bytes
abbrev pub length12 : List ℕ → ℕ → ℕ
length12 s at = be 2 s at % 4096

-- table id 8 bits, syntax indicator 1, reserved 3, section length 12, table id extension 16, reserved 2, version 5, current
-- next indicator 1, section number 8, last section number 8, then a body of `n` bytes
abbrev pub header_of : List ℕ → ℕ → SectionHeader
header_of s n =
    record {
      table_id = slice_index s 0;
      extension = be 2 s 3;
      version = slice_index s 5 / 2 % 32;
      current = slice_index s 5 % 2 =? 1;
      section_number = slice_index s 6;
      last_section_number = slice_index s 7;
      body = part_at 8 n;
    }

-- the section length counts what stands behind it: five bytes of header at least, and a CRC over all. The body is what is
-- between.
unfoldable pub long_section_of : List ℕ → Result SectionHeader SectionError
long_section_of s =
    if length s <? 3 then Err Truncated
    else if length12 s 1 <? 9 then Err Truncated
    else if length s <? length12 s 1 + 3 then Err Truncated
    else if crc_of (take (length12 s 1 + 3) s) ≠? 0 then Err Crc
    else Ok (header_of s (length12 s 1 - 9))

-- what a table's section gives, and how many descriptor loops broke on the way
abbrev pub parsed : {T : Type 0} → Result T SectionError → ℕ → Parsed T
parsed r n = record { result = r; breaks = n }

-- what a table's body is read as, or that there is no section
abbrev pub in_section : {R : Type 0} → (SectionError → R) → (SectionHeader → List ℕ → R) → List ℕ → Result SectionHeader SectionError → R
in_section refused read s (Err e) = refused e
in_section refused read s (Ok h) = read h (part_of s h.body)

-- an entry at `at`: `k` bytes of fields, a length of 12 bits, and so many bytes of descriptors
unfoldable pub entry_at : List ℕ → ℕ → ℕ → EntryStep
entry_at s k at =
    if length s ≤? at then End
    else if length s - at <? k + 2 then malformed
    else if length s - (at + k + 2) <? length12 s (at + k) then malformed
    else entry (record { at = at; descriptors = part_at (at + k + 2) (length12 s (at + k)) }) (at + k + 2 + length12 s (at + k))

-- what a table makes of it
abbrev pub entry_as : {R : Type 0} → R → R → (Entry → ℕ → R) → EntryStep → R
entry_as end broken found End = end
entry_as end broken found malformed = broken
entry_as end broken found (entry e next) = found e next

-- the entries from a place on, which are to end with the bytes
abbrev pub entry_item : List ℕ → EntryStep → Next (Loop Entry)
entry_item s End = stop (ended true)
entry_item s malformed = stop (ended false)
entry_item s (entry e next) = more next (also_described s e.descriptors e)

unfoldable pub entries_from : List ℕ → ℕ → ℕ → Loop Entry
entries_from s k at = walk (λ p. entry_item s (entry_at s k p)) (ended true) (length s) at

unfoldable pub entries_told : Loop Entry → Entries
entries_told l = record { count = length l.found; breaks = l.breaks; whole = l.whole }
