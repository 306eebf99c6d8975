-- MH-TOT: ARIB STD-B60, Table 7-25.
use Rattle.isdb_mmt.specs.declared.table.section.Parsed.{Parsed}
use Rattle.isdb_mmt.specs.declared.table.tot.Tot.{Tot}
use Rattle.std.specs.Prelude.{ℕ, ◌+◌, List, length, take, Err, Ok}
use Rattle.isdb_tlv.specs.Guards.{◌<?◌, ◌≠?◌}
use Rattle.std.specs.Prelude.{if◌then◌else◌}
use Rattle.isdb_tlv.specs.Bytes.{be}
use Rattle.isdb_tlv.specs.Crc.{crc_of}
use Rattle.isdb_mmt.specs.Formats.Part.{part_at, part_of}
use Rattle.isdb_mmt.specs.Formats.Desc.{broken}
use Rattle.isdb_mmt.specs.Formats.Section.{length12, parsed}
use Rattle.isdb_mmt.specs.declared.table.section.SectionError.TheVariants.{Truncated, Crc, Malformed}

-- table id 8 bits, syntax indicator 1, reserved 3, section length 12, JST time 40, reserved 4, descriptors' length 12, those,
-- CRC 32. The descriptors are taken out of the whole section, so that a length that is too long takes in bytes of the CRC.
abbrev pub tot_fields_in : List ℕ → Parsed Tot
tot_fields_in s =
    if length s <? length12 s 8 + 10 then parsed (Err Malformed) 0
    else parsed (Ok (record { jst = be 5 s 3; descriptors = part_at 10 (length12 s 8) })) (broken (part_of s (part_at 10 (length12 s 8))))

unfoldable pub tot_fields : List ℕ → ℕ → Parsed Tot
tot_fields s n = tot_fields_in (take n s)

unfoldable pub tot_of : List ℕ → Parsed Tot
tot_of s =
    if length s <? 3 then parsed (Err Truncated) 0
    else if length12 s 1 <? 11 then parsed (Err Truncated) 0
    else if length s <? length12 s 1 + 3 then parsed (Err Truncated) 0
    else if crc_of (take (length12 s 1 + 3) s) ≠? 0 then parsed (Err Crc) 0
    else tot_fields s (length12 s 1 + 3)
