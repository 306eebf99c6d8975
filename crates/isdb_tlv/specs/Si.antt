-- The scan of a control packet's data for sections of TLV-SI: ARIB STD-B60, 5 and Table 4-2 (TLV-NIT and AMT), in the
-- extended section format of ISO/IEC 13818-1, 2.4.4.11.
use Rattle.std.specs.Prelude.{ℕ, ◌+◌, ◌-◌, ◌/◌, ◌%◌, List, [], ◌∷◌, Bool, true, not, length, take, drop, get_or, None, Option, Some}
use Rattle.isdb_tlv.specs.Guards.{◌<?◌, ◌=?◌, ◌≠?◌}
use Rattle.std.specs.Prelude.{if◌then◌else◌}
use Rattle.isdb_tlv.specs.Bytes.{be}
use Rattle.isdb_tlv.specs.Crc.{crc_of}
use Rattle.isdb_tlv.specs.Walk.{Next, stop, more, walk}
use Rattle.isdb_tlv.specs.declared.si.Section.{Section}

-- the tables' ids (Table 4-2): TLV-NIT of this and of another network, AMT
abbrev pub nit_actual_id : ℕ
nit_actual_id = 0x40

abbrev pub nit_other_id : ℕ
nit_other_id = 0x41

abbrev pub amt_id : ℕ
amt_id = 0xFE

unfoldable pub is_tlv_si : ℕ → Bool
is_tlv_si t =
    if t =? nit_actual_id then true
    else if t =? nit_other_id then true
    else t =? amt_id

-- the header's fields, of a section at `i`: table id 8 bits, syntax indicator 1, reserved 3, section length 12, table id
-- extension 16, reserved 2, version 5
abbrev pub table_id_of : List ℕ → ℕ → ℕ
table_id_of s i = get_or s i 0

-- of the whole section: the length field counts what stands behind it
abbrev pub whole_size : List ℕ → ℕ → ℕ
whole_size s i = be 2 s (i + 1) % 4096 + 3

-- the section at `i`: its id is one of TLV-SI, its syntax indicator is set, it has the five bytes of the extended header
-- and a CRC, it ends within the data, and its CRC is good
unfoldable pub section_at : List ℕ → ℕ → Option Section
section_at s i =
    if not (is_tlv_si (table_id_of s i)) then None
    else if get_or s (i + 1) 0 <? 128 then None
    else if whole_size s i <? 12 then None
    else if length s - i <? whole_size s i then None
    else if crc_of (take (whole_size s i) (drop i s)) ≠? 0 then None
    else Some (record {
      offset = i;
      table_id = table_id_of s i;
      extension = be 2 s (i + 3);
      version = get_or s (i + 5) 0 / 2 % 32;
      size = whole_size s i;
    })

-- the scan: a section moves it behind itself, anything else by one byte
abbrev pub found : ℕ → Option Section → Next (List Section)
found i None = more (i + 1) (λ rest. rest)
found i (Some x) = more (i + x.size) (λ rest. x ∷ rest)

abbrev pub scan_at : List ℕ → ℕ → Next (List Section)
scan_at s i = if length s - i <? 3 then stop [] else found i (section_at s i)

-- the sections from a place on
unfoldable pub sections_from : List ℕ → ℕ → List Section
sections_from s at = walk (scan_at s) [] (length s) at

unfoldable pub sections_of : List ℕ → List Section
sections_of s = sections_from s 0

-- the first of them
abbrev pub first : List Section → Option Section
first [] = None
first (x ∷ l) = Some x

unfoldable pub next_section_of : List ℕ → ℕ → Option Section
next_section_of s at = first (sections_from s at)

-- a step from section to section: the one that was found, and those behind it
abbrev pub onward : List ℕ → Option Section → List Section
onward s None = []
onward s (Some x) = x ∷ sections_from s (x.offset + x.size)
