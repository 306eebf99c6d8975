-- ARIB STD-B60, 5: the data of a control packet as a conforming sender writes it, sections of TLV-SI one behind the other, and
-- what it means to find them.
use Rattle.std.specs.Prelude.{◌≡◌, ℕ, ◌+◌, ◌^◌, ◌<◌, List, [], ◌∷◌, ◌++◌, map, length, take, drop, Some}
use Rattle.isdb_tlv.specs.Si.{sections_from, sections_of, next_section_of}
use Rattle.isdb_tlv.specs.declared.si.Section.{Section}
use Rattle.isdb_mmt.specs.Standards.StdB60.{Header, HeaderConforming, section_sent}
use Rattle.isdb_mmt.specs.Standards.StdB60Sections.{All}

-- Table 4-2: the tables of TLV-SI and their ids
pub data Table : Type 0 where
  -- TLV-NIT, of this network and of another
  nit_actual : Table
  nit_other : Table
  amt : Table

abbrev pub table_code : Table → ℕ
table_code nit_actual = 0x40
table_code nit_other = 0x41
table_code amt = 0xFE

-- a section: its table, the header, which has the table's id, and what stands between the header and the CRC
pub record SentSection : Type 0 where
  pub table : Table
  pub header : Header
  pub body : List ℕ

abbrev pub bytes_sent : SentSection → List ℕ
bytes_sent x = section_sent x.header x.body

-- the section length is at most 4,095
pub record SectionConforming (x : SentSection) : Type 0 where
  pub table : x.header.table_id ≡ table_code x.table
  pub header : HeaderConforming x.header
  pub short : length x.body + 9 < 2 ^ 12

abbrev pub control_sent : List SentSection → List ℕ
control_sent [] = []
control_sent (x ∷ xs) = bytes_sent x ++ control_sent xs

-- of a section that stands at `at`
abbrev pub section_seen : ℕ → SentSection → Section
section_seen at x =
    record {
      offset = at;
      table_id = table_code x.table;
      extension = x.header.extension;
      version = x.header.version;
      size = length (bytes_sent x);
    }

-- of sections one behind the other
abbrev pub sections_seen : ℕ → List SentSection → List Section
sections_seen at [] = []
sections_seen at (x ∷ xs) = section_seen at x ∷ sections_seen (at + length (bytes_sent x)) xs

-- the bytes of a section that was found in `s`
abbrev pub bytes_in : List ℕ → Section → List ℕ
bytes_in s x = take x.size (drop x.offset s)

-- a section is found where it stands, whatever stands before and behind it, and the search goes on behind it
pub record SectionFound (a : List ℕ) (x : SentSection) (r : List ℕ) : Type 0 where
  pub found : next_section_of (a ++ (bytes_sent x ++ r)) (length a) ≡ Some (section_seen (length a) x)
  pub bytes : bytes_in (a ++ (bytes_sent x ++ r)) (section_seen (length a) x) ≡ bytes_sent x
  pub rest : sections_from (a ++ (bytes_sent x ++ r)) (length a)
      ≡ section_seen (length a) x ∷ sections_from (a ++ (bytes_sent x ++ r)) (length a + length (bytes_sent x))

-- the sender's sections are found, in order, no other, and each with its bytes
pub record ControlRead (xs : List SentSection) : Type 0 where
  pub found : sections_of (control_sent xs) ≡ sections_seen 0 xs
  pub bytes : map (bytes_in (control_sent xs)) (sections_of (control_sent xs)) ≡ map bytes_sent xs

-- proved in proofs/StdB60Scan.antt
abbrev pub SectionTheorem : Type 0
SectionTheorem = (x : SentSection) → SectionConforming x → (a r : List ℕ) → SectionFound a x r

abbrev pub ControlTheorem : Type 0
ControlTheorem = (xs : List SentSection) → All SectionConforming xs → ControlRead xs

-- three sections, a TLV-NIT of each kind and an AMT without services: a line `sections` of the program cases has their bytes
abbrev pub examples : List SentSection
examples =
    record {
      table = nit_actual;
      header = record { table_id = 0x40; reserved = 7; extension = 4; reserved2 = 3; version = 3; current = 1; number = 0; last = 0 };
      body = 0xF0 ∷ 0x00 ∷ 0xF0 ∷ 0x00 ∷ [];
    }
    ∷ record {
      table = nit_other;
      header = record { table_id = 0x41; reserved = 7; extension = 7; reserved2 = 3; version = 31; current = 1; number = 0; last = 0 };
      body = 0xF0 ∷ 0x00 ∷ 0xF0 ∷ 0x00 ∷ [];
    }
    ∷ record {
      table = amt;
      header = record { table_id = 0xFE; reserved = 7; extension = 0; reserved2 = 3; version = 0; current = 1; number = 0; last = 0 };
      body = 0x00 ∷ 0x00 ∷ [];
    }
    ∷ []

abbrev pub example_bytes : List (List ℕ)
example_bytes =
    (0x40 ∷ 0xF0 ∷ 0x0D ∷ 0x00 ∷ 0x04 ∷ 0xC7 ∷ 0x00 ∷ 0x00 ∷ 0xF0 ∷ 0x00 ∷ 0xF0 ∷ 0x00 ∷ 0xAD ∷ 0x50 ∷ 0x5B ∷ 0x86 ∷ [])
    ∷ (0x41 ∷ 0xF0 ∷ 0x0D ∷ 0x00 ∷ 0x07 ∷ 0xFF ∷ 0x00 ∷ 0x00 ∷ 0xF0 ∷ 0x00 ∷ 0xF0 ∷ 0x00 ∷ 0x1B ∷ 0x2B ∷ 0xA3 ∷ 0xDB ∷ [])
    ∷ (0xFE ∷ 0xF0 ∷ 0x0B ∷ 0x00 ∷ 0x00 ∷ 0xC1 ∷ 0x00 ∷ 0x00 ∷ 0x00 ∷ 0x00 ∷ 0xC8 ∷ 0x5C ∷ 0xAB ∷ 0x2C ∷ [])
    ∷ []

pub record Examples : Type 0 where
  pub conform : All SectionConforming examples
  pub bytes : map bytes_sent examples ≡ example_bytes
