-- ARIB STD-B60: what its tables share, as a conforming sender writes it: descriptor loops (7.4, Table 4-10), locations
-- (Table 7-9) and sections (7.2.3.2); and what it means to read them right.
use Rattle.std.specs.Prelude.{◌≡◌, ℕ, ◌+◌, ◌^◌, ◌<◌, ◌&&◌, List, [], ◌∷◌, ◌++◌, map, length, drop, Ok, Some, None}
use Rattle.isdb_tlv.specs.Guards.{◌=?◌, ◌≤?◌}
use Rattle.std.specs.Prelude.{if◌then◌else◌}
use Rattle.isdb_tlv.specs.Crc.{crc_of}
use Rattle.isdb_tlv.specs.Fields.{bytes_of, Field, field, bits, packed, written}
use Rattle.isdb_mmt.specs.Formats.Part.{part_at, part_of}
use Rattle.isdb_mmt.specs.Formats.Desc.{RawDescriptor, split_of}
use Rattle.isdb_mmt.specs.Formats.Location.{location_of}
use Rattle.isdb_mmt.specs.Formats.Section.{long_section_of}
use Rattle.isdb_mmt.specs.declared.location.Location.{Location}
use Rattle.isdb_mmt.specs.declared.location.Location.TheVariants.{SameFlow, Ipv4, Ipv6, Mpeg2Ts, Mpeg2TsIpv6, Url}
use Rattle.isdb_mmt.specs.declared.table.section.SectionHeader.{SectionHeader}

-- 7.4: the width of a descriptor's length field, in bytes, by its tag: the tags from `first` to `last`
pub record TagRange : Type 0 where
  pub first : ℕ
  pub last : ℕ
  pub width : ℕ

abbrev pub tag_table : List TagRange
tag_table =
    record { first = 0x0000; last = 0x0001; width = 1 }
    ∷ record { first = 0x0002; last = 0x0002; width = 2 }
    ∷ record { first = 0x0003; last = 0x3FFF; width = 1 }
    ∷ record { first = 0x4000; last = 0x6FFF; width = 2 }
    ∷ record { first = 0x7000; last = 0x7FFF; width = 4 }
    ∷ record { first = 0x8000; last = 0xEFFF; width = 1 }
    ∷ record { first = 0xF000; last = 0xFFFF; width = 2 }
    ∷ []

-- of the line that the tag is in; no bytes where it is in none
abbrev pub width_in : List TagRange → ℕ → ℕ
width_in [] tag = 0
width_in (r ∷ rs) tag = if (r.first ≤? tag) && (tag ≤? r.last) then r.width else width_in rs tag

unfoldable pub width_of : ℕ → ℕ
width_of tag = width_in tag_table tag

-- a descriptor is a tag of 16 bits, a length whose width goes by the tag, and so many bytes
pub record Descriptor : Type 0 where
  pub tag : ℕ
  pub content : List ℕ

abbrev pub descriptor_sent : Descriptor → List ℕ
descriptor_sent d = written (field 2 d.tag ∷ field (width_of d.tag) (length d.content) ∷ []) ++ d.content

abbrev pub loop_sent : List Descriptor → List ℕ
loop_sent [] = []
loop_sent (d ∷ ds) = descriptor_sent d ++ loop_sent ds

pub record DescriptorConforming (d : Descriptor) : Type 0 where
  pub tag : d.tag < 2 ^ 16
  pub short : length d.content < 256 ^ width_of d.tag

abbrev pub LoopConforming : List Descriptor → Type 0
LoopConforming [] = Unit {0}
LoopConforming (d ∷ ds) = DescriptorConforming d × LoopConforming ds

abbrev pub descriptor_in : List ℕ → RawDescriptor → Descriptor
descriptor_in s r = record { tag = r.tag; content = part_of s r.body }

-- the sender's descriptors are found, and nothing breaks
pub record LoopRead (ds : List Descriptor) : Type 0 where
  pub found : map (descriptor_in (loop_sent ds)) (split_of (loop_sent ds)).found ≡ ds
  pub whole : (split_of (loop_sent ds)).broke ≡ None

-- Table 7-9: MMT_general_location_info
pub data SentLocation : Type 0 where
  -- packet id
  same_flow : ℕ → SentLocation
  -- IPv4 source and destination, destination port, packet id
  ipv4 : ℕ → ℕ → ℕ → ℕ → SentLocation
  -- IPv6 source and destination in halves, destination port, packet id
  ipv6 : ℕ → ℕ → ℕ → ℕ → ℕ → ℕ → SentLocation
  -- network id, MPEG-2 transport stream id, reserved bits with the PID
  mpeg2_ts : ℕ → ℕ → ℕ → SentLocation
  -- IPv6 source and destination in halves, destination port, reserved bits with the PID
  mpeg2_ts_ipv6 : ℕ → ℕ → ℕ → ℕ → ℕ → ℕ → SentLocation
  -- the bytes of a URL
  url : List ℕ → SentLocation

abbrev pub location_fields : SentLocation → List Field
location_fields (same_flow id) = field 1 0x00 ∷ field 2 id ∷ []
location_fields (ipv4 src dst port id) = field 1 0x01 ∷ field 4 src ∷ field 4 dst ∷ field 2 port ∷ field 2 id ∷ []
location_fields (ipv6 sh sl dh dl port id) =
    field 1 0x02 ∷ field 8 sh ∷ field 8 sl ∷ field 8 dh ∷ field 8 dl ∷ field 2 port ∷ field 2 id ∷ []
location_fields (mpeg2_ts network ts pid) = field 1 0x03 ∷ field 2 network ∷ field 2 ts ∷ field 2 pid ∷ []
location_fields (mpeg2_ts_ipv6 sh sl dh dl port pid) =
    field 1 0x04 ∷ field 8 sh ∷ field 8 sl ∷ field 8 dh ∷ field 8 dl ∷ field 2 port ∷ field 2 pid ∷ []
location_fields (url b) = field 1 0x05 ∷ field 1 (length b) ∷ []

-- only a URL has bytes behind its fields
abbrev pub location_bytes : SentLocation → List ℕ
location_bytes (same_flow id) = []
location_bytes (ipv4 src dst port id) = []
location_bytes (ipv6 sh sl dh dl port id) = []
location_bytes (mpeg2_ts network ts pid) = []
location_bytes (mpeg2_ts_ipv6 sh sl dh dl port pid) = []
location_bytes (url b) = b

abbrev pub location_sent : SentLocation → List ℕ
location_sent p = written (location_fields p) ++ location_bytes p

-- every value fits its field
abbrev pub LocationConforming : SentLocation → Type 0
LocationConforming (same_flow id) = id < 2 ^ 16
LocationConforming (ipv4 src dst port id) = (src < 2 ^ 32) × (dst < 2 ^ 32) × (port < 2 ^ 16) × (id < 2 ^ 16)
LocationConforming (ipv6 sh sl dh dl port id) =
    (sh < 2 ^ 64) × (sl < 2 ^ 64) × (dh < 2 ^ 64) × (dl < 2 ^ 64) × (port < 2 ^ 16) × (id < 2 ^ 16)
LocationConforming (mpeg2_ts network ts pid) = (network < 2 ^ 16) × (ts < 2 ^ 16) × (pid < 2 ^ 16)
LocationConforming (mpeg2_ts_ipv6 sh sl dh dl port pid) =
    (sh < 2 ^ 64) × (sl < 2 ^ 64) × (dh < 2 ^ 64) × (dl < 2 ^ 64) × (port < 2 ^ 16) × (pid < 2 ^ 16)
LocationConforming (url b) = length b < 2 ^ 8

-- what is read of each
abbrev pub location_seen : SentLocation → Location
location_seen (same_flow id) = SameFlow id
location_seen (ipv4 src dst port id) = Ipv4 src dst port id
location_seen (ipv6 sh sl dh dl port id) = Ipv6 sh sl dh dl port id
location_seen (mpeg2_ts network ts pid) = Mpeg2Ts network ts pid
location_seen (mpeg2_ts_ipv6 sh sl dh dl port pid) = Mpeg2TsIpv6 port pid
location_seen (url b) = Url (part_at 2 (length b))

-- whatever follows it
pub record LocationRead (p : SentLocation) (r : List ℕ) : Type 0 where
  pub location : location_of (location_sent p ++ r) ≡ Some (location_seen p, length (location_sent p))
  pub rest : drop (length (location_sent p)) (location_sent p ++ r) ≡ r

-- 7.2.3.2: the header of a section of the extended form; reserved bits as the sender likes
pub record Header : Type 0 where
  pub table_id : ℕ
  pub reserved : ℕ
  pub extension : ℕ
  pub reserved2 : ℕ
  pub version : ℕ
  pub current : ℕ
  pub number : ℕ
  pub last : ℕ

-- table id, syntax indicator 1, reserved, section length, table id extension, reserved, version, current next indicator,
-- section number, last section number; the length counts what stands behind it, the CRC included
abbrev pub section_header_fields : Header → ℕ → List Field
section_header_fields h n =
    field 1 h.table_id
    ∷ field 2 (packed (bits 1 1 ∷ bits 3 h.reserved ∷ bits 12 (n + 9) ∷ []))
    ∷ field 2 h.extension
    ∷ field 1 (packed (bits 2 h.reserved2 ∷ bits 5 h.version ∷ bits 1 h.current ∷ []))
    ∷ field 1 h.number
    ∷ field 1 h.last
    ∷ []

-- the CRC of ISO/IEC 13818-1 over all before it
abbrev pub with_crc : List ℕ → List ℕ
with_crc m = m ++ bytes_of 4 (crc_of m)

unfoldable pub section_sent : Header → List ℕ → List ℕ
section_sent h body = with_crc (written (section_header_fields h (length body)) ++ body)

pub record HeaderConforming (h : Header) : Type 0 where
  pub table_id : h.table_id < 2 ^ 8
  pub reserved : h.reserved < 2 ^ 3
  pub extension : h.extension < 2 ^ 16
  pub reserved2 : h.reserved2 < 2 ^ 2
  pub version : h.version < 2 ^ 5
  pub current : h.current < 2
  pub number : h.number < 2 ^ 8
  pub last : h.last < 2 ^ 8

-- with a body of `n` bytes behind it
abbrev pub header_seen : Header → ℕ → SectionHeader
header_seen h n =
    record {
      table_id = h.table_id;
      extension = h.extension;
      version = h.version;
      current = h.current =? 1;
      section_number = h.number;
      last_section_number = h.last;
      body = part_at 8 n;
    }

pub record SectionRead (h : Header) (body : List ℕ) : Type 0 where
  pub header : long_section_of (section_sent h body) ≡ Ok (header_seen h (length body))
  pub content : part_of (section_sent h body) (header_seen h (length body)).body ≡ body

-- proved in proofs/StdB60.antt
abbrev pub LoopTheorem : Type 0
LoopTheorem = (ds : List Descriptor) → LoopConforming ds → LoopRead ds

abbrev pub LocationTheorem : Type 0
LocationTheorem = (p : SentLocation) → LocationConforming p → (r : List ℕ) → LocationRead p r

abbrev pub SectionTheorem : Type 0
SectionTheorem = (h : Header) → HeaderConforming h → (body : List ℕ) → length body + 9 < 2 ^ 12 → SectionRead h body
