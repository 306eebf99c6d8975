-- ARIB STD-B60, 6.3.2, Tables 6-1 to 6-3, with ISO/IEC 23008-1: an MPU payload as a conforming sender writes it, and what it
-- means to read it right.
use Rattle.isdb_mmt.specs.declared.mpu.MfuHeader.{MfuHeader}
use Rattle.std.specs.Prelude.{◌≡◌, ℕ, ◌+◌, ◌^◌, ◌<◌, List, [], ◌∷◌, ◌++◌, map, length, drop, replicate, None, Option, Some}
use Rattle.isdb_tlv.specs.Guards.{◌=?◌}
use Rattle.isdb_tlv.specs.Fields.{bytes_of, Field, field, bits, packed, written, Fit}
use Rattle.isdb_tlv.specs.declared.mmtp.Header.{Header}
use Rattle.isdb_mmt.specs.Formats.Mpu.{payload_header, declared_of, units_of}
use Rattle.isdb_mmt.specs.Decoder.Packet.{PayloadUnit, payload_units, MpuPacket, media_of}
use Rattle.isdb_mmt.specs.Standards.StdB60Sections.{All}
use Rattle.isdb_mmt.specs.declared.mpu.FragmentType.{FragmentType}
use Rattle.isdb_mmt.specs.declared.mpu.FragmentType.TheVariants.{MpuMetadata, MovieFragmentMetadata, Mfu}
use Rattle.isdb_mmt.specs.declared.mpu.FragmentationIndicator.{FragmentationIndicator}
use Rattle.isdb_mmt.specs.declared.mpu.FragmentationIndicator.TheVariants.{Complete, Head, Middle, Last}
use Rattle.isdb_mmt.specs.declared.mpu.PayloadHeader.{PayloadHeader}

-- what stands before a unit's data
pub data UnitHeader : Type 0 where
  -- of timed data: movie fragment sequence number, sample number, offset, priority, dependency counter
  timed_header : ℕ → ℕ → ℕ → ℕ → ℕ → UnitHeader
  -- of untimed data: item id
  untimed_header : ℕ → UnitHeader

abbrev pub unit_fields : UnitHeader → List Field
unit_fields (timed_header movie sample offset priority dependency) =
    field 4 movie ∷ field 4 sample ∷ field 4 offset ∷ field 1 priority ∷ field 1 dependency ∷ []
unit_fields (untimed_header item) = field 4 item ∷ []

abbrev pub timed_flag : UnitHeader → ℕ
timed_flag (timed_header movie sample offset priority dependency) = 1
timed_flag (untimed_header item) = 0

pub record SentUnit : Type 0 where
  pub header : UnitHeader
  pub content : List ℕ

abbrev pub unit_sent : SentUnit → List ℕ
unit_sent u = written (unit_fields u.header) ++ u.content

-- aggregated units: each behind its length of 16 bits
abbrev pub unit_with_length : SentUnit → List ℕ
unit_with_length u = written (field 2 (length (unit_sent u)) ∷ []) ++ unit_sent u

abbrev pub units_sent : List SentUnit → List ℕ
units_sent [] = []
units_sent (u ∷ us) = unit_with_length u ++ units_sent us

-- what a payload holds: metadata, whose bytes are not cut, or one unit, or aggregated units
pub data Body : Type 0 where
  mpu_metadata : List ℕ → Body
  movie_fragment_metadata : List ℕ → Body
  one_unit_of : SentUnit → Body
  aggregated : List SentUnit → Body

abbrev pub body_sent : Body → List ℕ
body_sent (mpu_metadata b) = b
body_sent (movie_fragment_metadata b) = b
body_sent (one_unit_of u) = unit_sent u
body_sent (aggregated us) = units_sent us

-- Table 6-2: MPU_fragment_type
abbrev pub type_code : Body → ℕ
type_code (mpu_metadata b) = 0
type_code (movie_fragment_metadata b) = 1
type_code (one_unit_of u) = 2
type_code (aggregated us) = 2

abbrev pub aggregation_flag : Body → ℕ
aggregation_flag (mpu_metadata b) = 0
aggregation_flag (movie_fragment_metadata b) = 0
aggregation_flag (one_unit_of u) = 0
aggregation_flag (aggregated us) = 1

-- Table 6-3: fragmentation_indicator
pub data Division : Type 0 where
  complete : Division
  head : Division
  middle : Division
  last : Division

abbrev pub division_code : Division → ℕ
division_code complete = 0
division_code head = 1
division_code middle = 2
division_code last = 3

pub record SentPayload : Type 0 where
  pub timed : ℕ
  pub division : Division
  pub counter : ℕ
  pub mpu_sequence_number : ℕ
  pub body : Body

-- Table 6-1: fragment type, timed flag, fragmentation indicator, aggregation flag
abbrev pub flag_bits : SentPayload → List Field
flag_bits p =
    bits 4 (type_code p.body) ∷ bits 1 p.timed ∷ bits 2 (division_code p.division) ∷ bits 1 (aggregation_flag p.body) ∷ []

-- payload length, which counts what stands behind it; these bits; fragment counter; MPU sequence number
abbrev pub header_fields : SentPayload → List Field
header_fields p =
    field 2 (length (body_sent p.body) + 6)
    ∷ field 1 (packed (flag_bits p))
    ∷ field 1 p.counter
    ∷ field 4 p.mpu_sequence_number
    ∷ []

unfoldable pub payload_sent : SentPayload → List ℕ
payload_sent p = written (header_fields p) ++ body_sent p.body

-- every value fits its field, and the unit is of the payload's kind of data
pub record UnitConforming (timed : ℕ) (u : SentUnit) : Type 0 where
  pub fields : Fit (unit_fields u.header)
  pub kind : timed_flag u.header ≡ timed

-- aggregated are one unit or more, whatever the fragmentation indicator says; that a unit's length fits its 16 bits follows
-- from the payload's
abbrev pub BodyConforming : ℕ → Body → Type 0
BodyConforming timed (mpu_metadata b) = Unit {0}
BodyConforming timed (movie_fragment_metadata b) = Unit {0}
BodyConforming timed (one_unit_of u) = UnitConforming timed u
BodyConforming timed (aggregated us) = (0 < length us) × All (UnitConforming timed) us

pub record PayloadConforming (p : SentPayload) : Type 0 where
  pub timed : p.timed < 2
  pub counter : p.counter < 2 ^ 8
  pub mpu_sequence_number : p.mpu_sequence_number < 2 ^ 32
  pub body : BodyConforming p.timed p.body
  pub short : length (body_sent p.body) + 6 < 2 ^ 16

-- what is read of each
abbrev pub type_seen : Body → FragmentType
type_seen (mpu_metadata b) = MpuMetadata
type_seen (movie_fragment_metadata b) = MovieFragmentMetadata
type_seen (one_unit_of u) = Mfu
type_seen (aggregated us) = Mfu

abbrev pub division_seen : Division → FragmentationIndicator
division_seen complete = Complete
division_seen head = Head
division_seen middle = Middle
division_seen last = Last

abbrev pub header_seen : SentPayload → PayloadHeader
header_seen p =
    record {
      fragment_type = type_seen p.body;
      timed = p.timed =? 1;
      fragmentation = division_seen p.division;
      aggregated = aggregation_flag p.body =? 1;
      fragment_counter = p.counter;
      mpu_sequence_number = p.mpu_sequence_number;
    }

abbrev pub mfu_seen : UnitHeader → Option MfuHeader
mfu_seen (timed_header movie sample offset priority dependency) =
    Some (record {
      movie_fragment_sequence_number = movie;
      sample_number = sample;
      offset = offset;
      priority = priority;
      dependency_counter = dependency;
    })
mfu_seen (untimed_header item) = None

abbrev pub item_seen : UnitHeader → Option ℕ
item_seen (timed_header movie sample offset priority dependency) = None
item_seen (untimed_header item) = Some item

abbrev pub unit_seen : Division → SentUnit → PayloadUnit
unit_seen d u = record { fragment = division_seen d; mfu = mfu_seen u.header; item_id = item_seen u.header; bytes = u.content }

-- the units of a body; metadata have none
abbrev pub units_in : Body → List SentUnit
units_in (mpu_metadata b) = []
units_in (movie_fragment_metadata b) = []
units_in (one_unit_of u) = u ∷ []
units_in (aggregated us) = us

-- the sent bytes are cut into these units, in order, each with its fields and its data
abbrev pub CutInto : SentPayload → List SentUnit → Type 0
CutInto p us =
    payload_units (header_seen p) (payload_sent p) (units_of (payload_sent p) (header_seen p).timed (header_seen p).aggregated)
    ≡ Some (map (unit_seen p.division) us)

abbrev pub UnitsRead : SentPayload → Body → Type 0
UnitsRead p (mpu_metadata b) = Unit {0}
UnitsRead p (movie_fragment_metadata b) = Unit {0}
UnitsRead p (one_unit_of u) = CutInto p (u ∷ [])
UnitsRead p (aggregated us) = CutInto p us

-- as the decoder has it, in an MMTP packet with the header `h`
abbrev pub media_seen : Header → SentPayload → List ℕ → MpuPacket
media_seen h p behind =
    record {
      id = h.packet_id;
      number = h.sequence;
      rap = h.rap;
      scrambled = h.scramble_info;
      header = Some (header_seen p);
      units = Some (map (unit_seen p.division) (units_in p.body));
      raw = body_sent p.body ++ behind;
    }

-- whatever stands behind the declared bytes
pub record PayloadRead (p : SentPayload) (behind : List ℕ) : Type 0 where
  pub header : payload_header (payload_sent p ++ behind) ≡ Some (header_seen p)
  pub declared : declared_of (payload_sent p ++ behind) ≡ payload_sent p
  pub body : drop 8 (payload_sent p) ≡ body_sent p.body
  pub units : UnitsRead p p.body
  pub media : (h : Header) → media_of h (payload_sent p ++ behind) ≡ media_seen h p behind

-- proved in proofs/StdB60Mpu.antt
abbrev pub PayloadTheorem : Type 0
PayloadTheorem = (p : SentPayload) → PayloadConforming p → (behind : List ℕ) → PayloadRead p behind

-- conforming payloads; their bytes stand as lines `units HEX` in crates/cases/stdin
abbrev pub timed_example : ℕ → List ℕ → SentUnit
timed_example movie b = record { header = timed_header movie 2 3 4 5; content = b }

abbrev pub examples : List SentPayload
examples =
    -- a timed unit
    record { timed = 1; division = complete; counter = 0; mpu_sequence_number = 7; body = one_unit_of (timed_example 1 (0xaa ∷ 0xbb ∷ [])) }
    -- two that are aggregated
    ∷ record {
      timed = 1;
      division = complete;
      counter = 0;
      mpu_sequence_number = 7;
      body = aggregated (timed_example 1 (0x01 ∷ []) ∷ timed_example 2 (0x02 ∷ 0x03 ∷ []) ∷ []);
    }
    -- the first part of an item
    ∷ record {
      timed = 0;
      division = head;
      counter = 1;
      mpu_sequence_number = 7;
      body = one_unit_of (record { header = untimed_header 9; content = 0x01 ∷ [] });
    }
    -- MPU metadata, and movie fragment metadata
    ∷ record { timed = 1; division = complete; counter = 0; mpu_sequence_number = 7; body = mpu_metadata (replicate 20 0x11) }
    ∷ record { timed = 1; division = complete; counter = 0; mpu_sequence_number = 7; body = movie_fragment_metadata (replicate 20 0x11) }
    ∷ []

abbrev pub example_bytes : List (List ℕ)
example_bytes =
    bytes_of 24 0x00162800000000070000000100000002000000030405aabb
    ∷ bytes_of 43 0x0029290000000007000f000000010000000200000003040501001000000002000000020000000304050203
    ∷ bytes_of 13 0x000b2201000000070000000901
    ∷ bytes_of 28 0x001a0800000000071111111111111111111111111111111111111111
    ∷ bytes_of 28 0x001a1800000000071111111111111111111111111111111111111111
    ∷ []

pub record Examples : Type 0 where
  pub conform : All PayloadConforming examples
  pub bytes : map payload_sent examples ≡ example_bytes
