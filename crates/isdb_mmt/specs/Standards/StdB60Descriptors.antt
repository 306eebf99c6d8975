-- ARIB STD-B60, 7.4.3: descriptors with their bodies as a conforming sender writes them, the bytes of locations' URLs (Table 7-9), and
-- what it means to read them right.
use Rattle.std.specs.Prelude.{◌≡◌, ℕ, ◌^◌, ◌<◌, true, List, [], ◌∷◌, ◌++◌, map, length, None, Some, Option}
use Rattle.isdb_tlv.specs.Guards.{◌≤?◌, ◌=?◌}
use Rattle.std.specs.Prelude.{if◌then◌else◌}
use Rattle.isdb_tlv.specs.Fields.{Field, field, bits, packed, written, Fit}
use Rattle.isdb_mmt.specs.Formats.Desc.{descriptor_of}
use Rattle.isdb_mmt.specs.Standards.StdB60.{Descriptor, loop_sent, LoopConforming, SentLocation, location_sent, location_bytes, LocationConforming, location_seen, url, same_flow}
use Rattle.isdb_mmt.specs.Standards.StdB60Sections.{All}
use Rattle.isdb_mmt.specs.WholeValues.Steps.{counted}
use Rattle.isdb_mmt.specs.WholeValues.WholeDescriptors.{WholeLocation, MpuTime, WholeMpu, WholeExtended, Listed, Genre, Value, value_in, WholeDescriptor, loop_in, location_seen as location_stood}
use Rattle.isdb_mmt.specs.WholeValues.WholeDescriptors.{mpu_timestamp, extended_timestamp, access_control, scrambler, stream_identifier, service_names, service_list_of, short_event_of, content, hevc, broadcaster_name}
use Rattle.isdb_mmt.specs.declared.timestamp.AccessUnit.{AccessUnit}

-- entries one behind another
abbrev pub rows_sent : {A : Type 0} → (A → List ℕ) → List A → List ℕ
rows_sent sends [] = []
rows_sent sends (x ∷ xs) = sends x ++ rows_sent sends xs

-- 7.4.3.5, MPU timestamp: entries of an MPU sequence number, 32 bits, and a presentation time, 64
pub record SentTime : Type 0 where
  pub sequence_number : ℕ
  pub presentation_time : ℕ

abbrev pub time_fields : SentTime → List Field
time_fields t = field 4 t.sequence_number ∷ field 8 t.presentation_time ∷ []

abbrev pub time_sent : SentTime → List ℕ
time_sent t = written (time_fields t)

abbrev pub TimeConforming : SentTime → Type 0
TimeConforming t = (t.sequence_number < 2 ^ 32) × (t.presentation_time < 2 ^ 64)

abbrev pub time_seen : SentTime → MpuTime
time_seen t = record { sequence_number = t.sequence_number; presentation_time = t.presentation_time }

-- 7.4.3.16, MH-service list: entries of a service id, 16 bits, and a service type, 8
pub record SentListed : Type 0 where
  pub service_id : ℕ
  pub service_type : ℕ

abbrev pub listed_fields : SentListed → List Field
listed_fields x = field 2 x.service_id ∷ field 1 x.service_type ∷ []

abbrev pub listed_sent : SentListed → List ℕ
listed_sent x = written (listed_fields x)

abbrev pub ListedConforming : SentListed → Type 0
ListedConforming x = (x.service_id < 2 ^ 16) × (x.service_type < 2 ^ 8)

abbrev pub listed_seen : SentListed → Listed
listed_seen x = record { service_id = x.service_id; service_type = x.service_type }

-- 7.4.3.21, MH-content: entries of two levels of genre, 4 bits each, and a byte of the broadcaster's
pub record SentGenre : Type 0 where
  pub level1 : ℕ
  pub level2 : ℕ
  pub user : ℕ

abbrev pub genre_fields : SentGenre → List Field
genre_fields x = field 1 (packed (bits 4 x.level1 ∷ bits 4 x.level2 ∷ [])) ∷ field 1 x.user ∷ []

abbrev pub genre_sent : SentGenre → List ℕ
genre_sent x = written (genre_fields x)

abbrev pub GenreConforming : SentGenre → Type 0
GenreConforming x = (x.level1 < 2 ^ 4) × (x.level2 < 2 ^ 4) × (x.user < 2 ^ 8)

abbrev pub genre_seen : SentGenre → Genre
genre_seen x = record { level1 = x.level1; level2 = x.level2; user = x.user }

-- 7.4.3.13, HEVC video: profile space 2 bits, tier 1, profile 5, compatibility flags 32, four flags and 44 reserved bits, level 8;
-- then flags and temporal layers, which no reading uses
pub record SentHevc : Type 0 where
  pub profile_space : ℕ
  pub tier : ℕ
  pub profile : ℕ
  pub compatibility : ℕ
  pub flags : ℕ
  pub reserved : ℕ
  pub level : ℕ
  pub behind : List ℕ

abbrev pub hevc_fields : SentHevc → List Field
hevc_fields x =
    field 1 (packed (bits 2 x.profile_space ∷ bits 1 x.tier ∷ bits 5 x.profile ∷ []))
    ∷ field 4 x.compatibility
    ∷ field 6 (packed (bits 4 x.flags ∷ bits 44 x.reserved ∷ []))
    ∷ field 1 x.level
    ∷ []

pub record HevcConforming (x : SentHevc) : Type 0 where
  pub profile_space : x.profile_space < 2 ^ 2
  pub tier : x.tier < 2
  pub profile : x.profile < 2 ^ 5
  pub compatibility : x.compatibility < 2 ^ 32
  pub flags : x.flags < 2 ^ 4
  pub reserved : x.reserved < 2 ^ 44
  pub level : x.level < 2 ^ 8

-- 7.4.3.35, MPU extended timestamp: what it says of the PTS offsets of access units, with the code of pts_offset_type
pub data PtsOffsets : Type 0 where
  -- 0: nothing
  unsaid : PtsOffsets
  -- 1: the same for each
  same : ℕ → PtsOffsets
  -- 2: each has its own
  own : PtsOffsets

abbrev pub offset_type : PtsOffsets → ℕ
offset_type unsaid = 0
offset_type (same d) = 1
offset_type own = 2

abbrev pub offset_fields : PtsOffsets → List Field
offset_fields unsaid = []
offset_fields (same d) = field 2 d ∷ []
offset_fields own = []

-- an access unit; its PTS offset is sent where each has its own
pub record SentAccessUnit : Type 0 where
  pub dts_pts_offset : ℕ
  pub pts_offset : ℕ

abbrev pub access_unit_fields : PtsOffsets → SentAccessUnit → List Field
access_unit_fields unsaid u = field 2 u.dts_pts_offset ∷ []
access_unit_fields (same d) u = field 2 u.dts_pts_offset ∷ []
access_unit_fields own u = field 2 u.dts_pts_offset ∷ field 2 u.pts_offset ∷ []

abbrev pub access_unit_sent : PtsOffsets → SentAccessUnit → List ℕ
access_unit_sent o u = written (access_unit_fields o u)

-- an MPU: sequence number 32 bits, leap indicator 2, reserved 6, decoding time offset 16, number of access units 8, those
pub record SentMpu : Type 0 where
  pub sequence_number : ℕ
  pub leap_indicator : ℕ
  pub reserved : ℕ
  pub decoding_time_offset : ℕ
  pub units : List SentAccessUnit

abbrev pub mpu_fields : SentMpu → List Field
mpu_fields m =
    field 4 m.sequence_number
    ∷ field 1 (packed (bits 2 m.leap_indicator ∷ bits 6 m.reserved ∷ []))
    ∷ field 2 m.decoding_time_offset
    ∷ field 1 (length m.units)
    ∷ []

abbrev pub mpu_sent : PtsOffsets → SentMpu → List ℕ
mpu_sent o m = written (mpu_fields m) ++ rows_sent (access_unit_sent o) m.units

pub record MpuConforming (o : PtsOffsets) (m : SentMpu) : Type 0 where
  pub sequence_number : m.sequence_number < 2 ^ 32
  pub leap_indicator : m.leap_indicator < 2 ^ 2
  pub reserved : m.reserved < 2 ^ 6
  pub decoding_time_offset : m.decoding_time_offset < 2 ^ 16
  pub few : length m.units < 2 ^ 8
  pub units : All (λ u. Fit (access_unit_fields o u)) m.units

-- reserved 5 bits, pts_offset_type 2, timescale_flag 1, a timescale of 32 bits where flagged, a PTS offset of 16 bits for each
-- access unit where the type says so, and MPUs
pub record SentExtended : Type 0 where
  pub reserved : ℕ
  pub timescale : Option ℕ
  pub offsets : PtsOffsets
  pub mpus : List SentMpu

abbrev pub timescale_flag : Option ℕ → ℕ
timescale_flag None = 0
timescale_flag (Some t) = 1

abbrev pub timescale_fields : Option ℕ → List Field
timescale_fields None = []
timescale_fields (Some t) = field 4 t ∷ []

abbrev pub flags_fields : SentExtended → List Field
flags_fields e = field 1 (packed (bits 5 e.reserved ∷ bits 2 (offset_type e.offsets) ∷ bits 1 (timescale_flag e.timescale) ∷ [])) ∷ []

abbrev pub extended_sent : SentExtended → List ℕ
extended_sent e =
    written (flags_fields e)
    ++ (written (timescale_fields e.timescale) ++ (written (offset_fields e.offsets) ++ rows_sent (mpu_sent e.offsets) e.mpus))

pub record ExtendedConforming (e : SentExtended) : Type 0 where
  pub reserved : e.reserved < 2 ^ 5
  pub timescale : Fit (timescale_fields e.timescale)
  pub offset : Fit (offset_fields e.offsets)
  pub mpus : All (MpuConforming e.offsets) e.mpus

abbrev pub timescale_seen : Option ℕ → Option ℕ
timescale_seen None = None
timescale_seen (Some t) = Some t

abbrev pub offset_seen : PtsOffsets → Option ℕ
offset_seen unsaid = None
offset_seen (same d) = Some d
offset_seen own = None

abbrev pub access_unit_seen : PtsOffsets → SentAccessUnit → AccessUnit
access_unit_seen unsaid u = record { dts_pts_offset = u.dts_pts_offset; pts_offset = None }
access_unit_seen (same d) u = record { dts_pts_offset = u.dts_pts_offset; pts_offset = Some d }
access_unit_seen own u = record { dts_pts_offset = u.dts_pts_offset; pts_offset = Some u.pts_offset }

abbrev pub mpu_seen_of : PtsOffsets → SentMpu → WholeMpu
mpu_seen_of o m =
    record {
      sequence_number = m.sequence_number;
      leap_indicator = m.leap_indicator;
      decoding_time_offset = m.decoding_time_offset;
      access_units = map (access_unit_seen o) m.units;
    }

abbrev pub extended_seen : SentExtended → WholeExtended
extended_seen e =
    record {
      timescale = timescale_seen e.timescale;
      default_pts_offset = offset_seen e.offsets;
      mpus = map (mpu_seen_of e.offsets) e.mpus;
    }

pub data SentBody : Type 0 where
  -- 7.4.3.5
  mpu_times : List SentTime → SentBody
  -- 7.4.3.7, access control: CA system id; and the location of its ECM or EMM, with private bytes behind it
  ca_system : ℕ → SentBody
  ca_system_at : ℕ → SentLocation → List ℕ → SentBody
  -- 7.4.3.8, scrambler: layer type, reserved bits, scramble system id, private bytes
  scrambling : ℕ → ℕ → ℕ → List ℕ → SentBody
  -- 7.4.3.13
  hevc_video : SentHevc → SentBody
  -- 7.4.3.16
  services_listed : List SentListed → SentBody
  -- 7.4.3.17, MH-short event: three characters of the language, name, text
  event_texts : ℕ → ℕ → ℕ → List ℕ → List ℕ → SentBody
  -- 7.4.3.20, MH-stream identifier: component tag
  component_tag_of : ℕ → SentBody
  -- 7.4.3.21
  genres : List SentGenre → SentBody
  -- 7.4.3.27, MH-broadcaster name
  broadcaster_called : List ℕ → SentBody
  -- 7.4.3.28, MH-service: service type, provider's name, service's name
  service_called : ℕ → List ℕ → List ℕ → SentBody
  -- 7.4.3.35
  mpu_times_extended : SentExtended → SentBody

-- Table 4-10
abbrev pub tag_of : SentBody → ℕ
tag_of (mpu_times ts) = 0x0001
tag_of (ca_system ca) = 0x8004
tag_of (ca_system_at ca p private) = 0x8004
tag_of (scrambling layer reserved system private) = 0x8005
tag_of (hevc_video x) = 0x800A
tag_of (services_listed xs) = 0x800D
tag_of (event_texts a b c name text) = 0xF001
tag_of (component_tag_of c) = 0x8011
tag_of (genres xs) = 0x8012
tag_of (broadcaster_called name) = 0x8018
tag_of (service_called t provider name) = 0x8019
tag_of (mpu_times_extended e) = 0x8026

-- language 24 bits, length of the name 8
abbrev pub event_fields : ℕ → ℕ → ℕ → List ℕ → List Field
event_fields a b c name = field 1 a ∷ field 1 b ∷ field 1 c ∷ field 1 (length name) ∷ []

-- layer type 2 bits, reserved 6, scramble system id 8
abbrev pub scrambler_fields : ℕ → ℕ → ℕ → List Field
scrambler_fields layer reserved system = field 1 (packed (bits 2 layer ∷ bits 6 reserved ∷ [])) ∷ field 1 system ∷ []

-- service type 8 bits, length of the provider's name 8
abbrev pub service_fields : ℕ → List ℕ → List Field
service_fields t provider = field 1 t ∷ field 1 (length provider) ∷ []

abbrev pub body_sent : SentBody → List ℕ
body_sent (mpu_times ts) = rows_sent time_sent ts
body_sent (ca_system ca) = written (field 2 ca ∷ [])
body_sent (ca_system_at ca p private) = written (field 2 ca ∷ []) ++ (location_sent p ++ private)
body_sent (scrambling layer reserved system private) = written (scrambler_fields layer reserved system) ++ private
body_sent (hevc_video x) = written (hevc_fields x) ++ x.behind
body_sent (services_listed xs) = rows_sent listed_sent xs
-- a length of 8 bits before the name, of 16 before the text
body_sent (event_texts a b c name text) = written (event_fields a b c name) ++ (name ++ (written (field 2 (length text) ∷ []) ++ text))
body_sent (component_tag_of c) = written (field 2 c ∷ [])
body_sent (genres xs) = rows_sent genre_sent xs
body_sent (broadcaster_called name) = name
-- a length of 8 bits before each name
body_sent (service_called t provider name) =
    written (service_fields t provider) ++ (provider ++ (written (field 1 (length name) ∷ []) ++ name))
body_sent (mpu_times_extended e) = extended_sent e

-- each value fits its field
abbrev pub BodyConforming : SentBody → Type 0
BodyConforming (mpu_times ts) = All TimeConforming ts
BodyConforming (ca_system ca) = ca < 2 ^ 16
BodyConforming (ca_system_at ca p private) = (ca < 2 ^ 16) × LocationConforming p
BodyConforming (scrambling layer reserved system private) = (layer < 2 ^ 2) × (reserved < 2 ^ 6) × (system < 2 ^ 8)
BodyConforming (hevc_video x) = HevcConforming x
BodyConforming (services_listed xs) = All ListedConforming xs
BodyConforming (event_texts a b c name text) =
    (a < 2 ^ 8) × (b < 2 ^ 8) × (c < 2 ^ 8) × (length name < 2 ^ 8) × (length text < 2 ^ 16)
BodyConforming (component_tag_of c) = c < 2 ^ 16
BodyConforming (genres xs) = All GenreConforming xs
BodyConforming (broadcaster_called name) = Unit {0}
BodyConforming (service_called t provider name) = (t < 2 ^ 8) × (length provider < 2 ^ 8) × (length name < 2 ^ 8)
BodyConforming (mpu_times_extended e) = ExtendedConforming e

-- a location, with the bytes of its URL
abbrev pub place_seen : SentLocation → WholeLocation
place_seen p = record { location = location_seen p; url = location_bytes p }

-- what is read of each: every value, text and entry
abbrev pub value_seen : SentBody → Value
value_seen (mpu_times ts) = mpu_timestamp (map time_seen ts)
value_seen (ca_system ca) = access_control ca None
value_seen (ca_system_at ca p private) = access_control ca (Some (place_seen p))
value_seen (scrambling layer reserved system private) = scrambler layer system
value_seen (hevc_video x) = hevc x.profile (x.tier =? 1) x.level
value_seen (services_listed xs) = service_list_of (map listed_seen xs)
value_seen (event_texts a b c name text) = short_event_of (record { first = a; second = b; third = c }) name text
value_seen (component_tag_of c) = stream_identifier c
value_seen (genres xs) = content (map genre_seen xs)
value_seen (broadcaster_called name) = broadcaster_name name
value_seen (service_called t provider name) = service_names t provider name
value_seen (mpu_times_extended e) = extended_timestamp (extended_seen e)

-- a body read by its tag is the case with these fields, and its parts are the sender's texts and entries, whole and in order
abbrev pub BodyRead : SentBody → Type 0
BodyRead d = value_in (body_sent d) (descriptor_of (tag_of d) (body_sent d)) ≡ value_seen d

-- 7.4, Table 4-10: tag 16 bits, a length of 8 bits, or of 16 where the tag is F000h or above, and the body
abbrev pub length_bytes : SentBody → ℕ
length_bytes d = if 0xF000 ≤? tag_of d then 2 else 1

abbrev pub whole_sent : SentBody → List ℕ
whole_sent d = written (field 2 (tag_of d) ∷ field (length_bytes d) (length (body_sent d)) ∷ []) ++ body_sent d

pub record WholeConforming (d : SentBody) : Type 0 where
  pub body : BodyConforming d
  pub short : length (body_sent d) < 256 ^ length_bytes d

abbrev pub whole_seen : SentBody → WholeDescriptor
whole_seen d = record { tag = tag_of d; body = body_sent d; value = value_seen d }

-- as one of a table's loop
abbrev pub described : SentBody → Descriptor
described d = record { tag = tag_of d; content = body_sent d }

-- a loop of such descriptors, as a table may have it, gives each of them in order, and breaks nowhere
pub record DescriptorsRead (ds : List SentBody) : Type 0 where
  pub loop : loop_sent (map described ds) ≡ rows_sent whole_sent ds
  pub conforms : LoopConforming (map described ds)
  pub values : loop_in (rows_sent whole_sent ds) ≡ record { found = map whole_seen ds; whole = true }

-- Table 7-9: locations one behind another, between other bytes: each is read with the bytes of its URL
abbrev pub LocationsRead : List ℕ → List SentLocation → List ℕ → Type 0
LocationsRead a ps r =
    (counted (location_stood (a ++ (rows_sent location_sent ps ++ r))) (length ps) (length a)).found ≡ map place_seen ps

-- proved in proofs/StdB60Descriptors.antt
abbrev pub BodyTheorem : Type 0
BodyTheorem = (d : SentBody) → BodyConforming d → BodyRead d

abbrev pub DescriptorsTheorem : Type 0
DescriptorsTheorem = (ds : List SentBody) → All WholeConforming ds → DescriptorsRead ds

abbrev pub LocationsTheorem : Type 0
LocationsTheorem = (a : List ℕ) (ps : List SentLocation) (r : List ℕ) → All LocationConforming ps → LocationsRead a ps r

-- conforming descriptors, and their bytes, as they may stand in lines `descriptors HEX` of crates/cases/stdin
abbrev pub unit_example : ℕ → ℕ → SentAccessUnit
unit_example dts pts = record { dts_pts_offset = dts; pts_offset = pts }

abbrev pub mpu_example : ℕ → List SentAccessUnit → SentMpu
mpu_example q us = record { sequence_number = q; leap_indicator = 1; reserved = 0; decoding_time_offset = 100; units = us }

-- a location with a URL, as it may stand in a line `location HEX`
abbrev pub url_example : SentLocation
url_example = url (0x61 ∷ 0x62 ∷ 0x63 ∷ [])

abbrev pub examples : List SentBody
examples =
    mpu_times (record { sequence_number = 7; presentation_time = 0xE12345678000ABCD } ∷ record { sequence_number = 8; presentation_time = 0 } ∷ [])
    ∷ ca_system 5
    ∷ ca_system_at 5 (same_flow 0xF101) []
    ∷ ca_system_at 5 url_example []
    ∷ scrambling 2 0 2 []
    ∷ hevc_video (record {
      profile_space = 0;
      tier = 1;
      profile = 2;
      compatibility = 0;
      flags = 0;
      reserved = 0;
      level = 0x99;
      behind = 0x0C ∷ [];
    })
    ∷ services_listed (record { service_id = 101; service_type = 1 } ∷ record { service_id = 0x166; service_type = 2 } ∷ [])
    ∷ event_texts 0x6A 0x70 0x6E (0x41 ∷ 0x42 ∷ []) (0x78 ∷ 0x79 ∷ 0x7A ∷ [])
    ∷ component_tag_of 16
    ∷ genres (record { level1 = 7; level2 = 1; user = 0xF0 } ∷ [])
    ∷ broadcaster_called (0x42 ∷ 0x53 ∷ 0x2D ∷ 0x4E ∷ 0x48 ∷ 0x4B ∷ [])
    ∷ service_called 1 (0x4E ∷ 0x48 ∷ 0x4B ∷ []) (0x42 ∷ 0x53 ∷ 0x34 ∷ 0x4B ∷ [])
    -- one PTS offset for each access unit, and a timescale; then without one; then each with its own
    ∷ mpu_times_extended (record {
      reserved = 0;
      timescale = Some 90000;
      offsets = same 16;
      mpus = mpu_example 7 (unit_example 1 0 ∷ unit_example 2 0 ∷ []) ∷ [];
    })
    ∷ mpu_times_extended (record {
      reserved = 0;
      timescale = None;
      offsets = same 16;
      mpus = mpu_example 7 [] ∷ mpu_example 8 (unit_example 3 0 ∷ []) ∷ [];
    })
    ∷ mpu_times_extended (record {
      reserved = 0;
      timescale = None;
      offsets = own;
      mpus = mpu_example 7 (unit_example 1 2 ∷ unit_example 3 4 ∷ []) ∷ [];
    })
    ∷ []

abbrev pub example_bytes : List (List ℕ)
example_bytes =
    (0x00 ∷ 0x01 ∷ 0x18 ∷ 0x00 ∷ 0x00 ∷ 0x00 ∷ 0x07 ∷ 0xE1 ∷ 0x23 ∷ 0x45 ∷ 0x67 ∷ 0x80 ∷ 0x00 ∷ 0xAB ∷ 0xCD ∷ 0x00 ∷ 0x00
    ∷ 0x00 ∷ 0x08 ∷ 0x00 ∷ 0x00 ∷ 0x00 ∷ 0x00 ∷ 0x00 ∷ 0x00 ∷ 0x00 ∷ 0x00 ∷ [])
    ∷ (0x80 ∷ 0x04 ∷ 0x02 ∷ 0x00 ∷ 0x05 ∷ [])
    ∷ (0x80 ∷ 0x04 ∷ 0x05 ∷ 0x00 ∷ 0x05 ∷ 0x00 ∷ 0xF1 ∷ 0x01 ∷ [])
    ∷ (0x80 ∷ 0x04 ∷ 0x07 ∷ 0x00 ∷ 0x05 ∷ 0x05 ∷ 0x03 ∷ 0x61 ∷ 0x62 ∷ 0x63 ∷ [])
    ∷ (0x80 ∷ 0x05 ∷ 0x02 ∷ 0x80 ∷ 0x02 ∷ [])
    ∷ (0x80 ∷ 0x0A ∷ 0x0D ∷ 0x22 ∷ 0x00 ∷ 0x00 ∷ 0x00 ∷ 0x00 ∷ 0x00 ∷ 0x00 ∷ 0x00 ∷ 0x00 ∷ 0x00 ∷ 0x00 ∷ 0x99 ∷ 0x0C ∷ [])
    ∷ (0x80 ∷ 0x0D ∷ 0x06 ∷ 0x00 ∷ 0x65 ∷ 0x01 ∷ 0x01 ∷ 0x66 ∷ 0x02 ∷ [])
    ∷ (0xF0 ∷ 0x01 ∷ 0x00 ∷ 0x0B ∷ 0x6A ∷ 0x70 ∷ 0x6E ∷ 0x02 ∷ 0x41 ∷ 0x42 ∷ 0x00 ∷ 0x03 ∷ 0x78 ∷ 0x79 ∷ 0x7A ∷ [])
    ∷ (0x80 ∷ 0x11 ∷ 0x02 ∷ 0x00 ∷ 0x10 ∷ [])
    ∷ (0x80 ∷ 0x12 ∷ 0x02 ∷ 0x71 ∷ 0xF0 ∷ [])
    ∷ (0x80 ∷ 0x18 ∷ 0x06 ∷ 0x42 ∷ 0x53 ∷ 0x2D ∷ 0x4E ∷ 0x48 ∷ 0x4B ∷ [])
    ∷ (0x80 ∷ 0x19 ∷ 0x0A ∷ 0x01 ∷ 0x03 ∷ 0x4E ∷ 0x48 ∷ 0x4B ∷ 0x04 ∷ 0x42 ∷ 0x53 ∷ 0x34 ∷ 0x4B ∷ [])
    ∷ (0x80 ∷ 0x26 ∷ 0x13 ∷ 0x03 ∷ 0x00 ∷ 0x01 ∷ 0x5F ∷ 0x90 ∷ 0x00 ∷ 0x10 ∷ 0x00 ∷ 0x00 ∷ 0x00 ∷ 0x07 ∷ 0x40 ∷ 0x00 ∷ 0x64
    ∷ 0x02 ∷ 0x00 ∷ 0x01 ∷ 0x00 ∷ 0x02 ∷ [])
    ∷ (0x80 ∷ 0x26 ∷ 0x15 ∷ 0x02 ∷ 0x00 ∷ 0x10 ∷ 0x00 ∷ 0x00 ∷ 0x00 ∷ 0x07 ∷ 0x40 ∷ 0x00 ∷ 0x64 ∷ 0x00 ∷ 0x00 ∷ 0x00 ∷ 0x00
    ∷ 0x08 ∷ 0x40 ∷ 0x00 ∷ 0x64 ∷ 0x01 ∷ 0x00 ∷ 0x03 ∷ [])
    ∷ (0x80 ∷ 0x26 ∷ 0x11 ∷ 0x04 ∷ 0x00 ∷ 0x00 ∷ 0x00 ∷ 0x07 ∷ 0x40 ∷ 0x00 ∷ 0x64 ∷ 0x02 ∷ 0x00 ∷ 0x01 ∷ 0x00 ∷ 0x02 ∷ 0x00
    ∷ 0x03 ∷ 0x00 ∷ 0x04 ∷ [])
    ∷ []

pub record Examples : Type 0 where
  pub conform : All WholeConforming examples
  pub bytes : map whole_sent examples ≡ example_bytes
  pub url_conforms : LocationConforming url_example
  pub url_bytes : location_sent url_example ≡ 0x05 ∷ 0x03 ∷ 0x61 ∷ 0x62 ∷ 0x63 ∷ []
