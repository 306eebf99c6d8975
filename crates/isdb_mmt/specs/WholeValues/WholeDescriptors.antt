-- Locations and descriptors as whole values: each with its bytes, its texts and its rows. The steps at a place, by which they
-- are walked, are those of Location, Timestamp, Desc and Nit.
use Rattle.std.specs.Prelude.{ℕ, ◌+◌, Bool, List, [], length, drop, None, Some, Option}
use Rattle.isdb_mmt.specs.Formats.Part.{part_of}
use Rattle.isdb_mmt.specs.WholeValues.Steps.{Stood, at_end, malformed, element, Found, counted, to_end}
use Rattle.isdb_mmt.specs.Formats.Location.{location_of}
use Rattle.isdb_mmt.specs.Formats.Timestamp.{timestamp_at, mpu_at, unit_step}
use Rattle.isdb_mmt.specs.Formats.Desc.{step_at, descriptor_of, service_at, genre_at}
use Rattle.isdb_mmt.specs.Formats.Nit.{tlv_step_at}
use Rattle.isdb_mmt.specs.declared.location.Location.{Location}
use Rattle.isdb_mmt.specs.declared.location.Location.TheVariants.{SameFlow, Ipv4, Ipv6, Mpeg2Ts, Mpeg2TsIpv6, Url}
use Rattle.isdb_mmt.specs.declared.timestamp.MpuPresentation.{MpuPresentation}
use Rattle.isdb_mmt.specs.declared.timestamp.Extended.{Extended}
use Rattle.isdb_mmt.specs.Formats.Steps.{MpuStep}
use Rattle.isdb_mmt.specs.declared.walk_step.WalkStep.TheVariants.{End as no_mpu, Malformed as broken_mpu, Entry as an_mpu}
use Rattle.isdb_mmt.specs.declared.timestamp.AccessUnit.{AccessUnit}
use Rattle.isdb_mmt.specs.declared.desc.Language.{Language}
use Rattle.isdb_mmt.specs.declared.desc.Step.{Step}
use Rattle.isdb_mmt.specs.declared.desc.Step.TheVariants.{End, Broken, Raw}
use Rattle.isdb_mmt.specs.declared.desc.Descriptor.{Descriptor}
use Rattle.isdb_mmt.specs.declared.desc.Descriptor.TheVariants.{MpuTimestamp, ExtendedTimestamp, AccessControl, Scrambler, StreamIdentifier, Service, ServiceList, ShortEvent, Content, Hevc, BroadcasterName, Other}
use Rattle.isdb_mmt.specs.declared.desc.ListedService.{ListedService}
use Rattle.isdb_mmt.specs.declared.desc.Genre.{Genre as GenreFields}
use Rattle.isdb_mmt.specs.declared.table.nit.TlvDescriptor.{TlvDescriptor}

-- a location, and the bytes of its URL where it is one; a URL's place counts from the first byte of the location, as `s` does
pub record WholeLocation : Type 0 where
  pub location : Location
  pub url : List ℕ

abbrev pub url_in : List ℕ → Location → List ℕ
url_in s (SameFlow p) = []
url_in s (Ipv4 src dst port p) = []
url_in s (Ipv6 sh sl dh dl port p) = []
url_in s (Mpeg2Ts n t pid) = []
url_in s (Mpeg2TsIpv6 port pid) = []
url_in s (Url p) = part_of s p

abbrev pub whole_location : List ℕ → Location → WholeLocation
whole_location s l = record { location = l; url = url_in s l }

-- the location at a place
abbrev pub location_told : List ℕ → ℕ → Option (Location × ℕ) → Stood WholeLocation
location_told s at None = malformed
location_told s at (Some (l, taken)) = element (whole_location (drop at s) l) (at + taken)

abbrev pub location_seen : List ℕ → ℕ → Stood WholeLocation
location_seen s at = location_told s at (location_of (drop at s))

-- 7.4.3.5: an entry of an MPU timestamp
pub record MpuTime : Type 0 where
  pub sequence_number : ℕ
  pub presentation_time : ℕ

abbrev pub timestamp_told : Option (MpuPresentation × ℕ) → Stood MpuTime
timestamp_told None = at_end
timestamp_told (Some (x, next)) = element (record { sequence_number = x.mpu_sequence_number; presentation_time = x.presentation_time }) next

abbrev pub timestamp_seen : List ℕ → ℕ → Stood MpuTime
timestamp_seen s at = timestamp_told (timestamp_at s at)

abbrev pub timestamps_in : List ℕ → List MpuTime
timestamps_in s = (to_end (timestamp_seen s) (length s) 0).found

-- 7.4.3.35: the access units of an MPU, in bytes of their own, and the MPUs of an extended timestamp
abbrev pub unit_told : Option (AccessUnit × ℕ) → Stood AccessUnit
unit_told None = at_end
unit_told (Some (u, next)) = element u next

abbrev pub unit_seen : List ℕ → Extended → ℕ → Stood AccessUnit
unit_seen s e at = unit_told (unit_step s e at)

abbrev pub units_in : List ℕ → Extended → ℕ → List AccessUnit
units_in s e n = (counted (unit_seen s e) n 0).found

pub record WholeMpu : Type 0 where
  pub sequence_number : ℕ
  pub leap_indicator : ℕ
  pub decoding_time_offset : ℕ
  pub access_units : List AccessUnit

abbrev pub mpu_told : List ℕ → Extended → MpuStep → Stood WholeMpu
mpu_told s e no_mpu = at_end
mpu_told s e broken_mpu = malformed
mpu_told s e (an_mpu m next) =
    element (record {
      sequence_number = m.mpu_sequence_number;
      leap_indicator = m.leap_indicator;
      decoding_time_offset = m.decoding_time_offset;
      access_units = units_in (part_of s m.units) e m.access_units;
    }) next

abbrev pub mpu_seen_of : List ℕ → Extended → ℕ → Stood WholeMpu
mpu_seen_of s e at = mpu_told s e (mpu_at s e.own_pts_offset at)

pub record WholeExtended : Type 0 where
  pub timescale : Option ℕ
  pub default_pts_offset : Option ℕ
  pub mpus : List WholeMpu

abbrev pub whole_extended : List ℕ → Extended → WholeExtended
whole_extended s e =
    record {
      timescale = e.timescale;
      default_pts_offset = e.default_pts_offset;
      mpus = (to_end (mpu_seen_of s e) (length s) e.start).found;
    }

-- 7.4.3.16: an entry of a service list
pub record Listed : Type 0 where
  pub service_id : ℕ
  pub service_type : ℕ

abbrev pub service_told : Option (ListedService × ℕ) → Stood Listed
service_told None = at_end
service_told (Some (x, next)) = element (record { service_id = x.service_id; service_type = x.service_type }) next

abbrev pub service_seen : List ℕ → ℕ → Stood Listed
service_seen s at = service_told (service_at s at)

abbrev pub services_in : List ℕ → List Listed
services_in s = (to_end (service_seen s) (length s) 0).found

-- 7.4.3.21: a genre
pub record Genre : Type 0 where
  pub level1 : ℕ
  pub level2 : ℕ
  pub user : ℕ

abbrev pub genre_told : Option (GenreFields × ℕ) → Stood Genre
genre_told None = at_end
genre_told (Some (x, next)) = element (record { level1 = x.level_1; level2 = x.level_2; user = x.user }) next

abbrev pub genre_seen : List ℕ → ℕ → Stood Genre
genre_seen s at = genre_told (genre_at s at)

abbrev pub genres_in : List ℕ → List Genre
genres_in s = (to_end (genre_seen s) (length s) 0).found

-- what a descriptor's body says; texts are their bytes
pub data Value : Type 0 where
  mpu_timestamp : List MpuTime → Value
  extended_timestamp : WholeExtended → Value
  -- CA system id, and the location of its ECM or EMM
  access_control : ℕ → Option WholeLocation → Value
  -- layer type, scramble system id
  scrambler : ℕ → ℕ → Value
  stream_identifier : ℕ → Value
  -- service type, provider's name, service's name
  service_names : ℕ → List ℕ → List ℕ → Value
  service_list_of : List Listed → Value
  -- language, name, text
  short_event_of : Language → List ℕ → List ℕ → Value
  content : List Genre → Value
  -- profile, tier, level
  hevc : ℕ → Bool → ℕ → Value
  broadcaster_name : List ℕ → Value
  other : Value

-- the location of an access control descriptor stands behind the CA system id
abbrev pub location_in : List ℕ → Option Location → Option WholeLocation
location_in s None = None
location_in s (Some l) = Some (whole_location (drop 2 s) l)

abbrev pub value_in : List ℕ → Descriptor → Value
value_in s MpuTimestamp = mpu_timestamp (timestamps_in s)
value_in s (ExtendedTimestamp e) = extended_timestamp (whole_extended s e)
value_in s (AccessControl ca l) = access_control ca (location_in s l)
value_in s (Scrambler l i) = scrambler l i
value_in s (StreamIdentifier c) = stream_identifier c
value_in s (Service t p n) = service_names t (part_of s p) (part_of s n)
value_in s ServiceList = service_list_of (services_in s)
value_in s (ShortEvent l n t) = short_event_of l (part_of s n) (part_of s t)
value_in s Content = content (genres_in s)
value_in s (Hevc p t l) = hevc p t l
value_in s (BroadcasterName n) = broadcaster_name (part_of s n)
value_in s (Other t b) = other

pub record WholeDescriptor : Type 0 where
  pub tag : ℕ
  pub body : List ℕ
  pub value : Value

abbrev pub whole_descriptor : ℕ → List ℕ → WholeDescriptor
whole_descriptor tag s = record { tag = tag; body = s; value = value_in s (descriptor_of tag s) }

-- the descriptors of a loop; it is not whole where one does not fit
abbrev pub descriptor_told : List ℕ → Step → Stood WholeDescriptor
descriptor_told s End = at_end
descriptor_told s (Broken p) = malformed
descriptor_told s (Raw tag body next) = element (whole_descriptor tag (part_of s body)) next

abbrev pub descriptor_seen : List ℕ → ℕ → Stood WholeDescriptor
descriptor_seen s at = descriptor_told s (step_at s at)

abbrev pub loop_in : List ℕ → Found WholeDescriptor
loop_in s = to_end (descriptor_seen s) (length s) 0

-- 5.3: the descriptors of a TLV-SI loop
pub record WholeTlv : Type 0 where
  pub tag : ℕ
  pub body : List ℕ

abbrev pub tlv_told : List ℕ → Option (TlvDescriptor × ℕ) → Stood WholeTlv
tlv_told s None = at_end
tlv_told s (Some (d, next)) = element (record { tag = d.tag; body = part_of s d.body }) next

abbrev pub tlv_seen : List ℕ → ℕ → Stood WholeTlv
tlv_seen s at = tlv_told s (tlv_step_at s at)

abbrev pub tlvs_in : List ℕ → List WholeTlv
tlvs_in s = (to_end (tlv_seen s) (length s) 0).found
