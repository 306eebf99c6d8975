-- Every part that a table, a step or a descriptor tells lies within the bytes that it counts in: none of an id, a text, a body or
-- a loop is cut off.
use Rattle.isdb_mmt.specs.declared.table.tot.Tot.{Tot}
use Rattle.isdb_mmt.specs.declared.table.nit.Nit.{Nit}
use Rattle.isdb_mmt.specs.declared.table.bit.Bit.{Bit}
use Rattle.isdb_mmt.specs.declared.table.plt.Package.{Package}
use Rattle.isdb_mmt.specs.declared.table.mpt.Mpt.{Mpt}
use Rattle.isdb_mmt.specs.declared.table.mpt.Asset.{Asset}
use Rattle.isdb_mmt.specs.declared.table.section.SectionError.{SectionError}
use Rattle.isdb_mmt.specs.declared.table.section.SectionHeader.{SectionHeader}
use Rattle.std.specs.Prelude.{ℕ, ◌≤◌, Bool, List, length, drop, Err, None, Ok, Option, Result, Some}
use Rattle.isdb_mmt.specs.Formats.Part.{part_of}
use Rattle.isdb_mmt.specs.Formats.Location.{location_of}
use Rattle.isdb_mmt.specs.Formats.Timestamp.{mpu_at}
use Rattle.isdb_mmt.specs.Formats.Desc.{step_at, descriptor_of}
use Rattle.isdb_mmt.specs.Formats.Section.{long_section_of}
use Rattle.isdb_mmt.specs.Formats.Mpt.{asset_at_of, mpt_of}
use Rattle.isdb_mmt.specs.Formats.Plt.{package_at_of}
use Rattle.isdb_mmt.specs.Formats.Eit.{event_step}
use Rattle.isdb_mmt.specs.Formats.Sdt.{service_step}
use Rattle.isdb_mmt.specs.Formats.Bit.{broadcaster_step, bit_of}
use Rattle.isdb_mmt.specs.Formats.Nit.{stream_step, tlv_step_at, nit_of}
use Rattle.isdb_mmt.specs.Formats.Tot.{tot_of}
use Rattle.isdb_mmt.specs.Decoder.Kept.{declared_table, declared_section}
use Rattle.isdb_mmt.specs.WholeValues.WholeSections.{behind}
use Rattle.isdb_mmt.specs.declared.part.Part.{Part}
use Rattle.isdb_mmt.specs.declared.location.Location.{Location}
use Rattle.isdb_mmt.specs.declared.location.Location.TheVariants.{SameFlow, Ipv4, Ipv6, Mpeg2Ts, Mpeg2TsIpv6, Url}
use Rattle.isdb_mmt.specs.Formats.Steps.{MpuStep}
use Rattle.isdb_mmt.specs.declared.walk_step.WalkStep.TheVariants.{End as no_mpu, Malformed as broken_mpu, Entry as an_mpu}
use Rattle.isdb_mmt.specs.declared.desc.Step.{Step}
use Rattle.isdb_mmt.specs.declared.desc.Step.TheVariants.{End, Broken, Raw}
use Rattle.isdb_mmt.specs.declared.desc.Descriptor.{Descriptor}
use Rattle.isdb_mmt.specs.declared.desc.Descriptor.TheVariants.{MpuTimestamp, ExtendedTimestamp, AccessControl, Scrambler, StreamIdentifier, Service, ServiceList, ShortEvent, Content, Hevc, BroadcasterName, Other}
use Rattle.isdb_mmt.specs.Formats.Steps.{EventStep}
use Rattle.isdb_mmt.specs.declared.walk_step.WalkStep.TheVariants.{End as no_event, Malformed as bad_event, Entry as event}
use Rattle.isdb_mmt.specs.Formats.Steps.{SdtStep}
use Rattle.isdb_mmt.specs.declared.walk_step.WalkStep.TheVariants.{End as no_service, Malformed as bad_service, Entry as service}
use Rattle.isdb_mmt.specs.Formats.Steps.{BroadcasterStep}
use Rattle.isdb_mmt.specs.declared.walk_step.WalkStep.TheVariants.{End as no_broadcaster, Malformed as bad_broadcaster, Entry as broadcaster}
use Rattle.isdb_mmt.specs.Formats.Steps.{StreamStep}
use Rattle.isdb_mmt.specs.declared.walk_step.WalkStep.TheVariants.{End as no_stream, Malformed as bad_stream, Entry as stream}
use Rattle.isdb_mmt.specs.declared.table.nit.TlvDescriptor.{TlvDescriptor}

abbrev pub Lies : List ℕ → Part → Type 0
Lies s p = behind p ≤ length s

-- the URL of a location that starts with `s`
abbrev pub UrlLies : List ℕ → Location → Type 0
UrlLies s (SameFlow p) = Unit {0}
UrlLies s (Ipv4 src dst port p) = Unit {0}
UrlLies s (Ipv6 sh sl dh dl port p) = Unit {0}
UrlLies s (Mpeg2Ts n t pid) = Unit {0}
UrlLies s (Mpeg2TsIpv6 port pid) = Unit {0}
UrlLies s (Url p) = Lies s p

abbrev pub LocatedLies : List ℕ → Option (Location × ℕ) → Type 0
LocatedLies s None = Unit {0}
LocatedLies s (Some (l, taken)) = UrlLies s l

abbrev pub LocationLies : List ℕ → Option Location → Type 0
LocationLies s None = Unit {0}
LocationLies s (Some l) = UrlLies s l

-- a descriptor's body, its texts, an MPU's access units, a TLV-SI descriptor's body
abbrev pub RawLies : List ℕ → Step → Type 0
RawLies s End = Unit {0}
RawLies s (Broken p) = Unit {0}
RawLies s (Raw tag body next) = Lies s body

abbrev pub TextsLie : List ℕ → Descriptor → Type 0
TextsLie s MpuTimestamp = Unit {0}
TextsLie s (ExtendedTimestamp e) = Unit {0}
TextsLie s (AccessControl c l) = LocationLies (drop 2 s) l
TextsLie s (Scrambler l i) = Unit {0}
TextsLie s (StreamIdentifier c) = Unit {0}
TextsLie s (Service t p n) = Lies s p × Lies s n
TextsLie s ServiceList = Unit {0}
TextsLie s (ShortEvent l n t) = Lies s n × Lies s t
TextsLie s Content = Unit {0}
TextsLie s (Hevc p t l) = Unit {0}
TextsLie s (BroadcasterName n) = Lies s n
TextsLie s (Other t b) = Lies s b

abbrev pub UnitsLie : List ℕ → MpuStep → Type 0
UnitsLie s no_mpu = Unit {0}
UnitsLie s broken_mpu = Unit {0}
UnitsLie s (an_mpu m next) = Lies s m.units

abbrev pub TlvLies : List ℕ → Option (TlvDescriptor × ℕ) → Type 0
TlvLies s None = Unit {0}
TlvLies s (Some (d, next)) = Lies s d.body

-- MPT and PLT
abbrev pub MptLies : List ℕ → Option Mpt → Type 0
MptLies s None = Unit {0}
MptLies s (Some t) = Lies s t.package_id × Lies s t.descriptors

abbrev pub AssetLies : List ℕ → Option (Asset × ℕ) → Type 0
AssetLies s None = Unit {0}
AssetLies s (Some (a, next)) = Lies s a.asset_id × Lies s a.descriptors

abbrev pub PackageLies : List ℕ → Option (Package × ℕ) → Type 0
PackageLies s None = Unit {0}
PackageLies s (Some (p, next)) = Lies s p.package_id × UrlLies (drop p.location_start s) p.location

-- sections, and what stands in their bodies
abbrev pub BodyLies : List ℕ → Result SectionHeader SectionError → Type 0
BodyLies s (Err e) = Unit {0}
BodyLies s (Ok h) = Lies s h.body

abbrev pub EventLies : List ℕ → EventStep → Type 0
EventLies s no_event = Unit {0}
EventLies s bad_event = Unit {0}
EventLies s (event e next) = Lies s e.descriptors

abbrev pub ServiceLies : List ℕ → SdtStep → Type 0
ServiceLies s no_service = Unit {0}
ServiceLies s bad_service = Unit {0}
ServiceLies s (service e next) = Lies s e.descriptors

abbrev pub BroadcasterLies : List ℕ → BroadcasterStep → Type 0
BroadcasterLies s no_broadcaster = Unit {0}
BroadcasterLies s bad_broadcaster = Unit {0}
BroadcasterLies s (broadcaster e next) = Lies s e.descriptors

abbrev pub StreamLies : List ℕ → StreamStep → Type 0
StreamLies s no_stream = Unit {0}
StreamLies s bad_stream = Unit {0}
StreamLies s (stream x next) = Lies s x.descriptors

abbrev pub BitLies : List ℕ → Result (SectionHeader × Bit) SectionError → Type 0
BitLies s (Err e) = Unit {0}
BitLies s (Ok (h, t)) = Lies (part_of s h.body) t.descriptors

abbrev pub NitLies : List ℕ → Result (SectionHeader × Nit) SectionError → Type 0
NitLies s (Err e) = Unit {0}
NitLies s (Ok (h, t)) = Lies (part_of s h.body) t.descriptors × Lies (part_of s h.body) t.loop_part

abbrev pub TotLies : List ℕ → Result Tot SectionError → Type 0
TotLies s (Err e) = Unit {0}
TotLies s (Ok t) = Lies s t.descriptors

pub record PartsTheorem : Type 0 where
  pub locations : (s : List ℕ) → LocatedLies s (location_of s)
  pub descriptors : (s : List ℕ) (at : ℕ) → RawLies s (step_at s at)
  pub texts : (tag : ℕ) (s : List ℕ) → TextsLie s (descriptor_of tag s)
  pub mpus : (s : List ℕ) (own : Bool) (at : ℕ) → UnitsLie s (mpu_at s own at)
  pub tlvs : (s : List ℕ) (at : ℕ) → TlvLies s (tlv_step_at s at)
  pub mpt : (s : List ℕ) → MptLies (declared_table s) (mpt_of s).mpt
  pub assets : (s : List ℕ) (at : ℕ) → AssetLies s (asset_at_of s at)
  pub packages : (s : List ℕ) (at : ℕ) → PackageLies s (package_at_of s at)
  pub sections : (s : List ℕ) → BodyLies s (long_section_of s)
  pub events : (s : List ℕ) (at : ℕ) → EventLies s (event_step s at)
  pub services : (s : List ℕ) (at : ℕ) → ServiceLies s (service_step s at)
  pub bit : (s : List ℕ) → BitLies s (bit_of s).result
  pub broadcasters : (s : List ℕ) (at : ℕ) → BroadcasterLies s (broadcaster_step s at)
  pub nit : (s : List ℕ) → NitLies s (nit_of s)
  pub streams : (s : List ℕ) (at : ℕ) → StreamLies s (stream_step s at)
  pub tot : (s : List ℕ) → TotLies (declared_section s) (tot_of s).result
