-- The tables of sections as whole values: every field and descriptor, with their bytes, as a reader of a kept section gets them by
-- the steps of Amt, Eit, Sdt, Bit and Nit. That the steps give these values is Walks.
use Rattle.isdb_mmt.specs.declared.table.section.SectionError.{SectionError}
use Rattle.std.specs.Prelude.{ℕ, ◌+◌, List, length, Err, None, Ok, Result, Some, Option}
use Rattle.isdb_mmt.specs.Formats.Part.{part_of}
use Rattle.isdb_mmt.specs.Decoder.Kept.{declared_section}
use Rattle.isdb_mmt.specs.WholeValues.Steps.{Stood, at_end, malformed, element, Found, counted, to_end}
use Rattle.isdb_mmt.specs.WholeValues.WholeDescriptors.{WholeDescriptor, loop_in, WholeTlv, tlvs_in}
use Rattle.isdb_mmt.specs.Formats.Amt.{service_at, amt_of}
use Rattle.isdb_mmt.specs.Formats.Eit.{event_step, eit_of}
use Rattle.isdb_mmt.specs.Formats.Sdt.{service_step, sdt_of}
use Rattle.isdb_mmt.specs.Formats.Bit.{broadcaster_step, bit_of}
use Rattle.isdb_mmt.specs.Formats.Nit.{stream_step, nit_of}
use Rattle.isdb_mmt.specs.Formats.Tot.{tot_of}
use Rattle.isdb_mmt.specs.declared.part.Part.{Part}
use Rattle.isdb_mmt.specs.declared.table.section.SectionHeader.{SectionHeader}
use Rattle.isdb_mmt.specs.declared.table.amt.Amt.{Amt}
use Rattle.isdb_mmt.specs.declared.table.amt.AmtService.{AmtService}
use Rattle.isdb_mmt.specs.declared.table.eit.Eit.{Eit}
use Rattle.isdb_mmt.specs.declared.table.eit.Event.{Event}
use Rattle.isdb_mmt.specs.Formats.Steps.{EventStep}
use Rattle.isdb_mmt.specs.declared.walk_step.WalkStep.TheVariants.{End as no_event, Malformed as bad_event, Entry as event}
use Rattle.isdb_mmt.specs.declared.table.sdt.Sdt.{Sdt}
use Rattle.isdb_mmt.specs.declared.table.sdt.SdtService.{SdtService}
use Rattle.isdb_mmt.specs.Formats.Steps.{SdtStep}
use Rattle.isdb_mmt.specs.declared.walk_step.WalkStep.TheVariants.{End as no_service, Malformed as bad_service, Entry as service}
use Rattle.isdb_mmt.specs.declared.table.bit.Bit.{Bit}
use Rattle.isdb_mmt.specs.declared.table.bit.Broadcaster.{Broadcaster}
use Rattle.isdb_mmt.specs.Formats.Steps.{BroadcasterStep}
use Rattle.isdb_mmt.specs.declared.walk_step.WalkStep.TheVariants.{End as no_broadcaster, Malformed as bad_broadcaster, Entry as broadcaster}
use Rattle.isdb_mmt.specs.declared.table.nit.Nit.{Nit}
use Rattle.isdb_mmt.specs.declared.table.nit.NitStream.{NitStream}
use Rattle.isdb_mmt.specs.Formats.Steps.{StreamStep}
use Rattle.isdb_mmt.specs.declared.walk_step.WalkStep.TheVariants.{End as no_stream, Malformed as bad_stream, Entry as stream}
use Rattle.isdb_mmt.specs.declared.table.tot.Tot.{Tot}

-- something with the descriptors that stand in a part of `s`
pub record Described (A : Type 0) : Type 0 where
  pub value : A
  pub descriptors : Found WholeDescriptor

abbrev pub described : {A : Type 0} → List ℕ → Part → A → Described A
described s p x = record { value = x; descriptors = loop_in (part_of s p) }

-- the place behind a part
abbrev pub behind : Part → ℕ
behind p = p.start + p.length

-- a section's table: the header, and what is in the body
pub record InSection (A : Type 0) : Type 0 where
  pub header : SectionHeader
  pub table : A

abbrev pub in_section : {A T : Type 0} → (List ℕ → T → A) → List ℕ → SectionHeader → T → Option (InSection A)
in_section f s h t = Some (record { header = h; table = f (part_of s h.body) t })

-- AMT
abbrev pub flow_told : Option (AmtService × ℕ) → Stood AmtService
flow_told None = malformed
flow_told (Some (x, next)) = element x next

abbrev pub flow_seen : List ℕ → ℕ → Stood AmtService
flow_seen s at = flow_told (service_at s at)

abbrev pub whole_amt : List ℕ → Amt → List AmtService
whole_amt s t = (counted (flow_seen s) t.services 2).found

abbrev pub amt_told : List ℕ → Result (SectionHeader × Amt) SectionError → Option (InSection (List AmtService))
amt_told s (Err e) = None
amt_told s (Ok (h, t)) = in_section whole_amt s h t

abbrev pub amt_value : List ℕ → Option (InSection (List AmtService))
amt_value s = amt_told s (amt_of s)

-- EIT
abbrev pub event_told : List ℕ → EventStep → Stood (Described Event)
event_told s no_event = at_end
event_told s bad_event = malformed
event_told s (event e next) = element (described s e.descriptors e) next

abbrev pub event_seen : List ℕ → ℕ → Stood (Described Event)
event_seen s at = event_told s (event_step s at)

pub record WholeEit : Type 0 where
  pub eit : Eit
  pub events : List (Described Event)

abbrev pub whole_eit : List ℕ → Eit → WholeEit
whole_eit s t = record { eit = t; events = (to_end (event_seen s) (length s) 6).found }

abbrev pub eit_told : List ℕ → Result (SectionHeader × Eit) SectionError → Option (InSection WholeEit)
eit_told s (Err e) = None
eit_told s (Ok (h, t)) = in_section whole_eit s h t

abbrev pub eit_value : List ℕ → Option (InSection WholeEit)
eit_value s = eit_told s (eit_of s).result

-- SDT
abbrev pub service_told : List ℕ → SdtStep → Stood (Described SdtService)
service_told s no_service = at_end
service_told s bad_service = malformed
service_told s (service e next) = element (described s e.descriptors e) next

abbrev pub service_seen : List ℕ → ℕ → Stood (Described SdtService)
service_seen s at = service_told s (service_step s at)

pub record WholeSdt : Type 0 where
  pub sdt : Sdt
  pub services : List (Described SdtService)

abbrev pub whole_sdt : List ℕ → Sdt → WholeSdt
whole_sdt s t = record { sdt = t; services = (to_end (service_seen s) (length s) 3).found }

abbrev pub sdt_told : List ℕ → Result (SectionHeader × Sdt) SectionError → Option (InSection WholeSdt)
sdt_told s (Err e) = None
sdt_told s (Ok (h, t)) = in_section whole_sdt s h t

abbrev pub sdt_value : List ℕ → Option (InSection WholeSdt)
sdt_value s = sdt_told s (sdt_of s).result

-- BIT: broadcasters stand behind the first descriptor loop
abbrev pub broadcaster_told : List ℕ → BroadcasterStep → Stood (Described Broadcaster)
broadcaster_told s no_broadcaster = at_end
broadcaster_told s bad_broadcaster = malformed
broadcaster_told s (broadcaster e next) = element (described s e.descriptors e) next

abbrev pub broadcaster_seen : List ℕ → ℕ → Stood (Described Broadcaster)
broadcaster_seen s at = broadcaster_told s (broadcaster_step s at)

pub record WholeBit : Type 0 where
  pub bit : Described Bit
  pub broadcasters : List (Described Broadcaster)

abbrev pub whole_bit : List ℕ → Bit → WholeBit
whole_bit s t =
    record {
      bit = described s t.descriptors t;
      broadcasters = (to_end (broadcaster_seen s) (length s) (behind t.descriptors)).found;
    }

abbrev pub bit_told : List ℕ → Result (SectionHeader × Bit) SectionError → Option (InSection WholeBit)
bit_told s (Err e) = None
bit_told s (Ok (h, t)) = in_section whole_bit s h t

abbrev pub bit_value : List ℕ → Option (InSection WholeBit)
bit_value s = bit_told s (bit_of s).result

-- NIT: TLV-SI descriptors, and streams in bytes of their own
pub record WholeStream : Type 0 where
  pub stream : NitStream
  pub descriptors : List WholeTlv

abbrev pub whole_stream : List ℕ → NitStream → WholeStream
whole_stream s x = record { stream = x; descriptors = tlvs_in (part_of s x.descriptors) }

abbrev pub stream_told : List ℕ → StreamStep → Stood WholeStream
stream_told s no_stream = at_end
stream_told s bad_stream = malformed
stream_told s (stream x next) = element (whole_stream s x) next

abbrev pub stream_seen : List ℕ → ℕ → Stood WholeStream
stream_seen s at = stream_told s (stream_step s at)

abbrev pub streams_in : List ℕ → List WholeStream
streams_in s = (to_end (stream_seen s) (length s) 0).found

pub record WholeNit : Type 0 where
  pub nit : Nit
  pub descriptors : List WholeTlv
  pub streams : List WholeStream

abbrev pub whole_nit : List ℕ → Nit → WholeNit
whole_nit s t =
    record {
      nit = t;
      descriptors = tlvs_in (part_of s t.descriptors);
      streams = streams_in (part_of s t.loop_part);
    }

abbrev pub nit_told : List ℕ → Result (SectionHeader × Nit) SectionError → Option (InSection WholeNit)
nit_told s (Err e) = None
nit_told s (Ok (h, t)) = in_section whole_nit s h t

abbrev pub nit_value : List ℕ → Option (InSection WholeNit)
nit_value s = nit_told s (nit_of s)

-- TOT: a section of the short form
abbrev pub whole_tot : List ℕ → Tot → Described Tot
whole_tot s t = described s t.descriptors t

abbrev pub tot_told : List ℕ → Result Tot SectionError → Option (Described Tot)
tot_told s (Err e) = None
tot_told s (Ok t) = Some (whole_tot s t)

abbrev pub tot_value : List ℕ → Option (Described Tot)
tot_value s = tot_told (declared_section s) (tot_of s).result
