-- Tables as a host sees them: the numbers of each answer, in their order.
use Rattle.isdb_mmt.specs.declared.table.section.Parsed.{Parsed}
use Rattle.isdb_mmt.specs.declared.table.tot.Tot.{Tot}
use Rattle.isdb_mmt.specs.declared.table.amt.AmtService.{AmtService}
use Rattle.isdb_mmt.specs.declared.table.amt.Amt.{Amt}
use Rattle.isdb_mmt.specs.declared.table.nit.Nit.{Nit}
use Rattle.isdb_mmt.specs.declared.table.bit.Bit.{Bit}
use Rattle.isdb_mmt.specs.declared.table.sdt.Sdt.{Sdt}
use Rattle.isdb_mmt.specs.declared.table.section.SectionError.{SectionError}
use Rattle.isdb_mmt.specs.declared.table.eit.Eit.{Eit}
use Rattle.isdb_mmt.specs.declared.table.plt.IpDelivery.{IpDelivery}
use Rattle.isdb_mmt.specs.declared.table.plt.Package.{Package}
use Rattle.isdb_mmt.specs.declared.table.plt.Plt.{Plt}
use Rattle.std.specs.Prelude.{ℕ, List, [], ◌∷◌, Err, None, Ok, Option, Result, Some, unwrap_or}
use Rattle.isdb_mmt.specs.Formats.Mpt.{service_id_of, first_packet_id, locations_of}
use Rattle.isdb_mmt.specs.declared.part.Part.{Part}
use Rattle.isdb_mmt.specs.declared.table.mpt.Mpt.{Mpt}
use Rattle.isdb_mmt.specs.declared.table.mpt.MptParsed.{MptParsed}
use Rattle.isdb_mmt.specs.declared.table.mpt.Asset.{Asset}
use Rattle.isdb_mmt.specs.declared.table.section.SectionHeader.{SectionHeader}
use Rattle.isdb_mmt.specs.Formats.Steps.{EventStep}
use Rattle.isdb_mmt.specs.declared.walk_step.WalkStep.TheVariants.{End as no_event, Malformed as broken_event, Entry as one_event}
use Rattle.isdb_mmt.specs.Formats.Steps.{SdtStep}
use Rattle.isdb_mmt.specs.declared.walk_step.WalkStep.TheVariants.{End as no_service, Malformed as broken_service, Entry as one_service}
use Rattle.isdb_mmt.specs.Formats.Steps.{BroadcasterStep}
use Rattle.isdb_mmt.specs.declared.walk_step.WalkStep.TheVariants.{End as no_broadcaster, Malformed as broken_broadcaster, Entry as one_broadcaster}
use Rattle.isdb_mmt.specs.Formats.Steps.{StreamStep}
use Rattle.isdb_mmt.specs.declared.walk_step.WalkStep.TheVariants.{End as no_stream, Malformed as broken_stream, Entry as one_stream}
use Rattle.isdb_host.specs.Values.{found_said, Reply, says, code, nothing, malformed}
use Rattle.isdb_mmt.specs.Formats.Maybe.{flag_of, given}
use Rattle.isdb_host.specs.Fields.{wide_address, address_high, address_low, reason_of}

-- a part by its place: start and length
abbrev pub placed : Part → List ℕ → List ℕ
placed p xs = p.start ∷ p.length ∷ xs

-- ---- MPT

abbrev pub mpt_numbers : List ℕ → Mpt → ℕ → List ℕ
mpt_numbers s m breaks =
    m.table_id ∷ m.version ∷ m.mode ∷ placed m.package_id (placed m.descriptors
    (m.assets ∷ m.start ∷ given (service_id_of s m.package_id) ∷ unwrap_or (service_id_of s m.package_id) 0 ∷ breaks ∷ []))

abbrev pub mpt_in : List ℕ → Option Mpt → ℕ → Reply
mpt_in s None breaks = malformed
mpt_in s (Some m) breaks = says (mpt_numbers s m breaks)

abbrev pub mpt_said : List ℕ → MptParsed → Reply
mpt_said s p = mpt_in s p.mpt p.breaks

-- the packet id of an asset's first location that has one
abbrev pub asset_numbers : List ℕ → Asset → ℕ → List ℕ
asset_numbers s a next =
    a.identifier_type ∷ a.asset_id_scheme ∷ placed a.asset_id (a.asset_type ∷ flag_of a.clock_relation ∷ a.locations
    ∷ a.locations_start ∷ placed a.descriptors
    (given (first_packet_id (locations_of a.locations s a.locations_start))
    ∷ unwrap_or (first_packet_id (locations_of a.locations s a.locations_start)) 0 ∷ next ∷ []))

abbrev pub asset_said : List ℕ → Option (Asset × ℕ) → Reply
asset_said s None = malformed
asset_said s (Some (a, next)) = says (asset_numbers s a next)

-- ---- PLT

abbrev pub plt_numbers : Plt → List ℕ
plt_numbers p = p.version ∷ p.packages ∷ p.ip_deliveries ∷ p.deliveries_start ∷ []

abbrev pub plt_said : Option Plt → Reply
plt_said = found_said plt_numbers malformed

abbrev pub package_numbers : Package × ℕ → List ℕ
package_numbers (p, next) = placed p.package_id (p.location_start ∷ next ∷ [])

abbrev pub package_said : Option (Package × ℕ) → Reply
package_said = found_said package_numbers malformed

abbrev pub delivery_numbers : IpDelivery × ℕ → List ℕ
delivery_numbers (d, next) = d.transport_file_id ∷ d.location_type ∷ next ∷ []

abbrev pub delivery_said : Option (IpDelivery × ℕ) → Reply
delivery_said = found_said delivery_numbers malformed

-- ---- sections

-- a section's header, and numbers behind it
abbrev pub headed : SectionHeader → List ℕ → List ℕ
headed h xs =
    h.table_id ∷ h.extension ∷ h.version ∷ flag_of h.current ∷ h.section_number ∷ h.last_section_number ∷ placed h.body xs

abbrev pub eit_in : Result (SectionHeader × Eit) SectionError → ℕ → Reply
eit_in (Err e) breaks = code (reason_of e)
eit_in (Ok (h, t)) breaks =
    says (headed h
    (t.tlv_stream_id ∷ t.original_network_id ∷ t.segment_last_section_number ∷ t.last_table_id ∷ t.events ∷ breaks ∷ []))

abbrev pub eit_said : Parsed (SectionHeader × Eit) → Reply
eit_said p = eit_in p.result p.breaks

abbrev pub sdt_in : Result (SectionHeader × Sdt) SectionError → ℕ → Reply
sdt_in (Err e) breaks = code (reason_of e)
sdt_in (Ok (h, t)) breaks = says (headed h (t.original_network_id ∷ t.services ∷ breaks ∷ []))

abbrev pub sdt_said : Parsed (SectionHeader × Sdt) → Reply
sdt_said p = sdt_in p.result p.breaks

abbrev pub bit_in : Result (SectionHeader × Bit) SectionError → ℕ → Reply
bit_in (Err e) breaks = code (reason_of e)
bit_in (Ok (h, t)) breaks =
    says (headed h (flag_of t.broadcast_view_propriety ∷ placed t.descriptors (t.broadcasters ∷ breaks ∷ [])))

abbrev pub bit_said : Parsed (SectionHeader × Bit) → Reply
bit_said p = bit_in p.result p.breaks

abbrev pub nit_said : Result (SectionHeader × Nit) SectionError → Reply
nit_said (Err e) = code (reason_of e)
nit_said (Ok (h, t)) = says (headed h (placed t.descriptors (placed t.loop_part (t.streams ∷ []))))

abbrev pub amt_said : Result (SectionHeader × Amt) SectionError → Reply
amt_said (Err e) = code (reason_of e)
amt_said (Ok (h, t)) = says (headed h (t.services ∷ []))

abbrev pub tot_in : Result Tot SectionError → ℕ → Reply
tot_in (Err e) breaks = code (reason_of e)
tot_in (Ok t) breaks = says (t.jst ∷ placed t.descriptors (breaks ∷ []))

abbrev pub tot_said : Parsed Tot → Reply
tot_said p = tot_in p.result p.breaks

-- ---- entries of their loops

abbrev pub event_said : EventStep → Reply
event_said no_event = nothing
event_said broken_event = malformed
event_said (one_event e next) =
    says (e.event_id ∷ e.start ∷ e.duration ∷ e.running_status ∷ flag_of e.free_ca ∷ placed e.descriptors (next ∷ []))

abbrev pub service_said : SdtStep → Reply
service_said no_service = nothing
service_said broken_service = malformed
service_said (one_service s next) =
    says (s.service_id ∷ s.eit_user_defined_flags ∷ flag_of s.eit_schedule ∷ flag_of s.eit_present_following
    ∷ s.running_status ∷ flag_of s.free_ca ∷ placed s.descriptors (next ∷ []))

abbrev pub broadcaster_said : BroadcasterStep → Reply
broadcaster_said no_broadcaster = nothing
broadcaster_said broken_broadcaster = malformed
broadcaster_said (one_broadcaster b next) = says (b.broadcaster_id ∷ placed b.descriptors (next ∷ []))

abbrev pub stream_said : StreamStep → Reply
stream_said no_stream = nothing
stream_said broken_stream = malformed
stream_said (one_stream s next) = says (s.tlv_stream_id ∷ s.original_network_id ∷ placed s.descriptors (next ∷ []))

-- both addresses of a flow are of one kind
abbrev pub amt_service_numbers : AmtService × ℕ → List ℕ
amt_service_numbers (s, next) = s.service_id ∷ wide_address s.src ∷ address_high s.src ∷ address_low s.src ∷ s.src_mask
    ∷ address_high s.dst ∷ address_low s.dst ∷ s.dst_mask ∷ next ∷ []

abbrev pub flow_said : Option (AmtService × ℕ) → Reply
flow_said = found_said amt_service_numbers malformed
