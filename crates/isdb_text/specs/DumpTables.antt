-- The kept tables as `feeddump` writes them. A table that does not parse has no text; none such is kept.
use Rattle.isdb_mmt.specs.declared.table.section.SectionError.{SectionError}
use Rattle.std.specs.Prelude.{ℕ, ◌+◌, ◌/◌, ◌%◌, List, [], ◌∷◌, ◌++◌, drop, Err, None, Ok, Option, Result, Some}
use Rattle.isdb_mmt.specs.Formats.Part.{part_of}
use Rattle.isdb_mmt.specs.Formats.Location.{location_of}
use Rattle.isdb_mmt.specs.Formats.Section.{length12}
use Rattle.isdb_mmt.specs.Formats.Amt.{service_at, amt_of}
use Rattle.isdb_mmt.specs.Formats.Tot.{tot_of}
use Rattle.isdb_mmt.specs.Formats.Sdt.{service_step, sdt_of}
use Rattle.isdb_mmt.specs.Formats.Eit.{event_step, eit_of}
use Rattle.isdb_mmt.specs.Formats.Bit.{broadcaster_step, bit_of}
use Rattle.isdb_mmt.specs.Formats.Nit.{stream_step, nit_of}
use Rattle.isdb_mmt.specs.Formats.Plt.{package_at_of, delivery_at_of, plt_of}
use Rattle.isdb_mmt.specs.Formats.Mpt.{asset_at_of, mpt_of, service_id_of, first_packet_id, locations_of, component_tag_of}
use Rattle.isdb_mmt.specs.declared.location.Location.{Location}
use Rattle.isdb_mmt.specs.declared.table.section.SectionHeader.{SectionHeader}
use Rattle.isdb_mmt.specs.declared.table.amt.Amt.{Amt}
use Rattle.isdb_mmt.specs.declared.table.amt.AmtService.{AmtService}
use Rattle.isdb_mmt.specs.declared.table.tot.Tot.{Tot}
use Rattle.isdb_mmt.specs.declared.table.sdt.Sdt.{Sdt}
use Rattle.isdb_mmt.specs.declared.table.sdt.SdtService.{SdtService}
use Rattle.isdb_mmt.specs.Formats.Steps.{SdtStep}
use Rattle.isdb_mmt.specs.declared.walk_step.WalkStep.TheVariants.{End as no_service, Malformed as broken_service, Entry as service}
use Rattle.isdb_mmt.specs.declared.table.eit.Eit.{Eit}
use Rattle.isdb_mmt.specs.declared.table.eit.Event.{Event}
use Rattle.isdb_mmt.specs.Formats.Steps.{EventStep}
use Rattle.isdb_mmt.specs.declared.walk_step.WalkStep.TheVariants.{End as no_event, Malformed as broken_event, Entry as event}
use Rattle.isdb_mmt.specs.declared.table.bit.Bit.{Bit}
use Rattle.isdb_mmt.specs.declared.table.bit.Broadcaster.{Broadcaster}
use Rattle.isdb_mmt.specs.Formats.Steps.{BroadcasterStep}
use Rattle.isdb_mmt.specs.declared.walk_step.WalkStep.TheVariants.{End as no_broadcaster, Malformed as broken_broadcaster, Entry as broadcaster}
use Rattle.isdb_mmt.specs.declared.table.nit.Nit.{Nit}
use Rattle.isdb_mmt.specs.declared.table.nit.NitStream.{NitStream}
use Rattle.isdb_mmt.specs.Formats.Steps.{StreamStep}
use Rattle.isdb_mmt.specs.declared.walk_step.WalkStep.TheVariants.{End as no_stream, Malformed as broken_stream, Entry as stream}
use Rattle.isdb_mmt.specs.declared.table.plt.Plt.{Plt}
use Rattle.isdb_mmt.specs.declared.table.plt.Package.{Package}
use Rattle.isdb_mmt.specs.declared.table.plt.IpDelivery.{IpDelivery}
use Rattle.isdb_mmt.specs.declared.table.mpt.Mpt.{Mpt}
use Rattle.isdb_mmt.specs.declared.table.mpt.Asset.{Asset}
use Rattle.isdb_text.specs.Text.{ascii, bytes_as_hex}
use Rattle.isdb_text.specs.Fill.{filled}
use Rattle.isdb_text.specs.Elements.{Element, ended, element, texts}
use Rattle.isdb_mmt.specs.Formats.Maybe.{flag_of}
use Rattle.isdb_text.specs.DumpDescriptors.{maybe_text, address_text, location_text, descriptors_text, tlvs_text}

-- the key of a section's place, then the kept section's own header
unfoldable pub key_text : ℕ → SectionHeader → List ℕ
key_text key h =
    filled (ascii "key 0x%% # # header 0x%% # # last_section_number # version # current #")
    (key / 0x1000000 ∷ key / 0x100 % 0x10000 ∷ key % 0x100
    ∷ h.table_id ∷ h.extension ∷ h.section_number ∷ h.last_section_number ∷ h.version ∷ flag_of h.current ∷ [])

-- ---- AMT

unfoldable pub flow_text : AmtService → List ℕ
flow_text f =
    filled (ascii "  service # src ") (f.service_id ∷ []) ++ (address_text f.src
    ++ (filled (ascii " mask # dst ") (f.src_mask ∷ []) ++ (address_text f.dst ++ filled (ascii " mask #\n") (f.dst_mask ∷ []))))

abbrev pub flow_element : Option (AmtService × ℕ) → Element
flow_element None = ended
flow_element (Some (f, next)) = element (flow_text f) next

-- `n` services at most of a section's body, from a place on
abbrev pub flows_text : List ℕ → ℕ → ℕ → List ℕ
flows_text s n from = texts (λ at. flow_element (service_at s at)) n from

unfoldable pub amt_table : ℕ → SectionHeader → Amt → List ℕ → List ℕ
amt_table key h t s = ascii "amt " ++ (key_text key h ++ (ascii "\n" ++ flows_text s t.services 2))

abbrev pub amt_given : ℕ → List ℕ → Result (SectionHeader × Amt) SectionError → List ℕ
amt_given key s (Err e) = []
amt_given key s (Ok (h, t)) = amt_table key h t (part_of s h.body)

unfoldable pub amt_text : ℕ → List ℕ → List ℕ
amt_text key s = amt_given key s (amt_of s)

-- ---- TOT

unfoldable pub tot_table : List ℕ → Tot → List ℕ
tot_table s t = filled (ascii "tot jst %%%%%%%%%%\n") (t.jst ∷ []) ++ descriptors_text (ascii "  ") (part_of s t.descriptors)

abbrev pub tot_given : List ℕ → Result Tot SectionError → List ℕ
tot_given s (Err e) = []
tot_given s (Ok t) = tot_table s t

unfoldable pub tot_text : List ℕ → List ℕ
tot_text s = tot_given s (tot_of s).result

-- ---- SDT

unfoldable pub service_text : List ℕ → SdtService → List ℕ
service_text s e =
    filled (ascii "  service # eit_user_defined_flags # eit_schedule # eit_present_following # running_status # free_ca #\n")
    (e.service_id ∷ e.eit_user_defined_flags ∷ flag_of e.eit_schedule ∷ flag_of e.eit_present_following
    ∷ e.running_status ∷ flag_of e.free_ca ∷ [])
    ++ descriptors_text (ascii "    ") (part_of s e.descriptors)

abbrev pub service_element : List ℕ → SdtStep → Element
service_element s no_service = ended
service_element s broken_service = ended
service_element s (service e next) = element (service_text s e) next

abbrev pub services_text : List ℕ → ℕ → ℕ → List ℕ
services_text s n from = texts (λ at. service_element s (service_step s at)) n from

unfoldable pub sdt_table : ℕ → SectionHeader → Sdt → List ℕ → List ℕ
sdt_table key h t s =
    ascii "sdt " ++ (key_text key h
    ++ (filled (ascii " original_network_id #\n") (t.original_network_id ∷ []) ++ services_text s t.services 3))

abbrev pub sdt_given : ℕ → List ℕ → Result (SectionHeader × Sdt) SectionError → List ℕ
sdt_given key s (Err e) = []
sdt_given key s (Ok (h, t)) = sdt_table key h t (part_of s h.body)

unfoldable pub sdt_text : ℕ → List ℕ → List ℕ
sdt_text key s = sdt_given key s (sdt_of s).result

-- ---- EIT

unfoldable pub event_text : List ℕ → Event → List ℕ
event_text s e =
    filled (ascii "  event # start %%%%%%%%%% duration %%%%%% running_status # free_ca #\n")
    (e.event_id ∷ e.start ∷ e.duration ∷ e.running_status ∷ flag_of e.free_ca ∷ [])
    ++ descriptors_text (ascii "    ") (part_of s e.descriptors)

abbrev pub event_element : List ℕ → EventStep → Element
event_element s no_event = ended
event_element s broken_event = ended
event_element s (event e next) = element (event_text s e) next

abbrev pub events_text : List ℕ → ℕ → ℕ → List ℕ
events_text s n from = texts (λ at. event_element s (event_step s at)) n from

unfoldable pub eit_fields : Eit → List ℕ
eit_fields t =
    filled (ascii " tlv_stream_id # original_network_id # segment_last_section_number # last_table_id #\n")
    (t.tlv_stream_id ∷ t.original_network_id ∷ t.segment_last_section_number ∷ t.last_table_id ∷ [])

unfoldable pub eit_table : ℕ → SectionHeader → Eit → List ℕ → List ℕ
eit_table key h t s = ascii "eit " ++ (key_text key h ++ (eit_fields t ++ events_text s t.events 6))

abbrev pub eit_given : ℕ → List ℕ → Result (SectionHeader × Eit) SectionError → List ℕ
eit_given key s (Err e) = []
eit_given key s (Ok (h, t)) = eit_table key h t (part_of s h.body)

unfoldable pub eit_text : ℕ → List ℕ → List ℕ
eit_text key s = eit_given key s (eit_of s).result

-- ---- BIT: broadcasters stand behind the first descriptor loop

unfoldable pub broadcaster_text : List ℕ → Broadcaster → List ℕ
broadcaster_text s e =
    filled (ascii "  broadcaster #\n") (e.broadcaster_id ∷ []) ++ descriptors_text (ascii "    ") (part_of s e.descriptors)

abbrev pub broadcaster_element : List ℕ → BroadcasterStep → Element
broadcaster_element s no_broadcaster = ended
broadcaster_element s broken_broadcaster = ended
broadcaster_element s (broadcaster e next) = element (broadcaster_text s e) next

abbrev pub broadcasters_text : List ℕ → ℕ → ℕ → List ℕ
broadcasters_text s n from = texts (λ at. broadcaster_element s (broadcaster_step s at)) n from

unfoldable pub bit_table : ℕ → SectionHeader → Bit → List ℕ → List ℕ
bit_table key h t s =
    ascii "bit " ++ (key_text key h
    ++ (filled (ascii " broadcast_view_propriety #\n") (flag_of t.broadcast_view_propriety ∷ [])
    ++ (descriptors_text (ascii "  ") (part_of s t.descriptors) ++ broadcasters_text s t.broadcasters (length12 s 0 + 2))))

abbrev pub bit_given : ℕ → List ℕ → Result (SectionHeader × Bit) SectionError → List ℕ
bit_given key s (Err e) = []
bit_given key s (Ok (h, t)) = bit_table key h t (part_of s h.body)

unfoldable pub bit_text : ℕ → List ℕ → List ℕ
bit_text key s = bit_given key s (bit_of s).result

-- ---- NIT: the streams stand in a part of their own

unfoldable pub stream_text : List ℕ → NitStream → List ℕ
stream_text s e =
    filled (ascii "  stream # original_network_id #\n") (e.tlv_stream_id ∷ e.original_network_id ∷ [])
    ++ tlvs_text (ascii "    ") (part_of s e.descriptors)

abbrev pub stream_element : List ℕ → StreamStep → Element
stream_element s no_stream = ended
stream_element s broken_stream = ended
stream_element s (stream e next) = element (stream_text s e) next

abbrev pub streams_text : List ℕ → ℕ → ℕ → List ℕ
streams_text s n from = texts (λ at. stream_element s (stream_step s at)) n from

unfoldable pub nit_table : ℕ → SectionHeader → Nit → List ℕ → List ℕ
nit_table key h t s =
    ascii "nit " ++ (key_text key h ++ (ascii "\n"
    ++ (tlvs_text (ascii "  ") (part_of s t.descriptors) ++ streams_text (part_of s t.loop_part) t.streams 0)))

abbrev pub nit_given : ℕ → List ℕ → Result (SectionHeader × Nit) SectionError → List ℕ
nit_given key s (Err e) = []
nit_given key s (Ok (h, t)) = nit_table key h t (part_of s h.body)

unfoldable pub nit_text : ℕ → List ℕ → List ℕ
nit_text key s = nit_given key s (nit_of s)

-- ---- PLT

unfoldable pub package_text : List ℕ → Package → List ℕ
package_text s p =
    ascii "  package " ++ (bytes_as_hex (part_of s p.package_id)
    ++ (ascii " location " ++ (location_text (drop p.location_start s) p.location ++ ascii "\n")))

abbrev pub package_element : List ℕ → Option (Package × ℕ) → Element
package_element s None = ended
package_element s (Some (p, next)) = element (package_text s p) next

abbrev pub packages_text : List ℕ → ℕ → ℕ → List ℕ
packages_text s n from = texts (λ at. package_element s (package_at_of s at)) n from

abbrev pub delivery_text : IpDelivery → List ℕ
delivery_text d = filled (ascii "  ip_delivery # location_type #\n") (d.transport_file_id ∷ d.location_type ∷ [])

abbrev pub delivery_element : Option (IpDelivery × ℕ) → Element
delivery_element None = ended
delivery_element (Some (d, next)) = element (delivery_text d) next

abbrev pub deliveries_text : List ℕ → ℕ → ℕ → List ℕ
deliveries_text s n from = texts (λ at. delivery_element (delivery_at_of s at)) n from

unfoldable pub plt_table : List ℕ → Plt → List ℕ
plt_table s t =
    filled (ascii "plt version #\n") (t.version ∷ [])
    ++ (packages_text s t.packages 5 ++ deliveries_text s t.ip_deliveries t.deliveries_start)

abbrev pub plt_given : List ℕ → Option Plt → List ℕ
plt_given s None = []
plt_given s (Some t) = plt_table s t

unfoldable pub plt_text : List ℕ → List ℕ
plt_text s = plt_given s (plt_of s)

-- ---- MPT

unfoldable pub location_line : List ℕ → Location → List ℕ
location_line s l = ascii "    location " ++ (location_text s l ++ ascii "\n")

abbrev pub location_element : List ℕ → ℕ → Option (Location × ℕ) → Element
location_element s at None = ended
location_element s at (Some (l, taken)) = element (location_line (drop at s) l) (at + taken)

abbrev pub locations_text : List ℕ → ℕ → ℕ → List ℕ
locations_text s n from = texts (λ at. location_element s at (location_of (drop at s))) n from

-- the line of an asset: its own fields, then what its locations and descriptors tell
unfoldable pub asset_fields : List ℕ → Asset → List ℕ
asset_fields s a =
    filled (ascii "  asset identifier_type # scheme # id ") (a.identifier_type ∷ a.asset_id_scheme ∷ [])
    ++ (bytes_as_hex (part_of s a.asset_id)
    ++ filled (ascii " type %%%%%%%% clock_relation # packet_id ") (a.asset_type ∷ flag_of a.clock_relation ∷ []))

unfoldable pub asset_line : List ℕ → Asset → List ℕ
asset_line s a =
    asset_fields s a ++ (maybe_text (first_packet_id (locations_of a.locations s a.locations_start))
    ++ (ascii " component_tag " ++ (maybe_text (component_tag_of (part_of s a.descriptors)) ++ ascii "\n")))

unfoldable pub asset_text : List ℕ → Asset → List ℕ
asset_text s a =
    asset_line s a ++ (locations_text s a.locations a.locations_start ++ descriptors_text (ascii "    ") (part_of s a.descriptors))

abbrev pub asset_element : List ℕ → Option (Asset × ℕ) → Element
asset_element s None = ended
asset_element s (Some (a, next)) = element (asset_text s a) next

abbrev pub assets_text : List ℕ → ℕ → ℕ → List ℕ
assets_text s n from = texts (λ at. asset_element s (asset_at_of s at)) n from

unfoldable pub mpt_line : ℕ → List ℕ → Mpt → List ℕ
mpt_line control s t =
    filled (ascii "mpt # table_id 0x%% version # mode # package_id ") (control ∷ t.table_id ∷ t.version ∷ t.mode ∷ [])
    ++ (bytes_as_hex (part_of s t.package_id) ++ (ascii " service_id " ++ (maybe_text (service_id_of s t.package_id) ++ ascii "\n")))

unfoldable pub mpt_table : ℕ → List ℕ → Mpt → List ℕ
mpt_table control s t =
    mpt_line control s t ++ (descriptors_text (ascii "  ") (part_of s t.descriptors) ++ assets_text s t.assets t.start)

abbrev pub mpt_given : ℕ → List ℕ → Option Mpt → List ℕ
mpt_given control s None = []
mpt_given control s (Some t) = mpt_table control s t

unfoldable pub mpt_text : ℕ → List ℕ → List ℕ
mpt_text control s = mpt_given control s (mpt_of s).mpt
