-- Locations and descriptors as a host sees them: the numbers of each answer, in their order.
use Rattle.std.specs.Prelude.{ℕ, List, [], ◌∷◌, None, Option, Some, unwrap_or}
use Rattle.isdb_tlv.specs.Guards.{◌=?◌, ◌≠?◌}
use Rattle.std.specs.Prelude.{if◌then◌else◌}
use Rattle.isdb_tlv.specs.declared.ip.Address.{Address}
use Rattle.isdb_tlv.specs.declared.ip.Address.TheVariants.{V4, V6}
use Rattle.isdb_mmt.specs.declared.part.Part.{Part}
use Rattle.isdb_mmt.specs.declared.location.Location.{Location}
use Rattle.isdb_mmt.specs.declared.location.Location.TheVariants.{SameFlow, Ipv4, Ipv6, Mpeg2Ts, Mpeg2TsIpv6, Url}
use Rattle.isdb_mmt.specs.declared.desc.Step.{Step}
use Rattle.isdb_mmt.specs.declared.desc.Step.TheVariants.{End as no_descriptor, Broken as broken_descriptor, Raw as one_descriptor}
use Rattle.isdb_mmt.specs.declared.desc.Language.{Language}
use Rattle.isdb_mmt.specs.declared.desc.Descriptor.{Descriptor}
use Rattle.isdb_mmt.specs.declared.desc.Descriptor.TheVariants.{MpuTimestamp, ExtendedTimestamp, AccessControl, Scrambler, StreamIdentifier, Service, ServiceList, ShortEvent, Content, Hevc, BroadcasterName, Other}
use Rattle.isdb_mmt.specs.declared.desc.ListedService.{ListedService}
use Rattle.isdb_mmt.specs.declared.desc.Genre.{Genre}
use Rattle.isdb_mmt.specs.declared.table.nit.TlvDescriptor.{TlvDescriptor}
use Rattle.isdb_mmt.specs.declared.timestamp.MpuPresentation.{MpuPresentation}
use Rattle.isdb_mmt.specs.declared.timestamp.Extended.{Extended}
use Rattle.isdb_mmt.specs.Formats.Steps.{MpuStep}
use Rattle.isdb_mmt.specs.declared.walk_step.WalkStep.TheVariants.{End as no_mpu, Malformed as broken_mpu, Entry as one_mpu}
use Rattle.isdb_mmt.specs.declared.timestamp.AccessUnit.{AccessUnit}
use Rattle.isdb_host.specs.Values.{found_said, one_number, Reply, says, nothing, malformed}
use Rattle.isdb_mmt.specs.Formats.Maybe.{flag_of, given}
use Rattle.isdb_host.specs.Fields.{address_high, address_low}
use Rattle.isdb_host.specs.Tables.{placed}

-- ---- locations

-- type, source and destination in halves, port, packet id, network id, transport stream id, PID field, a URL's place, size;
-- what a type does not have is 0
abbrev pub flow_numbers : ℕ → Address → Address → ℕ → ℕ → ℕ → List ℕ
flow_numbers type src dst port id size =
    type ∷ address_high src ∷ address_low src ∷ address_high dst ∷ address_low dst ∷ port ∷ id ∷ 0 ∷ 0 ∷ 0 ∷ 0 ∷ 0 ∷ size ∷ []

abbrev pub ts_numbers : ℕ → ℕ → ℕ → ℕ → ℕ → ℕ → List ℕ
ts_numbers type port network stream pid size =
    type ∷ 0 ∷ 0 ∷ 0 ∷ 0 ∷ port ∷ 0 ∷ network ∷ stream ∷ pid ∷ 0 ∷ 0 ∷ size ∷ []

abbrev pub url_numbers : Part → ℕ → List ℕ
url_numbers url size = 5 ∷ 0 ∷ 0 ∷ 0 ∷ 0 ∷ 0 ∷ 0 ∷ 0 ∷ 0 ∷ 0 ∷ placed url (size ∷ [])

abbrev pub location_numbers : Location → ℕ → List ℕ
location_numbers (SameFlow id) n = flow_numbers 0 (V4 0) (V4 0) 0 id n
location_numbers (Ipv4 src dst port id) n = flow_numbers 1 (V4 src) (V4 dst) port id n
location_numbers (Ipv6 sh sl dh dl port id) n = flow_numbers 2 (V6 sh sl) (V6 dh dl) port id n
location_numbers (Mpeg2Ts network stream pid) n = ts_numbers 3 0 network stream pid n
location_numbers (Mpeg2TsIpv6 port pid) n = ts_numbers 4 port 0 0 pid n
location_numbers (Url url) n = url_numbers url n

abbrev pub sized_numbers : Location × ℕ → List ℕ
sized_numbers (l, n) = location_numbers l n

abbrev pub location_said : Option (Location × ℕ) → Reply
location_said = found_said sized_numbers malformed

-- ---- descriptor loops

abbrev pub descriptor_said : Step → Reply
descriptor_said no_descriptor = nothing
descriptor_said (broken_descriptor at) = malformed
descriptor_said (one_descriptor tag body next) = says (tag ∷ placed body (next ∷ []))

abbrev pub tlv_numbers : TlvDescriptor × ℕ → List ℕ
tlv_numbers (d, next) = d.tag ∷ placed d.body (next ∷ [])

abbrev pub tlv_said : Option (TlvDescriptor × ℕ) → Reply
tlv_said = found_said tlv_numbers nothing

abbrev pub frequency_said : Option ℕ → Reply
frequency_said = found_said one_number nothing

-- ---- descriptors, by kind; parts count in the body

abbrev pub extended_numbers : Extended → List ℕ
extended_numbers e =
    2 ∷ given e.timescale ∷ unwrap_or e.timescale 0 ∷ given e.default_pts_offset ∷ unwrap_or e.default_pts_offset 0
    ∷ flag_of e.own_pts_offset ∷ e.start ∷ []

abbrev pub service_numbers : ℕ → Part → Part → List ℕ
service_numbers type provider name = 6 ∷ type ∷ placed provider (placed name [])

abbrev pub short_event_numbers : Language → Part → Part → List ℕ
short_event_numbers l name text = 8 ∷ l.first ∷ l.second ∷ l.third ∷ placed name (placed text [])

abbrev pub descriptor_numbers : Descriptor → List ℕ
descriptor_numbers (Other tag body) = 0 ∷ []
descriptor_numbers MpuTimestamp = 1 ∷ []
descriptor_numbers (ExtendedTimestamp e) = extended_numbers e
descriptor_numbers (AccessControl system l) = 3 ∷ system ∷ given l ∷ []
descriptor_numbers (Scrambler layer system) = 4 ∷ layer ∷ system ∷ []
descriptor_numbers (StreamIdentifier tag) = 5 ∷ tag ∷ []
descriptor_numbers (Service type provider name) = service_numbers type provider name
descriptor_numbers ServiceList = 7 ∷ []
descriptor_numbers (ShortEvent l name text) = short_event_numbers l name text
descriptor_numbers Content = 9 ∷ []
descriptor_numbers (Hevc profile tier level) = 10 ∷ profile ∷ flag_of tier ∷ level ∷ []
descriptor_numbers (BroadcasterName name) = 11 ∷ placed name []

abbrev pub decode_said : Descriptor → Reply
decode_said d = says (descriptor_numbers d)

-- ---- their entries

abbrev pub timestamp_numbers : MpuPresentation × ℕ → List ℕ
timestamp_numbers (x, next) = x.mpu_sequence_number ∷ x.presentation_time ∷ next ∷ []

abbrev pub timestamp_said : Option (MpuPresentation × ℕ) → Reply
timestamp_said = found_said timestamp_numbers nothing

abbrev pub mpu_said : MpuStep → Reply
mpu_said no_mpu = nothing
mpu_said broken_mpu = malformed
mpu_said (one_mpu m next) =
    says (m.mpu_sequence_number ∷ m.leap_indicator ∷ m.decoding_time_offset ∷ m.access_units ∷ placed m.units (next ∷ []))

abbrev pub access_unit_numbers : AccessUnit × ℕ → List ℕ
access_unit_numbers (u, next) = u.dts_pts_offset ∷ given u.pts_offset ∷ unwrap_or u.pts_offset 0 ∷ next ∷ []

abbrev pub access_unit_said : Option (AccessUnit × ℕ) → Reply
access_unit_said = found_said access_unit_numbers nothing

abbrev pub listed_service_numbers : ListedService × ℕ → List ℕ
listed_service_numbers (x, next) = x.service_id ∷ x.service_type ∷ next ∷ []

abbrev pub listed_service_said : Option (ListedService × ℕ) → Reply
listed_service_said = found_said listed_service_numbers nothing

abbrev pub genre_numbers : Genre × ℕ → List ℕ
genre_numbers (x, next) = x.level_1 ∷ x.level_2 ∷ x.user ∷ next ∷ []

abbrev pub genre_said : Option (Genre × ℕ) → Reply
genre_said = found_said genre_numbers nothing

-- the head of an extended timestamp descriptor, as far as its access units need it
abbrev pub offset_given : ℕ → ℕ → Option ℕ
offset_given given offset = if given =? 0 then None else Some offset

abbrev pub head_of : ℕ → ℕ → ℕ → Extended
head_of given offset own =
    record { timescale = None; default_pts_offset = offset_given given offset; own_pts_offset = own ≠? 0; start = 0 }
