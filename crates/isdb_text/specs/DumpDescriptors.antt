-- Locations and descriptors as `feeddump` writes them.
use Rattle.std.specs.Prelude.{ℕ, ◌+◌, ◌*◌, Bool, List, [], ◌∷◌, ◌++◌, length, drop, None, Option, Some}
use Rattle.isdb_tlv.specs.Guards.{◌<?◌, ◌≤?◌, ◌=?◌}
use Rattle.std.specs.Prelude.{if◌then◌else◌}
use Rattle.isdb_tlv.specs.declared.ip.Address.{Address}
use Rattle.isdb_tlv.specs.declared.ip.Address.TheVariants.{V4, V6}
use Rattle.isdb_mmt.specs.Formats.Part.{part_of}
use Rattle.isdb_mmt.specs.Formats.Desc.{step_at, descriptor_of, service_at, genre_at}
use Rattle.isdb_mmt.specs.Formats.Timestamp.{timestamp_at, mpu_at, unit_step}
use Rattle.isdb_mmt.specs.Formats.Nit.{tlv_step_at, frequency_of}
use Rattle.isdb_mmt.specs.declared.part.Part.{Part}
use Rattle.isdb_mmt.specs.declared.location.Location.{Location}
use Rattle.isdb_mmt.specs.declared.location.Location.TheVariants.{SameFlow, Ipv4, Ipv6, Mpeg2Ts, Mpeg2TsIpv6, Url}
use Rattle.isdb_mmt.specs.declared.timestamp.MpuPresentation.{MpuPresentation}
use Rattle.isdb_mmt.specs.declared.timestamp.Extended.{Extended}
use Rattle.isdb_mmt.specs.Formats.Steps.{MpuStep}
use Rattle.isdb_mmt.specs.declared.walk_step.WalkStep.TheVariants.{End as no_mpu, Malformed as broken_mpu, Entry as an_mpu}
use Rattle.isdb_mmt.specs.declared.timestamp.AccessUnit.{AccessUnit}
use Rattle.isdb_mmt.specs.declared.desc.Language.{Language}
use Rattle.isdb_mmt.specs.declared.desc.ListedService.{ListedService}
use Rattle.isdb_mmt.specs.declared.desc.Genre.{Genre}
use Rattle.isdb_mmt.specs.declared.desc.Step.{Step}
use Rattle.isdb_mmt.specs.declared.desc.Step.TheVariants.{End, Broken, Raw}
use Rattle.isdb_mmt.specs.declared.desc.Descriptor.{Descriptor}
use Rattle.isdb_mmt.specs.declared.desc.Descriptor.TheVariants.{MpuTimestamp, ExtendedTimestamp, AccessControl, Scrambler, StreamIdentifier, Service, ServiceList, ShortEvent, Content, Hevc, BroadcasterName, Other}
use Rattle.isdb_mmt.specs.declared.table.nit.TlvDescriptor.{TlvDescriptor}
use Rattle.isdb_text.specs.Text.{ascii, decimal_of, hex_of, bytes_as_hex}
use Rattle.isdb_mmt.specs.Formats.Maybe.{flag_of}
use Rattle.isdb_text.specs.Fill.{filled}
use Rattle.isdb_text.specs.Elements.{Element, ended, element, texts}

-- a number that may be absent
abbrev pub maybe_text : Option ℕ → List ℕ
maybe_text None = ascii "none"
maybe_text (Some n) = decimal_of n

-- an address, two digits a byte
abbrev pub address_text : Address → List ℕ
address_text (V4 n) = hex_of 8 n
address_text (V6 high low) = hex_of 16 high ++ hex_of 16 low

-- ---- locations

unfoldable pub ipv6_text : Address → Address → ℕ → ℕ → List ℕ
ipv6_text src dst port id =
    ascii "ipv6 " ++ (address_text src ++ (ascii " " ++ (address_text dst ++ filled (ascii " # #") (port ∷ id ∷ []))))

unfoldable pub url_text : List ℕ → Part → List ℕ
url_text s p = ascii "url " ++ bytes_as_hex (part_of s p)

-- a location whose first byte is that of `s`, which a URL's place counts from
abbrev pub location_text : List ℕ → Location → List ℕ
location_text s (SameFlow id) = filled (ascii "same_flow #") (id ∷ [])
location_text s (Ipv4 src dst port id) = filled (ascii "ipv4 %%%%%%%% %%%%%%%% # #") (src ∷ dst ∷ port ∷ id ∷ [])
location_text s (Ipv6 sh sl dh dl port id) = ipv6_text (V6 sh sl) (V6 dh dl) port id
location_text s (Mpeg2Ts network ts pid) = filled (ascii "mpeg2_ts # # %%%%") (network ∷ ts ∷ pid ∷ [])
location_text s (Mpeg2TsIpv6 port pid) = filled (ascii "mpeg2_ts_ipv6 # %%%%") (port ∷ pid ∷ [])
location_text s (Url p) = url_text s p

-- ---- lists: a comma before each item but the first, `-` where there is none. Of each the items from a place on, `n` at most

abbrev pub comma : ℕ → ℕ → List ℕ
comma first at = if first <? at then ascii "," else []

-- entries of an MPU timestamp
abbrev pub timestamp_element : ℕ → Option (MpuPresentation × ℕ) → Element
timestamp_element at None = ended
timestamp_element at (Some (x, next)) =
    element (comma 0 at ++ filled (ascii "#:%%%%%%%%%%%%%%%%") (x.mpu_sequence_number ∷ x.presentation_time ∷ [])) next

abbrev pub timestamps_from : List ℕ → ℕ → ℕ → List ℕ
timestamps_from s n from = texts (λ at. timestamp_element at (timestamp_at s at)) n from

unfoldable pub timestamps_text : List ℕ → List ℕ
timestamps_text s = if length s <? 12 then ascii "-" else timestamps_from s (length s) 0

-- entries of a service list, of MMT-SI or TLV-SI
abbrev pub service_element : ℕ → Option (ListedService × ℕ) → Element
service_element at None = ended
service_element at (Some (x, next)) = element (comma 0 at ++ filled (ascii "#:#") (x.service_id ∷ x.service_type ∷ [])) next

abbrev pub services_from : List ℕ → ℕ → ℕ → List ℕ
services_from s n from = texts (λ at. service_element at (service_at s at)) n from

unfoldable pub services_text : List ℕ → List ℕ
services_text s = if length s <? 3 then ascii "-" else services_from s (length s) 0

-- genres of a content descriptor
abbrev pub genre_element : ℕ → Option (Genre × ℕ) → Element
genre_element at None = ended
genre_element at (Some (x, next)) = element (comma 0 at ++ filled (ascii "#:#:#") (x.level_1 ∷ x.level_2 ∷ x.user ∷ [])) next

abbrev pub genres_from : List ℕ → ℕ → ℕ → List ℕ
genres_from s n from = texts (λ at. genre_element at (genre_at s at)) n from

unfoldable pub genres_text : List ℕ → List ℕ
genres_text s = if length s <? 2 then ascii "-" else genres_from s (length s) 0

-- access units of an MPU, in an extended timestamp with the head `e`
unfoldable pub unit_text : AccessUnit → List ℕ
unit_text u = filled (ascii "#/") (u.dts_pts_offset ∷ []) ++ maybe_text u.pts_offset

abbrev pub unit_element : ℕ → Option (AccessUnit × ℕ) → Element
unit_element at None = ended
unit_element at (Some (u, next)) = element (comma 0 at ++ unit_text u) next

abbrev pub units_from : List ℕ → Extended → ℕ → ℕ → List ℕ
units_from s e n from = texts (λ at. unit_element at (unit_step s e at)) n from

unfoldable pub units_text : List ℕ → Extended → List ℕ
units_text s e = if length s <? 1 then ascii "-" else units_from s e (length s) 0

-- its MPUs, the first of which stands at the head's `start`
unfoldable pub mpu_text : ℕ → ℕ → ℕ → List ℕ → Extended → List ℕ
mpu_text mpu leap offset units e = filled (ascii "[# # # ") (mpu ∷ leap ∷ offset ∷ []) ++ (units_text units e ++ ascii "]")

abbrev pub mpu_element : List ℕ → Extended → ℕ → MpuStep → Element
mpu_element s e at no_mpu = ended
mpu_element s e at broken_mpu = ended
mpu_element s e at (an_mpu m next) =
    element (comma e.start at ++ mpu_text m.mpu_sequence_number m.leap_indicator m.decoding_time_offset (part_of s m.units) e) next

abbrev pub mpus_from : List ℕ → Extended → ℕ → ℕ → List ℕ
mpus_from s e n from = texts (λ at. mpu_element s e at (mpu_at s e.own_pts_offset at)) n from

unfoldable pub mpus_text : List ℕ → Extended → List ℕ
mpus_text s e = if length s ≤? e.start then ascii "-" else mpus_from s e (length s) e.start

-- ---- descriptors: `s` is the body

unfoldable pub extended_text : List ℕ → Extended → List ℕ
extended_text s e =
    ascii "extended_timestamp timescale " ++ (maybe_text e.timescale
    ++ (ascii " default_pts_offset " ++ (maybe_text e.default_pts_offset ++ (ascii " mpus " ++ mpus_text s e))))

abbrev pub ca_location_text : List ℕ → Option Location → List ℕ
ca_location_text s None = ascii "none"
ca_location_text s (Some l) = location_text s l

unfoldable pub access_control_text : List ℕ → ℕ → Option Location → List ℕ
access_control_text s ca l = filled (ascii "access_control # location ") (ca ∷ []) ++ ca_location_text (drop 2 s) l

unfoldable pub service_text : List ℕ → ℕ → Part → Part → List ℕ
service_text s type provider name =
    filled (ascii "service # provider ") (type ∷ []) ++ (bytes_as_hex (part_of s provider) ++ (ascii " name " ++ bytes_as_hex (part_of s name)))

-- the three bytes of a language
abbrev pub language_of : Language → ℕ
language_of l = (l.first * 256 + l.second) * 256 + l.third

unfoldable pub short_event_text : List ℕ → Language → Part → Part → List ℕ
short_event_text s l name text =
    filled (ascii "short_event %%%%%% name ") (language_of l ∷ [])
    ++ (bytes_as_hex (part_of s name) ++ (ascii " text " ++ bytes_as_hex (part_of s text)))

unfoldable pub other_text : List ℕ → ℕ → Part → List ℕ
other_text s tag body = filled (ascii "other 0x%%%% ") (tag ∷ []) ++ bytes_as_hex (part_of s body)

unfoldable pub hevc_text : ℕ → Bool → ℕ → List ℕ
hevc_text profile tier level = filled (ascii "hevc # # #") (profile ∷ flag_of tier ∷ level ∷ [])

unfoldable pub broadcaster_name_text : List ℕ → Part → List ℕ
broadcaster_name_text s name = ascii "broadcaster_name " ++ bytes_as_hex (part_of s name)

-- lists behind their names
unfoldable pub timestamp_list : List ℕ → List ℕ
timestamp_list s = ascii "mpu_timestamp " ++ timestamps_text s

unfoldable pub service_list_of : List ℕ → List ℕ
service_list_of s = ascii "service_list " ++ services_text s

unfoldable pub content_text : List ℕ → List ℕ
content_text s = ascii "content " ++ genres_text s

abbrev pub descriptor_text : List ℕ → Descriptor → List ℕ
descriptor_text s MpuTimestamp = timestamp_list s
descriptor_text s (ExtendedTimestamp e) = extended_text s e
descriptor_text s (AccessControl ca l) = access_control_text s ca l
descriptor_text s (Scrambler layer system) = filled (ascii "scrambler # #") (layer ∷ system ∷ [])
descriptor_text s (StreamIdentifier tag) = filled (ascii "stream_identifier #") (tag ∷ [])
descriptor_text s (Service type provider name) = service_text s type provider name
descriptor_text s ServiceList = service_list_of s
descriptor_text s (ShortEvent language name text) = short_event_text s language name text
descriptor_text s Content = content_text s
descriptor_text s (Hevc profile tier level) = hevc_text profile tier level
descriptor_text s (BroadcasterName name) = broadcaster_name_text s name
descriptor_text s (Other tag body) = other_text s tag body

-- a descriptor on a line of its own behind some space
unfoldable pub descriptor_line : List ℕ → ℕ → List ℕ → List ℕ
descriptor_line pad tag s = pad ++ (ascii "descriptor " ++ (descriptor_text s (descriptor_of tag s) ++ ascii "\n"))

abbrev pub descriptor_element : List ℕ → List ℕ → Step → Element
descriptor_element pad s End = ended
descriptor_element pad s (Broken at) = ended
descriptor_element pad s (Raw tag body next) = element (descriptor_line pad tag (part_of s body)) next

-- those of a loop, up to one that does not fit
abbrev pub descriptors_from : List ℕ → List ℕ → ℕ → ℕ → List ℕ
descriptors_from pad s n from = texts (λ at. descriptor_element pad s (step_at s at)) n from

unfoldable pub descriptors_text : List ℕ → List ℕ → List ℕ
descriptors_text pad s = descriptors_from pad s (length s) 0

-- ---- TLV-SI descriptors

-- what a body says, by the tag
unfoldable pub tlv_text : ℕ → List ℕ → List ℕ
tlv_text tag s =
    if tag =? 0x41 then ascii " service_list " ++ services_text s
    else if tag =? 0x40 then ascii " network_name " ++ bytes_as_hex s
    else if tag =? 0x43 then ascii " frequency_khz " ++ maybe_text (frequency_of tag s)
    else []

unfoldable pub tlv_line : List ℕ → ℕ → List ℕ → List ℕ
tlv_line pad tag s = pad ++ (filled (ascii "descriptor 0x%% ") (tag ∷ []) ++ (bytes_as_hex s ++ (tlv_text tag s ++ ascii "\n")))

abbrev pub tlv_element : List ℕ → List ℕ → Option (TlvDescriptor × ℕ) → Element
tlv_element pad s None = ended
tlv_element pad s (Some (d, next)) = element (tlv_line pad d.tag (part_of s d.body)) next

abbrev pub tlvs_from : List ℕ → List ℕ → ℕ → ℕ → List ℕ
tlvs_from pad s n from = texts (λ at. tlv_element pad s (tlv_step_at s at)) n from

unfoldable pub tlvs_text : List ℕ → List ℕ → List ℕ
tlvs_text pad s = tlvs_from pad s (length s) 0
