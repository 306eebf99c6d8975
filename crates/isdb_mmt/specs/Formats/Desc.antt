-- MMT-SI descriptors: ARIB STD-B60, 7.4, Table 4-10.
use Rattle.isdb_mmt.specs.declared.timestamp.Extended.{Extended}
use Rattle.isdb_mmt.specs.declared.location.Location.{Location}
use Rattle.std.specs.Prelude.{◌≡◌, ℕ, ◌+◌, ◌-◌, ◌/◌, ◌%◌, Bool, true, false, List, [], ◌∷◌, length, drop, slice_index, slice_index_or, None, Some, Option, is_some}
use Rattle.isdb_tlv.specs.Guards.{◌<?◌, ◌≤?◌, ◌=?◌}
use Rattle.std.specs.Prelude.{if◌then◌else◌}
use Rattle.isdb_tlv.specs.Bytes.{be}
use Rattle.isdb_tlv.specs.Walk.{Next, stop, more, walk}
use Rattle.isdb_mmt.specs.Formats.Part.{part_at, part_of}
use Rattle.isdb_mmt.specs.Formats.Tags.{mpu_timestamp_tag, dependency_tag, access_control_tag, scrambler_tag, hevc_tag, service_list_tag, stream_identifier_tag, content_tag, broadcaster_name_tag, service_tag, extended_timestamp_tag, short_event_tag}
use Rattle.isdb_mmt.specs.Formats.Location.{location_of}
use Rattle.isdb_mmt.specs.Formats.Timestamp.{extended_of}
use Rattle.isdb_mmt.specs.declared.part.Part.{Part}
use Rattle.isdb_mmt.specs.declared.desc.Step.{Step}
use Rattle.isdb_mmt.specs.declared.desc.Step.TheVariants.{End, Broken, Raw}
use Rattle.isdb_mmt.specs.declared.desc.Counted.{Counted}
use Rattle.isdb_mmt.specs.declared.desc.Descriptor.{Descriptor}
use Rattle.isdb_mmt.specs.declared.desc.Descriptor.TheVariants.{MpuTimestamp, ExtendedTimestamp, AccessControl, Scrambler, StreamIdentifier, Service, ServiceList, ShortEvent, Content, Hevc, BroadcasterName, Other}
use Rattle.isdb_mmt.specs.declared.desc.ListedService.{ListedService}
use Rattle.isdb_mmt.specs.declared.desc.Genre.{Genre}

-- the width of the length field: two bytes for the dependency descriptor, 0x4000 to 0x6FFF and from 0xF000, four for 0x7000 to 0x7FFF, else one
unfoldable pub length_width_of : ℕ → ℕ
length_width_of tag =
    if tag =? dependency_tag then 2
    else if tag <? 0x4000 then 1
    else if tag <? 0x7000 then 2
    else if tag <? 0x8000 then 4
    else if tag <? 0xF000 then 1
    else 2

-- the body behind a length of `w` bytes, of the descriptor at `at`
abbrev pub body_at : List ℕ → ℕ → ℕ → ℕ → Step
body_at s at tag w =
    if length s - (at + 2) <? w then Broken at
    else if length s - (at + 2 + w) <? be w s (at + 2) then Broken at
    else Raw tag (part_at (at + 2 + w) (be w s (at + 2))) (at + 2 + w + be w s (at + 2))

-- what stands at `at` of a descriptor loop: a tag of 16 bits, the length, the body
unfoldable pub step_at : List ℕ → ℕ → Step
step_at s at =
    if length s ≤? at then End
    else if length s - at <? 2 then Broken at
    else body_at s at (be 2 s at) (length_width_of (be 2 s at))

-- what a walk gives at a place, and where it stands then: behind the descriptor, or still where none stands
abbrev pub Walked : List ℕ → ℕ → Option (ℕ × Part) → ℕ → Type 0
Walked s at None next = ((tag : ℕ) (body : Part) (to : ℕ) → step_at s at ≡ Raw tag body to → ⊥) × (next ≡ at)
Walked s at (Some d) next = step_at s at ≡ Raw d.0 d.1 next

-- a loop's descriptors, each by its tag and its body's place, and the place of the first that does not fit
pub record RawDescriptor : Type 0 where
  pub tag : ℕ
  pub body : Part

pub record Split : Type 0 where
  pub found : List RawDescriptor
  pub broke : Option ℕ

abbrev pub also : RawDescriptor → Split → Split
also r l = record { found = r ∷ l.found; broke = l.broke }

abbrev pub item : Step → Next Split
item End = stop (record { found = []; broke = None })
item (Broken at) = stop (record { found = []; broke = Some at })
item (Raw tag body next) = more next (also (record { tag = tag; body = body }))

unfoldable pub split_from : List ℕ → ℕ → Split
split_from s at = walk (λ p. item (step_at s p)) (record { found = []; broke = None }) (length s) at

unfoldable pub split_of : List ℕ → Split
split_of s = split_from s 0

unfoldable pub counted : Split → Counted
counted l = record { count = length l.found; broken = is_some l.broke }

-- 1 for a loop that breaks
abbrev pub broken : List ℕ → ℕ
broken s = if is_some (split_of s).broke then 1 else 0

-- elements of a table that have a descriptor loop each: those before one that is not whole, how many of their loops break, and
-- whether all are whole
pub record Loop (A : Type 0) : Type 0 where
  pub found : List A
  pub breaks : ℕ
  pub whole : Bool

abbrev pub ended : {A : Type 0} → Bool → Loop A
ended w = record { found = []; breaks = 0; whole = w }

-- one more before them, whose descriptors are a part of `s`
abbrev pub also_described : {A : Type 0} → List ℕ → Part → A → Loop A → Loop A
also_described s descriptors x l =
    record { found = x ∷ l.found; breaks = broken (part_of s descriptors) + l.breaks; whole = l.whole }

-- a descriptor kept as it stands: its whole body
abbrev pub other : ℕ → List ℕ → Descriptor
other tag s = Other tag (part_at 0 (length s))

-- 7.4.3.7, access control: CA system id 16 bits, then a location; one that cannot be read is absent
abbrev pub location_in : Option (Location × ℕ) → Option Location
location_in None = None
location_in (Some (l, n)) = Some l

unfoldable pub access_control : List ℕ → Descriptor
access_control s =
    if length s <? 2 then other access_control_tag s
    else AccessControl (be 2 s 0) (location_in (location_of (drop 2 s)))

-- 7.4.3.8, scrambler: layer type 2 bits, reserved 6, scramble system id 8
unfoldable pub scrambler : List ℕ → Descriptor
scrambler s =
    if length s <? 2 then other scrambler_tag s
    else Scrambler (slice_index s 0 / 64) (slice_index s 1)

-- 7.4.3.20, stream identifier: component tag 16 bits
unfoldable pub stream_identifier : List ℕ → Descriptor
stream_identifier s =
    if length s <? 2 then other stream_identifier_tag s
    else StreamIdentifier (be 2 s 0)

-- 7.4.3.28, service: service type 8 bits, provider's and service's name, each behind a length of 8 bits
unfoldable pub service_text : List ℕ → Descriptor
service_text s =
    if length s <? 2 then other service_tag s
    else if length s <? slice_index_or s 1 0 + 3 then other service_tag s
    else if length s <? slice_index_or s 1 0 + 3 + slice_index s (slice_index s 1 + 2) then other service_tag s
    else Service (slice_index s 0) (part_at 2 (slice_index s 1)) (part_at (slice_index s 1 + 3) (slice_index s (slice_index s 1 + 2)))

-- 7.4.3.17, short event: language 24 bits, name behind a length of 8 bits, text behind one of 16
unfoldable pub short_event_of : List ℕ → Descriptor
short_event_of s =
    if length s <? 4 then other short_event_tag s
    else if length s <? slice_index_or s 3 0 + 6 then other short_event_tag s
    else if length s <? slice_index_or s 3 0 + 6 + be 2 s (slice_index s 3 + 4) then other short_event_tag s
    else ShortEvent (record { first = slice_index s 0; second = slice_index s 1; third = slice_index s 2 })
    (part_at 4 (slice_index s 3)) (part_at (slice_index s 3 + 6) (be 2 s (slice_index s 3 + 4)))

-- 7.4.3.13, HEVC: profile space 2 bits, tier 1, profile 5, ten more bytes, level 8
unfoldable pub hevc : List ℕ → Descriptor
hevc s =
    if length s <? 12 then other hevc_tag s
    else Hevc (slice_index s 0 % 32) (slice_index s 0 / 32 % 2 =? 1) (slice_index s 11)

abbrev pub extended_in : List ℕ → Option Extended → Descriptor
extended_in s None = other extended_timestamp_tag s
extended_in s (Some e) = ExtendedTimestamp e

unfoldable pub extended_timestamp : List ℕ → Descriptor
extended_timestamp s = extended_in s (extended_of s)

-- a descriptor, by its tag (Table 4-10); a body too short for its structure is kept as it stands
unfoldable pub descriptor_of : ℕ → List ℕ → Descriptor
descriptor_of tag s =
    if tag =? mpu_timestamp_tag then MpuTimestamp
    else if tag =? extended_timestamp_tag then extended_timestamp s
    else if tag =? access_control_tag then access_control s
    else if tag =? scrambler_tag then scrambler s
    else if tag =? stream_identifier_tag then stream_identifier s
    else if tag =? service_tag then service_text s
    else if tag =? service_list_tag then ServiceList
    else if tag =? short_event_tag then short_event_of s
    else if tag =? content_tag then Content
    else if tag =? hevc_tag then hevc s
    else if tag =? broadcaster_name_tag then BroadcasterName (part_at 0 (length s))
    else other tag s

-- the descriptors of a loop, decoded
abbrev pub decoded : List ℕ → List RawDescriptor → List Descriptor
decoded s [] = []
decoded s (r ∷ l) = descriptor_of r.tag (part_of s r.body) ∷ decoded s l

unfoldable pub descriptors_of : List ℕ → List Descriptor
descriptors_of s = decoded s (split_of s).found

abbrev pub is_other_of : Descriptor → Bool
is_other_of MpuTimestamp = false
is_other_of (ExtendedTimestamp e) = false
is_other_of (AccessControl c l) = false
is_other_of (Scrambler l i) = false
is_other_of (StreamIdentifier c) = false
is_other_of (Service t p n) = false
is_other_of ServiceList = false
is_other_of (ShortEvent l n t) = false
is_other_of Content = false
is_other_of (Hevc p t l) = false
is_other_of (BroadcasterName n) = false
is_other_of (Other t b) = true

-- the first of a loop's descriptors that has a tag and could be decoded
abbrev pub or_next : Descriptor → Part → Option (Descriptor × Part) → Option (Descriptor × Part)
or_next d body rest = if is_other_of d then rest else Some (d, body)

abbrev pub first_in : ℕ → List ℕ → List RawDescriptor → Option (Descriptor × Part)
first_in tag s [] = None
first_in tag s (r ∷ l) =
    if r.tag =? tag then or_next (descriptor_of tag (part_of s r.body)) r.body (first_in tag s l)
    else first_in tag s l

unfoldable pub first_of : ℕ → List ℕ → ℕ → Option (Descriptor × Part)
first_of tag s at = first_in tag s (split_from s at).found

-- 7.4.3.16, service list: entries of a service id, 16 bits, and a service type, 8
unfoldable pub service_at : List ℕ → ℕ → Option (ListedService × ℕ)
service_at s at =
    if length s - at <? 3 then None
    else Some (record { service_id = be 2 s at; service_type = slice_index s (at + 2) }, at + 3)

-- 7.4.3.21, content: entries of two levels, 4 bits each, and a byte of the broadcaster's
unfoldable pub genre_at : List ℕ → ℕ → Option (Genre × ℕ)
genre_at s at =
    if length s - at <? 2 then None
    else Some (record { level_1 = slice_index s at / 16; level_2 = slice_index s at % 16; user = slice_index s (at + 1) }, at + 2)
