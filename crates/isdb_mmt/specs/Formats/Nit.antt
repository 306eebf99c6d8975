-- TLV-NIT and TLV-SI descriptors: ARIB STD-B60, Tables 5-1, 5-4, 5-6, and 5.3.
use Rattle.isdb_mmt.specs.declared.table.section.SectionError.{SectionError}
use Rattle.isdb_mmt.specs.declared.table.nit.Nit.{Nit}
use Rattle.std.specs.Prelude.{ℕ, zero, suc, ◌+◌, ◌-◌, ◌*◌, ◌/◌, ◌%◌, List, map, length, slice_index, slice_index_or, Err, None, Ok, Option, Result, Some}
use Rattle.isdb_tlv.specs.Guards.{◌<?◌, ◌=?◌, ◌≠?◌}
use Rattle.std.specs.Prelude.{if◌then◌else◌}
use Rattle.isdb_tlv.specs.Bytes.{be}
use Rattle.isdb_mmt.specs.Formats.Tags.{network_name_tlv_tag, service_list_tlv_tag, satellite_delivery_tlv_tag}
use Rattle.isdb_mmt.specs.Formats.Part.{part_at, part_of}
use Rattle.isdb_mmt.specs.Formats.Desc.{Loop}
use Rattle.isdb_mmt.specs.Formats.Section.{length12, long_section_of, in_section, entry_at, entry_as, entries_from}
use Rattle.isdb_mmt.specs.declared.table.section.SectionHeader.{SectionHeader}
use Rattle.isdb_mmt.specs.declared.table.section.SectionError.TheVariants.{Malformed}
use Rattle.isdb_mmt.specs.declared.table.section.Entry.{Entry}
use Rattle.isdb_mmt.specs.declared.part.Part.{Part}
use Rattle.isdb_mmt.specs.declared.table.nit.NitStream.{NitStream}
use Rattle.isdb_mmt.specs.Formats.Steps.{StreamStep}
use Rattle.isdb_mmt.specs.declared.walk_step.WalkStep.TheVariants.{End, Malformed as broken, Entry as stream}
use Rattle.isdb_mmt.specs.declared.table.nit.TlvDescriptor.{TlvDescriptor}

-- the loop of streams starts behind the network's descriptors and its own length
abbrev pub streams_part : List ℕ → Part
streams_part s = part_at (length12 s 0 + 4) (length12 s (length12 s 0 + 2))

abbrev pub nit_loop : SectionHeader → List ℕ → Loop Entry → Result (SectionHeader × Nit) SectionError
nit_loop h s l =
    if l.whole
    then Ok (h, record { descriptors = part_at 2 (length12 s 0); loop_part = streams_part s; streams = length l.found })
    else Err Malformed

-- reserved 4 bits, length of the network's descriptors 12, those, reserved 4, length of the loop of streams 12, streams,
-- which are to end with that loop
unfoldable pub nit_body : SectionHeader → List ℕ → Result (SectionHeader × Nit) SectionError
nit_body h s =
    if length s <? 2 then Err Malformed
    else if length s <? length12 s 0 + 4 then Err Malformed
    else if length s - (length12 s 0 + 4) <? length12 s (length12 s 0 + 2) then Err Malformed
    else nit_loop h s (entries_from (part_of s (streams_part s)) 4 0)

unfoldable pub nit_of : List ℕ → Result (SectionHeader × Nit) SectionError
nit_of s = in_section Err nit_body s (long_section_of s)

-- a stream: TLV stream id 16 bits, original network id 16, reserved 4, descriptors' length 12
abbrev pub stream_of : List ℕ → Entry → NitStream
stream_of s e =
    record { tlv_stream_id = be 2 s e.at; original_network_id = be 2 s (e.at + 2); descriptors = e.descriptors }

-- what stands at a place of the loop of streams
unfoldable pub stream_step : List ℕ → ℕ → StreamStep
stream_step s at = entry_as End broken (λ e. stream (stream_of s e)) (entry_at s 4 at)

-- the streams of the loop of streams
unfoldable pub streams_of : List ℕ → List NitStream
streams_of s = map (stream_of s) (entries_from s 4 0).found

-- 5.3: a tag and a length of 8 bits, and so many bytes; a loop ends where one does not fit
unfoldable pub tlv_step_at : List ℕ → ℕ → Option (TlvDescriptor × ℕ)
tlv_step_at s at =
    if length s - at <? 2 then None
    else if length s - (at + 2) <? slice_index_or s (at + 1) 0 then None
    else Some (record { tag = slice_index s at; body = part_at (at + 2) (slice_index s (at + 1)) }, at + 2 + slice_index s (at + 1))

-- the digit `i` of a number in BCD, two digits a byte
abbrev pub digit : List ℕ → ℕ → ℕ
digit s i = if i % 2 =? 0 then slice_index s (i / 2) / 16 else slice_index s (i / 2) % 16

abbrev pub with_digit : ℕ → Option ℕ → Option ℕ
with_digit d None = None
with_digit d (Some v) = if 9 <? d then None else Some (v * 10 + d)

-- the number of `n` digits; none where one is above 9
abbrev pub bcd_from : ℕ → List ℕ → Option ℕ
bcd_from zero s = Some 0
bcd_from (suc n) s = with_digit (digit s n) (bcd_from n s)

abbrev pub tenfold : Option ℕ → Option ℕ
tenfold None = None
tenfold (Some v) = Some (v * 10)

-- Table 5-6: the frequency of a satellite delivery system descriptor, eight digits in units of 10 kHz
unfoldable pub frequency_of : ℕ → List ℕ → Option ℕ
frequency_of tag s =
    if tag ≠? satellite_delivery_tlv_tag then None
    else if length s <? 4 then None
    else tenfold (bcd_from 8 s)

-- the whole body of a descriptor that has the wanted tag
unfoldable pub whole_body : ℕ → ℕ → List ℕ → Option Part
whole_body wanted tag s = if tag ≠? wanted then None else Some (part_at 0 (length s))

-- the text of a network name descriptor
abbrev pub network_name_of : ℕ → List ℕ → Option Part
network_name_of tag s = whole_body network_name_tlv_tag tag s

-- Table 5-4: the entries of a service list descriptor, as one of MMT-SI has them
abbrev pub service_list_of : ℕ → List ℕ → Option Part
service_list_of tag s = whole_body service_list_tlv_tag tag s
