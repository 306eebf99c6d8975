-- MPT: ARIB STD-B60, Table 7-6.
use Rattle.std.specs.Prelude.{ℕ, ◌+◌, ◌-◌, ◌%◌, true, false, List, [], ◌∷◌, length, take, drop, slice_index, slice_index_or, None, Option, Some}
use Rattle.isdb_tlv.specs.Guards.{◌<?◌, ◌=?◌}
use Rattle.std.specs.Prelude.{if◌then◌else◌}
use Rattle.isdb_tlv.specs.Bytes.{be}
use Rattle.isdb_tlv.specs.Walk.{Next, stop, more, run}
use Rattle.isdb_mmt.specs.Formats.Tags.{stream_identifier_tag}
use Rattle.isdb_mmt.specs.Formats.Part.{part_at, part_of}
use Rattle.isdb_mmt.specs.Formats.Location.{location_of, packet_id_of}
use Rattle.isdb_mmt.specs.Formats.Desc.{broken, Loop, ended, also_described, first_of}
use Rattle.isdb_mmt.specs.declared.part.Part.{Part}
use Rattle.isdb_mmt.specs.declared.location.Location.{Location}
use Rattle.isdb_mmt.specs.declared.desc.Descriptor.{Descriptor}
use Rattle.isdb_mmt.specs.declared.desc.Descriptor.TheVariants.{MpuTimestamp, ExtendedTimestamp, AccessControl, Scrambler, StreamIdentifier, Service, ServiceList, ShortEvent, Content, Hevc, BroadcasterName, Other}
use Rattle.isdb_mmt.specs.declared.table.mpt.Asset.{Asset}
use Rattle.isdb_mmt.specs.declared.table.mpt.AssetLoop.{AssetLoop}
use Rattle.isdb_mmt.specs.declared.table.mpt.Mpt.{Mpt}
use Rattle.isdb_mmt.specs.declared.table.mpt.MptParsed.{MptParsed}

-- table id 8 bits, version 8, length 16, and so many bytes: how many that are in all
unfoldable pub declared_length_of : List ℕ → Option ℕ
declared_length_of s =
    if length s <? 4 then None
    else if length s <? be 2 s 2 + 4 then None
    else Some (be 2 s 2 + 4)

-- behind `n` locations, the first of which stands at `at`
abbrev pub behind_location : ℕ → Option (Location × ℕ) → Next (Option ℕ)
behind_location at None = stop None
behind_location at (Some (l, taken)) = more (at + taken) (λ end. end)

abbrev pub locations_end : ℕ → List ℕ → ℕ → Option ℕ
locations_end n s at = run (λ p. behind_location p (location_of (drop p s))) Some n at

-- those locations
abbrev pub location_item : ℕ → Option (Location × ℕ) → Next (List Location)
location_item at None = stop []
location_item at (Some (l, taken)) = more (at + taken) (λ ls. l ∷ ls)

abbrev pub locations_of : ℕ → List ℕ → ℕ → List Location
locations_of n s at = run (λ p. location_item p (location_of (drop p s))) (λ p. []) n at

-- an asset at `p`: identifier type 8 bits, asset id scheme 32, asset id behind a length of 8; at `q`: asset type 32, reserved
-- 7, clock relation flag 1, number of locations 8; at `end`, behind those: descriptors behind a length of 16
unfoldable pub asset_fields : List ℕ → ℕ → ℕ → ℕ → Option (Asset × ℕ)
asset_fields s p q end =
    if length s - end <? 2 then None
    else if length s - (end + 2) <? be 2 s end then None
    else Some (
      (record {
        identifier_type = slice_index s p;
        asset_id_scheme = be 4 s (p + 1);
        asset_id = part_at (p + 6) (slice_index s (p + 5));
        asset_type = be 4 s q;
        clock_relation = slice_index s (q + 4) % 2 =? 1;
        locations = slice_index s (q + 5);
        locations_start = q + 6;
        descriptors = part_at (end + 2) (be 2 s end);
      }),
      end + 2 + be 2 s end,
    )

abbrev pub asset_behind : List ℕ → ℕ → ℕ → Option ℕ → Option (Asset × ℕ)
asset_behind s p q None = None
asset_behind s p q (Some end) = asset_fields s p q end

abbrev pub asset_type_of : List ℕ → ℕ → Option (Asset × ℕ)
asset_type_of s p =
    if length s <? p + 6 + slice_index s (p + 5) then None
    else if length s - (p + 6 + slice_index s (p + 5)) <? 6 then None
    else asset_behind s p (p + 6 + slice_index s (p + 5))
    (locations_end (slice_index s (p + 6 + slice_index s (p + 5) + 5)) s (p + 6 + slice_index s (p + 5) + 6))

unfoldable pub asset_at_of : List ℕ → ℕ → Option (Asset × ℕ)
asset_at_of s p =
    if length s - p <? 6 then None
    else asset_type_of s p

-- `n` assets from a place on
abbrev pub asset_item : List ℕ → Option (Asset × ℕ) → Next (Loop Asset)
asset_item s None = stop (ended false)
asset_item s (Some (a, next)) = more next (also_described s a.descriptors a)

abbrev pub assets_from : ℕ → List ℕ → ℕ → Loop Asset
assets_from n s at = run (λ p. asset_item s (asset_at_of s p)) (λ p. ended true) n at

abbrev pub loop_told : Loop Asset → AssetLoop
loop_told l = record { whole = l.whole; breaks = l.breaks }

unfoldable pub assets_told : ℕ → List ℕ → ℕ → AssetLoop
assets_told n s at = loop_told (assets_from n s at)

abbrev pub mpt_parsed : Option Mpt → ℕ → MptParsed
mpt_parsed m n = record { mpt = m; breaks = n }

-- table id 8 bits, version 8, length 16, reserved 6, MPT mode 2, package id behind a length of 8, descriptors behind a length
-- of 16, number of assets 8, assets; bytes behind those are not looked at
abbrev pub mpt_fields : List ℕ → ℕ → ℕ → Mpt
mpt_fields s start n =
    record {
      table_id = slice_index s 0;
      version = slice_index s 1;
      mode = slice_index s 4 % 4;
      package_id = part_at 6 (slice_index s 5);
      descriptors = part_at start n;
      assets = slice_index s (start + n);
      start = start + n + 1;
    }

-- a descriptor loop counts as broken also where the table then fails
abbrev pub mpt_loop : List ℕ → ℕ → ℕ → Loop Asset → MptParsed
mpt_loop s start n l =
    mpt_parsed (if l.whole then Some (mpt_fields s start n) else None) (broken (take n (drop start s)) + l.breaks)

unfoldable pub mpt_assets : List ℕ → ℕ → ℕ → MptParsed
mpt_assets s start n =
    if length s - (start + n) <? 1 then mpt_parsed None (broken (take n (drop start s)))
    else mpt_loop s start n (assets_from (slice_index s (start + n)) s (start + n + 1))

-- a table cut to its declared bytes
unfoldable pub mpt_table : List ℕ → MptParsed
mpt_table s =
    if length s <? 6 then mpt_parsed None 0
    else if length s <? slice_index_or s 5 0 + 8 then mpt_parsed None 0
    else if length s - (slice_index s 5 + 8) <? be 2 s (slice_index s 5 + 6) then mpt_parsed None 0
    else mpt_assets s (slice_index s 5 + 8) (be 2 s (slice_index s 5 + 6))

abbrev pub mpt_in : List ℕ → Option ℕ → MptParsed
mpt_in s None = mpt_parsed None 0
mpt_in s (Some n) = mpt_table (take n s)

unfoldable pub mpt_of : List ℕ → MptParsed
mpt_of s = mpt_in s (declared_length_of s)

-- 7.3.3.1: the service id is the low 16 bits of the package id
unfoldable pub service_id_of : List ℕ → Part → Option ℕ
service_id_of s id =
    if id.length <? 2 then None
    else Some (be 2 (part_of s id) (id.length - 2))

-- the packet id of the first location that has one
abbrev pub first_known : Option ℕ → Option ℕ → Option ℕ
first_known None x = x
first_known (Some p) x = Some p

abbrev pub first_packet_id : List Location → Option ℕ
first_packet_id [] = None
first_packet_id (l ∷ ls) = first_known (packet_id_of l) (first_packet_id ls)

-- the component tag of the first stream identifier descriptor
abbrev pub tag_of : Descriptor → Option ℕ
tag_of MpuTimestamp = None
tag_of (ExtendedTimestamp e) = None
tag_of (AccessControl c l) = None
tag_of (Scrambler l i) = None
tag_of (StreamIdentifier c) = Some c
tag_of (Service t p n) = None
tag_of ServiceList = None
tag_of (ShortEvent l n t) = None
tag_of Content = None
tag_of (Hevc p t l) = None
tag_of (BroadcasterName n) = None
tag_of (Other t b) = None

abbrev pub tag_in : Option (Descriptor × Part) → Option ℕ
tag_in None = None
tag_in (Some (d, body)) = tag_of d

unfoldable pub component_tag_of : List ℕ → Option ℕ
component_tag_of s = tag_in (first_of stream_identifier_tag s 0)
