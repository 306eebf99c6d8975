-- MMT_general_location_info: ARIB STD-B60, Table 7-9. A type byte, then fields by the type.
use Rattle.std.specs.Prelude.{ℕ, ◌+◌, List, length, slice_index, slice_index_or, None, Option, Some}
use Rattle.isdb_tlv.specs.Guards.{◌<?◌, ◌=?◌}
use Rattle.std.specs.Prelude.{if◌then◌else◌}
use Rattle.isdb_tlv.specs.Bytes.{be}
use Rattle.isdb_mmt.specs.Formats.Part.{part_at}
use Rattle.isdb_mmt.specs.declared.location.Location.{Location}
use Rattle.isdb_mmt.specs.declared.location.Location.TheVariants.{SameFlow, Ipv4, Ipv6, Mpeg2Ts, Mpeg2TsIpv6, Url}

-- a location that takes `n` bytes, where they are there
unfoldable pub sized : List ℕ → ℕ → Location → Option (Location × ℕ)
sized s n l =
    if length s <? n then None
    else Some (l, n)

-- 01h: IPv4 source and destination address, destination port, packet id
abbrev pub ipv4_at : List ℕ → Location
ipv4_at s = Ipv4 (be 4 s 1) (be 4 s 5) (be 2 s 9) (be 2 s 11)

-- 02h: the same with IPv6 addresses
abbrev pub ipv6_at : List ℕ → Location
ipv6_at s = Ipv6 (be 8 s 1) (be 8 s 9) (be 8 s 17) (be 8 s 25) (be 2 s 33) (be 2 s 35)

-- 05h: a length and so many bytes
unfoldable pub url_of : List ℕ → Option (Location × ℕ)
url_of s =
    if length s <? 2 then None
    else sized s (slice_index s 1 + 2) (Url (part_at 2 (slice_index s 1)))

-- 00h packet id; 03h network id, transport stream id, PID field; 04h IPv6 addresses, of which only the port and the PID
-- field behind them are kept
unfoldable pub location_of : List ℕ → Option (Location × ℕ)
location_of s =
    if length s <? 1 then None
    else if slice_index_or s 0 0 =? 0x00 then sized s 3 (SameFlow (be 2 s 1))
    else if slice_index_or s 0 0 =? 0x01 then sized s 13 (ipv4_at s)
    else if slice_index_or s 0 0 =? 0x02 then sized s 37 (ipv6_at s)
    else if slice_index_or s 0 0 =? 0x03 then sized s 7 (Mpeg2Ts (be 2 s 1) (be 2 s 3) (be 2 s 5))
    else if slice_index_or s 0 0 =? 0x04 then sized s 37 (Mpeg2TsIpv6 (be 2 s 33) (be 2 s 35))
    else if slice_index_or s 0 0 =? 0x05 then url_of s
    else None

-- the MMTP packet id that a location designates
abbrev pub packet_id_of : Location → Option ℕ
packet_id_of (SameFlow p) = Some p
packet_id_of (Ipv4 src dst port p) = Some p
packet_id_of (Ipv6 sh sl dh dl port p) = Some p
packet_id_of (Mpeg2Ts n t pid) = None
packet_id_of (Mpeg2TsIpv6 port pid) = None
packet_id_of (Url p) = None
