-- What is read of the IP data of a TLV packet, whatever its bytes, and the wire check of an IPv4 datagram.
-- Fields by their places in RFC 791 (IPv4), RFC 8200 (IPv6), RFC 768 (UDP) and ARIB STD-B32 Part 3, 3.7 (compressed IP).
use Rattle.isdb_tlv.specs.declared.ip.IpError.{IpError}
use Rattle.isdb_tlv.specs.declared.ip.Datagram.{Datagram}
use Rattle.std.specs.Prelude.{ℕ, ◌+◌, ◌-◌, ◌*◌, ◌/◌, ◌%◌, List, length, get_or, Err, None, Ok, Option, Result, Some}
use Rattle.isdb_tlv.specs.Guards.{◌<?◌, ◌=?◌, ◌≠?◌}
use Rattle.std.specs.Prelude.{if◌then◌else◌}
use Rattle.isdb_tlv.specs.Bytes.{be}
use Rattle.isdb_tlv.specs.declared.ip.Address.TheVariants.{V4, V6}
use Rattle.isdb_tlv.specs.declared.ip.Flow.{Flow}
use Rattle.isdb_tlv.specs.declared.ip.IpError.TheVariants.{Truncated, NotUdp, HeaderType, Version}
use Rattle.isdb_tlv.specs.declared.ip.Wire.{Wire}
use Rattle.isdb_tlv.specs.declared.ip.Wire.TheVariants.{Good, A, B, C, D, E}

-- the protocol number of UDP
abbrev pub udp : ℕ
udp = 17

-- the addresses of 4 bytes at `src` and `dst`; the ports, RFC 768's first two fields, at `ports`
abbrev pub flow4 : List ℕ → ℕ → ℕ → ℕ → Flow
flow4 s src dst ports =
    record { src = V4 (be 4 s src); dst = V4 (be 4 s dst); sport = be 2 s ports; dport = be 2 s (ports + 2) }

-- the same with addresses of 16 bytes, each as two halves
abbrev pub flow6 : List ℕ → ℕ → ℕ → ℕ → Flow
flow6 s src dst ports =
    record { src = V6 (be 8 s src) (be 8 s (src + 8)); dst = V6 (be 8 s dst) (be 8 s (dst + 8)); sport = be 2 s ports; dport = be 2 s (ports + 2) }

-- a datagram whose payload runs from `start` to the end of the data
abbrev pub datagram : Option ℕ → Option Flow → ℕ → Result Datagram IpError
datagram context flow start = Ok (record { context = context; flow = flow; start = start })

-- the version, in the first four bits of either header
abbrev pub version : List ℕ → ℕ
version s = get_or s 0 0 / 16

-- RFC 791, 3.1: the header's length in words of four bytes
abbrev pub ihl : List ℕ → ℕ
ihl s = get_or s 0 0 % 16

abbrev pub total_length : List ℕ → ℕ
total_length s = be 2 s 2

abbrev pub protocol : List ℕ → ℕ
protocol s = get_or s 9 0

-- RFC 8200, 3
abbrev pub next_header : List ℕ → ℕ
next_header s = get_or s 6 0

-- RFC 768: the length field of the UDP header that starts at `h`
abbrev pub udp_length : List ℕ → ℕ → ℕ
udp_length s h = be 2 s (h + 4)

-- an IPv4 packet: source at 12, destination at 16, the UDP header where the IHL says, also below 5; the total length and
-- the UDP length are not read
unfoldable pub ipv4_of : List ℕ → Result Datagram IpError
ipv4_of s =
    if length s <? 20 then Err Truncated
    else if version s ≠? 4 then Err (Version (version s))
    else if protocol s ≠? udp then Err (NotUdp (protocol s))
    else if length s <? ihl s * 4 + 8 then Err Truncated
    else datagram None (Some (flow4 s 12 16 (ihl s * 4))) (ihl s * 4 + 8)

-- an IPv6 packet: source at 8, destination at 24, the UDP header at 40; the payload length is not read
unfoldable pub ipv6_of : List ℕ → Result Datagram IpError
ipv6_of s =
    if length s <? 40 then Err Truncated
    else if version s ≠? 6 then Err (Version (version s))
    else if next_header s ≠? udp then Err (NotUdp (next_header s))
    else if length s <? 48 then Err Truncated
    else datagram None (Some (flow6 s 8 24 40)) 48

-- header type 20h: behind the three bytes of the compressed header an IPv4 header without total length, checksum and
-- options, 16 bytes, and the ports
unfoldable pub partial_ipv4 : List ℕ → ℕ → Result Datagram IpError
partial_ipv4 s context =
    if length s <? 23 then Err Truncated
    else if get_or s 10 0 ≠? udp then Err (NotUdp (get_or s 10 0))
    else datagram (Some context) (Some (flow4 s 11 15 19)) 23

-- header type 60h: an IPv6 header without payload length, 38 bytes, and the ports
unfoldable pub partial_ipv6 : List ℕ → ℕ → Result Datagram IpError
partial_ipv6 s context =
    if length s <? 45 then Err Truncated
    else if get_or s 7 0 ≠? udp then Err (NotUdp (get_or s 7 0))
    else datagram (Some context) (Some (flow6 s 9 25 41)) 45

-- header type 21h: the identification of the IPv4 header, 2 bytes
unfoldable pub header_id : List ℕ → ℕ → Result Datagram IpError
header_id s context =
    if length s <? 5 then Err Truncated
    else datagram (Some context) None 5

-- the context id, 12 bits; 4 bits of sequence number follow
abbrev pub context_id : List ℕ → ℕ
context_id s = be 2 s 0 / 16

abbrev pub header_type : List ℕ → ℕ
header_type s = get_or s 2 0

-- a header-compressed packet; header type 61h has nothing behind the three bytes
unfoldable pub compressed_of : List ℕ → Result Datagram IpError
compressed_of s =
    if length s <? 3 then Err Truncated
    else if header_type s =? 0x20 then partial_ipv4 s (context_id s)
    else if header_type s =? 0x60 then partial_ipv6 s (context_id s)
    else if header_type s =? 0x21 then header_id s (context_id s)
    else if header_type s =? 0x61 then datagram (Some (context_id s)) None 3
    else Err (HeaderType (header_type s))

-- the wire check: good, or the first failing test
unfoldable pub wire_of : List ℕ → Wire
wire_of s =
    if length s <? 20 then A
    else if version s ≠? 4 then A
    else if ihl s <? 5 then B
    else if length s <? total_length s then C
    else if total_length s <? ihl s * 4 + 8 then C
    else if protocol s ≠? udp then D
    else if udp_length s (ihl s * 4) ≠? total_length s - ihl s * 4 then E
    else Good

-- the letter of each test, as ASCII has it; good has none
abbrev pub letter_of : Wire → ℕ
letter_of Good = 0
letter_of A = 97
letter_of B = 98
letter_of C = 99
letter_of D = 100
letter_of E = 101
