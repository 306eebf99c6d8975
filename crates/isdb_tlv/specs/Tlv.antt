-- The packet_type byte of a TLV packet: ARIB STD-B32 Part 3, 3.5.
use Rattle.std.specs.Prelude.{ℕ}
use Rattle.isdb_tlv.specs.Guards.{◌=?◌}
use Rattle.std.specs.Prelude.{if◌then◌else◌}
use Rattle.isdb_tlv.specs.declared.tlv.PacketType.{PacketType}
use Rattle.isdb_tlv.specs.declared.tlv.PacketType.TheVariants.{Ipv4, Ipv6, Compressed, Control, Null, Other}

-- the byte of each kind
abbrev pub type_byte : PacketType → ℕ
type_byte Ipv4 = 0x01
type_byte Ipv6 = 0x02
type_byte Compressed = 0x03
type_byte Control = 0xFE
type_byte Null = 0xFF
type_byte (Other v) = v

-- the kind that a byte names; a byte that names none is kept
unfoldable pub packet_type : ℕ → PacketType
packet_type b =
    if b =? type_byte Ipv4 then Ipv4
    else if b =? type_byte Ipv6 then Ipv6
    else if b =? type_byte Compressed then Compressed
    else if b =? type_byte Control then Control
    else if b =? type_byte Null then Null
    else Other b
