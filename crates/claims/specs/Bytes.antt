-- Numbers in bytes, the CRC, the kind of a TLV packet.
use Rattle.std.specs.Prelude.{◌%◌, ◌^◌, ◌≡◌, refl, [], ◌∷◌, replicate}
use Rattle.isdb_tlv.specs.Fields.{bytes_of, puts, four_fields}
use Rattle.isdb_tlv.specs.Bytes.{be, put_be, with_bit_of}
use Rattle.isdb_tlv.specs.Crc.{feed, feed_byte, crc_of}
use Rattle.isdb_tlv.specs.Tlv.{packet_type}
use Rattle.isdb_tlv.specs.declared.tlv.PacketType.TheVariants.{Other}

-- bytes::number, of nine bytes: the low 64 bits
-- wrong: 0x0203040506070809 => 0x0102030405060708 (the high 64)
-- wrong: 0x0203040506070809 => 0xFFFFFFFFFFFFFFFF (the most)
pub number : be 9 (bytes_of 9 0x010203040506070809) 0 % 2 ^ 64 ≡ 0x0203040506070809
unfolding bytes_of be
number = refl

-- bytes::get_u8, at a place beyond the end
-- wrong: 0x00 => 0xAB (the last byte)
-- wrong: 0x00 => 0xFF (ones)
pub get_u8 : be 1 (0xAB ∷ []) 1 ≡ 0x00
unfolding be
get_u8 = refl

-- bytes::get_u16, of which one byte is there
-- wrong: 0xAB00 => 0x00AB (the byte that is there taken for the low one)
-- wrong: 0xAB00 => 0x0000 (none of it)
pub get_u16 : be 2 (0xAB ∷ []) 0 ≡ 0xAB00
unfolding be
get_u16 = refl

-- bytes::get_u12, of a length with the bits before it set
-- wrong: 0x00D => 0xB00D (all 16 bits)
-- wrong: 0x00D => 0x300D (all but the syntax indicator and the bit behind it)
pub get_u12 : be 2 (bytes_of 3 0x40B00D) 1 % 4096 ≡ 0x00D
unfolding bytes_of be
get_u12 = refl

-- bytes::get_u32
-- wrong: 0x01020304 => 0x04030201 (the low byte first)
-- wrong: 0x01020304 => 0x00010203 (from the place before)
pub get_u32 : be 4 (bytes_of 6 0x000102030405) 1 ≡ 0x01020304
unfolding bytes_of be
get_u32 = refl

-- bytes::get_u64
-- wrong: 0x0102030405060708 => 0x0506070801020304 (the halves exchanged)
-- wrong: 0x0102030405060708 => 0x0807060504030201 (the low byte first)
pub get_u64 : be 8 (bytes_of 8 0x0102030405060708) 0 ≡ 0x0102030405060708
unfolding bytes_of be
get_u64 = refl

-- bytes::put_number, of a number wider than its field: the low bytes
-- wrong: 0x0003040500 => 0x0002030400 (the high bytes)
-- wrong: 0x0003040500 => 0x0000000000 (nothing)
pub put_number : put_be 3 1 0x02030405 (replicate 5 0) ≡ bytes_of 5 0x0003040500
unfolding bytes_of put_be
put_number = refl

-- bytes::put_u8, at the end of the slice: what does not fit is left out
-- wrong: 0x1122 => 0x1133 (in the last byte)
-- wrong: 0x1122 => 0x3322 (in the first)
pub put_u8 : put_be 1 2 0x33 (bytes_of 2 0x1122) ≡ bytes_of 2 0x1122
unfolding bytes_of put_be
put_u8 = refl

-- bytes::put_u16, of which one byte fits: the high one
-- wrong: 0x11AB => 0x11CD (the low one)
-- wrong: 0x11AB => 0x1122 (neither)
pub put_u16 : put_be 2 1 0xABCD (bytes_of 2 0x1122) ≡ bytes_of 2 0x11AB
unfolding bytes_of put_be
put_u16 = refl

-- bytes::put_u32
-- wrong: 0x0001020304FF => 0x0004030201FF (the low byte first)
-- wrong: 0x0001020304FF => 0x000102030400 (one byte more)
pub put_u32 : put_be 4 1 0x01020304 (bytes_of 6 0x0000000000FF) ≡ bytes_of 6 0x0001020304FF
unfolding bytes_of put_be
put_u32 = refl

-- bytes::put_u64
-- wrong: 0x0102030405060708 => 0x0506070801020304 (the halves exchanged)
-- wrong: 0x0102030405060708 => 0x0102030400000000 (the high half alone)
pub put_u64 : put_be 8 0 0x0102030405060708 (replicate 8 0) ≡ bytes_of 8 0x0102030405060708
unfolding bytes_of put_be
put_u64 = refl

-- bytes::put4: the widths are the digits of a number
-- wrong: 0x0102000304FF => 0x0102030400FF (the widths backwards)
-- wrong: 0x0102000304FF => 0x0102000304AA (a field of no bytes stored in one)
pub put4 : puts 0 (four_fields 0x1220 0x01 0x0200 0x0304 0xAA) (bytes_of 6 0xFFFFFFFFFFFF) ≡ bytes_of 6 0x0102000304FF
unfolding bytes_of put_be
put4 = refl

-- bytes::with_bit, of a bit that is set already
-- wrong: 0x8 => 0x10 (added)
-- wrong: 0x8 => 0x0 (turned)
pub with_bit : with_bit_of 0x8 3 ≡ 0x8
unfolding with_bit_of
with_bit = refl

-- crc::crc32, the published check value of "123456789"
-- wrong: 0x0376E6E7 => 0x89A1897F (from a register of zeros)
-- wrong: 0x0376E6E7 => 0xFC891918 (turned over at the end)
pub crc_check : crc_of (bytes_of 9 0x313233343536373839) ≡ 0x0376E6E7
unfolding bytes_of feed feed_byte crc_of
crc_check = refl

-- PacketType::from
-- wrong: Other 0x04 => Compressed (the last that is named)
-- wrong: Other 0x04 => Null (a packet that says nothing)
pub from_byte : packet_type 0x04 ≡ Other 0x04
unfolding packet_type
from_byte = refl
