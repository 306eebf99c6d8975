-- MMTP packets, the messages of a control payload, sections of a control packet.
use Rattle.std.specs.Prelude.{[], ◌∷◌, ◌≡◌, refl, true, false, None, Some}
use Rattle.isdb_tlv.specs.Fields.{bytes_of}
use Rattle.isdb_tlv.specs.Bytes.{be, with_bit_of}
use Rattle.isdb_tlv.specs.Crc.{feed, feed_byte, crc_of}
use Rattle.isdb_tlv.specs.Mmtp.{fec_code_of, fec_type_of, payload_code_of, payload_type_of, bits_of, entry, entries, scramble_info_of, scramble_control_of, extension_at, after_fixed, mmtp_of}
use Rattle.isdb_tlv.specs.Messages.{has, insert, set_of, section_message, message_of, message_in, prefixed_at, message_at, message_step, messages_from, messages_of, counted}
use Rattle.isdb_tlv.specs.Si.{is_tlv_si, section_at, sections_from, next_section_of}
use Rattle.isdb_tlv.specs.declared.mmtp.FecType.TheVariants.{NotProtected, Repair, Reserved as reserved_fec}
use Rattle.isdb_tlv.specs.declared.mmtp.PayloadType.TheVariants.{Mpu, Messages, Reserved}
use Rattle.isdb_tlv.specs.declared.mmtp.Scramble.TheVariants.{NoByte, Bits}
use Rattle.isdb_tlv.specs.declared.mmtp.MessageStep.TheVariants.{Found}

-- FecType::from: the low two bits
-- wrong: Repair => reserved_fec (a code above 3)
-- wrong: Repair => Source (one before)
pub fec_from_code : fec_type_of 6 ≡ Repair
unfolding fec_type_of
fec_from_code = refl

-- u8::from of a FecType
-- wrong: 3 => 0 (nothing known)
-- wrong: 3 => 4 (one behind)
pub fec_code : fec_code_of reserved_fec ≡ 3
fec_code = refl

-- PayloadType::from: the low six bits
-- wrong: Messages => Reserved 0x42 (all eight)
-- wrong: Messages => GenericObject (one before)
pub payload_from_code : payload_type_of 0x42 ≡ Messages
unfolding payload_type_of
payload_from_code = refl

-- u8::from of a PayloadType
-- wrong: 0x3F => 0x04 (the first that is reserved)
-- wrong: 0x3F => 0x1F (halved)
pub payload_code : payload_code_of (Reserved 0x3F) ≡ 0x3F
payload_code = refl

-- Scramble::info: an entry without its byte
-- wrong: true => false (as without an entry)
pub scramble_info_of_lem : scramble_info_of NoByte ≡ true
scramble_info_of_lem = refl

-- Scramble::info: bits of 1 do not mean scrambled
-- wrong: false => true (any bit)
pub scramble_bits : scramble_info_of (Bits 1) ≡ false
scramble_bits = refl

-- Scramble::control
-- wrong: None => Some 0 (the byte that is not there read as 0)
-- wrong: None => Some 3 (scrambled, so bits of 3)
pub scramble_control_of_lem : scramble_control_of NoByte ≡ None
scramble_control_of_lem = refl

-- mmtp::parse: a packet counter, and an extension with two entries of type 1, bits 2 and 0: the first decides
-- wrong: Some 2 => Some 0 (the second)
-- wrong: start = 30 => start = 26 (without the packet counter)
pub parse : mmtp_of (bytes_of 31 0x2300F1000000000000000005000000090000000A000100011080010001007A)
    ≡ Some (record { header = record { fec_type = NotProtected; rap = true; payload_type = Mpu; packet_id = 0xF100; sequence = 5; scramble_info = true; scramble_control = Some 2 }; start = 30 })
unfolding bytes_of be fec_type_of payload_type_of bits_of entry entries extension_at after_fixed mmtp_of
parse = refl

-- TableIds::contains
-- wrong: true => false (looked for in the first word)
pub contains : has (record { words = 0 ∷ 0 ∷ 1 ∷ 0 ∷ [] }) 128 ≡ true
unfolding has
contains = refl

-- TableIds::contains
-- wrong: false => true (of the id the low six bits alone)
pub contains_not : has (record { words = 0 ∷ 0 ∷ 1 ∷ 0 ∷ [] }) 64 ≡ false
unfolding has
contains_not = refl

-- the set of TableIds: of a number that no byte is, the last word is asked
-- wrong: true => false (no word for it)
pub contains_above : has (record { words = 0 ∷ 0 ∷ 0 ∷ 1 ∷ [] }) 256 ≡ true
unfolding has
contains_above = refl

-- the set of TableIds: such a number is put into the last word
-- wrong: 0x100000000000 => 0 (put nowhere)
pub insert_above : insert 300 (record { words = 0 ∷ 0 ∷ 0 ∷ 0 ∷ [] }) ≡ record { words = 0 ∷ 0 ∷ 0 ∷ 0x100000000000 ∷ [] }
unfolding insert with_bit_of
insert_above = refl

-- mmtp::next_message: a CA message behind a length of 2 bytes
-- wrong: 0x10 => 0 (no table)
-- wrong: 10 => 9 (without the length's second byte)
pub next_message : message_step (bytes_of 10 0x01000006800100000184) 2
    ≡ Found (record { id = 0x8001; tables = record { words = 0 ∷ 0 ∷ 0x10 ∷ 0 ∷ [] } }) 10
unfolding bytes_of be with_bit_of insert set_of section_message message_of message_in prefixed_at message_at message_step
next_message = refl

-- mmtp::messages: a tail too short for a length makes the whole refused
-- wrong: None => Some 1 (the tail passed over)
-- wrong: None => Some 2 (the tail an empty message)
pub messages : counted (messages_of (bytes_of 7 0x01000002900000)) ≡ None
unfolding bytes_of be with_bit_of insert set_of section_message message_of message_in prefixed_at message_at message_step messages_from messages_of counted
messages = refl

-- si::next_section: one that ends with the data, behind a byte that starts none
-- wrong: offset = 1 => offset = 0 (where the scan began)
-- wrong: size = 16 => size = 13 (as its field says)
pub next_section : next_section_of (bytes_of 17 0x7F40B00D0004C30000F000F0001751D06F) 0
    ≡ Some (record { offset = 1; table_id = 0x40; extension = 4; version = 1; size = 16 })
unfolding bytes_of be feed feed_byte crc_of is_tlv_si section_at sections_from next_section_of
next_section = refl
