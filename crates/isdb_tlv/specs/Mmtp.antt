-- What is read of an MMTP packet, whatever its bytes: ISO/IEC 23008-1 and ARIB STD-B60, 6.4.1.1, Tables 6-4 to 6-9.
use Rattle.isdb_tlv.specs.declared.mmtp.Packet.{Packet}
use Rattle.std.specs.Prelude.{ℕ, ◌+◌, ◌-◌, ◌/◌, ◌%◌, List, Bool, true, false, length, take, drop, get_or, None, Option, Some}
use Rattle.isdb_tlv.specs.Guards.{◌<?◌, ◌≤?◌, ◌=?◌, ◌≠?◌}
use Rattle.std.specs.Prelude.{if◌then◌else◌}
use Rattle.isdb_tlv.specs.Bytes.{be}
use Rattle.isdb_tlv.specs.Walk.{Next, stop, more, walk}
use Rattle.isdb_tlv.specs.declared.mmtp.FecType.{FecType}
use Rattle.isdb_tlv.specs.declared.mmtp.FecType.TheVariants.{NotProtected, Source, Repair, Reserved as reserved_fec}
use Rattle.isdb_tlv.specs.declared.mmtp.PayloadType.{PayloadType}
use Rattle.isdb_tlv.specs.declared.mmtp.PayloadType.TheVariants.{Mpu, GenericObject, Messages, FecRepair, Reserved}
use Rattle.isdb_tlv.specs.declared.mmtp.Scramble.{Scramble}
use Rattle.isdb_tlv.specs.declared.mmtp.Scramble.TheVariants.{Absent, NoByte, Bits}
use Rattle.isdb_tlv.specs.declared.mmtp.Header.{Header}

-- FEC_type, 2 bits (Table 6-5)
abbrev pub fec_code_of : FecType → ℕ
fec_code_of NotProtected = 0
fec_code_of Source = 1
fec_code_of Repair = 2
fec_code_of reserved_fec = 3

unfoldable pub fec_type_of : ℕ → FecType
fec_type_of c =
    if c % 4 =? fec_code_of NotProtected then NotProtected
    else if c % 4 =? fec_code_of Source then Source
    else if c % 4 =? fec_code_of Repair then Repair
    else reserved_fec

-- payload_type, 6 bits (Table 6-6)
abbrev pub payload_code_of : PayloadType → ℕ
payload_code_of Mpu = 0x00
payload_code_of GenericObject = 0x01
payload_code_of Messages = 0x02
payload_code_of FecRepair = 0x03
payload_code_of (Reserved c) = c

unfoldable pub payload_type_of : ℕ → PayloadType
payload_type_of c =
    if c % 64 =? payload_code_of Mpu then Mpu
    else if c % 64 =? payload_code_of GenericObject then GenericObject
    else if c % 64 =? payload_code_of Messages then Messages
    else if c % 64 =? payload_code_of FecRepair then FecRepair
    else Reserved (c % 64)

-- bits 4 and 3 of the byte behind the header of the entry at `at`, whatever the entry's length says
unfoldable pub bits_of : List ℕ → ℕ → Scramble
bits_of s at =
    if at + 4 <? length s then Bits (get_or s (at + 4) 0 / 8 % 4)
    else NoByte

-- the entry at `at` of an extension (Tables 6-8, 6-9): a flag that says that it is the last, a type of 15 bits, a length of
-- 16 bits, and so many bytes. The first of type 1, scrambling, decides.
unfoldable pub entry : List ℕ → ℕ → Next Scramble
entry s at =
    if length s - at <? 4 then stop Absent
    else if be 2 s at % 32768 =? 1 then stop (bits_of s at)
    else if 128 ≤? get_or s at 0 then stop Absent
    else more (at + 4 + be 2 s (at + 2)) (λ others. others)

-- the entries from a place on
unfoldable pub entries : List ℕ → ℕ → Scramble
entries s at = walk (entry s) Absent (length s) at

-- scrambled: bits of 2 or 3, or an entry without its byte
abbrev pub scramble_info_of : Scramble → Bool
scramble_info_of Absent = false
scramble_info_of NoByte = true
scramble_info_of (Bits c) = 2 ≤? c

abbrev pub scramble_control_of : Scramble → Option ℕ
scramble_control_of Absent = None
scramble_control_of NoByte = None
scramble_control_of (Bits c) = Some c

-- the header extension at `at`: a type, a length and so many bytes, all present. Type 0 holds entries (Table 6-7).
unfoldable pub extension_at : List ℕ → ℕ → Option (Scramble × ℕ)
extension_at s at =
    if length s - at <? 4 then None
    else if length s - (at + 4) <? be 2 s (at + 2) then None
    else if be 2 s at =? 0 then Some (entries (take (be 2 s (at + 2)) (drop (at + 4) s)) 0, at + 4 + be 2 s (at + 2))
    else Some (Absent, at + 4 + be 2 s (at + 2))

-- where the fixed part ends: a packet counter of four bytes follows the twelve where its flag is set
abbrev pub fixed_size : ℕ → ℕ
fixed_size flags = if flags / 32 % 2 =? 0 then 12 else 16

-- what follows the fixed part of a packet whose first byte is `flags`
unfoldable pub after_fixed : List ℕ → ℕ → Option (Scramble × ℕ)
after_fixed s flags =
    if flags / 2 % 2 =? 0 then (if length s <? fixed_size flags then None else Some (Absent, fixed_size flags))
    else extension_at s (fixed_size flags)

-- Table 6-4: version 2 bits, packet counter flag 1, FEC type 2, reserved 1, extension flag 1, RAP flag 1, reserved 2,
-- payload type 6, packet id 16, delivery timestamp 32, packet sequence number 32
abbrev pub header_of : List ℕ → ℕ → Scramble → Header
header_of s flags scramble =
    record {
      fec_type = fec_type_of (flags / 8);
      rap = flags % 2 =? 1;
      payload_type = payload_type_of (get_or s 1 0);
      packet_id = be 2 s 2;
      sequence = be 4 s 8;
      scramble_info = scramble_info_of scramble;
      scramble_control = scramble_control_of scramble;
    }

abbrev pub packet : List ℕ → ℕ → Option (Scramble × ℕ) → Option Packet
packet s flags None = None
packet s flags (Some (scramble, start)) = Some (record { header = header_of s flags scramble; start = start })

-- a packet: twelve bytes at least and version 0, or none
unfoldable pub mmtp_of : List ℕ → Option Packet
mmtp_of s =
    if length s <? 12 then None
    else if get_or s 0 0 / 64 ≠? 0 then None
    else packet s (get_or s 0 0) (after_fixed s (get_or s 0 0))
