-- IP packets and the wire check.
use Rattle.std.specs.Prelude.{ℕ, ◌≡◌, refl, List, ◌∷◌, replicate, Err, None, Ok, Some}
use Rattle.isdb_tlv.specs.Fields.{bytes_of}
use Rattle.isdb_tlv.specs.Bytes.{be}
use Rattle.isdb_tlv.specs.Ip.{ipv4_of, ipv6_of, compressed_of, wire_of, letter_of}
use Rattle.isdb_tlv.specs.declared.ip.Address.TheVariants.{V4, V6}
use Rattle.isdb_tlv.specs.declared.ip.IpError.TheVariants.{Version}
use Rattle.isdb_tlv.specs.declared.ip.Wire.TheVariants.{B, E}

-- 192.0.2.1 to 192.0.2.2, ports 1,000 and 2,000, behind an IHL of 6: four bytes of options, one of data
abbrev with_options : List ℕ
with_options = bytes_of 33 0x460000210000000040110000C0000201C00002020101010003E807D0000900007A

-- ip::ipv4: the UDP header stands where the IHL says
-- wrong: sport = 1000; dport = 2000 => sport = 0x0101; dport = 0x0100 (the UDP header at 20)
-- wrong: start = 32 => start = 28 (a header of 20 bytes)
pub ipv4 : ipv4_of with_options
    ≡ Ok (record { context = None; flow = Some (record { src = V4 0xC0000201; dst = V4 0xC0000202; sport = 1000; dport = 2000 }); start = 32 })
unfolding bytes_of be ipv4_of
ipv4 = refl

-- ip::ipv4: the version is tested before the protocol
-- wrong: Err (Version 6) => Err (NotUdp 0) (the protocol first)
-- wrong: Err (Version 6) => Err Truncated (the UDP header first)
pub ipv4_order : ipv4_of (0x60 ∷ replicate 19 0x00) ≡ Err (Version 6)
unfolding ipv4_of
ipv4_order = refl

-- ip::ipv6: the destination stands behind the 16 bytes of the source
-- wrong: V6 3 4 => V6 2 3 (8 bytes too early)
-- wrong: start = 48 => start = 40 (the UDP header taken for data)
pub ipv6 : ipv6_of (bytes_of 48 0x600000000008114000000000000000010000000000000002000000000000000300000000000000040035007B00080000)
    ≡ Ok (record { context = None; flow = Some (record { src = V6 1 2; dst = V6 3 4; sport = 53; dport = 123 }); start = 48 })
unfolding bytes_of be ipv6_of
ipv6 = refl

-- ip::compressed: the context is the first 12 bits
-- wrong: Some 0x123 => Some 0x234 (the last 12)
-- wrong: start = 3 => start = 5 (an identification, as behind 21h)
pub compressed : compressed_of (bytes_of 4 0x1234617A)
    ≡ Ok (record { context = Some 0x123; flow = None; start = 3 })
unfolding bytes_of be compressed_of
compressed = refl

-- ip::wire_check: an IHL of 4 and a total length of 0: the first failing test decides
-- wrong: B => C (the total length first)
-- wrong: B => A (the header too short)
pub wire_check : wire_of (0x44 ∷ replicate 27 0x00) ≡ B
unfolding be wire_of
wire_check = refl

-- Wire::letter
-- wrong: 101 => 69 (a capital)
-- wrong: 101 => 100 (one before)
pub letter : letter_of E ≡ 101
letter = refl
