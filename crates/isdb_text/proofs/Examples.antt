-- What the definitions give, by example.
use Rattle.std.proofs.Common.{◌≡◌, [], ◌∷◌, ◌++◌, refl}
use Rattle.isdb_tlv.specs.Bytes.{be}
use Rattle.isdb_text.specs.Text.{ascii, decimal_of, hex_digit, hex_of, pairs_of, bytes_as_hex}
use Rattle.isdb_text.specs.Fill.{places, spelled, taken, filled}
use Rattle.isdb_tlv.specs.Cut.{cut_at, recording_from, recording_of}
use Rattle.isdb_text.specs.Listing.{stop_text}
use Rattle.isdb_tlv.specs.declared.cut.Stop.TheVariants.{Bad, Refused}

numbers : decimal_of 18446744073709551615 ≡ ascii "18446744073709551615"
unfolding decimal_of
numbers = refl

bytes : bytes_as_hex (0x00 ∷ 0x7F ∷ 0xA0 ∷ []) ≡ ascii "007fa0"
unfolding bytes_as_hex pairs_of hex_of hex_digit
bytes = refl

line : filled (ascii "id # start %%%%%%%%%% pid 0x%%%% last ? next ?\n") (61696 ∷ 0xE8D4123456 ∷ 0x1f ∷ 0 ∷ 5 ∷ 1 ∷ 0 ∷ [])
    ≡ ascii "id 61696 start e8d4123456 pid 0x001f last none next 0\n"
unfolding filled places spelled taken hex_digit decimal_of
line = refl

-- a packet with two data bytes, then a byte that is no packet's first
recording : recording_of (0x7F ∷ 0x03 ∷ 0x00 ∷ 0x02 ∷ 0xAA ∷ 0xBB ∷ 0x7E ∷ []) 16384
    ≡ record { packets = record { kind = 0x03; bytes = 0xAA ∷ 0xBB ∷ [] } ∷ []; end = Bad 6 }
unfolding recording_of recording_from cut_at be
recording = refl

stops : stop_text (Bad 129) ++ stop_text (Refused 8) ≡ ascii "bad 129\nrefused 8\n"
unfolding filled places spelled taken hex_digit decimal_of
stops = refl
