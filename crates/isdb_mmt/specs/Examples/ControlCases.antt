-- Worked cases of messages and sections, as one table: feeds from their bytes, what is joined and kept of them, and what they need.
use Rattle.std.specs.Prelude.{ℕ, ◌+◌, List, [], ◌∷◌, ◌++◌, take, drop, replicate, refl, None, Some}
use Rattle.isdb_mmt.specs.Examples.Worked.{Case, ◌⇒◌, Holds}
use Rattle.isdb_mmt.specs.Decoder.Packet.{Bytes}
use Rattle.isdb_mmt.specs.Decoder.Needs.{Needs}
use Rattle.isdb_mmt.specs.Examples.Cases.{Ask, sections, kept_of, joined_of, needed, Told, tables, kept, joined, asks, told, compressed, ab}

-- a message packet of the control id 8001h: number, payload; and one of number 5, with a byte of flags
abbrev pub control : ℕ → Bytes → ℕ × Bytes
control number p = compressed 0x00 0x02 0x8001 number p

abbrev pub fragment : ℕ → Bytes → ℕ × Bytes
fragment flags d = control 5 (flags ∷ 0x00 ∷ d)

-- the first, a middle and the last fragment of a message
abbrev pub first_part : ℕ → Bytes → ℕ × Bytes
first_part number d = control number (0x40 ∷ 0x00 ∷ d)

abbrev pub middle_part : ℕ → Bytes → ℕ × Bytes
middle_part number d = control number (0x80 ∷ 0x00 ∷ d)

abbrev pub last_part : ℕ → Bytes → ℕ × Bytes
last_part number d = control number (0xC0 ∷ 0x00 ∷ d)

-- a NIT of version 1, and one of version 2 whose network descriptors run over its end
abbrev pub nit1 : Bytes
nit1 =
    0x40 ∷ 0xB0 ∷ 0x0D ∷ 0x00 ∷ 0x04 ∷ 0xC3 ∷ 0x00 ∷ 0x00 ∷ 0xF0 ∷ 0x00 ∷ 0xF0 ∷ 0x00 ∷ 0x17 ∷ 0x51 ∷ 0xD0 ∷ 0x6F ∷ []

abbrev pub nit2 : Bytes
nit2 =
    0x40 ∷ 0xB0 ∷ 0x0D ∷ 0x00 ∷ 0x04 ∷ 0xC5 ∷ 0x00 ∷ 0x00 ∷ 0xF0 ∷ 0x05 ∷ 0xF0 ∷ 0x00 ∷ 0xB6 ∷ 0xD9 ∷ 0xA3 ∷ 0x25 ∷ []

-- a NIT of version 2 that is whole, and one of version 1 with the section number 1
abbrev pub nit_new : Bytes
nit_new =
    0x40 ∷ 0xB0 ∷ 0x0D ∷ 0x00 ∷ 0x04 ∷ 0xC5 ∷ 0x00 ∷ 0x00 ∷ 0xF0 ∷ 0x00 ∷ 0xF0 ∷ 0x00 ∷ 0xB0 ∷ 0x63 ∷ 0xBD ∷ 0xBE ∷ []

abbrev pub nit_next : Bytes
nit_next =
    0x40 ∷ 0xB0 ∷ 0x0D ∷ 0x00 ∷ 0x04 ∷ 0xC3 ∷ 0x01 ∷ 0x00 ∷ 0xF0 ∷ 0x00 ∷ 0xF0 ∷ 0x00 ∷ 0x0C ∷ 0x79 ∷ 0xDD ∷ 0x17 ∷ []

-- an SDT without services
abbrev pub sdt : Bytes
sdt = 0x9F ∷ 0xF0 ∷ 0x0B ∷ 0x00 ∷ 0x65 ∷ 0xC3 ∷ 0x00 ∷ 0x00 ∷ 0x00 ∷ 0x04 ∷ 0xE4 ∷ 0x93 ∷ 0x68 ∷ 0xCE ∷ []

-- a PA message without a body
abbrev pub empty_pa : Bytes
empty_pa = replicate 7 0x00

-- an MPT of nine bytes without assets, and one of ten with a package id of one byte
abbrev pub mpt : Bytes
mpt = 0x20 ∷ 0x01 ∷ 0x00 ∷ 0x05 ∷ 0xFC ∷ 0x00 ∷ 0x00 ∷ 0x00 ∷ 0x00 ∷ []

abbrev pub mpt_named : Bytes
mpt_named = 0x20 ∷ 0x01 ∷ 0x00 ∷ 0x06 ∷ 0xFC ∷ 0x01 ∷ 0x65 ∷ 0x00 ∷ 0x00 ∷ 0x00 ∷ []

-- an M2 section message with a table of `n` bytes, and two bytes more behind it in the table
abbrev pub table_message : ℕ → Bytes → Bytes
table_message n t = 0x80 ∷ 0x00 ∷ 0x00 ∷ 0x00 ∷ (n + 2) ∷ t ++ (0xFF ∷ 0xFF ∷ [])

abbrev pub mpt_message : Bytes
mpt_message = table_message 9 mpt

-- a PA message with tables of `n` bytes
abbrev pub pa_message : ℕ → Bytes → Bytes
pa_message n ts = 0x00 ∷ 0x00 ∷ 0x00 ∷ 0x00 ∷ 0x00 ∷ 0x00 ∷ (n + 1) ∷ 0x00 ∷ ts

-- of a message packet: new control ids, the longest message, the longest table
abbrev pub message_needs : ℕ → ℕ → ℕ → Needs
message_needs i m t =
    record { media_ids = 0; control_ids = i; sections = 0; object = 0; message = m; table = t; records = 0; data_bytes = 0 }

-- of a control signal: new keys, the longest section
abbrev pub section_needs : ℕ → ℕ → Needs
section_needs k t =
    record { media_ids = 0; control_ids = 0; sections = k; object = 0; message = 0; table = t; records = 0; data_bytes = 0 }

abbrev cases : List (Case Ask Told)
cases =
    -- a version change is counted though the body fails; what is kept stays
    (sections ((0xFE, nit1) ∷ (0xFE, nit2) ∷ []) ⇒ tables 1 1 (1 ∷ []))
    -- sections that differ in the section number alone are both kept; of a table with more behind its section, the section
    ∷ (kept_of ((0xFE, nit1 ++ nit_next) ∷ []) ⇒ kept (nit1 ∷ nit_next ∷ []))
    ∷ (kept_of (fragment 0x00 (table_message 14 sdt) ∷ []) ⇒ kept (sdt ∷ []))
    -- a payload below two bytes sets the number and leaves the message, over a gap too
    ∷ (joined_of (first_part 1 (take 6 mpt_message) ∷ control 9 (0x00 ∷ []) ∷ []) ⇒ joined 0 1 (Some 9) (Some (take 6 mpt_message)) None)
    ∷ (joined_of (first_part 1 (take 6 mpt_message) ∷ control 9 (0x00 ∷ []) ∷ last_part 10 (drop 6 mpt_message) ∷ []) ⇒ joined 0 1 (Some 10) None (Some mpt))
    -- a last behind a gap is an orphan
    ∷ (joined_of (first_part 1 (take 6 mpt_message) ∷ last_part 3 (drop 6 mpt_message) ∷ []) ⇒ joined 1 0 (Some 3) None None)
    -- an undivided message needs no room to be joined in, a first fragment its own length; an MPT its declared length
    ∷ (needed [] (fragment 0x00 empty_pa) ⇒ asks (message_needs 1 0 0))
    ∷ (needed [] (fragment 0x40 empty_pa) ⇒ asks (message_needs 1 7 0))
    ∷ (needed [] (fragment 0x00 mpt_message) ⇒ asks (message_needs 1 0 9))
    -- a further fragment needs room for all that is joined
    ∷ (needed (first_part 1 (take 6 mpt_message) ∷ []) (middle_part 2 ab) ⇒ asks (message_needs 0 8 0))
    ∷ (needed (first_part 1 (take 6 mpt_message) ∷ []) (last_part 2 (drop 6 mpt_message)) ⇒ asks (message_needs 0 16 9))
    -- tables of one message need room for the longest
    ∷ (needed [] (fragment 0x00 (pa_message 28 (mpt ++ (mpt_named ++ mpt)))) ⇒ asks (message_needs 1 0 10))
    -- a new key takes one place, though it comes three times, and beside one that is kept
    ∷ (needed [] (0xFE, nit1 ++ (nit_new ++ nit1)) ⇒ asks (section_needs 1 16))
    ∷ (needed ((0xFE, nit1) ∷ []) (0xFE, nit_new ++ nit_next) ⇒ asks (section_needs 1 16))
    ∷ []

pub table : Holds told cases
unfolding told
table = refl
