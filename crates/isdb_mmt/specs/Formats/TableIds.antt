-- The ids of the MMT-SI tables by name: ARIB STD-B60, Table 4-8. Those of TLV-SI stand in isdb_tlv specs/Si.
use Rattle.std.specs.Prelude.{ℕ}

-- the MPT: 0x11 to 0x1F for subsets, 0x20 for the whole
abbrev pub mpt_first_id : ℕ
mpt_first_id = 0x11

abbrev pub mpt_id : ℕ
mpt_id = 0x20

-- PLT
abbrev pub plt_id : ℕ
plt_id = 0x80

-- MH-EIT: 0x8B for the present and the following event, up to 0x9B for schedules
abbrev pub eit_first_id : ℕ
eit_first_id = 0x8B

abbrev pub eit_last_id : ℕ
eit_last_id = 0x9B

-- MH-BIT
abbrev pub bit_id : ℕ
bit_id = 0x9D

-- MH-SDT, of this stream and of another
abbrev pub sdt_actual_id : ℕ
sdt_actual_id = 0x9F

abbrev pub sdt_other_id : ℕ
sdt_other_id = 0xA0

-- MH-TOT
abbrev pub tot_id : ℕ
tot_id = 0xA1
