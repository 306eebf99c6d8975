-- Fields as numbers.
use Rattle.std.specs.Prelude.{ℕ}
use Rattle.std.specs.Prelude.{Option, Some, None}
use Rattle.isdb_mmt.specs.declared.decoder.readings.MpuRange.{MpuRange}
use Rattle.isdb_mmt.specs.declared.table.section.SectionError.{SectionError}
use Rattle.isdb_mmt.specs.declared.table.section.SectionError.TheVariants.{Truncated, Crc, Malformed}
use Rattle.isdb_tlv.specs.declared.ip.Address.{Address}
use Rattle.isdb_tlv.specs.declared.ip.Address.TheVariants.{V4, V6}
use Rattle.isdb_host.specs.Values.{code_of, malformed, truncated, bad_crc}

-- MPU numbers: the first and the last
abbrev pub first_mpu_of : Option MpuRange → ℕ
first_mpu_of None = 0
first_mpu_of (Some x) = x.first

abbrev pub last_mpu : Option MpuRange → ℕ
last_mpu None = 0
last_mpu (Some x) = x.last

-- an address: whether it is of IPv6, and its two halves; one of IPv4 is the low half
abbrev pub wide_address : Address → ℕ
wide_address (V4 n) = 0
wide_address (V6 high low) = 1

abbrev pub address_high : Address → ℕ
address_high (V4 n) = 0
address_high (V6 high low) = high

abbrev pub address_low : Address → ℕ
address_low (V4 n) = n
address_low (V6 high low) = low

-- the code of a section that was not read
abbrev pub reason_of : SectionError → ℕ
reason_of Truncated = code_of truncated
reason_of Crc = code_of bad_crc
reason_of Malformed = code_of malformed
