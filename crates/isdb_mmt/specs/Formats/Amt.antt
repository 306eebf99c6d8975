-- AMT: ARIB STD-B60, Table 5-2.
use Rattle.isdb_mmt.specs.declared.table.section.SectionError.{SectionError}
use Rattle.isdb_mmt.specs.declared.table.amt.Amt.{Amt}
use Rattle.std.specs.Prelude.{ℕ, ◌+◌, ◌-◌, ◌*◌, ◌/◌, ◌%◌, Bool, not, List, [], length, drop, slice_index, Err, None, Ok, Result, Some, Option, is_some}
use Rattle.isdb_tlv.specs.Guards.{◌<?◌, ◌=?◌}
use Rattle.std.specs.Prelude.{if◌then◌else◌}
use Rattle.isdb_tlv.specs.Bytes.{be}
use Rattle.isdb_tlv.specs.Walk.{Next, stop, more, run, also}
use Rattle.isdb_mmt.specs.Formats.Section.{long_section_of, in_section}
use Rattle.isdb_tlv.specs.declared.ip.Address.{Address}
use Rattle.isdb_tlv.specs.declared.ip.Address.TheVariants.{V4, V6}
use Rattle.isdb_mmt.specs.declared.table.section.SectionHeader.{SectionHeader}
use Rattle.isdb_mmt.specs.declared.table.section.SectionError.TheVariants.{Malformed}
use Rattle.isdb_mmt.specs.declared.table.amt.AmtService.{AmtService}

-- an address of 16 bytes, or of 4
abbrev pub address_at : List ℕ → ℕ → Bool → Address
address_at s at wide = if wide then V6 (be 8 s at) (be 8 s (at + 8)) else V4 (be 4 s at)

abbrev pub address_size : Bool → ℕ
address_size wide = if wide then 16 else 4

-- source address, its mask 8 bits, destination address, its mask 8 bits
abbrev pub flow_of : List ℕ → ℕ → ℕ → Bool → AmtService
flow_of s id size wide =
    record {
      service_id = id;
      src = address_at s 0 wide;
      src_mask = slice_index s size;
      dst = address_at s (size + 1) wide;
      dst_mask = slice_index s (size * 2 + 1);
    }

-- the flags of a service: IP version 1 bit, 1 for IPv6, reserved 5, length of the loop 10
abbrev pub wide_flow : List ℕ → ℕ → Bool
wide_flow s at = be 2 s (at + 2) / 32768 =? 1

abbrev pub loop_length : List ℕ → ℕ → ℕ
loop_length s at = be 2 s (at + 2) % 1024

-- a service: service id 16 bits, flags, a loop that has the addresses and may be longer
unfoldable pub service_at : List ℕ → ℕ → Option (AmtService × ℕ)
service_at s at =
    if length s - at <? 4 then None
    else if length s - (at + 4) <? loop_length s at then None
    else if loop_length s at <? address_size (wide_flow s at) * 2 + 2 then None
    else Some (flow_of (drop (at + 4) s) (be 2 s at) (address_size (wide_flow s at)) (wide_flow s at), at + 4 + loop_length s at)

-- `n` services from a place on, or none where one is not whole
abbrev pub service_item : Option (AmtService × ℕ) → Next (Option (List AmtService))
service_item None = stop None
service_item (Some (x, next)) = more next (also x)

abbrev pub services_from : ℕ → List ℕ → ℕ → Option (List AmtService)
services_from n s at = run (λ p. service_item (service_at s p)) (λ p. Some []) n at

unfoldable pub services_whole : ℕ → List ℕ → ℕ → Bool
services_whole n s at = is_some (services_from n s at)

-- number of services 10 bits, reserved 6, then those; bytes behind them are not looked at
unfoldable pub amt_body : SectionHeader → List ℕ → Result (SectionHeader × Amt) SectionError
amt_body h s =
    if length s <? 2 then Err Malformed
    else if not (services_whole (be 2 s 0 / 64) s 2) then Err Malformed
    else Ok (h, record { services = be 2 s 0 / 64 })

unfoldable pub amt_of : List ℕ → Result (SectionHeader × Amt) SectionError
amt_of s = in_section Err amt_body s (long_section_of s)
