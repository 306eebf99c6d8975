-- MH-SDT: ARIB STD-B60, Table 7-23.
use Rattle.isdb_mmt.specs.declared.table.section.Parsed.{Parsed}
use Rattle.isdb_mmt.specs.declared.table.sdt.Sdt.{Sdt}
use Rattle.std.specs.Prelude.{ℕ, ◌+◌, ◌/◌, ◌%◌, List, map, length, slice_index, Err, Ok}
use Rattle.isdb_tlv.specs.Guards.{◌<?◌, ◌=?◌}
use Rattle.std.specs.Prelude.{if◌then◌else◌}
use Rattle.isdb_tlv.specs.Bytes.{be}
use Rattle.isdb_mmt.specs.Formats.Desc.{Loop}
use Rattle.isdb_mmt.specs.Formats.Section.{long_section_of, in_section, entry_at, entry_as, entries_from, parsed}
use Rattle.isdb_mmt.specs.declared.table.section.SectionHeader.{SectionHeader}
use Rattle.isdb_mmt.specs.declared.table.section.SectionError.TheVariants.{Malformed}
use Rattle.isdb_mmt.specs.declared.table.section.Entry.{Entry}
use Rattle.isdb_mmt.specs.declared.table.sdt.SdtService.{SdtService}
use Rattle.isdb_mmt.specs.Formats.Steps.{SdtStep}
use Rattle.isdb_mmt.specs.declared.walk_step.WalkStep.TheVariants.{End, Malformed as broken, Entry as service}

-- original network id 16 bits, reserved 8, then services, which are to end with the body; the reserved byte may be missing
-- where there are none
abbrev pub sdt_loop : SectionHeader → List ℕ → Loop Entry → Parsed (SectionHeader × Sdt)
sdt_loop h s l =
    parsed (if l.whole then Ok (h, record { original_network_id = be 2 s 0; services = length l.found }) else Err Malformed) l.breaks

unfoldable pub sdt_body : SectionHeader → List ℕ → Parsed (SectionHeader × Sdt)
sdt_body h s = if length s <? 2 then parsed (Err Malformed) 0 else sdt_loop h s (entries_from s 3 3)

unfoldable pub sdt_of : List ℕ → Parsed (SectionHeader × Sdt)
sdt_of s = in_section (λ e. parsed (Err e) 0) sdt_body s (long_section_of s)

-- a service: service id 16 bits, reserved 3, EIT user defined flags 3, EIT schedule flag 1, EIT present following flag 1,
-- running status 3, free CA mode 1, descriptors' length 12
abbrev pub service_of : List ℕ → Entry → SdtService
service_of s e =
    record {
      service_id = be 2 s e.at;
      eit_user_defined_flags = slice_index s (e.at + 2) / 4 % 8;
      eit_schedule = slice_index s (e.at + 2) / 2 % 2 =? 1;
      eit_present_following = slice_index s (e.at + 2) % 2 =? 1;
      running_status = slice_index s (e.at + 3) / 32;
      free_ca = slice_index s (e.at + 3) / 16 % 2 =? 1;
      descriptors = e.descriptors;
    }

-- what stands at a place of the body
unfoldable pub service_step : List ℕ → ℕ → SdtStep
service_step s at = entry_as End broken (λ e. service (service_of s e)) (entry_at s 3 at)

-- the services of a body
unfoldable pub services_of : List ℕ → List SdtService
services_of s = map (service_of s) (entries_from s 3 3).found
