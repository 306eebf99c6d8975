-- Bytes that a reading hands out have a whole value, so that its walks (Walks) are good.
use Rattle.std.specs.Prelude.{◌≡◌, ℕ, true, Some, Ok, is_some}
use Rattle.isdb_mmt.specs.Formats.Part.{part_of}
use Rattle.isdb_mmt.specs.Memory.Session.{Session}
use Rattle.isdb_mmt.specs.Answers.Readings.{table_id_of_key, section_read, mpt_read, plt_read, tot_read}
use Rattle.isdb_mmt.specs.WholeValues.Whole.{mpt_value, plt_value}
use Rattle.isdb_mmt.specs.WholeValues.WholeSections.{tot_value}
use Rattle.isdb_mmt.specs.WholeValues.WholeLists.{section_whole}
use Rattle.isdb_mmt.specs.declared.part.Part.{Part}

pub record ReadTheorem : Type 0 where
  pub mpt : (s : Session) (id : ℕ) (p : Part) → mpt_read s id ≡ Ok (Some p) → is_some (mpt_value (part_of s.tables p)) ≡ true
  pub plt : (s : Session) (p : Part) → plt_read s ≡ Ok (Some p) → is_some (plt_value (part_of s.tables p)) ≡ true
  pub tot : (s : Session) (p : Part) → tot_read s ≡ Ok (Some p) → is_some (tot_value (part_of s.tables p)) ≡ true
  -- as the table that the key's id names
  pub section : (s : Session) (k : ℕ) (p : Part) → section_read s k ≡ Ok (Some p) → section_whole (table_id_of_key k) (part_of s.tables p) ≡ true
