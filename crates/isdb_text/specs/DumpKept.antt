-- The lines of a kept table as `feeddump` writes them, by which table it is.
use Rattle.std.specs.Prelude.{ℕ, List, []}
use Rattle.std.specs.Prelude.{Option, Some, None, Result, Ok, Err}
use Rattle.isdb_mmt.specs.declared.decoder.refusal.Refusal.{Refusal}
use Rattle.isdb_mmt.specs.declared.part.Part.{Part}
use Rattle.isdb_tlv.specs.Guards.{◌=?◌}
use Rattle.std.specs.Prelude.{if◌then◌else◌}
use Rattle.isdb_mmt.specs.Formats.Part.{part_of}
use Rattle.isdb_mmt.specs.Answers.Readings.{table_id_of_key}
use Rattle.isdb_text.specs.declared.kept_tables.Table.{Table}
use Rattle.isdb_text.specs.declared.kept_tables.Table.TheVariants.{Mpt, Plt, Section, Tot}
use Rattle.isdb_text.specs.DumpTables.{mpt_text, plt_text, bit_text, sdt_text, nit_text, amt_text, eit_text, tot_text}

-- a section, by the table id that its key begins with
abbrev pub section_of : ℕ → ℕ → List ℕ → List ℕ
section_of id key s =
    if id =? 0x9D then bit_text key s
    else if id =? 0x9F then sdt_text key s
    else if id =? 0xA0 then sdt_text key s
    else if id =? 0x40 then nit_text key s
    else if id =? 0x41 then nit_text key s
    else if id =? 0xFE then amt_text key s
    else eit_text key s

unfoldable pub section_text : ℕ → List ℕ → List ℕ
section_text key s = section_of (table_id_of_key key) key s

abbrev pub table_text : Table → List ℕ → List ℕ
table_text (Mpt id) s = mpt_text id s
table_text Plt s = plt_text s
table_text (Section key) s = section_text key s
table_text Tot s = tot_text s

-- by what is read of it, a part of `s`; none where it is not kept or cannot be read
abbrev pub reading_text : Table → Result (Option Part) Refusal → List ℕ → List ℕ
reading_text t (Ok (Some p)) s = table_text t (part_of s p)
reading_text t (Ok None) s = []
reading_text t (Err e) s = []
