-- The line of a kept table as `replay` writes it: which it is, and its bytes.
use Rattle.std.specs.Prelude.{ℕ, List, [], ◌∷◌, ◌++◌}
use Rattle.std.specs.Prelude.{Option, Some, None, Result, Ok, Err}
use Rattle.isdb_mmt.specs.declared.decoder.refusal.Refusal.{Refusal}
use Rattle.isdb_mmt.specs.declared.part.Part.{Part}
use Rattle.isdb_mmt.specs.Memory.Refusals.{number_of}
use Rattle.isdb_mmt.specs.Formats.Part.{part_of}
use Rattle.isdb_text.specs.declared.kept_tables.Table.{Table}
use Rattle.isdb_text.specs.declared.kept_tables.Table.TheVariants.{Mpt, Plt, Section, Tot}
use Rattle.isdb_text.specs.Text.{ascii, bytes_as_hex}
use Rattle.isdb_text.specs.Fill.{filled}

abbrev pub name_text : Table → List ℕ
name_text (Mpt id) = filled (ascii "kept mpt # ") (id ∷ [])
name_text Plt = ascii "kept plt "
name_text (Section key) = filled (ascii "kept section %%%%%%%% ") (key ∷ [])
name_text Tot = ascii "kept tot "

unfoldable pub bytes_line : Table → List ℕ → List ℕ
bytes_line t s = name_text t ++ (bytes_as_hex s ++ ascii "\n")

-- by what is read of it: a part of `s`, or the number for which the reading is turned down; no text where it is not kept
abbrev pub reading_line_by_number : Table → Result (Option Part) ℕ → List ℕ → List ℕ
reading_line_by_number t (Ok (Some p)) s = bytes_line t (part_of s p)
reading_line_by_number t (Ok None) s = []
reading_line_by_number t (Err n) s = filled (ascii "kept refused #\n") (n ∷ [])

-- the same of an answer of the library
abbrev pub reading_line : Table → Result (Option Part) Refusal → List ℕ → List ℕ
reading_line t (Ok (Some p)) s = bytes_line t (part_of s p)
reading_line t (Ok None) s = []
reading_line t (Err e) s = filled (ascii "kept refused #\n") (number_of e ∷ [])
