-- The texts of ids in ascending order.
use Rattle.std.specs.Prelude.{ℕ, ◌+◌, List, Option, Some, None, Result, Ok, Err}
use Rattle.isdb_mmt.specs.declared.decoder.refusal.Refusal.{Refusal}
use Rattle.isdb_text.specs.Elements.{Element, ended, element, texts}

-- the next id's text, and where those above it begin; none where there is no id, or it cannot be read
abbrev pub id_element : (ℕ → List ℕ) → Result (Option ℕ) Refusal → Element
id_element text (Ok (Some id)) = element (text id) (id + 1)
id_element text (Ok None) = ended
id_element text (Err e) = ended

-- the texts of the ids from `a` on: the next one's, then those above it, `k` at most
abbrev pub ascending_text : ℕ → (ℕ → Result (Option ℕ) Refusal) → (ℕ → List ℕ) → ℕ → List ℕ
ascending_text k next text a = texts (λ at. id_element text (next at)) k a
