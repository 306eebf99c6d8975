-- A text that is written up to where a write fails.
use Rattle.std.specs.Prelude.{◌≡◌, List, ℕ, ◌++◌, Option}
use Rattle.std.specs.Io.KnownBytes.{Appends}

-- a writer that held `a` holds `b`, which is a first part of the text more; `rest` is what is left of the text
pub record LeavesToWrite (a b : Option (List ℕ)) (text rest : List ℕ) : Type 0 where
  pub done : List ℕ
  pub split : text ≡ done ++ rest
  pub appended : Appends a b done

-- some first part of the text is written
abbrev pub WritesFront : Option (List ℕ) → Option (List ℕ) → List ℕ → Type 0
WritesFront a b text = (rest : List ℕ) × LeavesToWrite a b text rest
