-- How a push answers, read with the question's number.
use Rattle.std.specs.Prelude.{ℕ, Result, Ok, Err}
use Rattle.isdb_mmt.specs.Memory.Refusals.{number_of}
use Rattle.isdb_mmt.specs.declared.decoder.records.HandedOut.{HandedOut}
use Rattle.isdb_mmt.specs.declared.decoder.refusal.Refusal.{Refusal}

-- 0 and how many records and data bytes are handed out, or the number of the question that is answered no
pub record Answer : Type 0 where
  pub number : ℕ
  pub records : ℕ
  pub bytes : ℕ

abbrev pub answered : Result HandedOut Refusal → Answer
answered (Ok h) = record { number = 0; records = h.records; bytes = h.bytes }
answered (Err r) = record { number = number_of r; records = 0; bytes = 0 }
