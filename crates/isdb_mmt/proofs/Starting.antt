-- What a walk over tables starts with: copies of the session's bytes and counts. Assumes nothing.
use Rattle.std.proofs.Common.{◌≡◌, ℕ, ◌≤◌, List, length, sym, ◌∙◌, arith}
use Rattle.isdb_mmt.specs.Memory.Layout.{section_places, state_size}
use Rattle.isdb_mmt.specs.Memory.Lent.{part}
use Rattle.isdb_mmt.specs.Pushes.TableOutcome.{index_size}
use Rattle.isdb_mmt.proofs.Lent.{length_part}

-- ---- the index

pub index_length : (ix state b : List ℕ) → length ix ≡ index_size → state_size ≤ length state → b ≡ part section_places index_size state → length ix ≡ length b
index_length ix state b e h eb = e ∙ sym (rw eb (length_part section_places index_size state (omega (arith, h))))
