-- Where a part that a step of a walk gives lies: behind the step's place, within the bytes, and up to where the step leads.
-- Assumes nothing.
use Rattle.std.proofs.Common.{◌≡◌, ℕ, ◌+◌, ◌<◌, ◌≤◌, List, length}
use Rattle.isdb_mmt.specs.declared.part.Part.{Part}

pub record Lies (s : List ℕ) (at : ℕ) (p : Part) (next : ℕ) : Type 0 where
  pub ahead : at < next
  pub within : next ≤ length s
  pub starts : at ≤ p.start
  pub ends : p.start + p.length ≡ next
