-- An object's area: storing what is there changes nothing, and an object that grows is written behind what it has. Assumes nothing.
use Rattle.std.specs.Prelude.{Some}
use Rattle.std.proofs.Common.{◌≡◌, ℕ, ◌+◌, ◌≤◌, List, length, ap, ◌∙◌, arith}
use Rattle.isdb_mmt.specs.Decoder.Objects.{Mfu, grown}
use Rattle.isdb_mmt.specs.Memory.Lent.{part, over}
use Rattle.isdb_mmt.specs.Pushes.MediaPush.{held_over}
use Rattle.isdb_mmt.proofs.Lent.{length_part, over_same, over_grown}

-- no unit taken: the held bytes are there already
pub held_same : (at n : ℕ) (l : List ℕ) (h : Mfu) → h.bytes ≡ part at n l → held_over at (Some h) l ≡ l
held_same at n l h e = rw e (over_same at n l)

-- a Middle unit: only its own data are written
pub held_grown : (at n : ℕ) (l d : List ℕ) (h : Mfu) → h.bytes ≡ part at n l → at + n + length d ≤ length l
    → held_over at (Some (grown h d)) l ≡ over (at + n) d l
unfolding grown
held_grown at n l d h e b = over_grown at n h.bytes d l e (ap length e ∙ length_part at n l (omega arith)) b
