use Rattle.std.proofs.Common.{[], ◌∷◌}
use Rattle.isdb_mmt.proofs.Names.{Marked, few_cell}
use Rattle.isdb_mmt.specs.Memory.Lent.{names_from}
use Rattle.isdb_mmt.proofs.decoder.place.few_apart.Given as goal

abbrev pub invariant-loop-i : goal.invariant-loop-i
invariant-loop-i l = Marked few_cell 1 (names_from l.i l.size l.at l.s) (l.marks ∷ [])
