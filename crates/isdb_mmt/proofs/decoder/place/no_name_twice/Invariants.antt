use Rattle.isdb_mmt.proofs.Names.{Marked}
use Rattle.isdb_mmt.specs.Memory.Lent.{names_from, cell_of}
use Rattle.isdb_mmt.proofs.decoder.place.no_name_twice.Given as goal

abbrev pub invariant-loop-i : goal.invariant-loop-i
invariant-loop-i l = Marked cell_of 512 (names_from l.i l.size l.at l.s) l.marks
