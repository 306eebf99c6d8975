use Rattle.std.specs.Prelude.{Some}
use Rattle.std.proofs.Common.{◌≡◌}
use Rattle.isdb_mmt.specs.Formats.Nit.{bcd_from}
use Rattle.isdb_mmt.proofs.table.nit.bcd.Given as goal

abbrev pub invariant-loop-i : goal.invariant-loop-i
invariant-loop-i l = bcd_from l.i l.b ≡ Some l.v
