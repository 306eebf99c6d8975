use Rattle.isdb_mmt.specs.Memory.Session.{control_fields}
use Rattle.isdb_mmt.proofs.Stored.{filled}
use Rattle.std.proofs.Common.{refl, arith}
use Rattle.isdb_mmt.proofs.decoder.control.put_control.Goals as goal

pub returns : goal.returns
returns c = let x = c.args in filled (control_fields x.c) x.p.now (omega (arith, c.requires)) (rw (c.put_u32.ensures, c.put4-2.ensures, c.put4.ensures) refl)
