use Rattle.isdb_mmt.specs.Memory.Session.{limits_fields}
use Rattle.isdb_mmt.proofs.Stored.{stored}
use Rattle.std.proofs.Common.{refl, arith}
use Rattle.isdb_mmt.proofs.decoder.head.store_limits.Goals as goal

pub returns : goal.returns
returns c = let x = c.args in stored (limits_fields x.l) 0 x.s.now (omega arith) (rw (c.put4-2.ensures, c.put4.ensures) refl)
