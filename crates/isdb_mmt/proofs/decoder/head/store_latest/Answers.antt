use Rattle.isdb_mmt.specs.Memory.Layout.{latest_place}
use Rattle.isdb_mmt.specs.Memory.Session.{latest_fields}
use Rattle.isdb_mmt.proofs.Stored.{stored}
use Rattle.std.proofs.Common.{refl, arith}
use Rattle.isdb_mmt.proofs.decoder.head.store_latest.Goals as goal

pub returns : goal.returns
returns c = let x = c.args in stored (latest_fields x.x) latest_place x.s.now (omega arith) (rw c.put4.ensures refl)
