use Rattle.isdb_mmt.proofs.Lent.{put_none}
use Rattle.isdb_mmt.specs.Memory.Layout.{used_place}
use Rattle.isdb_mmt.specs.Memory.Session.{used_fields}
use Rattle.isdb_mmt.proofs.Stored.{stored}
use Rattle.std.proofs.Common.{refl, arith}
use Rattle.isdb_mmt.proofs.decoder.head.store_used.Goals as goal

pub returns : goal.returns
returns c = let x = c.args in stored (used_fields x.u) used_place x.s.now (omega arith) (rw (c.put4.ensures, put_none) refl)
