use Rattle.std.proofs.Common.{refl, arith}
use Rattle.isdb_mmt.proofs.Stored.{stored}
use Rattle.isdb_mmt.specs.Memory.Session.{counters_fields}
use Rattle.isdb_mmt.specs.Memory.Layout.{counters_place}
use Rattle.isdb_mmt.proofs.decoder.head.store_counters.Goals as goal

pub returns : goal.returns
returns c = stored (counters_fields _) counters_place _ (omega arith) (rw c.put_counters.ensures refl)
