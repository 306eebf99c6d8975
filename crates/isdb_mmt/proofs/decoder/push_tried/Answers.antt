use Rattle.isdb_mmt.proofs.PlainPushes.{can_try_known}
use Rattle.std.proofs.Common.{rules}
use Rattle.isdb_mmt.proofs.decoder.push_tried.Goals as goal

pub push_plain-requires : goal.push_plain-requires
push_plain-requires c = search (rules, can_try_known)
