use Rattle.isdb_mmt.proofs.PushAll.{pushed_behind}
use Rattle.std.proofs.Common.{rules}
use Rattle.isdb_mmt.proofs.decoder.many.push_behind.Goals as goal

pub returns : goal.returns
returns c = search (rules, pushed_behind)
