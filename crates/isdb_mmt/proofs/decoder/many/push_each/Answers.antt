use Rattle.isdb_mmt.proofs.PushAll.{ran_all}
use Rattle.std.proofs.Common.{rules}
use Rattle.isdb_mmt.proofs.decoder.many.push_each.Goals as goal

pub returns-in-Err : goal.returns-in-Err
returns-in-Err c = search (rules, ran_all)
