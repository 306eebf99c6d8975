use Rattle.isdb_mmt.proofs.Gives.{one_put}
use Rattle.std.proofs.Common.{rules}
use Rattle.isdb_mmt.proofs.decoder.records.put_record.Goals as goal

pub returns : goal.returns
returns c = search (rules, one_put)
