use Rattle.isdb_mmt.proofs.Taking.{not_mmtp_lem}
use Rattle.std.proofs.Common.{rules}
use Rattle.isdb_mmt.proofs.decoder.take.push_mmtp.Goals as goal

pub returns-in-None : goal.returns-in-None
returns-in-None c = search (rules, not_mmtp_lem)
