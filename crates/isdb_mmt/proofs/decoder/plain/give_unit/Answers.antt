use Rattle.isdb_mmt.proofs.PlainPushes.{gave_read}
use Rattle.std.proofs.Common.{rules}
use Rattle.isdb_mmt.proofs.decoder.plain.give_unit.Goals as goal

pub returns : goal.returns
returns c = search (rules, gave_read)
