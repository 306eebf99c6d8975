use Rattle.isdb_mmt.proofs.PlainStores.{stored_part}
use Rattle.std.proofs.Common.{rules}
use Rattle.isdb_mmt.proofs.decoder.plain.store_part.Goals as goal

pub returns : goal.returns
returns c = search (rules, stored_part)
