use Rattle.isdb_mmt.proofs.PlainStores.{stored_plain}
use Rattle.std.proofs.Common.{rules}
use Rattle.isdb_mmt.proofs.decoder.plain.store_plain.Goals as goal

pub returns : goal.returns
returns c = search (rules, stored_plain)
