use Rattle.isdb_mmt.proofs.PlainPushes.{can_give, can_store, unit_pushed}
use Rattle.std.proofs.Common.{rules}
use Rattle.isdb_mmt.proofs.decoder.plain.commit_unit.Goals as goal

pub give_unit-requires : goal.give_unit-requires
give_unit-requires c = search (rules, can_give)

pub store_plain-requires : goal.store_plain-requires
store_plain-requires c = search (rules, can_store)

pub returns : goal.returns
returns c = search (rules, unit_pushed)
