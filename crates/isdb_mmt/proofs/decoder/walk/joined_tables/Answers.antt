use Rattle.isdb_mmt.proofs.Messages.{joined_can, joined_many, joined_one}
use Rattle.isdb_mmt.proofs.decoder.walk.joined_tables.Goals as goal

pub returns-then-aggregated : goal.returns-then-aggregated
returns-then-aggregated c = joined_many _ _ _ _ _ _ c.requires _ _ _ _ _ c.if-aggregated.true c.messages.ensures

pub message-requires : goal.message-requires
message-requires c = joined_can _ _ _ _ _ c.args.long c.requires

pub returns : goal.returns
returns c = joined_one _ _ _ _ _ c.args.long c.requires _ _ _ _ _ c.if-aggregated.false c.message.ensures
