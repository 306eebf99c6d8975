use Rattle.isdb_mmt.proofs.Messages.{table_tell, table_apply, table_walked}
use Rattle.isdb_mmt.proofs.decoder.walk.table.Goals as goal

pub joined_outcome-x-requires : goal.joined_outcome-x-requires
joined_outcome-x-requires c = let x = c.args in table_tell _ _ _ _ x.a.now x.b.now _ _ c.requires _ c.behind-q.ensures _ _ c.of.ensures c.of-2.ensures

pub apply-requires : goal.apply-requires
apply-requires c = let x = c.args in table_apply _ _ _ _ x.a.now x.b.now _ _ c.requires _ c.behind-q.ensures _ _ c.of.ensures c.of-2.ensures _ c.joined_outcome-x.ensures

pub returns : goal.returns
returns c = let x = c.args in table_walked _ _ _ _ x.a.now x.b.now _ _ c.requires _ c.behind-q.ensures _ _ c.of.ensures c.of-2.ensures _ c.joined_outcome-x.ensures _ _ _ _ c.apply.ensures
