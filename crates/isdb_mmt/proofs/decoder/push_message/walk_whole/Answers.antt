use Rattle.isdb_mmt.proofs.WholePush.{walk_done}
use Rattle.isdb_mmt.proofs.decoder.push_message.walk_whole.Goals as goal

pub returns : goal.returns
returns c = walk_done _ _ _ _ _ _ _ _ _ _ _ _ c.requires _ c.load_limits-l.ensures _ _ _ c.load_index.ensures (c.fill.ensures.after (λ y e. e)) c.copy_from_slice.ensures.after _ c.recent_in-mpt.ensures _ c.walk_start-g.ensures _ c.before_by-a.ensures _ c.rest.ensures _ c.long_by-long.ensures _ c.aggregated_by-aggregated.ensures _ _ _ _ c.joined_tables.ensures
