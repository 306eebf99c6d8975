use Rattle.isdb_mmt.proofs.Joined.{outcome_both}
use Rattle.isdb_mmt.proofs.decoder.table_outcome.gathered.Goals as goal

pub returns : goal.returns
returns c = outcome_both _ _ _ _ c.requires.0 _ _ _ _ _ c.requires.1 _ _ _ c.put_bytes.ensures c.put_bytes-2.ensures c.part.ensures c.outcome_of.ensures
