use Rattle.isdb_mmt.proofs.Commits.{put_second}
use Rattle.isdb_mmt.proofs.decoder.commit.put_part.Goals as goal

pub put_bytes-requires-2 : goal.put_bytes-requires-2
put_bytes-requires-2 c = let x = c.args in put_second _ _ x.a.now x.b.now _ c.requires _ c.of-x.ensures _ c.behind-q.ensures _ c.of.ensures _ c.put_bytes.ensures
