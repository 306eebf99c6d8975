use Rattle.isdb_text.proofs.Written.{wrote_append}
use Rattle.isdb_text.specs.DumpTables.{broadcaster_text}
use Rattle.isdb_text.proofs.dump_tables.broadcaster.Goals as goal

pub returns : goal.returns
unfolding broadcaster_text
returns c =
    rw (← c.of.ensures) (wrote_append c.fill-p.ensures c.descriptors.ensures)
