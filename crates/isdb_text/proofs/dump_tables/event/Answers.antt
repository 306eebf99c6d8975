use Rattle.isdb_text.proofs.Written.{wrote_append}
use Rattle.isdb_text.specs.DumpTables.{event_text}
use Rattle.isdb_text.proofs.dump_tables.event.Goals as goal

pub returns : goal.returns
unfolding event_text
returns c =
    rw (← c.from.ensures, ← c.of.ensures) (wrote_append c.fill-p.ensures
    c.descriptors.ensures)
