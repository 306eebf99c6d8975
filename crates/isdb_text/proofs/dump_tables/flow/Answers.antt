use Rattle.isdb_text.proofs.Written.{wrote_append}
use Rattle.isdb_text.specs.DumpTables.{flow_text}
use Rattle.isdb_text.proofs.dump_tables.flow.Goals as goal

pub returns : goal.returns
unfolding flow_text
returns c =
    wrote_append c.fill-p.ensures (wrote_append c.address-p.ensures (wrote_append
    c.fill-p-2.ensures (wrote_append c.address-p-2.ensures c.fill.ensures)))
