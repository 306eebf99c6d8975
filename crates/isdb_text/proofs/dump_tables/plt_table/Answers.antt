use Rattle.isdb_text.proofs.Written.{wrote_append}
use Rattle.isdb_text.specs.DumpTables.{plt_table}
use Rattle.isdb_text.proofs.dump_tables.plt_table.Goals as goal

pub returns : goal.returns
unfolding plt_table
returns c =
    wrote_append c.fill-p.ensures (wrote_append c.packages-p.ensures
    c.deliveries.ensures)
