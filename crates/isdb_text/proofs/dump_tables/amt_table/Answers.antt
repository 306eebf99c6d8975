use Rattle.isdb_text.proofs.Written.{wrote_append}
use Rattle.isdb_text.specs.DumpTables.{amt_table}
use Rattle.isdb_text.proofs.dump_tables.amt_table.Goals as goal

pub returns : goal.returns
unfolding amt_table
returns c =
    wrote_append c.put-p.ensures (wrote_append c.key_text-p.ensures (wrote_append
    c.put-p-2.ensures c.flows.ensures))
