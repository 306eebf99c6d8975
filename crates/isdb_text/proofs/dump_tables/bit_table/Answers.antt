use Rattle.isdb_text.proofs.Written.{wrote_append}
use Rattle.isdb_text.specs.DumpTables.{bit_table}
use Rattle.isdb_text.proofs.dump_tables.bit_table.Goals as goal

pub returns : goal.returns
unfolding bit_table
returns c =
    rw (← c.from-propriety.ensures, ← c.of.ensures) (wrote_append
    c.put-p.ensures (wrote_append c.key_text-p.ensures (wrote_append c.fill-p.ensures
    (wrote_append c.descriptors-p.ensures c.broadcasters.ensures))))
