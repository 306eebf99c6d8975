use Rattle.isdb_text.proofs.Written.{wrote_append}
use Rattle.isdb_text.specs.DumpTables.{nit_table}
use Rattle.isdb_text.proofs.dump_tables.nit_table.Goals as goal

pub returns : goal.returns
unfolding nit_table
returns c =
    rw (← c.of.ensures, ← c.of-2.ensures) (wrote_append
    c.put-p.ensures (wrote_append c.key_text-p.ensures (wrote_append c.put-p-2.ensures
    (wrote_append c.tlv_descriptors-p.ensures c.streams.ensures))))
