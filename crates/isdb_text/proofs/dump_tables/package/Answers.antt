use Rattle.isdb_text.proofs.Written.{wrote_append}
use Rattle.isdb_text.specs.DumpTables.{package_text}
use Rattle.isdb_text.proofs.dump_tables.package.Goals as goal

pub returns : goal.returns
unfolding package_text
returns c =
    rw (← c.rest.ensures) (wrote_append c.put-p.ensures (wrote_append
    c.part_hex-p.ensures (wrote_append c.put-p-2.ensures (wrote_append c.location-p.ensures c.put.ensures))))
