use Rattle.isdb_text.proofs.Written.{wrote_append}
use Rattle.isdb_text.specs.DumpTables.{asset_fields}
use Rattle.isdb_text.proofs.dump_tables.asset_fields.Goals as goal

pub returns : goal.returns
unfolding asset_fields
returns c =
    rw (← c.from.ensures) (wrote_append c.fill-p.ensures (wrote_append c.part_hex-p.ensures
    c.fill.ensures))
