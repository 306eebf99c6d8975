use Rattle.isdb_text.proofs.Written.{wrote_append}
use Rattle.isdb_text.specs.DumpTables.{service_text}
use Rattle.isdb_text.proofs.dump_tables.sdt_service.Goals as goal

pub returns : goal.returns
unfolding service_text
returns c =
    rw (
      ← c.from.ensures,
      ← c.from-2.ensures,
      ← c.from-3.ensures,
      ← c.of.ensures,
    ) (wrote_append c.fill-p.ensures c.descriptors.ensures)
