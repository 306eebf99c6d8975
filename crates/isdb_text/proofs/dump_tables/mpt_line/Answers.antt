use Rattle.isdb_text.proofs.Spelling.{same_number}
use Rattle.isdb_text.proofs.Written.{wrote_append}
use Rattle.isdb_text.specs.DumpTables.{mpt_line}
use Rattle.isdb_text.proofs.dump_tables.mpt_line.Goals as goal

pub returns : goal.returns
unfolding mpt_line
returns c =
    rw (← c.service_id.ensures, ← same_number c.service_id.result _ c.map.ensures.cases) (wrote_append c.fill-p.ensures (wrote_append
    c.part_hex-p.ensures (wrote_append c.put-p.ensures (wrote_append c.maybe-p.ensures c.put.ensures))))
