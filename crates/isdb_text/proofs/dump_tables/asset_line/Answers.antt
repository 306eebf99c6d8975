use Rattle.isdb_text.proofs.Spelling.{same_number}
use Rattle.isdb_text.proofs.Written.{wrote_append}
use Rattle.isdb_text.specs.DumpTables.{asset_line}
use Rattle.isdb_text.proofs.dump_tables.asset_line.Goals as goal

pub returns : goal.returns
unfolding asset_line
returns c =
    rw (
      ← c.packet_id.ensures,
      ← same_number c.packet_id.result _ c.map.ensures.cases,
      ← c.of.ensures,
      ← c.component_tag.ensures,
      ← same_number c.component_tag.result _ c.map-2.ensures.cases,
    ) (wrote_append
    c.asset_fields-p.ensures (wrote_append c.maybe-p.ensures (wrote_append c.put-p.ensures (wrote_append
    c.maybe-p-2.ensures c.put.ensures))))
