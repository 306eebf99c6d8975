use Rattle.isdb_text.proofs.Written.{wrote_append}
use Rattle.isdb_text.proofs.Spelling.{same_number}
use Rattle.isdb_text.specs.DumpDescriptors.{extended_text}
use Rattle.isdb_text.proofs.dump_descriptors.extended.Goals as goal

pub returns : goal.returns
unfolding extended_text
returns c =
    let timescale = rw (same_number c.args.e.timescale _ c.map.ensures.cases) at c.maybe-p.ensures in
    let offset = rw (same_number c.args.e.default_pts_offset _ c.map-2.ensures.cases) at c.maybe-p-2.ensures in
    wrote_append c.put-p.ensures (wrote_append timescale (wrote_append c.put-p-2.ensures (wrote_append offset (wrote_append
    c.put-p-3.ensures c.mpus.ensures))))
