use Rattle.isdb_text.proofs.Written.{wrote_append}
use Rattle.isdb_text.specs.DumpDescriptors.{tlv_line}
use Rattle.isdb_text.proofs.dump_descriptors.tlv_line.Goals as goal

pub returns : goal.returns
unfolding tlv_line
returns c =
    wrote_append c.put-p.ensures (wrote_append c.fill-p.ensures (wrote_append c.hex-p.ensures
    (wrote_append c.tlv_text-p.ensures c.put.ensures)))
