use Rattle.isdb_text.proofs.Written.{wrote_append}
use Rattle.isdb_text.specs.DumpDescriptors.{descriptor_line}
use Rattle.isdb_text.proofs.dump_descriptors.descriptor_line.Goals as goal

pub returns : goal.returns
unfolding descriptor_line
returns c =
    rw (← c.decode.ensures) (wrote_append c.put-p.ensures (wrote_append c.put-p-2.ensures (wrote_append
    c.descriptor-p.ensures c.put.ensures)))
