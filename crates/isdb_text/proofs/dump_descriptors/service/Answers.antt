use Rattle.isdb_text.proofs.Written.{wrote_append}
use Rattle.isdb_text.specs.DumpDescriptors.{service_text}
use Rattle.isdb_text.proofs.dump_descriptors.service.Goals as goal

pub returns : goal.returns
unfolding service_text
returns c =
    wrote_append c.fill-p.ensures (wrote_append c.part_hex-p.ensures (wrote_append
    c.put-p.ensures c.part_hex.ensures))
