use Rattle.isdb_text.proofs.Written.{wrote_append}
use Rattle.isdb_text.specs.DumpDescriptors.{ipv6_text}
use Rattle.isdb_text.proofs.dump_descriptors.ipv6.Goals as goal

pub returns : goal.returns
unfolding ipv6_text
returns c =
    wrote_append c.put-p.ensures (wrote_append c.address-p.ensures (wrote_append
    c.put-p-2.ensures (wrote_append c.address-p-2.ensures c.fill.ensures)))
