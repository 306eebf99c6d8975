use Rattle.isdb_text.proofs.Written.{wrote_append}
use Rattle.isdb_text.specs.DumpDescriptors.{tlv_text}
use Rattle.isdb_text.proofs.dump_descriptors.tlv_text.Goals as goal

pub returns-in-65 : goal.returns-in-65
unfolding tlv_text
returns-in-65 c = rw c.in-65.is (wrote_append c.put-p.ensures c.services.ensures)

pub returns-in-64 : goal.returns-in-64
unfolding tlv_text
returns-in-64 c = rw c.in-64.is (wrote_append c.put-p-in-64.ensures c.hex.ensures)

pub returns-in-67 : goal.returns-in-67
unfolding tlv_text
returns-in-67 c =
    let f = rw c.in-67.is at c.satellite_frequency_khz.ensures in
    rw (c.in-67.is, ← f) (wrote_append c.put-p-in-67.ensures c.maybe.ensures)
