use Rattle.isdb_text.proofs.Written.{wrote_append}
use Rattle.isdb_text.specs.DumpDescriptors.{access_control_text}
use Rattle.isdb_text.proofs.dump_descriptors.access_control.Goals as goal

pub returns : goal.returns
unfolding access_control_text
returns c =
    rw (← c.rest.ensures) (wrote_append c.fill-p.ensures c.ca_location.ensures)
