use Rattle.isdb_text.proofs.Written.{wrote_append}
use Rattle.isdb_text.specs.DumpDescriptors.{short_event_text}
use Rattle.isdb_text.proofs.dump_descriptors.short_event.Goals as goal

pub returns : goal.returns
unfolding short_event_text
returns c =
    rw (← c.language_code-code.ensures) (wrote_append c.fill-p.ensures (wrote_append
    c.part_hex-p.ensures (wrote_append c.put-p.ensures c.part_hex.ensures)))
