use Rattle.isdb_text.proofs.Written.{wrote_append}
use Rattle.isdb_text.proofs.Spelling.{same_number}
use Rattle.isdb_text.specs.DumpDescriptors.{unit_text}
use Rattle.isdb_text.proofs.dump_descriptors.access_unit.Goals as goal

pub returns : goal.returns
unfolding unit_text
returns c = rw (← same_number c.args.u.pts_offset _ c.map.ensures.cases) (wrote_append c.fill-p.ensures c.maybe.ensures)
