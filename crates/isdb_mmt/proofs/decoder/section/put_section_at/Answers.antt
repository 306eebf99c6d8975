use Rattle.isdb_mmt.proofs.Lent.{put_none}
use Rattle.isdb_mmt.specs.Memory.Session.{section_fields}
use Rattle.isdb_mmt.proofs.Stored.{stored}
use Rattle.std.proofs.Common.{refl, arith}
use Rattle.isdb_mmt.proofs.decoder.section.put_section_at.Goals as goal

pub returns : goal.returns
returns c = let x = c.args in stored (section_fields x.x) x.at x.s.now (omega (arith, c.requires)) (rw (c.put4.ensures, put_none) refl)
