use Rattle.isdb_mmt.proofs.Signals.{section_apply, section_walked}
use Rattle.isdb_mmt.proofs.decoder.walk.section.Goals as goal

pub apply-requires : goal.apply-requires
apply-requires c = section_apply _ _ _ _ _ _ c.requires _ c.section_outcome-x.ensures

pub returns : goal.returns
returns c = section_walked _ _ _ _ _ _ c.requires _ c.section_outcome-x.ensures _ _ _ _ c.apply.ensures
