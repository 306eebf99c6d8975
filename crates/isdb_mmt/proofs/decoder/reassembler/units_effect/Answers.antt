use Rattle.std.proofs.Common.{rules}
use Rattle.isdb_mmt.proofs.MediaEffects.{going_next}
use Rattle.isdb_mmt.proofs.decoder.reassembler.units_effect.Goals as goal

pub loop-u-preserved : goal.loop-u-preserved
loop-u-preserved c = search (rules, going_next)
