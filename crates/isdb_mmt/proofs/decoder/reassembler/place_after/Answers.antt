use Rattle.isdb_mmt.proofs.MediaOutcomes.{adds_small}
use Rattle.std.proofs.Common.{rules}
use Rattle.isdb_mmt.proofs.decoder.reassembler.place_after.Goals as goal

pub add_stats-requires : goal.add_stats-requires
add_stats-requires c = search (rules, adds_small)
