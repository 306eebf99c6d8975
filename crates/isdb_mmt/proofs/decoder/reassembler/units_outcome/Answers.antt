use Rattle.isdb_mmt.proofs.MediaOutcomes.{outcome_whole}
use Rattle.std.proofs.Common.{rules}
use Rattle.isdb_mmt.proofs.decoder.reassembler.units_outcome.Goals as goal

pub returns-in-Some : goal.returns-in-Some
returns-in-Some c = search (rules, outcome_whole)
