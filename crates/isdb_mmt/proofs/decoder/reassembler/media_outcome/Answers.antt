use Rattle.isdb_mmt.proofs.MediaOutcomes.{outcome_passed, ready_start}
use Rattle.std.proofs.Common.{rules}
use Rattle.isdb_mmt.proofs.decoder.reassembler.media_outcome.Goals as goal

pub returns-then-scrambled : goal.returns-then-scrambled
returns-then-scrambled c = search (rules, outcome_passed)

pub units_outcome-requires : goal.units_outcome-requires
units_outcome-requires c = search (rules, ready_start)
