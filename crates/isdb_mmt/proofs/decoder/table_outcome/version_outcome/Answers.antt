use Rattle.isdb_mmt.proofs.TableOutcomes.{version_same, version_other}
use Rattle.std.proofs.Common.{rules}
use Rattle.isdb_mmt.proofs.decoder.table_outcome.version_outcome.Goals as goal

pub returns-then-k-h : goal.returns-then-k-h
returns-then-k-h c = search (rules, version_same)

pub returns-else-k-h : goal.returns-else-k-h
returns-else-k-h c = search (rules, version_other)
