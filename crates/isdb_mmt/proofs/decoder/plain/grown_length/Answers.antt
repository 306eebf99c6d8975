use Rattle.isdb_mmt.proofs.PlainTests.{length_cast, has_grown}
use Rattle.std.proofs.Common.{rules}
use Rattle.isdb_mmt.proofs.decoder.plain.grown_length.Goals as goal

pub overflow_cast-result : goal.overflow_cast-result
overflow_cast-result c = search (rules, length_cast)

pub returns : goal.returns
returns c = search (rules, has_grown)
