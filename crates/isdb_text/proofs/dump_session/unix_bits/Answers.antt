use Rattle.std.proofs.Common.{rules}
use Rattle.isdb_text.proofs.Dumped.{bits_known, bits_of_none}
use Rattle.isdb_text.proofs.dump_session.unix_bits.Goals as goal

pub returns-then-is_nan : goal.returns-then-is_nan
returns-then-is_nan c = search (rules, bits_of_none)

pub returns-else-is_nan : goal.returns-else-is_nan
returns-else-is_nan c = search (rules, bits_known)
