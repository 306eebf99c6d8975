use Rattle.std.proofs.Common.{rules}
use Rattle.isdb_text.proofs.Spelling.{wrote_one, wrote_more}
use Rattle.isdb_text.proofs.text.+decimal.Goals as goal

pub returns-then-n-lt10 : goal.returns-then-n-lt10
returns-then-n-lt10 t c = search (rules, wrote_one)

pub returns-else-n-lt10 : goal.returns-else-n-lt10
returns-else-n-lt10 t c = search (rules, wrote_more)
