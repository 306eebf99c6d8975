use Rattle.std.proofs.Common.{rules}
use Rattle.isdb_text.proofs.Written.{left_all}
use Rattle.isdb_text.proofs.Spelling.{pairs_turn, pairs_end}
use Rattle.isdb_text.proofs.text.pairs.Goals as goal

pub loop-x-init : goal.loop-x-init
loop-x-init c = search left_all

pub loop-x-preserved : goal.loop-x-preserved
loop-x-preserved c = search (rules, pairs_turn)

pub returns : goal.returns
returns c = search (rules, pairs_end)
