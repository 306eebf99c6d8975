use Rattle.std.proofs.Common.{rules}
use Rattle.isdb_text.proofs.Written.{left_all}
use Rattle.isdb_text.proofs.Spelling.{text_turn, text_end}
use Rattle.isdb_text.proofs.text.put.Goals as goal

pub loop-x-init : goal.loop-x-init
loop-x-init c = search left_all

pub loop-x-preserved : goal.loop-x-preserved
loop-x-preserved c = search (rules, text_turn)

pub returns : goal.returns
returns c = search (rules, text_end)
