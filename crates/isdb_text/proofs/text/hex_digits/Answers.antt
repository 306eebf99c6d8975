use Rattle.std.proofs.Common.{rules}
use Rattle.isdb_text.proofs.Written.{left_all}
use Rattle.isdb_text.proofs.Spelling.{digits_turn, digits_end}
use Rattle.isdb_text.proofs.text.hex_digits.Goals as goal

pub loop-k-init : goal.loop-k-init
loop-k-init c = search left_all

pub loop-k-preserved : goal.loop-k-preserved
loop-k-preserved c = search (rules, digits_turn)

pub returns : goal.returns
returns c = search (rules, digits_end)
