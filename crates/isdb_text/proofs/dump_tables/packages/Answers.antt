use Rattle.std.proofs.Common.{rules}
use Rattle.isdb_text.proofs.Elements.{walk_start, walk_turn, walk_ended, walk_end}
use Rattle.isdb_text.proofs.dump_tables.packages.Goals as goal

pub loop-init : goal.loop-init
loop-init c = search (rules, walk_start)

pub returns-in_default : goal.returns-in_default
returns-in_default c = search (rules, walk_ended)

pub loop-preserved : goal.loop-preserved
loop-preserved c = search (rules, walk_turn)

pub returns-after-loop : goal.returns-after-loop
returns-after-loop c = search (rules, walk_end)
