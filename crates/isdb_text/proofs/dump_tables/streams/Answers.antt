use Rattle.std.proofs.Common.{rules}
use Rattle.isdb_text.proofs.Elements.{walk_start, walk_turn, walk_either, walk_end}
use Rattle.isdb_text.proofs.dump_tables.streams.Goals as goal

pub loop-init : goal.loop-init
loop-init c = search (rules, walk_start)

pub returns-in-End : goal.returns-in-End
returns-in-End c = search (rules, walk_either)

pub loop-preserved : goal.loop-preserved
loop-preserved c = search (rules, walk_turn)

pub returns-after-loop : goal.returns-after-loop
returns-after-loop c = search (rules, walk_end)
