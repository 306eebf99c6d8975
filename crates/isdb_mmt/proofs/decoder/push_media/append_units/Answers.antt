use Rattle.std.proofs.Common.{rules}
use Rattle.isdb_mmt.proofs.Appends.{appending_first, appending_end, appending_bad, appending_put, appending_add, appending_less, appending_next}
use Rattle.isdb_mmt.proofs.decoder.push_media.append_units.Goals as goal

pub loop-u-init : goal.loop-u-init
loop-u-init c = search (rules, appending_first)

pub returns-in-End : goal.returns-in-End
returns-in-End c = search (rules, appending_end)

pub returns-in-Malformed : goal.returns-in-Malformed
returns-in-Malformed c = search (rules, appending_bad)

pub put_in_area-requires : goal.put_in_area-requires
put_in_area-requires c = search (rules, appending_put)

pub overflow_add-k : goal.overflow_add-k
overflow_add-k c = search (rules, appending_add)

pub loop-u-smaller : goal.loop-u-smaller
loop-u-smaller c = search (rules, appending_less)

pub loop-u-preserved : goal.loop-u-preserved
loop-u-preserved c = search (rules, appending_next)
