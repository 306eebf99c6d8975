use Rattle.std.proofs.Common.{rules}
use Rattle.isdb_mmt.proofs.Gives.{giving_first, giving_end, giving_bad, giving_cast, giving_start, giving_row, giving_bytes, giving_add_k, giving_add_d, giving_less, giving_next}
use Rattle.isdb_mmt.proofs.decoder.records.give_units.Goals as goal

pub loop-u-init : goal.loop-u-init
loop-u-init c = search (rules, giving_first)

pub returns-in-End : goal.returns-in-End
returns-in-End c = search (rules, giving_end)

pub returns-in-Malformed : goal.returns-in-Malformed
returns-in-Malformed c = search (rules, giving_bad)

pub overflow_cast-n : goal.overflow_cast-n
overflow_cast-n c = search (rules, giving_cast)

pub overflow_cast-d : goal.overflow_cast-d
overflow_cast-d c = search (rules, giving_start)

pub put_row-requires : goal.put_row-requires
put_row-requires c = search (rules, giving_row)

pub put_in_area-requires : goal.put_in_area-requires
put_in_area-requires c = search (rules, giving_bytes)

pub overflow_add-k : goal.overflow_add-k
overflow_add-k c = search (rules, giving_add_k)

pub overflow_add-d : goal.overflow_add-d
overflow_add-d c = search (rules, giving_add_d)

pub loop-u-smaller : goal.loop-u-smaller
loop-u-smaller c = search (rules, giving_less)

pub loop-u-preserved : goal.loop-u-preserved
loop-u-preserved c = search (rules, giving_next)
