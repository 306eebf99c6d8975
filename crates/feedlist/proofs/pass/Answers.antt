use Rattle.feedlist.proofs.Passing.{passing_first, place_fits, stops_end, stops_short, stops_bad, full_less, full_on, refused_less, refused_on}
use Rattle.std.proofs.Common.{rules}
use Rattle.feedlist.proofs.pass.Goals as goal

pub loop-at-init : goal.loop-at-init
loop-at-init c = search (rules, passing_first)

pub overflow_add-next : goal.overflow_add-next
overflow_add-next c = search (rules, place_fits)

pub returns-in-End : goal.returns-in-End
returns-in-End c = search (rules, stops_end)

pub returns-in-Short : goal.returns-in-Short
returns-in-Short c = search (rules, stops_short)

pub returns-in-Bad : goal.returns-in-Bad
returns-in-Bad c = search (rules, stops_bad)

pub loop-at-smaller-in-Full : goal.loop-at-smaller-in-Full
loop-at-smaller-in-Full c = search (rules, full_less)

pub loop-at-preserved-in-Full : goal.loop-at-preserved-in-Full
loop-at-preserved-in-Full c = search (rules, full_on)

pub loop-at-smaller : goal.loop-at-smaller
loop-at-smaller c = search (rules, refused_less)

pub loop-at-preserved : goal.loop-at-preserved
loop-at-preserved c = search (rules, refused_on)
