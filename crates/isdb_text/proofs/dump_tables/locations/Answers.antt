use Rattle.std.proofs.Common.{sym, refl, ◌∙◌, arith, rules}
use Rattle.isdb_text.proofs.Elements.{walk_start, walk_turn, walk_ended, walk_end}
use Rattle.isdb_mmt.proofs.Assets.{location_within}
use Rattle.isdb_text.proofs.dump_tables.locations.Goals as goal

pub loop-init : goal.loop-init
loop-init c = search (rules, walk_start)

pub returns-in_default : goal.returns-in_default
returns-in_default c = search (rules, walk_ended)

pub overflow_add-i : goal.overflow_add-i
overflow_add-i c =
    let w = location_within _ c.loop.i (sym
    c.location_at.ensures ∙ c.in-Some.is) in omega arith

pub loop-preserved : goal.loop-preserved
loop-preserved c = walk_turn c.loop.invariant _ _ c.location_at.ensures c.in-Some.is c.loop-test.true (rw c.rest.ensures refl) c.location_line-p.ensures

pub returns-after-loop : goal.returns-after-loop
returns-after-loop c = search (rules, walk_end)
