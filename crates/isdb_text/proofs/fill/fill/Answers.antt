use Rattle.std.proofs.Common.{refl, arith, rules}
use Rattle.isdb_text.proofs.Filling.{fill_turn, fill_end, taken_small}
use Rattle.isdb_text.proofs.Written.{left_all}
use Rattle.isdb_text.proofs.fill.fill.Goals as goal

pub loop-i-init : goal.loop-i-init
loop-i-init c = (search rules, search left_all)

pub overflow_add-v-in-loop-i : goal.overflow_add-v-in-loop-i
overflow_add-v-in-loop-i c = record { fits = omega (arith, taken_small _ _ c.taken-v.ensures) }

pub loop-i-preserved : goal.loop-i-preserved
loop-i-preserved c = (
  omega (arith, taken_small _ _ c.taken-v.ensures),
  fill_turn _ _ _ _ _ _ _ _ _ c.loop-i.invariant.1 c.loop-i-test.true refl c.places-k.ensures
      c.number_at.ensures c.number_at-in-loop-i.ensures
      c.spelled-p.ensures c.taken-v.ensures,
)

pub returns : goal.returns
returns c = search (rules, fill_end)
