use Rattle.std.proofs.Common.{◌∙◌, arith}
use Rattle.isdb_text.proofs.DigitValues.{pair_turn, pair_end}
use Rattle.isdb_text.proofs.digits.pairs.Goals as goal

pub loop-pair-preserved : goal.loop-pair-preserved
loop-pair-preserved c =
    let two = c.loop-pair.invariant.0 in let steps = c.in-Some.ensures.steps in (
      steps.0 ∙ two,
      pair_turn _ _ _ c.loop-pair.invariant.1 steps.1.0 (steps.1.1 ∙ two) c.value.ensures c.value-in-loop-pair.ensures c.byte_of.ensures
          c.put_byte-p.ensures,
    )

pub returns : goal.returns
returns c = pair_end _ c.loop-pair.invariant.1 (omega (arith, c.loop-pair.invariant.0, c.in-None.ensures.steps.1.0))
