use Rattle.std.proofs.Common.{refl, rules}
use Rattle.isdb_mmt.proofs.Names.{few_cell, none_marked, few_twice, few_next}
use Rattle.isdb_mmt.proofs.decoder.place.few_apart.Goals as goal

pub loop-i-init : goal.loop-i-init
loop-i-init c = none_marked few_cell 1 _ _ 0 _ _ _ refl refl

pub returns-then-is_among : goal.returns-then-is_among
returns-then-is_among c = few_twice _ _ _ _ _ _ c.loop-i.invariant _ _ refl c.word-x.ensures _ c.cell.ensures.0 _ c.is_among.ensures (search rules) c.if-is_among.true

pub loop-i-preserved : goal.loop-i-preserved
loop-i-preserved c = few_next _ _ 0 _ _ _ c.loop-i.invariant _ _ refl c.word-x.ensures _ c.cell.ensures.0 _ c.is_among.ensures c.if-is_among.false _ c.with_bit-marks.ensures
