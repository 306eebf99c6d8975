use Rattle.std.proofs.Common.{refl, rules}
use Rattle.isdb_mmt.proofs.Names.{none_marked, located_twice, mark_next}
use Rattle.isdb_mmt.specs.Memory.Lent.{cell_of}
use Rattle.isdb_mmt.proofs.decoder.place.no_name_twice.Goals as goal

pub loop-i-init : goal.loop-i-init
loop-i-init c = none_marked cell_of 512 _ _ 0 _ _ _ refl c.requires.1.1

pub returns-then-is_among : goal.returns-then-is_among
returns-then-is_among c = located_twice cell_of 512 _ _ _ _ _ _ c.loop-i.invariant _ _ refl c.word-x.ensures _ c.cell-c.ensures.0 _ c.is_among.ensures (search rules) c.if-is_among.true

pub loop-i-preserved : goal.loop-i-preserved
loop-i-preserved c = mark_next cell_of 512 _ _ 0 _ _ _ c.loop-i.invariant _ _ refl c.word-x.ensures _ c.cell-c.ensures.0 _ c.is_among.ensures c.if-is_among.false c.cell-c.ensures.1 _ c.with_bit.ensures
