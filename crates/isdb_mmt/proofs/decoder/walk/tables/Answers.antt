use Rattle.isdb_mmt.proofs.Joined.{both_fit}
use Rattle.isdb_mmt.proofs.Messages.{tables_start, tables_short, tables_cut_can, tables_end, tables_cut, tables_less, tables_can, tables_on}
use Rattle.std.proofs.Common.{arith, rules}
use Rattle.isdb_mmt.proofs.decoder.walk.tables.Goals as goal

pub loop-p-init : goal.loop-p-init
loop-p-init c = tables_start _ _ _ _ _ _ _ c.requires

pub next_table-requires : goal.next_table-requires
next_table-requires c = tables_short _ _ _ _ _ _ _ _ _ _ _ _ c.loop-p.invariant

pub table-g-requires : goal.table-g-requires
table-g-requires c = let x = c.args in tables_can _ _ _ _ _ _ _ _ _ _ _ _ c.loop-p.invariant _ c.next_table.ensures _ _ c.in-Entry.is (both_fit x.a.now x.b.now c.shared_slice_known-1.given c.shared_slice_known-2-1.given)

pub loop-p-smaller : goal.loop-p-smaller
loop-p-smaller c = tables_less _ _ _ _ _ _ _ _ _ _ _ _ c.loop-p.invariant _ c.next_table.ensures _ _ c.in-Entry.is

pub loop-p-preserved : goal.loop-p-preserved
loop-p-preserved c = tables_on _ _ _ _ _ _ _ _ _ _ _ _ c.loop-p.invariant _ c.next_table.ensures _ _ c.in-Entry.is _ _ _ _ c.table-g.ensures (search rules) (search rules) (search rules)

pub cut_short-requires : goal.cut_short-requires
cut_short-requires c = tables_cut_can _ _ _ _ _ _ _ _ _ _ _ _ c.loop-p.invariant

pub shape_of-ix-in-Malformed : goal.shape_of-ix-in-Malformed
shape_of-ix-in-Malformed c = omega (arith, c.loop-p.invariant.goes.copies.index_long, c.loop-p.invariant.can.copies.index_long)

pub shape_of-log-in-Malformed : goal.shape_of-log-in-Malformed
shape_of-log-in-Malformed c = omega (arith, c.loop-p.invariant.goes.copies.log_long, c.loop-p.invariant.can.copies.log_long)

pub shape_of-others-in-Malformed : goal.shape_of-others-in-Malformed
shape_of-others-in-Malformed c = omega (arith, c.loop-p.invariant.goes.copies.others_long, c.loop-p.invariant.can.copies.others_long)

pub returns-in-Malformed : goal.returns-in-Malformed
returns-in-Malformed c = tables_cut _ _ _ _ _ _ _ _ _ _ _ _ c.loop-p.invariant _ c.next_table.ensures c.in-Malformed.is _ c.cut_short.ensures

pub shape_of-ix-in-End : goal.shape_of-ix-in-End
shape_of-ix-in-End c = omega (arith, c.loop-p.invariant.goes.copies.index_long, c.loop-p.invariant.can.copies.index_long)

pub shape_of-log-in-End : goal.shape_of-log-in-End
shape_of-log-in-End c = omega (arith, c.loop-p.invariant.goes.copies.log_long, c.loop-p.invariant.can.copies.log_long)

pub shape_of-others-in-End : goal.shape_of-others-in-End
shape_of-others-in-End c = omega (arith, c.loop-p.invariant.goes.copies.others_long, c.loop-p.invariant.can.copies.others_long)

pub returns-in-End : goal.returns-in-End
returns-in-End c = tables_end _ _ _ _ _ _ _ _ _ _ _ _ c.loop-p.invariant _ c.next_table.ensures c.in-End.is
