use Rattle.isdb_mmt.proofs.Signals.{sections_start, sections_end, sections_adds, sections_less, sections_can, sections_on}
use Rattle.std.proofs.Common.{rules}
use Rattle.isdb_mmt.proofs.decoder.walk.sections.Goals as goal

pub loop-x-init : goal.loop-x-init
loop-x-init c = sections_start _ _ _ _ _ c.requires

pub section-g-requires : goal.section-g-requires
section-g-requires c = sections_can _ _ _ _ _ _ _ _ _ _ c.loop-x.invariant _ c.next_section.ensures _ c.in-Some.is _ c.part.ensures

pub overflow_add-at : goal.overflow_add-at
overflow_add-at c = sections_adds _ _ _ _ _ _ _ _ _ _ c.loop-x.invariant _ c.next_section.ensures _ c.in-Some.is

pub loop-x-smaller : goal.loop-x-smaller
loop-x-smaller c = sections_less _ _ _ _ _ _ _ _ _ _ c.loop-x.invariant _ c.next_section.ensures _ c.in-Some.is

pub loop-x-preserved : goal.loop-x-preserved
loop-x-preserved c = sections_on _ _ _ _ _ _ _ _ _ _ c.loop-x.invariant _ c.next_section.ensures _ c.in-Some.is _ c.part.ensures _ _ _ _ c.section-g.ensures (search rules) (search rules) (search rules)

pub returns : goal.returns
returns c = sections_end _ _ _ _ _ _ _ _ _ _ c.loop-x.invariant _ c.next_section.ensures c.in_default.is
