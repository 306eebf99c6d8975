use Rattle.std.proofs.Common.{refl, rules, le-leb}
use borrow.Author.Tests.{lt-leb}
use Rattle.isdb_text.proofs.Elements.{walk_start, walk_parts, walk_either, walk_end}
use Rattle.isdb_text.specs.DumpDescriptors.{mpus_text}
use Rattle.isdb_text.proofs.dump_descriptors.mpus.Goals as goal

pub returns-then-b-start : goal.returns-then-b-start
unfolding mpus_text
returns-then-b-start c = rw (le-leb _ _ c.if-b-start.true) c.put_byte.ensures

pub loop-init : goal.loop-init
unfolding mpus_text
loop-init c = rw (lt-leb _ _ c.if-b-start.false) (walk_start _ _ _ _ c.place-p.ensures)

pub returns-in-End : goal.returns-in-End
returns-in-End c = search (rules, walk_either)

pub loop-preserved : goal.loop-preserved
loop-preserved c =
    walk_parts c.loop.invariant _ _ c.next_mpu.ensures c.in-Entry.is c.loop-test.true (rw (← c.of.ensures) refl) c.comma-p.ensures c.mpu_text-p.ensures

pub returns-after-loop : goal.returns-after-loop
returns-after-loop c = search (rules, walk_end)
