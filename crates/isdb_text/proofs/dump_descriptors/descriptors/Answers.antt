use Rattle.std.proofs.Common.{refl, ⊎_elim, rules}
use Rattle.isdb_text.proofs.Elements.{walk_start, walk_turn, walk_ended, walk_end}
use Rattle.isdb_text.specs.DumpDescriptors.{descriptors_text}
use Rattle.isdb_text.proofs.dump_descriptors.descriptors.Goals as goal

pub loop-init : goal.loop-init
unfolding descriptors_text
loop-init c = search (rules, walk_start)

pub returns-in-End : goal.returns-in-End
returns-in-End c =
    ⊎_elim (λ e. walk_ended c.loop.invariant _ _ c.next.ensures e refl) (λ e. walk_ended c.loop.invariant _ _ c.next.ensures e.1 refl) c.in-End.is

pub loop-preserved : goal.loop-preserved
loop-preserved c =
    walk_turn c.loop.invariant _ _ c.next.ensures c.in-Raw.is c.loop-test.true (rw (← c.of.ensures) refl) c.descriptor_line-p.ensures

pub returns-after-loop : goal.returns-after-loop
returns-after-loop c = search (rules, walk_end)
