use Rattle.std.proofs.Common.{refl, rules}
use Rattle.isdb_text.proofs.Elements.{walk_start, walk_turn, walk_ended, walk_end}
use Rattle.isdb_text.specs.DumpDescriptors.{tlvs_text}
use Rattle.isdb_text.proofs.dump_descriptors.tlv_descriptors.Goals as goal

pub loop-init : goal.loop-init
unfolding tlvs_text
loop-init c = search (rules, walk_start)

pub returns-in_default : goal.returns-in_default
returns-in_default c = search (rules, walk_ended)

pub loop-preserved : goal.loop-preserved
loop-preserved c =
    walk_turn c.loop.invariant _ _ c.next_tlv.ensures c.in-Some.is c.loop-test.true (rw (← c.of.ensures) refl) c.tlv_line-p.ensures

pub returns-after-loop : goal.returns-after-loop
returns-after-loop c = search (rules, walk_end)
