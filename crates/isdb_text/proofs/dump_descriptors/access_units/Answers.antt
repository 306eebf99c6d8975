use Rattle.std.proofs.Common.{rules, le-ltb, lt-ltb}
use Rattle.isdb_text.proofs.Elements.{walk_start, walk_parts, walk_ended, walk_end}
use Rattle.isdb_text.specs.DumpDescriptors.{units_text}
use Rattle.isdb_text.proofs.dump_descriptors.access_units.Goals as goal

pub returns-then-units-lt1 : goal.returns-then-units-lt1
unfolding units_text
returns-then-units-lt1 c = rw (lt-ltb _ _ c.if-units-lt1.true) c.put_byte.ensures

pub loop-init : goal.loop-init
unfolding units_text
loop-init c = rw (le-ltb _ _ c.if-units-lt1.false) (walk_start _ _ _ _ c.place-p.ensures)

pub returns-in_default : goal.returns-in_default
returns-in_default c = search (rules, walk_ended)

pub loop-preserved : goal.loop-preserved
loop-preserved c = search (rules, walk_parts)

pub returns-after-loop : goal.returns-after-loop
returns-after-loop c = search (rules, walk_end)
