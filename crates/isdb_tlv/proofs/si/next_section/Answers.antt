use Rattle.isdb_tlv.proofs.Sections.{next_here}
use native.Mathlib.Omega.{arith}
use mathlib.Core.Path.{sym, ◌∙◌}
use Rattle.isdb_tlv.proofs.si.next_section.Goals as goal

pub returns-in-Some : goal.returns-in-Some
returns-in-Some c = sym (next_here c.args.«data».now c.loop-i.i (omega arith) _ (sym c.section_at.ensures ∙ c.in-Some.is)) ∙ c.loop-i.invariant
