use Rattle.isdb_tlv.specs.Si.{next_section_of}
use mathlib.Core.Path.{◌≡◌}
use Rattle.isdb_tlv.proofs.si.next_section.Given as goal

abbrev pub invariant-loop-i : goal.invariant-loop-i
invariant-loop-i l = next_section_of l.«data» l.i ≡ next_section_of l.«data» l.at
