use Rattle.isdb_mmt.proofs.Applied.{apply_full, apply_put}
use Rattle.std.proofs.Common.{refl, rules}
use Rattle.isdb_mmt.proofs.decoder.walk.apply.Goals as goal

pub returns-then-i-ge-SECTIONS : goal.returns-then-i-ge-SECTIONS
returns-then-i-ge-SECTIONS c = apply_full _ _ _ _ _ _ c.requires c.if-g.false _ c.counted-c.ensures _ _ c.in-Put.is c.if-i-ge-SECTIONS.true _ refl

pub returns-else-i-ge-SECTIONS : goal.returns-else-i-ge-SECTIONS
returns-else-i-ge-SECTIONS c = apply_put _ _ _ _ _ _ c.requires c.if-g.false _ c.counted-c.ensures _ _ c.in-Put.is c.if-i-ge-SECTIONS.false (search rules) (search rules) (search (c.put_section_at-arg-1.given, rules)) _ _ c.put_section_at.ensures refl _ c.next_used.ensures _ (rw c.max-in-Put.ensures refl)
