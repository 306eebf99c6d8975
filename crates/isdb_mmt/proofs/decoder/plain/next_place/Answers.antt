use Rattle.isdb_mmt.proofs.PlainTests.{next_found}
use Rattle.std.proofs.Common.{Some, refl}
use Rattle.isdb_mmt.proofs.decoder.plain.next_place.Goals as goal

pub returns-then-is_next : goal.returns-then-is_next
returns-then-is_next c = next_found _ c.requires _ c.word-ids.ensures _ (Some c.in_ok-i.i) c.in_ok-i.ensures _ refl _ _ _ c.part.ensures _ c.is_next.ensures c.if-is_next.true
