use Rattle.isdb_mmt.proofs.ReadSteps.{places_there}
use Rattle.isdb_mmt.proofs.decoder.many.once.Goals as goal

pub has_room-requires : goal.has_room-requires
has_room-requires c = places_there _ _ c.is_session.ensures _ c.in-Ok.is
