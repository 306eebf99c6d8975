use Rattle.claims.proofs.Openings.{turned_down}
use mathlib.Core.Path.{refl}
use Rattle.claims.proofs.no_media_id.Goals as goal

pub returns : goal.returns
returns c = turned_down _ _ _ _ refl c.open.ensures
