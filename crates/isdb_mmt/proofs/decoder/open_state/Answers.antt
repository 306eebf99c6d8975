use Rattle.isdb_mmt.proofs.Opening.{opens_state}
use Rattle.isdb_mmt.proofs.decoder.open_state.Goals as goal

pub returns : goal.returns
returns c = opens_state _ _ _ _ c.requires (c.fill.ensures.after (λ y e. e)) c.store_limits.ensures
