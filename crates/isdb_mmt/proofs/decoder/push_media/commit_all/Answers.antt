use Rattle.isdb_mmt.proofs.MediaPushes.{all_steps}
use Rattle.isdb_mmt.proofs.decoder.push_media.commit_all.Goals as goal

pub place_after-m-requires : goal.place_after-m-requires
place_after-m-requires c = all_steps _ _ _ _ _ _ _ _ _ _ c.requires
