use Rattle.isdb_mmt.specs.Memory.Layout.{most_media_ids, media_places, media_size}
use Rattle.isdb_mmt.specs.Memory.Session.{used_of}
use Rattle.isdb_mmt.proofs.ReadSteps.{found_in}
use Rattle.isdb_mmt.proofs.decoder.ids.find_media.Goals as goal

pub returns-clause-in_use : goal.returns-clause-in_use
returns-clause-in_use c =
    let x = c.args in
    found_in x.state.now media_size (used_of x.state.now).media_ids media_places x.id most_media_ids c.requires.media c.find.result (rw (← c.load_used-u.ensures) c.find.ensures)
