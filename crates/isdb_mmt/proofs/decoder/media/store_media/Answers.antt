use Rattle.std.proofs.Common.{◌+◌, ◌*◌, arith}
use Rattle.isdb_mmt.proofs.LentRests.{sent_behind}
use Rattle.isdb_mmt.specs.Memory.Session.{media_fields}
use Rattle.isdb_mmt.specs.Memory.Layout.{media_places, media_size}
use Rattle.isdb_mmt.proofs.decoder.media.store_media.Goals as goal

pub returns : goal.returns
returns c =
    let x = c.args in
    sent_behind (media_fields x.m) (media_places + media_size * x.i) x.s.now _ (omega arith) c.put_media.ensures
