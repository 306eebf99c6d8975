use Rattle.std.proofs.Common.{refl, arith}
use Rattle.isdb_mmt.proofs.Stored.{stored}
use Rattle.isdb_mmt.specs.Memory.Session.{media_fields}
use Rattle.isdb_mmt.proofs.decoder.media.put_media.Goals as goal

pub returns : goal.returns
returns c =
    let x = c.args in
    stored (media_fields x.m) 0 x.p.now (omega arith) (rw (c.put_stats.ensures, c.put_object.ensures, c.put_numbers.ensures) refl)
