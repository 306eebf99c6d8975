use Rattle.isdb_mmt.proofs.Gives.{fields_put}
use Rattle.isdb_mmt.proofs.decoder.records.put_fields.Goals as goal

pub returns : goal.returns
returns c =
    let x = c.args in
    fields_put x.id x.flags x.mpu x.h x.item x.start x.n x.p.now _ _ _ _ c.requires c.put4.ensures c.put4-2.ensures
    c.put4-3.ensures c.put4-4.ensures
