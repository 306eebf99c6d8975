use Rattle.isdb_mmt.proofs.Stored.{sent}
use Rattle.std.proofs.Common.{◌+◌, ◌*◌}
use Rattle.isdb_mmt.specs.Memory.Session.{control_fields}
use Rattle.isdb_mmt.specs.Memory.Layout.{control_places, control_size}
use Rattle.isdb_mmt.proofs.decoder.control.store_control.Goals as goal

pub returns : goal.returns
returns c =
    let x = c.args in
    sent (control_fields x.c) (control_places + control_size * x.i) x.s.now c.put_control.ensures
