use Rattle.isdb_mmt.specs.Memory.Layout.{most_control_ids, control_places, control_size}
use Rattle.isdb_mmt.specs.Memory.Session.{used_of}
use Rattle.isdb_mmt.proofs.ReadSteps.{found_in}
use Rattle.isdb_mmt.proofs.decoder.ids.find_control.Goals as goal

pub returns-clause-in_use : goal.returns-clause-in_use
returns-clause-in_use c =
    let x = c.args in
    found_in x.state.now control_size (used_of x.state.now).control_ids control_places x.id most_control_ids c.requires.controls c.find.result (rw (← c.load_used-u.ensures) c.find.ensures)
