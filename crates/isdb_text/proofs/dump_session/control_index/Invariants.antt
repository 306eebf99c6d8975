use Rattle.std.proofs.Common.{◌≡◌, ◌+◌, ◌-◌, ◌*◌}
use Rattle.isdb_mmt.specs.Memory.Lent.{names_from}
use Rattle.isdb_mmt.specs.Memory.Layout.{control_places, control_size}
use Rattle.isdb_text.specs.DumpSession.{control_index, index_from}
use Rattle.isdb_text.proofs.dump_session.control_index.Given as goal

abbrev pub invariant-loop-i : goal.invariant-loop-i
invariant-loop-i l =
    control_index l.state l.id ≡ index_from l.i (names_from (l.n - l.i) control_size (control_places + control_size * l.i) l.state) l.id
