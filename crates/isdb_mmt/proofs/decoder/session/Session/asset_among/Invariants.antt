use Rattle.isdb_mmt.specs.Memory.Lending.{lent_by}
use Rattle.isdb_mmt.specs.Answers.Readings.{asset_among, ascending_from}
use Rattle.isdb_mmt.specs.Memory.Layout.{control_places, control_size}
use Rattle.isdb_mmt.specs.Memory.Lent.{names_from}
use Rattle.std.proofs.Common.{◌≡◌, ◌-◌}
use Rattle.isdb_mmt.proofs.decoder.session.Session.asset_among.Given as goal

abbrev pub invariant-loop-i : goal.invariant-loop-i
invariant-loop-i l = asset_among (lent_by l.self) l.packet_id (ascending_from l.n 0 (names_from l.n control_size control_places l.self.state.now)) ≡ asset_among (lent_by l.self) l.packet_id (ascending_from (l.n - l.i) l.from (names_from l.n control_size control_places l.self.state.now))
