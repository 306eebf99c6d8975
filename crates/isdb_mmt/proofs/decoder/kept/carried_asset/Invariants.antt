use Rattle.std.proofs.Common.{◌≡◌, ◌-◌}
use Rattle.isdb_mmt.specs.Formats.Mpt.{assets_from}
use Rattle.isdb_mmt.specs.Answers.Readings.{first_carried}
use Rattle.isdb_mmt.proofs.decoder.kept.carried_asset.Given as goal

abbrev pub invariant-loop-i : goal.invariant-loop-i
invariant-loop-i l = first_carried l.packet_id l.b (assets_from l.n l.b l.from).found ≡ first_carried l.packet_id l.b (assets_from (l.n - l.i) l.b l.at).found
