use Rattle.std.proofs.Common.{◌≡◌, ◌-◌}
use Rattle.isdb_mmt.specs.Formats.Mpt.{locations_of, first_packet_id}
use Rattle.isdb_mmt.proofs.table.mpt.Asset.packet_id.Given as goal

abbrev pub invariant-loop : goal.invariant-loop
invariant-loop l = first_packet_id (locations_of (l.end - l.counter) l.t l.at) ≡ first_packet_id (locations_of l.end l.t l.initial.at)
