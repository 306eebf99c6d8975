use Rattle.std.proofs.Common.{◌≡◌, ◌-◌}
use Rattle.isdb_mmt.specs.Formats.Mpt.{locations_end}
use Rattle.isdb_mmt.proofs.table.mpt.locations_end.Given as goal

abbrev pub invariant-loop : goal.invariant-loop
invariant-loop l = locations_end (l.n - l.counter) l.t l.at ≡ locations_end l.n l.t l.from
