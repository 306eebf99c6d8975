use Rattle.std.proofs.Common.{◌≡◌, ◌-◌}
use Rattle.isdb_mmt.specs.Formats.Amt.{services_whole}
use Rattle.isdb_mmt.proofs.table.amt.services_whole.Given as goal

abbrev pub invariant-loop : goal.invariant-loop
invariant-loop l = services_whole (l.n - l.counter) l.body l.at ≡ services_whole l.n l.body l.from
