use Rattle.std.proofs.Common.{◌≡◌, ◌-◌}
use Rattle.isdb_mmt.specs.Formats.Plt.{packages_end}
use Rattle.isdb_mmt.proofs.table.plt.packages_end.Given as goal

abbrev pub invariant-loop : goal.invariant-loop
invariant-loop l = packages_end (l.n - l.counter) l.t l.at ≡ packages_end l.n l.t l.from
