use Rattle.std.proofs.Common.{◌≡◌, ◌-◌}
use Rattle.isdb_mmt.specs.Formats.Plt.{deliveries_whole}
use Rattle.isdb_mmt.proofs.table.plt.deliveries_whole.Given as goal

abbrev pub invariant-loop : goal.invariant-loop
invariant-loop l = deliveries_whole (l.n - l.counter) l.t l.at ≡ deliveries_whole l.n l.t l.from
