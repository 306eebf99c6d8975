use Rattle.std.proofs.Common.{◌≡◌, ◌-◌, ◌≤◌}
use Rattle.isdb_mmt.proofs.Assets.{plus}
use Rattle.isdb_mmt.specs.Formats.Mpt.{assets_from, assets_told}
use Rattle.isdb_mmt.proofs.table.mpt.read_loop.Given as goal

abbrev pub invariant-loop : goal.invariant-loop
invariant-loop l = (l.breaks ≤ l.counter) × (plus l.breaks (assets_from (l.n - l.counter) l.t l.at) ≡ assets_told l.n l.t l.from)
