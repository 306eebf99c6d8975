use Rattle.std.proofs.Common.{◌≡◌, ◌+◌, ◌-◌, ◌<◌, ◌≤◌, arith, rules}
use Rattle.isdb_mmt.proofs.AssetReadings.{carried_bad, carried_hit, carried_on, carried_end}
use Rattle.isdb_mmt.proofs.decoder.kept.carried_asset.Goals as goal

pub returns-in_err-a : goal.returns-in_err-a
returns-in_err-a c = rw c.from_residual.ensures (carried_bad _ _ _ _ _ c.loop-i.invariant (omega arith) _ c.asset_at.ensures c.in_err-a.was)

pub returns-then-eq : goal.returns-then-eq
returns-then-eq c = let h : 0 < c.args.n - c.loop-i.i = omega arith in search (rules, h, carried_hit, c.in_ok-a.was)

pub loop-i-preserved : goal.loop-i-preserved
loop-i-preserved c =
    let e : c.args.n - (c.loop-i.i + 1) ≡ c.args.n - c.loop-i.i - 1 = omega arith in
    let h : 0 < c.args.n - c.loop-i.i = omega arith in
    rw e (search (rules, h, carried_on, c.in_ok-a.was))

pub returns : goal.returns
returns c = let h : c.args.n - c.loop-i.i ≤ 0 = omega arith in search (rules, h, carried_end)
