use Rattle.std.proofs.Common.{◌≡◌, ◌+◌, ◌-◌, ◌<◌, ◌≤◌, arith, rules}
use Rattle.std.proofs.lemmas.Result.{err_from_is_err_and}
use Rattle.isdb_mmt.proofs.AssetReadings.{all_within, among_none, among_refused, among_found, among_on, among_end}
use Rattle.isdb_mmt.proofs.decoder.session.Session.asset_among.Goals as goal

pub next_id-requires : goal.next_id-requires
next_id-requires c = search (rules, all_within)

pub returns-in_default : goal.returns-in_default
returns-in_default c = let h : 0 < c.args.n - c.loop-i.i = omega arith in search (rules, h, among_none)

pub returns-in_err-a : goal.returns-in_err-a
returns-in_err-a c =
    let h : 0 < c.args.n - c.loop-i.i = omega arith in
    let p = err_from_is_err_and c.from_residual.result c.from_residual.ensures.1 in rw (p.1, p.2) (search (rules, h, among_refused, c.in_err-a.was))

pub returns-in-Some-2 : goal.returns-in-Some-2
returns-in-Some-2 c = let h : 0 < c.args.n - c.loop-i.i = omega arith in search (rules, h, among_found, c.in_ok-a.was)

pub loop-i-preserved : goal.loop-i-preserved
loop-i-preserved c =
    let e : c.args.n - (c.loop-i.i + 1) ≡ c.args.n - c.loop-i.i - 1 = omega arith in
    let h : 0 < c.args.n - c.loop-i.i = omega arith in
    rw e (search (rules, h, among_on, c.in_ok-a.was))

pub returns : goal.returns
returns c = let h : c.args.n - c.loop-i.i ≤ 0 = omega arith in search (rules, h, among_end)
