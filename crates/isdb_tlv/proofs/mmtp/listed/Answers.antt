use mathlib.Core.Path.{◌∙◌, ◌≡◌}
use Prim.Native.Nat.{◌+◌, ◌-◌, ◌*◌}
use native.Mathlib.Omega.{arith}
use Rattle.isdb_tlv.proofs.Messages.{listed_next}
use Rattle.isdb_tlv.proofs.mmtp.listed.Goals as goal

pub loop-k-preserved : goal.loop-k-preserved
loop-k-preserved c =
    let l = c.loop-k in
    let n = c.args.n in
    let left : n - (l.k + 1) ≡ n - l.k - 1 = omega arith in
    let at : 1 + 4 * (l.k + 1) ≡ 1 + 4 * l.k + 4 = omega arith in
    rw (left, at)
    (listed_next c.args.body.now (1 + 4 * l.k) (n - l.k) l.t _ (omega arith) (omega arith) (rw c.from.ensures at c.insert_id-t.ensures) ∙ l.invariant)
