use borrow.Author.Rules.{rules}
use mathlib.Core.Path.{◌≡◌, ◌∙◌, sym}
use Prim.Native.Nat.{ℕ, ◌+◌, ◌-◌}
use native.Mathlib.Omega.{arith}
use mir.Val.{Fits}
use mir.Syntax.{w8}
use lib.ListN.{length, get_or}
use lib.Seq.{take_all}
use Rattle.isdb_tlv.proofs.Numbers.{put_part, put_cut_off}
use Rattle.isdb_tlv.proofs.Fields.{put_beyond}
use Rattle.isdb_tlv.proofs.bytes.put_bytes.Goals as goal

pub returns-then-n : goal.returns-then-n
returns-then-n g c =
    let v = c.args.v in
    let W = g.row.W in
    let known : (i : ℕ) → Fits w8 (get_or v i 0) = search rules in
    let size : length v ≡ W = search rules in
    let e : c.args.at + W - c.args.at ≡ W = omega arith in
    rw e (put_part W c.args.at c.args.s.now v c.copy_from_slice.new.self known (omega arith) (omega arith)
    (c.copy_from_slice.ensures.after ∙ sym (take_all W v (omega arith))))

pub returns-else-n : goal.returns-else-n
returns-else-n g c =
    let v = c.args.v in
    let s = c.args.s.now in
    let at = c.args.at in
    let W = g.row.W in
    let n = length s - at in
    let known : (i : ℕ) → Fits w8 (get_or v i 0) = search rules in
    let size : length v ≡ W = search rules in
    let e : n + (W - n) ≡ W = omega arith in
    put_part n at s v c.copy_from_slice-else-n.new.self known (omega arith) (omega arith) c.copy_from_slice-else-n.ensures.after
    ∙ sym (rw e at (put_cut_off (W - n) n at s v known (omega arith)))

pub returns-else-at-s : goal.returns-else-at-s
returns-else-at-s g c = put_beyond _ _ _ c.args.s.now (omega arith)
