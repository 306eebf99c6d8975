use Rattle.isdb_tlv.proofs.Numbers.{put_be_next}
use native.Mathlib.Omega.{arith}
use Rattle.isdb_tlv.proofs.bytes.put_number.Goals as goal

pub loop-k-preserved : goal.loop-k-preserved
loop-k-preserved c =
    let l = c.loop-k in
    put_be_next l.k c.args.at l.u l.s c.put_byte.new.s _ (omega arith) l.invariant (rw c.from.ensures at c.put_byte.ensures)
