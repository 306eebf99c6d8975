use Rattle.isdb_tlv.specs.Mmtp.{entries}
use lib.ListN.{length}
use Prim.Native.Nat.{◌-◌}
use mathlib.Core.Path.{◌≡◌}
use Rattle.isdb_tlv.proofs.mmtp.scramble_of.Given as goal

abbrev pub invariant-loop-q : goal.invariant-loop-q
invariant-loop-q l = entries l.s l.q ≡ entries l.s 0

abbrev pub decreases-loop-q : goal.decreases-loop-q
decreases-loop-q l = length l.s - l.q
