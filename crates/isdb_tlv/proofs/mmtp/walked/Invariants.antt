use mathlib.Core.Path.{◌≡◌}
use lib.ListN.{length}
use Prim.Native.Nat.{◌-◌}
use Rattle.isdb_tlv.specs.Messages.{insert_all, walked_from}
use Rattle.isdb_tlv.proofs.mmtp.walked.Given as goal

abbrev pub invariant-loop-at : goal.invariant-loop-at
invariant-loop-at l = insert_all (walked_from l.body l.at) l.t ≡ insert_all (walked_from l.body l.from) l.initial.t

abbrev pub decreases-loop-at : goal.decreases-loop-at
decreases-loop-at l = length l.body - l.at
