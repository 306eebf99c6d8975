use Rattle.std.specs.Prelude.{None, Some}
use lib.ListN.{length}
use Prim.Native.Nat.{◌-◌, ◌≤◌}
use mathlib.Core.Path.{◌≡◌}
use Rattle.isdb_tlv.proofs.Walk.{plus}
use Rattle.isdb_tlv.specs.Messages.{messages_from, messages_of, counted}
use Rattle.isdb_tlv.proofs.mmtp.messages.Given as goal

abbrev pub invariant-loop-next : goal.invariant-loop-next
invariant-loop-next l = (l.n ≤ l.at) × (plus None Some l.n (messages_from l.p l.at) ≡ counted (messages_of l.p))

abbrev pub decreases-loop-next : goal.decreases-loop-next
decreases-loop-next l = length l.p - l.at
