use mathlib.Core.Path.{◌≡◌}
use Prim.Native.Nat.{◌+◌, ◌-◌, ◌*◌}
use Rattle.isdb_tlv.specs.Messages.{no_table_ids, insert_all, listed_from}
use Rattle.isdb_tlv.proofs.mmtp.listed.Given as goal

abbrev pub invariant-loop-k : goal.invariant-loop-k
invariant-loop-k l = insert_all (listed_from (l.n - l.k) l.body (1 + 4 * l.k)) l.t ≡ insert_all (listed_from l.n l.body 1) no_table_ids
