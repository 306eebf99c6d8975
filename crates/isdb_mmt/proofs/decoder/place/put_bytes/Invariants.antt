use Rattle.std.proofs.Common.{◌≡◌, ◌+◌, ◌≤◌, length}
use Rattle.std.specs.Slice.Iter.{chunks_rest, chunks_size}
use Rattle.isdb_mmt.specs.Memory.Lent.{over}
use Rattle.isdb_mmt.proofs.decoder.place.put_bytes.Given as goal

abbrev pub invariant-loop-p : goal.invariant-loop-p
invariant-loop-p l =
    goal.iterator-loop-p.can_next l.p-iterator
    × goal.iterator-loop-p.is_finite l.p-iterator
    × (chunks_size l.p-iterator ≡ 4096)
    × (l.to + length (chunks_rest l.p-iterator) ≤ length l.s)
    × (over l.to (chunks_rest l.p-iterator) l.s ≡ over l.at l.b l.initial.s)
