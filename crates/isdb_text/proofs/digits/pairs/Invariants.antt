use Rattle.std.proofs.Common.{◌≡◌}
use Rattle.std.specs.Slice.Iter.{chunks_exact_rest, chunks_exact_size}
use Rattle.isdb_text.specs.Digits.{bytes_in}
use Rattle.isdb_text.proofs.Written.{Left}
use Rattle.isdb_text.proofs.digits.pairs.Given as goal

abbrev pub invariant-loop-pair : goal.invariant-loop-pair
invariant-loop-pair l =
    (chunks_exact_size l.pair-iterator ≡ 2) × Left l.initial.out 0 (bytes_in l.text) l.out l.p (bytes_in (chunks_exact_rest l.pair-iterator))
