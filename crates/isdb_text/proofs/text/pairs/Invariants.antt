use Rattle.std.proofs.Common.{drop}
use Rattle.isdb_text.specs.Text.{pairs_of}
use Rattle.isdb_text.proofs.Written.{Left}
use Rattle.isdb_text.proofs.text.pairs.Given as goal

abbrev pub invariant-loop-x : goal.invariant-loop-x
invariant-loop-x l = Left l.initial.out l.at (pairs_of l.bytes) l.out l.p (pairs_of (drop l.x-index l.bytes))
