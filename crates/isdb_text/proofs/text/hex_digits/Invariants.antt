use Rattle.isdb_text.specs.Text.{hex_of}
use Rattle.isdb_text.proofs.Written.{Left}
use Rattle.isdb_text.proofs.text.hex_digits.Given as goal

abbrev pub invariant-loop-k : goal.invariant-loop-k
invariant-loop-k l = Left l.initial.out l.at (hex_of l.digits l.n) l.out l.p (hex_of l.k l.n)
