use Rattle.isdb_tlv.specs.Bytes.{put_be}
use mathlib.Core.Path.{◌≡◌}
use Rattle.isdb_tlv.proofs.bytes.put_number.Given as goal

abbrev pub invariant-loop-k : goal.invariant-loop-k
invariant-loop-k l = put_be l.k l.at l.u l.s ≡ put_be l.w l.at l.v l.initial.s
