use Rattle.isdb_tlv.specs.Bytes.{be}
use mathlib.Core.Path.{◌≡◌}
use Prim.Native.Nat.{◌%◌, ◌^◌}
use Rattle.isdb_tlv.proofs.bytes.number.Given as goal

abbrev pub invariant-loop-i : goal.invariant-loop-i
invariant-loop-i l = l.a ≡ be l.i l.b l.at % 2 ^ 64
