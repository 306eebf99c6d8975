use Rattle.std.proofs.Common.{◌≡◌, ◌-◌, length}
use Rattle.isdb_mmt.specs.Formats.Timestamp.{mpus_whole}
use Rattle.isdb_mmt.proofs.timestamp.mpus_whole.Given as goal

abbrev pub invariant-loop-next : goal.invariant-loop-next
invariant-loop-next l = mpus_whole l.b l.own l.at ≡ mpus_whole l.b l.own l.from

abbrev pub decreases-loop-next : goal.decreases-loop-next
decreases-loop-next l = length l.b - l.at
