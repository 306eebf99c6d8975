use Rattle.std.proofs.Common.{◌≡◌}
use Rattle.isdb_text.specs.DumpPackets.{progress_at}
use Rattle.feeddump.specs.Pass.{most_bytes}
use Rattle.feeddump.proofs.call_lines.Given as goal

abbrev pub invariant-loop : goal.invariant-loop
invariant-loop l = l.x ≡ progress_at l.input most_bytes l.lines l.a l.counter
