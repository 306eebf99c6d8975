use Rattle.std.proofs.Common.{length}
use Rattle.isdb_mmt.specs.Formats.Timestamp.{timestamp_at}
use Rattle.isdb_text.specs.DumpDescriptors.{timestamp_element, timestamps_text}
use Rattle.isdb_text.proofs.Elements.{Walk}
use Rattle.isdb_text.proofs.dump_descriptors.timestamps.Given as goal

abbrev pub invariant-loop : goal.invariant-loop
invariant-loop l = Walk l.initial.out l.at (timestamps_text l.b) l.out l.p timestamp_element (timestamp_at l.b) (length l.b) l.counter l.i
