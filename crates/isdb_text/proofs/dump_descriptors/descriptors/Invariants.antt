use Rattle.std.proofs.Common.{length}
use Rattle.isdb_mmt.specs.Formats.Desc.{step_at}
use Rattle.isdb_text.specs.DumpDescriptors.{descriptor_element, descriptors_text}
use Rattle.isdb_text.proofs.Elements.{Walk}
use Rattle.isdb_text.proofs.dump_descriptors.descriptors.Given as goal

abbrev pub invariant-loop : goal.invariant-loop
invariant-loop l = Walk l.initial.out l.at (descriptors_text l.pad l.b) l.out l.p (λ at. descriptor_element l.pad l.b) (step_at l.b) (length l.b) l.counter l.i
