use Rattle.std.proofs.Common.{length}
use Rattle.isdb_mmt.specs.Formats.Desc.{service_at}
use Rattle.isdb_text.specs.DumpDescriptors.{service_element, services_text}
use Rattle.isdb_text.proofs.Elements.{Walk}
use Rattle.isdb_text.proofs.dump_descriptors.services.Given as goal

abbrev pub invariant-loop : goal.invariant-loop
invariant-loop l = Walk l.initial.out l.at (services_text l.b) l.out l.p service_element (service_at l.b) (length l.b) l.counter l.i
