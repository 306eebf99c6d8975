use Rattle.isdb_mmt.specs.Formats.Sdt.{service_step}
use Rattle.isdb_text.specs.DumpTables.{service_element, services_text}
use Rattle.isdb_text.proofs.Elements.{Walk}
use Rattle.isdb_text.proofs.dump_tables.sdt_services.Given as goal

abbrev pub invariant-loop : goal.invariant-loop
invariant-loop l = Walk l.initial.out l.at (services_text l.s l.n 3) l.out l.p (λ at. service_element l.s) (service_step l.s) l.n l.counter l.i
