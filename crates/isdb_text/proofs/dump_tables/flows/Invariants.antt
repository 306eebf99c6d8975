use Rattle.isdb_mmt.specs.Formats.Amt.{service_at}
use Rattle.isdb_text.proofs.Elements.{Walk}
use Rattle.isdb_text.specs.DumpTables.{flows_text, flow_element}
use Rattle.isdb_text.proofs.dump_tables.flows.Given as goal

abbrev pub invariant-loop : goal.invariant-loop
invariant-loop l = Walk l.initial.out l.at (flows_text l.s l.n 2) l.out l.p (λ at. flow_element) (service_at l.s) l.n l.counter l.i
