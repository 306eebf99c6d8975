use Rattle.isdb_mmt.specs.Formats.Eit.{event_step}
use Rattle.isdb_text.specs.DumpTables.{event_element, events_text}
use Rattle.isdb_text.proofs.Elements.{Walk}
use Rattle.isdb_text.proofs.dump_tables.events.Given as goal

abbrev pub invariant-loop : goal.invariant-loop
invariant-loop l = Walk l.initial.out l.at (events_text l.s l.n 6) l.out l.p (λ at. event_element l.s) (event_step l.s) l.n l.counter l.i
