use Rattle.isdb_mmt.specs.Formats.Nit.{stream_step}
use Rattle.isdb_text.specs.DumpTables.{stream_element, streams_text}
use Rattle.isdb_text.proofs.Elements.{Walk}
use Rattle.isdb_text.proofs.dump_tables.streams.Given as goal

abbrev pub invariant-loop : goal.invariant-loop
invariant-loop l = Walk l.initial.out l.at (streams_text l.s l.n 0) l.out l.p (λ at. stream_element l.s) (stream_step l.s) l.n l.counter l.i
