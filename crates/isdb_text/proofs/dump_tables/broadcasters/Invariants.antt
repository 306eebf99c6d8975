use Rattle.std.proofs.Common.{◌+◌}
use Rattle.isdb_mmt.specs.Formats.Bit.{broadcaster_step}
use Rattle.isdb_mmt.specs.Formats.Section.{length12}
use Rattle.isdb_text.specs.DumpTables.{broadcaster_element, broadcasters_text}
use Rattle.isdb_text.proofs.Elements.{Walk}
use Rattle.isdb_text.proofs.dump_tables.broadcasters.Given as goal

abbrev pub invariant-loop : goal.invariant-loop
invariant-loop l = Walk l.initial.out l.at (broadcasters_text l.s l.n (length12 l.s 0 + 2)) l.out l.p (λ at. broadcaster_element l.s) (broadcaster_step l.s) l.n l.counter l.i
