use Rattle.std.proofs.Common.{drop}
use Rattle.isdb_mmt.specs.Formats.Location.{location_of}
use Rattle.isdb_text.specs.DumpTables.{location_element, locations_text}
use Rattle.isdb_text.proofs.Elements.{Walk}
use Rattle.isdb_text.proofs.dump_tables.locations.Given as goal

abbrev pub invariant-loop : goal.invariant-loop
invariant-loop l = Walk l.initial.out l.at (locations_text l.s l.n l.start) l.out l.p (location_element l.s) (λ at. location_of (drop at l.s)) l.n l.counter l.i
