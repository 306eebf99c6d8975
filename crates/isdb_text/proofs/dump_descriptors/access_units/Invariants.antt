use Rattle.std.proofs.Common.{length}
use Rattle.isdb_mmt.specs.Formats.Timestamp.{unit_step}
use Rattle.isdb_text.specs.DumpDescriptors.{unit_element, units_text}
use Rattle.isdb_text.proofs.Elements.{Walk}
use Rattle.isdb_text.proofs.dump_descriptors.access_units.Given as goal

abbrev pub invariant-loop : goal.invariant-loop
invariant-loop l = Walk l.initial.out l.at (units_text l.units l.e) l.out l.p unit_element (unit_step l.units l.e) (length l.units) l.counter l.i
