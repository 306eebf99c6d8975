use Rattle.isdb_mmt.specs.Formats.Plt.{package_at_of}
use Rattle.isdb_text.specs.DumpTables.{package_element, packages_text}
use Rattle.isdb_text.proofs.Elements.{Walk}
use Rattle.isdb_text.proofs.dump_tables.packages.Given as goal

abbrev pub invariant-loop : goal.invariant-loop
invariant-loop l = Walk l.initial.out l.at (packages_text l.s l.n 5) l.out l.p (λ at. package_element l.s) (package_at_of l.s) l.n l.counter l.i
