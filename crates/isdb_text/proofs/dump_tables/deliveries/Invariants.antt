use Rattle.isdb_mmt.specs.Formats.Plt.{delivery_at_of}
use Rattle.isdb_text.specs.DumpTables.{deliveries_text, delivery_element}
use Rattle.isdb_text.proofs.Elements.{Walk}
use Rattle.isdb_text.proofs.dump_tables.deliveries.Given as goal

abbrev pub invariant-loop : goal.invariant-loop
invariant-loop l = Walk l.initial.out l.at (deliveries_text l.s l.n l.start) l.out l.p (λ at. delivery_element) (delivery_at_of l.s) l.n l.counter l.i
