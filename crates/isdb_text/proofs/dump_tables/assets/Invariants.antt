use Rattle.isdb_mmt.specs.Formats.Mpt.{asset_at_of}
use Rattle.isdb_text.specs.DumpTables.{asset_element, assets_text}
use Rattle.isdb_text.proofs.Elements.{Walk}
use Rattle.isdb_text.proofs.dump_tables.assets.Given as goal

abbrev pub invariant-loop : goal.invariant-loop
invariant-loop l = Walk l.initial.out l.at (assets_text l.s l.n l.start) l.out l.p (λ at. asset_element l.s) (asset_at_of l.s) l.n l.counter l.i
