use Rattle.std.proofs.Common.{max, zero-le, le-leb, rules, tests}
use Rattle.isdb_tlv.specs.Bytes.{be}
use Rattle.std.proofs.lemmas.Iterator.Consumers.{fold_from_yields_List}
use Rattle.isdb_mmt.specs.Memory.Layout.{section_places, section_size}
use Rattle.isdb_mmt.specs.Memory.Lent.{places_from}
use Rattle.isdb_mmt.proofs.EachPlace.{gives_places}
use Rattle.isdb_mmt.proofs.Checks.{longest_fits}
use Rattle.isdb_mmt.proofs.decoder.check.all_sections_fit.Goals as goal

pub returns : goal.returns
returns c =
    let x = c.args in
    let e = fold_from_yields_List _ (λ k p. max (be 4 p 5) k) 0 _ c.fold-longest.ensures.ran (gives_places x.n section_size section_places x.s.now (search rules) (search rules) c.places-places.ensures) (λ a y b q k. search (rules, tests)) in
    rw (c.from.ensures, e) (rw (le-leb 0 x.l.table_area zero-le) at (longest_fits x.l 0 (places_from x.n section_size section_places x.s.now)))
