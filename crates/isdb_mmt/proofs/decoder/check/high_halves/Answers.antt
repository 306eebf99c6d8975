use Rattle.std.proofs.Common.{arith, bit_or, rules, tests}
use Rattle.std.proofs.lemmas.Iterator.Consumers.{fold_from_yields_List}
use Rattle.isdb_mmt.specs.Memory.Lent.{names_from}
use Rattle.isdb_mmt.proofs.EachPlace.{gives_names}
use Rattle.isdb_mmt.proofs.Checks.{high_all}
use Rattle.isdb_mmt.proofs.decoder.check.high_halves.Goals as goal

pub returns : goal.returns
returns c =
    let x = c.args in
    let e = fold_from_yields_List {all = names_from x.n 8 x.at x.p.now} _ bit_or 0 _ c.fold.ensures.ran
    (gives_names x.n 8 x.at x.p.now (omega arith) c.requires c.places.ensures c.map.ensures.source c.map.ensures.closure (λ y r q k. search (rules, tests)))
    (λ a y b q k. search (rules, tests)) in
    λ h. (high_all x.p.now c.type_inv.p 0 x.n x.at (rw e at h)).1
