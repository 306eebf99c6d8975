use Rattle.std.proofs.Common.{◌∙◌, sym, rules, tests, filter}
use Rattle.std.proofs.lemmas.Iterator.Adapters.{option_map_id}
use Rattle.std.proofs.lemmas.Iterator.Consumers.{YieldsList-at, YieldsList-from_filter, min_from_yields_List}
use Rattle.isdb_mmt.specs.Memory.Lent.{names_from}
use Rattle.isdb_mmt.proofs.EachPlace.{gives_names}
use Rattle.isdb_mmt.proofs.Least.{within, least_min}
use Rattle.isdb_mmt.proofs.decoder.ids.least.Goals as goal

pub returns : goal.returns
returns c =
    let x = c.args in
    sym (option_map_id c.min.result)
    ∙ min_from_yields_List {v = λ r. r} {all = filter (within x.first x.last) (names_from x.n x.size x.at x.s.now)} _ _ c.min.ensures.ran
    (YieldsList-from_filter _ (within x.first x.last)
    (YieldsList-at c.filter.ensures.source
    (gives_names x.n x.size x.at x.s.now c.requires.0 c.requires.1 c.places.ensures c.map.ensures.source c.map.ensures.closure (λ y r q k. search (rules, tests))))
    c.filter.ensures.closure (λ y b q k. search (rules, tests)))
    ∙ least_min (names_from x.n x.size x.at x.s.now) x.first x.last
