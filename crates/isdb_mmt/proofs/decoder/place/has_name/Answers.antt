use Rattle.std.proofs.Common.{rules, tests}
use Rattle.isdb_mmt.proofs.EachPlace.{any_name}
use Rattle.isdb_mmt.proofs.decoder.place.has_name.Goals as goal

pub returns : goal.returns
returns c =
    let x = c.args in
    any_name x.n x.size x.at x.s.now c.requires.0 c.requires.1 c.places.ensures _ _ x.x (λ p b q k. search (rules, tests)) _ c.any.ensures.ran
