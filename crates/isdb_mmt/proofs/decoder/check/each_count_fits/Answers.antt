use Rattle.std.proofs.Common.{ap, ◌∙◌, rules, tests}
use Rattle.isdb_tlv.specs.Bytes.{be}
use Rattle.isdb_mmt.specs.Memory.Lent.{every}
use Rattle.isdb_mmt.specs.Memory.Check.{at_most}
use Rattle.isdb_mmt.proofs.EachPlace.{all_places, counts_of}
use Rattle.isdb_mmt.proofs.decoder.check.each_count_fits.Goals as goal

pub returns : goal.returns
returns c =
    all_places c.args.n 8 c.args.at c.args.p.now (search rules) c.requires c.places.ensures _ _
    (at_most c.args.most) (λ p. be 8 p 0) _ c.all.ensures.ran (λ x b q k. search (rules, tests))
    ∙ ap (every (at_most c.args.most)) (counts_of c.args.n c.args.at c.args.p.now)
