use Rattle.std.proofs.Common.{rules, tests}
use Rattle.isdb_mmt.specs.Memory.Check.{at_most}
use Rattle.isdb_mmt.proofs.EachPlace.{all_elements}
use Rattle.isdb_mmt.proofs.decoder.check.each_fits.Goals as goal

pub returns : goal.returns
returns c = all_elements (at_most c.args.most) _ _ _ c.args.others.now (search rules) c.all.ensures.ran (λ x b q k. search (rules, tests))
