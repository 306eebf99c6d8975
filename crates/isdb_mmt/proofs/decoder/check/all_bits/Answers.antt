use Rattle.std.proofs.Common.{bit_or, rules, tests}
use Rattle.std.proofs.lemmas.Iterator.{YieldsList-from_slice}
use Rattle.std.proofs.lemmas.Iterator.Consumers.{fold_from_yields_List}
use Rattle.isdb_mmt.proofs.Checks.{low_all}
use Rattle.isdb_mmt.proofs.decoder.check.all_bits.Goals as goal

pub returns : goal.returns
returns c =
    let e = fold_from_yields_List _ bit_or 0 _ c.fold.ensures.ran (YieldsList-from_slice c.args.others.now (search rules)) (λ a x b q k. search (rules, tests)) in
    λ h. (low_all 0 c.args.others.now (rw e at h)).1
