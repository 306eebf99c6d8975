use Rattle.isdb_mmt.proofs.Opening.{opens}
use Rattle.std.proofs.Common.{◌∙◌, sym, ap, rules}
use Rattle.isdb_mmt.proofs.decoder.open.Goals as goal
use Rattle.isdb_mmt.specs.Memory.Refusals.{answer_number}

pub returns : goal.returns
returns c = let e = c.fill.ensures.after (λ y e. e) in let k = ap answer_number (sym c.in_ok-ask.was) ∙ c.ask.ensures in search (rules, opens, e, k)
