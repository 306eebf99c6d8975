use Rattle.isdb_mmt.proofs.PushAll.{at_turn_first}
use Rattle.std.proofs.Common.{◌∙◌, ap, length, rules}
use Rattle.isdb_mmt.proofs.decoder.many.push_all_in.Goals as goal
use Rattle.isdb_mmt.specs.Memory.Session.{Session}
use Rattle.isdb_mmt.specs.Pushes.PushAllSteps.{asked_once}

pub push_each-requires : goal.push_each-requires
push_each-requires c =
    let k = c.once-known.ensures ∙ ap (λ (s : Session). asked_once s (length c.args.input.now)) c.read.ensures in search (rules, at_turn_first, k)
