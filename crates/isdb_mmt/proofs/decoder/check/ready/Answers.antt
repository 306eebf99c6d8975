use Rattle.std.proofs.Common.{rules}
use Rattle.isdb_mmt.proofs.Checks.{head_there, limits_front, used_front}
use Rattle.isdb_mmt.proofs.decoder.check.ready.Goals as goal

pub places_fit-requires : goal.places_fit-requires
places_fit-requires c = (search (rules, head_there), (search (rules, limits_front), search (rules, used_front)))

pub names_fit-requires : goal.names_fit-requires
names_fit-requires c = (search (rules, head_there), search (rules, used_front))
