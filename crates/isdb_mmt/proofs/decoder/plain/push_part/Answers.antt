use Rattle.isdb_mmt.proofs.PartPushes.{can_grow, can_lay_part, part_told}
use Rattle.std.proofs.Common.{rules}
use Rattle.isdb_mmt.proofs.decoder.plain.push_part.Goals as goal

pub grown_length-requires : goal.grown_length-requires
grown_length-requires c = search (rules, can_grow)

pub commit_part-requires : goal.commit_part-requires
commit_part-requires c = search (rules, can_lay_part)

pub returns-in-Some-grown_length : goal.returns-in-Some-grown_length
returns-in-Some-grown_length c = search (rules, part_told)
