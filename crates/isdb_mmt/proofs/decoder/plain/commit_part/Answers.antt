use Rattle.isdb_mmt.proofs.PartPushes.{part_shorter, part_room, part_laid}
use Rattle.std.proofs.Common.{rules}
use Rattle.isdb_mmt.proofs.decoder.plain.commit_part.Goals as goal

pub overflow_sub-k : goal.overflow_sub-k
overflow_sub-k c = search (rules, part_shorter)

pub put_in_area-requires : goal.put_in_area-requires
put_in_area-requires c = search (rules, part_room)

pub returns : goal.returns
returns c = search (rules, part_laid)
