use Rattle.isdb_tlv.proofs.Numbers.{get_two}
use Rattle.std.proofs.Common.{rules}
use Rattle.isdb_mmt.proofs.decoder.joined.word.Goals as goal

pub returns : goal.returns
returns c = search (rules, get_two 2)
