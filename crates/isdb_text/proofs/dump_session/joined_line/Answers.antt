use Rattle.std.proofs.Common.{rules}
use Rattle.isdb_text.proofs.Dumped.{wrote_joined, wrote_none_joined}
use Rattle.isdb_text.proofs.dump_session.joined_line.Goals as goal

pub returns-then-get_u8-ne0 : goal.returns-then-get_u8-ne0
returns-then-get_u8-ne0 c = search (rules, wrote_joined)

pub returns : goal.returns
returns c = search (rules, wrote_none_joined)
