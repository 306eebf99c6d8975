use Rattle.isdb_text.proofs.Written.{wrote_append}
use Rattle.std.proofs.Common.{rules}
use Rattle.isdb_text.proofs.dump_session.stats_line.Goals as goal

pub returns : goal.returns
returns c = search (rules, wrote_append)
