use Rattle.isdb_text.proofs.Written.{wrote_append}
use Rattle.std.proofs.Common.{rules}
use Rattle.isdb_text.proofs.dump_session.message_counters.Goals as goal

pub returns : goal.returns
returns c = search (rules, wrote_append)
