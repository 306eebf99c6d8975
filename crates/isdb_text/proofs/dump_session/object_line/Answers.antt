use Rattle.std.proofs.Common.{rules}
use Rattle.isdb_text.proofs.Dumped.{wrote_object}
use Rattle.isdb_text.proofs.dump_session.object_line.Goals as goal

pub returns : goal.returns
returns c = search (rules, wrote_object)
