use Rattle.std.proofs.Common.{rules}
use Rattle.isdb_text.specs.DumpSession.{other_lines}
use Rattle.isdb_text.proofs.Written.{left_all}
use Rattle.isdb_text.proofs.Dumped.{others_turn, others_end}
use Rattle.isdb_text.proofs.dump_session.other_lines.Goals as goal

pub loop-id-init : goal.loop-id-init
unfolding other_lines
loop-id-init c = search left_all

pub loop-id-preserved : goal.loop-id-preserved
loop-id-preserved c = search (rules, others_turn)

pub returns : goal.returns
returns c = search (rules, others_end)
