use Rattle.std.proofs.Common.{◌-◌}
use Rattle.isdb_mmt.specs.Memory.Lending.{lent_by}
use Rattle.isdb_mmt.specs.Memory.Layout.{table_ids}
use Rattle.isdb_text.specs.DumpSession.{other_lines, other_last}
use Rattle.isdb_text.proofs.Written.{Left}
use Rattle.isdb_text.proofs.dump_session.other_lines.Given as goal

abbrev pub invariant-loop-id : goal.invariant-loop-id
invariant-loop-id l = Left l.initial.out l.at (other_lines (lent_by l.session)) l.out l.p (other_last (table_ids - l.id) (lent_by l.session))
