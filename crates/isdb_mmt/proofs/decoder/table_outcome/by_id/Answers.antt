use Rattle.std.proofs.Common.{arith}
use Rattle.isdb_mmt.proofs.TableOutcomes.{long_by_id}
use Rattle.isdb_mmt.proofs.decoder.table_outcome.by_id.Goals.{in-157-1, in_default+else-id-lt17+else-id-lt33+else-id-lt139+then-id-lt156, in_default+else-id-lt17+else-id-lt33+else-id-lt139+else-id-lt156+else-id-lt159+then-id-lt161}
use Rattle.isdb_mmt.proofs.decoder.table_outcome.by_id.Goals as goal

pub returns-in-139-to-155 : goal.returns-in-139-to-155
returns-in-139-to-155 c =
    elim c.in-139-to-155-1.branch [
      | in-157-1 w ↦ long_by_id _ _ _ _ _ (omega arith) (omega arith) (omega arith) (omega arith) _ c.long_outcome.ensures
      | in_default+else-id-lt17+else-id-lt33+else-id-lt139+then-id-lt156 w ↦ long_by_id _ _ _ _ _ (omega arith) (omega arith) (omega arith) (omega arith) _ c.long_outcome.ensures
      | in_default+else-id-lt17+else-id-lt33+else-id-lt139+else-id-lt156+else-id-lt159+then-id-lt161 w ↦ long_by_id _ _ _ _ _ (omega arith) (omega arith) (omega arith) (omega arith) _ c.long_outcome.ensures
    ]
