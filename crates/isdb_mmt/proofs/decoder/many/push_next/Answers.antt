use Rattle.isdb_mmt.proofs.PushAll.{step_refused}
use Rattle.isdb_mmt.proofs.Refusals.{refusal_some}
use Rattle.std.proofs.Common.{rules}
use Rattle.std.proofs.lemmas.Result.{err_from_is_err_and}
use Rattle.isdb_mmt.proofs.decoder.many.push_next.Goals as goal

pub returns-in_err-a : goal.returns-in_err-a
returns-in_err-a c = let p = err_from_is_err_and c.from_residual.result c.from_residual.ensures.1 in rw (p.1, p.2) (record { same_buffers = search rules; pushed = step_refused _ _ _ c.requires _ _ _ _ (rw c.in_err-a.was at c.push_behind.ensures.pushed) (refusal_some _) })
