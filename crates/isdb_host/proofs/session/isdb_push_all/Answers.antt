use mathlib.Core.Path.{sym}
use Rattle.isdb_host.proofs.Lent.{host_pushed_all}
use Rattle.isdb_host.proofs.session.isdb_push_all.Goals as goal

pub returns : goal.returns
returns c =
    let b = c.push_all.ensures.same_buffers in
    rw (c.state-1.given.1.1 (sym b.state), c.others-1.given.1 (sym b.others), c.objects-1.given.1.1 (sym b.objects), c.messages-1.given.1.1 (sym b.messages), c.tables-1.given.1.1 (sym b.tables)) (host_pushed_all c.push_all.ensures.pushed c.all_said.ensures)
