use mathlib.Core.Path.{sym}
use Rattle.isdb_host.proofs.Lent.{host_pushed}
use Rattle.isdb_host.proofs.session.isdb_push.Goals as goal

pub returns : goal.returns
returns c =
    let b = c.push.ensures.same_buffers in
    rw (c.state-1.given.1.1 (sym b.state), c.others-1.given.1 (sym b.others), c.objects-1.given.1.1 (sym b.objects), c.messages-1.given.1.1 (sym b.messages), c.tables-1.given.1.1 (sym b.tables)) (host_pushed c.push.ensures.pushed c.push_said.ensures)
