use Rattle.isdb_host.proofs.tables.mpt_said.Goals as goal

pub returns : goal.returns
returns c =
    rw c.in-Some.is (rw (c.unwrap_or.ensures, c.given.ensures, c.service_id-service.ensures) at c.says.ensures)
