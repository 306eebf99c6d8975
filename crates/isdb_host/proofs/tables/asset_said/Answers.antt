use Rattle.isdb_host.proofs.tables.asset_said.Goals as goal

pub returns : goal.returns
returns c =
    rw c.in-Some.is (rw (c.unwrap_or.ensures, c.given.ensures, c.from.ensures, c.packet_id-packet_id.ensures) at c.says.ensures)
