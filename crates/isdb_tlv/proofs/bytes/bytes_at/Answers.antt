use mathlib.Core.Path.{◌∙◌}
use Rattle.isdb_tlv.proofs.Numbers.{be_rest, be_chunk}
use Rattle.isdb_tlv.proofs.bytes.bytes_at.Goals as goal

pub returns-in-Some : goal.returns-in-Some
returns-in-Some g c =
    be_chunk g.row.W c.rest-r.result.now c.in-Some.all.now c.in-Some.ensures.cases.same
    ∙ be_rest g.row.W c.args.at c.args.b.now c.rest-r.result.now c.rest-r.ensures

pub returns-in-None : goal.returns-in-None
returns-in-None g c = c.padded.ensures ∙ be_rest g.row.W c.args.at c.args.b.now c.rest-r.result.now c.rest-r.ensures
