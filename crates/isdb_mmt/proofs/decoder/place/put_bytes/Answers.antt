use Rattle.std.proofs.Common.{◌∙◌, sym, rules}
use Rattle.std.proofs.lemmas.List.{nil_from_length}
use Rattle.isdb_mmt.proofs.Lent.{over_none, copy_fits, copy_next}
use Rattle.isdb_mmt.proofs.decoder.place.put_bytes.Goals as goal

pub loop-p-preserved : goal.loop-p-preserved
loop-p-preserved c =
    let i = c.loop-p.invariant in
    let s = c.in-Some.ensures.steps in (
      search rules,
      tt,
      s.0 ∙ i.2,
      copy_fits _ _ _ _ _ _ i.3 s.1.0 c.put_block.ensures,
      copy_next _ _ _ _ _ _ i.3 s.1.0 c.put_block.ensures ∙ i.4,
    )

pub returns : goal.returns
returns c =
    let i = c.loop-p.invariant in
    let none = nil_from_length _ c.in-None.ensures.steps.1.0 in sym (over_none _ _) ∙ rw none at i.4
