use Rattle.std.proofs.Common.{sym, ◌∙◌}
use Rattle.isdb_mmt.proofs.MediaCommits.{complete_can, head_can, middle_add, middle_can, last_can, complete_done, head_done, middle_done, middle_idle, last_done, last_idle}
use Rattle.isdb_mmt.proofs.decoder.push_media.commit_units.Goals as goal

pub give_units-requires : goal.give_units-requires
give_units-requires c = complete_can _ _ _ _ _ _ _ _ _ c.requires c.in-Complete.is _ c.declared-q.ensures

pub put_in_area-requires : goal.put_in_area-requires
put_in_area-requires c = head_can _ _ _ _ _ _ _ _ _ c.requires c.in-Head.is _ c.declared-q.ensures _ c.of.ensures

pub overflow_add-at : goal.overflow_add-at
overflow_add-at c = middle_add _ _ _ _ _ _ _ _ _ c.requires c.in-Middle.is (sym c.is_some.ensures ∙ c.if-is_some.true) _ c.declared-q.ensures

pub append_units-requires : goal.append_units-requires
append_units-requires c = middle_can _ _ _ _ _ _ _ _ _ c.requires c.in-Middle.is (sym c.is_some.ensures ∙ c.if-is_some.true) _ c.declared-q.ensures

pub end_object-requires : goal.end_object-requires
end_object-requires c = last_can _ _ _ _ _ _ _ _ _ c.requires c.in-Last.is c.if-t-ne0.true _ c.declared-q.ensures

pub returns-in-Complete : goal.returns-in-Complete
returns-in-Complete c = complete_done _ _ _ _ _ _ _ _ _ c.requires c.in-Complete.is _ c.declared-q.ensures _ _ c.give_units.ensures

pub returns-in-Head : goal.returns-in-Head
returns-in-Head c = head_done _ _ _ _ _ _ _ _ _ c.requires c.in-Head.is _ c.declared-q.ensures _ c.of.ensures _ c.put_in_area.ensures

pub returns-then-is_some : goal.returns-then-is_some
returns-then-is_some c = middle_done _ _ _ _ _ _ _ _ _ c.requires c.in-Middle.is (sym c.is_some.ensures ∙ c.if-is_some.true) _ c.declared-q.ensures _ c.append_units.ensures

pub returns-else-is_some : goal.returns-else-is_some
returns-else-is_some c = middle_idle _ _ _ _ _ _ _ _ _ c.requires c.in-Middle.is (sym c.is_some.ensures ∙ c.if-is_some.false)

pub returns-then-t-ne0 : goal.returns-then-t-ne0
returns-then-t-ne0 c = last_done _ _ _ _ _ _ _ _ _ c.requires c.in-Last.is c.if-t-ne0.true _ c.declared-q.ensures _ _ c.end_object.ensures

pub returns-else-t-ne0 : goal.returns-else-t-ne0
returns-else-t-ne0 c = last_idle _ _ _ _ _ _ _ _ _ c.requires c.in-Last.is c.if-t-ne0.false
