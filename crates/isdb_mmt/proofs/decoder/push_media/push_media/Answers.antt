use Rattle.isdb_mmt.proofs.MediaPushes.{push_small, can_all, pushed_yes}
use Rattle.isdb_mmt.proofs.decoder.push_media.push_media.Goals as goal
use Rattle.isdb_mmt.proofs.Refusals.{ok_number}
use Rattle.std.proofs.Common.{◌∙◌, sym, rules}

pub answer_of-a-requires : goal.answer_of-a-requires
answer_of-a-requires c = let x = c.args in push_small _ _ _ _ _ x.h _ x.rows.now x.out.now c.requires _ c.load_limits-l.ensures _ c.media_place_for-place_for.ensures _ c.place_in-p.ensures _ c.media_outcome-r.ensures

pub commit_all-requires : goal.commit_all-requires
commit_all-requires c = let x = c.args in can_all _ _ _ _ _ x.h _ x.rows.now x.out.now c.requires _ c.load_limits-l.ensures _ c.media_place_for-place_for.ensures _ c.place_in-p.ensures _ c.media_outcome-r.ensures _ c.answer_of-a.ensures (ok_number _ (sym c.is_ok-taken.ensures.value ∙ c.if-taken.true))

pub returns-then-taken : goal.returns-then-taken
returns-then-taken c = let x = c.args in record { same_buffers = search rules; pushed = pushed_yes _ _ _ _ _ x.h _ x.rows.now x.out.now c.requires _ c.load_limits-l.ensures _ c.media_place_for-place_for.ensures _ c.place_in-p.ensures _ c.media_outcome-r.ensures _ c.answer_of-a.ensures (ok_number _ (sym c.is_ok-taken.ensures.value ∙ c.if-taken.true)) _ _ _ _ c.commit_all.ensures }
