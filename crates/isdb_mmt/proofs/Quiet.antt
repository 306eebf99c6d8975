-- The questions of a packet that hands nothing out. Assumes nothing.
use Rattle.std.proofs.Common.{◌≡◌, ℕ, ◌+◌, ◌*◌, ◌<◌, ◌≤◌, not, ltb, leb, refl, ap, ◌∙◌, arith, ltb-false, ltb-true, le-ltb, le-leb}
use borrow.Author.Tests.{lt-leb}
use Rattle.isdb_tlv.specs.Guards.{◌<?◌}
use Rattle.std.specs.Prelude.{if◌then◌else◌}
use Rattle.isdb_tlv.proofs.Guards.{either}
use Rattle.isdb_mmt.specs.Decoder.Needs.{Needs}
use Rattle.isdb_mmt.specs.Pushes.Records.{row_size}
use Rattle.isdb_mmt.specs.Pushes.Push.{has_places, has_areas, has_outputs}
use Rattle.isdb_mmt.specs.declared.decoder.limits.Limits.{Limits}
use Rattle.isdb_mmt.specs.declared.decoder.head.Used.{Used}

module _ (q : Needs) (l : Limits) (u : Used) where
  -- tables may find no place, a message or a table no area
  pub asks_kept : u.media_ids + q.media_ids ≤ l.media_ids → u.control_ids + q.control_ids ≤ l.control_ids → q.object ≤ l.mfu_area
      → q.records ≡ 0 → q.data_bytes ≡ 0
      → ◌≡◌ {A = ℕ} (if not (has_places l u q) then 8 else if not (has_areas l q) then 9 else if not (has_outputs 0 0 q) then 10 else 0)
      (if l.sections <? u.sections + q.sections then 8 else if l.message_area <? q.message then 9 else if l.table_area <? q.table then 9 else 0)
  unfolding has_places has_areas has_outputs
  asks_kept a b d r g =
      let r0 : row_size * q.records ≤ 0 = omega arith in
      let g0 : q.data_bytes ≤ 0 = omega arith in
      rw (le-leb _ _ a, le-leb _ _ b)
      (either (ltb l.sections (u.sections + q.sections)) (λ x. rw (lt-leb _ _ (ltb-true _ _ x), x) refl)
      (λ x.
      rw (le-leb _ _ (ltb-false _ _ x), le-leb _ _ d, x)
      (either (ltb l.message_area q.message) (λ y. rw (lt-leb _ _ (ltb-true _ _ y), y) refl)
      (λ y.
      rw (le-leb _ _ (ltb-false _ _ y), y)
      (either (ltb l.table_area q.table) (λ z. rw (lt-leb _ _ (ltb-true _ _ z), z) refl)
      (λ z. rw (le-leb _ _ (ltb-false _ _ z), le-leb _ _ r0, le-leb _ _ g0, z) refl))))))

  -- where no table is kept, only a message
  pub asks_by : u.media_ids + q.media_ids ≤ l.media_ids → u.control_ids + q.control_ids ≤ l.control_ids → u.sections + q.sections ≤ l.sections
      → q.object ≤ l.mfu_area → q.table ≤ l.table_area → q.records ≡ 0 → q.data_bytes ≡ 0
      → ◌≡◌ {A = ℕ} (if not (has_places l u q) then 8 else if not (has_areas l q) then 9 else if not (has_outputs 0 0 q) then 10 else 0)
      (if l.message_area <? q.message then 9 else 0)
  asks_by a b c d e r g =
      asks_kept a b d r g
      ∙ ap (λ y. if◌then◌else◌ {A = ℕ} y 8 (if l.message_area <? q.message then 9 else if l.table_area <? q.table then 9 else 0)) (le-ltb _ _ c)
      ∙ ap (λ y. if◌then◌else◌ {A = ℕ} (l.message_area <? q.message) 9 (if y then 9 else 0)) (le-ltb _ _ e)

  pub asks_none : l.control_ids < u.control_ids + q.control_ids
      → ◌≡◌ {A = ℕ} (if not (has_places l u q) then 8 else if not (has_areas l q) then 9 else if not (has_outputs 0 0 q) then 10 else 0) 8
  unfolding has_places
  asks_none b =
      either (leb (u.media_ids + q.media_ids) l.media_ids) (λ y. rw (y, lt-leb _ _ b) refl) (λ y. rw y refl)
