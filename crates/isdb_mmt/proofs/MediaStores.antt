-- The stores of a media packet, one behind the other. Assumes nothing.
use Rattle.std.proofs.Common.{◌≡◌, ℕ, ◌+◌, ◌*◌, ◌<◌, ◌≤◌, List, [], ◌∷◌, length, ap, ◌∙◌, arith}
use Rattle.isdb_tlv.specs.Bytes.{put_be}
use Rattle.isdb_tlv.specs.Fields.{field, written}
use Rattle.isdb_tlv.proofs.Fields.{length_written}
use Rattle.isdb_mmt.specs.Memory.Lent.{over}
use Rattle.isdb_mmt.specs.Memory.Session.{media_fields, used_fields}
use Rattle.isdb_mmt.specs.Memory.Layout.{most_media_ids, used_place, counters_place, media_places, media_size, state_size}
use Rattle.isdb_mmt.specs.Pushes.MediaPush.{with_used, with_packets}
use Rattle.isdb_mmt.specs.declared.decoder.head.Used.{Used}
use Rattle.isdb_mmt.specs.declared.decoder.media.Media.{Media}
use Rattle.isdb_mmt.proofs.Lent.{length_over}
use Rattle.isdb_mmt.proofs.Stored.{stored}

module _ (l : List ℕ) (i : ℕ) (m : Media) (packets : ℕ) (b : i < most_media_ids) (h : state_size ≤ length l)
    (l1 : List ℕ) (e1 : l1 ≡ over (media_places + media_size * i) (written (media_fields m)) l) where
  long : length l1 ≡ length l
  long =
      let e : length (written (media_fields m)) ≡ 120 = length_written (media_fields m) in
      ap length e1 ∙ length_over (media_places + media_size * i) (written (media_fields m)) l (omega arith)

  pub stored_old : (l2 : List ℕ) → l2 ≡ put_be 8 counters_place packets l1 → l2 ≡ with_packets packets (over (media_places + media_size * i) (written (media_fields m)) l)
  stored_old l2 e2 = stored (field 8 packets ∷ []) counters_place l1 (omega (arith, long)) e2 ∙ ap (with_packets packets) e1

  pub stored_new : (u : Used) (l2 l3 : List ℕ) → l2 ≡ over used_place (written (used_fields u)) l1 → l3 ≡ put_be 8 counters_place packets l2
      → l3 ≡ with_packets packets (with_used u (over (media_places + media_size * i) (written (media_fields m)) l))
  stored_new u l2 l3 e2 e3 =
      let e : length (written (used_fields u)) ≡ 12 = length_written (used_fields u) in
      let k : length l2 ≡ length l1 = ap length e2 ∙ length_over used_place (written (used_fields u)) l1 (omega (arith, long)) in
      stored (field 8 packets ∷ []) counters_place l2 (omega (arith, long, k)) e3 ∙ ap (with_packets packets) (e2 ∙ ap (with_used u) e1)
