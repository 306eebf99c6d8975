-- A message packet with which a message is whole: what is asked and left is the model's. Assumes nothing.
use Rattle.std.proofs.Common.{Option, ◌≡◌, ℕ, ◌+◌, ◌*◌, ◌<◌, Bool, List, ◌++◌, length, drop, replicate, ap, ◌∙◌}
use Rattle.isdb_mmt.specs.Memory.Layout.{most_sections, section_places}
use Rattle.isdb_mmt.specs.Decoder.Packet.{Bytes}
use Rattle.isdb_mmt.specs.Memory.Lent.{part}
use Rattle.isdb_mmt.specs.Memory.Session.{limits_of}
use Rattle.isdb_mmt.specs.Pushes.TableOutcome.{index_size}
use Rattle.isdb_mmt.specs.Pushes.PendingTables.{Walked}
use Rattle.isdb_mmt.specs.Pushes.Start.{recent_at, walk_start, tables_ask}
use Rattle.isdb_mmt.specs.Decoder.Reassembly.{cut_of}
use Rattle.isdb_mmt.specs.Decoder.Kept.{table_read}
use Rattle.isdb_mmt.specs.Pushes.Placed.{join_of, placed_cut}
use Rattle.isdb_mmt.specs.declared.decoder.table_outcome.Recent.{Recent}
use Rattle.isdb_mmt.specs.Pushes.WholeMessage.{before_by, long_by, aggregated_by, join_by, held_in, walk_from, WalkedWhole, CanWalkWhole, whole_ask}
use Rattle.isdb_mmt.specs.declared.decoder.limits.Limits.{Limits}
use Rattle.isdb_mmt.specs.declared.decoder.counts.Counters.{Counters}
use Rattle.isdb_mmt.specs.declared.decoder.control.Control.{Control}
use Rattle.isdb_mmt.specs.declared.decoder.walk.WalkState.{WalkState}
use Rattle.isdb_tlv.proofs.Guards.{either}
use Rattle.isdb_tlv.specs.Guards.{◌<?◌}

-- ---- the questions

module _ (l : Limits) (area : ℕ) (g : WalkState) where
  -- 9 stays 9 whatever the message's area is
  pub whole_no : (n : ℕ) → (n ≡ 0 → ⊥) → n ≡ tables_ask l g → n ≡ whole_ask l area g
  unfolding whole_ask tables_ask
  whole_no n z e =
      e ∙ either g.full (λ t. rw t) (λ f.
      either (l.sections <? g.used) (λ t. rw (f, t)) (λ k.
      either (l.table_area <? g.longest) (λ t. either (l.message_area <? area) (λ m. rw (f, k, t, m)) (λ m. rw (f, k, t, m)))
      (λ t. absurd (z (e ∙ rw (f, k, t))))))

-- ---- the walk

module _ (state others joined tables ix log mine : List ℕ) (i : ℕ) (c : Control) (last : Bool) (cs : Counters) (b : Bytes)
    (can : CanWalkWhole state others joined tables ix log mine i c last cs b) (l : Limits) (el : l ≡ limits_of state) where
  module _ (ix₁ log₁ mine₁ : List ℕ) (ei : ix₁ ≡ part section_places index_size state) (eg₁ : log₁ ≡ replicate (length log) 0) (em : mine₁ ≡ others) (mpt : Option Recent)
      (ep : mpt ≡ recent_at tables ((l.sections + i) * l.table_area) c.mpt c.mpt_length) (g : WalkState) (eg : g ≡ walk_start state tables cs mpt) (a : Bytes)
      (ea : a ≡ before_by last (part (i * l.message_area) c.length joined)) (d : Bytes) (ed : d ≡ drop 2 b) where
    log_is : log₁ ≡ replicate most_sections 0
    log_is = eg₁ ∙ ap (λ n. replicate {A = ℕ} n 0) can.copies.log_long

    going_is : g ≡ walk_from state tables cs i c
    going_is =
        eg
        ∙ ap (λ (z : Option Recent). walk_start state tables cs z)
        (ep ∙ ap (λ (z : Limits). recent_at tables ((z.sections + i) * z.table_area) c.mpt c.mpt_length) el)

    bytes_are : a ++ d ≡ (join_by last c (held_in state joined i c) b).bytes
    bytes_are =
        ap (λ (z : Bytes). z ++ d) (ea ∙ ap (λ (z : Limits). before_by last (part (i * z.message_area) c.length joined)) el)
        ∙ ap (λ (z : Bytes). before_by last (held_in state joined i c) ++ z) ed

    pub walk_done : (long : Bool) → long ≡ long_by last c b → (aggregated : Bool) → aggregated ≡ aggregated_by last c b → (r : WalkState) (ix₂ log₂ mine₂ : List ℕ)
        → Walked table_read ix₁ log₁ mine₁ g (placed_cut (join_of long aggregated (a ++ d))) (length (a ++ d) + 1) (cut_of (join_of long aggregated (a ++ d))).malformed r ix₂ log₂ mine₂
        → WalkedWhole state others tables i c cs (join_by last c (held_in state joined i c) b) r ix₂ log₂ mine₂
    walk_done long e1 aggregated e2 r ix₂ log₂ mine₂ w = rw (ei, log_is, em, going_is, bytes_are, e1, e2) at w
