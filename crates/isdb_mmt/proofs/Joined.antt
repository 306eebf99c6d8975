-- A message in two pieces, one behind the other: its bytes, its parts, and a table gathered out of both. Assumes nothing.
use Rattle.std.proofs.Common.{Option, ◌≡◌, ℕ, ◌+◌, ◌-◌, ◌<◌, ◌≤◌, ltb, List, [], ◌++◌, length, get_or, take, drop, sym, ap, ◌∙◌, append-nil, zero-add, arith, length-append, length-drop, drop_of_length-le, take_all, get_or-append-add, w8, Fits, ltb-false, ltb-true}
use lib.ListN.{get_or-append}
use lib.Seq.{take-nil, take-append-le, drop-append-le, take-append-add, drop-append-add}
use Rattle.isdb_tlv.specs.Bytes.{be}
use Rattle.isdb_tlv.proofs.Guards.{either}
use Rattle.isdb_mmt.specs.Memory.Layout.{most_table_area}
use Rattle.isdb_mmt.specs.Decoder.Packet.{Bytes}
use Rattle.isdb_mmt.specs.Formats.Part.{part_of}
use Rattle.isdb_mmt.specs.Memory.Lent.{over}
use Rattle.isdb_mmt.specs.Decoder.Kept.{table_read}
use Rattle.isdb_mmt.specs.Pushes.Placed.{behind}
use Rattle.isdb_mmt.specs.Pushes.TableOutcome.{table_outcome, CanDecide}
use Rattle.isdb_mmt.specs.declared.part.Part.{Part}
use Rattle.isdb_mmt.specs.declared.decoder.section.KeptSection.{KeptSection}
use Rattle.isdb_mmt.specs.declared.decoder.table_outcome.Recent.{Recent}
use Rattle.isdb_mmt.specs.declared.decoder.table_outcome.TableOutcome.{TableOutcome}
use Rattle.isdb_mmt.proofs.Lent.{part_over, over_next}
use Rattle.isdb_mmt.proofs.TableOutcomes.{byte_at}

module _ (a b : Bytes) where
  pub byte_left : (i : ℕ) → i < length a → get_or a i 0 ≡ get_or (a ++ b) i 0
  byte_left i h = sym (get_or-append a b 0 i h)

  pub byte_right : (i : ℕ) → length a ≤ i → (r : ℕ) → r ≡ be 1 b (i - length a) → r ≡ get_or (a ++ b) i 0
  byte_right i h r e =
      let q : length a + (i - length a) ≡ i = omega arith in
      e ∙ byte_at b (i - length a) ∙ sym (get_or-append-add a b (i - length a) 0) ∙ ap (λ k. get_or (a ++ b) k 0) q

  pub both_fit : ((i : ℕ) → Fits w8 (get_or a i 0)) → ((i : ℕ) → Fits w8 (get_or b i 0)) → (i : ℕ) → Fits w8 (get_or (a ++ b) i 0)
  both_fit ha hb i =
      either (ltb i (length a)) (λ t. rw (← byte_left i (ltb-true i (length a) t)) (ha i))
      (λ t.
      let k = ltb-false i (length a) t in
      let q : length a + (i - length a) ≡ i = omega arith in
      let e : get_or (a ++ b) i 0 ≡ get_or b (i - length a) 0 = ap (λ k. get_or (a ++ b) k 0) (sym q) ∙ get_or-append-add a b (i - length a) 0 in
      rw e (hb (i - length a)))

  -- a part of the message has a part in each
  pub pieces : (p : Part) → part_of a p ++ part_of b (behind (length a) p) ≡ part_of (a ++ b) p
  unfolding behind
  pieces p =
      let s : ℕ = p.start in
      let n : ℕ = p.length in
      let x : Bytes = drop s a in
      let lx : length x ≡ length a - s = length-drop s a in
      either (ltb (length a) s)
      (λ t.
      let h = ltb-true (length a) s t in
      let e : x ≡ [] = drop_of_length-le a {i = s} (omega arith) in
      let q : length a + (s - length a) ≡ s = omega arith in
      let z : n - (length a - s) ≡ n = omega arith in
      let d : drop s (a ++ b) ≡ drop (s - length a) b = ap (λ k. drop k (a ++ b)) (sym q) ∙ drop-append-add a b (s - length a) in
      ap (λ (l : Bytes). take n l ++ take (n - (length a - s)) (drop (s - length a) b)) e
      ∙ ap (λ (l : Bytes). l ++ take (n - (length a - s)) (drop (s - length a) b)) (take-nil n)
      ∙ ap (λ k. take k (drop (s - length a) b)) z
      ∙ ap (λ (l : Bytes). take n l) (sym d))
      (λ t.
      let h = ltb-false (length a) s t in
      let d : drop s (a ++ b) ≡ x ++ b = drop-append-le s a b h in
      let o : s - length a ≡ 0 = omega arith in
      ap (λ k. take n x ++ take (n - (length a - s)) (drop k b)) o
      ∙ either (ltb (length x) n)
      (λ u.
      let k = ltb-true (length x) n u in
      let q : length x + (n - (length a - s)) ≡ n = omega arith in
      ap (λ (l : Bytes). l ++ take (n - (length a - s)) b) (take_all n x (omega arith))
      ∙ sym (take-append-add x b (n - (length a - s)))
      ∙ ap (λ k. take k (x ++ b)) q)
      (λ u.
      let k = ltb-false (length x) n u in
      let z : n - (length a - s) ≡ 0 = omega arith in
      ap (λ k. take n x ++ take k b) z ∙ append-nil (take n x) ∙ sym (take-append-le n x b k))
      ∙ ap (λ (l : Bytes). take n l) (sym d))

-- ---- a table in two pieces

module _ (ix : List ℕ) (used : ℕ) (a b : Bytes) (can : CanDecide ix used a b) where
  module _ (ks : List KeptSection) (m p : Option Recent) (r : TableOutcome) where
    pub outcome_both : (assembled : List ℕ) → length assembled ≡ most_table_area → (s s' t : List ℕ) → s ≡ over 0 a assembled → s' ≡ over (length a) b s → t ≡ take (length a + length b) s'
        → r ≡ table_outcome ks m p (table_read t) → r ≡ table_outcome ks m p (table_read (a ++ b))
    outcome_both assembled long s s' t es es' et er =
        let l : length (a ++ b) ≡ length a + length b = length-append a b in
        let w : s' ≡ over 0 (a ++ b) assembled =
        es'
        ∙ ap (λ (z : List ℕ). over (length a) b z) es
        ∙ ap (λ k. over k b (over 0 a assembled)) (sym (zero-add (length a)))
        ∙ over_next 0 a b assembled (omega (arith, can.short, long)) in
        let q : t ≡ a ++ b =
        et
        ∙ ap (λ k. take k s') (sym l)
        ∙ ap (λ (z : List ℕ). take (length (a ++ b)) z) w
        ∙ part_over 0 (a ++ b) assembled (omega (arith, can.short, long)) in
        er ∙ ap (λ (z : List ℕ). table_outcome ks m p (table_read z)) q
