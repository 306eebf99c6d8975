-- Laws of limits: what passing questions 1 to 4 says, and that the lengths which limits in range need fit 64 bits.
-- Assumes nothing.
use Rattle.std.proofs.Common.{◌≡◌, ℕ, suc, ◌+◌, ◌*◌, ◌<◌, ◌≤◌, true, sym, ap, ◌∙◌, mul-le-mul_right, mul-le-mul, arith, w64, Fits, ltb-false, leb-true}
use Rattle.isdb_tlv.specs.Guards.{◌<?◌}
use Rattle.isdb_mmt.specs.Memory.Layout.{most_media_ids, most_control_ids, most_sections, most_mfu_area, most_message_area, most_table_area, most_packets, state_size}
use Rattle.isdb_mmt.specs.Memory.Limits.{in_range, places_in_range, areas_in_range, packets_in_range, lengths_for, long_enough, needed_of, asked, Agreement}
use Rattle.isdb_mmt.specs.declared.decoder.limits.Limits.{Limits}
use Rattle.isdb_mmt.specs.declared.decoder.limits.Lengths.{Lengths}
use Rattle.isdb_tlv.proofs.Guards.{either}
use Rattle.isdb_mmt.proofs.Guards.{was_left, was_guarded, was_asked}
use Rattle.isdb_mmt.specs.Memory.Refusals.{answer_number}
use Rattle.isdb_mmt.specs.declared.decoder.refusal.Refusal.{Refusal}
use Rattle.std.specs.Prelude.{Result, Ok, Err}

-- 1 to `most`
abbrev pub Within : ℕ → ℕ → Type 0
Within most x = (1 ≤ x) × (x ≤ most)

in_range_lem : (most x : ℕ) → in_range most x ≡ true → Within most x
unfolding in_range
in_range_lem most x e = let h = was_left (x <? 1) _ e in (ltb-false x 1 h.0, leb-true x most h.1)

-- questions 1 and 2: places, and areas
pub record Ranges (l : Limits) : Type 0 where
  pub media : Within most_media_ids l.media_ids
  pub controls : Within most_control_ids l.control_ids
  pub sections : Within most_sections l.sections
  pub object : Within most_mfu_area l.mfu_area
  pub message : Within most_message_area l.message_area
  pub table : Within most_table_area l.table_area

pub in_ranges : (l : Limits) → places_in_range l ≡ true → areas_in_range l ≡ true → Ranges l
unfolding places_in_range areas_in_range
in_ranges l p a =
    let p1 = was_guarded (in_range most_media_ids l.media_ids) _ p in
    let p2 = was_guarded (in_range most_control_ids l.control_ids) _ p1.1 in
    let a1 = was_guarded (in_range most_mfu_area l.mfu_area) _ a in
    let a2 = was_guarded (in_range most_message_area l.message_area) _ a1.1 in
    record {
      media = in_range_lem _ _ p1.0;
      controls = in_range_lem _ _ p2.0;
      sections = in_range_lem _ _ p2.1;
      object = in_range_lem _ _ a1.0;
      message = in_range_lem _ _ a2.0;
      table = in_range_lem _ _ a2.1;
    }

-- so the areas of one sort together have a length of 64 bits: an area for each place, the PLT and the TOT at most
pub areas_fit : (n area : ℕ) → n ≤ most_sections + most_control_ids + 2 → area ≤ most_mfu_area → Fits w64 (n * area)
areas_fit n area h k = record { fits = omega (arith, mul-le-mul h k) }

-- area `i` of `k` areas lies within their buffer, and so do `n` bytes in it
pub whole_area : (i k area m : ℕ) → i < k → k * area ≤ m → (i + 1) * area ≤ m
whole_area i k area m b w = let q : (i + 1) * area ≤ k * area = mul-le-mul_right area (omega arith) in omega arith

pub in_buffer : (i n area m k : ℕ) → n ≤ area → i < k → k * area ≤ m → i * area + n ≤ m
in_buffer i n area m k h b w = omega (arith, whole_area i k area m b w)

-- of one area and `k` more: the one, and the others
pub areas_next : (i k area m : ℕ) → (i + suc k) * area ≤ m → ((i + 1) * area ≤ m) × ((i + 1 + k) * area ≤ m)
areas_next i k area m w = let e : i + 1 + k ≡ i + suc k = omega arith in (whole_area i (i + suc k) area m (omega arith) w, rw e w)

-- questions 1 to 4, of limits with the lengths that are lent
pub record Passed (l : Limits) (lent : Lengths) : Type 0 where
  pub ranges : Ranges l
  pub state : state_size ≤ lent.state
  pub objects : l.media_ids * l.mfu_area ≤ lent.objects
  pub messages : l.control_ids * l.message_area ≤ lent.messages
  pub tables : (l.sections + l.control_ids + 2) * l.table_area ≤ lent.tables
  pub packets : Within most_packets l.packets

pub passed : (l : Limits) (lent : Lengths) → asked l lent ≡ 0 → Passed l lent
unfolding asked packets_in_range lengths_for long_enough
passed l lent e =
    let q1 = was_asked (places_in_range l) 0 _ e in
    let q2 = was_asked (areas_in_range l) 1 _ q1.1 in
    let q3 = was_asked (long_enough (lengths_for l) lent) 2 _ q2.1 in
    let q4 = was_asked (packets_in_range l) 3 _ q3.1 in
    let b1 = was_left (lent.state <? state_size) _ q3.0 in
    let b2 = was_left (lent.objects <? (lengths_for l).objects) _ b1.1 in
    let b3 = was_left (lent.messages <? (lengths_for l).messages) _ b2.1 in
    record {
      ranges = in_ranges l q1.0 q2.0;
      state = ltb-false _ _ b1.0;
      objects = ltb-false _ _ b2.0;
      messages = ltb-false _ _ b3.0;
      tables = leb-true _ _ b3.1;
      packets = in_range_lem _ _ q4.0;
    }

-- ---- what is needed and what is asked

needs_number : (l : Limits) (lent : Lengths) → long_enough (lengths_for l) lent ≡ true → asked l lent ≡ answer_number (needed_of l)
unfolding asked needed_of
needs_number l lent e =
    either (places_in_range l)
    (λ p.
    either (areas_in_range l) (λ a. either (packets_in_range l) (λ q. rw (p, a, e, q)) (λ q. rw (p, a, e, q)))
    (λ a. rw (p, a)))
    (λ p. rw p)

-- the lengths of a need
abbrev lengths_in : Lengths → Result Lengths Refusal → Lengths
lengths_in m (Ok n) = n
lengths_in m (Err r) = m

needs_bytes : (l : Limits) → lengths_in (lengths_for l) (needed_of l) ≡ lengths_for l
unfolding needed_of
needs_bytes l =
    either (places_in_range l)
    (λ p.
    either (areas_in_range l) (λ a. either (packets_in_range l) (λ q. rw (p, a, q)) (λ q. rw (p, a, q)))
    (λ a. rw (p, a)))
    (λ p. rw p)

pub agreement : Agreement
agreement l lent =
    record {
      enough =
          λ n e h.
          let d : n ≡ lengths_for l = ap (lengths_in (lengths_for l)) (sym e) ∙ needs_bytes l in
          needs_number l lent (rw d at h) ∙ ap answer_number e;
      number = needs_number l lent;
    }
