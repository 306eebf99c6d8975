-- A middle part of an object pushed: it is answered and committed as every media packet is, and nothing is handed out. Assumes nothing.
use Rattle.std.specs.Prelude.{Option, Some, is_some}
use Rattle.std.proofs.Common.{◌≡◌, ℕ, ◌+◌, ◌-◌, ◌*◌, ◌≤◌, max, true, false, List, length, drop, sym, refl, ap, ◌∙◌, append-nil, arith, length-drop, le-ltb, le-leb}
use Rattle.isdb_tlv.specs.Bytes.{be}
use Rattle.isdb_tlv.specs.declared.mmtp.Header.{Header}
use Rattle.isdb_mmt.specs.Decoder.Packet.{Bytes, media_of}
use Rattle.isdb_mmt.specs.Decoder.Objects.{most_object}
use Rattle.isdb_mmt.specs.Memory.Lent.{over}
use Rattle.isdb_mmt.specs.Formats.Part.{part_of}
use Rattle.isdb_mmt.specs.Formats.Mpu.{payload_header_fields, declared_of, units_of}
use Rattle.isdb_mmt.specs.Memory.Layout.{most_mfu_area}
use Rattle.isdb_mmt.specs.Memory.Session.{limits_of, media_at}
use Rattle.isdb_mmt.specs.Memory.Check.{lengths_of}
use Rattle.isdb_mmt.specs.Memory.Opening.{lent}
use Rattle.isdb_mmt.specs.Pushes.MediaPush.{media_place_for, MediaPushed}
use Rattle.isdb_mmt.specs.Pushes.MediaEffect.{grown_to, grown_unit, with_unit, with_each_unit, units_effect}
use Rattle.isdb_mmt.specs.Pushes.MediaPlace.{gap_in, header_if, item_if, normal_object, begun, start_of, place_after_of}
use Rattle.isdb_mmt.specs.Pushes.MediaOutcome.{outcome_with, units_outcome, outcome_by, media_outcome}
use Rattle.isdb_mmt.specs.Pushes.MediaCommit.{place_in, passes_on, fits_number, number_of, accepted, answer_of, units_data, CanCommitAll, CanTake, Committed, state_after}
use Rattle.isdb_mmt.specs.Pushes.Plain.{middle_part, unit_bytes, is_next, growing, timed_of, grown_of, NextAt, CanGrow, GrownAt, CanCommitPart, PartLaid, CanPushUnit, MiddlePart, UnitPushed}
use Rattle.isdb_mmt.specs.declared.part.Part.{Part}
use Rattle.isdb_mmt.specs.declared.mpu.PayloadHeader.{PayloadHeader}
use Rattle.isdb_mmt.specs.declared.decoder.limits.Limits.{Limits}
use Rattle.isdb_mmt.specs.declared.decoder.place.PlaceFor.TheVariants.{Own}
use Rattle.isdb_mmt.specs.declared.decoder.media.Media.{Media}
use Rattle.isdb_mmt.specs.declared.decoder.reassembler.MediaEffect.{MediaEffect}
use Rattle.isdb_mmt.specs.declared.decoder.reassembler.MediaOutcome.{MediaOutcome}
use Rattle.isdb_mmt.specs.Pushes.Answer.{Answer}
use Rattle.isdb_mmt.specs.declared.decoder.plain.Plain.TheVariants.{Grown}
use Rattle.isdb_mmt.proofs.Names.{true_not_false}
use Rattle.isdb_mmt.proofs.Limits.{passed}
use Rattle.isdb_mmt.proofs.EffectsModelled.{grown_some}
use Rattle.isdb_mmt.proofs.MediaCommits.{can_take, middle_done, commit_taken}
use Rattle.isdb_mmt.proofs.MediaPushes.{can_all, pushed_yes}
use Rattle.isdb_mmt.proofs.PlainTests.{unit_facts, unit_header, middle_facts, declared_long, unit_there, unit_here, one_unit, unit_data, unit_length, next_facts, growing_facts, own_id}
use Rattle.isdb_mmt.proofs.PlainPushes.{more, place_with, not_on, is_left, is_grown}

-- ---- what it starts from

module _ (m : Media) (n mpu : ℕ) (next : is_next m n mpu ≡ true) (grows : growing m ≡ true) where
  no_gap : gap_in m n ≡ false
  unfolding gap_in
  no_gap = let f = next_facts m n mpu next in rw (f.seen, f.follows_on)

  normal_is : normal_object m.object ≡ timed_of m.object m.object.length
  unfolding normal_object
  normal_is =
      let g = growing_facts m grows in
      λ i.
      record {
        mpu_sequence_number = m.object.mpu_sequence_number;
        rap = m.object.rap;
        timed = g.timed i;
        header = header_if (g.timed i) m.object.header;
        item = g.no_item i;
        item_id = item_if (g.no_item i) m.object.item_id;
        length = m.object.length;
      }

  start_held : start_of m n ≡ begun (Some (timed_of m.object m.object.length)) 0
  unfolding start_of gap_in
  start_held = rw ((growing_facts m grows).held, no_gap, normal_is)

-- ---- the payload

module _ (st ot ob me ta : List ℕ) (h : Header) (b rows out : Bytes) (i k : ℕ) (mid : MiddlePart (lent st ot ob me ta) h b i k) where
  abbrev can : CanPushUnit middle_part (lent st ot ob me ta) h b
  can = mid.can

  abbrev m : Media
  m = media_at st i

  abbrev r : MediaOutcome
  r = media_outcome m h.sequence h.scramble_info h.rap b

  abbrev y : PayloadHeader
  y = payload_header_fields b

  abbrev l : Limits
  l = limits_of st

  long : 22 ≤ length (declared_of b)
  long = unit_there middle_part b can.unit

  abbrev d : Part
  d = (unit_here (declared_of b) long).«data»

  data_long : length (part_of (declared_of b) d) ≡ unit_bytes b
  data_long = unit_length (declared_of b) long ∙ omega (arith, declared_long middle_part b can.unit)

  grown_is : m.object.length + length (part_of (declared_of b) d) ≡ k
  grown_is = ap (λ v. m.object.length + v) data_long ∙ sym mid.grown

  area_small : l.mfu_area ≤ most_mfu_area
  area_small = (passed l (lengths_of (lent st ot ob me ta)) can.can.sound.limits).ranges.object.1

  abbrev start : MediaEffect
  start = begun (Some (timed_of m.object m.object.length)) 0

  abbrev t : MediaEffect
  t = grown_to false (timed_of m.object m.object.length) start d k

  grown_here : grown_unit false start d (length (part_of (declared_of b) d)) ≡ t
  grown_here =
      grown_some false start d (length (part_of (declared_of b) d)) (timed_of m.object m.object.length) refl
      ∙ rw (grown_is, le-leb k most_object (omega (arith, mid.room, area_small)))

  outcome_here : r ≡ outcome_with false true (Some y) t
  unfolding media_outcome outcome_by units_outcome units_effect with_each_unit with_unit
  outcome_here =
      let g = middle_facts b can.unit in
      rw (start_held m h.sequence (be 4 b 4) mid.next mid.grows, can.clear, unit_header middle_part b can.unit, g.kind, g.division, g.timed, g.single, one_unit (declared_of b) long, grown_here)

  abbrev a : Answer
  a = answer_of (Own i) l h.scramble_info r (length b) (length rows) (length out)

  answer_is : a ≡ accepted 0 0
  unfolding answer_of passes_on number_of fits_number grown_to
  answer_is =
      rw (outcome_here, can.clear, not_on l.pass_scrambled, le-ltb l.mfu_area (max 0 k) (omega (arith, mid.room)), le-ltb (length rows) 0 (omega arith), le-ltb (length out) 0 (omega arith))

  zero_is : a.number ≡ 0
  zero_is = ap (λ (z : Answer). z.number) answer_is

  own : Own i ≡ media_place_for st h.packet_id
  own = sym mid.own

  place_here : m ≡ place_in st (Own i)
  unfolding place_in
  place_here = refl

  abbrev can_all_lem : CanCommitAll l (Own i) m r h b st ob rows out
  can_all_lem = can_all st ot ob me ta h b rows out can.can l refl (Own i) own m place_here r refl a refl zero_is

  abbrev can_take_lem : CanTake y (i * l.mfu_area) m r h b ob rows out
  can_take_lem = can_take (i * l.mfu_area) l.pass_scrambled m r h b ob rows out can_all_lem.commit y (ap (λ (z : MediaOutcome). z.header) outcome_here) (ap (λ (z : MediaOutcome). z.taken) outcome_here)

  longest_is : r.units.longest ≡ max 0 k
  unfolding grown_to
  longest_is = ap (λ (z : MediaOutcome). z.units.longest) outcome_here

  held_still : is_some r.units.object ≡ true
  unfolding grown_to
  held_still = ap (λ (z : MediaOutcome). is_some z.units.object) outcome_here

  pub can_lay : CanCommitPart st ob b i k
  can_lay =
      record {
        store =
            record {
              long = can_all_lem.store.long;
              index = can_all_lem.store.index;
              modest = can_all_lem.modest;
              packets = can_all_lem.store.packets;
            };
        area = area_small;
        long = long;
        grown = sym grown_is ∙ ap (λ v. m.object.length + v) (unit_length (declared_of b) long);
        room = omega (arith, can_all_lem.commit.room, longest_is);
      }

  after_is : place_after_of h.packet_id m h.sequence h.scramble_info r.header r.bad r.units ≡ grown_of m h.sequence k
  unfolding grown_to grown_of
  after_is =
      rw (outcome_here, can.clear, ← own_id st h.packet_id i mid.own)
      (place_with m h.sequence (be 4 b 4) mid.next y (middle_facts b can.unit).mpu t refl true refl (timed_of m.object k) refl m.stats.mfus
      (more m h.sequence (be 4 b 4) mid.next y (middle_facts b can.unit).mpu m.stats.mfus 0 refl))

  data_is : units_data (declared_of b) (units_of (declared_of b) y.timed y.aggregated) ≡ drop 22 (declared_of b)
  unfolding units_data
  data_is =
      let g = middle_facts b can.unit in
      rw (g.timed, g.single, one_unit (declared_of b) long) (append-nil (part_of (declared_of b) d) ∙ unit_data (declared_of b) long)

  pub part_pushed : (st' ob' : Bytes) → PartLaid st ob b i h.sequence k st' ob'
      → MediaPushed (lent st ot ob me ta) rows out (media_of h b) 0 0 0 (lent st' ot ob' me ta) rows out
  part_pushed st' ob' w =
      let done : Committed (i * l.mfu_area) l.pass_scrambled m h b ob rows out ob' rows out =
      commit_taken (i * l.mfu_area) l.pass_scrambled m r h b ob rows out can_all_lem.commit y (ap (λ (z : MediaOutcome). z.header) outcome_here) (ap (λ (z : MediaOutcome). z.taken) outcome_here) ob' rows out
      (middle_done y (i * l.mfu_area) m r h b ob rows out can_take_lem (middle_facts b can.unit).division held_still (declared_of b) refl ob'
      (w.laid ∙ ap (λ (z : Bytes). over (i * l.mfu_area + m.object.length) z ob) (sym data_is))) in
      rw answer_is at
      (pushed_yes st ot ob me ta h b rows out can.can l refl (Own i) own m place_here r refl a refl zero_is st' ob' rows out
      (record { commit = done; store = w.left ∙ ap (λ (z : Media). state_after st z (Own i)) (sym after_is) }))

-- ---- the code

module _ (st ot ob me ta : List ℕ) (h : Header) (b rows out : Bytes) (can : CanPushUnit middle_part (lent st ot ob me ta) h b)
    (u : ℕ) (eu : u ≡ be 2 b 0) (mpu : ℕ) (em : mpu ≡ be 4 b 4) (f : Option ℕ) (w : NextAt st h.packet_id h.sequence mpu f) (i : ℕ) (ef : f ≡ Some i) where
  place : NextAt st h.packet_id h.sequence mpu (Some i)
  place = rw ef at w

  pub can_grow : CanGrow st i (u - 20)
  can_grow =
      record {
        long = can.can.sound.there.long;
        index = place.1.1;
        area = (passed (limits_of st) (lengths_of (lent st ot ob me ta)) can.can.sound.limits).ranges.object.1;
        short = omega (arith, eu, (unit_facts middle_part b can.unit).there, can.can.long);
      }

  module _ (g : Option ℕ) (w2 : GrownAt st i (u - 20) g) (k : ℕ) (eg : g ≡ Some k) where
    grown : GrownAt st i (u - 20) (Some k)
    grown = rw eg at w2

    middle_here : MiddlePart (lent st ot ob me ta) h b i k
    middle_here =
        record {
          can = can;
          own = place.0;
          next = ap (λ v. is_next (media_at st i) h.sequence v) (sym em) ∙ place.1.0;
          grows = grown.0;
          grown = grown.1.0 ∙ ap (λ v. (media_at st i).object.length + (v - 20)) eu;
          room = grown.1.1;
        }

    pub can_lay_part : CanCommitPart st ob b i k
    can_lay_part = can_lay st ot ob me ta h b rows out i k middle_here

    pub part_told : (st' ob' : Bytes) → PartLaid st ob b i h.sequence k st' ob'
        → UnitPushed (lent st ot ob me ta) h b rows out Grown (lent st' ot ob' me ta) rows out
    part_told st' ob' p =
        record {
          same = λ e. true_not_false false (ap is_left e) refl;
          taken = λ n e. true_not_false true refl (ap is_grown e);
          grown = λ e. part_pushed st ot ob me ta h b rows out i k middle_here st' ob' p;
        }

-- ---- what is stored

module _ (l objects b : Bytes) (i k : ℕ) (can : CanCommitPart l objects b i k) (q : Bytes) (eq : q ≡ declared_of b) (d : Bytes) (ed : d ≡ drop 22 q) (area : ℕ) (ea : area ≡ be 8 l 24) where
  length_part : length d ≡ length (declared_of b) - 22
  length_part = ap length ed ∙ length-drop 22 q ∙ ap (λ (z : Bytes). length z - 22) eq

  area_is : area ≡ (limits_of l).mfu_area
  unfolding limits_of
  area_is = ea

  pub part_shorter : length d ≤ k
  part_shorter = omega (arith, length_part, can.grown)

  pub part_room : i * area + (k - length d) + length d ≤ length objects
  part_room = rw area_is (omega (arith, length_part, can.grown, can.room))

  pub part_laid : (n : ℕ) (objects' l' : Bytes) → objects' ≡ over (i * area + (k - length d)) d objects
      → l' ≡ state_after l (grown_of (media_at l i) n k) (Own i) → PartLaid l objects b i n k l' objects'
  part_laid n objects' l' e s =
      let from : k - length d ≡ (media_at l i).object.length = omega (arith, length_part, can.grown) in
      record {
        laid = e ∙ ap (λ v. over (i * area + v) d objects) from ∙ ap (λ v. over (i * v + (media_at l i).object.length) d objects) area_is
            ∙ ap (λ (z : Bytes). over (i * (limits_of l).mfu_area + (media_at l i).object.length) z objects) (ed ∙ ap (drop 22) eq);
        left = s;
      }
