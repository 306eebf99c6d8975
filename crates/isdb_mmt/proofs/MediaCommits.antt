-- The commit of a media packet: a payload whose units are taken, by their indicator; one that is passed on; and any other. Assumes
-- nothing.
use Rattle.std.specs.Prelude.{None, Some, Option, is_some}
use Rattle.std.proofs.Common.{◌≡◌, ℕ, ◌+◌, ◌-◌, ◌*◌, ◌≤◌, Bool, true, false, cond, not, ◌&&◌, ltb, List, [], ◌∷◌, ◌++◌, map, length, take, drop, sym, refl, ap, ◌∙◌, subst, append-nil, arith, length-append, length-drop, length-take, take_all, w64, Fits, ltb-false}
use Rattle.isdb_tlv.specs.Bytes.{be}
use Rattle.isdb_tlv.specs.Fields.{written}
use Rattle.isdb_tlv.specs.declared.mmtp.Header.{Header}
use Rattle.isdb_mmt.specs.Formats.Part.{part_of, part_at}
use Rattle.isdb_mmt.specs.Decoder.Packet.{Bytes, PayloadUnit, MpuPacket, header_in, payload_unit, payload_units, units_for, units_read, media_of, clear, readable}
use Rattle.isdb_mmt.specs.Formats.Mpu.{payload_header_fields, payload_header, declared_of, units_of}
use Rattle.isdb_mmt.specs.Decoder.Objects.{Mfu, Asset, Rec, grown, mpu_number, gap, after_units, delivered_by, after_headers, asset_after, tagged, passes, media_gives}
use Rattle.isdb_mmt.specs.Decoder.Needs.{held_length, units_need}
use Rattle.isdb_mmt.specs.Memory.Lent.{part, over}
use Rattle.isdb_mmt.specs.Memory.View.{given, mfu_of, asset_of_place}
use Rattle.isdb_mmt.specs.Formats.Mpu.{no_header}
use Rattle.isdb_mmt.specs.Pushes.Records.{object_for, row_size, row_fields, row_of, rows_from, data_from}
use Rattle.isdb_mmt.specs.Pushes.MediaPush.{held_over}
use Rattle.isdb_mmt.specs.Pushes.MediaEffect.{unit_object, object_or, with_length, with_each_unit, units_effect}
use Rattle.isdb_mmt.specs.Pushes.MediaPlace.{gap_in, normal_object, begun, start_of}
use Rattle.isdb_mmt.specs.Pushes.MediaOutcome.{outcome_with, outcome_of_units, units_outcome, outcome_by, media_outcome}
use Rattle.isdb_mmt.specs.Pushes.Giving.{unit_recs, Outputs, Gave}
use Rattle.isdb_mmt.specs.Pushes.MediaCommit.{OneFits, OnePut, data_in, units_data, CanAppend, starts_from, gives_from, CanCommit, CanTake, Committed, CanEnd, passed_unit, CanPass, passes_on}
use Rattle.isdb_mmt.specs.declared.mpu.FragmentType.{FragmentType}
use Rattle.isdb_mmt.specs.declared.mpu.FragmentType.TheVariants.{MpuMetadata, MovieFragmentMetadata, Mfu as mfu_type, Reserved}
use Rattle.isdb_mmt.specs.declared.mpu.FragmentationIndicator.{FragmentationIndicator}
use Rattle.isdb_mmt.specs.declared.mpu.FragmentationIndicator.TheVariants.{Complete, Head, Middle, Last}
use Rattle.isdb_mmt.specs.declared.mpu.PayloadHeader.{PayloadHeader}
use Rattle.isdb_mmt.specs.declared.mpu.Unit.{Unit as DataUnit}
use Rattle.isdb_mmt.specs.declared.decoder.media.Object.{Object}
use Rattle.isdb_mmt.specs.declared.decoder.media.Media.{Media}
use Rattle.isdb_mmt.specs.declared.decoder.reassembler.MediaEffect.{MediaEffect}
use Rattle.isdb_mmt.specs.declared.decoder.reassembler.MediaOutcome.{MediaOutcome}
use Rattle.isdb_mmt.proofs.Names.{true_not_false}
use Rattle.isdb_mmt.proofs.Lent.{length_part, over_none}
use Rattle.isdb_mmt.proofs.Areas.{held_same, held_grown}
use Rattle.isdb_mmt.proofs.EffectsModelled.{object_as, as_some, Told}
use Rattle.isdb_mmt.proofs.Placed.{start_object, start_zero}
use Rattle.isdb_mmt.proofs.MediaOutcomes.{outcome_is}
use Rattle.isdb_mmt.proofs.Gives.{complete_gives}
use Rattle.isdb_mmt.proofs.MediaUnits.{unit_as, units_held, complete_held, head_gives, head_held, head_fits, middle_gives, middle_none, middle_held, last_held, Ended, last_given}

-- ---- the one record of a packet

pub can_end : (at : ℕ) (p : Media) (t : MediaEffect) (q objects rows bytes : Bytes) → CanEnd at p t q objects rows bytes
    → (a b : Bytes) → a ≡ part at p.object.length objects → b ≡ part_of q t.last → OneFits a b rows bytes
can_end at p t q objects rows bytes h a b ea eb = rw (ea, eb) h.fits

pub end_is : (id n at : ℕ) (p : Media) (t : MediaEffect) (q objects rows bytes rows' bytes' : Bytes) (s : MediaEffect) → s ≡ start_of p n
    → (o : Object) → o ≡ with_length t.bytes (object_or s.object) → (a b : Bytes) → a ≡ part at p.object.length objects → b ≡ part_of q t.last
    → OnePut id false o a b rows bytes rows' bytes'
    → OnePut id false (with_length t.bytes (object_or (start_of p n).object)) (part at p.object.length objects) (part_of q t.last) rows bytes rows' bytes'
end_is id n at p t q objects rows bytes rows' bytes' s es o eo a b ea eb w =
    let e : o ≡ with_length t.bytes (object_or (start_of p n).object) = eo ∙ ap (λ (x : MediaEffect). with_length t.bytes (object_or x.object)) es in
    rw (← e, ← ea, ← eb) w

whole_rest : (b : Bytes) → take (length b - 8) (drop 8 b) ≡ drop 8 b
whole_rest b = take_all (length b - 8) (drop 8 b) (rw length-drop (omega arith))

pub can_pass : (b rows bytes : Bytes) → CanPass b rows bytes → (a c : Bytes) → a ≡ take (length b - 8) (drop 8 b) → c ≡ take 0 (drop 0 b) → OneFits a c rows bytes
can_pass b rows bytes h a c ea ec =
    let k : length a ≡ length b - 8 = ap length (ea ∙ whole_rest b) ∙ length-drop 8 b in
    let z : length c ≡ 0 = ap length ec in
    record { row = h.row; bytes = omega (arith, k, z, h.bytes) }

pub pass_is : (id mpu : ℕ) (rap : Bool) (b rows bytes rows' bytes' : Bytes) (o : Object) → o ≡ unit_object mpu rap (passed_unit (length b)) (length b - 8)
    → (a c : Bytes) → a ≡ take (length b - 8) (drop 8 b) → c ≡ take 0 (drop 0 b) → OnePut id true o a c rows bytes rows' bytes'
    → OnePut id true (unit_object mpu rap (passed_unit (length b)) (length b - 8)) (drop 8 b) [] rows bytes rows' bytes'
pass_is id mpu rap b rows bytes rows' bytes' o eo a c ea ec w =
    let e1 : a ≡ drop 8 b = ea ∙ whole_rest b in
    let e2 : c ≡ [] = ec in
    rw (← eo, ← e1, ← e2) w

-- ---- what the look says

module _ (t : MediaEffect) (y rap : Bool) (b : Bytes) where
  header_told : (x : PayloadHeader) (o : Option (List DataUnit))
      → (outcome_of_units t x (units_effect x.fragmentation x.mpu_sequence_number rap (declared_of b) t o)).header ≡ Some x
  unfolding units_effect
  header_told x None = refl
  header_told x (Some us) = refl

  header_kind : (x : PayloadHeader) (k : FragmentType) → (units_outcome t x rap b k).header ≡ Some x
  unfolding units_outcome
  header_kind x mfu_type = header_told x (units_of (declared_of b) x.timed x.aggregated)
  header_kind x MpuMetadata = refl
  header_kind x MovieFragmentMetadata = refl
  header_kind x (Reserved c) = refl

  header_either : (z : Bool) (x : PayloadHeader) → (cond z (outcome_with false false (Some x) t) (units_outcome t x rap b x.fragment_type)).header ≡ Some x
  header_either true x = refl
  header_either false x = header_kind x x.fragment_type

  header_of_lem : (k : Option PayloadHeader) → (outcome_by t y rap b k).header ≡ k
  unfolding outcome_by
  header_of_lem None = refl
  header_of_lem (Some x) = header_either y x

  -- the units of a payload with the header `x`, where they are taken
  pub record TakenUnits (x : PayloadHeader) (s : MediaEffect) : Type 0 where
    pub us : List DataUnit
    pub units : units_of (declared_of b) x.timed x.aggregated ≡ Some us
    pub kind : x.fragment_type ≡ mfu_type
    pub survey : s ≡ with_each_unit x.fragmentation x.mpu_sequence_number rap (declared_of b) t us

  module _ (x : PayloadHeader) where
    taken_told : (o : Option (List DataUnit)) → units_of (declared_of b) x.timed x.aggregated ≡ o → x.fragment_type ≡ mfu_type
        → (outcome_of_units t x (units_effect x.fragmentation x.mpu_sequence_number rap (declared_of b) t o)).taken ≡ true
        → TakenUnits x (outcome_of_units t x (units_effect x.fragmentation x.mpu_sequence_number rap (declared_of b) t o)).units
    unfolding units_effect
    taken_told None e k h = true_not_false false h refl
    taken_told (Some us) e k h = record { us = us; units = e; kind = k; survey = refl }

    taken_kind : (k : FragmentType) → x.fragment_type ≡ k → (units_outcome t x rap b k).taken ≡ true → TakenUnits x (units_outcome t x rap b k).units
    unfolding units_outcome
    taken_kind mfu_type e h = taken_told (units_of (declared_of b) x.timed x.aggregated) refl e h
    taken_kind MpuMetadata e h = true_not_false false h refl
    taken_kind MovieFragmentMetadata e h = true_not_false false h refl
    taken_kind (Reserved c) e h = true_not_false false h refl

    taken_either : (z : Bool) → (cond z (outcome_with false false (Some x) t) (units_outcome t x rap b x.fragment_type)).taken ≡ true
        → (z ≡ false) × TakenUnits x (cond z (outcome_with false false (Some x) t) (units_outcome t x rap b x.fragment_type)).units
    taken_either true h = true_not_false false h refl
    taken_either false h = (refl, taken_kind x.fragment_type refl h)

    taken_by : (outcome_by t y rap b (Some x)).taken ≡ true → (y ≡ false) × TakenUnits x (outcome_by t y rap b (Some x)).units
    unfolding outcome_by
    taken_by h = taken_either y h

pub outcome_header : (p : Media) (n : ℕ) (y rap : Bool) (b : Bytes) (r : MediaOutcome) → r ≡ media_outcome p n y rap b → r.header ≡ payload_header b
unfolding media_outcome
outcome_header p n y rap b r e = ap (λ (x : MediaOutcome). x.header) e ∙ header_of_lem (start_of p n) y rap b (payload_header b)

-- ---- units that are not taken

clear_none : (y : Bool) → clear y None ≡ []
unfolding clear
clear_none true = refl
clear_none false = refl

module _ (t : MediaEffect) (rap : Bool) (b : Bytes) where
  idle_told : (x : PayloadHeader) (o : Option (List DataUnit))
      → (outcome_of_units t x (units_effect x.fragmentation x.mpu_sequence_number rap (declared_of b) t o)).taken ≡ false
      → clear false (payload_units x (declared_of b) o) ≡ []
  unfolding units_effect clear
  idle_told x None h = refl
  idle_told x (Some us) h = true_not_false true refl h

  idle_kind : (x : PayloadHeader) (k : FragmentType) → (units_outcome t x rap b k).taken ≡ false → clear false (units_for x k (declared_of b)) ≡ []
  unfolding units_outcome clear
  idle_kind x mfu_type h = idle_told x (units_of (declared_of b) x.timed x.aggregated) h
  idle_kind x MpuMetadata h = refl
  idle_kind x MovieFragmentMetadata h = refl
  idle_kind x (Reserved c) h = refl

  idle_either : (y : Bool) (x : PayloadHeader) → (cond y (outcome_with false false (Some x) t) (units_outcome t x rap b x.fragment_type)).taken ≡ false
      → clear y (units_for x x.fragment_type (declared_of b)) ≡ []
  unfolding clear
  idle_either true x h = refl
  idle_either false x h = idle_kind x x.fragment_type h

  idle_by : (y : Bool) (k : Option PayloadHeader) → (outcome_by t y rap b k).taken ≡ false → clear y (units_read b (header_in k)) ≡ []
  unfolding outcome_by
  idle_by y None h = clear_none y
  idle_by y (Some x) h = idle_either y x h

-- ---- the object's area

abbrev bytes_held : Option Mfu → Bytes
bytes_held None = []
bytes_held (Some g) = g.bytes

module _ (at : ℕ) (p : Media) (h : Header) (b objects : Bytes) (fits : p.held ≡ true → at + p.object.length ≤ length objects) where
  abbrev m : MpuPacket
  m = media_of h b

  abbrev there : Bytes
  there = part at p.object.length objects

  abbrev before : Asset
  before = starts_from at p objects

  pub long_there : p.held ≡ true → length there ≡ p.object.length
  long_there t = length_part at p.object.length objects (fits t)

  pub held_was : (g : Mfu) → (after_headers before m).held ≡ Some g → (p.held ≡ true) × (g.bytes ≡ there)
  unfolding after_headers asset_of_place mfu_of
  held_was g e = go (gap before.number m.number) p.held e
    where
      go : (z y : Bool) → cond z None (given y (mfu_of p.object there)) ≡ Some g → (y ≡ true) × (g.bytes ≡ there)
      go true y d = true_not_false false (ap is_some d) refl
      go false true d = (refl, sym (ap bytes_held d))
      go false false d = true_not_false false (ap is_some d) refl

  -- what is held before the units lies there
  pub unchanged : held_over at (after_headers before m).held objects ≡ objects
  unchanged = go (after_headers before m).held refl
    where
      go : (o : Option Mfu) → (after_headers before m).held ≡ o → held_over at o objects ≡ objects
      go None e = refl
      go (Some g) e = held_same at p.object.length objects g (held_was g e).1

start_last : (p : Media) (n : ℕ) → (start_of p n).last ≡ part_at 0 0
unfolding start_of
start_last p n = go p.held (gap_in p n)
  where
    go : (x g : Bool) → (cond (not x) (begun None 0) (cond g (begun None 1) (begun (Some (normal_object p.object)) 0))).last ≡ part_at 0 0
    go true true = refl
    go true false = refl
    go false g = refl

-- one record is its row and its data
pub one_row : (r : Rec) → rows_from 0 (r ∷ []) ≡ row_of r 0
unfolding rows_from
one_row r = append-nil (row_of r 0)

pub one_data : (r : Rec) → data_from (r ∷ []) ≡ r.mfu.bytes
unfolding data_from
one_data r = append-nil r.mfu.bytes

no_rows : (rows : Bytes) → rows ≡ over 0 (rows_from 0 []) rows
unfolding rows_from
no_rows rows = sym (over_none 0 rows)

no_data : (bytes : Bytes) → bytes ≡ over 0 (data_from []) bytes
unfolding data_from
no_data bytes = sym (over_none 0 bytes)

none_held : (at : ℕ) (l : Bytes) (o : Option Mfu) → is_some o ≡ false → held_over at o l ≡ l
none_held at l None k = refl
none_held at l (Some g) k = true_not_false true refl k

nothing : (o : Option Mfu) → o ≡ None → is_some o ≡ false
nothing o e = ap is_some e

length_grown : (g : Mfu) (d : Bytes) → length (grown g d).bytes ≡ length g.bytes + length d
unfolding grown
length_grown g d = length-append g.bytes d

no_length : {A : Type 0} (xs : List A) → length xs ≡ 0 → xs ≡ []
no_length [] e = refl
no_length (x ∷ xs) e = absurd (omega arith)

-- ---- units that are taken

module _ (x : PayloadHeader) (at : ℕ) (p : Media) (r : MediaOutcome) (h : Header) (b objects rows bytes : Bytes) (can : CanTake x at p r h b objects rows bytes) where
  abbrev q : Bytes
  q = declared_of b

  abbrev t0 : MediaEffect
  t0 = start_of p h.sequence

  abbrev pk : MpuPacket
  pk = media_of h b

  abbrev a0 : Asset
  a0 = starts_from at p objects

  abbrev a1 : Asset
  a1 = after_headers a0 pk

  fits : p.held ≡ true → at + p.object.length ≤ length objects
  fits = can.can.held

  outcome_by_lem : r ≡ outcome_by t0 h.scramble_info h.rap b (payload_header b)
  unfolding media_outcome
  outcome_by_lem = can.can.look

  header_is : payload_header b ≡ Some x
  header_is =
      sym (header_of_lem t0 h.scramble_info h.rap b (payload_header b)) ∙ ap (λ (y : MediaOutcome). y.header) (sym outcome_by_lem) ∙ can.header

  outcome_x : r ≡ outcome_by t0 h.scramble_info h.rap b (Some x)
  outcome_x = outcome_by_lem ∙ ap (outcome_by t0 h.scramble_info h.rap b) header_is

  taken_x : (h.scramble_info ≡ false) × TakenUnits t0 h.scramble_info h.rap b x (outcome_by t0 h.scramble_info h.rap b (Some x)).units
  taken_x = taken_by t0 h.scramble_info h.rap b x (ap (λ (y : MediaOutcome). y.taken) (sym outcome_x) ∙ can.taken)

  abbrev us : List DataUnit
  us = taken_x.1.us

  effect_is : r.units ≡ with_each_unit x.fragmentation x.mpu_sequence_number h.rap q t0 us
  effect_is = ap (λ (y : MediaOutcome). y.units) outcome_x ∙ taken_x.1.survey

  mpu_is : mpu_number pk.header ≡ x.mpu_sequence_number
  unfolding media_of
  mpu_is = ap (λ (k : Option PayloadHeader). mpu_number (header_in k)) header_is

  payload_units_are : readable pk ≡ map (payload_unit x q) us
  unfolding readable media_of clear
  payload_units_are =
      ap (λ y. clear y (units_read b (header_in (payload_header b)))) taken_x.0
      ∙ ap (λ (k : Option PayloadHeader). clear false (units_read b (header_in k))) header_is
      ∙ ap (λ (k : FragmentType). clear false (units_for x k q)) taken_x.1.kind
      ∙ ap (λ (o : Option (List DataUnit)). clear false (payload_units x q o)) taken_x.1.units

  start_there : t0.object ≡ object_as a1.held
  unfolding media_of
  start_there = start_object p (part at p.object.length objects) pk (long_there at p h b objects fits)

  zeros : (t0.records ≡ 0) × ((t0.bytes ≡ 0) × (t0.longest ≡ 0))
  unfolding media_of
  zeros = start_zero p (part at p.object.length objects) pk (long_there at p h b objects fits)

  told : Told pk t0 a1 r.units (readable pk)
  told =
      subst (λ (y : MediaOutcome). Told pk t0 a1 y.units (readable pk)) (sym can.can.look)
      (outcome_is 0 p (part at p.object.length objects) h b (long_there at p h b objects fits)).units

  -- the object after the units, and what they give
  abbrev held_by_lem : FragmentationIndicator → Option Mfu
  held_by_lem f = (after_units pk a1 (map (unit_as f q) us)).held

  abbrev given_by : FragmentationIndicator → List Mfu
  given_by f = delivered_by pk a1 (map (unit_as f q) us)

  area_is : held_over at (asset_after a0 pk).held objects ≡ held_over at (held_by_lem x.fragmentation) objects
  unfolding asset_after
  area_is = ap (λ (ps : List PayloadUnit). held_over at (after_units pk a1 ps).held objects) payload_units_are

  gives_is : gives_from at false p h b objects ≡ tagged pk.id (given_by x.fragmentation)
  unfolding media_gives passes
  gives_is = ap (λ (ps : List PayloadUnit). tagged pk.id (delivered_by pk a1 ps)) payload_units_are

  -- nothing handed out
  module _ (f : FragmentationIndicator) (e : x.fragmentation ≡ f) where
    gives_none : given_by f ≡ [] → gives_from at false p h b objects ≡ []
    unfolding tagged
    gives_none z = gives_is ∙ ap (λ (k : FragmentationIndicator). tagged pk.id (given_by k)) e ∙ ap (tagged pk.id) z

    silent : given_by f ≡ [] → (objects' : Bytes) → held_over at (held_by_lem f) objects ≡ objects' → Committed at false p h b objects rows bytes objects' rows bytes
    silent z objects' w =
        let n = gives_none z in
        record {
          area = sym (area_is ∙ ap (λ (k : FragmentationIndicator). held_over at (held_by_lem k) objects) e ∙ w);
          rows_out = no_rows rows ∙ ap (λ (rs : List Rec). over 0 (rows_from 0 rs) rows) (sym n);
          data_out = no_data bytes ∙ ap (λ (rs : List Rec). over 0 (data_from rs) bytes) (sym n);
        }

  still : held_over at a1.held objects ≡ objects
  still = unchanged at p h b objects fits

  -- ---- Complete
  module _ (e : x.fragmentation ≡ Complete) (q' : Bytes) (eq : q' ≡ declared_of b) where
    abbrev recs : List Rec
    recs = unit_recs h.packet_id x.mpu_sequence_number h.rap q' (units_of q' x.timed x.aggregated)

    recs_are : gives_from at false p h b objects ≡ recs
    unfolding media_of
    recs_are =
        gives_is
        ∙ complete_gives pk x q e us a1
        ∙ ap (λ n. unit_recs h.packet_id n h.rap q (Some us)) mpu_is
        ∙ ap (λ (o : Option (List DataUnit)). unit_recs h.packet_id x.mpu_sequence_number h.rap q o) (sym taken_x.1.units)
        ∙ ap (λ (y : Bytes). unit_recs h.packet_id x.mpu_sequence_number h.rap y (units_of y x.timed x.aggregated)) (sym eq)

    pub complete_can : Outputs q' x.timed x.aggregated h.packet_id x.mpu_sequence_number h.rap rows bytes
    complete_can =
        record {
          long = rw eq (omega (arith, length-take (be 2 b 0 + 2) b, can.can.can.long));
          whole = rw eq (ap is_some taken_x.1.units);
          rows_fit = rw recs_are at can.can.rows_fit;
          data_fit = rw recs_are at can.can.data_fit;
        }

    pub complete_done : (rows' bytes' : Bytes)
        → Gave q' x.timed x.aggregated h.packet_id x.mpu_sequence_number h.rap rows bytes rows' bytes'
        → Committed at false p h b objects rows bytes objects rows' bytes'
    complete_done rows' bytes' w =
        record {
          area =
              sym (area_is ∙ ap (λ (k : FragmentationIndicator). held_over at (held_by_lem k) objects) e
              ∙ complete_held pk q at objects us a1 still);
          rows_out = w.rows_are ∙ ap (λ (rs : List Rec). over 0 (rows_from 0 rs) rows) (sym recs_are);
          data_out = w.data_are ∙ ap (λ (rs : List Rec). over 0 (data_from rs) bytes) (sym recs_are);
        }

  -- ---- Head
  module _ (e : x.fragmentation ≡ Head) (q' : Bytes) (eq : q' ≡ declared_of b) (d : Bytes) (ed : d ≡ part_of q' r.units.last) where
    effect_head : r.units ≡ with_each_unit Head x.mpu_sequence_number h.rap q t0 us
    effect_head = effect_is ∙ ap (λ (f : FragmentationIndicator). with_each_unit f x.mpu_sequence_number h.rap q t0 us) e

    last_is : d ≡ part_of q (with_each_unit Head x.mpu_sequence_number h.rap q t0 us).last
    last_is = ed ∙ ap (λ (y : Bytes). part_of y r.units.last) eq ∙ ap (λ (s : MediaEffect). part_of q s.last) effect_head

    none_first : part_of q t0.last ≡ []
    none_first = ap (part_of q) (start_last p h.sequence)

    pub head_can : 0 * 0 + at + length d ≤ length objects
    head_can =
        let k : length (part_of q t0.last) ≡ 0 = ap length none_first in
        let f = head_fits pk q at objects x.mpu_sequence_number h.rap us t0 (omega (arith, k)) in
        let n : r.units.longest ≡ (with_each_unit Head x.mpu_sequence_number h.rap q t0 us).longest = ap (λ (s : MediaEffect). s.longest) effect_head in
        omega (arith, ap length last_is, f, n, can.can.room)

    pub head_done : (objects' : Bytes) → objects' ≡ over (0 * 0 + at) d objects → Committed at false p h b objects rows bytes objects' rows bytes
    head_done objects' w =
        let z : 0 * 0 + at ≡ at = omega arith in
        let s : held_over at a1.held objects ≡ over at (part_of q t0.last) objects =
        still ∙ sym (over_none at objects) ∙ ap (λ (y : Bytes). over at y objects) (sym none_first) in
        silent Head e (head_gives pk q at objects us a1) objects'
        (head_held pk q at objects x.mpu_sequence_number h.rap us a1 t0 s
        ∙ ap (λ (y : Bytes). over at y objects) (sym last_is)
        ∙ ap (λ n. over n d objects) (sym z)
        ∙ sym w)

  -- ---- Middle
  module _ (e : x.fragmentation ≡ Middle) where
    held_told : is_some r.units.object ≡ is_some (held_by_lem Middle)
    held_told =
        ap (λ (o : Option Object). is_some o) told.object ∙ as_some (after_units pk a1 (readable pk)).held ∙ ap (λ (ps : List PayloadUnit). is_some (after_units pk a1 ps).held) payload_units_are ∙ ap (λ (k : FragmentationIndicator). is_some (held_by_lem k)) e

    pub middle_idle : is_some r.units.object ≡ false → Committed at false p h b objects rows bytes objects rows bytes
    middle_idle z = silent Middle e (middle_gives pk q at objects us a1) objects (none_held at objects (held_by_lem Middle) (sym held_told ∙ z))

    module _ (y : is_some r.units.object ≡ true) (q' : Bytes) (eq : q' ≡ declared_of b) where
      record Grows : Type 0 where
        pub object : Mfu
        pub was : a1.held ≡ Some object
        pub after : held_by_lem Middle ≡ Some (grown object (data_in q us))
        pub long : length object.bytes ≡ p.object.length
        pub there : object.bytes ≡ part at p.object.length objects

      grows : Grows
      grows = go a1.held refl
        where
          go : (o : Option Mfu) → a1.held ≡ o → Grows
          go None k = true_not_false (is_some (held_by_lem Middle)) (sym held_told ∙ y) (nothing (held_by_lem Middle) (middle_none pk q at objects us a1 k))
          go (Some g) k =
              let w = held_was at p h b objects fits g k in
              record {
                object = g;
                was = k;
                after = middle_held pk q at objects us a1 g k (sym held_told ∙ y);
                long = ap length w.1 ∙ long_there at p h b objects fits w.0;
                there = w.1;
              }

      data_is : units_data q' (units_of q' x.timed x.aggregated) ≡ data_in q us
      unfolding units_data
      data_is = rw eq (ap (units_data q) taken_x.1.units)

      room_grown : at + p.object.length + length (data_in q us) ≤ length objects
      room_grown =
          let g = grows in
          let w = held_was at p h b objects fits g.object g.was in
          let k = units_held pk (map (unit_as Middle q) us) a1 in
          let n : held_length (held_by_lem Middle) ≡ p.object.length + length (data_in q us) = grown_length_lem g in
          let o : held_length a1.held ≡ p.object.length = ap held_length g.was ∙ g.long in
          let u : units_need pk a1 (readable pk) ≡ units_need pk a1 (map (unit_as Middle q) us) =
          ap (units_need pk a1) payload_units_are ∙ ap (λ (f : FragmentationIndicator). units_need pk a1 (map (unit_as f q) us)) e in
          omega (arith, k, n, o, u, told.longest, zeros.1.1, can.can.room, fits w.0)
        where
          grown_length_lem : (g : Grows) → held_length (held_by_lem Middle) ≡ p.object.length + length (data_in q us)
          grown_length_lem g = ap held_length g.after ∙ length_grown g.object (data_in q us) ∙ ap (λ n. n + length (data_in q us)) g.long

      pub middle_add : Fits w64 (at + p.object.length)
      middle_add =
          let g = grows in
          let w = held_was at p h b objects fits g.object g.was in
          record { fits = omega (arith, can.can.low, can.can.can.object w.0) }

      pub middle_can : CanAppend q' x.timed x.aggregated (at + p.object.length) objects
      middle_can =
          let g = grows in
          let w = held_was at p h b objects fits g.object g.was in
          record {
            long = rw eq (omega (arith, length-take (be 2 b 0 + 2) b, can.can.can.long));
            whole = rw eq (ap is_some taken_x.1.units);
            fits = omega (arith, ap length data_is, room_grown);
            low = omega (arith, can.can.low, can.can.can.object w.0);
          }

      pub middle_done : (objects' : Bytes)
          → objects' ≡ over (at + p.object.length) (units_data q' (units_of q' x.timed x.aggregated)) objects
          → Committed at false p h b objects rows bytes objects' rows bytes
      middle_done objects' w =
          let g = grows in
          silent Middle e (middle_gives pk q at objects us a1) objects'
          (ap (λ (o : Option Mfu). held_over at o objects) g.after
          ∙ held_grown at p.object.length objects (data_in q us) g.object g.there room_grown
          ∙ ap (λ (z : Bytes). over (at + p.object.length) z objects) (sym data_is)
          ∙ sym w)

  -- ---- Last
  module _ (e : x.fragmentation ≡ Last) where
    effect_last : r.units ≡ with_each_unit Last x.mpu_sequence_number h.rap q t0 us
    effect_last = effect_is ∙ ap (λ (f : FragmentationIndicator). with_each_unit f x.mpu_sequence_number h.rap q t0 us) e

    given_last : delivered_by pk a1 (readable pk) ≡ given_by Last
    given_last = ap (delivered_by pk a1) payload_units_are ∙ ap given_by e

    area_last : held_over at (held_by_lem Last) objects ≡ objects
    area_last = last_held pk q at objects us a1 still

    pub last_idle : r.units.records ≡ 0 → Committed at false p h b objects rows bytes objects rows bytes
    last_idle z =
        let n : length (given_by Last) ≡ 0 = omega (arith, ap length given_last, told.records, zeros.0, z) in
        silent Last e (no_length (given_by Last) n) objects area_last

    module _ (ne : r.units.records ≡ 0 → ⊥) (q' : Bytes) (eq : q' ≡ declared_of b) where
      end : Ended pk q at objects us a1 t0 r.units
      end =
          subst (λ (s : MediaEffect). Ended pk q at objects us a1 t0 s) (sym effect_last)
          (last_given pk q at objects x.mpu_sequence_number h.rap us a1 t0 start_there zeros.0
          (λ z. ne (ap (λ (s : MediaEffect). s.records) effect_last ∙ z)))

      abbrev d : Bytes
      d = part_of q r.units.last

      abbrev g : Mfu
      g = end.object

      abbrev given_rec : Rec
      given_rec = record { id = h.packet_id; scrambled = false; mfu = grown g d }

      recs_last : gives_from at false p h b objects ≡ given_rec ∷ []
      unfolding tagged media_of
      recs_last = gives_is ∙ ap (λ (f : FragmentationIndicator). tagged h.packet_id (given_by f)) e ∙ ap (tagged h.packet_id) end.gives

      there_last : g.bytes ≡ part at p.object.length objects
      there_last = (held_was at p h b objects fits g end.was).1

      object_last : object_for (grown g d) ≡ with_length r.units.bytes (object_or t0.object)
      unfolding grown
      object_last =
          let k : length (g.bytes ++ d) ≡ r.units.bytes = length-append g.bytes d ∙ omega (arith, end.bytes, zeros.1.0) in
          ap (λ n. with_length n (object_for g)) k
          ∙ ap (with_length r.units.bytes) (sym (ap object_or (start_there ∙ ap object_as end.was)))

      d_is : part_of q' r.units.last ≡ d
      d_is = ap (λ (y : Bytes). part_of y r.units.last) eq

      pub last_can : CanEnd at p r.units q' objects rows bytes
      last_can =
          let n : row_size * 1 ≤ length rows = rw recs_last at can.can.rows_fit in
          let k : length (grown g d).bytes + 0 ≤ length bytes = rw recs_last at can.can.data_fit in
          record {
            small = omega (arith, end.bytes, end.most, zeros.1.0);
            fits =
                record {
                  row = omega (arith, n);
                  bytes = omega (arith, k, length_grown g d, ap length d_is, ap length there_last);
                };
          }

      pub last_done : (rows' bytes' : Bytes)
          → OnePut h.packet_id false (with_length r.units.bytes (object_or t0.object)) (part at p.object.length objects) (part_of q' r.units.last) rows bytes rows' bytes'
          → Committed at false p h b objects rows bytes objects rows' bytes'
      unfolding grown
      last_done rows' bytes' w =
          record {
            area = sym (area_is ∙ ap (λ (k : FragmentationIndicator). held_over at (held_by_lem k) objects) e ∙ area_last);
            rows_out =
                w.row_is
                ∙ ap (λ (o : Object). over 0 (written (row_fields h.packet_id false o 0)) rows) (sym object_last)
                ∙ ap (λ (y : Bytes). over 0 y rows) (sym (one_row given_rec))
                ∙ ap (λ (rs : List Rec). over 0 (rows_from 0 rs) rows) (sym recs_last);
            data_out =
                w.data_is
                ∙ ap (λ (y : Bytes). over 0 (y ++ part_of q' r.units.last) bytes) (sym there_last)
                ∙ ap (λ (y : Bytes). over 0 (g.bytes ++ y) bytes) d_is
                ∙ ap (λ (y : Bytes). over 0 y bytes) (sym (one_data given_rec))
                ∙ ap (λ (rs : List Rec). over 0 (data_from rs) bytes) (sym recs_last);
          }

-- ---- the commit

abbrev is_header : Option PayloadHeader → Bool
is_header None = false
is_header (Some x) = true

module _ {A : Type 0} (a : A) where
  passes_no : (pass y : Bool) (k : Option PayloadHeader) → passes_on pass y k ≡ false → cond (pass && (y && is_some (header_in k))) (a ∷ []) [] ≡ []
  unfolding passes_on
  passes_no true true None e = refl
  passes_no true false None e = refl
  passes_no false y None e = refl
  passes_no true true (Some x) e = true_not_false true refl e
  passes_no true false (Some x) e = refl
  passes_no false y (Some x) e = refl

  passes_yes : (pass y : Bool) (k : Option PayloadHeader) → passes_on pass y k ≡ true → cond (pass && (y && is_some (header_in k))) (a ∷ []) [] ≡ a ∷ []
  unfolding passes_on
  passes_yes pass y None e = true_not_false false e refl
  passes_yes true true (Some x) e = refl
  passes_yes true false (Some x) e = true_not_false false e refl
  passes_yes false y (Some x) e = true_not_false false e refl

clear_passes : (pass y : Bool) (k : Option PayloadHeader) → y ≡ false → passes_on pass y k ≡ false
unfolding passes_on
clear_passes pass y None e = refl
clear_passes true y (Some x) e = e
clear_passes false y (Some x) e = refl

header_long : (b : Bytes) (x : PayloadHeader) → payload_header b ≡ Some x → 8 ≤ length b
unfolding payload_header
header_long b x e = go (ltb (length b) 2) (ltb (length b) (be 2 b 0 + 2)) (ltb (length b) 8) refl e
  where
    go : (u v w : Bool) → ltb (length b) 8 ≡ w → cond u None (cond v None (cond w None (Some (payload_header_fields b)))) ≡ Some x → 8 ≤ length b
    go true v w k d = true_not_false false (ap is_header d) refl
    go false true w k d = true_not_false false (ap is_header d) refl
    go false false true k d = true_not_false false (ap is_header d) refl
    go false false false k d = ltb-false (length b) 8 k

module _ (pass : Bool) (h : Header) (b : Bytes) where
  abbrev pub passed_rec : Rec
  passed_rec =
      record {
        id = h.packet_id;
        scrambled = true;
        mfu =
            record {
              mpu = mpu_number (header_in (payload_header b));
              rap = h.rap;
              mfu = None;
              item_id = None;
              bytes = drop 8 b;
            };
      }

  pub not_passed : passes_on pass h.scramble_info (payload_header b) ≡ false → passes pass (media_of h b) ≡ []
  unfolding passes media_of
  not_passed e = passes_no passed_rec pass h.scramble_info (payload_header b) e

  pub is_passed : passes_on pass h.scramble_info (payload_header b) ≡ true → passes pass (media_of h b) ≡ passed_rec ∷ []
  unfolding passes media_of
  is_passed e = passes_yes passed_rec pass h.scramble_info (payload_header b) e

module _ (at : ℕ) (pass : Bool) (p : Media) (r : MediaOutcome) (h : Header) (b objects rows bytes : Bytes) (can : CanCommit at pass p r h b objects rows bytes) where
  abbrev t0' : MediaEffect
  t0' = start_of p h.sequence

  abbrev pk' : MpuPacket
  pk' = media_of h b

  abbrev a0' : Asset
  a0' = starts_from at p objects

  abbrev scrambled : Bool
  scrambled = h.scramble_info

  outcome_with_by : r ≡ outcome_by t0' scrambled h.rap b (payload_header b)
  unfolding media_outcome
  outcome_with_by = can.look

  header_here : r.header ≡ payload_header b
  header_here = ap (λ (y : MediaOutcome). y.header) outcome_with_by ∙ header_of_lem t0' scrambled h.rap b (payload_header b)

  -- units that are taken are clear
  module _ (x : PayloadHeader) (eh : r.header ≡ Some x) (et : r.taken ≡ true) where
    is_clear : scrambled ≡ false
    is_clear =
        (taken_by t0' scrambled h.rap b x
        (ap (λ (k : Option PayloadHeader). (outcome_by t0' scrambled h.rap b k).taken) (sym (sym header_here ∙ eh)) ∙ ap (λ (y : MediaOutcome). y.taken) (sym outcome_with_by) ∙ et)).0

    same_gives : gives_from at pass p h b objects ≡ gives_from at false p h b objects
    unfolding media_gives passes
    same_gives =
        ap (λ (rs : List Rec). rs ++ tagged pk'.id (delivered_by pk' (after_headers a0' pk') (readable pk')))
        (not_passed pass h b (clear_passes pass scrambled (payload_header b) is_clear))

    pub can_take : CanTake x at p r h b objects rows bytes
    can_take =
        record {
          can =
              record {
                look = can.look;
                can = can.can;
                low = can.low;
                held = can.held;
                room = can.room;
                rows_fit = rw same_gives at can.rows_fit;
                data_fit = rw same_gives at can.data_fit;
              };
          header = eh;
          taken = et;
        }

    pub commit_taken : (objects' rows' bytes' : Bytes) → Committed at false p h b objects rows bytes objects' rows' bytes'
        → Committed at pass p h b objects rows bytes objects' rows' bytes'
    commit_taken objects' rows' bytes' w =
        record {
          area = w.area;
          rows_out = w.rows_out ∙ ap (λ (rs : List Rec). over 0 (rows_from 0 rs) rows) (sym same_gives);
          data_out = w.data_out ∙ ap (λ (rs : List Rec). over 0 (data_from rs) bytes) (sym same_gives);
        }

  -- no units
  module _ (et : r.taken ≡ false) where
    none_read : readable pk' ≡ []
    unfolding readable media_of
    none_read = idle_by t0' h.rap b scrambled (payload_header b) (ap (λ (y : MediaOutcome). y.taken) (sym outcome_with_by) ∙ et)

    area_stays : objects ≡ held_over at (asset_after a0' pk').held objects
    unfolding asset_after after_units
    area_stays =
        sym (ap (λ (ps : List PayloadUnit). held_over at (after_units pk' (after_headers a0' pk') ps).held objects) none_read ∙ unchanged at p h b objects can.held)

    gives_passes : gives_from at pass p h b objects ≡ passes pass pk'
    unfolding media_gives delivered_by tagged
    gives_passes =
        ap (λ (ps : List PayloadUnit). passes pass pk' ++ tagged pk'.id (delivered_by pk' (after_headers a0' pk') ps)) none_read ∙ append-nil (passes pass pk')

    idle_when : passes_on pass scrambled (payload_header b) ≡ false → Committed at pass p h b objects rows bytes objects rows bytes
    idle_when e =
        let n : gives_from at pass p h b objects ≡ [] = gives_passes ∙ not_passed pass h b e in
        record {
          area = area_stays;
          rows_out = no_rows rows ∙ ap (λ (rs : List Rec). over 0 (rows_from 0 rs) rows) (sym n);
          data_out = no_data bytes ∙ ap (λ (rs : List Rec). over 0 (data_from rs) bytes) (sym n);
        }

    module _ (x : PayloadHeader) (eh : r.header ≡ Some x) (f : Bool) (ef : f ≡ passes_on pass scrambled (Some x)) where
      passed_here : f ≡ passes_on pass scrambled (payload_header b)
      passed_here = ef ∙ ap (passes_on pass scrambled) (sym eh ∙ header_here)

      pub commit_idle : f ≡ false → Committed at pass p h b objects rows bytes objects rows bytes
      commit_idle z = idle_when (sym passed_here ∙ z)

      module _ (y : f ≡ true) where
        recs_passed : gives_from at pass p h b objects ≡ passed_rec pass h b ∷ []
        recs_passed = gives_passes ∙ is_passed pass h b (sym passed_here ∙ y)

        pub can_pass_on : CanPass b rows bytes
        can_pass_on =
            let n : row_size * 1 ≤ length rows = rw recs_passed at can.rows_fit in
            let k : length (drop 8 b) + 0 ≤ length bytes = rw recs_passed at can.data_fit in
            record {
              long = can.can.long;
              there = header_long b x (sym header_here ∙ eh);
              row = omega (arith, n);
              bytes = omega (arith, k, length-drop 8 b);
            }

        object_passed : object_for (passed_rec pass h b).mfu ≡ unit_object x.mpu_sequence_number h.rap (passed_unit (length b)) (length b - 8)
        unfolding unit_object
        object_passed =
            let e : mpu_number (header_in (payload_header b)) ≡ x.mpu_sequence_number =
            ap (λ (k : Option PayloadHeader). mpu_number (header_in k)) (sym header_here ∙ eh) in
            λ i.
            record {
              mpu_sequence_number = e i;
              rap = h.rap;
              timed = false;
              header = no_header;
              item = false;
              item_id = 0;
              length = length-drop 8 b i;
            }

        pub commit_passed : (rows' bytes' : Bytes)
            → OnePut h.packet_id true (unit_object x.mpu_sequence_number h.rap (passed_unit (length b)) (length b - 8)) (drop 8 b) [] rows bytes rows' bytes'
            → Committed at pass p h b objects rows bytes objects rows' bytes'
        commit_passed rows' bytes' w =
            record {
              area = area_stays;
              rows_out =
                  w.row_is
                  ∙ ap (λ (o : Object). over 0 (written (row_fields h.packet_id true o 0)) rows) (sym object_passed)
                  ∙ ap (λ (z : Bytes). over 0 z rows) (sym (one_row (passed_rec pass h b)))
                  ∙ ap (λ (rs : List Rec). over 0 (rows_from 0 rs) rows) (sym recs_passed);
              data_out =
                  w.data_is
                  ∙ ap (λ (z : Bytes). over 0 z bytes) (append-nil (drop 8 b))
                  ∙ ap (λ (z : Bytes). over 0 z bytes) (sym (one_data (passed_rec pass h b)))
                  ∙ ap (λ (rs : List Rec). over 0 (data_from rs) bytes) (sym recs_passed);
            }

  pub commit_none : r.header ≡ None → Committed at pass p h b objects rows bytes objects rows bytes
  unfolding outcome_by passes_on
  commit_none e =
      let k : payload_header b ≡ None = sym header_here ∙ e in
      idle_when (ap (λ (y : MediaOutcome). y.taken) outcome_with_by ∙ ap (λ (z : Option PayloadHeader). (outcome_by t0' scrambled h.rap b z).taken) k)
      (ap (passes_on pass scrambled) k)
