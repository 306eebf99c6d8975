-- Records written one behind the other: one turn of the walk. Assumes nothing.
use Rattle.std.specs.Prelude.{Option, None, Some, unwrap_or, is_some}
use Rattle.std.proofs.Common.{◌≡◌, ℕ, ◌+◌, ◌-◌, ◌*◌, ◌<◌, ◌≤◌, Bool, true, false, List, [], ◌∷◌, map, subst, length, sym, refl, ap, ◌∙◌, arith, w32, w64, Fits}
use borrow.Rule.Slice.PartMut.{put_mid}
use Rattle.isdb_tlv.specs.Bytes.{put_be}
use Rattle.isdb_tlv.specs.Fields.{puts, four_fields, written}
use Rattle.isdb_mmt.specs.Formats.Part.{part_of}
use Rattle.isdb_mmt.specs.Decoder.Packet.{Bytes, MpuPacket, payload_unit}
use Rattle.isdb_tlv.specs.Walk.{also}
use Rattle.isdb_mmt.specs.Formats.Mpu.{header_or, unit_step, units_from, units_of}
use Rattle.isdb_mmt.specs.Decoder.Objects.{Rec, Asset, mpu_number, effect_of, unit_effect, after_unit, object_of, delivered_by, tagged}
use Rattle.isdb_mmt.specs.Decoder.Needs.{data_of}
use Rattle.isdb_mmt.specs.Memory.Lent.{over, flag_byte}
use Rattle.isdb_mmt.specs.Pushes.Records.{row_size, record_flags, record_fields, row_flags, row_fields, held_fields, row_of, rows_from, data_from}
use Rattle.isdb_mmt.specs.Pushes.MediaEffect.{unit_object}
use Rattle.isdb_mmt.specs.Pushes.MediaCommit.{OneFits, OnePut}
use Rattle.isdb_mmt.specs.Pushes.Giving.{unit_rec, unit_recs, Outputs, Gave}
use Rattle.isdb_mmt.specs.declared.mpu.FragmentationIndicator.{FragmentationIndicator}
use Rattle.isdb_mmt.specs.declared.mpu.FragmentationIndicator.TheVariants.{Complete}
use Rattle.isdb_mmt.specs.declared.mpu.MfuHeader.{MfuHeader}
use Rattle.isdb_mmt.specs.declared.mpu.PayloadHeader.{PayloadHeader}
use Rattle.isdb_mmt.specs.declared.mpu.Unit.{Unit as DataUnit}
use Rattle.isdb_mmt.specs.Formats.Steps.{UnitStep}
use Rattle.isdb_mmt.specs.declared.walk_step.WalkStep.TheVariants.{End, Malformed as not_whole, Entry as found}
use Rattle.isdb_mmt.specs.declared.decoder.media.Object.{Object}
use Rattle.isdb_mmt.specs.declared.decoder.readings.HeldObject.{HeldObject}
use Rattle.isdb_mmt.proofs.Lent.{length_over, over_next, over_none}
use Rattle.isdb_mmt.proofs.Names.{true_not_false}
use Rattle.isdb_mmt.proofs.Units.{units_at, units_also, whole_behind}
use Rattle.isdb_mmt.proofs.Stored.{flag_le, filled, sent}
use Rattle.isdb_mmt.proofs.RecordRows.{length_row, length_rows, length_data}
use Rattle.isdb_mmt.proofs.MediaEffects.{data_ahead}

-- ---- a row

pub flag_most : (b : Bool) {x : ℕ} → x ≡ flag_byte b → x ≤ 1
flag_most b e = rw e (flag_le b)

module _ (id flags mpu : ℕ) (h : MfuHeader) (item start n : ℕ) (p a b c d : List ℕ) (long : length p ≡ row_size)
    (ea : a ≡ puts 0 (four_fields 0x2114 id flags 0 mpu) p)
    (eb : b ≡ puts 8 (four_fields 0x4441 h.movie_fragment_sequence_number h.sample_number h.offset h.priority) a)
    (ec : c ≡ puts 21 (four_fields 0x1244 h.dependency_counter 0 item start) b) (ed : d ≡ puts 32 (four_fields 0x4000 n 0 0 0) c) where
  last_put : d ≡ put_be 4 32 n c
  unfolding put_be
  last_put = ed

  pub fields_put : d ≡ written (record_fields id flags mpu h item start n)
  fields_put = filled (record_fields id flags mpu h item start n) p long (rw (last_put, ec, eb, ea) refl)

pub row_sent : (id start flags : ℕ) (scrambled : Bool) (o : Object) (at : ℕ) (l m : List ℕ) → flags ≡ row_flags scrambled o
    → m ≡ written (record_fields id flags o.mpu_sequence_number o.header o.item_id start o.length)
    → put_mid at (at + 36 - at) l m ≡ over at (written (row_fields id scrambled o start)) l
row_sent id start flags scrambled o at l m f e = sent (row_fields id scrambled o start) at l (rw f at e)

pub held_put : (id : ℕ) (o : HeldObject) (timed item : Bool) (flags : ℕ) (h : MfuHeader) (i : ℕ) (m : List ℕ) → timed ≡ is_some o.mfu
    → item ≡ is_some o.item_id → flags ≡ record_flags o.rap false timed item → h ≡ header_or o.mfu → i ≡ unwrap_or o.item_id 0
    → m ≡ written (record_fields id flags o.mpu_sequence_number h i 0 o.bytes.length) → m ≡ written (held_fields id o)
held_put id o timed item flags h i m et ei ef eh en e = e ∙ rw (ef, et, ei, eh, en) refl

-- ---- one record, its data in two pieces

pub one_put : (id : ℕ) (scrambled : Bool) (o : Object) (a b rows given rows' given₁ given' : Bytes) → OneFits a b rows given
    → rows' ≡ over 0 (written (row_fields id scrambled o 0)) rows → given₁ ≡ over (0 * 0 + 0) a given → given' ≡ over (0 * 0 + length a) b given₁
    → OnePut id scrambled o a b rows given rows' given'
one_put id scrambled o a b rows given rows' given₁ given' h er e1 e2 =
    let z0 : 0 * 0 + 0 ≡ 0 = omega arith in
    let z1 : 0 * 0 + length a ≡ 0 + length a = omega arith in
    record {
      row_is = er;
      data_is = e2 ∙ rw (z1, e1, z0) (over_next 0 a b given (omega (arith, h.bytes)));
    }

-- ---- the walk

module _ (q : Bytes) (timed aggregated : Bool) (id mpu : ℕ) (rap : Bool) (rows₀ given₀ : Bytes) where
  abbrev recs_at : ℕ → List Rec
  recs_at at = unit_recs id mpu rap q (units_from q timed aggregated at)

  pub record Giving (at k d : ℕ) (rows given : Bytes) : Type 0 where
    pub long : length q ≤ 65537
    pub behind : d + 8 ≤ at
    pub within : at ≤ 65537
    pub whole : is_some (units_from q timed aggregated at) ≡ true
    pub small : k ≤ 36 * at
    pub rows_long : length rows ≡ length rows₀
    pub data_long : length given ≡ length given₀
    pub rows_fit : k + 36 * length (recs_at at) ≤ length rows
    pub data_fit : d + data_of (recs_at at) ≤ length given
    pub rows_rest : over k (rows_from d (recs_at at)) rows ≡ over 0 (rows_from 0 (recs_at 8)) rows₀
    pub data_rest : over d (data_from (recs_at at)) given ≡ over 0 (data_from (recs_at 8)) given₀

  pub giving_first : Outputs q timed aggregated id mpu rap rows₀ given₀ → Giving 8 0 0 rows₀ given₀
  unfolding units_of
  giving_first o =
      record {
        long = o.long;
        behind = omega arith;
        within = omega arith;
        whole = o.whole;
        small = omega arith;
        rows_long = refl;
        data_long = refl;
        rows_fit = omega (arith, o.rows_fit);
        data_fit = omega (arith, o.data_fit);
        rows_rest = refl;
        data_rest = refl;
      }

  module _ (at k d : ℕ) (rows given : Bytes) (g : Giving at k d rows given) (x : UnitStep) (ex : x ≡ unit_step q timed aggregated at) where
    pub giving_end : x ≡ End → Gave q timed aggregated id mpu rap rows₀ given₀ rows given
    unfolding units_of unit_recs rows_from data_from
    giving_end e =
        let u : units_from q timed aggregated at ≡ Some [] = rw (units_at q timed aggregated at, ← ex, e) in
        let r : over k [] rows ≡ over 0 (rows_from 0 (recs_at 8)) rows₀ =
        ap (λ (o : Option (List DataUnit)). over k (rows_from d (unit_recs id mpu rap q o)) rows) (sym u) ∙ g.rows_rest in
        let s : over d [] given ≡ over 0 (data_from (recs_at 8)) given₀ =
        ap (λ (o : Option (List DataUnit)). over d (data_from (unit_recs id mpu rap q o)) given) (sym u) ∙ g.data_rest in
        record { rows_are = sym (over_none k rows) ∙ r; data_are = sym (over_none d given) ∙ s }

    pub giving_bad : x ≡ not_whole → Gave q timed aggregated id mpu rap rows₀ given₀ rows given
    giving_bad e =
        let u : units_from q timed aggregated at ≡ None = rw (units_at q timed aggregated at, ← ex, e) in
        true_not_false (is_some (units_from q timed aggregated at)) g.whole (ap is_some u)

    module _ (u : DataUnit) (next : ℕ) (e : x ≡ found u next) where
      also_is : units_from q timed aggregated at ≡ also u (units_from q timed aggregated next)
      also_is = units_also q timed aggregated at next u x ex e

      recs_cons : (o : Option (List DataUnit)) → is_some (also u o) ≡ true → unit_recs id mpu rap q (also u o) ≡ unit_rec id mpu rap q u ∷ unit_recs id mpu rap q o
      unfolding unit_recs
      recs_cons None h = true_not_false false h refl
      recs_cons (Some us) h = refl

      recs_next : recs_at at ≡ unit_rec id mpu rap q u ∷ recs_at next
      recs_next =
          ap (unit_recs id mpu rap q) also_is
          ∙ recs_cons (units_from q timed aggregated next) (rw also_is at g.whole)

      abbrev unit_bytes : Bytes
      unit_bytes = part_of q u.«data»

      pub record GivingRoom (n : ℕ) : Type 0 where
        pub row : k + 36 ≤ length rows
        pub bytes : d + n ≤ length given
        pub small : n < 4294967296
        pub start : d < 4294967296

      pub giving_room : (b : Bytes) → b ≡ unit_bytes → GivingRoom (length b)
      giving_room b eb =
          let a = data_ahead q timed aggregated at next u x ex e in
          let n : length b ≡ length unit_bytes = ap length eb in
          let r : 36 * length (recs_at at) ≡ 36 + 36 * length (recs_at next) = rw recs_next (omega arith) in
          let s : data_of (recs_at at) ≡ length unit_bytes + data_of (recs_at next) = rw recs_next in
          let l = g.long in
          record {
            row = omega (arith, g.rows_fit, r);
            bytes = omega (arith, g.data_fit, s, n);
            small = omega (arith, a.0, a.1.1, n);
            start = omega (arith, g.behind, g.within);
          }

      module _ (b : Bytes) (eb : b ≡ unit_bytes) where
        pub giving_cast : Fits w32 (length b)
        giving_cast = record { fits = omega (arith, (giving_room b eb).small) }

        pub giving_start : Fits w32 d
        giving_start = record { fits = omega (arith, (giving_room b eb).start) }

        pub giving_row : k + 36 ≤ length rows
        giving_row = (giving_room b eb).row

        pub giving_bytes : 0 * 0 + d + length b ≤ length given
        giving_bytes = omega (arith, (giving_room b eb).bytes)

        pub giving_add_k : Fits w64 (k + 36)
        giving_add_k = record { fits = omega (arith, g.small, g.within) }

        pub giving_add_d : Fits w64 (d + length b)
        giving_add_d = record { fits = omega (arith, (giving_room b eb).small, (giving_room b eb).start) }

      pub giving_less : length q - next < length q - at
      giving_less = let a = data_ahead q timed aggregated at next u x ex e in omega arith

      pub giving_next : (b : Bytes) → b ≡ unit_bytes → (o : Object) → o ≡ unit_object mpu rap u (length b)
          → (rows' given' : Bytes) → rows' ≡ over k (written (row_fields id false o d)) rows → given' ≡ over (0 * 0 + d) b given
          → Giving next (k + 36) (d + length b) rows' given'
      unfolding unit_object rows_from data_from
      giving_next b eb o eo rows' given' er eg =
          let a = data_ahead q timed aggregated at next u x ex e in
          let room = giving_room b eb in
          let z : 0 * 0 + d ≡ d = omega arith in
          let rec : Rec = unit_rec id mpu rap q u in
          let row : Bytes = row_of rec d in
          let rest : Bytes = rows_from (d + length unit_bytes) (recs_at next) in
          let n : length b ≡ length unit_bytes = ap length eb in
          let lr : length row ≡ 36 = length_row rec d in
          let ls : length rest ≡ 36 * length (recs_at next) = length_rows (d + length unit_bytes) (recs_at next) in
          let ld : length (data_from (recs_at next)) ≡ data_of (recs_at next) = length_data (recs_at next) in
          let r : 36 * length (recs_at at) ≡ 36 + 36 * length (recs_at next) = rw recs_next (omega arith) in
          let s : data_of (recs_at at) ≡ length unit_bytes + data_of (recs_at next) = rw recs_next in
          let er' : rows' ≡ over k row rows = er ∙ rw (eo, eb) in
          let eg' : given' ≡ over d unit_bytes given = eg ∙ rw (z, eb) in
          let lo : length rows' ≡ length rows = ap length er' ∙ length_over k row rows (omega (arith, room.row)) in
          let lg : length given' ≡ length given = ap length eg' ∙ length_over d unit_bytes given (omega (arith, room.bytes)) in
          let wr : over (k + 36) rest rows' ≡ over 0 (rows_from 0 (recs_at 8)) rows₀ =
          ap (λ (y : Bytes). over (k + 36) rest y) er'
          ∙ ap (λ j. over (k + j) rest (over k row rows)) (sym lr)
          ∙ over_next k row rest rows (omega (arith, g.rows_fit))
          ∙ ap (λ (rs : List Rec). over k (rows_from d rs) rows) (sym recs_next)
          ∙ g.rows_rest in
          let wg : over (d + length unit_bytes) (data_from (recs_at next)) given' ≡ over 0 (data_from (recs_at 8)) given₀ =
          ap (λ (y : Bytes). over (d + length unit_bytes) (data_from (recs_at next)) y) eg'
          ∙ over_next d unit_bytes (data_from (recs_at next)) given (omega (arith, g.data_fit))
          ∙ ap (λ (rs : List Rec). over d (data_from rs) given) (sym recs_next)
          ∙ g.data_rest in
          record {
            long = g.long;
            behind = omega (arith, g.behind, a.0, n);
            within = omega (arith, a.1.1, g.long);
            whole = whole_behind u (units_from q timed aggregated next) (rw also_is at g.whole);
            small = omega (arith, g.small, a.1.0);
            rows_long = lo ∙ g.rows_long;
            data_long = lg ∙ g.data_long;
            rows_fit = omega (arith, g.rows_fit, r, lo);
            data_fit = omega (arith, g.data_fit, s, lg, n);
            rows_rest = rw n wr;
            data_rest = rw n wg;
          }

-- ---- these are the records of the model

pub complete_gives : (m : MpuPacket) (h : PayloadHeader) (q : Bytes) → h.fragmentation ≡ Complete → (us : List DataUnit) (a : Asset)
    → tagged m.id (delivered_by m a (map (payload_unit h q) us)) ≡ unit_recs m.id (mpu_number m.header) m.rap q (Some us)
unfolding delivered_by tagged unit_recs unit_effect effect_of object_of
complete_gives m h q e [] a = refl
complete_gives m h q e (u ∷ us) a =
    let i = subst (λ (k : FragmentationIndicator). tagged m.id (delivered_by m (after_unit a (effect_of k a.held (object_of m (payload_unit h q u)))) (map (payload_unit h q) us)) ≡ unit_recs m.id (mpu_number m.header) m.rap q (Some us)) e
    (complete_gives m h q e us (after_unit a (unit_effect m a (payload_unit h q u)))) in
    rw e (ap (λ (rs : List Rec). unit_rec m.id (mpu_number m.header) m.rap q u ∷ rs) i)
