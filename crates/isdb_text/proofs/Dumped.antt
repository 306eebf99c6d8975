-- The lines of `feeddump`, part by part. Assumes nothing.
use Rattle.std.proofs.Common.{◌≡◌, ℕ, suc, ◌+◌, ◌-◌, ◌*◌, ◌<◌, ◌≤◌, Bool, true, false, not, List, [], ◌∷◌, take, drop, sym, refl, ap, ◌∙◌, true≢false, arith, eq-eqb, ne_eqb}
use Rattle.std.specs.Prelude.{unwrap_or}
use Rattle.isdb_mmt.specs.Formats.Maybe.{given}
use mathlib.Core.Bool.{beq}
use lib.Ieee.{Float, nan, inf, fin, binary64, to_bits, eq, is_nan, up, down}
use Rattle.isdb_tlv.specs.Guards.{◌=?◌}
use Rattle.isdb_tlv.specs.Bytes.{be}
use Rattle.isdb_tlv.specs.Fields.{written}
use Rattle.isdb_mmt.specs.Formats.Ntp.{Seconds}
use Rattle.isdb_mmt.specs.Formats.Part.{part_of}
use Rattle.isdb_mmt.specs.Memory.Session.{Session, used_of, control_place_of}
use Rattle.isdb_mmt.specs.Memory.Lent.{flag_byte, names_from}
use Rattle.isdb_mmt.specs.Memory.Layout.{table_ids, control_places, control_size}
use Rattle.isdb_mmt.specs.Pushes.Records.{held_fields}
use Rattle.isdb_mmt.specs.declared.decoder.readings.MediaState.{MediaState}
use Rattle.isdb_mmt.specs.declared.decoder.readings.HeldObject.{HeldObject}
use Rattle.isdb_mmt.specs.declared.decoder.readings.CarriedAsset.{CarriedAsset}
use Rattle.isdb_text.specs.Text.{Wrote, ascii, bytes_as_hex}
use Rattle.isdb_text.specs.Fill.{filled}
use Rattle.isdb_text.specs.DumpSession.{data_text, record_text, unix_bits, stats_line, range_line, state_lines, object_line, carried_line, other_text, other_last, index_from, control_index, joined_line}
use Rattle.isdb_mmt.proofs.Names.{next as next_name, end as no_name}
use Rattle.isdb_text.proofs.Written.{wrote_append, Left, left_less, left_none}
use Rattle.isdb_mmt.specs.Formats.Maybe.{given}

-- ---- the feed

pub bits_known : (t : ℕ) (x : Float) → Seconds t x → to_bits binary64 x ≡ unix_bits t
unfolding unix_bits
bits_known t x s = rw s.rounded

beq_self : (s : Bool) → beq s s ≡ true
beq_self true = refl
beq_self false = refl

eq_self : (x : Float) → is_nan x ≡ false → eq x x ≡ true
unfolding eq is_nan
eq_self nan e = absurd (true≢false e)
eq_self (inf s) e = beq_self s
eq_self (fin s m x) e = rw (eq-eqb (m * up x * down x) (m * up x * down x) refl, beq_self s) refl

nan_bits : (x : Float) → eq x x ≡ false → to_bits binary64 x ≡ 0x7FF8000000000000
unfolding to_bits is_nan
nan_bits nan e = refl
nan_bits (inf s) e = absurd (true≢false (sym (eq_self (inf s) refl) ∙ e))
nan_bits (fin s m x) e = absurd (true≢false (sym (eq_self (fin s m x) refl) ∙ e))

pub bits_of_none : (t : ℕ) (x : Float) → Seconds t x → eq x x ≡ false → 0x7FF8000000000000 ≡ unix_bits t
bits_of_none t x s e = sym (nan_bits x e) ∙ bits_known t x s

-- ---- a media id

module _ {l m : List ℕ} {at q : ℕ} (id : ℕ) where
  pub wrote_state : {j k : List ℕ} {o p : ℕ} (x : MediaState) (g n : ℕ) → g ≡ given x.sequence → n ≡ unwrap_or x.sequence 0
      → Wrote l at (stats_line id x.stats) j o → Wrote j o (range_line id x.mpu_range) k p
      → Wrote k p (filled (ascii "media # last_sequence ?\n") (id ∷ g ∷ n ∷ [])) m q → Wrote l at (state_lines id x) m q
  unfolding state_lines
  wrote_state x g n eg en u v w = wrote_append u (wrote_append v (rw (← eg, ← en) w))

  pub wrote_object : {k : List ℕ} {p : ℕ} (o : HeldObject) (objects row b : List ℕ) → row ≡ written (held_fields id o)
      → b ≡ part_of objects o.bytes → Wrote l at (filled (ascii "media # held ") (id ∷ [])) k p → Wrote k p (record_text row b) m q
      → Wrote l at (object_line id o objects) m q
  unfolding object_line
  wrote_object o objects row b er eb v w = wrote_append v (rw (← er, ← eb) w)

  pub wrote_carried : {j k : List ℕ} {o p : ℕ} (a : CarriedAsset) (tables t b : List ℕ) (g n : ℕ) → g ≡ given a.service_id
      → n ≡ unwrap_or a.service_id 0
      → Wrote l at (filled (ascii "media # asset_of service ? type %%%%%%%% id ") (id ∷ g ∷ n ∷ a.asset.asset_type ∷ [])) j o
      → t ≡ part_of tables a.mpt → b ≡ part_of t a.asset.asset_id → Wrote j o (bytes_as_hex b) k p → Wrote k p (10 ∷ []) m q
      → Wrote l at (carried_line id a tables) m q
  unfolding carried_line
  wrote_carried a tables t b g n eg en u et eb v w = rw (← eg, ← en, ← et, ← eb) (wrote_append u (wrote_append v w))

-- ---- a control id

module _ {l m : List ℕ} {at q : ℕ} (id : ℕ) where
  module _ (place area : List ℕ) (j : ℕ) (ej : j ≡ be 1 place 9) where
    pub wrote_none_joined : j ≡ 0 → Wrote l at (filled (ascii "control # held none\n") (id ∷ [])) m q
        → Wrote l at (joined_line id place area) m q
    unfolding joined_line control_place_of
    wrote_none_joined e w = rw (sym ej ∙ e) w

    pub wrote_joined : (j ≡ 0 → ⊥) → {k : List ℕ} {p : ℕ} (f g x y n : ℕ) (b : List ℕ) → f ≡ be 1 place 10 → g ≡ be 1 place 11
        → x ≡ flag_byte (not (f =? 0)) → y ≡ flag_byte (not (g =? 0)) → n ≡ be 4 place 12 → b ≡ take n (drop 0 area)
        → Wrote l at (filled (ascii "control # held long_length # aggregated #") (id ∷ x ∷ y ∷ [])) k p → Wrote k p (data_text b) m q
        → Wrote l at (joined_line id place area) m q
    unfolding joined_line control_place_of
    wrote_joined e f g x y n b ef eg ex ey en eb v w =
        let eb' : b ≡ take n area = eb in
        rw (← ej, ne_eqb _ _ e, ← ef, ← eg, ← ex, ← ey, ← en, ← eb') (wrote_append v w)

-- the index of its place, turn by turn
pub index_start : (state : List ℕ) (id n : ℕ) → n ≡ be 4 state 61
    → control_index state id ≡ index_from 0 (names_from (n - 0) control_size control_places state) id
unfolding control_index used_of
index_start state id n e = let z : n - 0 ≡ n = omega arith in rw (z, e) refl

module _ (state : List ℕ) (id n i : ℕ) (y : ℕ)
    (inv : y ≡ index_from i (names_from (n - i) control_size (control_places + control_size * i) state) id) where
  pub index_hit : i < n → (v : ℕ) → v ≡ be 4 state (control_places + control_size * i) → v ≡ id → i ≡ y
  unfolding index_from
  index_hit h v d e = sym (inv ∙ rw (next_name state control_size n i (control_places + control_size * i) h) (rw (eq-eqb _ _ (sym d ∙ e))))

  pub index_miss : i < n → (v : ℕ) → v ≡ be 4 state (control_places + control_size * i) → (v ≡ id → ⊥)
      → y ≡ index_from (i + 1) (names_from (n - (i + 1)) control_size (control_places + control_size * (i + 1)) state) id
  unfolding index_from
  index_miss h v d e =
      let g : control_places + control_size * (i + 1) ≡ control_places + control_size * i + control_size = omega arith in
      inv ∙ rw (next_name state control_size n i (control_places + control_size * i) h) (rw (ne_eqb _ _ (λ z. e (d ∙ z)), g))

  pub index_end : n ≤ i → i ≡ y
  unfolding index_from
  index_end h = sym (inv ∙ rw (no_name state control_size n i (control_places + control_size * i) h))

-- ---- tables that are not decoded

module _ {l : List ℕ} {at : ℕ} {whole m : List ℕ} {p : ℕ} (s : Session) (id : ℕ)
    (f : Left l at whole m p (other_last (table_ids - id) s)) where
  pub others_turn : id < table_ids → {m' : List ℕ} {q : ℕ} → Wrote m p (other_text s id) m' q
      → Left l at whole m' q (other_last (table_ids - (id + 1)) s)
  unfolding other_last
  others_turn h w =
      let g : table_ids - id ≡ suc (table_ids - (id + 1)) = omega arith in
      let d : table_ids - suc (table_ids - (id + 1)) ≡ id = omega arith in
      left_less f (ap (λ (k : ℕ). other_last k s) g ∙ rw d refl) w

  pub others_end : table_ids ≤ id → Wrote l at whole m p
  unfolding other_last
  others_end h = let g : table_ids - id ≡ 0 = omega arith in left_none f (ap (λ (k : ℕ). other_last k s) g)
