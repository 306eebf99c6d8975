-- The effect of units is what the model does with them: what is held, dropped, given out and needed. Assumes nothing.
use Rattle.std.specs.Prelude.{Option, None, Some, is_some}
use Rattle.std.proofs.Common.{◌≡◌, ℕ, suc, ◌+◌, max, Bool, true, false, cond, leb, List, [], ◌∷◌, ◌++◌, map, length, sym, refl, ap, ◌∙◌, subst, arith, length-append}
use Rattle.isdb_mmt.specs.Formats.Part.{part_of}
use Rattle.isdb_mmt.specs.Decoder.Packet.{PayloadUnit, MpuPacket, payload_unit}
use Rattle.isdb_mmt.specs.Decoder.Objects.{Mfu, Asset, UnitEffect, most_object, mpu_number, grown, continued, effect_of, after_unit, object_of, unit_effect, after_units, delivered_by, tagged}
use Rattle.isdb_mmt.specs.Decoder.Needs.{unit_area, units_need, data_of}
use Rattle.isdb_mmt.specs.Pushes.Records.{object_for}
use Rattle.isdb_mmt.specs.Pushes.MediaPush.{held_for}
use Rattle.isdb_mmt.specs.Pushes.MediaEffect.{unit_object, object_or, complete_unit, head_unit, dropped_unit, grown_to, grown_by, grown_unit, with_unit, with_each_unit}
use Rattle.isdb_mmt.specs.declared.part.Part.{Part}
use Rattle.isdb_mmt.specs.declared.mpu.FragmentationIndicator.{FragmentationIndicator}
use Rattle.isdb_mmt.specs.declared.mpu.FragmentationIndicator.TheVariants.{Complete, Head, Middle, Last}
use Rattle.isdb_mmt.specs.declared.mpu.PayloadHeader.{PayloadHeader}
use Rattle.isdb_mmt.specs.declared.mpu.Unit.{Unit as DataUnit}
use Rattle.isdb_mmt.specs.declared.decoder.media.Object.{Object}
use Rattle.isdb_mmt.specs.declared.decoder.reassembler.MediaEffect.{MediaEffect}

-- the data of some objects
abbrev pub bytes_in : List Mfu → ℕ
bytes_in [] = 0
bytes_in (d ∷ ds) = length d.bytes + bytes_in ds

pub bytes_tagged : (i : ℕ) (ds : List Mfu) → data_of (tagged i ds) ≡ bytes_in ds
unfolding tagged
bytes_tagged i [] = refl
bytes_tagged i (d ∷ ds) = ap (λ n. length d.bytes + n) (bytes_tagged i ds)

pub length_tagged : (i : ℕ) (ds : List Mfu) → length (tagged i ds) ≡ length ds
unfolding tagged
length_tagged i [] = refl
length_tagged i (d ∷ ds) = ap suc (length_tagged i ds)

bytes_append : (xs ys : List Mfu) → bytes_in (xs ++ ys) ≡ bytes_in xs + bytes_in ys
bytes_append [] ys = omega arith
bytes_append (x ∷ xs) ys = rw (bytes_append xs ys) (omega arith)

-- ---- one unit

-- what is held, as an effect has it
abbrev pub object_as : Option Mfu → Option Object
object_as None = None
object_as (Some h) = Some (object_for h)

pub as_some : (o : Option Mfu) → is_some (object_as o) ≡ is_some o
as_some None = refl
as_some (Some h) = refl

pub as_object : (o : Option Mfu) → object_or (object_as o) ≡ held_for o
as_object None = refl
as_object (Some h) = refl

pub record Step (f : FragmentationIndicator) (t r : MediaEffect) (d : UnitEffect) : Type 0 where
  pub object : r.object ≡ object_as d.held
  pub drops : r.drops ≡ t.drops + d.drops
  pub records : r.records ≡ t.records + length d.outs
  pub bytes : r.bytes ≡ t.bytes + bytes_in d.outs
  pub longest : r.longest ≡ max t.longest (unit_area f d)

module _ (t : MediaEffect) (p : Part) (h g : Mfu) where
  longer : length (h.bytes ++ g.bytes) ≡ length h.bytes + length g.bytes
  longer = length-append h.bytes g.bytes

  step_middle : (b : Bool)
      → Step Middle t (cond b (grown_to false (object_for h) t p (length h.bytes + length g.bytes)) (dropped_unit t p)) (continued b false (grown h g.bytes))
  unfolding grown_to dropped_unit continued grown
  step_middle true =
      record {
        object = rw longer;
        drops = omega arith;
        records = omega arith;
        bytes = omega arith;
        longest = rw longer;
      }
  step_middle false =
      record { object = refl; drops = refl; records = omega arith; bytes = omega arith; longest = omega arith }

  step_last : (b : Bool)
      → Step Last t (cond b (grown_to true (object_for h) t p (length h.bytes + length g.bytes)) (dropped_unit t p)) (continued b true (grown h g.bytes))
  unfolding grown_to dropped_unit continued grown
  step_last true =
      record {
        object = refl;
        drops = omega arith;
        records = refl;
        bytes = rw longer (omega arith);
        longest = rw longer (omega arith);
      }
  step_last false =
      record { object = refl; drops = refl; records = omega arith; bytes = omega arith; longest = omega arith }

pub grown_none : (ends : Bool) (t : MediaEffect) (p : Part) (n : ℕ) → t.object ≡ None → grown_unit ends t p n ≡ t
unfolding grown_unit
grown_none ends t p n e = ap (grown_by ends t p n) e

pub grown_some : (ends : Bool) (t : MediaEffect) (p : Part) (n : ℕ) (o : Object) → t.object ≡ Some o
    → grown_unit ends t p n ≡ cond (leb (o.length + n) most_object) (grown_to ends o t p (o.length + n)) (dropped_unit t p)
unfolding grown_unit
grown_some ends t p n o e = ap (grown_by ends t p n) e

module _ (t : MediaEffect) (u : DataUnit) (g : Mfu) (mpu : ℕ) (rap : Bool) (eg : unit_object mpu rap u (length g.bytes) ≡ object_for g) where
  pub step_told : (f : FragmentationIndicator) (o : Option Mfu) → t.object ≡ object_as o
      → Step f t (with_unit f mpu rap t u (length g.bytes)) (effect_of f o g)
  unfolding with_unit complete_unit head_unit effect_of
  step_told Complete o eo =
      let eh = ap (λ (x : Option Object). is_some x) eo ∙ as_some o in
      record { object = refl; drops = rw eh; records = refl; bytes = omega arith; longest = omega arith }
  step_told Head o eo =
      let eh = ap (λ (x : Option Object). is_some x) eo ∙ as_some o in
      record { object = ap (λ (x : Object). Some x) eg; drops = rw eh; records = omega arith; bytes = omega arith; longest = refl }
  step_told Middle None eo =
      subst (λ (x : MediaEffect). Step Middle t x (effect_of Middle None g)) (sym (grown_none false t u.«data» (length g.bytes) eo))
      (record { object = eo; drops = omega arith; records = omega arith; bytes = omega arith; longest = omega arith })
  step_told Middle (Some h) eo =
      subst (λ (x : MediaEffect). Step Middle t x (effect_of Middle (Some h) g))
      (sym (grown_some false t u.«data» (length g.bytes) (object_for h) eo))
      (step_middle t u.«data» h g (leb (length h.bytes + length g.bytes) most_object))
  step_told Last None eo =
      subst (λ (x : MediaEffect). Step Last t x (effect_of Last None g)) (sym (grown_none true t u.«data» (length g.bytes) eo))
      (record { object = eo; drops = omega arith; records = omega arith; bytes = omega arith; longest = omega arith })
  step_told Last (Some h) eo =
      subst (λ (x : MediaEffect). Step Last t x (effect_of Last (Some h) g))
      (sym (grown_some true t u.«data» (length g.bytes) (object_for h) eo))
      (step_last t u.«data» h g (leb (length h.bytes + length g.bytes) most_object))

-- ---- all units of a payload

pub record Told (m : MpuPacket) (t : MediaEffect) (a : Asset) (r : MediaEffect) (us : List PayloadUnit) : Type 0 where
  pub object : r.object ≡ object_as (after_units m a us).held
  pub drops : a.stats.mfus_dropped + r.drops ≡ t.drops + (after_units m a us).stats.mfus_dropped
  pub mfus : a.stats.mfus + r.records ≡ t.records + (after_units m a us).stats.mfus
  pub records : r.records ≡ t.records + length (delivered_by m a us)
  pub bytes : r.bytes ≡ t.bytes + bytes_in (delivered_by m a us)
  pub longest : r.longest ≡ max t.longest (units_need m a us)

pub told_empty : (m : MpuPacket) (t : MediaEffect) (a : Asset) → t.object ≡ object_as a.held → Told m t a t []
unfolding after_units delivered_by units_need
told_empty m t a eo =
    record { object = eo; drops = omega arith; mfus = omega arith; records = omega arith; bytes = omega arith; longest = omega arith }

module _ (m : MpuPacket) (h : PayloadHeader) (q : List ℕ) where
  one_told : (u : DataUnit) (t : MediaEffect) (a : Asset) → t.object ≡ object_as a.held
      → Step h.fragmentation t (with_unit h.fragmentation (mpu_number m.header) m.rap t u (length (part_of q u.«data»))) (unit_effect m a (payload_unit h q u))
  unfolding unit_effect unit_object object_of
  one_told u t a eo = step_told t u (object_of m (payload_unit h q u)) (mpu_number m.header) m.rap refl h.fragmentation a.held eo

  held_is : (a : Asset) (d : UnitEffect) → d.held ≡ (after_unit a d).held
  unfolding after_unit
  held_is a d = refl

  dropped_is : (a : Asset) (d : UnitEffect) → (after_unit a d).stats.mfus_dropped ≡ a.stats.mfus_dropped + d.drops
  unfolding after_unit
  dropped_is a d = refl

  mfus_is : (a : Asset) (d : UnitEffect) → (after_unit a d).stats.mfus ≡ a.stats.mfus + length d.outs
  unfolding after_unit
  mfus_is a d = refl

  pub effect_told : (us : List DataUnit) (t : MediaEffect) (a : Asset) → t.object ≡ object_as a.held
      → Told m t a (with_each_unit h.fragmentation (mpu_number m.header) m.rap q t us) (map (payload_unit h q) us)
  unfolding with_each_unit after_units delivered_by units_need
  effect_told [] t a eo =
      record { object = eo; drops = omega arith; mfus = omega arith; records = omega arith; bytes = omega arith; longest = omega arith }
  effect_told (u ∷ us) t a eo =
      let x : PayloadUnit = payload_unit h q u in
      let d : UnitEffect = unit_effect m a x in
      let t1 : MediaEffect = with_unit h.fragmentation (mpu_number m.header) m.rap t u (length (part_of q u.«data»)) in
      let s : Step h.fragmentation t t1 d = one_told u t a eo in
      let a1 : Asset = after_unit a d in
      let r : MediaEffect = with_each_unit h.fragmentation (mpu_number m.header) m.rap q t1 us in
      let w : Told m t1 a1 r (map (payload_unit h q) us) = effect_told us t1 a1 (s.object ∙ ap object_as (held_is a d)) in
      let da : a1.stats.mfus_dropped ≡ a.stats.mfus_dropped + d.drops = dropped_is a d in
      let ma : a1.stats.mfus ≡ a.stats.mfus + length d.outs = mfus_is a d in
      record {
        object = w.object;
        drops = omega (arith, w.drops, s.drops);
        mfus = omega (arith, w.mfus, s.records);
        records = rw (length-append d.outs) (omega (arith, w.records, s.records));
        bytes = rw (bytes_append d.outs) (omega (arith, w.bytes, s.bytes));
        longest = omega (arith, w.longest, s.longest);
      }
