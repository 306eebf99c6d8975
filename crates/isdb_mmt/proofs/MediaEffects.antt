-- The effect of a payload's units: one turn of its walk, and that no sum overflows. Assumes nothing.
use Rattle.std.specs.Prelude.{None, Some, Option, is_some}
use Rattle.std.proofs.Common.{◌≡◌, ℕ, zero, suc, ◌+◌, ◌-◌, ◌<◌, ◌≤◌, min, max, Bool, true, false, leb, List, [], ◌∷◌, length, drop, sym, refl, ◌∙◌, arith, length-take}
use Rattle.isdb_tlv.proofs.Guards.{cond_elim}
use Rattle.isdb_mmt.specs.Formats.Part.{part_of}
use Rattle.isdb_tlv.specs.Walk.{also}
use Rattle.isdb_mmt.specs.Formats.Mpu.{unit_step, units_from, units_of}
use Rattle.isdb_mmt.specs.Decoder.Objects.{most_object}
use Rattle.isdb_mmt.specs.Pushes.MediaEffect.{unit_object, complete_unit, head_unit, dropped_unit, grown_to, grown_by, grown_unit, with_unit, with_each_unit, units_effect, Roomy, Ready}
use Rattle.isdb_mmt.specs.declared.part.Part.{Part}
use Rattle.isdb_mmt.specs.declared.mpu.FragmentationIndicator.{FragmentationIndicator}
use Rattle.isdb_mmt.specs.declared.mpu.FragmentationIndicator.TheVariants.{Complete, Head, Middle, Last}
use Rattle.isdb_mmt.specs.declared.mpu.Unit.{Unit as DataUnit}
use Rattle.isdb_mmt.specs.Formats.Steps.{UnitStep}
use Rattle.isdb_mmt.specs.declared.walk_step.WalkStep.TheVariants.{End, Malformed as not_whole, Entry as found}
use Rattle.isdb_mmt.specs.declared.decoder.media.Object.{Object}
use Rattle.isdb_mmt.specs.declared.decoder.reassembler.MediaEffect.{MediaEffect}
use Rattle.isdb_mmt.proofs.Units.{unit_lies, units_at}
use Rattle.isdb_mmt.proofs.Maps.{one_le}

-- ---- one turn

module _ (t : MediaEffect) (at next n : ℕ) (r : Roomy t at) (h : at + n ≤ next) (b : at < next) where
  roomy_dropped : (p : Part) → Roomy (dropped_unit t p) next
  unfolding dropped_unit
  roomy_dropped p = record { drops = omega (arith, r.drops, one_le (is_some t.object)); records = omega (arith, r.records); bytes = omega (arith, r.bytes) }

  roomy_to : (ends : Bool) (o : Object) (p : Part) → t.object ≡ Some o → Roomy (grown_to ends o t p (o.length + n)) next
  unfolding grown_to
  roomy_to true o p e =
      let w : t.bytes + o.length ≤ at + 4294967296 = rw e at r.bytes in
      record { drops = omega (arith, r.drops, one_le (is_some t.object)); records = omega (arith, r.records); bytes = omega arith }
  roomy_to false o p e =
      let d : t.drops + 1 ≤ at + 2 = rw e at r.drops in
      let w : t.bytes + o.length ≤ at + 4294967296 = rw e at r.bytes in
      record { drops = omega arith; records = omega (arith, r.records); bytes = omega arith }

  roomy_grown : (ends : Bool) (p : Part) → Roomy (grown_unit ends t p n) next
  unfolding grown_unit
  roomy_grown ends p = go t.object refl
    where
      go : (x : Option Object) → t.object ≡ x → Roomy (grown_by ends t p n x) next
      go None e = record { drops = omega (arith, r.drops); records = omega (arith, r.records); bytes = omega (arith, r.bytes) }
      go (Some o) e =
          cond_elim (λ (x : MediaEffect). Roomy x next) (leb (o.length + n) most_object) (λ y. roomy_to ends o p e) (λ y. roomy_dropped p)

  pub roomy_next : (f : FragmentationIndicator) (mpu : ℕ) (rap : Bool) (u : DataUnit) → Roomy (with_unit f mpu rap t u n) next
  unfolding with_unit complete_unit head_unit unit_object
  roomy_next Complete mpu rap u =
      record { drops = omega (arith, r.drops); records = omega (arith, r.records); bytes = omega (arith, r.bytes) }
  roomy_next Head mpu rap u =
      record { drops = omega (arith, r.drops); records = omega (arith, r.records); bytes = omega (arith, r.bytes) }
  roomy_next Middle mpu rap u = roomy_grown false u.«data»
  roomy_next Last mpu rap u = roomy_grown true u.«data»

-- the data of a unit that was found: no more bytes than the walk goes on
pub data_ahead : (q : List ℕ) (timed aggregated : Bool) (at next : ℕ) (u : DataUnit) (r : UnitStep) → r ≡ unit_step q timed aggregated at → r ≡ found u next
    → (at + length (part_of q u.«data») ≤ next) × ((at < next) × (next ≤ length q))
data_ahead q timed aggregated at next u r e d =
    let l = unit_lies q timed aggregated (sym e ∙ d) in
    let k : length (part_of q u.«data») ≡ min u.«data».length (length (drop u.«data».start q)) = length-take u.«data».length (drop u.«data».start q) in
    (omega (arith, l.starts, l.ends), (l.ahead, l.within))

-- all units
pub roomy_more : (t : MediaEffect) (at next : ℕ) → at ≤ next → Roomy t at → Roomy t next
roomy_more t at next h r = record { drops = omega (arith, r.drops); records = omega (arith, r.records); bytes = omega (arith, r.bytes) }

module _ (q : List ℕ) (timed aggregated : Bool) (f : FragmentationIndicator) (mpu : ℕ) (rap : Bool) where
  roomy_cons : (n : ℕ) (t : MediaEffect) (u : DataUnit) (o : Option (List DataUnit))
      → ((vs : List DataUnit) → o ≡ Some vs → Roomy (with_each_unit f mpu rap q (with_unit f mpu rap t u (length (part_of q u.«data»))) vs) n)
      → (us : List DataUnit) → also u o ≡ Some us → Roomy (with_each_unit f mpu rap q t us) n
  unfolding with_each_unit
  roomy_cons n t u None g us e = let z : ◌≡◌ {A = ℕ} 0 1 = cc in absurd (omega arith)
  roomy_cons n t u (Some vs) g us e = let k : u ∷ vs ≡ us = cc in rw (← k) (g vs refl)

  pub roomy_all : (k at : ℕ) (t : MediaEffect) (us : List DataUnit) → length q ≤ at + k → at ≤ max 8 (length q) → Roomy t at
      → units_from q timed aggregated at ≡ Some us → Roomy (with_each_unit f mpu rap q t us) (max 8 (length q))
  unfolding with_each_unit
  roomy_all zero at t us h w r e = roomy_last (unit_step q timed aggregated at) refl
    where
      roomy_last : (x : UnitStep) → unit_step q timed aggregated at ≡ x → Roomy (with_each_unit f mpu rap q t us) (max 8 (length q))
      roomy_last End d =
          let k : [] ≡ us = cc (rw (units_at q timed aggregated at, d) at e) in rw (← k) (roomy_more t at (max 8 (length q)) w r)
      roomy_last not_whole d = let z : ◌≡◌ {A = ℕ} 0 1 = cc (rw (units_at q timed aggregated at, d) at e) in absurd (omega arith)
      roomy_last (found u next) d =
          let a = data_ahead q timed aggregated at next u (found u next) (sym d) refl in absurd (omega (arith, a.1.0, a.1.1))
  roomy_all (suc k) at t us h w r e =
      roomy_turn (unit_step q timed aggregated at) refl (λ next vs t' a b c. roomy_all k next t' vs a b c)
    where
      roomy_turn : (x : UnitStep) → unit_step q timed aggregated at ≡ x
          → ((next : ℕ) (vs : List DataUnit) (t' : MediaEffect) → length q ≤ next + k → next ≤ max 8 (length q) → Roomy t' next
          → units_from q timed aggregated next ≡ Some vs → Roomy (with_each_unit f mpu rap q t' vs) (max 8 (length q)))
          → Roomy (with_each_unit f mpu rap q t us) (max 8 (length q))
      roomy_turn End d again =
          let j : [] ≡ us = cc (rw (units_at q timed aggregated at, d) at e) in rw (← j) (roomy_more t at (max 8 (length q)) w r)
      roomy_turn not_whole d again = let z : ◌≡◌ {A = ℕ} 0 1 = cc (rw (units_at q timed aggregated at, d) at e) in absurd (omega arith)
      roomy_turn (found u next) d again =
          let a = data_ahead q timed aggregated at next u (found u next) (sym d) refl in
          let n : ℕ = length (part_of q u.«data») in
          roomy_cons (max 8 (length q)) t u (units_from q timed aggregated next)
          (λ vs o.
          again next vs (with_unit f mpu rap t u n) (omega (arith, h, a.1.0)) (omega (arith, a.1.1))
          (roomy_next t at next n r a.0 a.1.0 f mpu rap u) o)
          us (rw (units_at q timed aggregated at, d) at e)

-- the walk's invariant: the units that are left give the whole answer
pub record WalkState (q : List ℕ) (timed aggregated : Bool) (f : FragmentationIndicator) (mpu : ℕ) (rap : Bool) (start : MediaEffect) (at : ℕ) (t : MediaEffect) : Type 0 where
  pub long : length q ≤ 65537
  pub room : Roomy t at
  pub within : at ≤ max 8 (length q)
  pub rest : units_effect f mpu rap q t (units_from q timed aggregated at) ≡ units_effect f mpu rap q start (units_of q timed aggregated)

module _ (q : List ℕ) (timed aggregated : Bool) (f : FragmentationIndicator) (mpu : ℕ) (rap : Bool) (start : MediaEffect) where
  pub going_first : Ready q start → WalkState q timed aggregated f mpu rap start 8 start
  unfolding units_of
  going_first r = record { long = r.long; room = r.room; within = omega arith; rest = refl }

  module _ (at : ℕ) (t : MediaEffect) (g : WalkState q timed aggregated f mpu rap start at t) (x : UnitStep) (ex : x ≡ unit_step q timed aggregated at) where
    pub going_end : x ≡ End → Some t ≡ units_effect f mpu rap q start (units_of q timed aggregated)
    unfolding units_effect with_each_unit
    going_end e = rw (units_at q timed aggregated at, ← ex, e) at g.rest

    pub going_bad : x ≡ not_whole → None ≡ units_effect f mpu rap q start (units_of q timed aggregated)
    unfolding units_effect
    going_bad e = rw (units_at q timed aggregated at, ← ex, e) at g.rest

    module _ (u : DataUnit) (next : ℕ) (e : x ≡ found u next) where
      also_effect : (o : Option (List DataUnit)) (y : Option MediaEffect) → units_effect f mpu rap q t (also u o) ≡ y
          → units_effect f mpu rap q (with_unit f mpu rap t u (length (part_of q u.«data»))) o ≡ y
      unfolding units_effect with_each_unit
      also_effect None y d = d
      also_effect (Some us) y d = d

      pub going_less : length q - next < length q - at
      going_less = let d = data_ahead q timed aggregated at next u x ex e in omega arith

      pub going_next : (b : List ℕ) → b ≡ part_of q u.«data» → (t' : MediaEffect) → t' ≡ with_unit f mpu rap t u (length b)
          → WalkState q timed aggregated f mpu rap start next t'
      going_next b eb t' et =
          let d = data_ahead q timed aggregated at next u x ex e in
          let k : t' ≡ with_unit f mpu rap t u (length (part_of q u.«data»)) = rw eb at et in
          rw k
          (record {
            long = g.long;
            room = roomy_next t at next (length (part_of q u.«data»)) g.room d.0 d.1.0 f mpu rap u;
            within = omega (arith, d.1.1);
            rest = also_effect (units_from q timed aggregated next) (units_effect f mpu rap q start (units_of q timed aggregated))
                (rw (units_at q timed aggregated at, ← ex, e) at g.rest);
          })
