-- The units of an MPU payload: each leads on to a place ahead and its data lie within the declared bytes, so that steps from one
-- to the next go over all of them. Assumes nothing.
use Rattle.std.specs.Prelude.{None, Some, Option, is_some}
use Rattle.std.proofs.Common.{◌≡◌, ℕ, ◌+◌, ◌-◌, ◌≤◌, Bool, true, not, ltb, leb, List, length, refl, ◌∙◌, arith, ltb-false, leb-true}
use Rattle.isdb_tlv.specs.Bytes.{be}
use Rattle.isdb_tlv.specs.Walk.{turn, also}
use Rattle.isdb_tlv.proofs.Walk.{Ahead, walk_at, plus, one_more as one_more_item}
use Rattle.isdb_tlv.proofs.Guards.{cond_elim}
use Rattle.isdb_mmt.proofs.Places.{Lies}
use Rattle.isdb_mmt.specs.Formats.Mpu.{unit_in, unit_at, unit_step, item, units_from}
use Rattle.isdb_mmt.specs.declared.mpu.Unit.{Unit as DataUnit}
use Rattle.isdb_mmt.specs.Formats.Steps.{UnitStep}
use Rattle.isdb_mmt.specs.declared.walk_step.WalkStep.TheVariants.{End, Malformed, Entry as found}

abbrev pub Inside : List ℕ → ℕ → UnitStep → Type 0
Inside s at End = Unit {0}
Inside s at Malformed = Unit {0}
Inside s at (found u next) = Lies s at u.«data» next

module _ (s : List ℕ) (timed : Bool) where
  in_inside : (at from end : ℕ) → at ≤ from → end ≤ length s → Inside s at (unit_in s timed from end)
  unfolding unit_in
  in_inside at from end h w =
      cond_elim (Inside s at) timed
      (λ e. cond_elim (Inside s at) (ltb (end - from) 14) (λ d. tt) (λ d.
      let a = ltb-false (end - from) 14 d in
      record { ahead = omega arith; within = w; starts = omega arith; ends = omega arith }))
      (λ e. cond_elim (Inside s at) (ltb (end - from) 4) (λ d. tt) (λ d.
      let a = ltb-false (end - from) 4 d in
      record { ahead = omega arith; within = w; starts = omega arith; ends = omega arith }))

module _ (s : List ℕ) (timed aggregated : Bool) where
  at_inside : (at from : ℕ) → at ≤ from → Inside s at (unit_at s timed aggregated from)
  unfolding unit_at
  at_inside at from h =
      let n = be 2 s from in
      cond_elim (Inside s at) (not aggregated) (λ e. in_inside s timed at from (length s) h (omega arith)) (λ e.
      cond_elim (Inside s at) (ltb (length s - from) 2) (λ e1. tt) (λ e1.
      cond_elim (Inside s at) (ltb (length s - (from + 2)) n) (λ e2. tt) (λ e2.
      let a = ltb-false (length s - from) 2 e1 in
      let b = ltb-false (length s - (from + 2)) n e2 in
      in_inside s timed at (from + 2) (from + 2 + n) (omega arith) (omega arith))))

  pub unit_inside : (at : ℕ) → Inside s at (unit_step s timed aggregated at)
  unfolding unit_step
  unit_inside at =
      cond_elim (Inside s at) (ltb (length s) 8) (λ e. tt) (λ e.
      cond_elim (Inside s at) (leb at 8) (λ e1. at_inside at 8 (leb-true at 8 e1)) (λ e1.
      cond_elim (Inside s at) (leb (length s) at) (λ e2. tt) (λ e2. at_inside at at (omega arith))))

  -- a unit that was found
  pub unit_lies : {at next : ℕ} {u : DataUnit} → unit_step s timed aggregated at ≡ found u next → Lies s at u.«data» next
  unit_lies {at} e = rw e at (unit_inside at)

  ahead_of : (at : ℕ) (r : UnitStep) → Inside s at r → Ahead (length s) at (item r)
  ahead_of at End l = tt
  ahead_of at Malformed l = tt
  ahead_of at (found u next) l = (omega (arith, l.ahead, l.within), l.ahead)

  -- the units from a place on: what stands there, and the units from where it leads
  pub units_at : (at : ℕ) → units_from s timed aggregated at ≡ turn (units_from s timed aggregated) (item (unit_step s timed aggregated at))
  unfolding units_from
  units_at at =
      walk_at (λ p. item (unit_step s timed aggregated p)) None (length s) (λ p. ahead_of p (unit_step s timed aggregated p) (unit_inside p)) at

-- where a unit was found, they are it and those behind it
pub units_also : (s : List ℕ) (timed aggregated : Bool) (at next : ℕ) (u : DataUnit) (x : UnitStep) → x ≡ unit_step s timed aggregated at → x ≡ found u next
    → units_from s timed aggregated at ≡ also u (units_from s timed aggregated next)
units_also s timed aggregated at next u x ex e = rw (units_at s timed aggregated at, ← ex, e)

pub whole_behind : (u : DataUnit) (o : Option (List DataUnit)) → is_some (also u o) ≡ true → is_some o ≡ true
whole_behind u None h = h
whole_behind u (Some us) h = refl

-- the turn of the loop that counts them
pub one_more : (s : List ℕ) (timed aggregated : Bool) (at k : ℕ) {u : DataUnit} {next : ℕ} {r : Option ℕ}
    → unit_step s timed aggregated at ≡ found u next → plus None Some k (units_from s timed aggregated at) ≡ r
    → plus None Some (k + 1) (units_from s timed aggregated next) ≡ r
one_more s timed aggregated at k {u} {next} d e =
    one_more_item None Some k u (units_from s timed aggregated next) (units_at s timed aggregated at ∙ rw d) e
