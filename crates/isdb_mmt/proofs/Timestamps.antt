-- The MPUs of an extended timestamp descriptor: one leads on to a place ahead and lies within the bytes, so that steps from one
-- to the next go over all of them. Assumes nothing.
use Rattle.std.specs.Prelude.{None}
use Rattle.std.proofs.Common.{◌≡◌, ℕ, ◌+◌, ◌-◌, ◌*◌, ◌%◌, ◌<◌, ◌≤◌, Bool, true, false, eqb, ltb, leb, List, length, get_or, refl, arith, ltb-false}
use Rattle.isdb_tlv.specs.Walk.{turn}
use Rattle.isdb_tlv.proofs.Walk.{Ahead, walk_at}
use Rattle.isdb_tlv.proofs.Guards.{cond_elim}
use Rattle.isdb_mmt.specs.Formats.Timestamp.{scale_end, unit_size_of, mpu_at, mpu_item, mpus_from, mpus_whole}
use Rattle.isdb_mmt.proofs.Steps.{also_some}
use Rattle.isdb_mmt.specs.declared.part.Part.{Part}
use Rattle.isdb_mmt.specs.Formats.Steps.{MpuStep}
use Rattle.isdb_mmt.specs.declared.timestamp.ExtendedMpu.{ExtendedMpu}
use Rattle.isdb_mmt.specs.declared.walk_step.WalkStep.TheVariants.{End, Malformed, Entry}

-- the timescale ends within five bytes
pub scale_end_le : (flags : ℕ) → scale_end flags ≤ 5
scale_end_le flags = cond_elim (λ n. n ≤ 5) (eqb (flags % 2) 0) (λ e. omega arith) (λ e. omega arith)

-- the access units of an MPU, a number of 8 bits, take 1,020 bytes at most
pub units_le : (own : Bool) (n : ℕ) → n < 256 → n * unit_size_of own ≤ 1020
units_le true n h = omega arith
units_le false n h = omega arith

-- an MPU at `at`: its access units, `n` of them, stand up to `next`
pub record Lies (s : List ℕ) (own : Bool) (at n : ℕ) (units : Part) (next : ℕ) : Type 0 where
  pub ahead : at < next
  pub within : next ≤ length s
  pub starts : units.start ≡ at + 8
  pub counts : units.length ≡ n * unit_size_of own
  pub ends : units.start + units.length ≡ next

abbrev pub Inside : List ℕ → Bool → ℕ → MpuStep → Type 0
Inside s own at End = Unit {0}
Inside s own at Malformed = Unit {0}
Inside s own at (Entry m next) = Lies s own at m.access_units m.units next

module _ (s : List ℕ) (own : Bool) where
  pub mpu_inside : (at : ℕ) → Inside s own at (mpu_at s own at)
  unfolding mpu_at
  mpu_inside at =
      let n = get_or s (at + 7) 0 * unit_size_of own in
      cond_elim (Inside s own at) (leb (length s) at) (λ e. tt) (λ e.
      cond_elim (Inside s own at) (ltb (length s - at) 8) (λ e1. tt) (λ e1.
      cond_elim (Inside s own at) (ltb (length s - (at + 8)) n) (λ e2. tt) (λ e2.
      let a = ltb-false (length s - at) 8 e1 in
      let b = ltb-false (length s - (at + 8)) n e2 in
      record { ahead = omega arith; within = omega arith; starts = refl; counts = refl; ends = refl })))

  pub mpu_lies : {at next : ℕ} {m : ExtendedMpu} → mpu_at s own at ≡ Entry m next → Lies s own at m.access_units m.units next
  mpu_lies {at} e = rw e at (mpu_inside at)

  ahead_of : (at : ℕ) (m : MpuStep) → Inside s own at m → Ahead (length s) at (mpu_item m)
  ahead_of at End w = tt
  ahead_of at Malformed w = tt
  ahead_of at (Entry m next) w = (omega arith, w.ahead)

  -- the MPUs from a place on: what stands there, and the MPUs from where it leads
  pub mpus_at : (at : ℕ) → mpus_from s own at ≡ turn (mpus_from s own) (mpu_item (mpu_at s own at))
  unfolding mpus_from
  mpus_at at =
      walk_at (λ p. mpu_item (mpu_at s own p)) None (length s) (λ p. ahead_of p (mpu_at s own p) (mpu_inside p)) at

  -- the three turns of the walk that asks whether they are whole
  pub whole_end : (at : ℕ) → mpu_at s own at ≡ End → mpus_whole s own at ≡ true
  unfolding mpus_whole
  whole_end at e = rw (mpus_at at, e)

  pub whole_broken : (at : ℕ) → mpu_at s own at ≡ Malformed → mpus_whole s own at ≡ false
  unfolding mpus_whole
  whole_broken at e = rw (mpus_at at, e)

  pub whole_on_lem : (at : ℕ) {next : ℕ} {m : ExtendedMpu} → mpu_at s own at ≡ Entry m next → mpus_whole s own at ≡ mpus_whole s own next
  unfolding mpus_whole
  whole_on_lem at {next} {m} e =
      rw (mpus_at at, e) (also_some (Entry m next) (mpus_from s own next))
