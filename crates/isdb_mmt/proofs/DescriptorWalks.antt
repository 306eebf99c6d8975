-- The walks over descriptors and what stands in their bodies: each step gives the next element of the whole value. Assumes
-- nothing.
use Rattle.std.proofs.Common.{◌≡◌, ℕ, suc, ◌+◌, ◌-◌, ◌*◌, ◌/◌, ◌%◌, ◌≤◌, Bool, true, not, eqb, ltb, List, map, length, get_or, drop, sym, refl, ap, ◌∙◌, arith, length-drop, length-take, ltb-false, le-ltb}
use lib.ListN.{length-map}
use Rattle.isdb_tlv.specs.Bytes.{be}
use Rattle.isdb_tlv.specs.Walk.{turn}
use Rattle.isdb_tlv.specs.Guards.{◌<?◌}
use Rattle.std.specs.Prelude.{if◌then◌else◌, None, Option, Some, is_some}
use Rattle.isdb_tlv.proofs.Guards.{cond_elim, either}
use Rattle.isdb_mmt.specs.Formats.Part.{part_of}
use Rattle.isdb_mmt.specs.Formats.Timestamp.{timestamp_at, unit_size_of, mpu_at, mpus_whole, head_end, extended_of, unit_step}
use Rattle.isdb_mmt.specs.Formats.Desc.{step_at, Split, item, split_from, split_of, counted as told, access_control, scrambler, stream_identifier, service_text, short_event_of, hevc, extended_in, extended_timestamp, descriptor_of, service_at, genre_at}
use Rattle.isdb_mmt.specs.Formats.Nit.{tlv_step_at}
use Rattle.isdb_mmt.specs.WholeValues.Steps.{Stood, at_end, Found, counted, onward, to_end, Ends}
use Rattle.isdb_mmt.specs.WholeValues.WholeDescriptors.{timestamp_told, timestamp_seen, unit_seen, mpu_told, mpu_seen_of, whole_extended, service_told, service_seen, genre_told, genre_seen, WholeDescriptor, descriptor_told, descriptor_seen, loop_in, tlv_told, tlv_seen}
use Rattle.isdb_mmt.specs.Decoder.Kept.{declared_section}
use Rattle.isdb_mmt.specs.WholeValues.WholeLists.{whole_raw}
use Rattle.isdb_mmt.specs.WholeValues.Walks.{LoopTheorem, TotTheorem, RowsTheorem, ExtendedTheorem, UnitsTheorem}
use Rattle.isdb_mmt.specs.declared.timestamp.Extended.{Extended}
use Rattle.isdb_mmt.specs.Formats.Steps.{MpuStep}
use Rattle.isdb_mmt.specs.declared.walk_step.WalkStep.TheVariants.{End as no_mpu, Malformed as broken_mpu, Entry as an_mpu}
use Rattle.isdb_mmt.specs.declared.desc.Step.{Step}
use Rattle.isdb_mmt.specs.declared.desc.Step.TheVariants.{End, Broken, Raw}
use Rattle.isdb_mmt.specs.declared.desc.Descriptor.{Descriptor}
use Rattle.isdb_mmt.specs.declared.desc.Descriptor.TheVariants.{MpuTimestamp, ExtendedTimestamp, AccessControl, Scrambler, StreamIdentifier, Service, ServiceList, ShortEvent, Content, Hevc, BroadcasterName, Other}
use Rattle.isdb_mmt.proofs.Names.{true_not_false}
use Rattle.isdb_mmt.proofs.Descriptors.{Inside, step_inside, split_at}
use Rattle.isdb_mmt.proofs.Timestamps.{Inside as MpuInside, mpu_inside, mpu_lies, whole_end, whole_broken, whole_on_lem}
use Rattle.isdb_mmt.proofs.Steps.{Leads, counts, whole_by, On, whole_on, same_found, same_whole, ends, ends_whole}

-- ---- descriptor loops

module _ (s : List ℕ) where
  on_raw : (at : ℕ) (d : Step) → Inside s at d → On (length s) at (descriptor_told s d)
  on_raw at End w = tt
  on_raw at (Broken p) w = tt
  on_raw at (Raw tag body next) w = (omega (arith, w.ahead, w.within), w.ahead)

  on_descriptor : (at : ℕ) → On (length s) at (descriptor_seen s at)
  on_descriptor at = on_raw at (step_at s at) (step_inside s at)

  abbrev pub mapped : Split → Found WholeDescriptor
  mapped l = record { found = map (whole_raw s) l.found; whole = not (is_some l.broke) }

  turned : (d : Step) → mapped (turn (split_from s) (item d)) ≡ turn (λ p. mapped (split_from s p)) (onward (descriptor_told s d))
  turned End = refl
  turned (Broken p) = refl
  turned (Raw tag body next) = refl

  same : (at : ℕ) → mapped (split_from s at) ≡ to_end (descriptor_seen s) (length s) at
  same =
      same_found (descriptor_seen s) (length s) on_descriptor (λ p. mapped (split_from s p))
      (λ at. ap mapped (split_at s at) ∙ turned (step_at s at))

pub loop_is : (s : List ℕ) → loop_in s ≡ mapped s (split_of s)
unfolding split_of
loop_is s = sym (same s 0)

pub loop_found : (s : List ℕ) → (loop_in s).found ≡ map (whole_raw s) (split_of s).found
unfolding split_of
loop_found s = ap (λ (l : Found WholeDescriptor). l.found) (sym (same s 0))

pub loops : LoopTheorem
unfolding split_of told
loops s =
    record {
      count = ap (λ (l : Found WholeDescriptor). length l.found) (sym (same s 0)) ∙ length-map (split_from s 0).found (whole_raw s);
      whole = ap (λ (l : Found WholeDescriptor). l.whole) (sym (same s 0));
      ends = ends (descriptor_seen s) (length s) (on_descriptor s) 0;
    }

pub tot : TotTheorem
tot s t e = loops (part_of (declared_section s) t.descriptors)

-- ---- loops in which nothing is malformed

abbrev Fine : {A : Type 0} → ℕ → ℕ → Stood A → Type 0
Fine n at d = On n at d × (whole_on (λ p. true) d ≡ true)

ends_fine : {A : Type 0} (step : ℕ → Stood A) (n : ℕ) → ((at : ℕ) → Fine n at (step at)) → (at : ℕ) → Ends step at (to_end step n at).found at_end
ends_fine step n fine at = ends_whole step n (λ p. (fine p).0) at (sym (same_whole step n (λ p. (fine p).0) (λ p. true) (λ p. sym (fine p).1) at))

-- a row of `size` bytes, or none
row_fine : {A B : Type 0} (told : B → Stood A) (size n at : ℕ) (none row : B) → Fine n at (told none) → (size ≤ n - at → Fine n at (told row))
    → Fine n at (told (if n - at <? size then none else row))
row_fine told size n at none row h k = cond_elim (λ d. Fine n at (told d)) (ltb (n - at) size) (λ e. h) (λ e. k (ltb-false (n - at) size e))

module _ (s : List ℕ) where
  tlv_fine : (at : ℕ) → Fine (length s) at (tlv_seen s at)
  unfolding tlv_step_at
  tlv_fine at =
      row_fine (tlv_told s) 2 (length s) at _ _ (tt, refl) (λ l.
      cond_elim (λ d. Fine (length s) at (tlv_told s d)) (ltb (length s - (at + 2)) (get_or s (at + 1) 0)) (λ e. (tt, refl)) (λ e. (omega arith, refl)))

  timestamp_fine : (at : ℕ) → Fine (length s) at (timestamp_seen s at)
  unfolding timestamp_at
  timestamp_fine at = row_fine timestamp_told 12 (length s) at _ _ (tt, refl) (λ l. (omega arith, refl))

  service_fine : (at : ℕ) → Fine (length s) at (service_seen s at)
  unfolding service_at
  service_fine at = row_fine service_told 3 (length s) at _ _ (tt, refl) (λ l. (omega arith, refl))

  genre_fine : (at : ℕ) → Fine (length s) at (genre_seen s at)
  unfolding genre_at
  genre_fine at = row_fine genre_told 2 (length s) at _ _ (tt, refl) (λ l. (omega arith, refl))

pub rows : RowsTheorem
rows s =
    record {
      tlvs = ends_fine (tlv_seen s) (length s) (tlv_fine s) 0;
      timestamps = ends_fine (timestamp_seen s) (length s) (timestamp_fine s) 0;
      services = ends_fine (service_seen s) (length s) (service_fine s) 0;
      genres = ends_fine (genre_seen s) (length s) (genre_fine s) 0;
    }

-- ---- extended timestamps

module _ (s : List ℕ) (e : Extended) where
  abbrev own : Bool
  own = e.own_pts_offset

  on_told : (at : ℕ) (d : MpuStep) → MpuInside s own at d → On (length s) at (mpu_told s e d)
  on_told at no_mpu w = tt
  on_told at broken_mpu w = tt
  on_told at (an_mpu m next) w = (omega (arith, w.ahead, w.within), w.ahead)

  on_mpu : (at : ℕ) → On (length s) at (mpu_seen_of s e at)
  on_mpu at = on_told at (mpu_at s own at) (mpu_inside s own at)

  mpu_turn : (at : ℕ) (d : MpuStep) → mpu_at s own at ≡ d → mpus_whole s own at ≡ whole_on (mpus_whole s own) (mpu_told s e d)
  mpu_turn at no_mpu h = whole_end s own at h
  mpu_turn at broken_mpu h = whole_broken s own at h
  mpu_turn at (an_mpu m next) h = whole_on_lem s own at h

  pub mpus_end : (at : ℕ) → mpus_whole s own at ≡ true → Ends (mpu_seen_of s e) at (to_end (mpu_seen_of s e) (length s) at).found at_end
  mpus_end at w =
      ends_whole (mpu_seen_of s e) (length s) on_mpu at
      (sym (same_whole (mpu_seen_of s e) (length s) on_mpu (mpus_whole s own) (λ p. mpu_turn p (mpu_at s own p) refl) at) ∙ w)

module _ (s : List ℕ) where
  abbrev ExtendedGood : Option Extended → Type 0
  ExtendedGood None = Unit {0}
  ExtendedGood (Some e) = Ends (mpu_seen_of s e) e.start (whole_extended s e).mpus at_end

  extended_good : ExtendedGood (extended_of s)
  unfolding extended_of
  extended_good =
      let f = get_or s 0 0 in
      let w = mpus_whole s (eqb (f / 2 % 4) 2) (head_end f) in
      cond_elim ExtendedGood (ltb (length s) 1) (λ e. tt) (λ e.
      cond_elim ExtendedGood (ltb (length s) (head_end f)) (λ e1. tt) (λ e1.
      cond_elim ExtendedGood (not w) (λ e2. tt) (λ e2.
      mpus_end s _ (head_end f) (either w (λ d. d) (λ d. true_not_false true refl (rw d at e2))))))

  abbrev Good : Descriptor → Type 0
  Good MpuTimestamp = Unit {0}
  Good (ExtendedTimestamp e) = Ends (mpu_seen_of s e) e.start (whole_extended s e).mpus at_end
  Good (AccessControl c l) = Unit {0}
  Good (Scrambler l i) = Unit {0}
  Good (StreamIdentifier c) = Unit {0}
  Good (Service t p n) = Unit {0}
  Good ServiceList = Unit {0}
  Good (ShortEvent l n t) = Unit {0}
  Good Content = Unit {0}
  Good (Hevc p t l) = Unit {0}
  Good (BroadcasterName n) = Unit {0}
  Good (Other t b) = Unit {0}

  in_good : (m : Option Extended) → ExtendedGood m → Good (extended_in s m)
  in_good None w = tt
  in_good (Some e) w = w

  timestamp_good : Good (extended_timestamp s)
  unfolding extended_timestamp
  timestamp_good = in_good (extended_of s) extended_good

  control_good : Good (access_control s)
  unfolding access_control
  control_good = cond_elim Good (ltb (length s) 2) (λ e. tt) (λ e. tt)

  scrambler_good : Good (scrambler s)
  unfolding scrambler
  scrambler_good = cond_elim Good (ltb (length s) 2) (λ e. tt) (λ e. tt)

  stream_good : Good (stream_identifier s)
  unfolding stream_identifier
  stream_good = cond_elim Good (ltb (length s) 2) (λ e. tt) (λ e. tt)

  service_good : Good (service_text s)
  unfolding service_text
  service_good =
      let n = get_or s 1 0 + 3 in
      cond_elim Good (ltb (length s) 2) (λ e. tt) (λ e.
      cond_elim Good (ltb (length s) n) (λ e1. tt) (λ e1.
      cond_elim Good (ltb (length s) (n + get_or s (get_or s 1 0 + 2) 0)) (λ e2. tt) (λ e2. tt)))

  event_good : Good (short_event_of s)
  unfolding short_event_of
  event_good =
      let n = get_or s 3 0 + 6 in
      cond_elim Good (ltb (length s) 4) (λ e. tt) (λ e.
      cond_elim Good (ltb (length s) n) (λ e1. tt) (λ e1.
      cond_elim Good (ltb (length s) (n + be 2 s (get_or s 3 0 + 4))) (λ e2. tt) (λ e2. tt)))

  hevc_good : Good (hevc s)
  unfolding hevc
  hevc_good = cond_elim Good (ltb (length s) 12) (λ e. tt) (λ e. tt)

  decoded_good : (tag : ℕ) → Good (descriptor_of tag s)
  unfolding descriptor_of
  decoded_good tag =
      cond_elim Good (eqb tag 0x0001) (λ e. tt) (λ e.
      cond_elim Good (eqb tag 0x8026) (λ e. timestamp_good) (λ e.
      cond_elim Good (eqb tag 0x8004) (λ e. control_good) (λ e.
      cond_elim Good (eqb tag 0x8005) (λ e. scrambler_good) (λ e.
      cond_elim Good (eqb tag 0x8011) (λ e. stream_good) (λ e.
      cond_elim Good (eqb tag 0x8019) (λ e. service_good) (λ e.
      cond_elim Good (eqb tag 0x800D) (λ e. tt) (λ e.
      cond_elim Good (eqb tag 0xF001) (λ e. event_good) (λ e.
      cond_elim Good (eqb tag 0x8012) (λ e. tt) (λ e.
      cond_elim Good (eqb tag 0x800A) (λ e. hevc_good) (λ e.
      cond_elim Good (eqb tag 0x8018) (λ e. tt) (λ e. tt)))))))))))

pub extended_timestamps : ExtendedTheorem
extended_timestamps tag s e h = rw h at (decoded_good s tag)

-- ---- access units, so many as their MPU says

module _ (s : List ℕ) (e : Extended) where
  abbrev size : ℕ
  size = unit_size_of e.own_pts_offset

  unit_leads : (n at : ℕ) → at + suc n * size ≤ length s → Leads (λ p. p + n * size ≤ length s) (unit_seen s e at)
  unfolding unit_step
  unit_leads n at h =
      let g : size ≤ length s - at = omega arith in
      rw (le-ltb (length s - at) size g) (omega arith)

  units_whole : (n at : ℕ) → at + n * size ≤ length s → (counted (unit_seen s e) n at).whole ≡ true
  units_whole = whole_by (unit_seen s e) (λ n at. at + n * size ≤ length s) unit_leads

pub units : UnitsTheorem
units s e at next m h =
    let w = mpu_lies s e.own_pts_offset h in
    let u = m.units in
    counts (unit_seen (part_of s u) e) m.access_units 0
    (units_whole (part_of s u) e m.access_units 0
    (omega
    (arith, w.within, w.counts, w.ends, length-take u.length (drop u.start s), length-drop u.start s)))
