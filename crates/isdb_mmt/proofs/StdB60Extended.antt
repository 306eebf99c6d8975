-- What a sender that conforms to ARIB STD-B60 writes of an MPU extended timestamp descriptor (7.4.3.35) is read right. Assumes nothing.
use Rattle.std.specs.Prelude.{Some, Option, None}
use Rattle.std.proofs.Common.{◌≡◌, ℕ, ◌+◌, ◌-◌, ◌*◌, ◌/◌, ◌%◌, ◌<◌, ◌≤◌, Bool, true, List, [], ◌∷◌, ◌++◌, map, length, get_or, sym, refl, ap, ◌∙◌, add-zero, suc-mul, add_comm, zero-mul, arith, length-append, le-ltb, le-leb}
use lib.ListN.{length-map}
use borrow.Author.Tests.{lt-leb}
use Rattle.isdb_tlv.specs.Guards.{◌=?◌}
use Rattle.isdb_tlv.specs.Fields.{written, Fit}
use Rattle.isdb_tlv.proofs.Fields.{size, length_written}
use Rattle.isdb_mmt.specs.Formats.Part.{part_at}
use Rattle.isdb_mmt.specs.Formats.Desc.{descriptor_of, extended_timestamp}
use Rattle.isdb_mmt.specs.Formats.Timestamp.{scale_end, head_end, timescale_of, default_offset, unit_size_of, mpu_at, mpus_whole, extended_of, unit_step}
use Rattle.isdb_mmt.specs.WholeValues.Steps.{at_end, element, Counts}
use Rattle.isdb_mmt.specs.WholeValues.WholeDescriptors.{unit_seen, units_in, mpu_seen_of as mpu_stood, whole_extended}
use Rattle.isdb_mmt.specs.Standards.StdB60Sections.{All}
use Rattle.isdb_mmt.specs.declared.desc.Descriptor.TheVariants.{ExtendedTimestamp}
use Rattle.isdb_mmt.specs.declared.timestamp.Extended.{Extended}
use Rattle.isdb_mmt.specs.declared.walk_step.WalkStep.TheVariants.{End as no_mpu, Entry as an_mpu}
use Rattle.isdb_mmt.proofs.BytesAt.{FoundAt, located_whole, located_part, located_within, located_front, located_rest, field_read, first_read, byte_read}
use Rattle.isdb_mmt.proofs.BytesBehind.{found_is}
use Rattle.isdb_mmt.proofs.Timestamps.{whole_end, whole_on_lem}
use Rattle.isdb_mmt.proofs.DescriptorWalks.{extended_timestamps}
use Rattle.isdb_mmt.specs.Standards.StdB60Descriptors.{rows_sent, PtsOffsets, unsaid, same, own, offset_type, offset_fields, SentAccessUnit, access_unit_fields, access_unit_sent, access_unit_seen, SentMpu, mpu_fields, mpu_sent, MpuConforming, mpu_seen_of}
use Rattle.isdb_mmt.specs.Standards.StdB60Descriptors.{SentExtended, timescale_flag, timescale_fields, flags_fields, extended_sent, ExtendedConforming, timescale_seen, offset_seen, mpu_times_extended, BodyRead}
use Rattle.isdb_mmt.proofs.StdB60Rows.{rows_given, ends_same}

-- each access unit has a PTS offset of its own
abbrev is_own : PtsOffsets → Bool
is_own o = offset_type o =? 2

-- the head as it is read, with MPUs from `start` on
abbrev head_seen : Option ℕ → PtsOffsets → ℕ → Extended
head_seen t o start =
    record {
      timescale = timescale_seen t;
      default_pts_offset = offset_seen o;
      own_pts_offset = is_own o;
      start = start;
    }

-- access units
unit_size : (o : PtsOffsets) (u : SentAccessUnit) → length (access_unit_sent o u) ≡ unit_size_of (is_own o)
unit_size unsaid u = length_written (access_unit_fields unsaid u)
unit_size (same d) u = length_written (access_unit_fields (same d) u)
unit_size own u = length_written (access_unit_fields own u)

units_size : (o : PtsOffsets) (us : List SentAccessUnit) → length (rows_sent (access_unit_sent o) us) ≡ length us * unit_size_of (is_own o)
units_size o [] = sym (zero-mul (unit_size_of (is_own o)))
units_size o (u ∷ us) =
    rw (length-append (access_unit_sent o u) (rows_sent (access_unit_sent o) us), unit_size o u, units_size o us, suc-mul (length us) (unit_size_of (is_own o)))
    (add_comm (unit_size_of (is_own o)) (length us * unit_size_of (is_own o)))

unit_step_lem : (s : List ℕ) (t : Option ℕ) (o : PtsOffsets) (start at : ℕ) (u : SentAccessUnit) → Fit (access_unit_fields o u)
    → FoundAt s at (access_unit_sent o u)
    → unit_seen s (head_seen t o start) at ≡ element (access_unit_seen o u) (at + length (access_unit_sent o u))
unfolding unit_step
unit_step_lem s t unsaid start at u fit h =
    let fs = access_unit_fields unsaid u in
    let long = located_within (written fs) h in
    rw (length_written fs, le-ltb (length s - at) 2 (omega (arith, length_written fs)), first_read fs fit h)
unit_step_lem s t (same d) start at u fit h =
    let fs = access_unit_fields (same d) u in
    let long = located_within (written fs) h in
    rw (length_written fs, le-ltb (length s - at) 2 (omega (arith, length_written fs)), first_read fs fit h)
unit_step_lem s t own start at u fit h =
    let fs = access_unit_fields own u in
    let long = located_within (written fs) h in
    rw (length_written fs, le-ltb (length s - at) 4 (omega (arith, length_written fs)), first_read fs fit h, field_read fs fit h 1)

units_read_lem : (t : Option ℕ) (o : PtsOffsets) (start : ℕ) (us : List SentAccessUnit) → All (λ u. Fit (access_unit_fields o u)) us
    → units_in (rows_sent (access_unit_sent o) us) (head_seen t o start) (length us) ≡ map (access_unit_seen o) us
units_read_lem t o start us c =
    let s = rows_sent (access_unit_sent o) us in
    let step = unit_seen s (head_seen t o start) in
    let fits : SentAccessUnit → Type 0 = λ u. Fit (access_unit_fields o u) in
    let g = rows_given (access_unit_sent o) (access_unit_seen o) fits s step (unit_step_lem s t o start) 0 us c (located_whole s) in
    let all : Counts step (length us) 0 (map (access_unit_seen o) us) =
    record { count = length-map us (access_unit_seen o); stop = 0 + length s; gives = g } in
    found_is step all

-- an MPU that stands at `at`
module _ {s : List ℕ} {at : ℕ} (o : PtsOffsets) (m : SentMpu) (c : MpuConforming o m) (h : FoundAt s at (mpu_sent o m)) where
  abbrev units : List ℕ
  units = rows_sent (access_unit_sent o) m.units

  units_found : FoundAt s (at + 8) units
  units_found = located_rest (written (mpu_fields m)) units h (length_written (mpu_fields m))

  mpu_length : length (mpu_sent o m) ≡ 8 + length m.units * unit_size_of (is_own o)
  mpu_length = rw (length-append, length_written (mpu_fields m), units_size o m.units)

  mpu_step : mpu_at s (is_own o) at
      ≡ an_mpu
      (record {
        mpu_sequence_number = m.sequence_number;
        leap_indicator = m.leap_indicator;
        decoding_time_offset = m.decoding_time_offset;
        access_units = length m.units;
        units = part_at (at + 8) (length units);
      })
      (at + length (mpu_sent o m))
  unfolding mpu_at
  mpu_step =
      let fs = mpu_fields m in
      let fit : Fit fs = omega (arith, c.sequence_number, c.leap_indicator, c.reserved, c.decoding_time_offset, c.few) in
      let front = located_front (written fs) units h in
      let long = located_within (mpu_sent o m) h in
      let n = length m.units * unit_size_of (is_own o) in
      let all = mpu_length in
      let next : at + length (mpu_sent o m) ≡ at + 8 + n = omega arith in
      let count : get_or s (at + 7) 0 ≡ length m.units = byte_read fs fit front 3 refl in
      let leap : get_or s (at + 4) 0 / 64 ≡ m.leap_indicator = rw (byte_read fs fit front 1 refl) (omega (arith, c.leap_indicator, c.reserved)) in
      rw (lt-leb (length s) at (omega arith), le-ltb (length s - at) 8 (omega arith), count, le-ltb (length s - (at + 8)) n (omega arith))
      (rw (first_read fs fit front, leap, field_read fs fit front 2, units_size o m.units, next))

  mpu_stood_lem : (t : Option ℕ) (start : ℕ) → mpu_stood s (head_seen t o start) at ≡ element (mpu_seen_of o m) (at + length (mpu_sent o m))
  mpu_stood_lem t start = rw (mpu_step, located_part units units_found, units_read_lem t o start m.units c.units)

-- all MPUs up to the end
mpus_whole_lem : {s : List ℕ} (o : PtsOffsets) (at : ℕ) (ms : List SentMpu) → All (MpuConforming o) ms → FoundAt s at (rows_sent (mpu_sent o) ms)
    → at + length (rows_sent (mpu_sent o) ms) ≡ length s → mpus_whole s (is_own o) at ≡ true
unfolding mpu_at
mpus_whole_lem {s} o at [] c h e =
    let end : mpu_at s (is_own o) at ≡ no_mpu = rw (le-leb (length s) at (omega arith)) in
    whole_end s (is_own o) at end
mpus_whole_lem {s} o at (m ∷ ms) c h e =
    whole_on_lem s (is_own o) at (mpu_step o m c.0 (located_front (mpu_sent o m) (rows_sent (mpu_sent o) ms) h))
    ∙ mpus_whole_lem o (at + length (mpu_sent o m)) ms c.1 (located_rest (mpu_sent o m) (rows_sent (mpu_sent o) ms) h refl)
    (omega (arith, length-append (mpu_sent o m) (rows_sent (mpu_sent o) ms)))

-- the head, by its flags
scale_end_lem : (t : Option ℕ) (f : ℕ) → f % 2 ≡ timescale_flag t → scale_end f ≡ 1 + size (timescale_fields t)
scale_end_lem None f e = rw e
scale_end_lem (Some t) f e = rw e

head_end_lem : (o : PtsOffsets) (f : ℕ) → f / 2 % 4 ≡ offset_type o → head_end f ≡ scale_end f + size (offset_fields o)
head_end_lem unsaid f e = rw (e, add-zero)
head_end_lem (same d) f e = rw e
head_end_lem own f e = rw (e, add-zero)

scale_read : {s : List ℕ} (t : Option ℕ) (f : ℕ) → f % 2 ≡ timescale_flag t → Fit (timescale_fields t) → FoundAt s 1 (written (timescale_fields t))
    → timescale_of s f ≡ timescale_seen t
scale_read None f e fit h = rw e
scale_read (Some t) f e fit h = rw (e, first_read (timescale_fields (Some t)) fit h)

offset_read : {s : List ℕ} (o : PtsOffsets) (f : ℕ) → f / 2 % 4 ≡ offset_type o → Fit (offset_fields o)
    → FoundAt s (scale_end f) (written (offset_fields o)) → default_offset s f ≡ offset_seen o
offset_read unsaid f e fit h = rw e
offset_read (same d) f e fit h = rw (e, first_read (offset_fields (same d)) fit h)
offset_read own f e fit h = rw e

type_fits : (o : PtsOffsets) → offset_type o < 3
type_fits unsaid = omega arith
type_fits (same d) = omega arith
type_fits own = omega arith

flag_fits : (t : Option ℕ) → timescale_flag t < 2
flag_fits None = omega arith
flag_fits (Some t) = omega arith

module _ (e : SentExtended) (c : ExtendedConforming e) where
  abbrev s : List ℕ
  s = extended_sent e

  abbrev scale : List ℕ
  scale = written (timescale_fields e.timescale)

  abbrev offset : List ℕ
  offset = written (offset_fields e.offsets)

  abbrev mpus : List ℕ
  mpus = rows_sent (mpu_sent e.offsets) e.mpus

  abbrev start : ℕ
  start = head_end (get_or s 0 0)

  flags_fit : Fit (flags_fields e)
  flags_fit = omega (arith, type_fits e.offsets, flag_fits e.timescale, c.reserved)

  flags_read : get_or s 0 0 ≡ e.reserved * 8 + offset_type e.offsets * 2 + timescale_flag e.timescale
  flags_read =
      let front = located_front (written (flags_fields e)) (scale ++ (offset ++ mpus)) (located_whole s) in
      rw (byte_read (flags_fields e) flags_fit front 0 refl) (omega arith)

  flag_is : get_or s 0 0 % 2 ≡ timescale_flag e.timescale
  flag_is = rw flags_read (omega (arith, flag_fits e.timescale))

  type_is : get_or s 0 0 / 2 % 4 ≡ offset_type e.offsets
  type_is = rw flags_read (omega (arith, type_fits e.offsets, flag_fits e.timescale))

  behind_flags : FoundAt s 1 (scale ++ (offset ++ mpus))
  behind_flags = located_rest (written (flags_fields e)) (scale ++ (offset ++ mpus)) (located_whole s) (length_written (flags_fields e))

  behind_scale : FoundAt s (scale_end (get_or s 0 0)) (offset ++ mpus)
  behind_scale =
      rw (scale_end_lem e.timescale (get_or s 0 0) flag_is)
      (located_rest scale (offset ++ mpus) behind_flags (length_written (timescale_fields e.timescale)))

  mpus_found : FoundAt s start mpus
  mpus_found =
      rw (head_end_lem e.offsets (get_or s 0 0) type_is)
      (located_rest offset mpus behind_scale (length_written (offset_fields e.offsets)))

  mpus_last : start + length mpus ≡ length s
  mpus_last =
      let a = scale_end_lem e.timescale (get_or s 0 0) flag_is in
      let b = head_end_lem e.offsets (get_or s 0 0) type_is in
      let f = length-append (written (flags_fields e)) (scale ++ (offset ++ mpus)) in
      let g = length-append scale (offset ++ mpus) in
      let h = length-append offset mpus in
      omega (arith, length_written (flags_fields e), length_written (timescale_fields e.timescale), length_written (offset_fields e.offsets))

  abbrev head : Extended
  head = head_seen e.timescale e.offsets start

  all_whole : mpus_whole s (is_own e.offsets) start ≡ true
  all_whole = mpus_whole_lem e.offsets start e.mpus c.mpus mpus_found mpus_last

  head_read : extended_of s ≡ Some head
  unfolding extended_of
  head_read =
      let last = mpus_last in
      let there : 1 ≤ length s = omega (arith, located_within (scale ++ (offset ++ mpus)) behind_flags) in
      let within : start ≤ length s = omega arith in
      let own-whole = ap (λ (k : ℕ). mpus_whole s (k =? 2) start) type_is ∙ all_whole in
      let scales = scale_read e.timescale (get_or s 0 0) flag_is c.timescale (located_front scale (offset ++ mpus) behind_flags) in
      let offsets = offset_read e.offsets (get_or s 0 0) type_is c.offset (located_front offset mpus behind_scale) in
      rw (le-ltb (length s) 1 there, le-ltb (length s) start within, own-whole, scales, offsets, type_is)

  decoded : descriptor_of 0x8026 s ≡ ExtendedTimestamp head
  unfolding descriptor_of extended_timestamp
  decoded = rw head_read

  mpus_end : mpu_stood s head (start + length mpus) ≡ at_end
  unfolding mpu_at
  mpus_end = rw (mpus_last, le-leb (length s) (length s) (omega arith))

  mpus_read : (whole_extended s head).mpus ≡ map (mpu_seen_of e.offsets) e.mpus
  mpus_read =
      let o = e.offsets in
      let g =
      rows_given (mpu_sent o) (mpu_seen_of o) (MpuConforming o) s (mpu_stood s head) (λ at m d f. mpu_stood_lem o m d f e.timescale start) start
      e.mpus c.mpus mpus_found in
      ends_same (mpu_stood s head) (extended_timestamps 0x8026 s head decoded)
      (record { stop = start + length mpus; gives = g; ends = mpus_end })

  pub extended_read : BodyRead (mpu_times_extended e)
  extended_read = rw (decoded, mpus_read)
