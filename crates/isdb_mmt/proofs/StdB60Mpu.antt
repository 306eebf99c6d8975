-- What a sender that conforms to ARIB STD-B60 writes of an MPU payload is read right. Assumes nothing.
use Rattle.std.specs.Prelude.{Some, Option, None}
use Rattle.std.proofs.Common.{◌≡◌, ℕ, ◌+◌, ◌-◌, ◌*◌, ◌/◌, ◌%◌, ◌^◌, ◌<◌, ◌≤◌, Bool, true, false, leb, List, [], ◌∷◌, ◌++◌, map, length, get_or, drop, refl, ◌∙◌, append_assoc, append-nil, arith, length-append, take_at, drop_at, le-ltb, le-leb, leb-true}
use native.Mathlib.Nat.{add-sub_cancel_left}
use borrow.Author.Tests.{lt-leb}
use Rattle.isdb_tlv.specs.Bytes.{be}
use Rattle.isdb_tlv.specs.Fields.{bytes_of, field, written, Fit}
use Rattle.isdb_tlv.specs.Guards.{◌=?◌}
use Rattle.isdb_tlv.specs.Walk.{also}
use Rattle.isdb_tlv.proofs.Guards.{either}
use Rattle.isdb_tlv.proofs.Fields.{be_one, size, field_at, offset_of, length_written}
use Rattle.isdb_mmt.specs.Formats.Part.{part_at}
use Rattle.isdb_mmt.specs.Formats.Mpu.{fragment_type_of, indicator, payload_header, declared_of}
use Rattle.isdb_mmt.specs.Formats.Mpu.{unit_in, unit_at, unit_step, units_from, units_of}
use Rattle.isdb_mmt.specs.Decoder.Packet.{payload_unit, payload_units, units_for, media_of}
use Rattle.isdb_mmt.specs.Standards.StdB60Sections.{All}
use Rattle.isdb_mmt.specs.declared.mpu.PayloadHeader.{PayloadHeader}
use Rattle.isdb_mmt.specs.declared.mpu.Unit.{Unit as DataUnit}
use Rattle.isdb_mmt.specs.declared.walk_step.WalkStep.TheVariants.{End, Entry as found}
use Rattle.isdb_mmt.proofs.Units.{units_at}
use Rattle.isdb_mmt.proofs.BytesAt.{FoundAt, located_first, located_last, located_part, located_front, located_rest}
use Rattle.isdb_mmt.proofs.BytesAt.{field_read, first_read}
use Rattle.isdb_mmt.specs.Standards.StdB60Mpu.{UnitHeader, timed_header, untimed_header, unit_fields, timed_flag}
use Rattle.isdb_mmt.specs.Standards.StdB60Mpu.{SentUnit, unit_sent, unit_with_length, units_sent}
use Rattle.isdb_mmt.specs.Standards.StdB60Mpu.{Body, mpu_metadata, movie_fragment_metadata, one_unit_of, aggregated}
use Rattle.isdb_mmt.specs.Standards.StdB60Mpu.{body_sent, type_code, aggregation_flag}
use Rattle.isdb_mmt.specs.Standards.StdB60Mpu.{Division, complete, head, middle, last, division_code, SentPayload, header_fields, payload_sent}
use Rattle.isdb_mmt.specs.Standards.StdB60Mpu.{UnitConforming, PayloadConforming, type_seen, division_seen, header_seen}
use Rattle.isdb_mmt.specs.Standards.StdB60Mpu.{mfu_seen, item_seen, unit_seen, units_in, UnitsRead, PayloadTheorem, Examples}

-- the codes fit their bits, and name what the sender named
type_fits : (b : Body) → type_code b < 2 ^ 4
type_fits (mpu_metadata b) = omega arith
type_fits (movie_fragment_metadata b) = omega arith
type_fits (one_unit_of u) = omega arith
type_fits (aggregated us) = omega arith

aggregation_fits : (b : Body) → aggregation_flag b < 2
aggregation_fits (mpu_metadata b) = omega arith
aggregation_fits (movie_fragment_metadata b) = omega arith
aggregation_fits (one_unit_of u) = omega arith
aggregation_fits (aggregated us) = omega arith

division_fits : (d : Division) → division_code d < 2 ^ 2
division_fits complete = omega arith
division_fits head = omega arith
division_fits middle = omega arith
division_fits last = omega arith

type_read_lem : (b : Body) → fragment_type_of (type_code b) ≡ type_seen b
unfolding fragment_type_of
type_read_lem (mpu_metadata b) = refl
type_read_lem (movie_fragment_metadata b) = refl
type_read_lem (one_unit_of u) = refl
type_read_lem (aggregated us) = refl

division_read : (d : Division) (c : ℕ) → c % 4 ≡ division_code d → indicator c ≡ division_seen d
unfolding indicator
division_read complete c e = rw e
division_read head c e = rw e
division_read middle c e = rw e
division_read last c e = rw e

-- the header, with `r` behind the payload
payload_length_lem : (p : SentPayload) → length (payload_sent p) ≡ length (body_sent p.body) + 8
unfolding payload_sent
payload_length_lem p = rw (length-append, length_written (header_fields p)) (omega arith)

body_located : (p : SentPayload) → FoundAt (payload_sent p) 8 (body_sent p.body)
unfolding payload_sent
body_located p = located_last (written (header_fields p)) (body_sent p.body) (length_written (header_fields p))

module _ (p : SentPayload) (c : PayloadConforming p) (r : List ℕ) where
  abbrev s : List ℕ
  s = payload_sent p ++ r

  abbrev flags : ℕ
  flags = type_code p.body * 16 + p.timed * 8 + division_code p.division * 2 + aggregation_flag p.body

  header_fits : Fit (header_fields p)
  header_fits =
      let tf = type_fits p.body in
      let df = division_fits p.division in
      let af = aggregation_fits p.body in
      omega (arith, c.timed, c.counter, c.mpu_sequence_number, c.short)

  fields_located : FoundAt s 0 (written (header_fields p))
  unfolding payload_sent
  fields_located = located_front (written (header_fields p)) (body_sent p.body) (located_first (payload_sent p) r)

  of_header : (k : ℕ) → be (field_at k (header_fields p)).width s (0 + offset_of k (header_fields p)) ≡ (field_at k (header_fields p)).value
  of_header = field_read (header_fields p) header_fits fields_located

  flags_read : get_or s 2 0 ≡ flags
  flags_read = rw (be_one s 2, of_header 1) (omega arith)

  header_read : payload_header s ≡ Some (header_seen p)
  unfolding payload_header
  header_read =
      let n = length (body_sent p.body) in
      let long : length s ≡ n + 8 + length r = rw (length-append, payload_length_lem p) in
      let tf = type_fits p.body in
      let df = division_fits p.division in
      let af = aggregation_fits p.body in
      let kind : flags / 16 ≡ type_code p.body = omega (arith, c.timed) in
      let timed : flags / 8 % 2 ≡ p.timed = omega (arith, c.timed) in
      let division : flags / 2 % 4 ≡ division_code p.division = omega (arith, c.timed) in
      let cut : flags % 2 ≡ aggregation_flag p.body = omega arith in
      rw (le-ltb (length s) 2 (omega arith), of_header 0, le-ltb (length s) (n + 6 + 2) (omega arith), le-ltb (length s) 8 (omega arith))
      (rw (flags_read, kind, timed, division_read p.division (flags / 2) division, cut, type_read_lem p.body)
      (rw (be_one s 3, of_header 2, of_header 3)))

  declared_read : declared_of s ≡ payload_sent p
  declared_read =
      let e : length (body_sent p.body) + 6 + 2 ≡ length (payload_sent p) = omega (arith, payload_length_lem p) in
      rw (of_header 0, e) (take_at (payload_sent p) r (length (payload_sent p)) refl)

-- a unit that stands at `at`, and what is found there
abbrev unit_at_place : SentUnit → ℕ → DataUnit
unit_at_place u at =
    record {
      mfu = mfu_seen u.header;
      item_id = item_seen u.header;
      «data» = part_at (at + size (unit_fields u.header)) (length u.content);
    }

unit_length : (u : SentUnit) → length (unit_sent u) ≡ size (unit_fields u.header) + length u.content
unit_length u = rw (length-append, length_written (unit_fields u.header))

unit_found : {s : List ℕ} (h : UnitHeader) (b : List ℕ) (at : ℕ) → Fit (unit_fields h)
    → (let u : SentUnit = record { header = h; content = b } in FoundAt s at (unit_sent u)
    → unit_in s (timed_flag h =? 1) at (at + length (unit_sent u)) ≡ found (unit_at_place u at) (at + length (unit_sent u)))
unfolding unit_in
unit_found {s} (timed_header movie sample offset priority dependency) b at fits h =
    let u : SentUnit = record { header = timed_header movie sample offset priority dependency; content = b } in
    let n = length (unit_sent u) in
    let all = located_part (unit_sent u) h in
    let of = field_read (unit_fields u.header) fits (located_first (written (unit_fields u.header)) b) in
    let size = unit_length u in
    let rest : n - 14 ≡ length b = omega arith in
    rw (add-sub_cancel_left, le-ltb n 14 (omega arith), all, rest, be_one (unit_sent u) 12, be_one (unit_sent u) 13)
    (rw (of 0, of 1, of 2, of 3, of 4))
unit_found {s} (untimed_header item) b at fits h =
    let u : SentUnit = record { header = untimed_header item; content = b } in
    let n = length (unit_sent u) in
    let all = located_part (unit_sent u) h in
    let of = field_read (unit_fields u.header) fits (located_first (written (unit_fields u.header)) b) in
    let size = unit_length u in
    let rest : n - 4 ≡ length b = omega arith in
    rw (add-sub_cancel_left, le-ltb n 4 (omega arith), all, rest, of 0)

module _ (h : PayloadHeader) (s : List ℕ) (t a : Bool) where
  -- from the first unit's place on, each step looks where it stands
  step_here : (at : ℕ) → 8 ≤ at → at < length s → unit_step s t a at ≡ unit_at s t a at
  unfolding unit_step
  step_here at from within =
      either (leb at 8)
      (λ e. let l = leb-true at 8 e in let q : at ≡ 8 = omega arith in rw (le-ltb (length s) 8 (omega arith), e, q))
      (λ e. rw (le-ltb (length s) 8 (omega arith), e, lt-leb (length s) at within))

  step_end : 8 < length s → unit_step s t a (length s) ≡ End
  unfolding unit_step
  step_end long = rw (le-ltb (length s) 8 (omega arith), lt-leb (length s) 8 long, le-leb (length s) (length s) (omega arith))

  payload_also : (x : DataUnit) (o : Option (List DataUnit)) → payload_units h s (also x o) ≡ also (payload_unit h s x) (payload_units h s o)
  payload_also x None = refl
  payload_also x (Some l) = refl

  no_more : 8 < length s → payload_units h s (units_from s t a (length s)) ≡ Some []
  no_more long = rw (units_at s t a (length s), step_end long)

  one_more : (at next : ℕ) (x : DataUnit) → unit_step s t a at ≡ found x next
      → payload_units h s (units_from s t a at) ≡ also (payload_unit h s x) (payload_units h s (units_from s t a next))
  one_more at next x e = rw (units_at s t a at, e) (payload_also x (units_from s t a next))

-- the units of a payload `p`, in bytes `s`
module _ (p : SentPayload) (s : List ℕ) where
  unit_view : (u : SentUnit) (at : ℕ) → FoundAt s at (unit_sent u)
      → payload_unit (header_seen p) s (unit_at_place u at) ≡ unit_seen p.division u
  unit_view u at h =
      let fs = unit_fields u.header in
      rw (located_part u.content (located_rest (written fs) u.content h (length_written fs)))

  -- a unit that fills the bytes from `at` to `end`
  unit_read : (u : SentUnit) → UnitConforming p.timed u → (at end : ℕ) → at + length (unit_sent u) ≡ end → FoundAt s at (unit_sent u)
      → unit_in s (p.timed =? 1) at end ≡ found (unit_at_place u at) end
  unit_read u c at end e h = rw (c.kind, e) at (unit_found u.header u.content at c.fields h)

  one_read : (u : SentUnit) → UnitConforming p.timed u → FoundAt s 8 (unit_sent u) → 8 + length (unit_sent u) ≡ length s → 8 < length s
      → payload_units (header_seen p) s (units_from s (p.timed =? 1) false 8) ≡ Some (unit_seen p.division u ∷ [])
  unfolding unit_at
  one_read u c h e long =
      let t = p.timed =? 1 in
      let here : unit_step s t false 8 ≡ found (unit_at_place u 8) (length s) =
      step_here (header_seen p) s t false 8 (omega arith) long ∙ unit_read u c 8 (length s) e h in
      one_more (header_seen p) s t false 8 (length s) (unit_at_place u 8) here
      ∙ rw (unit_view u 8 h, no_more (header_seen p) s t false long)

  units_read_lem : (us : List SentUnit) → All (UnitConforming p.timed) us → (at : ℕ) → 8 ≤ at → 8 < at + length us
      → FoundAt s at (units_sent us) → at + length (units_sent us) ≡ length s → length s < 2 ^ 16 + 2
      → payload_units (header_seen p) s (units_from s (p.timed =? 1) true at) ≡ Some (map (unit_seen p.division) us)
  unfolding unit_at
  units_read_lem [] c at from any h e short =
      let q : at ≡ length s = omega arith in rw q (no_more (header_seen p) s (p.timed =? 1) true (omega arith))
  units_read_lem (u ∷ us) c at from any h e short =
      let t = p.timed =? 1 in
      let n = length (unit_sent u) in
      let end = at + 2 + n in
      let length_field = field 2 n ∷ [] in
      let here = located_front (unit_with_length u) (units_sent us) h in
      let front = located_front (written length_field) (unit_sent u) here in
      let unit : FoundAt s (at + 2) (unit_sent u) = located_rest (written length_field) (unit_sent u) here (length_written length_field) in
      let whole : length (unit_with_length u) ≡ 2 + n = rw (length-append (written length_field) (unit_sent u), length_written length_field) in
      let all = length-append (unit_with_length u) (units_sent us) in
      let size = unit_length u in
      let len : be 2 s at ≡ n = first_read length_field (omega arith) front in
      let step : unit_at s t true at ≡ found (unit_at_place u (at + 2)) end =
      rw (le-ltb (length s - at) 2 (omega arith), len)
      (rw (le-ltb (length s - (at + 2)) n (omega arith)) (unit_read u c.0 (at + 2) end refl unit)) in
      let next : FoundAt s end (units_sent us) =
      let q : at + (2 + n) ≡ end = omega arith in rw q at (located_rest (unit_with_length u) (units_sent us) h whole) in
      one_more (header_seen p) s t true at end (unit_at_place u (at + 2)) (step_here (header_seen p) s t true at from (omega arith) ∙ step)
      ∙ rw (unit_view u (at + 2) unit, units_read_lem us c.1 end (omega arith) (omega arith) next (omega arith) short)

-- a unit has a header
header_some : (h : UnitHeader) → 0 < size (unit_fields h)
header_some (timed_header movie sample offset priority dependency) = omega arith
header_some (untimed_header item) = omega arith

-- a payload by its body's kind
abbrev with_body : SentPayload → Body → SentPayload
with_body p b =
    record { timed = p.timed; division = p.division; counter = p.counter; mpu_sequence_number = p.mpu_sequence_number; body = b }

module _ (p : SentPayload) where
  body_cut : (b : Body) → PayloadConforming (with_body p b) → UnitsRead (with_body p b) b
  unfolding units_of
  body_cut (mpu_metadata b) c = tt
  body_cut (movie_fragment_metadata b) c = tt
  body_cut (one_unit_of u) c =
      let q = with_body p (one_unit_of u) in
      let long = payload_length_lem q in
      one_read q (payload_sent q) u c.body (body_located q) (omega arith) (omega (arith, unit_length u, header_some u.header))
  body_cut (aggregated us) c =
      let q = with_body p (aggregated us) in
      let long = payload_length_lem q in
      units_read_lem q (payload_sent q) us c.body.1 8 (omega arith) (omega (arith, c.body.0)) (body_located q) (omega arith)
      (omega (arith, c.short))

  -- so the decoder has the sender's units
  units_had : (b : Body) → UnitsRead (with_body p b) b
      → units_for (header_seen (with_body p b)) (type_seen b) (payload_sent (with_body p b)) ≡ Some (map (unit_seen p.division) (units_in b))
  units_had (mpu_metadata b) r = refl
  units_had (movie_fragment_metadata b) r = refl
  units_had (one_unit_of u) r = r
  units_had (aggregated us) r = r

  behind_header : (r : List ℕ) → drop 8 (payload_sent p ++ r) ≡ body_sent p.body ++ r
  unfolding payload_sent
  behind_header r =
      rw (append_assoc (written (header_fields p)) (body_sent p.body) r)
      (drop_at (written (header_fields p)) (body_sent p.body ++ r) 8 (length_written (header_fields p)))

pub payloads : PayloadTheorem
unfolding media_of
payloads p c r =
    let units = body_cut p p.body c in
    record {
      header = header_read p c r;
      declared = declared_read p c r;
      body = rw (append-nil (payload_sent p), append-nil (body_sent p.body)) at (behind_header p []);
      units = units;
      media = λ h. rw (header_read p c r, declared_read p c r, units_had p p.body units, behind_header p r);
    }

pub examples_conform : Examples
unfolding payload_sent bytes_of
examples_conform = record { conform = (omega arith, (omega arith, (omega arith, (omega arith, (omega arith, tt))))); bytes = refl }
