-- What a sender that conforms to ARIB STD-B60 writes of TLV-SI descriptors is read right. Assumes nothing.
use Rattle.std.specs.Prelude.{Some}
use Rattle.std.proofs.Common.{◌≡◌, ℕ, suc, ◌+◌, ◌-◌, ◌*◌, ◌/◌, ◌%◌, ◌^◌, ◌<◌, ◌≤◌, List, length, get_or, refl, ap, ◌∙◌, pow-suc, div-add-mod', arith, length-append, le-ltb, lt-ltb}
use native.Mathlib.Nat.{div-div-eq-div-mul}
use Rattle.isdb_tlv.specs.Fields.{bytes_of, written, Fit}
use Rattle.isdb_tlv.proofs.Fields.{be_one, field_at, offset_of, length_written}
use Rattle.isdb_mmt.specs.Formats.Nit.{tlv_step_at, digit, bcd_from, frequency_of, whole_body}
use Rattle.isdb_mmt.specs.WholeValues.Steps.{at_end, element}
use Rattle.isdb_mmt.specs.WholeValues.WholeDescriptors.{tlv_seen as tlv_stood}
use Rattle.isdb_mmt.proofs.BytesAt.{FoundAt, located_whole, located_part, located_within, located_front, located_rest, first_read, byte_read}
use Rattle.isdb_mmt.proofs.DescriptorWalks.{rows}
use Rattle.isdb_mmt.proofs.Nits.{bcd_on}
use Rattle.isdb_mmt.specs.Standards.StdB60Descriptors.{rows_sent}
use Rattle.isdb_mmt.specs.Standards.StdB60Tlv.{SentSatellite, digit_of, two_digits, satellite_fields, SatelliteConforming, SentTlv, network, services, satellite, tlv_tag, tlv_body, tlv_fields, tlv_sent, TlvConforming, tlv_seen, TlvTheorem, TlvLoopTheorem, Examples}
use Rattle.isdb_mmt.proofs.StdB60Rows.{rows_given, ends_same}
use Rattle.isdb_mmt.proofs.StdB60Descriptors.{listed_whole}

-- a number is its higher digits and one more
one_digit : (v k : ℕ) → v / 10 ^ suc k * 10 + digit_of v k ≡ v / 10 ^ k
one_digit v k = rw (pow-suc 10 k, ← div-div-eq-div-mul v (10 ^ k) 10) (div-add-mod' (v / 10 ^ k) 10)

digit_le : (v k : ℕ) → digit_of v k ≤ 9
digit_le v k = omega arith

-- two digits in a byte
module _ {b : ℕ} (v j k : ℕ) (h : b ≡ (two_digits v j k).value) where
  high_digit : digit_of v j ≡ b / 16
  high_digit = let a = digit_le v j in let b = digit_le v k in rw h (omega arith)

  low_digit : digit_of v k ≡ b % 16
  low_digit = let a = digit_le v j in let b = digit_le v k in rw h (omega arith)

module _ (x : SentSatellite) (c : SatelliteConforming x) where
  abbrev s : List ℕ
  s = written (satellite_fields x)

  abbrev v : ℕ
  v = x.frequency

  fits : Fit (satellite_fields x)
  fits =
      let d = digit_le v in
      omega
      (arith, d 7, d 6, d 5, d 4, d 3, d 2, d 1, d 0, c.orbital_position, c.west_east, c.polarisation, c.modulation, c.symbol_rate, c.fec_inner)

  byte : (k : ℕ) → (field_at k (satellite_fields x)).width ≡ 1 → get_or s (0 + offset_of k (satellite_fields x)) 0 ≡ (field_at k (satellite_fields x)).value
  byte = byte_read (satellite_fields x) fits (located_whole s)

  -- behind each digit: the digits so far
  on : (i k : ℕ) → bcd_from i s ≡ Some (v / 10 ^ suc k) → digit_of v k ≡ digit s i → bcd_from (i + 1) s ≡ Some (v / 10 ^ k)
  on i k e d = bcd_on s i e d (digit_le v k) ∙ ap Some (one_digit v k)

  digits_read : bcd_from 8 s ≡ Some v
  digits_read =
      let none_yet : 0 ≡ v / 10 ^ 8 = omega (arith, c.frequency) in
      let all : v / 10 ^ 0 ≡ v = omega arith in
      on 7 0
      (on 6 1
      (on 5 2
      (on 4 3
      (on 3 4
      (on 2 5
      (on 1 6
      (on 0 7 (ap Some none_yet) (high_digit v 7 6 (byte 0 refl)))
      (low_digit v 7 6 (byte 0 refl)))
      (high_digit v 5 4 (byte 1 refl)))
      (low_digit v 5 4 (byte 1 refl)))
      (high_digit v 3 2 (byte 2 refl)))
      (low_digit v 3 2 (byte 2 refl)))
      (high_digit v 1 0 (byte 3 refl)))
      (low_digit v 1 0 (byte 3 refl))
      ∙ ap Some all

  frequency_read : frequency_of 0x43 s ≡ Some (v * 10)
  unfolding frequency_of
  frequency_read = rw (le-ltb (length s) 4 (omega (arith, length_written (satellite_fields x))), digits_read)

pub tlvs : TlvTheorem
unfolding frequency_of whole_body
tlvs (network name) c = record { name = rw (located_part name (located_whole name)); services = refl; frequency = refl }
tlvs (services xs) c =
    let s = tlv_body (services xs) in
    record { name = refl; services = rw (located_part s (located_whole s), listed_whole xs c); frequency = refl }
tlvs (satellite x) c = record { name = refl; services = refl; frequency = frequency_read x c }

-- a descriptor that stands at `at`
tlv_step : (s : List ℕ) (at : ℕ) (d : SentTlv) → TlvConforming d → FoundAt s at (tlv_sent d)
    → tlv_stood s at ≡ element (tlv_seen d) (at + length (tlv_sent d))
unfolding tlv_step_at
tlv_step s at d c h =
    let fs = tlv_fields d in
    let n = length (tlv_body d) in
    let tag = tag_fits d in
    let short = c.short in
    let fit : Fit fs = omega (arith, tag, short) in
    let front = located_front (written fs) (tlv_body d) h in
    let body = located_rest (written fs) (tlv_body d) h (length_written fs) in
    let long = located_within (tlv_body d) body in
    let size : get_or s (at + 1) 0 ≡ n = byte_read fs fit front 1 refl in
    let kind : get_or s at 0 ≡ tlv_tag d = be_one s at ∙ first_read fs fit front in
    let next : at + length (tlv_sent d) ≡ at + 2 + n = omega (arith, length-append (written fs) (tlv_body d), length_written fs) in
    rw (le-ltb (length s - at) 2 (omega arith), size, le-ltb (length s - (at + 2)) n (omega arith), kind)
    (rw (located_part (tlv_body d) body, next))
  where
    tag_fits : (d : SentTlv) → tlv_tag d < 2 ^ 8
    tag_fits (network name) = omega arith
    tag_fits (services xs) = omega arith
    tag_fits (satellite x) = omega arith

pub tlv_loops : TlvLoopTheorem
unfolding tlv_step_at
tlv_loops ds c =
    let s = rows_sent tlv_sent ds in
    let g = rows_given tlv_sent tlv_seen TlvConforming s (tlv_stood s) (tlv_step s) 0 ds c (located_whole s) in
    let end : tlv_stood s (0 + length s) ≡ at_end = rw (lt-ltb (length s - (0 + length s)) 2 (omega arith)) in
    ends_same (tlv_stood s) (rows s).tlvs (record { stop = 0 + length s; gives = g; ends = end })

pub examples_conform : Examples
unfolding bytes_of
examples_conform = record { conform = (record { body = tt; short = omega arith }, (omega arith, (omega arith, tt))); bytes = refl }
