-- What a sender that conforms to ISO/IEC 23008-1 and ARIB STD-B60 writes is read right. Assumes nothing.
use Rattle.std.specs.Prelude.{Some, Option, None}
use Prim.Native.Nat.{ℕ, ◌+◌, ◌-◌, ◌*◌, ◌/◌, ◌%◌, ◌^◌, ◌≤◌, ◌<◌}
use mathlib.Core.Path.{◌≡◌, refl, sym, ap, ◌∙◌}
use mathlib.Core.List.{List, [], ◌∷◌, ◌++◌, append_assoc, append-nil}
use mathlib.Core.Bool.{cond}
use native.Mathlib.Nat.{add-zero}
use native.Mathlib.Omega.{arith}
use lib.Dec.{leb, eqb}
use lib.ListN.{length, get_or, drop, length-append}
use lib.Seq.{take_at, drop_at, get_or-drop}
use borrow.Author.Tests.{lt-ltb, le-ltb, le-leb, lt-leb, ne_eqb, leb-true, leb-false}
use Rattle.isdb_tlv.specs.Bytes.{be}
use Rattle.isdb_tlv.specs.Fields.{Field, field, bits, packed, bytes_of, written}
use Rattle.isdb_tlv.specs.Mmtp.{fec_type_of, payload_type_of, scramble_info_of, scramble_control_of}
use Rattle.isdb_tlv.specs.Mmtp.{bits_of, entry, entries, extension_at, fixed_size, after_fixed, mmtp_of}
use Rattle.isdb_tlv.specs.Iso23008.{Fec, not_protected, source, repair, reserved_fec, fec_code_of, fec_seen}
use Rattle.isdb_tlv.specs.Iso23008.{Kind, mpu, generic_object, control_message, repair_symbol, open_kind, kind_code, kind_seen, KindConforming}
use Rattle.isdb_tlv.specs.Iso23008.{Scrambling, not_scrambled, even_key, odd_key, scrambling_code}
use Rattle.isdb_tlv.specs.Iso23008.{Entry, scrambling, other_entry, entry_type, entry_bytes}
use Rattle.isdb_tlv.specs.Iso23008.{Extension, no_extension, multi_type, other_type, Mmtp, entry_sent, entries_sent}
use Rattle.isdb_tlv.specs.Iso23008.{extension_bytes, extension_sent, extension_flag, counter_sent, counter_flag, header, front, sent}
use Rattle.isdb_tlv.specs.Iso23008.{EntryConforming, EntriesConforming, ExtensionConforming, Conforming}
use Rattle.isdb_tlv.specs.Iso23008.{scrambling_or, scrambling_in, scrambling_of, info_seen, control_seen, header_of, Theorem}
use Rattle.isdb_tlv.specs.declared.mmtp.Scramble.{Scramble}
use Rattle.isdb_tlv.specs.declared.mmtp.Scramble.TheVariants.{Absent, Bits}
use Rattle.isdb_tlv.proofs.Guards.{either}
use Rattle.isdb_tlv.proofs.Extension.{entry_at}
use Rattle.isdb_tlv.proofs.Fields.{be_one, be_high, be_behind, field_at, offset_of, length_written, read}

-- a number of two bytes and a length: an entry and an extension both start so
abbrev front_of : ℕ → List ℕ → List Field
front_of word b = field 2 word ∷ field 2 (length b) ∷ []

-- so many bytes behind it, other bytes before it and behind all
module _ (a : List ℕ) (word : ℕ) (b r : List ℕ) (fits : word < 2 ^ 16) (short : length b < 2 ^ 16) where
  of_front : (k : ℕ)
      → be (field_at k (front_of word b)).width (a ++ extension_bytes word b ++ r) (length a + offset_of k (front_of word b))
      ≡ (field_at k (front_of word b)).value
  of_front k =
      rw (append_assoc a, append_assoc (written (front_of word b)))
      (be_behind _ a _ refl _ ∙ read (front_of word b) (omega arith) k (b ++ r))

  content : drop (length a + 4) (a ++ extension_bytes word b ++ r) ≡ b ++ r
  content =
      let up = a ++ written (front_of word b) in
      let e : length up ≡ length a + 4 = rw (length-append, length_written (front_of word b)) in
      rw (append_assoc a, append_assoc (written (front_of word b)), ← append_assoc a) (drop_at up (b ++ r) (length a + 4) e)

  end_is : length (a ++ extension_bytes word b) ≡ length a + 4 + length b
  end_is = rw (length-append, length-append, length_written (front_of word b)) (omega arith)

  whole : length (a ++ extension_bytes word b ++ r) ≡ length a + 4 + length b + length r
  whole = rw (length-append, end_is)

  one_extension : extension_at (a ++ extension_bytes word b ++ r) (length a)
      ≡ cond (eqb word 0) (Some (entries b 0, length (a ++ extension_bytes word b))) (Some (Absent, length (a ++ extension_bytes word b)))
  unfolding extension_at
  one_extension =
      let s = a ++ extension_bytes word b ++ r in
      rw (le-ltb (length s - length a) 4 (omega (arith, whole)), of_front 1)
      (rw (le-ltb (length s - (length a + 4)) (length b) (omega (arith, whole)), rw add-zero at (of_front 0))
      (rw (content, take_at b r (length b) refl, ← end_is)))

-- the first byte of an entry of type 1
abbrev scrambling_byte : ℕ → Scrambling → ℕ → ℕ
scrambling_byte upper x lower = packed (bits 3 upper ∷ bits 2 (scrambling_code x) ∷ bits 3 lower ∷ [])

scrambling_fits : (x : Scrambling) → scrambling_code x < 2 ^ 2
scrambling_fits not_scrambled = omega arith
scrambling_fits even_key = omega arith
scrambling_fits odd_key = omega arith

scrambling_length : (upper : ℕ) (x : Scrambling) (lower : ℕ) (more : List ℕ)
    → length (entry_bytes (scrambling upper x lower more)) ≡ 1 + length more
scrambling_length upper x lower more = rw (length-append, length_written (field 1 (scrambling_byte upper x lower) ∷ []))

scrambling_first : (upper : ℕ) (x : Scrambling) (lower : ℕ) (more r : List ℕ) → upper < 2 ^ 3 → lower < 2 ^ 3
    → get_or (entry_bytes (scrambling upper x lower more) ++ r) 0 0 ≡ scrambling_byte upper x lower
scrambling_first upper x lower more r h g =
    let fs = field 1 (scrambling_byte upper x lower) ∷ [] in
    let f = scrambling_fits x in
    rw (append_assoc (written fs)) (be_one (written fs ++ (more ++ r)) 0 ∙ read fs (omega arith) 0 (more ++ r))

-- an entry's type and length fit their fields
entry_fits : (e : Entry) → EntryConforming e → (entry_type e < 2 ^ 15) × (length (entry_bytes e) < 2 ^ 16)
entry_fits (scrambling upper x lower more) c =
    let n = scrambling_length upper x lower more in (omega arith, omega arith)
entry_fits (other_entry type b) c = (c.0, c.2)

-- what an entry says of scrambling is read as such
abbrev told : Option Scrambling → Scramble
told None = Absent
told (Some x) = Bits (scrambling_code x)

info_told : (o : Option Scrambling) → scramble_info_of (told o) ≡ info_seen o
info_told None = refl
info_told (Some not_scrambled) = refl
info_told (Some even_key) = refl
info_told (Some odd_key) = refl

control_told_lem : (o : Option Scrambling) → scramble_control_of (told o) ≡ control_seen o
control_told_lem None = refl
control_told_lem (Some x) = refl

-- an entry with other bytes before and behind it
module _ (a : List ℕ) (end : ℕ) (flag : end < 2) (e : Entry) (c : EntryConforming e) (r : List ℕ) where
  abbrev word : ℕ
  word = packed (bits 1 end ∷ bits 15 (entry_type e) ∷ [])

  abbrev all : List ℕ
  all = a ++ entry_sent end e ++ r

  word_fits : word < 2 ^ 16
  word_fits = let h = (entry_fits e c).0 in omega arith

  first_byte : get_or all (length a) 0 ≡ word / 256 ^ 1
  first_byte =
      be_one all (length a)
      ∙ rw (append_assoc a, append_assoc (written (front_of word (entry_bytes e))), append_assoc (bytes_of 2 word))
      (ap (be 1 _) (sym (add-zero (length a))) ∙ be_behind 1 a _ refl 0 ∙ be_high 1 1 word _ (omega (arith, word_fits)))

  last : leb 128 (get_or all (length a) 0) ≡ leb 1 end
  last =
      let f = (entry_fits e c).0 in
      either (leb 1 end)
      (λ y. let h = leb-true 1 end y in rw y (le-leb 128 (get_or all (length a) 0) (omega (arith, first_byte))))
      (λ n. let h = leb-false 1 end n in rw n (lt-leb 128 (get_or all (length a) 0) (omega (arith, first_byte))))

  type_read_lem : be 2 all (length a) % 32768 ≡ entry_type e
  type_read_lem =
      let f = entry_fits e c in
      rw (rw add-zero at (of_front a word (entry_bytes e) r word_fits f.1 0)) (omega arith)

  one_entry : entries all (length a)
      ≡ cond (eqb (entry_type e) 1) (bits_of all (length a)) (cond (leb 1 end) Absent (entries all (length (a ++ entry_sent end e))))
  unfolding entry
  one_entry =
      let b = entry_bytes e in
      let short = (entry_fits e c).1 in
      let long = whole a word b r word_fits short in
      entry_at all (length a)
      ∙ rw (le-ltb (length all - length a) 4 (omega arith), type_read_lem, last)
      (rw (of_front a word b r word_fits short 1, ← end_is a word b r word_fits short)
      (either (eqb (entry_type e) 1) (λ y. rw y) (λ n. rw n (either (leb 1 end) (λ y. rw y) (λ m. rw m)))))

-- the two bits of an entry of type 1
module _ (a : List ℕ) (end : ℕ) (flag : end < 2) (upper : ℕ) (x : Scrambling) (lower : ℕ) (more r : List ℕ)
    (c : EntryConforming (scrambling upper x lower more)) where
  abbrev it : Entry
  it = scrambling upper x lower more

  bits_read : bits_of (all a end flag it c r) (length a) ≡ Bits (scrambling_code x)
  unfolding bits_of
  bits_read =
      let b = entry_bytes it in
      let s = all a end flag it c r in
      let short = (entry_fits it c).1 in
      let fits = word_fits a end flag it c r in
      let long = whole a (word a end flag it c r) b r fits short in
      let n = scrambling_length upper x lower more in
      let byte : get_or s (length a + 4) 0 ≡ scrambling_byte upper x lower =
      rw add-zero at (sym (get_or-drop (length a + 4) s 0 0))
      ∙ rw (content a (word a end flag it c r) b r fits short) (scrambling_first upper x lower more r c.0 c.1) in
      let bits : get_or s (length a + 4) 0 / 8 % 4 ≡ scrambling_code x = let f = scrambling_fits x in omega arith in
      rw (lt-ltb (length a + 4) (length s) (omega arith), bits)

entry_told : (a : List ℕ) (end : ℕ) (flag : end < 2) (e : Entry) (c : EntryConforming e) (r : List ℕ) (o : Option Scrambling)
    → cond (leb 1 end) Absent (entries (a ++ entry_sent end e ++ r) (length (a ++ entry_sent end e))) ≡ told o
    → entries (a ++ entry_sent end e ++ r) (length a) ≡ told (scrambling_or e o)
entry_told a end flag (scrambling upper x lower more) c r o h =
    one_entry a end flag (scrambling upper x lower more) c r ∙ bits_read a end flag upper x lower more r c
entry_told a end flag (other_entry type b) c r o h =
    one_entry a end flag (other_entry type b) c r ∙ rw (ne_eqb type 1 c.1) h

all_entries : (a : List ℕ) (es : List Entry) (final : Entry) → EntriesConforming es → EntryConforming final
    → entries (a ++ entries_sent es final) (length a) ≡ told (scrambling_in es final)
all_entries a [] final h c =
    rw (append-nil (a ++ entry_sent 1 final)) at (entry_told a 1 (omega arith) final c [] None refl)
all_entries a (e ∷ es) final h c =
    rw (← append_assoc a)
    (entry_told a 0 (omega arith) e h.0 (entries_sent es final) (scrambling_in es final)
    (all_entries (a ++ entry_sent 0 e) es final h.1 c))

-- what follows the fixed part `a`
after : (x : Extension) → ExtensionConforming x → (a r : List ℕ) (flags : ℕ)
    → flags / 2 % 2 ≡ extension_flag x → fixed_size flags ≡ length a
    → after_fixed (a ++ extension_sent x ++ r) flags ≡ Some (told (scrambling_of x), length (a ++ extension_sent x))
unfolding after_fixed
after no_extension h a r flags e n =
    rw (e, n) (rw append-nil (rw (le-ltb (length (a ++ r)) (length a) (omega (arith, length-append a r)))))
after (multi_type es final) h a r flags e n =
    rw (e, n) (one_extension a 0 (entries_sent es final) r (omega arith) h.2 ∙ rw (all_entries [] es final h.0 h.1))
after (other_type type b) h a r flags e n =
    rw (e, n) (one_extension a type b r h.1 h.2 ∙ rw (ne_eqb type 0 (λ z. omega arith)))

-- the two flags are bits, and the first tells where the fixed part ends
counter_told : (o : Option ℕ) → (counter_flag o < 2) × (cond (eqb (counter_flag o) 0) 12 16 ≡ 12 + length (counter_sent o))
counter_told None = (omega arith, refl)
counter_told (Some c) = (omega arith, rw (length_written (field 4 c ∷ [])))

extension_told : (x : Extension) → extension_flag x < 2
extension_told no_extension = omega arith
extension_told (multi_type es final) = omega arith
extension_told (other_type type b) = omega arith

-- the numbers fit their bits, and name what the sender named
fec_fits : (f : Fec) → fec_code_of f < 2 ^ 2
fec_fits not_protected = omega arith
fec_fits source = omega arith
fec_fits repair = omega arith
fec_fits reserved_fec = omega arith

fec_named : (f : Fec) → fec_type_of (fec_code_of f) ≡ fec_seen f
unfolding fec_type_of
fec_named not_protected = refl
fec_named source = refl
fec_named repair = refl
fec_named reserved_fec = refl

kind_fits : (k : Kind) → KindConforming k → kind_code k < 2 ^ 6
kind_fits mpu c = omega arith
kind_fits generic_object c = omega arith
kind_fits control_message c = omega arith
kind_fits repair_symbol c = omega arith
kind_fits (open_kind n) c = c.1

kind_named : (k : Kind) → KindConforming k → payload_type_of (kind_code k) ≡ kind_seen k
unfolding payload_type_of
kind_named mpu c = refl
kind_named generic_object c = refl
kind_named control_message c = refl
kind_named repair_symbol c = refl
kind_named (open_kind n) c =
    let e : n % 64 ≡ n = omega arith in
    rw (e, ne_eqb n 0 (λ h. omega arith), ne_eqb n 1 (λ h. omega arith), ne_eqb n 2 (λ h. omega arith), ne_eqb n 3 (λ h. omega arith))

-- two bits are the FEC type
fec_bits : (a b : ℕ) → fec_type_of (a * 4 + b) ≡ fec_type_of b
unfolding fec_type_of
fec_bits a b = let e : (a * 4 + b) % 4 ≡ b % 4 = omega arith in rw e

-- and six are the payload type
payload_bits : (a b : ℕ) → payload_type_of (a * 64 + b) ≡ payload_type_of b
unfolding payload_type_of
payload_bits a b = let e : (a * 64 + b) % 64 ≡ b % 64 = omega arith in rw e

abbrev fixed : Mmtp → List ℕ
fixed p = written (header p) ++ counter_sent p.packet_counter

module _ (p : Mmtp) (c : Conforming p) where
  counted : counter_flag p.packet_counter < 2
  counted = (counter_told p.packet_counter).0

  fec : fec_code_of p.fec < 2 ^ 2
  fec = fec_fits p.fec

  kind : kind_code p.kind < 2 ^ 6
  kind = kind_fits p.kind c.kind

  extended : extension_flag p.extension < 2
  extended = extension_told p.extension

  of_header : (k : ℕ) → be (field_at k (header p)).width (sent p) (offset_of k (header p)) ≡ (field_at k (header p)).value
  unfolding sent
  of_header k =
      rw (append_assoc (fixed p), append_assoc (written (header p)))
      (read (header p) (omega (arith, counted, extended, fec, kind)) k
      (counter_sent p.packet_counter ++ (extension_sent p.extension ++ p.payload)))

  first : get_or (sent p) 0 0
      ≡ counter_flag p.packet_counter * 32 + fec_code_of p.fec * 8 + p.reserved * 4 + extension_flag p.extension * 2 + p.rap
  first = omega (arith, be_one (sent p) 0 ∙ of_header 0)

  second : get_or (sent p) 1 0 ≡ p.reserved2 * 64 + kind_code p.kind
  second = omega (arith, be_one (sent p) 1 ∙ of_header 1)

  long : 12 ≤ length (sent p)
  unfolding sent
  long = rw (length-append, length-append, length-append, length_written (header p)) (omega arith)

  fixed_size_lem : fixed_size (get_or (sent p) 0 0) ≡ length (fixed p)
  fixed_size_lem =
      let e : get_or (sent p) 0 0 / 32 % 2 ≡ counter_flag p.packet_counter = omega (arith, first, counted, extended, fec) in
      rw (e, (counter_told p.packet_counter).1, length-append, length_written (header p))

  behind_fixed : after_fixed (sent p) (get_or (sent p) 0 0) ≡ Some (told (scrambling_of p.extension), length (front p))
  unfolding sent
  behind_fixed =
      let e : get_or (sent p) 0 0 / 2 % 2 ≡ extension_flag p.extension = omega (arith, first, extended, fec) in
      after p.extension c.extension (fixed p) p.payload (get_or (sent p) 0 0) e fixed_size_lem

  fields : mmtp_of (sent p) ≡ Some (record { header = header_of p; start = length (front p) })
  unfolding mmtp_of
  fields =
      let s = sent p in
      let zero : get_or s 0 0 / 64 ≡ 0 = omega (arith, first, counted, extended, fec) in
      let rap : get_or s 0 0 % 2 ≡ p.rap = omega (arith, first) in
      let eighth : get_or s 0 0 / 8 ≡ counter_flag p.packet_counter * 4 + fec_code_of p.fec = omega (arith, first, extended, fec) in
      rw (le-ltb (length s) 12 long, zero, behind_fixed, eighth, fec_bits, fec_named p.fec, rap)
      (rw (second, payload_bits, kind_named p.kind c.kind, of_header 2, of_header 4)
      (rw (info_told (scrambling_of p.extension), control_told_lem (scrambling_of p.extension))))

  payload : drop (length (front p)) (sent p) ≡ p.payload
  unfolding sent
  payload = drop_at (front p) p.payload (length (front p)) refl

pub iso23008 : Theorem
iso23008 p c = record { fields = fields p c; payload = payload p c }
