-- The tests that tell a plain packet: what each return of the code says, and what an answer yes says of the packet, its payload and its
-- place. Assumes nothing.
use Rattle.std.specs.Prelude.{None, Option, Some}
use Rattle.std.proofs.Common.{◌≡◌, ℕ, zero, suc, ◌+◌, ◌-◌, ◌*◌, ◌/◌, ◌%◌, ◌<◌, ◌≤◌, Bool, true, false, not, eqb, ltb, leb, List, [], ◌∷◌, length, get_or, take, drop, sym, refl, ap, ◌∙◌, add-zero, mul-zero, mul-suc, arith, length-drop, length-take-le, get_or-drop, take_all, get_or-take, drop-drop, w32, w64, Fits, ltb-false, le-ltb, eqb-true, le-leb, leb-false}
use borrow.Author.Tests.{lt-leb, eqb-false}
use Rattle.isdb_tlv.specs.Bytes.{be}
use Rattle.isdb_tlv.proofs.Numbers.{be_take, be_drop}
use Rattle.isdb_tlv.proofs.Guards.{either}
use Rattle.isdb_tlv.specs.Walk.{also}
use Rattle.isdb_tlv.specs.Tlv.{packet_type}
use Rattle.isdb_tlv.specs.Ip.{datagram, context_id, compressed_of}
use Rattle.isdb_tlv.specs.Mmtp.{payload_type_of, after_fixed, header_of, mmtp_of}
use Rattle.isdb_tlv.specs.declared.tlv.PacketType.TheVariants.{Compressed}
use Rattle.isdb_tlv.specs.declared.mmtp.Header.{Header}
use Rattle.isdb_tlv.specs.declared.mmtp.PayloadType.TheVariants.{Mpu}
use Rattle.isdb_tlv.specs.declared.mmtp.Scramble.TheVariants.{Absent}
use Rattle.isdb_mmt.specs.Decoder.Packet.{Bytes, media, media_of, by_type, mmtp_in, datagram_in, by_kind, classify}
use Rattle.isdb_mmt.specs.Formats.Part.{part_of}
use Rattle.isdb_mmt.specs.Formats.Mpu.{fragment_type_of, indicator, payload_header_fields, payload_header, declared_of, mfu_at, timed_unit, unit_in, unit_at, unit_step, units_from, units_of, follows}
use Rattle.isdb_mmt.specs.Memory.Layout.{most_media_ids, used_place, media_places, media_size, held_place, object_place}
use Rattle.isdb_mmt.specs.Memory.Lent.{flag, names_from, found_from}
use Rattle.isdb_mmt.specs.Memory.Session.{limits_of, used_of, held_object_at, media_place_of, media_at}
use Rattle.isdb_mmt.specs.Memory.Check.{PlacesThere}
use Rattle.isdb_mmt.specs.Pushes.MediaPush.{media_place_for}
use Rattle.isdb_mmt.specs.Pushes.Plain.{payload_start, whole_unit, middle_part, is_mpu, is_unit, is_next, growing, plain_header, NextAt, FreeHeader, CanGrow, GrownAt}
use Rattle.isdb_mmt.specs.declared.mpu.FragmentType.TheVariants.{Mfu}
use Rattle.isdb_mmt.specs.declared.mpu.FragmentationIndicator.{FragmentationIndicator}
use Rattle.isdb_mmt.specs.declared.mpu.FragmentationIndicator.TheVariants.{Complete, Middle}
use Rattle.isdb_mmt.specs.declared.mpu.PayloadHeader.{PayloadHeader}
use Rattle.isdb_mmt.specs.declared.mpu.Unit.{Unit as DataUnit}
use Rattle.isdb_mmt.specs.declared.walk_step.WalkStep.TheVariants.{End, Entry as found}
use Rattle.isdb_mmt.specs.declared.decoder.media.Media.{Media}
use Rattle.isdb_mmt.specs.declared.decoder.place.PlaceFor.TheVariants.{Own}
use Rattle.isdb_mmt.proofs.Guards.{yes, was_left, was_guarded}
use Rattle.isdb_mmt.proofs.Lent.{name_of}
use Rattle.isdb_mmt.proofs.Names.{true_not_false, there, index_in, place_for_old}
use Rattle.isdb_mmt.proofs.PlacesFor.{place_for_was_old}
use Rattle.isdb_mmt.proofs.Units.{units_also, units_at}

-- ---- the packet

-- what is known of it
pub record MpuFacts (kind : ℕ) (b : Bytes) : Type 0 where
  pub kind_is : kind ≡ 3
  pub long : 15 ≤ length b
  pub header : get_or b 2 0 ≡ 0x61
  pub flags : get_or b 3 0 < 32
  pub extension : eqb (get_or b 3 0 / 2 % 2) 1 ≡ false
  pub type_is : eqb (get_or b 4 0 % 64) 0 ≡ true

pub mpu_facts : (kind : ℕ) (b : Bytes) → is_mpu kind b ≡ true → MpuFacts kind b
unfolding is_mpu
mpu_facts kind b e =
    let a1 = was_guarded (eqb kind 3) _ e in
    let a2 = was_left (ltb (length b) 15) _ a1.1 in
    let a3 = was_guarded (eqb (get_or b 2 0) 0x61) _ a2.1 in
    let a4 = was_left (leb 32 (get_or b 3 0)) _ a3.1 in
    let a5 = was_left (eqb (get_or b 3 0 / 2 % 2) 1) _ a4.1 in
    record {
      kind_is = eqb-true kind 3 a1.0;
      long = ltb-false (length b) 15 a2.0;
      header = eqb-true (get_or b 2 0) 0x61 a3.0;
      flags = leb-false 32 (get_or b 3 0) a4.0;
      extension = a5.0;
      type_is = a5.1;
    }

-- it is a media packet
module _ (kind : ℕ) (b : Bytes) (f : MpuFacts kind b) where
  kind_read : packet_type kind ≡ Compressed
  unfolding packet_type
  kind_read = rw f.kind_is

  ip_read : compressed_of b ≡ datagram (Some (context_id b)) None 3
  unfolding compressed_of
  ip_read = rw (le-ltb (length b) 3 (omega (arith, f.long)), f.header)

  abbrev flags : ℕ
  flags = get_or b 3 0

  abbrev read : Header
  read = header_of (drop 3 b) flags Absent

  mmtp_read : mmtp_of (drop 3 b) ≡ Some (record { header = read; start = 12 })
  unfolding mmtp_of after_fixed
  mmtp_read =
      let n : 12 ≤ length (drop 3 b) = omega (arith, length-drop 3 b, f.long) in
      let v : flags / 64 ≡ 0 = omega (arith, f.flags) in
      let c : flags / 32 % 2 ≡ 0 = omega (arith, f.flags) in
      let x : flags / 2 % 2 ≡ 0 = omega (arith, eqb-false (flags / 2 % 2) 1 f.extension) in
      rw (le-ltb (length (drop 3 b)) 12 n, get_or-drop 3 b 0 0, v, x, c, le-ltb (length (drop 3 b)) 12 n)

  type_read_lem : payload_type_of (get_or (drop 3 b) 1 0) ≡ Mpu
  unfolding payload_type_of
  type_read_lem = rw (get_or-drop 3 b 1 0, f.type_is)

  header_read : media_of read (drop 12 (drop 3 b)) ≡ media_of (plain_header b) (drop payload_start b)
  unfolding media_of
  header_read = rw (be_drop 2 3 b 2, be_drop 4 3 b 8, drop-drop 12 3 b)

  pub plain_media : classify kind b ≡ media (media_of (plain_header b) (drop payload_start b))
  unfolding classify
  plain_media =
      ap (by_kind b) kind_read
      ∙ ap (datagram_in b) ip_read
      ∙ ap (mmtp_in (drop 3 b)) mmtp_read
      ∙ ap (by_type read (drop 12 (drop 3 b))) type_read_lem
      ∙ ap media header_read

-- ---- the payload

pub record UnitFacts (flags : ℕ) (p : Bytes) : Type 0 where
  pub long : 22 ≤ length p
  pub whole : 20 ≤ be 2 p 0
  pub there : be 2 p 0 + 2 ≤ length p
  pub flags_are : get_or p 2 0 ≡ flags

pub unit_facts : (flags : ℕ) (p : Bytes) → is_unit flags p ≡ true → UnitFacts flags p
unfolding is_unit
unit_facts flags p e =
    let a1 = was_left (ltb (length p) 22) _ e in
    let a2 = was_left (ltb (be 2 p 0) 20) _ a1.1 in
    let a3 = was_left (ltb (length p) (be 2 p 0 + 2)) _ a2.1 in
    record {
      long = ltb-false (length p) 22 a1.0;
      whole = ltb-false (be 2 p 0) 20 a2.0;
      there = ltb-false (length p) (be 2 p 0 + 2) a3.0;
      flags_are = eqb-true (get_or p 2 0) flags a3.1;
    }

-- so the length of its data is no less than 0
pub data_there : (flags : ℕ) (p : Bytes) → is_unit flags p ≡ true → (n : ℕ) → n ≡ be 2 p 0 → 20 ≤ n
data_there flags p e n d = rw d (unit_facts flags p e).whole

pub record HeaderFacts (p : Bytes) (f : FragmentationIndicator) (x : PayloadHeader) : Type 0 where
  pub kind : x.fragment_type ≡ Mfu
  pub timed : x.timed ≡ true
  pub division : x.fragmentation ≡ f
  pub single : x.aggregated ≡ false
  pub mpu : x.mpu_sequence_number ≡ be 4 p 4

pub whole_facts : (p : Bytes) → is_unit whole_unit p ≡ true → HeaderFacts p Complete (payload_header_fields p)
unfolding fragment_type_of indicator
whole_facts p e =
    let f = (unit_facts whole_unit p e).flags_are in
    record { kind = rw f; timed = rw f; division = rw f; single = rw f; mpu = refl }

pub middle_facts : (p : Bytes) → is_unit middle_part p ≡ true → HeaderFacts p Middle (payload_header_fields p)
unfolding fragment_type_of indicator
middle_facts p e =
    let f = (unit_facts middle_part p e).flags_are in
    record { kind = rw f; timed = rw f; division = rw f; single = rw f; mpu = refl }

module _ (flags : ℕ) (p : Bytes) (e : is_unit flags p ≡ true) where
  pub unit_header : payload_header p ≡ Some (payload_header_fields p)
  unfolding payload_header
  unit_header =
      let f = unit_facts flags p e in
      rw (le-ltb (length p) 2 (omega (arith, f.long)), le-ltb (length p) (be 2 p 0 + 2) f.there, le-ltb (length p) 8 (omega (arith, f.long)))

  abbrev q : Bytes
  q = declared_of p

  pub declared_long : length q ≡ be 2 p 0 + 2
  declared_long = length-take-le (be 2 p 0 + 2) p (unit_facts flags p e).there

  pub unit_there : 22 ≤ length q
  unit_there = omega (arith, declared_long, (unit_facts flags p e).whole)

-- the one unit of declared bytes that are long enough for its header
module _ (q : Bytes) (long : 22 ≤ length q) where
  abbrev pub unit_here : DataUnit
  unit_here = timed_unit q 8 (length q)

  first_step : unit_step q true false 8 ≡ found unit_here (length q)
  unfolding unit_step unit_at unit_in
  first_step = rw (le-ltb (length q) 8 (omega arith), le-ltb (length q - 8) 14 (omega arith))

  last_step : unit_step q true false (length q) ≡ End
  unfolding unit_step
  last_step = rw (le-ltb (length q) 8 (omega arith), lt-leb (length q) 8 (omega arith), le-leb (length q) (length q) (omega arith))

  none_behind : units_from q true false (length q) ≡ Some []
  none_behind = units_at q true false (length q) ∙ rw last_step

  pub one_unit : units_of q true false ≡ Some (unit_here ∷ [])
  unfolding units_of
  one_unit =
      units_also q true false 8 (length q) unit_here (found unit_here (length q)) (sym first_step) refl
      ∙ ap (also unit_here) none_behind

  pub unit_data : part_of q unit_here.«data» ≡ drop 22 q
  unit_data = take_all (length q - 8 - 14) (drop 22 q) (rw length-drop (omega arith))

  pub unit_length : length (part_of q unit_here.«data») ≡ length q - 22
  unit_length = ap length unit_data ∙ length-drop 22 q

  -- its header stands at 8
  pub header_at : mfu_at (take (length q - 8) (drop 8 q))
      ≡ record { movie_fragment_sequence_number = be 4 q 8; sample_number = be 4 q 12; offset = be 4 q 16; priority = get_or q 20 0; dependency_counter = get_or q 21 0 }
  header_at =
      λ i.
      record {
        movie_fragment_sequence_number = (be_take 4 (length q - 8) (drop 8 q) 0 (omega arith) ∙ be_drop 4 8 q 0) i;
        sample_number = (be_take 4 (length q - 8) (drop 8 q) 4 (omega arith) ∙ be_drop 4 8 q 4) i;
        offset = (be_take 4 (length q - 8) (drop 8 q) 8 (omega arith) ∙ be_drop 4 8 q 8) i;
        priority = (get_or-take (length q - 8) (drop 8 q) 12 0 (omega arith) ∙ get_or-drop 8 q 12 0) i;
        dependency_counter = (get_or-take (length q - 8) (drop 8 q) 13 0 (omega arith) ∙ get_or-drop 8 q 13 0) i;
      }

-- ---- the place

pub record NextFacts (m : Media) (n mpu : ℕ) : Type 0 where
  pub seen : m.seen ≡ true
  pub mpu_seen : m.mpu_seen ≡ true
  pub same : m.mpu ≡ mpu
  pub follows_on : follows m.sequence n ≡ true

pub next_facts : (m : Media) (n mpu : ℕ) → is_next m n mpu ≡ true → NextFacts m n mpu
unfolding is_next
next_facts m n mpu e =
    let a1 = was_guarded m.seen _ e in
    let a2 = was_guarded m.mpu_seen _ a1.1 in
    let a3 = was_guarded (eqb m.mpu mpu) _ a2.1 in
    record { seen = a1.0; mpu_seen = a2.0; same = eqb-true m.mpu mpu a3.0; follows_on = a3.1 }

pub next_index : (l : List ℕ) (id n mpu i : ℕ) (f : Option ℕ) → NextAt l id n mpu f → f ≡ Some i → i < most_media_ids
next_index l id n mpu i f w e = let h : NextAt l id n mpu (Some i) = rw e at w in h.1.1

-- the object that it holds
pub record GrowingFacts (m : Media) : Type 0 where
  pub held : m.held ≡ true
  pub timed : m.object.timed ≡ true
  pub no_item : m.object.item ≡ false

pub growing_facts : (m : Media) → growing m ≡ true → GrowingFacts m
unfolding growing
growing_facts m e =
    let a1 = was_guarded m.held _ e in
    let a2 = was_guarded m.object.timed _ a1.1 in
    record { held = a1.0; timed = a2.0; no_item = is_false m.object.item a2.1 }
  where
    is_false : (b : Bool) → not b ≡ true → b ≡ false
    is_false false h = refl
    is_false true h = sym h

-- its length with `n` bytes more
module _ (l : List ℕ) (i n : ℕ) (can : CanGrow l i n) (p : List ℕ) (ep : p ≡ take media_size (drop (media_places + media_size * i) l)) (r : Bool) (er : r ≡ growing (media_place_of p)) (t : not r ≡ false)
    (o : ℕ) (eo : o ≡ be 4 p (object_place + 25)) (a : ℕ) (ea : a ≡ be 8 l 24) (h : o + n ≤ a) where
  pub length_cast : Fits w32 (o + n)
  unfolding limits_of
  length_cast = record { fits = omega (arith, ea, can.area, h) }

  pub has_grown : GrownAt l i n (Some (o + n))
  unfolding limits_of media_place_of held_object_at
  has_grown = (
    ap (λ (v : List ℕ). growing (media_place_of v)) (sym ep) ∙ yes er t,
    (ap (λ v. v + n) (eo ∙ ap (λ (v : List ℕ). be 4 v (object_place + 25)) ep), omega (arith, ea, h)),
  )

-- a payload's header
module _ (l : List ℕ) (i : ℕ) (b : Bytes) (p : List ℕ) (ep : p ≡ take media_size (drop (media_places + media_size * i) l)) (r : Bool) (er : r ≡ flag p held_place) (free : r ≡ false) where
  none_here : (media_at l i).held ≡ false
  unfolding media_place_of
  none_here = ap (λ (v : List ℕ). flag v held_place) (sym ep) ∙ sym er ∙ free

  pub free_header : (h : Option PayloadHeader) → h ≡ payload_header b → FreeHeader l i b h
  free_header None e = tt
  free_header (Some x) e = (none_here, sym e)

-- a name that was found stands there
pub found_name : (l : List ℕ) (size n at k x j : ℕ) → found_from k (names_from n size at l) x ≡ Some j
    → (k ≤ j) × ((j < k + n) × (be 4 l (at + size * (j - k)) ≡ x))
unfolding found_from names_from
found_name l size zero at k x j e = true_not_false true refl (ap there (sym e))
found_name l size (suc n) at k x j e =
    either (eqb (be 4 l at) x)
    (λ t.
    let s : k ≡ j = ap index_in (rw t at e) in
    let y : j - k ≡ 0 = omega arith in
    let z : at + size * (j - k) ≡ at = rw (y, mul-zero) (add-zero at) in
    (omega arith, (omega arith, rw z (eqb-true (be 4 l at) x t))))
    (λ t.
    let r = found_name l size n (at + size) (k + 1) x j (rw t at e) in
    let y : j - k ≡ suc (j - (k + 1)) = omega (arith, r.0) in
    let z : at + size * (j - k) ≡ at + size + size * (j - (k + 1)) = rw (y, mul-suc) (omega arith) in
    (omega (arith, r.0), (omega (arith, r.1.0), rw z r.1.1)))

module _ (s : List ℕ) (id i : ℕ) (own : media_place_for s id ≡ Own i) where
  own_name : (0 ≤ i) × ((i < 0 + (used_of s).media_ids) × (be 4 s (media_places + media_size * (i - 0)) ≡ id))
  unfolding media_place_for
  own_name =
      found_name s media_size (used_of s).media_ids media_places 0 id i
      (place_for_was_old (names_from (used_of s).media_ids media_size media_places s) (limits_of s).media_ids id i own)

  pub own_id : (media_at s i).packet_id ≡ id
  unfolding media_place_of
  own_id =
      let z : i - 0 ≡ i = omega arith in
      name_of 4 media_size (media_places + media_size * i) s (omega arith) ∙ (rw z at own_name.1.1)

-- the code that finds a place
module _ (s : List ℕ) (can : PlacesThere s) where
  pub used_there : used_place + 4 ≤ length s
  used_there = omega (arith, can.long)

module _ (s : List ℕ) (can : PlacesThere s) (k : ℕ) (ek : k ≡ be 4 s used_place) where
  k_is : k ≡ (used_of s).media_ids
  unfolding used_of
  k_is = ek

  few : k ≤ most_media_ids
  few = rw k_is can.media

  pub places_in : (4 ≤ media_size) × (media_places + k * media_size ≤ length s)
  places_in = (omega arith, omega (arith, few, can.long))

  module _ (id : ℕ) (f : Option ℕ) (ef : f ≡ found_from 0 (names_from k media_size media_places s) id) (i : ℕ) (at_i : f ≡ Some i) where
    index_small : i < most_media_ids
    index_small = omega (arith, (found_name s media_size k media_places 0 id i (sym ef ∙ at_i)).1.0, few)

    pub stride_fits : Fits w64 (media_size * i)
    stride_fits = record { fits = omega (arith, index_small) }

    pub place_fits : Fits w64 (media_places + media_size * i)
    place_fits = record { fits = omega (arith, index_small) }

    pub next_found : (n mpu : ℕ) (p : List ℕ) → p ≡ take media_size (drop (media_places + media_size * i) s)
        → (r : Bool) → r ≡ is_next (media_place_of p) n mpu → r ≡ true → NextAt s id n mpu (Some i)
    unfolding media_place_for
    next_found n mpu p ep r er t = (
      sym (place_for_old s media_size (used_of s).media_ids media_places (limits_of s).media_ids id f (ef ∙ ap (λ v. found_from 0 (names_from v media_size media_places s) id) k_is) i at_i),
      (ap (λ (v : List ℕ). is_next (media_place_of v) n mpu) (sym ep) ∙ sym er ∙ t, index_small),
    )
