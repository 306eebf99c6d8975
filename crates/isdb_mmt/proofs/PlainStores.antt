-- What a plain packet leaves of its place and of the state. Assumes nothing.
use Rattle.std.proofs.Common.{◌≡◌, ℕ, ◌+◌, ◌-◌, ◌*◌, ◌≤◌, Bool, List, [], ◌∷◌, ◌++◌, length, take, drop, sym, refl, ap, ◌∙◌, inl, arith}
use borrow.Rule.Slice.PartMut.{put_mid}
use Rattle.isdb_tlv.specs.Bytes.{be, put_be}
use Rattle.isdb_tlv.specs.Fields.{Field, field, written, puts, four_fields}
use Rattle.isdb_tlv.proofs.Numbers.{length_put_be}
use Rattle.isdb_tlv.proofs.Fields.{length_written}
use Rattle.isdb_mmt.specs.Memory.Layout.{counters_place, media_places, media_size, held_place, object_place, stats_place}
use Rattle.isdb_mmt.specs.Memory.Lent.{part, over, flag, flag_byte}
use Rattle.isdb_mmt.specs.Memory.Session.{counters_of, held_object_at, stats_of, media_place_of, media_fields, media_at}
use Rattle.isdb_mmt.specs.Memory.Octets.{Octets}
use Rattle.isdb_mmt.specs.Pushes.MediaPush.{with_packets}
use Rattle.isdb_mmt.specs.Pushes.MediaCommit.{state_after}
use Rattle.isdb_mmt.specs.Pushes.Plain.{next_of, grown_of, CanRaise, CanStoreNext, CanStorePlain}
use Rattle.isdb_mmt.specs.declared.decoder.place.PlaceFor.TheVariants.{Own}
use Rattle.isdb_mmt.specs.declared.decoder.media.Media.{Media}
use Rattle.isdb_mmt.proofs.Lent.{length_part, length_over, be_apart, put_none, puts_whole}
use Rattle.isdb_mmt.proofs.Stored.{stored, sent}
use Rattle.isdb_mmt.proofs.LeftAlone.{be_puts, length_puts, Step, store, leave, standing, left_alone}

pub raised : (l l' : List ℕ) (at x : ℕ) → x ≡ be 8 l at → l' ≡ put_be 8 at (x + 1) l → l' ≡ puts at (field 8 (be 8 l at + 1) ∷ []) l
raised l l' at x e d = d ∙ ap (λ v. put_be 8 at (v + 1) l) e

-- ---- the place

module _ (p : List ℕ) (n : ℕ) (l1 l2 l3 l4 : List ℕ)
    (e1 : l1 ≡ puts 4 (four_fields 0x1410 1 n 1 0) p)
    (e2 : l2 ≡ puts held_place (four_fields 0x1411 0 0 0 0) l1)
    (e3 : l3 ≡ puts (object_place + 6) (four_fields 0x4441 0 0 0 0) l2)
    (e4 : l4 ≡ puts (object_place + 19) (four_fields 0x1144 0 0 0 0) l3) where
  behind : (j : ℕ) → stats_place ≤ j → be 8 l4 j ≡ be 8 p j
  behind j h =
      ap (λ (l : List ℕ). be 8 l j) e4 ∙ be_puts 8 (four_fields 0x1144 0 0 0 0) 38 l3 j (omega arith)
      ∙ ap (λ (l : List ℕ). be 8 l j) e3 ∙ be_puts 8 (four_fields 0x4441 0 0 0 0) 25 l2 j (omega arith)
      ∙ ap (λ (l : List ℕ). be 8 l j) e2 ∙ be_puts 8 (four_fields 0x1411 0 0 0 0) 18 l1 j (omega arith)
      ∙ ap (λ (l : List ℕ). be 8 l j) e1 ∙ be_puts 8 (four_fields 0x1410 1 n 1 0) 4 p j (omega arith)

  long : length l4 ≡ length p
  long =
      ap length e4 ∙ length_puts (four_fields 0x1144 0 0 0 0) 38 l3
      ∙ ap length e3 ∙ length_puts (four_fields 0x4441 0 0 0 0) 25 l2
      ∙ ap length e2 ∙ length_puts (four_fields 0x1411 0 0 0 0) 18 l1
      ∙ ap length e1 ∙ length_puts (four_fields 0x1410 1 n 1 0) 4 p

  module _ (can : CanStoreNext p) where
    pub can_raise_packets : CanRaise l4 stats_place
    can_raise_packets =
        record { there = omega (arith, long, can.long); small = omega (arith, behind stats_place (omega arith), can.packets) }

    module _ (l5 : List ℕ) (e5 : l5 ≡ puts stats_place (field 8 (be 8 l4 stats_place + 1) ∷ []) l4) where
      behind_packets : be 8 l5 (stats_place + 24) ≡ be 8 p (stats_place + 24)
      behind_packets =
          ap (λ (l : List ℕ). be 8 l (stats_place + 24)) e5
          ∙ be_puts 8 (field 8 (be 8 l4 stats_place + 1) ∷ []) stats_place l4 (stats_place + 24) (omega arith)
          ∙ behind (stats_place + 24) (omega arith)

      pub can_raise_mfus : CanRaise l5 (stats_place + 24)
      can_raise_mfus =
          let k : length l5 ≡ length l4 = ap length e5 ∙ length_puts (field 8 (be 8 l4 stats_place + 1) ∷ []) stats_place l4 in
          record { there = omega (arith, k, long, can.long); small = omega (arith, behind_packets, can.mfus) }

      abbrev steps : List Step
      steps =
          leave 4 ∷ store 1 1 ∷ store 4 n ∷ store 1 1 ∷ leave 4 ∷ leave 4
          ∷ store 1 0 ∷ store 4 0 ∷ store 1 0 ∷ store 1 0 ∷ store 4 0 ∷ store 4 0 ∷ store 4 0 ∷ store 1 0 ∷ store 1 0 ∷ store 1 0 ∷ store 4 0 ∷ store 4 0
          ∷ store 8 (be 8 p stats_place + 1) ∷ leave 8 ∷ leave 8 ∷ store 8 (be 8 p (stats_place + 24) + 1) ∷ leave 8 ∷ leave 8 ∷ leave 8 ∷ leave 8 ∷ leave 8 ∷ []

      fields_are : standing 0 steps p ≡ media_fields (next_of (media_place_of p) n)
      unfolding next_of media_place_of stats_of
      fields_are = refl

      abbrev numbered : List ℕ
      numbered = put_be 1 9 1 (put_be 4 5 n (put_be 1 4 1 p))

      abbrev cleared : List ℕ → List ℕ
      cleared l = puts 38 (four_fields 0x1144 0 0 0 0) (puts 25 (four_fields 0x4441 0 0 0 0) (puts 18 (four_fields 0x1411 0 0 0 0) l))

      cleared_is : l4 ≡ cleared numbered
      cleared_is =
          e4 ∙ ap (puts 38 (four_fields 0x1144 0 0 0 0))
          (e3 ∙ ap (puts 25 (four_fields 0x4441 0 0 0 0)) (e2 ∙ ap (puts 18 (four_fields 0x1411 0 0 0 0)) (e1 ∙ put_none 10 0 numbered)))

      pub stored_next : Octets p → (l6 : List ℕ) → l6 ≡ puts (stats_place + 24) (field 8 (be 8 l5 (stats_place + 24) + 1) ∷ []) l5
          → l6 ≡ written (media_fields (next_of (media_place_of p) n))
      stored_next o l6 e6 =
          let a : l6 ≡ put_be 8 72 (be 8 p 72 + 1) (put_be 8 48 (be 8 p 48 + 1) (cleared numbered)) =
          e6 ∙ ap (λ v. put_be 8 72 (v + 1) l5) behind_packets
          ∙ ap (put_be 8 72 (be 8 p 72 + 1)) (e5 ∙ ap (λ v. put_be 8 48 (v + 1) l4) (behind 48 (omega arith)) ∙ ap (put_be 8 48 (be 8 p 48 + 1)) cleared_is) in
          a ∙ sym (left_alone steps 0 p p o (λ j b. refl)) ∙ ap (λ (fs : List Field). puts 0 fs p) fields_are
          ∙ puts_whole (media_fields (next_of (media_place_of p) n)) p can.long

-- ---- the place, with a middle part

module _ (p : List ℕ) (n k : ℕ) (rap : Bool) (er : rap ≡ flag p (object_place + 4)) (l1 l2 l3 l4 l5 : List ℕ)
    (e1 : l1 ≡ puts 4 (four_fields 0x1410 1 n 1 0) p)
    (e2 : l2 ≡ put_be 1 held_place 1 l1)
    (e3 : l3 ≡ put_be 1 (object_place + 4) (flag_byte rap) l2)
    (e4 : l4 ≡ put_be 1 (object_place + 5) 1 l3)
    (e5 : l5 ≡ puts (object_place + 20) (four_fields 0x1440 0 0 k 0) l4) where
  abbrev laid_out : List ℕ
  laid_out =
      put_be 4 44 k (put_be 4 40 0 (put_be 1 39 0 (put_be 1 24 1 (put_be 1 23 (flag_byte (flag p 23)) (put_be 1 18 1 (put_be 1 9 1 (put_be 4 5 n (put_be 1 4 1 p))))))))

  laid_is : l5 ≡ laid_out
  laid_is =
      let a1 : l1 ≡ put_be 1 9 1 (put_be 4 5 n (put_be 1 4 1 p)) = e1 ∙ put_none 10 0 (put_be 1 9 1 (put_be 4 5 n (put_be 1 4 1 p))) in
      let a4 : l4 ≡ put_be 1 24 1 (put_be 1 23 (flag_byte (flag p 23)) (put_be 1 18 1 (put_be 1 9 1 (put_be 4 5 n (put_be 1 4 1 p))))) =
      e4 ∙ ap (put_be 1 24 1) (e3 ∙ ap (λ (b : Bool). put_be 1 23 (flag_byte b) l2) er ∙ ap (put_be 1 23 (flag_byte (flag p 23))) (e2 ∙ ap (put_be 1 18 1) a1)) in
      e5 ∙ put_none 48 0 (put_be 4 44 k (put_be 4 40 0 (put_be 1 39 0 l4))) ∙ ap (λ (l : List ℕ). put_be 4 44 k (put_be 4 40 0 (put_be 1 39 0 l))) a4

  abbrev first_steps : List Step
  first_steps =
      leave 4 ∷ store 1 1 ∷ store 4 n ∷ store 1 1 ∷ leave 4 ∷ leave 4 ∷ store 1 1
      ∷ leave 4 ∷ store 1 (flag_byte (flag p 23)) ∷ store 1 1 ∷ leave 4 ∷ leave 4 ∷ leave 4 ∷ leave 1 ∷ leave 1 ∷ store 1 0 ∷ store 4 0 ∷ store 4 k ∷ []

  grown_behind : Octets p → be 8 l5 stats_place ≡ be 8 p stats_place
  grown_behind o =
      ap (λ (l : List ℕ). be 8 l stats_place) (laid_is ∙ sym (left_alone first_steps 0 p p o (λ j b. refl)))
      ∙ be_puts 8 (standing 0 first_steps p) 0 p stats_place (omega arith)

  grown_long : length l5 ≡ length p
  grown_long = ap length laid_is ∙ stepped_long
    where
      stepped_long : length laid_out ≡ length p
      stepped_long =
          length_put_be 4 44 k _ ∙ length_put_be 4 40 0 _ ∙ length_put_be 1 39 0 _ ∙ length_put_be 1 24 1 _ ∙ length_put_be 1 23 (flag_byte (flag p 23)) _
          ∙ length_put_be 1 18 1 _ ∙ length_put_be 1 9 1 _ ∙ length_put_be 4 5 n _ ∙ length_put_be 1 4 1 p

  module _ (can : CanStoreNext p) (o : Octets p) where
    pub can_raise_grown : CanRaise l5 stats_place
    can_raise_grown = record { there = omega (arith, grown_long, can.long); small = omega (arith, grown_behind o, can.packets) }

    abbrev all_steps_lem : List Step
    all_steps_lem =
        first_steps ++ (store 8 (be 8 p stats_place + 1) ∷ leave 8 ∷ leave 8 ∷ leave 8 ∷ leave 8 ∷ leave 8 ∷ leave 8 ∷ leave 8 ∷ leave 8 ∷ [])

    grown_fields : standing 0 all_steps_lem p ≡ media_fields (grown_of (media_place_of p) n k)
    unfolding grown_of media_place_of held_object_at stats_of
    grown_fields = refl

    pub stored_grown : (l6 : List ℕ) → l6 ≡ puts stats_place (field 8 (be 8 l5 stats_place + 1) ∷ []) l5
        → l6 ≡ written (media_fields (grown_of (media_place_of p) n k))
    stored_grown l6 e6 =
        let a : l6 ≡ put_be 8 48 (be 8 p 48 + 1) laid_out = e6 ∙ ap (λ v. put_be 8 48 (v + 1) l5) (grown_behind o) ∙ ap (put_be 8 48 (be 8 p 48 + 1)) laid_is in
        a ∙ sym (left_alone all_steps_lem 0 p p o (λ j b. refl)) ∙ ap (λ (fs : List Field). puts 0 fs p) grown_fields
        ∙ puts_whole (media_fields (grown_of (media_place_of p) n k)) p can.long

-- ---- the state

module _ (s : List ℕ) (i : ℕ) (can : CanStorePlain s i) where
  abbrev at : ℕ
  at = media_places + media_size * i

  abbrev there : List ℕ
  there = take (at + media_size - at) (drop at s)

  there_is : there ≡ part at media_size s
  there_is = let z : at + media_size - at ≡ media_size = omega arith in ap (λ k. take k (drop at s)) z

  pub can_next : CanStoreNext there
  unfolding media_place_of stats_of
  can_next =
      let k : length (part at media_size s) ≡ media_size = length_part at media_size s (omega (arith, can.long, can.index)) in
      rw there_is (record { long = k; packets = can.modest.packets; mfus = can.modest.mfus })

  -- the place with what a packet makes of it
  module _ (after : Media → Media) (m : List ℕ) (em : m ≡ written (media_fields (after (media_place_of there)))) where
    abbrev next : Media
    next = after (media_at s i)

    abbrev s1 : List ℕ
    s1 = put_mid at (at + media_size - at) s m

    s1_is : s1 ≡ over at (written (media_fields next)) s
    s1_is = sent (media_fields next) at s (em ∙ ap (λ (p : List ℕ). written (media_fields (after (media_place_of p)))) there_is)

    fits : at + length (written (media_fields next)) ≤ length s
    fits = omega (arith, length_written (media_fields next), can.long, can.index)

    s1_long : length s1 ≡ length s
    s1_long = ap length s1_is ∙ length_over at (written (media_fields next)) s fits

    counted : be 8 s1 counters_place ≡ (counters_of s).tlv_packets
    unfolding counters_of
    counted = ap (λ (l : List ℕ). be 8 l counters_place) s1_is ∙ be_apart at (written (media_fields next)) s fits 8 counters_place (inl (omega arith))

    raise_all : CanRaise s1 counters_place
    raise_all = record { there = omega (arith, s1_long, can.long); small = omega (arith, counted, can.packets) }

    stored_after : (s2 : List ℕ) → s2 ≡ puts counters_place (field 8 (be 8 s1 counters_place + 1) ∷ []) s1 → s2 ≡ state_after s next (Own i)
    unfolding state_after
    stored_after s2 e =
        e ∙ ap (λ v. puts counters_place (field 8 (v + 1) ∷ []) s1) counted
        ∙ stored (field 8 ((counters_of s).tlv_packets + 1) ∷ []) counters_place s1 (omega (arith, s1_long, can.long)) refl
        ∙ ap (with_packets ((counters_of s).tlv_packets + 1)) s1_is

  module _ (n : ℕ) (m : List ℕ) (em : m ≡ written (media_fields (next_of (media_place_of there) n))) where
    pub can_raise_plain : CanRaise (put_mid at (at + media_size - at) s m) counters_place
    can_raise_plain = raise_all (λ p. next_of p n) m em

    pub stored_plain : (s2 : List ℕ) → s2 ≡ puts counters_place (field 8 (be 8 (put_mid at (at + media_size - at) s m) counters_place + 1) ∷ []) (put_mid at (at + media_size - at) s m)
        → s2 ≡ state_after s (next_of (media_at s i) n) (Own i)
    stored_plain = stored_after (λ p. next_of p n) m em

  module _ (n k : ℕ) (m : List ℕ) (em : m ≡ written (media_fields (grown_of (media_place_of there) n k))) where
    pub can_raise_part : CanRaise (put_mid at (at + media_size - at) s m) counters_place
    can_raise_part = raise_all (λ p. grown_of p n k) m em

    pub stored_part : (s2 : List ℕ) → s2 ≡ puts counters_place (field 8 (be 8 (put_mid at (at + media_size - at) s m) counters_place + 1) ∷ []) (put_mid at (at + media_size - at) s m)
        → s2 ≡ state_after s (grown_of (media_at s i) n k) (Own i)
    stored_part = stored_after (λ p. grown_of p n k) m em
