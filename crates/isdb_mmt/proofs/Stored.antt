-- The layout of a session's state: what is stored is read back, and each of the readings depends on its own bytes alone.
-- Assumes nothing.
use Rattle.std.proofs.Common.{◌≡◌, ℕ, ◌+◌, ◌-◌, ◌<◌, ◌≤◌, Bool, true, false, not, leb, ◌⊎◌, List, [], ◌∷◌, ◌++◌, length, take, drop, sym, refl, ap, ◌∙◌, append-nil, arith, length-take-le, leb-true}
use borrow.Rule.Slice.PartMut.{put_mid}
use Rattle.isdb_tlv.specs.Guards.{◌=?◌}
use Rattle.isdb_tlv.specs.Bytes.{be, put_be}
use Rattle.isdb_tlv.specs.Fields.{Field, field, written, Fit, puts}
use Rattle.isdb_tlv.proofs.Numbers.{be_drop, be_take}
use Rattle.isdb_tlv.proofs.Fields.{be_behind, field_at, offset_of, size, read, length_written}
use Rattle.isdb_mmt.specs.Memory.Lent.{part, over, flag, flag_byte}
use Rattle.isdb_mmt.specs.Memory.Session.{limits_of, limits_fields, used_of, used_fields, latest_of, latest_fields, time_of, time_fields, counters_of, counters_fields, held_object_at, stats_of, media_place_of, media_fields, control_place_of, control_fields, section_place_of, section_fields}
use Rattle.isdb_mmt.specs.Memory.Layout.{used_place, latest_place, time_place, counters_place, state_size}
use Rattle.isdb_mmt.specs.declared.decoder.limits.Limits.{Limits}
use Rattle.isdb_mmt.specs.declared.decoder.counts.Counters.{Counters}
use Rattle.isdb_mmt.specs.declared.decoder.head.Used.{Used}
use Rattle.isdb_mmt.specs.declared.decoder.head.Latest.{Latest}
use Rattle.isdb_mmt.specs.declared.decoder.head.Time.{Time}
use Rattle.isdb_mmt.specs.declared.decoder.media.Media.{Media}
use Rattle.isdb_mmt.specs.declared.decoder.control.Control.{Control}
use Rattle.isdb_mmt.specs.declared.decoder.section.KeptSection.{KeptSection}
use Rattle.isdb_mmt.proofs.Lent.{length_part, part_apart, part_take, puts_over, puts_whole, lent_at}

-- ---- a store

-- fields put one by one, into a longer memory and into one of just their size
pub stored : (fs : List Field) (at : ℕ) (l : List ℕ) {m : List ℕ} → at + size fs ≤ length l → m ≡ puts at fs l → m ≡ over at (written fs) l
stored fs at l h e = e ∙ puts_over fs at l h

pub filled : (fs : List Field) (l : List ℕ) {m : List ℕ} → length l ≡ size fs → m ≡ puts 0 fs l → m ≡ written fs
filled fs l h e = e ∙ puts_whole fs l h

-- fields that a call puts into the part of the memory that they fill
pub sent : (fs : List Field) (at : ℕ) (l : List ℕ) {m : List ℕ} → m ≡ written fs → put_mid at (at + size fs - at) l m ≡ over at (written fs) l
sent fs at l {m} e = lent_at at (size fs) (written fs) m l e (length_written fs)

-- a number that a call puts into the 8 bytes that it fills
pub long_put : (p v : ℕ) (l m : List ℕ) → p + 8 ≤ length l → m ≡ put_be 8 0 v (take (p + 8 - p) (drop p l)) → put_mid p (p + 8 - p) l m ≡ put_be 8 p v l
long_put p v l m h e =
    let fs : List Field = field 8 v ∷ [] in
    let z : p + 8 - p ≡ 8 = omega arith in
    let k : length (take (p + 8 - p) (drop p l)) ≡ 8 = rw z (length_part p 8 l (omega arith)) in
    sent fs p l (filled fs (take (p + 8 - p) (drop p l)) k e) ∙ sym (puts_over fs p l h)

-- ---- what is stored is read back

-- each of some fields is read where it stands, the first at `at`
abbrev pub Holds : ℕ → List Field → List ℕ → Type 0
Holds at fs l = (k : ℕ) → be (field_at k fs).width l (at + offset_of k fs) ≡ (field_at k fs).value

pub holds_over : (at : ℕ) (fs : List Field) (l : List ℕ) → Fit fs → at ≤ length l → Holds at fs (over at (written fs) l)
unfolding over
holds_over at fs l f h k =
    let r = drop (length (written fs)) (drop at l) in
    be_behind (field_at k fs).width (take at l) (written fs ++ r) (length-take-le at l h) (offset_of k fs) ∙ read fs f k r

pub holds_front : (fs : List Field) (r : List ℕ) → Fit fs → Holds 0 fs (written fs ++ r)
holds_front fs r f k = be_behind (field_at k fs).width [] (written fs ++ r) refl (offset_of k fs) ∙ read fs f k r

pub holds_written : (fs : List Field) → Fit fs → Holds 0 fs (written fs)
holds_written fs f = rw append-nil at (holds_front fs [] f)

-- a flag that is stored as a byte is the flag again
pub flag_le : (b : Bool) → flag_byte b ≤ 1
flag_le true = omega arith
flag_le false = omega arith

pub flag_small : (b : Bool) → flag_byte b < 256
flag_small b = omega (arith, flag_le b)

pub yes_no : (b : Bool) {n : ℕ} → n ≡ flag_byte b → not (n =? 0) ≡ b
yes_no true e = rw e
yes_no false e = rw e

pub limits_held : (x : Limits) (l : List ℕ) → Holds 0 (limits_fields x) l → limits_of l ≡ x
unfolding limits_of
limits_held x l h =
    λ i.
    record {
      media_ids = h 0 i;
      control_ids = h 1 i;
      sections = h 2 i;
      mfu_area = h 3 i;
      message_area = h 4 i;
      table_area = h 5 i;
      packets = h 6 i;
      pass_scrambled = yes_no x.pass_scrambled (h 7) i;
    }

used_held : (x : Used) (l : List ℕ) → Holds used_place (used_fields x) l → used_of l ≡ x
unfolding used_of
used_held x l h = λ i. record { media_ids = h 0 i; control_ids = h 1 i; sections = h 2 i }

latest_held : (x : Latest) (l : List ℕ) → Holds latest_place (latest_fields x) l → latest_of l ≡ x
unfolding latest_of
latest_held x l h =
    λ i.
    record {
      plt = yes_no x.plt (h 0) i;
      plt_length = h 1 i;
      tot = yes_no x.tot (h 2) i;
      tot_length = h 3 i;
    }

time_held : (x : Time) (l : List ℕ) → Holds time_place (time_fields x) l → time_of l ≡ x
unfolding time_of
time_held x l h = λ i. record { seen = yes_no x.seen (h 0) i; timestamp = h 1 i }

counters_held : (x : Counters) (l : List ℕ) → Holds counters_place (counters_fields x) l → counters_of l ≡ x
unfolding counters_of
counters_held x l h =
    λ i.
    record {
      tlv_packets = h 0 i;
      ip_errors = h 1 i;
      non_mmtp = h 2 i;
      ntp = h 3 i;
      tables = h 4 i;
      crc_errors = h 5 i;
      malformed = h 6 i;
      version_changes = h 7 i;
      orphan_fragments = h 8 i;
      oversize = h 9 i;
      message_malformed = h 10 i;
      split_errors = h 11 i;
    }

media_held : (x : Media) (p : List ℕ) → Holds 0 (media_fields x) p → media_place_of p ≡ x
unfolding media_place_of held_object_at stats_of
media_held x p h =
    let o = x.object in
    λ i.
    record {
      packet_id = h 0 i;
      seen = yes_no x.seen (h 1) i;
      sequence = h 2 i;
      mpu_seen = yes_no x.mpu_seen (h 3) i;
      mpu = h 4 i;
      first_mpu = h 5 i;
      held = yes_no x.held (h 6) i;
      object =
          record {
            mpu_sequence_number = h 7 i;
            rap = yes_no o.rap (h 8) i;
            timed = yes_no o.timed (h 9) i;
            header =
                record {
                  movie_fragment_sequence_number = h 10 i;
                  sample_number = h 11 i;
                  offset = h 12 i;
                  priority = h 13 i;
                  dependency_counter = h 14 i;
                };
            item = yes_no o.item (h 15) i;
            item_id = h 16 i;
            length = h 17 i;
          };
      stats =
          record {
            packets = h 18 i;
            packets_lost = h 19 i;
            scrambled_packets = h 20 i;
            mfus = h 21 i;
            scrambled_mfus = h 22 i;
            mfus_dropped = h 23 i;
            mpus = h 24 i;
            mpu_sequence_jumps = h 25 i;
            malformed = h 26 i;
          };
    }

control_held : (x : Control) (p : List ℕ) → Holds 0 (control_fields x) p → control_place_of p ≡ x
unfolding control_place_of
control_held x p h =
    λ i.
    record {
      packet_id = h 0 i;
      seen = yes_no x.seen (h 1) i;
      sequence = h 2 i;
      joining = yes_no x.joining (h 3) i;
      long_length = yes_no x.long_length (h 4) i;
      aggregated = yes_no x.aggregated (h 5) i;
      length = h 6 i;
      mpt = yes_no x.mpt (h 7) i;
      mpt_length = h 8 i;
    }

section_held : (x : KeptSection) (p : List ℕ) → Holds 0 (section_fields x) p → section_place_of p ≡ x
unfolding section_place_of
section_held x p h = λ i. record { key = h 0 i; version = h 1 i; length = h 2 i }

-- of a place's bytes
pub media_back : (m : Media) → Fit (media_fields m) → media_place_of (written (media_fields m)) ≡ m
media_back m f = media_held m (written (media_fields m)) (holds_written (media_fields m) f)

pub control_back : (c : Control) → Fit (control_fields c) → control_place_of (written (control_fields c)) ≡ c
control_back c f = control_held c (written (control_fields c)) (holds_written (control_fields c) f)

pub section_back : (x : KeptSection) → Fit (section_fields x) → section_place_of (written (section_fields x)) ≡ x
section_back x f = section_held x (written (section_fields x)) (holds_written (section_fields x) f)

-- of the state: a value whose fields are stored from `at` on is read again there
back : {A : Type 0} (of : List ℕ → A) (fields : A → List Field) (at : ℕ) (x : A) (s : List ℕ)
    → ((l : List ℕ) → Holds at (fields x) l → of l ≡ x) → at ≤ length s → Fit (fields x) → of (over at (written (fields x)) s) ≡ x
back of fields at x s held h f = held (over at (written (fields x)) s) (holds_over at (fields x) s f h)

pub used_back : (x : Used) (s : List ℕ) → Fit (used_fields x) → state_size ≤ length s → used_of (over used_place (written (used_fields x)) s) ≡ x
used_back x s f h = back used_of used_fields used_place x s (used_held x) (omega arith) f

pub latest_back : (x : Latest) (s : List ℕ) → Fit (latest_fields x) → state_size ≤ length s → latest_of (over latest_place (written (latest_fields x)) s) ≡ x
latest_back x s f h = back latest_of latest_fields latest_place x s (latest_held x) (omega arith) f

pub time_back : (x : Time) (s : List ℕ) → Fit (time_fields x) → state_size ≤ length s → time_of (over time_place (written (time_fields x)) s) ≡ x
time_back x s f h = back time_of time_fields time_place x s (time_held x) (omega arith) f

pub counters_back : (x : Counters) (s : List ℕ) → Fit (counters_fields x) → state_size ≤ length s → counters_of (over counters_place (written (counters_fields x)) s) ≡ x
counters_back x s f h = back counters_of counters_fields counters_place x s (counters_held x) (omega arith) f

-- ---- what is written elsewhere leaves it

-- a reading that depends on the `n` bytes from `at` alone
abbrev pub Own : {A : Type 0} → (List ℕ → A) → ℕ → ℕ → Type 0
Own of at n = (l m : List ℕ) → part at n l ≡ part at n m → of l ≡ of m

-- a write before them or behind them leaves it
pub apart : {A : Type 0} (of : List ℕ → A) (at n : ℕ) → Own of at n → (b : ℕ) (bs l : List ℕ) → (at + n ≤ b) ⊎ (b + length bs ≤ at)
    → b + length bs ≤ length l → of (over b bs l) ≡ of l
apart of at n own b bs l d h = own (over b bs l) l (part_apart at n b bs l d h)

-- and it is read of the first `k` bytes alone
pub own_front : {A : Type 0} (of : List ℕ → A) (at n k : ℕ) → Own of at n → at + n ≤ k → (l : List ℕ) → of (take k l) ≡ of l
own_front of at n k own h l = own (take k l) l (part_take at n k l h)

module _ (at n : ℕ) (l m : List ℕ) (e : part at n l ≡ part at n m) where
  same : (w k : ℕ) → leb (k + w) n ≡ true → be w l (at + k) ≡ be w m (at + k)
  same w k h =
      let in-part : (x : List ℕ) → be w (part at n x) k ≡ be w x (at + k) =
      λ x. be_take w n (drop at x) k (omega (arith, leb-true)) ∙ be_drop w at x k in
      sym (in-part l) ∙ ap (λ (p : List ℕ). be w p k) e ∙ in-part m

  same_flag : (k : ℕ) → leb (k + 1) n ≡ true → flag l (at + k) ≡ flag m (at + k)
  same_flag k h = ap (λ (v : ℕ). not (v =? 0)) (same 1 k h)

pub limits_own : Own limits_of 0 used_place
unfolding limits_of
limits_own l m e =
    let own = same 0 used_place l m e in
    let own-flag = same_flag 0 used_place l m e in
    λ i.
    record {
      media_ids = own 8 0 refl i;
      control_ids = own 8 8 refl i;
      sections = own 8 16 refl i;
      mfu_area = own 8 24 refl i;
      message_area = own 8 32 refl i;
      table_area = own 8 40 refl i;
      packets = own 8 48 refl i;
      pass_scrambled = own-flag 56 refl i;
    }

pub used_own : Own used_of used_place 12
unfolding used_of
used_own l m e =
    let own = same used_place 12 l m e in
    λ i.
    record {
      media_ids = own 4 0 refl i;
      control_ids = own 4 4 refl i;
      sections = own 4 8 refl i;
    }

pub latest_own : Own latest_of latest_place 10
unfolding latest_of
latest_own l m e =
    let own = same latest_place 10 l m e in
    let own-flag = same_flag latest_place 10 l m e in
    λ i.
    record {
      plt = own-flag 0 refl i;
      plt_length = own 4 1 refl i;
      tot = own-flag 5 refl i;
      tot_length = own 4 6 refl i;
    }

pub time_own : Own time_of time_place 9
unfolding time_of
time_own l m e =
    let own = same time_place 9 l m e in
    let own-flag = same_flag time_place 9 l m e in λ i. record { seen = own-flag 0 refl i; timestamp = own 8 1 refl i }

pub counters_own : Own counters_of counters_place 96
unfolding counters_of
counters_own l m e =
    let own = same counters_place 96 l m e in
    λ i.
    record {
      tlv_packets = own 8 0 refl i;
      ip_errors = own 8 8 refl i;
      non_mmtp = own 8 16 refl i;
      ntp = own 8 24 refl i;
      tables = own 8 32 refl i;
      crc_errors = own 8 40 refl i;
      malformed = own 8 48 refl i;
      version_changes = own 8 56 refl i;
      orphan_fragments = own 8 64 refl i;
      oversize = own 8 72 refl i;
      message_malformed = own 8 80 refl i;
      split_errors = own 8 88 refl i;
    }
