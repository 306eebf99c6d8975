-- Laws of question 5: what a test of one count, one length or one place says of the whole, and what an answer yes says.
-- Assumes nothing.
use Rattle.std.proofs.Common.{◌≡◌, ℕ, zero, suc, ◌+◌, ◌-◌, ◌*◌, ◌<◌, ◌≤◌, Bool, true, false, cond, not, leb, max, fold, List, [], ◌∷◌, ◌++◌, map, length, get_or, take, drop, sym, refl, ap, ◌∙◌, add-zero, mul-zero, mul-suc, arith, length-take-le, w8, Fits, eqb-true, le-leb, leb-true}
use lib.Bits.{bit_or, or_add_and, and_le_l, and_le_r}
use Rattle.isdb_mmt.specs.Memory.Lent.{part, flag, places_from, names_from, distinct, every}
use Rattle.isdb_mmt.specs.Memory.Session.{Session, limits_of, used_of, latest_of, counters_of, media_place_of, held_object_at, stats_of, section_place_of}
use Rattle.isdb_mmt.specs.Memory.Layout.{most_media_ids, most_control_ids, most_sections, most_count, used_place, latest_place, counters_place, held_place, object_place, stats_place, media_size, media_places, control_size, control_places, section_size, section_places, state_size}
use Rattle.isdb_mmt.specs.Memory.Check.{count_fits_of, counts_from, length_fits, stats_counts, packet_counts, table_counts, lengths_of, sound, sound_in, Sound, media_sound, control_sound, section_sound, used_sound, latest_sound, counters_sound, media_in, controls_in, head_sound, places_sound, names_sound, PlacesThere}
use Rattle.isdb_mmt.specs.Memory.Limits.{asked}
use Rattle.isdb_mmt.specs.declared.decoder.limits.Limits.{Limits}
use Rattle.isdb_mmt.specs.declared.decoder.limits.Lengths.{Lengths}
use Rattle.isdb_mmt.specs.declared.decoder.media.Media.{Media}
use Rattle.isdb_mmt.specs.declared.decoder.control.Control.{Control}
use Rattle.isdb_mmt.specs.declared.decoder.section.KeptSection.{KeptSection}
use Rattle.isdb_mmt.specs.declared.decoder.head.Used.{Used}
use Rattle.isdb_mmt.specs.declared.decoder.head.Latest.{Latest}
use Rattle.isdb_tlv.specs.Guards.{◌≤?◌, ◌=?◌}
use Rattle.isdb_tlv.specs.Bytes.{be}
use Rattle.isdb_tlv.proofs.Numbers.{be_lt, be_add}
use Rattle.isdb_tlv.proofs.Guards.{either}
use Rattle.isdb_mmt.proofs.Lent.{length_part}
use Rattle.isdb_mmt.proofs.Names.{true_not_false}
use Rattle.isdb_mmt.proofs.Guards.{no, yes, both, not_both, guard_holds, guard_fails, was_both, was_guarded}
use Rattle.isdb_mmt.proofs.Limits.{passed}
use Rattle.isdb_mmt.proofs.Stored.{own_front, limits_own, used_own, latest_own, counters_own}

-- no number is above numbers or'ed with it
or_low : (a b : ℕ) → (a ≤ bit_or a b) × (b ≤ bit_or a b)
or_low a b =
    let s = or_add_and a b in
    let l = and_le_l a b in
    let r = and_le_r a b in
    (omega arith, omega arith)

pub every_both : {A : Type 0} (f : A → Bool) (xs ys : List A) → every f (xs ++ ys) ≡ cond (every f xs) (every f ys) false
unfolding every
every_both f [] ys = refl
every_both f (x ∷ xs) ys = either (f x) (λ t. rw t (every_both f xs ys)) (λ z. rw z)

-- the high half of a count decides, but for 2^53, and none is above the sum of some
module _ (p : List ℕ) (bytes : (k : ℕ) → Fits w8 (get_or p k 0)) where
  high_fits : (at : ℕ) → be 4 p at < 2097152 → count_fits_of (be 8 p at) ≡ true
  high_fits at h = le-leb (be 8 p at) most_count (omega (arith, be_add 4 4 at p, be_lt p bytes 4 (at + 4)))

  pub high_all : (halves n at : ℕ) → fold bit_or halves (names_from n 8 at p) < 2097152 → (halves < 2097152) × (every count_fits_of (counts_from n at p) ≡ true)
  unfolding every counts_from names_from
  high_all halves zero at h = (h, refl)
  high_all halves (suc n) at h =
      let k = high_all (bit_or halves (be 4 p at)) n (at + 8) h in
      let o = or_low halves (be 4 p at) in
      (omega arith, rw (high_fits at (omega arith)) k.1)

-- a media place: its length, and its counts
module _ (l : Limits) (p : List ℕ) (h r : Bool) (n : ℕ) (eh : h ≡ flag p held_place) (en : n ≡ be 4 p (object_place + 25))
    (er : r ≡ length_fits h n l.mfu_area) where
  pub media_fits : r ≡ true → (q : Bool) → q ≡ every count_fits_of (counts_from 9 stats_place p) → q ≡ media_sound l (media_place_of p)
  unfolding media_sound media_place_of held_object_at stats_of counts_from
  media_fits t q eq = rw (← eh, ← en) (both er t eq)

  pub media_fails : r ≡ false → false ≡ media_sound l (media_place_of p)
  unfolding media_sound media_place_of held_object_at
  media_fails t = rw (← eh, ← en) (not_both _ er t)

-- one turn of a walk over places, each lent with its bounds
pub media_length : (n i at : ℕ) (s : List ℕ) → n ≤ most_media_ids → state_size ≤ length s → at ≡ media_places + media_size * i → i < n
    → length (take (at + media_size - at) (drop at s)) ≡ media_size
media_length n i at s m h e b =
    let d : at + media_size - at ≡ media_size = omega arith in
    rw d (length_part at media_size s (omega arith))

next : (size n i at : ℕ) (s : List ℕ) → i < n
    → places_from (n - i) size at s ≡ take (at + size - at) (drop at s) ∷ places_from (n - (i + 1)) size (at + size) s
unfolding places_from
next size n i at s h =
    let e : n - i ≡ suc (n - (i + 1)) = omega arith in
    let d : at + size - at ≡ size = omega arith in
    rw (e, d)

module _ {A : Type 0} (f : A → Bool) (g : List ℕ → A) (size n i at : ℕ) (s : List ℕ) (y : Bool)
    (inv : y ≡ every f (map g (places_from (n - i) size at s))) where
  module _ (x : A) (r : Bool) (h : i < n) (er : r ≡ f x) (ex : x ≡ g (take (at + size - at) (drop at s))) where
    pub place_fails : not r ≡ true → false ≡ y
    unfolding every
    place_fails t = sym (inv ∙ rw (next size n i at s h, ← ex, no er t))

    pub place_fits : not r ≡ false → y ≡ every f (map g (places_from (n - (i + 1)) size (at + size) s))
    unfolding every
    place_fits t = inv ∙ rw (next size n i at s h, ← ex, yes er t)

  pub places_end : n ≤ i → true ≡ y
  unfolding every places_from
  places_end h = let e : n - i ≡ 0 = omega arith in sym (inv ∙ rw e)

-- of two lengths the larger one decides
larger_fits : (a b c : ℕ) → leb (max a b) c ≡ cond (leb b c) (leb a c) false
larger_fits a b c =
    either (leb (max a b) c)
    (λ t. let h = leb-true (max a b) c t in rw (t, le-leb b c (omega arith), le-leb a c (omega arith)))
    (λ f.
    rw f
    (either (leb b c)
    (λ t.
    rw t
    (either (leb a c) (λ u. true_not_false (leb (max a b) c) (le-leb (max a b) c (omega (arith, leb-true b c t, leb-true a c u))) f) (λ u. sym u)))
    (λ t. rw t)))

cond_both : (a b c : Bool) → cond (cond a b false) c false ≡ cond a (cond b c false) false
cond_both true b c = refl
cond_both false b c = refl

-- of some sections the longest one
pub longest_fits : (l : Limits) (m : ℕ) (xs : List (List ℕ))
    → (fold (λ k p. max (be 4 p 5) k) m xs ≤? l.table_area) ≡ cond (m ≤? l.table_area) (every (section_sound l) (map section_place_of xs)) false
unfolding every section_place_of
longest_fits l m [] = either (m ≤? l.table_area) (λ t. rw t) (λ t. rw t)
longest_fits l m (p ∷ xs) =
    longest_fits l (max (be 4 p 5) m) xs ∙ rw (larger_fits (be 4 p 5) m l.table_area) (cond_both (leb m l.table_area) (leb (be 4 p 5) l.table_area) _)

-- the names of every sort
module _ (s : List ℕ) (u : Used) (eu : u ≡ used_of s) where
  module _ (h : PlacesThere s) where
    pub media_there : u.media_ids ≤ most_media_ids
    media_there = rw eu h.media

    pub controls_there : u.control_ids ≤ most_control_ids
    controls_there = rw eu h.controls

    pub sections_there : u.sections ≤ most_sections
    sections_there = rw eu h.sections

    pub media_within : media_places + u.media_ids * media_size ≤ length s
    media_within = omega (arith, media_there, h.long)

    pub controls_within : control_places + u.control_ids * control_size ≤ length s
    controls_within = omega (arith, controls_there, h.long)

    pub sections_within : section_places + u.sections * section_size ≤ length s
    sections_within = omega (arith, sections_there, h.long)

-- the counts of the head
pub counters_is : (s : List ℕ) → every count_fits_of (counts_from 12 counters_place s) ≡ counters_sound (counters_of s)
unfolding counts_from counters_of counters_sound
counters_is s = every_both count_fits_of (packet_counts (counters_of s)) (table_counts (counters_of s))

-- the counts of table ids, or'ed
pub low_all : (bits : ℕ) (l : List ℕ) → fold bit_or bits l ≤ most_count → (bits ≤ most_count) × (every count_fits_of l ≡ true)
unfolding every
low_all bits [] e = (e, refl)
low_all bits (x ∷ l) e =
    let k = low_all (bit_or bits x) l e in
    let o = or_low bits x in
    (omega arith, rw (le-leb x most_count (omega arith)) k.1)

-- ---- and back: what an answer yes says

-- no more places in use than there may be
record InUse (l : Limits) (u : Used) : Type 0 where
  media : u.media_ids ≤ l.media_ids
  controls : u.control_ids ≤ l.control_ids
  sections : u.sections ≤ l.sections

used_was : (l : Limits) (u : Used) → used_sound l u ≡ true → InUse l u
unfolding used_sound
used_was l u e =
    let h1 = was_guarded (u.media_ids ≤? l.media_ids) _ e in
    let h2 = was_guarded (u.control_ids ≤? l.control_ids) _ h1.1 in
    record { media = leb-true _ _ h1.0; controls = leb-true _ _ h2.0; sections = leb-true _ _ h2.1 }

record Head (s others : List ℕ) (lent : Lengths) : Type 0 where
  limits : asked (limits_of s) lent ≡ 0
  used : used_sound (limits_of s) (used_of s) ≡ true
  latest : latest_sound (limits_of s) (latest_of s) ≡ true
  counters : counters_sound (counters_of s) ≡ true
  counts : every count_fits_of others ≡ true

module _ (s others : List ℕ) (lent : Lengths) where
  head_was : head_sound s others lent ≡ true → Head s others lent
  unfolding head_sound
  head_was e =
      let h1 = was_guarded (asked (limits_of s) lent =? 0) _ e in
      let h2 = was_guarded (used_sound (limits_of s) (used_of s)) _ h1.1 in
      let h3 = was_guarded (latest_sound (limits_of s) (latest_of s)) _ h2.1 in
      let h4 = was_guarded (counters_sound (counters_of s)) _ h3.1 in
      record { limits = eqb-true _ 0 h1.0; used = h2.0; latest = h3.0; counters = h4.0; counts = h4.1 }

  module _ (long : lent.state ≡ length s) where
    there : head_sound s others lent ≡ true → PlacesThere s
    there e =
        let h = head_was e in
        let p = passed _ _ h.limits in
        let u = used_was _ _ h.used in
        record {
          long = omega arith;
          media = omega arith;
          controls = omega arith;
          sections = omega arith;
        }

-- a length that fits where there is something, and two of them
pub was_there : (a : Bool) (n area : ℕ) → length_fits a n area ≡ true → a ≡ true → n ≤ area
was_there true n area e t = leb-true n area e
was_there false n area e t = true_not_false false t refl

were_there : (a b : Bool) (n m x y : ℕ) → cond (length_fits a n x) (length_fits b m y) false ≡ true → (a ≡ true → n ≤ x) × (b ≡ true → m ≤ y)
were_there a b n m x y e =
    let h = was_both (length_fits a n x) (length_fits b m y) e in (was_there a n x h.0, was_there b m y h.1)

-- a place that is sound
module _ (l : Limits) where
  pub media_was :
      (m : Media)
      → media_sound l m ≡ true
      → (m.held ≡ true → m.object.length ≤ l.mfu_area) × (every count_fits_of (stats_counts m.stats) ≡ true)
  unfolding media_sound
  media_was m e =
      let h = was_both (length_fits m.held m.object.length l.mfu_area) _ e in
      (was_there m.held _ _ h.0, h.1)

  pub control_was :
      (c : Control)
      → control_sound l c ≡ true
      → (c.joining ≡ true → c.length ≤ l.message_area) × (c.mpt ≡ true → c.mpt_length ≤ l.table_area)
  unfolding control_sound
  control_was c e = were_there c.joining c.mpt _ _ _ _ e

  latest_was :
      (x : Latest)
      → latest_sound l x ≡ true
      → (x.plt ≡ true → x.plt_length ≤ l.table_area) × (x.tot ≡ true → x.tot_length ≤ l.table_area)
  unfolding latest_sound
  latest_was x e = were_there x.plt x.tot _ _ _ _ e

  pub section_was : (x : KeptSection) → section_sound l x ≡ true → x.length ≤ l.table_area
  section_was x e = leb-true _ _ e

-- one place of those that are sound
pub place_was :
    {A : Type 0} (f : A → Bool) (g : List ℕ → A) (n size at : ℕ) (s : List ℕ) (i : ℕ)
    → every f (map g (places_from n size at s)) ≡ true
    → i < n
    → f (g (part (at + size * i) size s)) ≡ true
unfolding every places_from
place_was f g zero size at s i e h = absurd (omega arith)
place_was f g (suc n) size at s zero e h = simp (mul-zero, add-zero) (was_both (f (g (part at size s))) _ e).0
place_was f g (suc n) size at s (suc i) e h =
    let p : at + size * suc i ≡ at + size + size * i = rw mul-suc (omega arith) in
    rw p (place_was f g n size (at + size) s i (was_both (f (g (part at size s))) _ e).1 (omega arith))

-- one count of those that fit
pub count_was : (l : List ℕ) (i : ℕ) → every count_fits_of l ≡ true → get_or l i 0 ≤ most_count
unfolding every
count_was [] i e = omega arith
count_was (x ∷ l) zero e = leb-true x _ (was_both (count_fits_of x) _ e).0
count_was (x ∷ l) (suc i) e = count_was l i (was_both (count_fits_of x) _ e).1

-- question 5 answered yes
pub sound_is :
    (l others : List ℕ) (lent : Lengths)
    → lent.state ≡ length l
    → sound_in l others lent ≡ true
    → Sound l others lent
unfolding sound_in counters_sound
sound_is l others lent long e =
    let q = was_guarded (head_sound l others lent) _ e in
    let r = was_guarded (places_sound l) _ q.1 in
    let h = head_was l others lent q.0 in
    let u = used_was _ _ h.used in
    let x = latest_was _ _ h.latest in
    let c = was_both (every count_fits_of (packet_counts (counters_of l))) _ h.counters in
    let p1 = was_guarded (every (media_sound (limits_of l)) (media_in l)) _ r.0 in
    let p2 = was_guarded (every (control_sound (limits_of l)) (controls_in l)) _ p1.1 in
    let n1 = was_guarded (distinct (names_from (used_of l).media_ids media_size media_places l)) _ r.1 in
    let n2 = was_guarded (distinct (names_from (used_of l).control_ids control_size control_places l)) _ n1.1 in
    record {
      limits = h.limits;
      there = there l others lent long q.0;
      media = u.media;
      controls = u.controls;
      sections = u.sections;
      plt = x.0;
      tot = x.1;
      packets = c.0;
      tables = c.1;
      counts = h.counts;
      objects = p1.0;
      messages = p2.0;
      kept = p2.1;
      media_names = n1.0;
      control_names = n2.0;
      keys = n2.1;
    }

pub sound_session : (s : Session) → sound s ≡ true → Sound s.state s.others (lengths_of s)
unfolding sound
sound_session s e = sound_is s.state s.others (lengths_of s) refl e

-- ---- and the facts are enough

fits_there : (a : Bool) (n area : ℕ) → (a ≡ true → n ≤ area) → length_fits a n area ≡ true
fits_there true n area h = le-leb n area (h refl)
fits_there false n area h = refl

fit_there : (a b : Bool) (n m x y : ℕ) → (a ≡ true → n ≤ x) → (b ≡ true → m ≤ y) → cond (length_fits a n x) (length_fits b m y) false ≡ true
fit_there a b n m x y h k = rw (fits_there a n x h) (fits_there b m y k)

module _ (l : Limits) where
  pub media_is :
      (m : Media)
      → (m.held ≡ true → m.object.length ≤ l.mfu_area)
      → every count_fits_of (stats_counts m.stats) ≡ true
      → media_sound l m ≡ true
  unfolding media_sound
  media_is m h c = rw (fits_there m.held m.object.length l.mfu_area h) c

  pub control_is :
      (c : Control)
      → (c.joining ≡ true → c.length ≤ l.message_area)
      → (c.mpt ≡ true → c.mpt_length ≤ l.table_area)
      → control_sound l c ≡ true
  unfolding control_sound
  control_is c h k = fit_there c.joining c.mpt _ _ _ _ h k

  latest_is :
      (x : Latest)
      → (x.plt ≡ true → x.plt_length ≤ l.table_area)
      → (x.tot ≡ true → x.tot_length ≤ l.table_area)
      → latest_sound l x ≡ true
  unfolding latest_sound
  latest_is x h k = fit_there x.plt x.tot _ _ _ _ h k

  used_is : (u : Used) → InUse l u → used_sound l u ≡ true
  unfolding used_sound
  used_is u h = simp (le-leb _ _ h.media, le-leb _ _ h.controls, le-leb _ _ h.sections)

pub is_sound : (l others : List ℕ) (lent : Lengths) → Sound l others lent → sound_in l others lent ≡ true
unfolding sound_in counters_sound
is_sound l others lent h =
    let u = used_is (limits_of l) (used_of l) (record { media = h.media; controls = h.controls; sections = h.sections }) in
    let x = latest_is (limits_of l) (latest_of l) h.plt h.tot in
    simp (h.limits, u, x, h.packets, h.tables, h.counts, h.objects, h.messages, h.kept, h.media_names, h.control_names, h.keys)

-- ---- the whole question, with a head that is read from its own bytes

module _ (s : List ℕ) where
  pub front_length : state_size ≤ length s → length (take media_places s) ≡ media_places
  front_length h = length-take-le media_places s (omega arith)

  pub limits_front : (l : Limits) → l ≡ limits_of (take media_places s) → l ≡ limits_of s
  limits_front l e = e ∙ own_front limits_of 0 used_place media_places limits_own (omega arith) s

  pub used_front : (u : Used) → u ≡ used_of (take media_places s) → u ≡ used_of s
  used_front u e = e ∙ own_front used_of used_place 12 media_places used_own (omega arith) s

  head_front : (others : List ℕ) (lent : Lengths) → head_sound (take media_places s) others lent ≡ head_sound s others lent
  unfolding head_sound
  head_front others lent =
      rw (
        limits_front (limits_of (take media_places s)) refl,
        used_front (used_of (take media_places s)) refl,
        own_front latest_of latest_place 10 media_places latest_own (omega arith) s,
        own_front counters_of counters_place 96 media_places counters_own (omega arith) s,
      )

  module _ (others : List ℕ) (lent : Lengths) (long : lent.state ≡ length s) where
    pub too_short : length s < state_size → false ≡ sound_in s others lent
    too_short h =
        either (sound_in s others lent) (λ t. let k = (sound_is s others lent long t).there.long in absurd (omega arith)) (λ f. sym f)

    module _ (a : Bool) (ea : a ≡ head_sound (take media_places s) others lent) where
      pub head_fails : not a ≡ true → false ≡ sound_in s others lent
      unfolding sound_in
      head_fails t = guard_fails _ (ea ∙ head_front others lent) t

      module _ (ta : not a ≡ false) where
        pub head_there : PlacesThere s
        head_there = there s others lent long (yes (ea ∙ head_front others lent) ta)

        module _ (b : Bool) (eb : b ≡ places_sound s) where
          pub places_fail : b ≡ false → b ≡ sound_in s others lent
          unfolding sound_in
          places_fail t = t ∙ guard_holds (ea ∙ head_front others lent) ta (guard_fails _ eb (ap not t))

          pub names_decide : b ≡ true → (c : Bool) → c ≡ names_sound s → c ≡ sound_in s others lent
          unfolding sound_in
          names_decide t c ec = guard_holds (ea ∙ head_front others lent) ta (guard_holds eb (ap not t) ec)
