-- What becomes of a fragment, by the place of its id, is what the model does. Assumes nothing.
use Rattle.std.specs.Prelude.{Option, None, Some, is_some}
use Rattle.std.proofs.Common.{◌≡◌, ℕ, ◌+◌, ◌-◌, ◌*◌, ◌<◌, ◌≤◌, Bool, true, false, cond, not, ◌&&◌, ltb, leb, ◌++◌, length, drop, sym, refl, ap, ◌∙◌, arith, length-append, length-drop, ltb-false, ltb-true, le-leb}
use borrow.Author.Tests.{lt-leb, not-true, not-false}
use Rattle.isdb_tlv.proofs.Guards.{cond_elim}
use Rattle.isdb_mmt.specs.Decoder.Packet.{Bytes, MessagePacket}
use Rattle.isdb_mmt.specs.Decoder.Objects.{gap}
use Rattle.isdb_mmt.specs.Decoder.Reassembly.{PartialMessage, Reassembly, short, flags_of, part_before, joined_on, part_after, whole_of, reassembly_after, message_completed, continues, orphan, oversize, most_message}
use Rattle.isdb_mmt.specs.Decoder.Needs.{partial_length, fragment_area, reassembly_needs}
use Rattle.isdb_mmt.specs.Memory.Lent.{part, over}
use Rattle.isdb_mmt.specs.Memory.View.{given, control_state_in}
use Rattle.isdb_mmt.specs.Pushes.MediaPlace.{gap_after}
use Rattle.isdb_mmt.specs.Pushes.Leaves.{joined_in, bytes_over}
use Rattle.isdb_mmt.specs.Pushes.Fragments.{in_sequence, grown_length, continued, by_division, flags_in, fragment_outcome, joined_with, joined_by, joined_as, laid_by, area_by, whole_by_of, completes, faults_of}
use Rattle.isdb_mmt.specs.declared.message.Division.{Division}
use Rattle.isdb_mmt.specs.declared.message.Division.TheVariants.{Undivided as undivided, First as first, Middle as middle, Last as last}
use Rattle.isdb_mmt.specs.declared.message.Fragment.{Fragment}
use Rattle.isdb_mmt.specs.declared.decoder.control.Control.{Control}
use Rattle.isdb_mmt.specs.declared.decoder.messages.FragmentOutcome.{FragmentOutcome}
use Rattle.isdb_mmt.specs.declared.decoder.messages.FragmentOutcome.TheVariants.{Short, Undivided, First, Orphan, Oversize, Grown, Whole}
use Rattle.isdb_mmt.specs.declared.decoder.messages.Joined.{Joined}
use Rattle.isdb_mmt.proofs.Lent.{over_same, over_grown}
use Rattle.isdb_mmt.proofs.Names.{true_not_false}

-- ---- the gap rule

given_gap : (seen : Bool) (k n : ℕ) → gap (given seen k) n ≡ gap_after seen k n
unfolding gap
given_gap true k n = refl
given_gap false k n = refl

taken_away : {A : Type 0} (j g : Bool) (a : A) → cond g None (given j a) ≡ given (cond j (not g) false) a
taken_away true true a = refl
taken_away true false a = refl
taken_away false true a = refl
taken_away false false a = refl

-- ---- all that the model does with a message packet, by what becomes of the fragment

pub record Does (l : Reassembly) (x : MessagePacket) (c : Control) (m : Bytes) (f : FragmentOutcome) : Type 0 where
  pub joined : joined_as (reassembly_after l x).partial ≡ joined_by f c x.payload
  pub area : reassembly_needs l x ≡ area_by f c x.payload
  pub orphan_fragments : orphan l x ≡ (faults_of f).orphan
  pub oversize : oversize l x ≡ (faults_of f).oversize
  pub shorts : short x ≡ (faults_of f).malformed
  pub whole : message_completed l x ≡ whole_by_of f c m x.payload
  pub bytes : (at : ℕ) (t : Bytes) → (c.joining ≡ true → m ≡ part at c.length t) → at + area_by f c x.payload ≤ length t
      → bytes_over at (joined_in (reassembly_after l x).partial) t ≡ laid_by f at c x.payload t

module _ (c : Control) (m mpt : Bytes) (long : c.joining ≡ true → length m ≡ c.length) (x : MessagePacket) where
  abbrev l : Reassembly
  l = (control_state_in c m mpt).reassembly

  abbrev b : Bytes
  b = x.payload

  abbrev g : Bool
  g = in_sequence c x.number

  abbrev now_joined : PartialMessage
  now_joined = record { long = c.long_length; aggregated = c.aggregated; bytes = m }

  part_before_lem : part_before l x ≡ given g now_joined
  unfolding part_before control_state_in in_sequence
  part_before_lem =
      ap (λ (y : Bool). cond y None (given c.joining now_joined)) (given_gap c.seen c.sequence x.number)
      ∙ taken_away c.joining (gap_after c.seen c.sequence x.number) now_joined

  was_joining : g ≡ true → c.joining ≡ true
  unfolding in_sequence
  was_joining e = go c.joining e
    where
      go : (j : Bool) → cond j (not (gap_after c.seen c.sequence x.number)) false ≡ true → j ≡ true
      go true k = refl
      go false k = k

  -- a payload below 2 bytes
  short_does : short x ≡ true → Does l x c m Short
  unfolding reassembly_after message_completed orphan oversize reassembly_needs whole_by_of joined_by area_by laid_by control_state_in
  short_does e =
      record {
        joined = rw e (go c.joining long);
        area = rw e;
        orphan_fragments = rw e;
        oversize = rw e;
        shorts = e;
        whole = rw e;
        bytes = λ at t h w. rw e (lies at t c.joining h);
      }
    where
      go : (j : Bool) → (j ≡ true → length m ≡ c.length)
          → joined_as (given j now_joined) ≡ cond j (Some (joined_with c.long_length c.aggregated c.length)) None
      go true k = ap (λ n. Some (joined_with c.long_length c.aggregated n)) (k refl)
      go false k = refl

      lies : (at : ℕ) (t : Bytes) (j : Bool) → (j ≡ true → m ≡ part at c.length t) → bytes_over at (joined_in (given j now_joined)) t ≡ t
      lies at t true k = ap (λ (y : Bytes). over at y t) (k refl) ∙ over_same at c.length t
      lies at t false k = refl

  module _ (e : short x ≡ false) where
    module _ (d : Division) (f : (flags_of x).division ≡ d) where
      after_is : (reassembly_after l x).partial ≡ part_after d (given g now_joined) x
      unfolding reassembly_after
      after_is = rw (e, f, part_before_lem)

      pub gives_is : message_completed l x ≡ whole_of d (given g now_joined) x
      unfolding message_completed
      gives_is = rw (e, f, part_before_lem)

      needs_is : reassembly_needs l x ≡ fragment_area d (given g now_joined) (drop 2 b)
      unfolding reassembly_needs
      needs_is = rw (e, f, part_before_lem)

      orphan_is : orphan l x ≡ (continues d && not (is_some (given g now_joined)))
      unfolding orphan
      orphan_is = rw (e, f, part_before_lem)

      oversize_is : oversize l x ≡ (continues d && (is_some (given g now_joined) && not (is_some (joined_on (given g now_joined) (drop 2 b)))))
      unfolding oversize
      oversize_is = rw (e, f, part_before_lem)

    undivided_does : (flags_of x).division ≡ undivided → Does l x c m Undivided
    unfolding part_after whole_of whole_by_of joined_by area_by laid_by
    undivided_does f =
        record {
          joined = ap joined_as (after_is undivided f);
          area = needs_is undivided f;
          orphan_fragments = orphan_is undivided f;
          oversize = oversize_is undivided f;
          shorts = e;
          whole = gives_is undivided f;
          bytes = λ at t h w. ap (λ (o : Option PartialMessage). bytes_over at (joined_in o) t) (after_is undivided f);
        }

    first_does : (flags_of x).division ≡ first → Does l x c m First
    unfolding part_after whole_of whole_by_of joined_by area_by laid_by
    first_does f =
        record {
          joined = ap joined_as (after_is first f) ∙ ap (λ n. Some (joined_with (flags_in b).long_length (flags_in b).aggregated n)) (length-drop 2 b);
          area = needs_is first f ∙ length-drop 2 b;
          orphan_fragments = orphan_is first f;
          oversize = oversize_is first f;
          shorts = e;
          whole = gives_is first f;
          bytes = λ at t h w. ap (λ (o : Option PartialMessage). bytes_over at (joined_in o) t) (after_is first f);
        }

    -- a continuing fragment: without a message, with one that it makes too long, with one that it fits
    gone : g ≡ false → joined_on (given g now_joined) (drop 2 b) ≡ None
    unfolding joined_on
    gone off = rw off

    orphan_does : (d : Division) → continues d ≡ true → g ≡ false → (flags_of x).division ≡ d → Does l x c m Orphan
    unfolding part_after whole_of whole_by_of joined_on joined_by area_by laid_by
    orphan_does middle k off f =
        record {
          joined = ap joined_as (after_is middle f ∙ gone off);
          area = needs_is middle f ∙ rw off;
          orphan_fragments = orphan_is middle f ∙ rw off;
          oversize = oversize_is middle f ∙ rw off;
          shorts = e;
          whole = gives_is middle f;
          bytes = λ at t h w. ap (λ (o : Option PartialMessage). bytes_over at (joined_in o) t) (after_is middle f ∙ gone off);
        }
    orphan_does last k off f =
        record {
          joined = ap joined_as (after_is last f);
          area = needs_is last f ∙ rw off;
          orphan_fragments = orphan_is last f ∙ rw off;
          oversize = oversize_is last f ∙ rw off;
          shorts = e;
          whole = gives_is last f ∙ gone off;
          bytes = λ at t h w. ap (λ (o : Option PartialMessage). bytes_over at (joined_in o) t) (after_is last f);
        }
    orphan_does undivided k off f = true_not_false false k refl
    orphan_does first k off f = true_not_false false k refl

    module _ (yes : g ≡ true) where
      is_long : length m + length (drop 2 b) ≡ grown_length c b
      is_long = ap (λ k. k + length (drop 2 b)) (long (was_joining yes)) ∙ ap (λ k. c.length + k) (length-drop 2 b)

      on_long : (v : Bool) → leb (grown_length c b) most_message ≡ v
          → joined_on (given g now_joined) (drop 2 b)
          ≡ cond v (Some (record { long = c.long_length; aggregated = c.aggregated; bytes = m ++ drop 2 b })) None
      unfolding joined_on
      on_long v h = rw (yes, is_long, h)

      module _ (big : most_message < grown_length c b) where
        no_more : joined_on (given g now_joined) (drop 2 b) ≡ None
        no_more = on_long false (lt-leb _ _ big)

        oversize_does : (d : Division) → continues d ≡ true → (flags_of x).division ≡ d → Does l x c m Oversize
        unfolding part_after whole_of whole_by_of joined_by area_by laid_by
        oversize_does middle k f =
            record {
              joined = ap joined_as (after_is middle f ∙ no_more);
              area = needs_is middle f ∙ ap partial_length no_more;
              orphan_fragments = orphan_is middle f ∙ rw yes;
              oversize = oversize_is middle f ∙ rw no_more (rw yes);
              shorts = e;
              whole = gives_is middle f;
              bytes = λ at t h w. ap (λ (o : Option PartialMessage). bytes_over at (joined_in o) t) (after_is middle f ∙ no_more);
            }
        oversize_does last k f =
            record {
              joined = ap joined_as (after_is last f);
              area = needs_is last f ∙ ap partial_length no_more;
              orphan_fragments = orphan_is last f ∙ rw yes;
              oversize = oversize_is last f ∙ rw no_more (rw yes);
              shorts = e;
              whole = gives_is last f ∙ no_more;
              bytes = λ at t h w. ap (λ (o : Option PartialMessage). bytes_over at (joined_in o) t) (after_is last f);
            }
        oversize_does undivided k f = true_not_false false k refl
        oversize_does first k f = true_not_false false k refl

      module _ (fits : grown_length c b ≤ most_message) where
        abbrev more : PartialMessage
        more = record { long = c.long_length; aggregated = c.aggregated; bytes = m ++ drop 2 b }

        pub one_more : joined_on (given g now_joined) (drop 2 b) ≡ Some more
        one_more = on_long true (le-leb _ _ fits)

        length_more : length (m ++ drop 2 b) ≡ grown_length c b
        length_more = length-append m (drop 2 b) ∙ is_long

        grown_does : (flags_of x).division ≡ middle → Does l x c m Grown
        unfolding part_after whole_of whole_by_of joined_by area_by laid_by
        grown_does f =
            record {
              joined = ap joined_as (after_is middle f ∙ one_more) ∙ ap (λ n. Some (joined_with c.long_length c.aggregated n)) length_more;
              area = needs_is middle f ∙ ap partial_length one_more ∙ length_more;
              orphan_fragments = orphan_is middle f ∙ rw yes;
              oversize = oversize_is middle f ∙ rw one_more (rw yes);
              shorts = e;
              whole = gives_is middle f;
              bytes =
                  λ at t h w.
                  ap (λ (o : Option PartialMessage). bytes_over at (joined_in o) t) (after_is middle f ∙ one_more)
                  ∙ over_grown at c.length m (drop 2 b) t (h (was_joining yes)) (long (was_joining yes)) (omega (arith, length-drop 2 b));
            }

        whole_does : (flags_of x).division ≡ last → Does l x c m Whole
        unfolding part_after whole_of whole_by_of joined_by area_by laid_by
        whole_does f =
            record {
              joined = ap joined_as (after_is last f);
              area = needs_is last f ∙ ap partial_length one_more ∙ length_more;
              orphan_fragments = orphan_is last f ∙ rw yes;
              oversize = oversize_is last f ∙ rw one_more (rw yes);
              shorts = e;
              whole = gives_is last f ∙ one_more;
              bytes = λ at t h w. ap (λ (o : Option PartialMessage). bytes_over at (joined_in o) t) (after_is last f);
            }

    continued_does : (d : Division) → continues d ≡ true → (flags_of x).division ≡ d → (ends : Bool)
        → ((y : g ≡ true) → grown_length c b ≤ most_message → Does l x c m (cond ends Whole Grown)) → Does l x c m (continued ends c x.number b)
    unfolding continued
    continued_does d k f ends h =
        cond_elim (Does l x c m) (not g) (λ t. orphan_does d k (not-true g t) f)
        (λ t.
        cond_elim (Does l x c m) (ltb most_message (grown_length c b)) (λ u. oversize_does (not-false g t) (ltb-true _ _ u) d k f)
        (λ u. h (not-false g t) (ltb-false _ _ u)))

    divided_does : (d : Division) → (flags_of x).division ≡ d → Does l x c m (by_division d c x.number b)
    divided_does undivided f = undivided_does f
    divided_does first f = first_does f
    divided_does middle f = continued_does middle refl f false (λ y h. grown_does y h f)
    divided_does last f = continued_does last refl f true (λ y h. whole_does y h f)

  pub outcome_does : Does l x c m (fragment_outcome c x.number b)
  unfolding fragment_outcome
  outcome_does = cond_elim (Does l x c m) (ltb (length b) 2) (λ t. short_does t) (λ t. divided_does t (flags_of x).division refl)

-- of the others none is whole
pub none_whole : (f : FragmentOutcome) (c : Control) (m b : Bytes) → completes f ≡ false → whole_by_of f c m b ≡ None
unfolding whole_by_of
none_whole Short c m b e = refl
none_whole Undivided c m b e = true_not_false true refl e
none_whole First c m b e = refl
none_whole Orphan c m b e = refl
none_whole Oversize c m b e = refl
none_whole Grown c m b e = refl
none_whole Whole c m b e = true_not_false true refl e

-- ---- the data of a fragment, to its area

module _ (i area : ℕ) (c : Control) (b l : Bytes) (f : FragmentOutcome) where
  pub first_fits : (d : Bytes) → i * area + area_by f c b ≤ length l → f ≡ First → d ≡ drop 2 b → i * area + 0 + length d ≤ length l
  unfolding area_by
  first_fits d h e q =
      let w : i * area + (length b - 2) ≤ length l = rw e at h in
      omega (arith, ap (λ (y : Bytes). length y) q, length-drop 2 b)

  pub grown_fits : (d : Bytes) → i * area + area_by f c b ≤ length l → f ≡ Grown → d ≡ drop 2 b → i * area + c.length + length d ≤ length l
  unfolding area_by
  grown_fits d h e q =
      let w : i * area + grown_length c b ≤ length l = rw e at h in
      omega (arith, ap (λ (y : Bytes). length y) q, length-drop 2 b)

-- ---- lengths, by the data alone

module _ (f : FragmentOutcome) (c : Control) (b : Bytes) where
  pub first_joined : (x : Fragment) (n : ℕ) (r : Joined) → f ≡ First → n ≡ area_by f c b → x ≡ flags_in b
      → r ≡ joined_with x.long_length x.aggregated n → Some r ≡ joined_by f c b
  unfolding area_by joined_by
  first_joined x n r e h q k =
      let w : n ≡ length b - 2 = rw e at h in
      ap (λ (y : Joined). Some y) (k ∙ ap (λ (y : Fragment). joined_with y.long_length y.aggregated n) q
      ∙ ap (joined_with (flags_in b).long_length (flags_in b).aggregated) w) ∙ ap (λ (y : FragmentOutcome). joined_by y c b) (sym e)

  pub grown_joined : (n : ℕ) (r : Joined) → f ≡ Grown → n ≡ area_by f c b → r ≡ joined_with c.long_length c.aggregated n → Some r ≡ joined_by f c b
  unfolding area_by joined_by
  grown_joined n r e h k =
      let w : n ≡ grown_length c b = rw e at h in
      ap (λ (y : Joined). Some y) (k ∙ ap (joined_with c.long_length c.aggregated) w) ∙ ap (λ (y : FragmentOutcome). joined_by y c b) (sym e)
