-- The walk over a descriptor loop: each descriptor leads on to a place ahead and lies within the loop, so that steps from one to
-- the next go over all of them. Assumes nothing.
use Rattle.std.specs.Prelude.{None, Option, Some, is_some}
use Rattle.std.proofs.Common.{◌≡◌, ℕ, suc, ◌+◌, ◌-◌, ◌%◌, ◌^◌, ◌<◌, ◌≤◌, true, false, cond, not, eqb, ltb, leb, List, [], ◌∷◌, length, get_or, sym, refl, ◌∙◌, add-zero, zero-add, arith, w8, Fits, ltb-false, eq-eqb, ne_eqb, leb-false}
use denote.Enum.Declared.{tag_of}
use types.Run.{OneOf, miss}
use Rattle.isdb_tlv.specs.Bytes.{be}
use Rattle.isdb_tlv.specs.Walk.{turn}
use Rattle.isdb_tlv.proofs.Walk.{Ahead, walk_at}
use Rattle.isdb_tlv.proofs.Numbers.{be_whole}
use Rattle.isdb_tlv.proofs.Guards.{cond_elim, either}
use Rattle.isdb_mmt.specs.contracts.desc.Descriptor.{the_type}
use Rattle.isdb_mmt.specs.Formats.Part.{part_of}
use Rattle.isdb_mmt.specs.Formats.Desc.{length_width_of, body_at, step_at, Split, item, split_from, counted, descriptor_of, is_other_of, or_next, first_of}
use Rattle.isdb_mmt.specs.declared.part.Part.{Part}
use Rattle.isdb_mmt.specs.declared.desc.Step.{Step}
use Rattle.isdb_mmt.specs.declared.desc.Step.TheVariants.{End, Broken, Raw}
use Rattle.isdb_mmt.specs.declared.desc.Counted.{Counted}
use Rattle.isdb_mmt.specs.declared.desc.Descriptor.{Descriptor}
use Rattle.isdb_mmt.specs.declared.desc.Descriptor.TheVariants.{MpuTimestamp, ExtendedTimestamp, AccessControl, Scrambler, StreamIdentifier, Service, ServiceList, ShortEvent, Content, Hevc, BroadcasterName, Other}

-- a length has four bytes at most
pub width_le : (tag : ℕ) → length_width_of tag ≤ 4
unfolding length_width_of
width_le tag =
    cond_elim (λ w. w ≤ 4) (eqb tag 0x0002) (λ e. omega arith) (λ e.
    cond_elim (λ w. w ≤ 4) (ltb tag 0x4000) (λ e1. omega arith) (λ e1.
    cond_elim (λ w. w ≤ 4) (ltb tag 0x7000) (λ e2. omega arith) (λ e2.
    cond_elim (λ w. w ≤ 4) (ltb tag 0x8000) (λ e3. omega arith) (λ e3.
    cond_elim (λ w. w ≤ 4) (ltb tag 0xF000) (λ e4. omega arith) (λ e4. omega arith)))))

-- so a number of 64 bits holds it
pub length_is : (s : List ℕ) → ((i : ℕ) → Fits w8 (get_or s i 0)) → (at tag : ℕ) {w r : ℕ} → w ≡ length_width_of tag → r ≡ be w s at % 2 ^ 64
    → r ≡ be w s at
length_is s h at tag {w} e n = n ∙ be_whole s h w at (omega (arith, width_le tag))

-- a descriptor at `at`: its body lies behind the tag and ends where the next one stands
pub record Lies (s : List ℕ) (at : ℕ) (body : Part) (next : ℕ) : Type 0 where
  pub ahead : at < next
  pub within : next ≤ length s
  pub starts : at + 2 ≤ body.start
  pub ends : body.start + body.length ≡ next

abbrev pub Inside : List ℕ → ℕ → Step → Type 0
Inside s at End = Unit {0}
Inside s at (Broken p) = (p ≡ at) × (at < length s)
Inside s at (Raw tag body next) = Lies s at body next

module _ (s : List ℕ) where
  body_inside : (at tag w : ℕ) → 2 ≤ length s - at → Inside s at (body_at s at tag w)
  body_inside at tag w h =
      let n = be w s (at + 2) in
      cond_elim (Inside s at) (ltb (length s - (at + 2)) w) (λ e. (refl, omega arith)) (λ e.
      cond_elim (Inside s at) (ltb (length s - (at + 2 + w)) n) (λ e1. (refl, omega arith)) (λ e1.
      let a = ltb-false (length s - (at + 2)) w e in
      let b = ltb-false (length s - (at + 2 + w)) n e1 in
      record { ahead = omega arith; within = omega arith; starts = omega arith; ends = refl }))

  pub step_inside : (at : ℕ) → Inside s at (step_at s at)
  unfolding step_at
  step_inside at =
      cond_elim (Inside s at) (leb (length s) at) (λ e. tt) (λ e.
      let a = leb-false (length s) at e in
      cond_elim (Inside s at) (ltb (length s - at) 2) (λ e1. (refl, a)) (λ e1.
      body_inside at (be 2 s at) (length_width_of (be 2 s at)) (ltb-false (length s - at) 2 e1)))

  pub raw_lies : {at tag next : ℕ} {body : Part} → step_at s at ≡ Raw tag body next → Lies s at body next
  raw_lies {at} e = rw e at (step_inside at)

  ahead_of : (at : ℕ) (d : Step) → Inside s at d → Ahead (length s) at (item d)
  ahead_of at End w = tt
  ahead_of at (Broken p) w = tt
  ahead_of at (Raw tag body next) w = (omega arith, w.ahead)

  -- the descriptors from a place on: what stands there, and the descriptors from where it leads
  pub split_at : (at : ℕ) → split_from s at ≡ turn (split_from s) (item (step_at s at))
  unfolding split_from
  split_at at =
      walk_at (λ p. item (step_at s p)) (record { found = []; broke = None }) (length s) (λ p. ahead_of p (step_at s p) (step_inside p)) at

-- k descriptors before these
unfoldable pub plus : ℕ → Split → Counted
plus k l = record { count = k + length l.found; broken = is_some l.broke }

pub plus_zero : (l : Split) → plus 0 l ≡ counted l
unfolding plus counted
plus_zero l = rw zero-add

-- the turns of the count
module _ (s : List ℕ) (at k : ℕ) {r : Counted} (e : plus k (split_from s at) ≡ r) where
  pub count_end : step_at s at ≡ End → record { count = k; broken = false } ≡ r
  unfolding plus
  count_end d = rw (split_at s at, d, add-zero) at e

  pub count_broken : {p : ℕ} → step_at s at ≡ Broken p → record { count = k; broken = true } ≡ r
  unfolding plus
  count_broken d = rw (split_at s at, d, add-zero) at e

  pub count_last : (d : Step) → d ≡ step_at s at → ((tag : ℕ) (body : Part) (to : ℕ) → d ≡ Raw tag body to → ⊥) → ((p : ℕ) → d ≡ Broken p → ⊥)
      → record { count = k; broken = false } ≡ r
  count_last End d h b = count_end (sym d)
  count_last (Broken p) d h b = absurd (b p refl)
  count_last (Raw tag body to) d h b = absurd (h tag body to refl)

  pub count_on : {tag next : ℕ} {body : Part} → step_at s at ≡ Raw tag body next → plus (k + 1) (split_from s next) ≡ r
  unfolding plus
  count_on {next = next} d =
      let n = length (split_from s next).found in
      let i : k + 1 + n ≡ k + suc n = omega arith in
      rw i (rw (split_at s at, d) at e)

-- a descriptor of any variant but the last was decoded
abbrev before_other : List ℕ
before_other = 0 ∷ 1 ∷ 2 ∷ 3 ∷ 4 ∷ 5 ∷ 6 ∷ 7 ∷ 8 ∷ 9 ∷ 10 ∷ []

pub decoded_one : (d : Descriptor) → OneOf before_other (tag_of the_type d) → is_other_of d ≡ false
decoded_one MpuTimestamp h = refl
decoded_one (ExtendedTimestamp e) h = refl
decoded_one (AccessControl c l) h = refl
decoded_one (Scrambler l i) h = refl
decoded_one (StreamIdentifier c) h = refl
decoded_one (Service t p n) h = refl
decoded_one ServiceList h = refl
decoded_one (ShortEvent l n t) h = refl
decoded_one Content h = refl
decoded_one (Hevc p t l) h = refl
decoded_one (BroadcasterName n) h = refl
decoded_one (Other t b) h = absurd (miss before_other 11 tt h)

or_next_lem : (d : Descriptor) (body : Part) (rest : Option (Descriptor × Part)) → or_next d body rest ≡ cond (not (is_other_of d)) (Some (d, body)) rest
or_next_lem d body rest = either (is_other_of d) (λ e. rw e) (λ e. rw e)

-- the turns of the search for a tag
module _ (tag : ℕ) (s : List ℕ) (at : ℕ) where
  -- where no descriptor stands, none is found
  pub first_none : (d : Step) → d ≡ step_at s at → ((t : ℕ) (body : Part) (next : ℕ) → d ≡ Raw t body next → ⊥) → first_of tag s at ≡ None
  unfolding first_of
  first_none End e h = rw (split_at s at, ← e)
  first_none (Broken p) e h = rw (split_at s at, ← e)
  first_none (Raw t body next) e h = absurd (h t body next refl)

  module _ {t next : ℕ} {body : Part} (e : step_at s at ≡ Raw t body next) where
    pub first_raw : first_of tag s at
        ≡ cond (eqb t tag) (or_next (descriptor_of tag (part_of s body)) body (first_of tag s next)) (first_of tag s next)
    unfolding first_of
    first_raw = rw (split_at s at, e)

    -- one of another tag
    pub first_other : (t ≡ tag → ⊥) → first_of tag s at ≡ first_of tag s next
    first_other h = rw (first_raw, ne_eqb t tag h)

    -- one of the tag, decoded as d
    module _ {d : Descriptor} (h : t ≡ tag) (m : d ≡ descriptor_of t (part_of s body)) where
      first_same : first_of tag s at ≡ cond (not (is_other_of d)) (Some (d, body)) (first_of tag s next)
      first_same =
          let m' : descriptor_of tag (part_of s body) ≡ d = sym (rw h at m) in
          rw (first_raw, eq-eqb t tag h, m') (or_next_lem d body (first_of tag s next))

      pub first_found : not (is_other_of d) ≡ true → first_of tag s at ≡ Some (d, body)
      first_found n = rw (first_same, n)

    -- one of the tag that could not be decoded
    pub first_kept : t ≡ tag → is_other_of (descriptor_of t (part_of s body)) ≡ true → first_of tag s at ≡ first_of tag s next
    first_kept h n = rw (first_same h refl, n)
