-- The entries of a table's loop: each leads on to a place ahead and lies within the loop, so that steps from one to the next go
-- over all of them. Assumes nothing.
use Rattle.std.specs.Prelude.{Err, Ok, Result, is_some}
use Rattle.std.proofs.Common.{◌≡◌, ℕ, zero, suc, ◌+◌, ◌-◌, ◌^◌, ◌<◌, ◌≤◌, true, false, ltb, leb, List, length, refl, add-zero, add_assoc, zero-add, arith, w64, Fits, ltb-false, leb-false, leb-true}
use Rattle.isdb_tlv.specs.Walk.{turn}
use Rattle.isdb_tlv.proofs.Walk.{Ahead, walk_at}
use Rattle.isdb_tlv.proofs.Guards.{cond_elim}
use Rattle.isdb_mmt.specs.Formats.Part.{part_of}
use Rattle.isdb_mmt.specs.Formats.Desc.{split_of, broken, Loop, ended}
use Rattle.isdb_mmt.specs.Formats.Section.{length12, in_section, entry_at, entry_as, entry_item, entries_from, entries_told}
use Rattle.isdb_mmt.specs.declared.table.section.SectionHeader.{SectionHeader}
use Rattle.isdb_mmt.specs.declared.table.section.SectionError.{SectionError}
use Rattle.isdb_mmt.specs.declared.table.section.Entry.{Entry}
use Rattle.isdb_mmt.specs.Formats.Steps.{EntryStep}
use Rattle.isdb_mmt.specs.declared.walk_step.WalkStep.TheVariants.{End, Malformed as malformed, Entry as entry}
use Rattle.isdb_mmt.specs.declared.table.section.Entries.{Entries}

-- what holds of every refusal, and of what is read of the body of every section, holds of what a table is read as
pub section_elim : {R : Type 0} (P : R → Type 0) (refused : SectionError → R) (read : SectionHeader → List ℕ → R) (s : List ℕ)
    → ((e : SectionError) → P (refused e)) → ((h : SectionHeader) → P (read h (part_of s h.body)))
    → (d : Result SectionHeader SectionError) → P (in_section refused read s d)
section_elim P refused read s f g (Err e) = f e
section_elim P refused read s f g (Ok h) = g h

-- an entry at `at`, with `k` bytes of fields: its descriptors stand behind their length and end where the next entry stands
pub record Lies (s : List ℕ) (k at : ℕ) (e : Entry) (next : ℕ) : Type 0 where
  pub here : e.at ≡ at
  pub starts : e.descriptors.start ≡ at + k + 2
  pub ends : e.descriptors.start + e.descriptors.length ≡ next
  pub within : next ≤ length s

abbrev pub Inside : List ℕ → ℕ → ℕ → EntryStep → Type 0
Inside s k at End = length s ≤ at
Inside s k at malformed = at < length s
Inside s k at (entry e next) = Lies s k at e next

module _ (s : List ℕ) (k : ℕ) where
  pub entry_inside : (at : ℕ) → Inside s k at (entry_at s k at)
  unfolding entry_at
  entry_inside at =
      cond_elim (Inside s k at) (leb (length s) at) (λ e. leb-true (length s) at e) (λ e.
      let a = leb-false (length s) at e in
      cond_elim (Inside s k at) (ltb (length s - at) (k + 2)) (λ e1. a) (λ e1.
      cond_elim (Inside s k at) (ltb (length s - (at + k + 2)) (length12 s (at + k))) (λ e2. a) (λ e2.
      let b = ltb-false (length s - at) (k + 2) e1 in
      let d = ltb-false (length s - (at + k + 2)) (length12 s (at + k)) e2 in
      record { here = refl; starts = refl; ends = refl; within = omega arith })))

  pub entry_lies : {at next : ℕ} {e : Entry} → entry_at s k at ≡ entry e next → Lies s k at e next
  entry_lies {at} e = rw e at (entry_inside at)

  ahead_of : (at : ℕ) (d : EntryStep) → Inside s k at d → Ahead (length s) at (entry_item s d)
  ahead_of at End w = tt
  ahead_of at malformed w = tt
  ahead_of at (entry e next) w = omega (arith, w.starts, w.ends, w.within)

  -- the entries from a place on: what stands there, and the entries from where it leads
  pub entries_at : (at : ℕ) → entries_from s k at ≡ turn (entries_from s k) (entry_item s (entry_at s k at))
  unfolding entries_from
  entries_at at =
      walk_at (λ p. entry_item s (entry_at s k p)) (ended true) (length s) (λ p. ahead_of p (entry_at s k p) (entry_inside p)) at

-- what holds at the end, where an entry is not whole and of every entry that lies there, holds of what a table makes of a place
pub entry_elim : {R : Type 0} (P : R → Type 0) (end broke : R) (found : Entry → ℕ → R) (s : List ℕ) (k at : ℕ)
    → P end → P broke → ((e : Entry) (next : ℕ) → Lies s k at e next → P (found e next)) → P (entry_as end broke found (entry_at s k at))
entry_elim P end broke found s k at x y f = go (entry_at s k at) (entry_inside s k at)
  where
    go : (d : EntryStep) → Inside s k at d → P (entry_as end broke found d)
    go End w = x
    go malformed w = y
    go (entry e next) w = f e next w

-- of one loop, one breaks at most
pub broken_le : (s : List ℕ) {m : ℕ} → m ≡ broken s → m ≤ 1
broken_le s e = rw e (cond_elim (λ n. n ≤ 1) (is_some (split_of s).broke) (λ d. omega arith) (λ d. omega arith))

-- an entry takes two bytes at least, so no more loops break than there are bytes
module _ (s : List ℕ) (k : ℕ) where
  breaks_step : (at : ℕ) → ((next : ℕ) → at < next → next ≤ length s → (entries_from s k next).breaks ≤ length s - next)
      → (d : EntryStep) → Inside s k at d → (turn (entries_from s k) (entry_item s d)).breaks ≤ length s - at
  breaks_step at h End w = omega arith
  breaks_step at h malformed w = omega arith
  breaks_step at h (entry e next) w =
      let a : at < next = omega (arith, w.starts, w.ends) in
      let b : broken (part_of s e.descriptors) ≤ 1 = broken_le (part_of s e.descriptors) refl in
      omega (arith, h next a w.within, w.within)

  breaks_within : (n at : ℕ) → length s - at < n → (entries_from s k at).breaks ≤ length s - at
  breaks_within zero at h = absurd (omega arith)
  breaks_within (suc n) at h =
      rw (entries_at s k at)
      (breaks_step at (λ next a b. breaks_within n next (omega arith)) (entry_at s k at) (entry_inside s k at))

  pub breaks_le : (at : ℕ) {r : Entries} → r ≡ entries_told (entries_from s k at) → r.breaks ≤ length s - at
  unfolding entries_told
  breaks_le at e = rw e (breaks_within (suc (length s - at)) at (omega arith))

-- with one loop before them the breaks are still a number of 64 bits
pub breaks_fit : (b s : List ℕ) (k n : ℕ) {m : ℕ} {r : Entries} → m ≡ broken b → r ≡ entries_told (entries_from s k (n + 2)) → length s < 2 ^ 64
    → Fits w64 (m + r.breaks)
breaks_fit b s k n d e h = record { fits = omega (arith, broken_le b d, breaks_le s k (n + 2) e) }

-- n entries before these, and b descriptor loops that broke
unfoldable pub plus : ℕ → ℕ → Loop Entry → Entries
plus n b l = record { count = n + length l.found; breaks = b + l.breaks; whole = l.whole }

pub plus_zero : (l : Loop Entry) → plus 0 0 l ≡ entries_told l
unfolding plus entries_told
plus_zero l = rw (zero-add (length l.found), zero-add l.breaks)

-- the turns of the count
module _ (s : List ℕ) (k at n b : ℕ) {r : Entries} (e : plus n b (entries_from s k at) ≡ r) where
  pub count_end : entry_at s k at ≡ End → record { count = n; breaks = b; whole = true } ≡ r
  unfolding plus
  count_end d = rw (entries_at s k at, d, add-zero n, add-zero b) at e

  pub count_malformed : entry_at s k at ≡ malformed → record { count = n; breaks = b; whole = false } ≡ r
  unfolding plus
  count_malformed d = rw (entries_at s k at, d, add-zero n, add-zero b) at e

  pub count_on : {x : Entry} {next m : ℕ} → entry_at s k at ≡ entry x next → m ≡ broken (part_of s x.descriptors)
      → plus (n + 1) (b + m) (entries_from s k next) ≡ r
  unfolding plus
  count_on {x} {next} {m} d h =
      let l = entries_from s k next in
      let i : n + 1 + length l.found ≡ n + suc (length l.found) = omega arith in
      rw (i, h, add_assoc b (broken (part_of s x.descriptors)) l.breaks) (rw (entries_at s k at, d) at e)

-- a loop as it was counted
module _ (l : Loop Entry) {r : Entries} (e : r ≡ entries_told l) where
  pub whole_told : l.whole ≡ r.whole
  unfolding entries_told
  whole_told = rw e

  pub count_told : length l.found ≡ r.count
  unfolding entries_told
  count_told = rw e

  pub breaks_told : l.breaks ≡ r.breaks
  unfolding entries_told
  breaks_told = rw e
