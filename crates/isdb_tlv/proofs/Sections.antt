-- The scan for sections: where it finds one, and that stepping from one to the next goes through all. Assumes nothing.
use Rattle.std.specs.Prelude.{None, Option, Some}
use Prim.Native.Nat.{ℕ, zero, suc, ◌+◌, ◌-◌, ◌≤◌, ◌<◌}
use mathlib.Core.Path.{◌≡◌, refl, sym, ap}
use mathlib.Core.List.{List, [], ◌∷◌}
use mathlib.Core.Bool.{not}
use native.Mathlib.Omega.{arith}
use lib.Dec.{ltb, eqb}
use lib.ListN.{length, get_or, take, drop}
use borrow.Author.Tests.{ltb-false, lt-ltb, le-ltb}
use Rattle.isdb_tlv.specs.Crc.{crc_of}
use Rattle.isdb_tlv.specs.Walk.{Next, turn}
use Rattle.isdb_tlv.specs.Si.{is_tlv_si, table_id_of, whole_size, section_at, found, scan_at, sections_from, first, next_section_of, onward}
use Rattle.isdb_tlv.specs.declared.si.Section.{Section}
use Rattle.isdb_tlv.proofs.Guards.{cond_elim}
use Rattle.isdb_tlv.proofs.Walk.{Ahead, walk_at}

-- a section at `at` or behind it, whole and within the data
pub record Lies (s : List ℕ) (at : ℕ) (x : Section) : Type 0 where
  pub behind : at ≤ x.offset
  pub whole : 12 ≤ x.size
  pub within : x.offset + x.size ≤ length s

abbrev pub Found : List ℕ → ℕ → Option Section → Type 0
Found s at None = Unit {0}
Found s at (Some x) = Lies s at x

abbrev Here : List ℕ → ℕ → Option Section → Type 0
Here s at None = Unit {0}
Here s at (Some x) = (x.offset ≡ at) × Lies s at x

-- of the sections from `at` on: they are the first and those from its end on, and the first lies there
record Steps (s : List ℕ) (at : ℕ) (l : List Section) : Type 0 where
  step : l ≡ onward s (first l)
  lies : Found s at (first l)

module _ (s : List ℕ) where
  here : (at : ℕ) → Here s at (section_at s at)
  unfolding section_at
  here at =
      let n = whole_size s at in
      cond_elim (Here s at) (not (is_tlv_si (table_id_of s at))) (λ e. tt) (λ e.
      cond_elim (Here s at) (ltb (get_or s (at + 1) 0) 128) (λ e1. tt) (λ e1.
      cond_elim (Here s at) (ltb n 12) (λ e2. tt) (λ e2.
      cond_elim (Here s at) (ltb (length s - at) n) (λ e3. tt) (λ e3.
      cond_elim (Here s at) (not (eqb (crc_of (take n (drop at s))) 0)) (λ e4. tt) (λ e4.
      let a = ltb-false n 12 e2 in
      let b = ltb-false (length s - at) n e3 in
      (refl, record { behind = omega arith; whole = a; within = omega arith }))))))

  ahead_found : (at : ℕ) → 3 ≤ length s - at → (m : Option Section) → Here s at m → Ahead (length s) at (found at m)
  ahead_found at h None w = omega arith
  ahead_found at h (Some x) w = let n = w.1.whole in omega arith

  ahead : (at : ℕ) → Ahead (length s) at (scan_at s at)
  ahead at =
      cond_elim (Ahead (length s) at) (ltb (length s - at) 3) (λ e. tt) (λ e.
      ahead_found at (ltb-false (length s - at) 3 e) (section_at s at) (here at))

  -- the equation that the scan is known by
  scan : (at : ℕ) → sections_from s at ≡ turn (sections_from s) (scan_at s at)
  unfolding sections_from
  scan at = walk_at (scan_at s) [] (length s) ahead at

  scan_found : (at : ℕ) → 3 ≤ length s - at → (m : Option Section) → section_at s at ≡ m → sections_from s at ≡ turn (sections_from s) (found at m)
  scan_found at h m e = rw (scan at, le-ltb (length s - at) 3 h, e)

  -- the three turns of the search
  pub next_none : (at : ℕ) → length s - at < 3 → next_section_of s at ≡ None
  unfolding next_section_of
  next_none at h = rw (scan at, lt-ltb (length s - at) 3 h)

  pub next_here : (at : ℕ) → 3 ≤ length s - at → (x : Section) → section_at s at ≡ Some x → next_section_of s at ≡ Some x
  unfolding next_section_of
  next_here at h x e = ap first (scan_found at h (Some x) e)

  pub next_on : (at : ℕ) → 3 ≤ length s - at → section_at s at ≡ None → next_section_of s at ≡ next_section_of s (at + 1)
  unfolding next_section_of
  next_on at h e = ap first (scan_found at h None e)

  further : (at : ℕ) (m : Option Section) → Found s (at + 1) m → Found s at m
  further at None w = tt
  further at (Some x) w = record { behind = omega arith; whole = w.whole; within = w.within }

  steps_found : (at : ℕ) → Steps s (at + 1) (sections_from s (at + 1)) → (m : Option Section) → Here s at m
      → Steps s at (turn (sections_from s) (found at m))
  steps_found at g None w = record { step = g.step; lies = further at (first (sections_from s (at + 1))) g.lies }
  steps_found at g (Some x) w =
      record { step = ap (λ (o : ℕ). x ∷ sections_from s (o + x.size)) (sym w.0); lies = w.1 }

  steps : (k at : ℕ) → length s - at < k → Steps s at (sections_from s at)
  steps zero at h = absurd (omega arith)
  steps (suc k) at h =
      rw (scan at)
      (cond_elim (λ (n : Next (List Section)). Steps s at (turn (sections_from s) n)) (ltb (length s - at) 3)
      (λ e. record { step = refl; lies = tt }) (λ e.
      let l = ltb-false (length s - at) 3 e in
      steps_found at (steps k (at + 1) (omega arith)) (section_at s at) (here at)))

  -- the sections from a place on are the next one and those from its end on
  pub sections_step : (at : ℕ) → sections_from s at ≡ onward s (next_section_of s at)
  unfolding next_section_of
  sections_step at = (steps (suc (length s - at)) at (omega arith)).step

  -- the next one lies at that place or behind it, whole and within the data
  pub next_lies : (at : ℕ) → Found s at (next_section_of s at)
  unfolding next_section_of
  next_lies at = (steps (suc (length s - at)) at (omega arith)).lies
