-- A location that was read takes at least one byte, and no more than there are. Assumes nothing.
use Rattle.std.specs.Prelude.{None, Option, Some}
use Rattle.std.proofs.Common.{ℕ, ◌+◌, ◌≤◌, eqb, ltb, List, length, get_or, arith, ltb-false}
use Rattle.isdb_tlv.proofs.Guards.{cond_elim}
use Rattle.isdb_mmt.specs.Formats.Location.{sized, url_of, location_of}
use Rattle.isdb_mmt.specs.declared.location.Location.{Location}

-- n bytes, of those that are there
pub record Size (s : List ℕ) (n : ℕ) : Type 0 where
  pub some : 1 ≤ n
  pub within : n ≤ length s

abbrev pub Takes : List ℕ → Option (Location × ℕ) → Type 0
Takes s None = Unit {0}
Takes s (Some (l, n)) = Size s n

module _ (s : List ℕ) where
  sized_takes : (n : ℕ) (l : Location) → 1 ≤ n → Takes s (sized s n l)
  unfolding sized
  sized_takes n l h =
      cond_elim (Takes s) (ltb (length s) n) (λ e. tt)
      (λ e. record { some = h; within = ltb-false (length s) n e })

  url_takes : Takes s (url_of s)
  unfolding url_of
  url_takes = cond_elim (Takes s) (ltb (length s) 2) (λ e. tt) (λ e. sized_takes (get_or s 1 0 + 2) _ (omega arith))

  pub takes : Takes s (location_of s)
  unfolding location_of
  takes =
      let t = get_or s 0 0 in
      cond_elim (Takes s) (ltb (length s) 1) (λ e. tt) (λ e.
      cond_elim (Takes s) (eqb t 0) (λ e0. sized_takes 3 _ (omega arith)) (λ e0.
      cond_elim (Takes s) (eqb t 1) (λ e1. sized_takes 13 _ (omega arith)) (λ e1.
      cond_elim (Takes s) (eqb t 2) (λ e2. sized_takes 37 _ (omega arith)) (λ e2.
      cond_elim (Takes s) (eqb t 3) (λ e3. sized_takes 7 _ (omega arith)) (λ e3.
      cond_elim (Takes s) (eqb t 4) (λ e4. sized_takes 37 _ (omega arith)) (λ e4.
      cond_elim (Takes s) (eqb t 5) (λ e5. url_takes) (λ e5. tt)))))))
