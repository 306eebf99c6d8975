-- The walk over a header extension's entries, by places. Assumes nothing.
use Prim.Native.Nat.{ℕ, ◌+◌, ◌-◌, ◌%◌, ◌≤◌, ◌<◌}
use mathlib.Core.Path.{◌≡◌}
use mathlib.Core.List.{List}
use native.Mathlib.Omega.{arith}
use lib.Dec.{ltb, leb, eqb}
use lib.ListN.{length, get_or}
use borrow.Author.Tests.{ltb-false, lt-ltb, le-ltb, le-leb, lt-leb, eq-eqb, ne_eqb}
use Rattle.isdb_tlv.specs.Bytes.{be}
use Rattle.isdb_tlv.specs.Walk.{turn}
use Rattle.isdb_tlv.specs.Mmtp.{bits_of, entry, entries}
use Rattle.isdb_tlv.specs.declared.mmtp.Scramble.TheVariants.{Absent}
use Rattle.isdb_tlv.proofs.Guards.{cond_elim}
use Rattle.isdb_tlv.proofs.Walk.{Ahead, walk_at}

module _ (l : List ℕ) where
  ahead : (q : ℕ) → Ahead (length l) q (entry l q)
  unfolding entry
  ahead q =
      cond_elim (Ahead (length l) q) (ltb (length l - q) 4) (λ e. tt) (λ e.
      cond_elim (Ahead (length l) q) (eqb (be 2 l q % 32768) 1) (λ e1. tt) (λ e1.
      cond_elim (Ahead (length l) q) (leb 128 (get_or l q 0)) (λ e2. tt) (λ e2.
      let h = ltb-false (length l - q) 4 e in omega arith)))

  -- the entries from a place on: the one that stands there, and those from where it leads
  pub entry_at : (q : ℕ) → entries l q ≡ turn (entries l) (entry l q)
  unfolding entries
  entry_at q = walk_at (entry l) Absent (length l) ahead q

  pub entries_end : (q : ℕ) → length l - q < 4 → entries l q ≡ Absent
  unfolding entry
  entries_end q h = rw (entry_at q, lt-ltb (length l - q) 4 h)

  pub entries_found : (q : ℕ) → 4 ≤ length l - q → be 2 l q % 32768 ≡ 1 → entries l q ≡ bits_of l q
  unfolding entry
  entries_found q h e = rw (entry_at q, le-ltb (length l - q) 4 h, eq-eqb (be 2 l q % 32768) 1 e)

  pub entries_last : (q : ℕ) → 4 ≤ length l - q → (be 2 l q % 32768 ≡ 1 → ⊥) → 128 ≤ get_or l q 0 → entries l q ≡ Absent
  unfolding entry
  entries_last q h e k = rw (entry_at q, le-ltb (length l - q) 4 h, ne_eqb (be 2 l q % 32768) 1 e, le-leb 128 (get_or l q 0) k)

  pub entries_next : (q : ℕ) → 4 ≤ length l - q → (be 2 l q % 32768 ≡ 1 → ⊥) → get_or l q 0 < 128
      → entries l q ≡ entries l (q + 4 + be 2 l (q + 2))
  unfolding entry
  entries_next q h e k = rw (entry_at q, le-ltb (length l - q) 4 h, ne_eqb (be 2 l q % 32768) 1 e, lt-leb 128 (get_or l q 0) k)
