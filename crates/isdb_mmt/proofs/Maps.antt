-- Maps in order of first arrival: what was put under a key is found under it, and under another key what was found before.
-- Assumes nothing.
use Rattle.std.specs.Prelude.{Some}
use Rattle.std.proofs.Common.{◌≡◌, ℕ, ◌≤◌, Bool, true, false, cond, eqb, List, [], ◌∷◌, refl, arith, eq-eqb}
pub use borrow.Author.Tests.{eqb-true}
use Rattle.isdb_mmt.specs.Decoder.Maps.{find, put, one}

pub eqb_self : (n : ℕ) → eqb n n ≡ true
eqb_self n = eq-eqb n n refl

pub one_le : (b : Bool) → one b ≤ 1
one_le true = omega arith
one_le false = omega arith

module _ {A : Type 0} where
  pub find_put : (k : ℕ) (a : A) (m : List (ℕ × A)) → find k (put k a m) ≡ Some a
  unfolding find put
  find_put k a [] = rw eqb_self
  find_put k a (e ∷ r) = go (eqb k e.0) refl (find_put k a r)
    where
      go : (b : Bool) → eqb k e.0 ≡ b → find k (put k a r) ≡ Some a → find k (cond b ((k, a) ∷ r) (e ∷ put k a r)) ≡ Some a
      go true q h = rw eqb_self
      go false q h = rw q h

  pub find_put_other : (j k : ℕ) (a : A) (m : List (ℕ × A)) → eqb j k ≡ false → find j (put k a m) ≡ find j m
  unfolding find put
  find_put_other j k a [] n = rw n
  find_put_other j k a (e ∷ r) n = go (eqb k e.0) refl (find_put_other j k a r n)
    where
      go : (b : Bool) → eqb k e.0 ≡ b → find j (put k a r) ≡ find j r
          → find j (cond b ((k, a) ∷ r) (e ∷ put k a r)) ≡ cond (eqb j e.0) (Some e.1) (find j r)
      go true q h = rw (n, ← (eqb-true k e.0 q), n)
      go false q h = rw h
