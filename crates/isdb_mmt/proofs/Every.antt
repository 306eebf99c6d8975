-- What holds of every entry of a map, and names that stand once, stay so under `put`. Assumes nothing.
use Rattle.std.specs.Prelude.{Some}
use Rattle.std.proofs.Common.{◌≡◌, ℕ, Bool, true, false, cond, eqb, List, [], ◌∷◌, refl, eqb-true}
use Rattle.isdb_mmt.specs.Decoder.Maps.{find, put, or_else}
use Rattle.isdb_mmt.specs.Memory.Lent.{among, distinct}
use Rattle.isdb_mmt.proofs.Views.{keys}
use Rattle.isdb_mmt.proofs.Guards.{was_left}

module _ {A : Type 0} (P : ℕ → A → Type 0) where
  abbrev pub Every : List (ℕ × A) → Type 0
  Every [] = Unit {0}
  Every (e ∷ m) = P e.0 e.1 × Every m

  pub every_put : (k : ℕ) (a : A) → P k a → (m : List (ℕ × A)) → Every m → Every (put k a m)
  unfolding put
  every_put k a p [] h = (p, tt)
  every_put k a p (e ∷ m) h = go (eqb k e.0) (every_put k a p m h.1)
    where
      go : (b : Bool) → Every (put k a m) → Every (cond b ((k, a) ∷ m) (e ∷ put k a m))
      go true q = (p, h.1)
      go false q = (h.0, q)

  pub every_found : (d : A) (k : ℕ) → P k d → (m : List (ℕ × A)) → Every m → P k (or_else d (find k m))
  unfolding find or_else
  every_found d k p [] h = p
  every_found d k p (e ∷ m) h = go (eqb k e.0) refl (every_found d k p m h.1)
    where
      go : (b : Bool) → eqb k e.0 ≡ b → P k (or_else d (find k m)) → P k (or_else d (cond b (Some e.1) (find k m)))
      go true t q = rw (eqb-true k e.0 t) h.0
      go false t q = q

pub every_mono : {A : Type 0} (P Q : ℕ → A → Type 0) → ((k : ℕ) (a : A) → P k a → Q k a) → (m : List (ℕ × A)) → Every P m → Every Q m
every_mono P Q f [] h = tt
every_mono P Q f (e ∷ m) h = (f e.0 e.1 h.0, every_mono P Q f m h.1)

-- names
module _ {A : Type 0} where
  apart_put : (x k : ℕ) (a : A) (m : List (ℕ × A)) → among x (keys m) ≡ false → eqb k x ≡ false → among x (keys (put k a m)) ≡ false
  unfolding among put
  apart_put x k a [] h n = rw n
  apart_put x k a (e ∷ m) h n = go (eqb k e.0) (apart_put x k a m was.1 n)
    where
      off : (b c : Bool) → cond b true c ≡ false → (b ≡ false) × (c ≡ false)
      off true c q = (q, cc)
      off false c q = (refl, q)

      was : (eqb e.0 x ≡ false) × (among x (keys m) ≡ false)
      was = off (eqb e.0 x) (among x (keys m)) h

      go : (b : Bool) → among x (keys (put k a m)) ≡ false → among x (keys (cond b ((k, a) ∷ m) (e ∷ put k a m))) ≡ false
      go true q = rw (n, was.1)
      go false q = rw (was.0, q)

  pub distinct_put : (k : ℕ) (a : A) (m : List (ℕ × A)) → distinct (keys m) ≡ true → distinct (keys (put k a m)) ≡ true
  unfolding distinct put among
  distinct_put k a [] h = refl
  distinct_put k a (e ∷ m) h = go (eqb k e.0) refl (distinct_put k a m was.1)
    where
      was : (among e.0 (keys m) ≡ false) × (distinct (keys m) ≡ true)
      was = was_left (among e.0 (keys m)) (distinct (keys m)) h

      go : (b : Bool) → eqb k e.0 ≡ b → distinct (keys (put k a m)) ≡ true → distinct (keys (cond b ((k, a) ∷ m) (e ∷ put k a m))) ≡ true
      go true t q = rw (eqb-true k e.0 t, was.0, was.1)
      go false t q = rw (apart_put e.0 k a m was.0 t, q)
