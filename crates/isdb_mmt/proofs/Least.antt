-- The least of some names in a range: the scan, turn by turn, what it finds, and names one after the other. Assumes nothing.
use Rattle.std.proofs.Common.{◌≡◌, ℕ, zero, suc, ◌+◌, ◌<◌, ◌≤◌, true, false, eqb, ltb, leb, ◌⊎◌, List, [], ◌∷◌, length, sym, refl, ap, ◌∙◌, subst, inl, inr, ⊎_elim, arith, ltb-false, ltb-true, le-ltb, eq-eqb, eqb-true, le-leb, leb-false, leb-true}
use lib.Arith.{lt_of_le-ne}
use Rattle.std.proofs.Common.{Bool, ◌&&◌, lt-ltb, min, filter, fold}
use Rattle.std.specs.List.{reduce}
use borrow.Author.Tests.{lt-leb, eqb-false}
use Rattle.isdb_tlv.specs.Guards.{◌<?◌, ◌≤?◌}
use Rattle.std.specs.Prelude.{if◌then◌else◌, None, Option, Some}
use Rattle.isdb_tlv.proofs.Guards.{either}
use Rattle.isdb_mmt.specs.Memory.Lent.{among, distinct}
use Rattle.isdb_mmt.specs.Answers.Readings.{lesser, least_from, most_name, then_above, ascending_from, ascending}
use Rattle.isdb_mmt.specs.Answers.ReadingLaws.{rises, InOrder, Least}
use Rattle.isdb_mmt.proofs.Names.{true_not_false}

-- ---- one name

-- the least so far with one more name
abbrev pub with_name : Option ℕ → ℕ → ℕ → ℕ → Option ℕ
with_name x a b y = if y <? a then x else if b <? y then x else lesser x y

pub least_step : (x : Option ℕ) (a b y : ℕ) (ys : List ℕ) → least_from x a b (y ∷ ys) ≡ least_from (with_name x a b y) a b ys
unfolding least_from
least_step x a b y ys = either (ltb y a) (λ t. rw t) (λ f. either (ltb b y) (λ t. rw (f, t)) (λ g. rw (f, g)))

-- ---- all of them

abbrev pub within : ℕ → ℕ → ℕ → Bool
within a b y = (a ≤? y) && (y ≤? b)

least_some : (names : List ℕ) (z a b : ℕ) → least_from (Some z) a b names ≡ Some (fold min z (filter (within a b) names))
unfolding least_from
least_some [] z a b = refl
least_some (y ∷ ys) z a b =
    either (leb a y)
    (λ t.
    either (leb y b)
    (λ u.
    rw (t, u, le-ltb y a (leb-true a y t), le-ltb b y (leb-true y b u))
    (either (ltb y z)
    (λ m. let e : min z y ≡ y = omega (arith, ltb-true y z m) in rw m (least_some ys y a b ∙ ap (λ k. Some (fold min k (filter (within a b) ys))) (sym e)))
    (λ m. let e : min z y ≡ z = omega (arith, ltb-false y z m) in rw m (least_some ys z a b ∙ ap (λ k. Some (fold min k (filter (within a b) ys))) (sym e)))))
    (λ u. rw (t, u, le-ltb y a (leb-true a y t), lt-ltb b y (leb-false y b u)) (least_some ys z a b)))
    (λ t. rw (t, lt-ltb y a (leb-false a y t)) (least_some ys z a b))

pub least_min : (names : List ℕ) (a b : ℕ) → reduce min (filter (within a b) names) ≡ least_from None a b names
unfolding least_from
least_min [] a b = refl
least_min (y ∷ ys) a b =
    either (leb a y)
    (λ t.
    either (leb y b)
    (λ u. rw (t, u, le-ltb y a (leb-true a y t), le-ltb b y (leb-true y b u)) (sym (least_some ys y a b)))
    (λ u. rw (t, u, le-ltb y a (leb-true a y t), lt-ltb b y (leb-false y b u)) (least_min ys a b)))
    (λ t. rw (t, lt-ltb y a (leb-false a y t)) (least_min ys a b))

-- ---- what the scan finds

abbrev AtMost : Option ℕ → ℕ → Type 0
AtMost None z = ⊥
AtMost (Some w) z = w ≤ z

lesser_keeps : (x : Option ℕ) (v z : ℕ) → AtMost x z → AtMost (lesser x v) z
lesser_keeps None v z h = absurd h
lesser_keeps (Some w) v z h =
    either (ltb v w) (λ t. rw t (omega (arith, h, ltb-true v w t))) (λ f. rw f h)

lesser_takes : (x : Option ℕ) (v : ℕ) → AtMost (lesser x v) v
lesser_takes None v = omega arith
lesser_takes (Some w) v = either (ltb v w) (λ t. rw t (omega arith)) (λ f. rw f (ltb-false v w f))

lesser_from : (x : Option ℕ) (v w : ℕ) → lesser x v ≡ Some w → (x ≡ Some w) ⊎ (v ≡ w)
lesser_from None v w e = inr cc
lesser_from (Some z) v w e = either (ltb v z) (λ t. inr (cc (rw t at e))) (λ f. inl (rw f at e))

module _ (x : Option ℕ) (a b v : ℕ) where
  step_keeps : (z : ℕ) → AtMost x z → AtMost (with_name x a b v) z
  step_keeps z h =
      either (ltb v a) (λ t. rw t h) (λ f. either (ltb b v) (λ t. rw (f, t) h) (λ g. rw (f, g) (lesser_keeps x v z h)))

  step_takes : a ≤ v → v ≤ b → AtMost (with_name x a b v) v
  step_takes h k = rw (le-ltb v a h, le-ltb b v k) (lesser_takes x v)

  step_from : (w : ℕ) → with_name x a b v ≡ Some w → (x ≡ Some w) ⊎ ((v ≡ w) × ((a ≤ v) × (v ≤ b)))
  step_from w e =
      either (ltb v a) (λ t. inl (rw t at e))
      (λ f.
      either (ltb b v) (λ t. inl (rw (f, t) at e))
      (λ g. ⊎_elim (λ q. inl q) (λ q. inr (q, (ltb-false v a f, ltb-false b v g))) (lesser_from x v w (rw (f, g) at e))))

least_keeps : (names : List ℕ) (x : Option ℕ) (a b z : ℕ) → AtMost x z → AtMost (least_from x a b names) z
unfolding least_from
least_keeps [] x a b z h = h
least_keeps (v ∷ ys) x a b z h =
    subst (λ (r : Option ℕ). AtMost r z) (sym (least_step x a b v ys)) (least_keeps ys (with_name x a b v) a b z (step_keeps x a b v z h))

least_takes : (names : List ℕ) (x : Option ℕ) (a b y : ℕ) → among y names ≡ true → a ≤ y → y ≤ b → AtMost (least_from x a b names) y
unfolding among
least_takes [] x a b y m h k = true_not_false false m refl
least_takes (v ∷ ys) x a b y m h k =
    subst (λ (r : Option ℕ). AtMost r y) (sym (least_step x a b v ys))
    (either (eqb v y)
    (λ t.
    let e : v ≡ y = eqb-true v y t in
    least_keeps ys (with_name x a b v) a b y (subst (λ q. AtMost (with_name x a b v) q) e (step_takes x a b v (omega arith) (omega arith))))
    (λ f. least_takes ys (with_name x a b v) a b y (rw f at m) h k))

least_from_lem : (names : List ℕ) (x : Option ℕ) (a b w : ℕ) → least_from x a b names ≡ Some w
    → (x ≡ Some w) ⊎ ((among w names ≡ true) × ((a ≤ w) × (w ≤ b)))
unfolding among least_from
least_from_lem [] x a b w e = inl e
least_from_lem (v ∷ ys) x a b w e =
    ⊎_elim
    (λ q. ⊎_elim (λ p. inl p) (λ p. inr (rw (eq-eqb v w p.0), (omega (arith, p), omega (arith, p)))) (step_from x a b v w q))
    (λ q. inr (either (eqb v w) (λ t. rw t) (λ f. rw f q.0), q.1))
    (least_from_lem ys (with_name x a b v) a b w (sym (least_step x a b v ys) ∙ e))

none_not_some : {A : Type 0} (w : ℕ) → None ≡ Some w → A
none_not_some w e = let z : ◌≡◌ {A = ℕ} 0 1 = cc in absurd (omega arith)

module _ (names : List ℕ) (a b : ℕ) where
  pub least_is : (x : ℕ) → least_from None a b names ≡ Some x → Least names a b x
  least_is x e =
      let q : (among x names ≡ true) × ((a ≤ x) × (x ≤ b)) =
      ⊎_elim (λ p. none_not_some x p) (λ p. p) (least_from_lem names None a b x e) in
      record {
        one = q.0;
        from = q.1.0;
        to = q.1.1;
        least = λ y m h k. subst (λ (r : Option ℕ). AtMost r y) e (least_takes names None a b y m h k);
      }

  pub least_nothing : least_from None a b names ≡ None → (y : ℕ) → among y names ≡ true → a ≤ y → y ≤ b → ⊥
  least_nothing e y m h k = subst (λ (r : Option ℕ). AtMost r y) e (least_takes names None a b y m h k)

-- ---- names one after the other

-- how many are not below `a`
unfoldable above : ℕ → List ℕ → ℕ
above a [] = 0
above a (y ∷ ys) = if a ≤? y then suc (above a ys) else above a ys

later : (y z : ℕ) (ys : List ℕ) → among y ys ≡ true → among y (z ∷ ys) ≡ true
unfolding among
later y z ys m = either (eqb z y) (λ t. rw t) (λ f. rw f m)

above_all : (a : ℕ) (ys : List ℕ) → above a ys ≤ length ys
unfolding above
above_all a [] = omega arith
above_all a (y ∷ ys) = either (leb a y) (λ t. rw t (omega (arith, above_all a ys))) (λ f. rw f (omega (arith, above_all a ys)))

above_later : (a b : ℕ) (ys : List ℕ) → a ≤ b → above b ys ≤ above a ys
unfolding above
above_later a b [] h = omega arith
above_later a b (y ∷ ys) h =
    let r = above_later a b ys h in
    either (leb b y) (λ t. rw (t, le-leb a y (omega (arith, leb-true b y t))) (omega arith))
    (λ f. either (leb a y) (λ t. rw (f, t) (omega arith)) (λ g. rw (f, g) r))

above_one : (a y : ℕ) (ys : List ℕ) → among y ys ≡ true → a ≤ y → 1 ≤ above a ys
unfolding above among
above_one a y [] m h = true_not_false false m refl
above_one a y (z ∷ ys) m h =
    either (leb a z) (λ t. rw t (omega arith))
    (λ f.
    either (eqb z y) (λ t. true_not_false (leb a z) (le-leb a z (omega (arith, eqb-true z y t))) f)
    (λ g. rw f (above_one a y ys (rw g at m) h)))

above_less : (a x : ℕ) (ys : List ℕ) → among x ys ≡ true → a ≤ x → above (x + 1) ys + 1 ≤ above a ys
unfolding above among
above_less a x [] m h = true_not_false false m refl
above_less a x (y ∷ ys) m h =
    let r = above_later a (x + 1) ys (omega arith) in
    either (eqb y x)
    (λ t.
    let e : y ≡ x = eqb-true y x t in
    rw (lt-leb (x + 1) y (omega arith), le-leb a y (omega arith)) (omega arith))
    (λ f.
    let q = above_less a x ys (rw f at m) h in
    either (leb (x + 1) y) (λ t. rw (t, le-leb a y (omega (arith, leb-true (x + 1) y t))) (omega arith))
    (λ g. either (leb a y) (λ t. rw (g, t) (omega arith)) (λ k. rw (g, k) q)))

above_zero : (ys : List ℕ) → above 0 ys ≡ length ys
unfolding above
above_zero [] = refl
above_zero (y ∷ ys) = rw (le-leb 0 y (omega arith)) (ap suc (above_zero ys))

above_none : (a : ℕ) (ys : List ℕ) → ((y : ℕ) → among y ys ≡ true → a ≤ y → ⊥) → above a ys ≡ 0
unfolding above among
above_none a [] f = refl
above_none a (y ∷ ys) f =
    either (leb a y) (λ t. absurd (f y (rw (eq-eqb y y refl)) (leb-true a y t)))
    (λ g. rw g (above_none a ys (λ z m. f z (later z y ys m))))

-- none lies between
above_same : (a b : ℕ) (ys : List ℕ) → a ≤ b → ((y : ℕ) → among y ys ≡ true → a ≤ y → b ≤ y) → above a ys ≡ above b ys
unfolding above among
above_same a b [] h f = refl
above_same a b (y ∷ ys) h f =
    let r = above_same a b ys h (λ z m. f z (later z y ys m)) in
    either (leb a y) (λ t. rw (t, le-leb b y (f y (rw (eq-eqb y y refl)) (leb-true a y t))) (ap suc r))
    (λ g. rw (g, lt-leb b y (omega (arith, leb-false a y g))) r)

-- the least of names that stand once each is one of them
above_step : (a x : ℕ) (ys : List ℕ) → distinct ys ≡ true → among x ys ≡ true → a ≤ x → ((y : ℕ) → among y ys ≡ true → a ≤ y → x ≤ y)
    → above a ys ≡ suc (above (x + 1) ys)
unfolding above among distinct
above_step a x [] d m h f = true_not_false false m refl
above_step a x (y ∷ ys) d m h f =
    either (among y ys) (λ t. true_not_false false (rw t at d) refl)
    (λ once.
    either (eqb y x)
    (λ t.
    let e : y ≡ x = eqb-true y x t in
    let r : above a ys ≡ above (x + 1) ys =
    above_same a (x + 1) ys (omega arith)
    (λ z k b.
    let ne : x ≡ z → ⊥ = λ q. true_not_false (among y ys) (subst (λ w. among w ys ≡ true) (sym (e ∙ q)) k) once in
    let lt : x < z = lt_of_le-ne (f z (later z y ys k) b) ne in
    omega arith) in
    rw (le-leb a y (omega arith), lt-leb (x + 1) y (omega arith)) (ap suc r))
    (λ g.
    let r = above_step a x ys (rw once at d) (rw g at m) h (λ z k. f z (later z y ys k)) in
    either (leb a y)
    (λ t.
    let lt : x < y = lt_of_le-ne (f y (rw (eq-eqb y y refl)) (leb-true a y t)) (λ q. eqb-false y x g (sym q)) in
    rw (t, le-leb (x + 1) y (omega arith)) (ap suc r))
    (λ k. rw (k, lt-leb (x + 1) y (omega (arith, leb-false a y k))) r)))

module _ (names : List ℕ) where
  pub rising_from : (n a : ℕ) → rises a (ascending_from n a names) ≡ true
  unfolding rises ascending_from
  rising_from zero a = refl
  rising_from (suc n) a = go (least_from None a most_name names) refl (λ x. rising_from n x)
    where
      go :
          (r : Option ℕ)
          → least_from None a most_name names ≡ r
          → ((x : ℕ) → rises x (ascending_from n x names) ≡ true)
          → rises a (then_above (λ x. ascending_from n x names) r) ≡ true
      go None e f = refl
      go (Some x) e f = rw (le-leb a x (least_is names a most_name x e).from) (f (x + 1))

  one_of : (n a y : ℕ) → among y (ascending_from n a names) ≡ true → among y names ≡ true
  unfolding among ascending_from
  one_of zero a y m = true_not_false false m refl
  one_of (suc n) a y m = go (least_from None a most_name names) refl (λ x. one_of n x y) m
    where
      go :
          (r : Option ℕ)
          → least_from None a most_name names ≡ r
          → ((x : ℕ) → among y (ascending_from n x names) ≡ true → among y names ≡ true)
          → among y (then_above (λ x. ascending_from n x names) r) ≡ true
          → among y names ≡ true
      go None e f k = true_not_false false k refl
      go (Some x) e f k =
          either (eqb x y) (λ t. subst (λ z. among z names ≡ true) (eqb-true x y t) (least_is names a most_name x e).one)
          (λ g. f (x + 1) (rw g at k))

  comes : (n a y : ℕ) → above a names ≤ n → among y names ≡ true → a ≤ y → y ≤ most_name → among y (ascending_from n a names) ≡ true
  unfolding among ascending_from
  comes zero a y c m h k = absurd (omega (arith, above_one a y names m h))
  comes (suc n) a y c m h k = go (least_from None a most_name names) refl (λ x d b. comes n x y d m b k)
    where
      go :
          (r : Option ℕ)
          → least_from None a most_name names ≡ r
          → ((x : ℕ) → above x names ≤ n → x ≤ y → among y (ascending_from n x names) ≡ true)
          → among y (then_above (λ x. ascending_from n x names) r) ≡ true
      go None e f = absurd (least_nothing names a most_name e y m h k)
      go (Some x) e f =
          let l = least_is names a most_name x e in
          either (eqb x y) (λ t. rw t)
          (λ g.
          let lt : x < y = lt_of_le-ne (l.least y m h k) (eqb-false x y g) in
          rw g (f (x + 1) (omega (arith, above_less a x names l.one l.from)) (omega arith)))

  as_many : distinct names ≡ true → ((y : ℕ) → among y names ≡ true → y ≤ most_name) → (n a : ℕ) → above a names ≤ n
      → length (ascending_from n a names) ≡ above a names
  unfolding ascending_from
  as_many d small zero a c = omega arith
  as_many d small (suc n) a c = go (least_from None a most_name names) refl (λ x. as_many d small n x)
    where
      go :
          (r : Option ℕ)
          → least_from None a most_name names ≡ r
          → ((x : ℕ) → above x names ≤ n → length (ascending_from n x names) ≡ above x names)
          → length (then_above (λ x. ascending_from n x names) r) ≡ above a names
      go None e f = sym (above_none a names (λ y m h. least_nothing names a most_name e y m h (small y m)))
      go (Some x) e f =
          let l = least_is names a most_name x e in
          let q = above_step a x names d l.one l.from (λ y m h. l.least y m h (small y m)) in
          ap suc (f (x + 1) (omega arith)) ∙ sym q

  pub in_order : distinct names ≡ true → ((y : ℕ) → among y names ≡ true → y ≤ most_name) → InOrder names (ascending names)
  in_order d small =
      record {
        rising = rising_from (length names) 0;
        same =
            λ x.
            either (among x names)
            (λ t. comes (length names) 0 x (above_all 0 names) t (omega arith) (small x t) ∙ sym t)
            (λ f. either (among x (ascending names)) (λ t. true_not_false (among x names) (one_of (length names) 0 x t) f) (λ g. g ∙ sym f));
        many = as_many d small (length names) 0 (above_all 0 names) ∙ above_zero names;
      }
