-- Cutting a recording into packets: where a packet leads, and that a window on the input shows what the whole input has.
-- Assumes nothing.
use Prim.Native.Nat.{ℕ, ◌+◌, ◌-◌, ◌≤◌, ◌<◌}
use mathlib.Core.Path.{◌≡◌, refl, sym, ap, subst, ◌∙◌}
use mathlib.Core.Bool.{Bool, true, false, cond, not}
use mathlib.Core.List.{List, ◌++◌, append-nil}
use native.Mathlib.Omega.{arith}
use lib.Dec.{ltb, leb, eqb}
use lib.ListN.{length, take, drop, get_or, length-append, length-drop, get_or-append}
use lib.Seq.{get_or-drop, drop-drop, drop-append-le, take-append-le}
use borrow.Author.Tests.{ltb-false, leb-true, leb-false, le-leb, lt-leb, le-ltb}
use Rattle.isdb_tlv.specs.Bytes.{be}
use Rattle.isdb_tlv.specs.Walk.{turn}
use Rattle.isdb_tlv.proofs.Walk.{Ahead, walk_at}
use Rattle.isdb_tlv.proofs.Guards.{either, cond_elim}
use Rattle.isdb_tlv.proofs.Numbers.{be_drop}
use Rattle.isdb_tlv.proofs.Fields.{be_before}
use Rattle.isdb_tlv.specs.declared.cut.Cut.{Cut}
use Rattle.isdb_tlv.specs.declared.cut.Cut.TheVariants.{Packet, End, Short, Bad}
use Rattle.isdb_tlv.specs.declared.cut.Stop.TheVariants.{Clean, Bad as bad_at}
use Rattle.isdb_tlv.specs.Cut.{cut_at, ends, with_first, item, recording_from}
use Rattle.isdb_tlv.specs.Facts.{moved, WindowTheorem}

-- two different answers are not one
pub differ : {A : Type 0} → ◌≡◌ {A = ℕ} 0 1 → A
differ e = absurd (omega arith)

-- a packet leads ahead
item_ahead : (s : List ℕ) (most at : ℕ) → Ahead (length s) at (item s at (cut_at s most at))
unfolding cut_at
item_ahead s most at =
    let P : Cut → Type 0 = λ c. Ahead (length s) at (item s at c) in
    cond_elim P (leb (length s) at) (λ _. tt) (λ h.
    let inside : at < length s = leb-false _ _ h in
    cond_elim P (not (eqb (get_or s at 0) 127)) (λ _. tt) (λ _.
    cond_elim P (ltb (length s - at) 4) (λ _. tt) (λ _.
    cond_elim P (ltb most (be 2 s (at + 2))) (λ _. tt) (λ _.
    cond_elim P (ltb (length s - at - 4) (be 2 s (at + 2))) (λ _. tt) (λ _. (inside, omega arith))))))

-- the equation that a recording is known by
pub recording_at : (s : List ℕ) (most at : ℕ)
    → recording_from s most at ≡ turn (recording_from s most) (item s at (cut_at s most at))
unfolding recording_from
recording_at s most at = walk_at (λ q. item s q (cut_at s most q)) (ends Clean) (length s) (item_ahead s most) at

-- a place further on, test by test
moved_cond : (base : ℕ) (b : Bool) (x y : Cut) → moved base (cond b x y) ≡ cond b (moved base x) (moved base y)
moved_cond base true x y = refl
moved_cond base false x y = refl

same_leb : (a b c d : ℕ) → (a ≤ b → c ≤ d) → (c ≤ d → a ≤ b) → leb a b ≡ leb c d
same_leb a b c d f g =
    either (leb a b)
    (λ e. e ∙ sym (le-leb c d (f (leb-true a b e))))
    (λ e. let h : d < c = either (leb c d) (λ t. absurd (omega (arith, g (leb-true c d t), leb-false a b e))) (λ t. leb-false c d t) in
    e ∙ sym (lt-leb c d h))

-- from a place on, the input is cut as a whole is
pub cut_drop : (s : List ℕ) (base most i : ℕ) → cut_at s most (base + i) ≡ moved base (cut_at (drop base s) most i)
unfolding cut_at
cut_drop s base most i =
    let n : length (drop base s) ≡ length s - base = length-drop base s in
    let a : leb (length (drop base s)) i ≡ leb (length s) (base + i) =
    same_leb (length (drop base s)) i (length s) (base + i) (λ h. omega arith) (λ h. omega arith) in
    let m : length (drop base s) - i ≡ length s - (base + i) = omega arith in
    let b1 : base + (i + 1) ≡ base + i + 1 = omega arith in
    let b2 : base + (i + 2) ≡ base + i + 2 = omega arith in
    let b4 : base + (i + 4) ≡ base + i + 4 = omega arith in
    let f : be 2 (drop base s) (i + 2) ≡ be 2 s (base + i + 2) = be_drop 2 base s (i + 2) ∙ ap (be 2 s) b2 in
    let g : base + (i + 4 + be 2 s (base + i + 2)) ≡ base + i + 4 + be 2 s (base + i + 2) = omega arith in
    simp (moved_cond, a, m, f, get_or-drop, b1, b4, g)

-- what follows does not change a packet, nor that there is none
pub cut_append : (w r : List ℕ) (most i : ℕ) → (cut_at w most i ≡ End → ⊥) → (cut_at w most i ≡ Short → ⊥)
    → cut_at (w ++ r) most i ≡ cut_at w most i
unfolding cut_at
cut_append w r most i some whole =
    let n : length (w ++ r) ≡ length w + length r = length-append w r in
    either (leb (length w) i) (λ h. absurd (some (rw h))) (λ h1.
    let l1 : i < length w = leb-false _ _ h1 in
    let t1 : leb (length (w ++ r)) i ≡ false = lt-leb (length (w ++ r)) i (omega arith) in
    let v1 : get_or (w ++ r) i 0 ≡ get_or w i 0 = get_or-append w r 0 i l1 in
    either (not (eqb (get_or w i 0) 127)) (λ h2. rw (t1, h1, v1, h2)) (λ h2.
    either (ltb (length w - i) 4) (λ h. absurd (whole (rw (h1, h2, h)))) (λ h3.
    let l3 : 4 ≤ length w - i = ltb-false _ _ h3 in
    let t3 : ltb (length (w ++ r) - i) 4 ≡ false = le-ltb (length (w ++ r) - i) 4 (omega arith) in
    let v3 : be 2 (w ++ r) (i + 2) ≡ be 2 w (i + 2) = be_before 2 w r (i + 2) (omega arith) in
    let k3 : get_or (w ++ r) (i + 1) 0 ≡ get_or w (i + 1) 0 = get_or-append w r 0 (i + 1) (omega arith) in
    either (ltb most (be 2 w (i + 2))) (λ h4. rw (t1, h1, v1, h2, t3, h3, v3, h4)) (λ h4.
    either (ltb (length w - i - 4) (be 2 w (i + 2))) (λ h. absurd (whole (rw (h1, h2, h3, h4, h)))) (λ h5.
    let l5 : be 2 w (i + 2) ≤ length w - i - 4 = ltb-false _ _ h5 in
    let t5 : ltb (length (w ++ r) - i - 4) (be 2 w (i + 2)) ≡ false =
    le-ltb (length (w ++ r) - i - 4) (be 2 w (i + 2)) (omega arith) in
    rw (t1, h1, v1, h2, t3, h3, v3, h4, t5, h5, k3))))))

-- where a packet lies
pub record Lies (w : List ℕ) (i start n next : ℕ) : Type 0 where
  pub behind_header : start ≡ i + 4
  pub behind_bytes : next ≡ start + n
  pub inside : next ≤ length w

abbrev LiesAt : List ℕ → ℕ → Cut → Type 0
LiesAt w i (Packet kind start n next) = Lies w i start n next
LiesAt w i End = Unit {0}
LiesAt w i Short = Unit {0}
LiesAt w i Bad = Unit {0}

lies_at : (w : List ℕ) (most i : ℕ) → LiesAt w i (cut_at w most i)
unfolding cut_at
lies_at w most i =
    let P : Cut → Type 0 = LiesAt w i in
    cond_elim P (leb (length w) i) (λ _. tt) (λ _.
    cond_elim P (not (eqb (get_or w i 0) 127)) (λ _. tt) (λ _.
    cond_elim P (ltb (length w - i) 4) (λ _. tt) (λ h3.
    cond_elim P (ltb most (be 2 w (i + 2))) (λ _. tt) (λ _.
    cond_elim P (ltb (length w - i - 4) (be 2 w (i + 2))) (λ _. tt) (λ h5.
    let l3 : 4 ≤ length w - i = ltb-false _ _ h3 in
    let l5 : be 2 w (i + 2) ≤ length w - i - 4 = ltb-false _ _ h5 in
    record { behind_header = refl; behind_bytes = refl; inside = omega arith })))))

pub packet_lies : (w : List ℕ) (most i : ℕ) {kind start n next : ℕ} → cut_at w most i ≡ Packet kind start n next → Lies w i start n next
packet_lies w most i e = subst (LiesAt w i) e (lies_at w most i)

-- where reading stops, turn by turn
module _ (w : List ℕ) (most i : ℕ) (c : Cut) (e : c ≡ cut_at w most i) where
  pub end_behind : (kind start n next : ℕ) → c ≡ Packet kind start n next
      → (recording_from w most i).end ≡ (recording_from w most next).end
  end_behind kind start n next d = rw (recording_at w most i, ← e, d)

  pub end_bad : c ≡ Bad → (recording_from w most i).end ≡ bad_at i
  end_bad d = rw (recording_at w most i, ← e, d)

  pub end_short : c ≡ Short → (recording_from w most i).end ≡ bad_at i
  end_short d = rw (recording_at w most i, ← e, d)

pub over_end : (w : List ℕ) (most i : ℕ) → length w ≤ i → cut_at w most i ≡ End
unfolding cut_at
over_end w most i h = rw (le-leb (length w) i h)

pub end_clean : (w : List ℕ) (most i : ℕ) → length w ≤ i → (recording_from w most i).end ≡ Clean
end_clean w most i h = rw (recording_at w most i, over_end w most i h)

pub end_here_lem : (w : List ℕ) (most i : ℕ) (c : Cut) → c ≡ cut_at w most i → c ≡ End → length w ≤ i
unfolding cut_at
end_here_lem w most i c e d =
    let P : Cut → Type 0 = λ a. a ≡ End → length w ≤ i in
    cond_elim P (leb (length w) i) (λ h _. leb-true _ _ h) (λ _.
    cond_elim P (not (eqb (get_or w i 0) 127)) (λ _ q. differ (cc)) (λ _.
    cond_elim P (ltb (length w - i) 4) (λ _ q. differ (cc)) (λ _.
    cond_elim P (ltb most (be 2 w (i + 2))) (λ _ q. differ (cc)) (λ _.
    cond_elim P (ltb (length w - i - 4) (be 2 w (i + 2))) (λ _ q. differ (cc)) (λ _ q. differ (cc)))))) (sym e ∙ d)

-- what a window shows
module _ (s w r : List ℕ) (base : ℕ) (window : drop base s ≡ w ++ r) (most i : ℕ) where
  shown : (cut_at w most i ≡ End → ⊥) → (cut_at w most i ≡ Short → ⊥) → cut_at s most (base + i) ≡ moved base (cut_at w most i)
  shown p q = cut_drop s base most i ∙ rw (window, cut_append w r most i p q)

  shown_packet : (kind start n next : ℕ) → cut_at w most i ≡ Packet kind start n next
      → recording_from s most (base + i)
      ≡ with_first (record { kind = kind; bytes = take n (drop start w) }) (recording_from s most (base + next))
  shown_packet kind start n next e =
      let l : Lies w i start n next = packet_lies w most i e in
      let c : cut_at s most (base + i) ≡ Packet kind (base + start) n (base + next) =
      shown (λ p. differ (cc)) (λ p. differ (cc)) ∙ rw e in
      let b : take n (drop (base + start) s) ≡ take n (drop start w) =
      rw (← drop-drop start base s, window, drop-append-le start w r (omega arith))
      (take-append-le n (drop start w) r (rw (length-drop start w) (omega arith))) in
      recording_at s most (base + i) ∙ rw (c, b)

pub window_shows : WindowTheorem
window_shows s w r base window most i =
    record {
      packet = shown_packet s w r base window most i;
      bad = λ e. shown s w r base window most i (λ p. differ (cc)) (λ p. differ (cc)) ∙ rw e;
      end = λ e. cut_drop s base most i ∙ rw (window, e, append-nil w);
    }
