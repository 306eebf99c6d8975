-- Laws of what a writer leaves. Assumes nothing.
use Rattle.std.proofs.Common.{◌≡◌, ℕ, suc, ◌+◌, ◌<◌, ◌≤◌, leb, List, [], ◌∷◌, ◌++◌, length, set, sym, refl, ◌∙◌, add-zero, arith, length-append, length-set, min, leb-false, leb-true}
use lib.Seq.{sets, length-sets, set_out}
use Rattle.isdb_tlv.proofs.Guards.{either}
use Rattle.isdb_text.specs.Text.{Wrote}

-- what would lie beyond the end is left out
sets_beyond : (l : List ℕ) (at : ℕ) (s : List ℕ) → length l ≤ at → sets l at s ≡ l
sets_beyond l at [] h = refl
sets_beyond l at (a ∷ s) h = rw (set_out l at a h) (sets_beyond l (suc at) s (omega arith))

-- one text behind another
pub sets_append : (l : List ℕ) (at : ℕ) (s t : List ℕ) → sets l at (s ++ t) ≡ sets (sets l at s) (at + length s) t
sets_append l at [] t = rw (add-zero at)
sets_append l at (a ∷ s) t =
    let e : at + suc (length s) ≡ suc at + length s = omega arith in
    rw e (sets_append (set l at a) (suc at) s t)

module _ {a b c s t : List ℕ} {i j k : ℕ} where
  -- one text behind another is both as one
  pub wrote_append : Wrote a i s b j → Wrote b j t c k → Wrote a i (s ++ t) c k
  wrote_append p q =
      let n : length b ≡ length a = rw p.bytes (length-sets a i s) in
      let e : length (s ++ t) ≡ length s + length t = length-append s t in
      let whole : i + length s ≤ length a → c ≡ sets a i (s ++ t) =
      λ h. let at : j ≡ i + length s = omega (arith, p.place) in
      q.bytes ∙ rw (at, p.bytes) (sym (sets_append a i s t)) in
      let cut : length a < i + length s → c ≡ sets a i (s ++ t) =
      λ h. q.bytes ∙ sets_beyond b j t (omega (arith, p.place)) ∙ p.bytes
      ∙ sym (sets_append a i s t ∙ sets_beyond (sets a i s) (i + length s) t (rw (length-sets a i s) (omega arith))) in
      record {
        bytes = either (leb (i + length s) (length a)) (λ h. whole (leb-true _ _ h)) (λ h. cut (leb-false _ _ h));
        place = omega (arith, p.place, q.place);
      }

-- a place behind the end takes nothing, whichever it is
sets_cut : (b : List ℕ) (at n : ℕ) (t : List ℕ) → n ≡ length b + 1 → sets b (min at n) t ≡ sets b at t
sets_cut b at n t e =
    either (leb at n) (λ h. let g : min at n ≡ at = omega (arith, leb-true _ _ h) in rw g refl)
    (λ h. sets_beyond b (min at n) t (omega (arith, leb-false _ _ h)) ∙ sym (sets_beyond b at t (omega (arith, leb-false _ _ h))))

-- a text behind another, a byte behind a text, and a text behind a byte
pub sets_behind : (l : List ℕ) (at : ℕ) (s : List ℕ) (k n : ℕ) (t : List ℕ) → k ≡ at + length s → n ≡ length l + 1
    → sets (sets l at s) (min k n) t ≡ sets l at (s ++ t)
sets_behind l at s k n t e f =
    sets_cut (sets l at s) k n t (rw (length-sets l at s) f) ∙ rw e (sym (sets_append l at s t))

pub set_behind : (l : List ℕ) (at : ℕ) (s : List ℕ) (k n x : ℕ) → k ≡ at + length s → n ≡ length l + 1
    → set (sets l at s) (min k n) x ≡ sets l at (s ++ (x ∷ []))
set_behind l at s k n x e f = sets_behind l at s k n (x ∷ []) e f

pub sets_behind_byte : (l : List ℕ) (i x k n : ℕ) (t : List ℕ) → n ≡ length l + 1 → sets (set l i x) (min k n) t ≡ sets (set l i x) k t
sets_behind_byte l i x k n t e = sets_cut (set l i x) k n t (rw (length-set l i x) e)

-- what closes a few texts one behind another
pub ruleset writing = (sets_behind, set_behind, sets_behind_byte, length-sets, length-set, length-append)

-- in the middle of a text: whatever follows as `rest` completes it
pub record Left (l : List ℕ) (at : ℕ) (whole m : List ℕ) (p : ℕ) (rest : List ℕ) : Type 0 where
  pub within : p ≤ length m + 1
  pub goes : (m' : List ℕ) (k : ℕ) → Wrote m p rest m' k → Wrote l at whole m' k

pub left_all : {l : List ℕ} {at : ℕ} {whole : List ℕ} {p : ℕ} → Wrote l at [] l p → Left l at whole l p whole
left_all w = record { within = omega (arith, w.place); goes = λ m' k v. wrote_append w v }

module _ {l : List ℕ} {at : ℕ} {whole m : List ℕ} {p : ℕ} where
  pub left_less : {rest more x n : List ℕ} {q : ℕ}
      → Left l at whole m p rest → rest ≡ x ++ more → Wrote m p x n q → Left l at whole n q more
  left_less {rest} {more} {x} {n} f e w =
      let same : length n ≡ length m = rw w.bytes (length-sets m p x) in
      record { within = omega (arith, w.place); goes = λ m' k v. f.goes m' k (rw e (wrote_append w v)) }

  pub left_none : {rest : List ℕ} → Left l at whole m p rest → rest ≡ [] → Wrote l at whole m p
  left_none {rest} f e = f.goes m p (rw e (record { bytes = refl; place = rw (add-zero p) (omega (arith, f.within)) }))
