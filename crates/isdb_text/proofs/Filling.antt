-- Laws of templates. Assumes nothing.
use Rattle.std.proofs.Common.{◌≡◌, ℕ, ◌+◌, ◌-◌, ◌<◌, ◌≤◌, List, ◌++◌, length, get_or, take, drop, refl, add-zero, arith, get_or-drop, drop-drop}
use Rattle.std.proofs.lemmas.List.{take_rest}
use Rattle.isdb_text.specs.Text.{Wrote}
use Rattle.isdb_text.specs.Fill.{places, spelled, taken, filled}
use Rattle.isdb_text.proofs.Written.{Left, left_less, left_none}
use Rattle.isdb_text.proofs.Spelling.{drop_next, drop_none}

at_most_two : (c k : ℕ) → taken c k ≤ 2
unfolding taken
at_most_two c k = grind arith

pub taken_small : {u : ℕ} (c k : ℕ) → u ≡ taken c k → u ≤ 2
taken_small c k e = rw e (at_most_two c k)

module _ {l : List ℕ} {at : ℕ} {whole m : List ℕ} {p : ℕ} (t : List ℕ) (i : ℕ) (vs : List ℕ) (v : ℕ) where
  pub fill_turn : (c k a b u : ℕ) {n : List ℕ} {q : ℕ} → Left l at whole m p (filled (drop i t) (drop v vs)) → i < length t
      → c ≡ get_or t i 0 → k ≡ places (take (length t - (i + 1)) (drop (i + 1) t)) → a ≡ get_or vs v 0 → b ≡ get_or vs (v + 1) 0
      → Wrote m p (spelled c k a b) n q → u ≡ taken c k
      → Left l at whole n q (filled (drop (i + 1) t) (drop (v + u) vs))
  unfolding filled
  fill_turn c k a b u f h ec ek ea eb w eu =
      let r = take_rest t (i + 1) in
      let e : filled (drop i t) (drop v vs) ≡ spelled c k a b ++ filled (drop (i + 1) t) (drop (v + u) vs) =
      rw (drop_next t i h, ← ec, ← r, ← ek, r, get_or-drop v vs 0 0, get_or-drop v vs 1 0, add-zero, ← ea, ← eb, ← eu, drop-drop u v vs) refl in
      left_less f e w

  pub fill_end : Left l at whole m p (filled (drop i t) (drop v vs)) → length t ≤ i → Wrote l at whole m p
  unfolding filled
  fill_end f h = left_none f (rw (drop_none t i h))
