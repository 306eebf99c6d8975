-- Bytes moved to the front of a window. Assumes nothing.
use Rattle.std.proofs.Common.{◌≡◌, ℕ, ◌-◌, ◌≤◌, leb, min, List, [], length, take, drop, sym, refl, ◌∙◌, arith, length-drop, length-take-le, take_all, drop_of_length-le, leb-false, leb-true}
use Rattle.std.specs.List.{copy_within}
use Rattle.std.proofs.lemmas.List.Edits.{sets-eq}
use Rattle.isdb_tlv.proofs.Guards.{either}
use Rattle.isdb_text.specs.Text.{Wrote}
use Rattle.isdb_text.specs.Window.{left_of}

none : (n : ℕ) (s : List ℕ) → s ≡ [] → take n s ≡ []
none n s e = rw e (take_all n [] (omega arith))

-- `e` is where the window's bytes end at most, and `a` where what is moved begins
module _ (w : List ℕ) (at end e a : ℕ) (p : e ≡ min end (length w)) (q : a ≡ min at e) where
  within : at ≤ e → take (end - at) (drop at w) ≡ take (e - a) (drop a w)
  within h =
      let b : a ≡ at = omega (arith, q) in
      let n : length (drop at w) ≡ length w - at = length-drop at w in
      either (leb end (length w))
      (λ t. let g : e ≡ end = omega (arith, p, leb-true _ _ t) in rw (b, g) refl)
      (λ f. let g : e ≡ length w = omega (arith, p, leb-false _ _ f) in
      rw (b, g) (take_all (end - at) (drop at w) (omega (arith, leb-false _ _ f)) ∙ sym (take_all (length w - at) (drop at w) (omega arith))))

  nothing : e ≤ at → take (end - at) (drop at w) ≡ take (e - a) (drop a w)
  nothing h =
      let z : e - a ≡ 0 = omega (arith, q) in
      either (leb end (length w))
      (λ t. let y : end - at ≡ 0 = omega (arith, p, leb-true _ _ t) in rw (z, y) refl)
      (λ f. rw z (none (end - at) (drop at w) (drop_of_length-le w {i = at} (omega (arith, p, leb-false _ _ f)))))

  -- what is left of the window is what is moved
  pub moved : (m : List ℕ) → m ≡ copy_within w a e 0 → Wrote w 0 (left_of w at end) m (e - a)
  unfolding left_of
  moved m h =
      let t : take (end - at) (drop at w) ≡ take (e - a) (drop a w) =
      either (leb at e) (λ h. within (leb-true _ _ h)) (λ h. nothing (omega (arith, leb-false _ _ h))) in
      let n : length (take (e - a) (drop a w)) ≡ e - a = length-take-le (e - a) (drop a w) (rw (length-drop a w) (omega (arith, p, q))) in
      rw t (record { bytes = h ∙ rw (sets-eq (take (e - a) (drop a w)) w 0 (omega (arith, n, p)), n) refl; place = omega (arith, n, p) })
