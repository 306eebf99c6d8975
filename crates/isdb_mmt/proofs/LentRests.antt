-- What a call leaves that stores at the start of all memory from a place on. Assumes nothing.
use Rattle.std.proofs.Common.{◌≡◌, ℕ, ◌+◌, ◌-◌, ◌≤◌, List, [], ◌++◌, length, take, drop, sym, refl, ap, ◌∙◌, append-nil, arith, length-drop, take_all}
use lib.Seq.{drop-length}
use borrow.Rule.Slice.PartMut.{put_mid}
use Rattle.isdb_tlv.specs.Fields.{Field, written}
use Rattle.isdb_tlv.proofs.Fields.{length_written, size}
use Rattle.isdb_mmt.specs.Memory.Lent.{over}

module _ (at : ℕ) (bs l : List ℕ) (h : at + length bs ≤ length l) where
  rest_size : length l - at ≡ length (drop at l)
  rest_size = sym (length-drop at l)

  rest_whole : take (length l - at) (drop at l) ≡ drop at l
  rest_whole = take_all (length l - at) (drop at l) (omega (arith, rest_size))

  rest_none : drop (length l - at) (drop at l) ≡ []
  rest_none = ap (λ k. drop k (drop at l)) rest_size ∙ drop-length (drop at l)

  front_over : (t : List ℕ) → over 0 bs t ≡ bs ++ drop (length bs) t
  unfolding over
  front_over t = refl

  pub over_rest : (ys : List ℕ) → ys ≡ over 0 bs (take (length l - at) (drop at l))
      → take at l ++ (ys ++ drop (length l - at) (drop at l)) ≡ over at bs l
  unfolding over
  over_rest ys e =
      let w : ys ≡ bs ++ drop (length bs) (drop at l) = e ∙ front_over (take (length l - at) (drop at l)) ∙ ap (λ (t : List ℕ). bs ++ drop (length bs) t) rest_whole in
      ap (λ (t : List ℕ). take at l ++ (ys ++ t)) rest_none ∙ ap (λ (t : List ℕ). take at l ++ t) (append-nil ys ∙ w)

-- fields that a call puts there
pub sent_behind : (fs : List Field) (at : ℕ) (l m : List ℕ) → at + size fs ≤ length l → m ≡ over 0 (written fs) (take (length l - at) (drop at l))
    → put_mid at (length l - at) l m ≡ over at (written fs) l
sent_behind fs at l m h e = over_rest at (written fs) l (omega (arith, length_written fs, h)) m e
