-- What a read puts behind the bytes of a window.
use Rattle.std.proofs.Common.{ℕ, ◌≡◌, ◌≤◌, ◌+◌, List, ◌++◌, length, take, drop, ◌∙◌, ap, subst}
use Rattle.std.specs.Prelude.{Option}
use Rattle.std.specs.Io.KnownBytes.{Consumes}
use Rattle.std.proofs.KnownBytes.{Consumes-trans}
use Rattle.std.proofs.lemmas.List.{take-append-drop, drop-take, take-append-le, length-take-le, take-take}
use Rattle.std.proofs.Math.Seq.{drop-append_seam}
use borrow.Rule.Slice.PartMut.{put_mid, post_of}

-- the bytes that a read put behind the first `n`
pub bytes_read : (n k got : ℕ) (w ys : List ℕ) → n ≤ length w → got ≤ length ys → drop n (take (n + got) (put_mid n k w ys)) ≡ take got ys
bytes_read n k got w ys h g =
    let z = ys ++ post_of n k w in
    let s : drop n (take n w ++ z) ≡ z = subst (λ i. drop i (take n w ++ z) ≡ z) (length-take-le n w h) (drop-append_seam (take n w) z) in
    drop-take n got (put_mid n k w ys) ∙ ap (take got) s ∙ take-append-le got ys (post_of n k w) g

-- those in front, and those read behind them
pub read_on : (w v : List ℕ) (n m : ℕ) → take n v ≡ take n w → n ≤ m → take n w ++ drop n (take m v) ≡ take m v
read_on w v n m e h =
    let t : take n (take m v) ≡ take n w = take-take n m v h ∙ e in
    subst (λ x. x ++ drop n (take m v) ≡ take m v) t (take-append-drop n (take m v))

-- and what was consumed so far, with what this read consumed
pub consumed_on : (a b c : Option (List ℕ)) (w v : List ℕ) (n m : ℕ) → take n v ≡ take n w → n ≤ m → Consumes a b (take n w)
    → Consumes b c (drop n (take m v)) → Consumes a c (take m v)
consumed_on a b c w v n m e h p q =
    subst (λ x. Consumes a c x) (read_on w v n m e h) (Consumes-trans a b c (take n w) (drop n (take m v)) p q)
