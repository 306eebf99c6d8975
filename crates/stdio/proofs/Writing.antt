-- A write puts the front of what is left behind what was written.
use Rattle.std.proofs.Common.{ℕ, ◌≡◌, List, [], ◌++◌, refl, take, drop, sym, ◌∙◌, ap, append_assoc, take-append-drop}
use Rattle.std.specs.Prelude.{Option}
use Rattle.std.specs.Io.KnownBytes.{Appends, Keeps}
use Rattle.std.proofs.KnownBytes.{Appends-nil, Appends-trans, Appends-kept}
use Rattle.stdio.specs.Writing.{LeavesToWrite}

pub nothing_yet : (a : Option (List ℕ)) (text : List ℕ) → LeavesToWrite a a text text
nothing_yet a text = record { done = []; split = refl; appended = Appends-nil a }

pub written_on : (a b c : Option (List ℕ)) (text rest left : List ℕ) (n : ℕ) → LeavesToWrite a b text rest → Appends b c (take n rest)
    → left ≡ drop n rest → LeavesToWrite a c text left
written_on a b c text rest left n w p e =
    rw e (record {
      done = w.done ++ take n rest;
      split = w.split ∙ ap (λ l. w.done ++ l) (sym (take-append-drop n rest)) ∙ sym (append_assoc w.done (take n rest) (drop n rest));
      appended = Appends-trans a b c w.done (take n rest) w.appended p;
    })

pub written_same : (a b c : Option (List ℕ)) (text rest left : List ℕ) → LeavesToWrite a b text rest → Keeps b c → left ≡ rest
    → LeavesToWrite a c text left
written_same a b c text rest left w p e = rw e (record { done = w.done; split = w.split; appended = Appends-kept a b c w.done w.appended p })
