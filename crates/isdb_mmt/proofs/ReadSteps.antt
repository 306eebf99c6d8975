-- What a reading answers, question by question, and the places that it looks at. Assumes nothing.
use Rattle.std.proofs.Common.{◌≡◌, ℕ, ◌+◌, ◌<◌, ◌≤◌, Bool, true, false, eqb, List, [], ◌∷◌, length, sym, refl, ap, ◌∙◌, arith}
use Rattle.std.specs.Prelude.{Result, Ok, Err, ⊤, if◌then◌else◌, Option, Some}
use Rattle.isdb_mmt.specs.declared.decoder.refusal.Refusal.{Refusal}
use Rattle.isdb_mmt.specs.declared.decoder.refusal.Refusal.TheVariants.{NotASession}
use Rattle.isdb_tlv.proofs.Guards.{either}
use Rattle.isdb_mmt.specs.Memory.Lent.{names_from, found_from}
use Rattle.isdb_mmt.specs.Memory.Layout.{most_mfu_area}
use Rattle.isdb_mmt.specs.Memory.Session.{Session, limits_of}
use Rattle.isdb_mmt.specs.Memory.Opening.{lent}
use Rattle.isdb_mmt.specs.Memory.Check.{lengths_of, sound, PlacesThere}
use Rattle.isdb_mmt.specs.Memory.Lending.{session_asked}
use Rattle.isdb_mmt.specs.declared.decoder.limits.Limits.{Limits}
use Rattle.isdb_mmt.proofs.Lent.{length_names}
use Rattle.isdb_mmt.proofs.Names.{true_not_false, there, index_in}
use Rattle.isdb_mmt.proofs.Limits.{passed}
use Rattle.isdb_mmt.proofs.Checks.{sound_session}

-- ---- question 5

absurd_answer : {A : Type 0} {u : ⊤} → ◌≡◌ {A = Result ⊤ Refusal} (Err NotASession) (Ok u) → A
absurd_answer e = let z : ◌≡◌ {A = ℕ} 0 1 = cc in absurd (omega arith)

module _ (s : Session) (r : Result ⊤ Refusal) (er : r ≡ session_asked s) (u : ⊤) (e : r ≡ Ok u) where
  pub was_sound : sound s ≡ true
  unfolding session_asked
  was_sound = go (sound s) (sym er ∙ e)
    where
      go : (q : Bool) → (if q then Ok tt else Err NotASession) ≡ Ok u → q ≡ true
      go true d = refl
      go false d = absurd_answer d

  pub places_there : PlacesThere s.state
  places_there = (sound_session s was_sound).there

  pub area_most : (l : Limits) → l ≡ limits_of s.state → l.mfu_area ≤ most_mfu_area
  area_most l el = rw el (passed (limits_of s.state) (lengths_of s) (sound_session s was_sound).limits).ranges.object.1

absurd_refusal : {A : Type 0} {f : Refusal} → ◌≡◌ {A = Result ⊤ Refusal} (Ok tt) (Err f) → A
absurd_refusal e = let z : ◌≡◌ {A = ℕ} 0 1 = cc in absurd (omega arith)

abbrev reason : Result ⊤ Refusal → Refusal
reason (Ok x) = NotASession
reason (Err f) = f

-- no session: the reason is that
module _ (s : Session) (r : Result ⊤ Refusal) (er : r ≡ session_asked s) (f : Refusal) (e : r ≡ Err f) where
  pub no_session : (sound s ≡ false) × (f ≡ NotASession)
  unfolding session_asked
  no_session = go (sound s) (sym er ∙ e)
    where
      go : (q : Bool) → ◌≡◌ {A = Result ⊤ Refusal} (if q then Ok (tt {0}) else Err NotASession) (Err f) → (q ≡ false) × (f ≡ NotASession)
      go true d = absurd_refusal d
      go false d = (refl, sym (ap reason d))

-- the same of the buffers by themselves, as a reading has them
module _ (st others objects messages tables : List ℕ) (r : Result ⊤ Refusal) (u : ⊤) (e : r ≡ session_asked (lent st others objects messages tables)) (k : r ≡ Ok u) where
  pub asked_there : PlacesThere st
  asked_there = places_there (lent st others objects messages tables) r e u k

  pub asked_area : (limits_of st).mfu_area ≤ most_mfu_area
  asked_area = area_most (lent st others objects messages tables) r e u k (limits_of st) refl

-- ---- a place that is found is one of those in use

pub found_below : (names : List ℕ) (x k j : ℕ) → found_from k names x ≡ Some j → (k ≤ j) × (j < k + length names)
unfolding found_from
found_below [] x k j e = true_not_false true refl (ap there (sym e))
found_below (y ∷ ys) x k j e =
    either (eqb y x) (λ t. let n : k ≡ j = ap index_in (rw t at e) in (omega arith, omega arith))
    (λ f. let r = found_below ys x (k + 1) j (rw f at e) in (omega (arith, r.0), omega (arith, r.1)))

pub found_in : (l : List ℕ) (size n at x most : ℕ) → n ≤ most → (f : Option ℕ) → f ≡ found_from 0 (names_from n size at l) x → (i : ℕ) → f ≡ Some i → i < most
found_in l size n at x most h f e i d =
    omega (arith, h, (found_below (names_from n size at l) x 0 i (sym e ∙ d)).1, length_names size n at l)
