-- Laws of ids in ascending order: a loop that writes the text of each, and that above the largest number there is none. Assumes nothing.
use Rattle.std.proofs.Common.{◌≡◌, ℕ, ◌+◌, ◌<◌, ltb, List, [], ◌∷◌, refl, ap, ◌∙◌, arith, ltb-false, lt-ltb}
use Rattle.std.specs.Prelude.{Option, Some, None, Result, Ok, Err}
use Rattle.isdb_mmt.specs.declared.decoder.refusal.Refusal.{Refusal}
use Rattle.isdb_tlv.proofs.Guards.{either}
use Rattle.isdb_mmt.specs.Memory.Session.{Session}
use Rattle.isdb_mmt.specs.Memory.Check.{sound}
use Rattle.isdb_mmt.specs.Answers.Readings.{name_read, least_from, most_name, next_media_read, next_control_read}
use Rattle.isdb_text.specs.Text.{Wrote}
use Rattle.isdb_text.specs.Elements.{ended}
use Rattle.isdb_text.specs.Ascending.{id_element}
use Rattle.isdb_text.proofs.Elements.{Walk, walk_turn, walk_ended, walk_last}

module _ {l : List ℕ} {at : ℕ} {whole m : List ℕ} {p : ℕ} (text : ℕ → List ℕ) (next : ℕ → Result (Option ℕ) Refusal) {n k i : ℕ}
    (f : Walk l at whole m p (λ at. id_element text) next n k i) (r : Result (Option ℕ) Refusal) (e : r ≡ next i) where
  module _ (o : Option ℕ) (d : r ≡ Ok o) where
    module _ (id : ℕ) (y : o ≡ Some id) (h : k < n) {m' : List ℕ} {q : ℕ} (w : Wrote m p (text id) m' q) where
      pub id_turn : Walk l at whole m' q (λ at. id_element text) next n (k + 1) (id + 1)
      id_turn = walk_turn f r (Ok (Some id)) e (d ∙ ap Ok y) h refl w

      pub id_last : id_element text (next (id + 1)) ≡ ended → Wrote l at whole m' q
      id_last z = walk_last f r (Ok (Some id)) e (d ∙ ap Ok y) h refl w z

    pub no_id : o ≡ None → Wrote l at whole m p
    no_id y = walk_ended f r (Ok None) e (d ∙ ap Ok y) refl

  pub id_refused : (x : Refusal) → r ≡ Err x → Wrote l at whole m p
  id_refused x d = walk_ended f r (Err x) e d refl

none_between : (names : List ℕ) (x : Option ℕ) (a b : ℕ) → b < a → least_from x a b names ≡ x
unfolding least_from
none_between [] x a b h = refl
none_between (y ∷ ys) x a b h =
    either (ltb y a) (λ t. rw t (none_between ys x a b h))
    (λ f. rw (f, lt-ltb b y (omega (arith, ltb-false y a f))) (none_between ys x a b h))

module _ (s : Session) (text : ℕ → List ℕ) (a : ℕ) (h : most_name < a) where
  none_above : (names : List ℕ) → id_element text (name_read s names a most_name) ≡ ended
  none_above names = either (sound s) (λ t. rw (t, none_between names None a most_name h)) (λ f. rw f)

  pub no_media_above : id_element text (next_media_read s a) ≡ ended
  unfolding next_media_read
  no_media_above = none_above _

  pub no_control_above : id_element text (next_control_read s a) ≡ ended
  unfolding next_control_read
  no_control_above = none_above _
