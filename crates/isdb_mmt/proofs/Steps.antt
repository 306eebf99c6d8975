-- Walks by steps: what was found is what the steps give, one by one. Assumes nothing.
use Rattle.std.specs.Prelude.{Option, None, Some, is_some}
use Rattle.std.proofs.Common.{◌≡◌, ℕ, zero, suc, ◌-◌, ◌<◌, Bool, true, false, List, [], sym, refl, ap, ◌∙◌, arith}
use Rattle.isdb_tlv.specs.Walk.{Next, stop as halt, more, turn, run, also as also_item}
use Rattle.isdb_tlv.proofs.Walk.{Ahead, walk_at, run_stop, run_more}
use Rattle.isdb_mmt.specs.WholeValues.Steps.{Stood, at_end, malformed, element, Found, stopped, also, required, counted, onward, to_end, Counts, Ends, last_of}
use Rattle.isdb_mmt.proofs.Names.{true_not_false}

-- a list of items that is refused whole where one of them is
pub also_some : {A : Type 0} (x : A) (o : Option (List A)) → is_some (also_item x o) ≡ is_some o
also_some x None = refl
also_some x (Some l) = refl

-- the turns of the loop that asks whether so many items are all there
module _ {A : Type 0} (step : ℕ → Next (Option (List A))) (at n : ℕ) where
  abbrev items : ℕ → ℕ → Option (List A)
  items = run step (λ p. Some [])

  pub all_stop : 0 < n → step at ≡ halt None → is_some (items n at) ≡ false
  all_stop h e = ap is_some (run_stop step (λ p. Some []) at n h e)

  pub all_more : (x : A) {next : ℕ} → 0 < n → step at ≡ more next (also_item x) → is_some (items n at) ≡ is_some (items (n - 1) next)
  all_more x {next} h e = ap is_some (run_more step (λ p. Some []) at n h e) ∙ also_some x (items (n - 1) next)

-- what holds behind an element that stands there
abbrev pub Leads : {A : Type 0} → (ℕ → Type 0) → Stood A → Type 0
Leads Rest at_end = ⊥
Leads Rest malformed = ⊥
Leads Rest (element x next) = Rest next

-- so many elements: where the walk is whole, every step gives one, and there are as many
module _ {A : Type 0} (step : ℕ → Stood A) where
  counts_on : (n : ℕ) → ((at : ℕ) → (counted step n at).whole ≡ true → Counts step n at (counted step n at).found) → (at : ℕ) (d : Stood A) → step at ≡ d
      → (turn (counted step n) (required d)).whole ≡ true → Counts step (suc n) at (turn (counted step n) (required d)).found
  counts_on n h at at_end e w = true_not_false false w refl
  counts_on n h at malformed e w = true_not_false false w refl
  counts_on n h at (element x next) e w =
      let r = h next w in
      record { count = ap suc r.count; stop = r.stop; gives = record { next = next; here = e; rest = r.gives } }

  pub counts : (n at : ℕ) → (counted step n at).whole ≡ true → Counts step n at (counted step n at).found
  counts zero at w = record { count = refl; stop = at; gives = refl }
  counts (suc n) at w = counts_on n (counts n) at (step at) refl w

  -- a walk is whole where whatever says so of `n` elements says so behind a first
  leads_whole : {Rest : ℕ → Type 0} (n : ℕ) → ((at : ℕ) → Rest at → (counted step n at).whole ≡ true) → (d : Stood A) → Leads Rest d
      → (turn (counted step n) (required d)).whole ≡ true
  leads_whole n h at_end w = absurd w
  leads_whole n h malformed w = absurd w
  leads_whole n h (element x next) w = h next w

  pub whole_by : (Says : ℕ → ℕ → Type 0) → ((n at : ℕ) → Says (suc n) at → Leads (Says n) (step at)) → (n at : ℕ) → Says n at
      → (counted step n at).whole ≡ true
  whole_by Says h zero at w = refl
  whole_by Says h (suc n) at w = leads_whole n (whole_by Says h n) (step at) (h n at w)

-- an element is within `n` bytes and leads on
abbrev pub On : {A : Type 0} → ℕ → ℕ → Stood A → Type 0
On n at at_end = Unit {0}
On n at malformed = Unit {0}
On n at (element x next) = (at < n) × (at < next)

abbrev pub whole_on : {A : Type 0} → (ℕ → Bool) → Stood A → Bool
whole_on go at_end = true
whole_on go malformed = false
whole_on go (element x next) = go next

module _ {A : Type 0} (step : ℕ → Stood A) (n : ℕ) (on : (at : ℕ) → On n at (step at)) where
  ahead : (at : ℕ) (d : Stood A) → On n at d → Ahead n at (onward d)
  ahead at at_end w = tt
  ahead at malformed w = tt
  ahead at (element x next) w = w

  pub to_end_at : (at : ℕ) → to_end step n at ≡ turn (to_end step n) (onward (step at))
  unfolding to_end
  to_end_at at = walk_at (λ p. onward (step p)) (stopped false) n (λ p. ahead p (step p) (on p)) at

  -- anything that goes over the elements in the same way finds the same
  same_on : (go : ℕ → Found A) (at : ℕ) (d : Stood A) → On n at d → ((next : ℕ) → at < n → at < next → go next ≡ to_end step n next)
      → turn go (onward d) ≡ turn (to_end step n) (onward d)
  same_on go at at_end w h = refl
  same_on go at malformed w h = refl
  same_on go at (element x next) w h = ap (also x) (h next w.0 w.1)

  module _ (go : ℕ → Found A) (turns : (at : ℕ) → go at ≡ turn go (onward (step at))) where
    same_for : (k at : ℕ) → n - at < k → go at ≡ to_end step n at
    same_for zero at h = absurd (omega arith)
    same_for (suc k) at h =
        turns at
        ∙ same_on go at (step at) (on at) (λ next a b. same_for k next (omega arith))
        ∙ sym (to_end_at at)

    pub same_found : (at : ℕ) → go at ≡ to_end step n at
    same_found at = same_for (suc (n - at)) at (omega arith)

  -- and the same of whether it is whole
  whole_on_lem : (go : ℕ → Bool) (at : ℕ) (d : Stood A) → On n at d → ((next : ℕ) → at < n → at < next → go next ≡ (to_end step n next).whole)
      → whole_on go d ≡ (turn (to_end step n) (onward d)).whole
  whole_on_lem go at at_end w h = refl
  whole_on_lem go at malformed w h = refl
  whole_on_lem go at (element x next) w h = h next w.0 w.1

  module _ (go : ℕ → Bool) (turns : (at : ℕ) → go at ≡ whole_on go (step at)) where
    whole_for : (k at : ℕ) → n - at < k → go at ≡ (to_end step n at).whole
    whole_for zero at h = absurd (omega arith)
    whole_for (suc k) at h =
        turns at
        ∙ whole_on_lem go at (step at) (on at) (λ next a b. whole_for k next (omega arith))
        ∙ sym (ap (λ (l : Found A). l.whole) (to_end_at at))

    pub same_whole : (at : ℕ) → go at ≡ (to_end step n at).whole
    same_whole at = whole_for (suc (n - at)) at (omega arith)

  -- every step gives one, and behind the last stands the end, or what is not whole
  ends_on : (at : ℕ) (d : Stood A) → step at ≡ d → On n at d
      → ((next : ℕ) → at < n → at < next → Ends step next (to_end step n next).found (last_of (to_end step n next).whole))
      → Ends step at (turn (to_end step n) (onward d)).found (last_of (turn (to_end step n) (onward d)).whole)
  ends_on at at_end e w h = record { stop = at; gives = refl; ends = e }
  ends_on at malformed e w h = record { stop = at; gives = refl; ends = e }
  ends_on at (element x next) e w h =
      let r = h next w.0 w.1 in
      record { stop = r.stop; gives = record { next = next; here = e; rest = r.gives }; ends = r.ends }

  ends_for : (k at : ℕ) → n - at < k → Ends step at (to_end step n at).found (last_of (to_end step n at).whole)
  ends_for zero at h = absurd (omega arith)
  ends_for (suc k) at h =
      rw (to_end_at at) (ends_on at (step at) refl (on at) (λ next a b. ends_for k next (omega arith)))

  pub ends : (at : ℕ) → Ends step at (to_end step n at).found (last_of (to_end step n at).whole)
  ends at = ends_for (suc (n - at)) at (omega arith)

  pub ends_whole : (at : ℕ) → (to_end step n at).whole ≡ true → Ends step at (to_end step n at).found at_end
  ends_whole at e = rw e at (ends at)
