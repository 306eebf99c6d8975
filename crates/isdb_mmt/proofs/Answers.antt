-- The place, the place and the answer of a media packet, as the code has them. Assumes nothing.
use Rattle.std.proofs.Common.{◌≡◌, ℕ, ◌+◌, ◌-◌, ◌≤◌, Bool, true, false, cond, sym, ap, ◌∙◌, arith, w64, Fits, eq-eqb, ne_eqb}
use Rattle.isdb_mmt.specs.Decoder.Maps.{one}
use Rattle.isdb_mmt.specs.Pushes.MediaCommit.{passes_on, number_of, refused, accepted, answer_by, answer_of, Small}
use Rattle.isdb_mmt.specs.declared.decoder.place.PlaceFor.{PlaceFor}
use Rattle.isdb_mmt.specs.declared.decoder.limits.Limits.{Limits}
use Rattle.isdb_mmt.specs.declared.decoder.reassembler.MediaEffect.{MediaEffect}
use Rattle.isdb_mmt.specs.declared.decoder.reassembler.MediaOutcome.{MediaOutcome}
use Rattle.isdb_mmt.specs.Pushes.Answer.{Answer}
use Rattle.isdb_mmt.proofs.Maps.{one_le}

-- ---- the answer

module _ (passed : Bool) (n : ℕ) where
  passed_le : cond passed (n - 8) 0 ≤ n
  passed_le = go passed
    where
      go : (x : Bool) → cond x (n - 8) 0 ≤ n
      go true = omega arith
      go false = omega arith

  module _ (t : MediaEffect) (s : Small t) (h : n ≤ 65535) where
    pub add_records : (o : ℕ) → o ≡ one passed → Fits w64 (o + t.records)
    add_records o e = record { fits = omega (arith, e, one_le passed, s.records) }

    pub few_records : (o : ℕ) → o ≡ one passed → o + t.records ≤ 65538
    few_records o e = omega (arith, e, one_le passed, s.records)

    pub add_bytes : (d : ℕ) → d ≡ cond passed (n - 8) 0 → Fits w64 (d + t.bytes)
    add_bytes d e = record { fits = omega (arith, e, passed_le, s.bytes) }

module _ (place_for_of : PlaceFor) (l : Limits) (scrambled : Bool) (r : MediaOutcome) (n rows given : ℕ)
    (passed : Bool) (ep : passed ≡ passes_on l.pass_scrambled scrambled r.header)
    (o d : ℕ) (eo : o ≡ one passed) (ed : d ≡ cond passed (n - 8) 0)
    (k : ℕ) (ek : k ≡ number_of place_for_of l.mfu_area r.units.longest rows given (o + r.units.records) (d + r.units.bytes)) where
  answer_is : (a : Answer) → a ≡ answer_by k (o + r.units.records) (d + r.units.bytes) → a ≡ answer_of place_for_of l scrambled r n rows given
  unfolding answer_of
  answer_is a ea = ea ∙ rw (ek, eo, ed, ep)

  pub answer_yes : k ≡ 0 → (a : Answer) → a ≡ accepted (o + r.units.records) (d + r.units.bytes) → a ≡ answer_of place_for_of l scrambled r n rows given
  answer_yes z a ea =
      answer_is a (ea ∙ ap (λ b. cond b (accepted (o + r.units.records) (d + r.units.bytes)) (refused k)) (sym (eq-eqb k 0 z)))

  pub answer_no : (k ≡ 0 → ⊥) → refused k ≡ answer_of place_for_of l scrambled r n rows given
  answer_no z =
      answer_is (refused k) (ap (λ b. cond b (accepted (o + r.units.records) (d + r.units.bytes)) (refused k)) (sym (ne_eqb k 0 z)))
