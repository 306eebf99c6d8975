-- The asset that a packet id carries: one law for each return. Assumes nothing.
use Rattle.std.specs.Option.{option_eq}
use Rattle.std.proofs.Common.{eqb}
use Rattle.std.proofs.Common.{◌≡◌, ℕ, zero, suc, ◌+◌, ◌-◌, ◌*◌, ◌<◌, ◌≤◌, Bool, true, false, ltb, List, [], ◌∷◌, length, sym, refl, ap, ◌∙◌, arith, ltb-false, lt-ltb}
use Rattle.std.specs.Prelude.{Option, Some, None, Result, Ok, Err, ⊤}
use Rattle.isdb_mmt.specs.declared.decoder.refusal.Refusal.{Refusal}
use Rattle.isdb_tlv.proofs.Guards.{either}
use Rattle.isdb_mmt.specs.Decoder.Packet.{Bytes}
use Rattle.isdb_mmt.specs.Formats.Part.{part_of}
use Rattle.isdb_mmt.specs.Memory.Layout.{control_places, control_size}
use Rattle.isdb_mmt.specs.Memory.Lent.{names_from}
use Rattle.isdb_mmt.specs.Memory.Session.{Session, used_of}
use Rattle.isdb_mmt.specs.Memory.Lending.{session_asked}
use Rattle.isdb_mmt.specs.Formats.Mpt.{mpt_of, service_id_of, locations_of, first_packet_id, asset_at_of, assets_from}
use Rattle.isdb_mmt.specs.Answers.Readings.{carried, least_from, most_name, ascending_from, ascending, control_names, control_found, mpt_part, is_this, first_carried, asset_in, asset_if, asset_among, asset_read}
use Rattle.isdb_mmt.specs.Answers.KeptParts.{AllInUse}
use Rattle.isdb_mmt.specs.declared.part.Part.{Part}
use Rattle.isdb_mmt.specs.declared.table.mpt.Asset.{Asset}
use Rattle.isdb_mmt.specs.declared.table.mpt.Mpt.{Mpt}
use Rattle.isdb_mmt.specs.declared.decoder.head.Used.{Used}
use Rattle.isdb_mmt.specs.declared.decoder.readings.CarriedAsset.{CarriedAsset}
use Rattle.isdb_mmt.proofs.Lent.{length_names}
use Rattle.isdb_mmt.proofs.ReadSteps.{was_sound}
use Rattle.isdb_mmt.proofs.KeptParts.{session_reached}

-- ---- the first asset of an MPT

this_equal : (p : ℕ) (q : Option ℕ) → option_eq eqb q (Some p) ≡ is_this p q
this_equal p None = refl
this_equal p (Some x) = refl

module _ (p : ℕ) (b : Bytes) where
  -- one turn, of so many assets
  step_bad : (n at : ℕ) → 0 < n → asset_at_of b at ≡ None → first_carried p b (assets_from n b at).found ≡ None
  unfolding first_carried
  step_bad zero at h e = absurd (omega arith)
  step_bad (suc n) at h e = rw e refl

  module _ (a : Asset) (next : ℕ) (q : Bool) (eq : q ≡ is_this p (first_packet_id (locations_of a.locations b a.locations_start))) where
    step_hit : (n at : ℕ) → 0 < n → asset_at_of b at ≡ Some (a, next) → q ≡ true → first_carried p b (assets_from n b at).found ≡ Some a
    unfolding first_carried
    step_hit zero at h e t = absurd (omega arith)
    step_hit (suc n) at h e t = rw (e, ← eq, t) refl

    step_on : (n at : ℕ) → 0 < n → asset_at_of b at ≡ Some (a, next) → q ≡ false
        → first_carried p b (assets_from n b at).found ≡ first_carried p b (assets_from (n - 1) b next).found
    unfolding first_carried
    step_on zero at h e t = absurd (omega arith)
    step_on (suc n) at h e t = let i : suc n - 1 ≡ n = omega arith in rw (e, ← eq, t, i) refl

  module _ (at left : ℕ) (y : Option Asset) (inv : y ≡ first_carried p b (assets_from left b at).found) where
    pub carried_end : left ≤ 0 → None ≡ y
    unfolding first_carried
    carried_end h = let e : left ≡ 0 = omega arith in sym (inv ∙ rw e refl)

    module _ (h : 0 < left) (d : Option (Asset × ℕ)) (ed : d ≡ asset_at_of b at) where
      pub carried_bad : d ≡ None → None ≡ y
      carried_bad e = sym (inv ∙ step_bad left at h (sym ed ∙ e))

      module _ (a : Asset) (next : ℕ) (e : d ≡ Some (a, next)) (v : Option ℕ) (ev : v ≡ first_packet_id (locations_of a.locations b a.locations_start)) (q : Bool) (eq : q ≡ option_eq eqb v (Some p)) where
        pub carried_hit : q ≡ true → Some a ≡ y
        carried_hit t = sym (inv ∙ step_hit a next q (eq ∙ this_equal p v ∙ ap (is_this p) ev) left at h (sym ed ∙ e) t)

        pub carried_on : q ≡ false → y ≡ first_carried p b (assets_from (left - 1) b next).found
        carried_on t = inv ∙ step_on a next q (eq ∙ this_equal p v ∙ ap (is_this p) ev) left at h (sym ed ∙ e) t

-- ---- one MPT

-- ---- the control ids in order

pub above_all : (a b : ℕ) (names : List ℕ) → b < a → None ≡ least_from None a b names
unfolding least_from
above_all a b [] h = refl
above_all a b (y ∷ ys) h =
    either (ltb y a) (λ t. rw t (above_all a b ys h))
    (λ f. let g : ltb b y ≡ true = lt-ltb b y (omega (arith, ltb-false y a f)) in rw (f, g) (above_all a b ys h))

-- a reading goes on where an MPT does not name the packet id
abbrev or_next : Result (Option CarriedAsset) Refusal → Result (Option CarriedAsset) Refusal → Result (Option CarriedAsset) Refusal
or_next (Err n) r = Err n
or_next (Ok None) r = r
or_next (Ok (Some a)) r = Ok (Some a)

module _ (p id : ℕ) (m : Part) (b : Bytes) (rest : Result (Option CarriedAsset) Refusal) where
  of_asset : (v : Option ℕ) (o : Option Asset) → carried id m v o rest ≡ or_next (carried id m v o (Ok None)) rest
  of_asset v None = refl
  of_asset v (Some a) = refl

  of_mpt : (t : Option Mpt) → asset_in p id m b t rest ≡ or_next (asset_in p id m b t (Ok None)) rest
  of_mpt None = refl
  of_mpt (Some t) = of_asset (service_id_of b t.package_id) (first_carried p b (assets_from t.assets b t.start).found)

in_sequence_lem : (p id : ℕ) (tables : Bytes) (o : Option Part) (rest : Result (Option CarriedAsset) Refusal) → asset_if p tables id o rest ≡ or_next (asset_if p tables id o (Ok None)) rest
in_sequence_lem p id tables None rest = refl
in_sequence_lem p id tables (Some m) rest = of_mpt p id m (part_of tables m) rest (mpt_of (part_of tables m)).mpt

module _ (s : Session) (p : ℕ) (names : List ℕ) where
  turn_none : (n from : ℕ) → 0 < n → least_from None from most_name names ≡ None → asset_among s p (ascending_from n from names) ≡ Ok None
  unfolding asset_among ascending_from
  turn_none zero from h e = absurd (omega arith)
  turn_none (suc n) from h e = rw e refl

  turn_some : (n from id : ℕ) → 0 < n → least_from None from most_name names ≡ Some id
      → asset_among s p (ascending_from n from names)
      ≡ or_next (asset_if p s.tables id (mpt_part s (control_found s id)) (Ok None)) (asset_among s p (ascending_from (n - 1) (id + 1) names))
  unfolding asset_among ascending_from
  turn_some zero from id h e = absurd (omega arith)
  turn_some (suc n) from id h e =
      let i : suc n - 1 ≡ n = omega arith in
      let rest : Result (Option CarriedAsset) Refusal = asset_among s p (ascending_from n (id + 1) names) in
      rw (e, i)
      (in_sequence_lem p id s.tables (mpt_part s (control_found s id)) rest)

  module _ (left from : ℕ) (y : Result (Option CarriedAsset) Refusal) (inv : y ≡ asset_among s p (ascending_from left from names)) where
    pub among_end : left ≤ 0 → Ok None ≡ y
    unfolding asset_among ascending_from
    among_end h = let e : left ≡ 0 = omega arith in sym (inv ∙ rw e refl)

    module _ (h : 0 < left) (x : Option ℕ) (ex : x ≡ least_from None from most_name names) where
      pub among_none : x ≡ None → Ok None ≡ y
      among_none e = sym (inv ∙ turn_none left from h (sym ex ∙ e))

      module _ (id : ℕ) (e : x ≡ Some id) (r : Result (Option CarriedAsset) Refusal) (er : r ≡ asset_if p s.tables id (mpt_part s (control_found s id)) (Ok None)) where
        turn : y ≡ or_next r (asset_among s p (ascending_from (left - 1) (id + 1) names))
        turn = inv ∙ turn_some left from id h (sym ex ∙ e) ∙ ap (λ (z : Result (Option CarriedAsset) Refusal). or_next z (asset_among s p (ascending_from (left - 1) (id + 1) names))) (sym er)

        pub among_refused : (k : Refusal) → r ≡ Err k → Err k ≡ y
        among_refused k d = sym (turn ∙ rw d refl)

        module _ (o : Option CarriedAsset) (d : r ≡ Ok o) where
          pub among_found : (a : CarriedAsset) → o ≡ Some a → Ok (Some a) ≡ y
          among_found a f = sym (turn ∙ rw (d, f) refl)

          pub among_on : o ≡ None → y ≡ asset_among s p (ascending_from (left - 1) (id + 1) names)
          among_on f = turn ∙ rw (d, f) refl

-- ---- the reading

module _ (s : Session) (a : Result ⊤ Refusal) (ea : a ≡ session_asked s) (o : ⊤) (ok : a ≡ Ok o) (u : Used) (eu : u ≡ used_of s.state) where
  pub asset_in_use : AllInUse s.state u.control_ids
  asset_in_use = record { session = session_reached s a ea o ok; number = ap (λ (z : Used). z.control_ids) eu }

  pub asset_read_lem : (p : ℕ) (r : Result (Option CarriedAsset) Refusal)
      → r ≡ asset_among s p (ascending_from u.control_ids 0 (names_from u.control_ids control_size control_places s.state))
      → r ≡ asset_read s p
  unfolding asset_read
  asset_read_lem p r er =
      let n : ℕ = (used_of s.state).control_ids in
      let names : List ℕ = names_from n control_size control_places s.state in
      let e : r ≡ asset_among s p (ascending_from n 0 names) = rw eu at er in
      let f : ascending_from n 0 names ≡ ascending (control_names s) = ap (λ j. ascending_from j 0 names) (sym (length_names control_size n control_places s.state)) in
      e ∙ ap (asset_among s p) f ∙ sym (rw (was_sound s a ea o ok) refl)

-- the control places in use lie within the state
pub all_within : (state : Bytes) (n : ℕ) → AllInUse state n → control_places + n * control_size ≤ length state
all_within state n h = rw h.number (omega (arith, h.session.there.long, h.session.there.controls))
