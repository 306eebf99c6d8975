-- Readings of kept tables hand out what the view keeps. Assumes nothing.
use Rattle.std.proofs.Common.{◌≡◌, ℕ, ◌+◌, ◌*◌, ◌<◌, ◌≤◌, Bool, true, false, eqb, ltb, leb, List, [], ◌∷◌, length, sym, refl, ap, ◌∙◌, subst, arith, ltb-false, ltb-true, ne_eqb, eqb-true, leb-true}
use Rattle.std.specs.Bool.{then_some}
use Rattle.std.specs.Prelude.{Option as StdOption, Some, None, Result, Option}
use Rattle.isdb_mmt.specs.declared.decoder.refusal.Refusal.{Refusal}
use Rattle.isdb_mmt.specs.declared.decoder.readings.CarriedAsset.{CarriedAsset}
use lib.Arith.{lt_of_le-ne}
use borrow.Author.Tests.{eqb-false}
use Rattle.isdb_tlv.proofs.Guards.{either}
use Rattle.isdb_mmt.specs.Decoder.Packet.{Bytes}
use Rattle.isdb_mmt.specs.Formats.Part.{part_of}
use Rattle.isdb_mmt.specs.Decoder.Maps.{find}
use Rattle.isdb_mmt.specs.Decoder.Kept.{parses_as, mpt_parses, plt_parses, tot_parses}
use Rattle.isdb_mmt.specs.Formats.Mpt.{mpt_of, service_id_of, assets_from}
use Rattle.isdb_mmt.specs.Formats.Plt.{plt_of}
use Rattle.isdb_mmt.specs.Formats.Tot.{tot_of}
use Rattle.isdb_mmt.specs.Memory.Layout.{control_places, control_size, section_places, section_size}
use Rattle.isdb_mmt.specs.Memory.Lent.{part, names_from, found_from, among}
use Rattle.isdb_mmt.specs.Memory.Session.{Session, limits_of, used_of, latest_of, control_place_of, control_at, section_place_of, section_at}
use Rattle.isdb_mmt.specs.Memory.Check.{controls_in, sections_in, control_sound, section_sound, lengths_of, sound, Sound}
use Rattle.isdb_mmt.specs.Decoder.Model.{Control as ControlState}
use Rattle.isdb_mmt.specs.Memory.View.{given, control_state_in, view_by, view}
use Rattle.isdb_mmt.specs.Answers.Readings.{area_part, section_found, section_part, control_found, mpt_at, mpt_part, plt_part, tot_part, table_if, table_read, table_id_of_key, section_read, mpt_read, plt_read, tot_read, control_names, ascending, first_carried, carried, asset_in, asset_if, asset_among, asset_read, told_by}
use Rattle.isdb_mmt.specs.Answers.ReadingLaws.{names_in, rises, InOrder}
use Rattle.isdb_mmt.specs.Answers.TableReadingLaws.{says_of, section_bytes, mpt_bytes, Inside, Reads, TablesAreTold, SaysAsset, says_asset, carried_by, mpt_says, kept_says, carried_among, InsideMpt, AssetRead, CarriedAssets, Passes, PassedBelow, AnswerIs, FirstCarriers}
use Rattle.isdb_mmt.specs.declared.part.Part.{Part}
use Rattle.isdb_mmt.specs.declared.table.mpt.Asset.{Asset}
use Rattle.isdb_mmt.specs.declared.table.mpt.Mpt.{Mpt}
use Rattle.isdb_mmt.specs.declared.decoder.limits.Limits.{Limits}
use Rattle.isdb_mmt.specs.declared.decoder.control.Control.{Control}
use Rattle.isdb_mmt.proofs.Guards.{was_both}
use Rattle.isdb_mmt.proofs.Names.{true_not_false}
use Rattle.isdb_mmt.proofs.PlacesFor.{control_names_lem, none_some}
use Rattle.isdb_mmt.proofs.MessageLeaves.{in_table}
use Rattle.isdb_mmt.proofs.Said.{control_at_place, kept_entry, control_found_lem, section_found_lem}
use Rattle.isdb_mmt.proofs.Readings.{names_told}
use Rattle.isdb_mmt.proofs.Checks.{sound_session, place_was, section_was, control_was}
use Rattle.isdb_mmt.proofs.KeptParts.{found_in_use}

-- ---- a part that may be there, and its bytes

abbrev bytes_in : Bytes → StdOption Part → Option Bytes
bytes_in b None = None
bytes_in b (Some p) = Some (part_of b p)

abbrev Within : Bytes → StdOption Part → Type 0
Within b None = Unit {0}
Within b (Some p) = p.start + p.length ≤ length b

says_so : (parses : Bytes → Bool) (b : Bytes) (o : StdOption Part) → told_by b (table_if parses b o) ≡ says_of parses (bytes_in b o)
says_so parses b None = refl
says_so parses b (Some p) = either (parses (part_of b p)) (λ t. rw t refl) (λ f. rw f refl)

stays_inside : (parses : Bytes → Bool) (b : Bytes) (o : StdOption Part) → Within b o → Inside b (table_if parses b o)
stays_inside parses b None h = tt
stays_inside parses b (Some p) h = either (parses (part_of b p)) (λ t. rw t h) (λ f. rw f tt)

module _ (s : Session) (ok : sound s ≡ true) where
  abbrev facts : Sound s.state s.others (lengths_of s)
  facts = sound_session s ok

  abbrev l : Limits
  l = limits_of s.state

  reads : (parses : Bytes → Bool) (o : StdOption Part) (v : Option Bytes) → bytes_in s.tables o ≡ v → Within s.tables o
      → Reads s.tables (table_read s parses o) parses v
  reads parses o v e w =
      record {
        says = rw ok (says_so parses s.tables o ∙ ap (says_of parses) e);
        inside = rw ok (stays_inside parses s.tables o w);
      }

  -- ---- a section
  module _ (k : ℕ) where
    section_of_lem : (r : Option ℕ) → bytes_in s.tables (section_part s r) ≡ section_bytes (kept_entry s r)
    section_of_lem None = refl
    section_of_lem (Some i) = refl

    section_view : bytes_in s.tables (section_part s (section_found s k)) ≡ section_bytes (find k (view s).store.kept)
    section_view = section_of_lem (section_found s k) ∙ sym (ap section_bytes (section_found_lem s k))

    section_within : (r : Option ℕ) → section_found s k ≡ r → Within s.tables (section_part s r)
    unfolding section_found sections_in
    section_within None e = tt
    section_within (Some i) e =
        let u : i < (used_of s.state).sections =
        found_in_use section_size (used_of s.state).sections section_places k s.state (found_from 0 (names_from (used_of s.state).sections section_size section_places s.state) k) refl i e in
        in_table s facts i (section_at s.state i).length (omega (arith, facts.sections))
        (section_was l (section_at s.state i)
        (place_was (section_sound l) section_place_of (used_of s.state).sections section_size section_places s.state i facts.kept u))

    pub section_read_lem : Reads s.tables (section_read s k) (parses_as (table_id_of_key k)) (section_bytes (find k (view s).store.kept))
    unfolding section_read
    section_read_lem =
        reads (parses_as (table_id_of_key k)) (section_part s (section_found s k)) (section_bytes (find k (view s).store.kept)) section_view
        (section_within (section_found s k) refl)

  -- ---- an MPT
  module _ (id : ℕ) where
    at_place : (i : ℕ) (c : Control) (m : Bytes) → bytes_in s.tables (mpt_at l i c) ≡ mpt_bytes (Some (control_state_in c m (part ((l.sections + i) * l.table_area) c.mpt_length s.tables)))
    unfolding control_state_in
    at_place i c m = either c.mpt (λ t. rw t refl) (λ f. rw f refl)

    mpt_of_lem : (r : Option ℕ) → bytes_in s.tables (mpt_part s r) ≡ mpt_bytes (control_at_place s r)
    mpt_of_lem None = refl
    mpt_of_lem (Some i) =
        at_place i (control_at s.state i) (part (i * l.message_area) (control_at s.state i).length s.messages)

    mpt_view : bytes_in s.tables (mpt_part s (control_found s id)) ≡ mpt_bytes (find id (view s).controls)
    mpt_view = mpt_of_lem (control_found s id) ∙ sym (ap mpt_bytes (control_found_lem s id))

    place_within : (i : ℕ) → i < l.control_ids → (c : Control) → (c.mpt ≡ true → c.mpt_length ≤ l.table_area) → Within s.tables (mpt_at l i c)
    place_within i h c f =
        either c.mpt (λ t. rw t (in_table s facts (l.sections + i) c.mpt_length (omega arith) (f t))) (λ n. rw n tt)

    mpt_within : (r : Option ℕ) → control_found s id ≡ r → Within s.tables (mpt_part s r)
    unfolding control_found controls_in
    mpt_within None e = tt
    mpt_within (Some i) e =
        let u : i < (used_of s.state).control_ids =
        found_in_use control_size (used_of s.state).control_ids control_places id s.state (found_from 0 (names_from (used_of s.state).control_ids control_size control_places s.state) id) refl i e in
        place_within i (omega (arith, facts.controls)) (control_at s.state i)
        (control_was l (control_at s.state i)
        (place_was (control_sound l) control_place_of (used_of s.state).control_ids control_size control_places s.state i facts.messages u)).1

    pub mpt_read_lem : Reads s.tables (mpt_read s id) (λ b. mpt_parses (mpt_of b).mpt) (mpt_bytes (find id (view s).controls))
    unfolding mpt_read
    mpt_read_lem =
        reads (λ b. mpt_parses (mpt_of b).mpt) (mpt_part s (control_found s id)) (mpt_bytes (find id (view s).controls)) mpt_view
        (mpt_within (control_found s id) refl)

  -- ---- the PLT and the TOT
  given_part : (t : Bool) (p : Part) → bytes_in s.tables (then_some t p) ≡ given t (part_of s.tables p)
  given_part true p = refl
  given_part false p = refl

  given_within : (t : Bool) (i n : ℕ) → i < l.sections + l.control_ids + 2 → (t ≡ true → n ≤ l.table_area) → Within s.tables (then_some t (area_part l i n))
  given_within true i n h f = in_table s facts i n h (f refl)
  given_within false i n h f = tt

  pub plt_read_lem : Reads s.tables (plt_read s) (λ b. plt_parses (plt_of b)) (view s).store.plt
  unfolding plt_read view view_by
  plt_read_lem =
      reads (λ b. plt_parses (plt_of b)) (plt_part s) (view s).store.plt
      (given_part (latest_of s.state).plt (area_part l (l.sections + l.control_ids) (latest_of s.state).plt_length))
      (given_within (latest_of s.state).plt (l.sections + l.control_ids) (latest_of s.state).plt_length (omega arith) facts.plt)

  pub tot_read_lem : Reads s.tables (tot_read s) (λ b. tot_parses (tot_of b).result) (view s).store.tot
  unfolding tot_read view view_by
  tot_read_lem =
      reads (λ b. tot_parses (tot_of b).result) (tot_part s) (view s).store.tot
      (given_part (latest_of s.state).tot (area_part l (l.sections + l.control_ids + 1) (latest_of s.state).tot_length))
      (given_within (latest_of s.state).tot (l.sections + l.control_ids + 1) (latest_of s.state).tot_length (omega arith) facts.tot)

pub kept_tables : TablesAreTold
kept_tables s ok =
    record {
      section = section_read_lem s ok;
      mpt = mpt_read_lem s ok;
      plt = plt_read_lem s ok;
      tot = tot_read_lem s ok;
    }

-- ---- the asset that a packet id carries

module _ (p id : ℕ) (tables : Bytes) (rest : Result (StdOption CarriedAsset) Refusal) where
  says_carried : (m : Part) (v : Option ℕ) (o : StdOption Asset) → says_asset tables (carried id m v o rest) ≡ carried_by id (part_of tables m) v o (says_asset tables rest)
  says_carried m v None = refl
  says_carried m v (Some a) = refl

  says_mpt : (m : Part) (t : Option Mpt) → says_asset tables (asset_in p id m (part_of tables m) t rest) ≡ mpt_says p id (part_of tables m) t (says_asset tables rest)
  says_mpt m None = refl
  says_mpt m (Some t) =
      says_carried m (service_id_of (part_of tables m) t.package_id) (first_carried p (part_of tables m) (assets_from t.assets (part_of tables m) t.start).found)

  says_kept : (o : StdOption Part) → says_asset tables (asset_if p tables id o rest) ≡ kept_says p id (bytes_in tables o) (says_asset tables rest)
  says_kept None = refl
  says_kept (Some m) = says_mpt m (mpt_of (part_of tables m)).mpt

  module _ (r : InsideMpt tables rest) where
    inside_carried : (m : Part) → m.start + m.length ≤ length tables → (v : Option ℕ) (o : StdOption Asset) → InsideMpt tables (carried id m v o rest)
    inside_carried m w v None = r
    inside_carried m w v (Some a) = w

    inside_mpt : (m : Part) → m.start + m.length ≤ length tables → (t : Option Mpt) → InsideMpt tables (asset_in p id m (part_of tables m) t rest)
    inside_mpt m w None = tt
    inside_mpt m w (Some t) =
        inside_carried m w (service_id_of (part_of tables m) t.package_id) (first_carried p (part_of tables m) (assets_from t.assets (part_of tables m) t.start).found)

    inside_kept : (o : StdOption Part) → Within tables o → InsideMpt tables (asset_if p tables id o rest)
    inside_kept None w = r
    inside_kept (Some m) w = inside_mpt m w (mpt_of (part_of tables m)).mpt

module _ (s : Session) (ok : sound s ≡ true) (p : ℕ) where
  says_among : (ids : List ℕ) → says_asset s.tables (asset_among s p ids) ≡ carried_among p (view s).controls ids
  unfolding asset_among carried_among
  says_among [] = refl
  says_among (id ∷ ids) =
      says_kept p id s.tables (asset_among s p ids) (mpt_part s (control_found s id))
      ∙ ap (λ (o : Option Bytes). kept_says p id o (says_asset s.tables (asset_among s p ids))) (mpt_view s ok id)
      ∙ ap (kept_says p id (mpt_bytes (find id (view s).controls))) (says_among ids)

  inside_among : (ids : List ℕ) → InsideMpt s.tables (asset_among s p ids)
  unfolding asset_among
  inside_among [] = tt
  inside_among (id ∷ ids) =
      inside_kept p id s.tables (asset_among s p ids) (inside_among ids) (mpt_part s (control_found s id)) (mpt_within s ok id (control_found s id) refl)

  ids_are : control_names s ≡ names_in (view s).controls
  unfolding view view_by
  ids_are = sym (control_names_lem s)

  pub asset_told_lem : AssetRead s p
  unfolding asset_read
  asset_told_lem =
      record {
        says = rw ok (says_among (ascending (control_names s)) ∙ ap (λ (ns : List ℕ). carried_among p (view s).controls (ascending ns)) ids_are);
        inside = rw ok (inside_among (ascending (control_names s)));
      }

pub carried_assets : CarriedAssets
carried_assets s ok p = asset_told_lem s ok p

-- ---- of the MPTs in ascending order, the first that is not passed

some_same : {A : Type 0} (x y : A) → Some x ≡ Some y → x ≡ y
some_same x y e = cc

above_these : (c j : ℕ) (ids : List ℕ) → rises c ids ≡ true → among j ids ≡ true → c ≤ j
unfolding rises among
above_these c j [] r m = true_not_false false m refl
above_these c j (x ∷ ids) r m =
    let q = was_both (leb c x) (rises (x + 1) ids) r in
    let b = leb-true c x q.0 in
    either (eqb x j) (λ t. omega (arith, eqb-true x j t)) (λ f. omega (arith, above_these (x + 1) j ids q.1 (rw f at m)))

kept_named : (m : List (ℕ × ControlState)) (j : ℕ) (b : Bytes) → mpt_bytes (find j m) ≡ Some b → among j (names_in m) ≡ true
unfolding find among
kept_named [] j b e = absurd (none_some b e)
kept_named (x ∷ m) j b e =
    either (eqb x.0 j) (λ t. rw t refl)
    (λ f. let g : eqb j x.0 ≡ false = ne_eqb j x.0 (λ q. eqb-false x.0 j f (sym q)) in rw f (kept_named m j b (rw g at e)))

module _ (p : ℕ) (m : List (ℕ × ControlState)) where
  -- those from `a` on stand in a list
  abbrev Listed : ℕ → List ℕ → Type 0
  Listed a ids = (j : ℕ) (b : Bytes) → mpt_bytes (find j m) ≡ Some b → a ≤ j → among j ids ≡ true

  module _ (a x : ℕ) (ids : List ℕ) (r : rises a (x ∷ ids) ≡ true) (below : PassedBelow p m a) (listed : Listed a (x ∷ ids)) where
    rise : (a ≤ x) × (rises (x + 1) ids ≡ true)
    unfolding rises
    rise = let q = was_both (leb a x) (rises (x + 1) ids) r in (leb-true a x q.0, q.1)

    listed_on : Listed (x + 1) ids
    unfolding among
    listed_on j b e h =
        let f : eqb x j ≡ false = ne_eqb x j (λ q. omega arith) in
        rw f at (listed j b e (omega (arith, rise.0)))

    below_this : PassedBelow p m x
    unfolding among
    below_this j b h e =
        either (ltb j a) (λ t. below j b (ltb-true j a t) e)
        (λ f.
        let g : eqb x j ≡ false = ne_eqb x j (λ q. omega arith) in
        let k : among j ids ≡ true = rw g at (listed j b e (ltb-false j a f)) in
        absurd (omega (arith, above_these (x + 1) j ids rise.1 k)))

    below_next : ((b : Bytes) → mpt_bytes (find x m) ≡ Some b → Passes p b) → PassedBelow p m (x + 1)
    below_next f j b h e =
        either (eqb j x) (λ t. let q : j ≡ x = eqb-true j x t in f b (rw q at e))
        (λ n. below_this j b (lt_of_le-ne (omega arith) (eqb-false j x n)) e)

    -- from what the MPTs behind this one say
    module _ (rest : SaysAsset) (on : ((b : Bytes) → mpt_bytes (find x m) ≡ Some b → Passes p b) → AnswerIs p m rest) where
      of_asset : (b : Bytes) → mpt_bytes (find x m) ≡ Some b → (t : Mpt) → (mpt_of b).mpt ≡ Some t → (o : StdOption Asset)
          → first_carried p b (assets_from t.assets b t.start).found ≡ o
          → AnswerIs p m (carried_by x b (service_id_of b t.package_id) o rest)
      of_asset b e t d None q =
          on (λ c g. let z : b ≡ c = some_same b c (sym e ∙ g) in subst (Passes p) z (record { mpt = t; parses = d; none = q }))
      of_asset b e t d (Some y) q =
          record { kept = e; mpt = t; parses = d; service = refl; asset = q; before = below_this }

      of_mpt : (b : Bytes) → mpt_bytes (find x m) ≡ Some b → (t : Option Mpt) → (mpt_of b).mpt ≡ t → AnswerIs p m (mpt_says p x b t rest)
      of_mpt b e None d = (refl, record { id = x; bytes = b; kept = e; broken = d; before = below_this })
      of_mpt b e (Some t) d =
          of_asset b e t d (first_carried p b (assets_from t.assets b t.start).found) refl

      of_kept : (o : Option Bytes) → mpt_bytes (find x m) ≡ o → AnswerIs p m (kept_says p x o rest)
      of_kept None e = on (λ b g. absurd (none_some b (sym e ∙ g)))
      of_kept (Some b) e = of_mpt b e (mpt_of b).mpt refl

  answer : (a : ℕ) (ids : List ℕ) → rises a ids ≡ true → PassedBelow p m a → Listed a ids → AnswerIs p m (carried_among p m ids)
  unfolding carried_among among
  answer a [] r below listed = λ id b e. either (ltb id a) (λ t. below id b (ltb-true id a t) e) (λ f. true_not_false false (listed id b e (ltb-false id a f)) refl)
  answer a (x ∷ ids) r below listed =
      of_kept a x ids r below listed (carried_among p m ids)
      (λ f. answer (x + 1) ids (rise a x ids r below listed).1 (below_next a x ids r below listed f) (listed_on a x ids r below listed))
      (mpt_bytes (find x m)) refl

pub first_carriers : FirstCarriers
first_carriers s ok bytes p =
    let v : List (ℕ × ControlState) = (view s).controls in
    let o : InOrder (names_in v) (ascending (names_in v)) =
    subst (λ (ns : List ℕ). InOrder (names_in v) (ascending ns)) (ids_are s ok p) (names_told s ok bytes).controls in
    subst (AnswerIs p v) (sym (asset_told_lem s ok p).says)
    (answer p v 0 (ascending (names_in v)) o.rising (λ j b h e. absurd (omega arith)) (λ j b e h. o.same j ∙ kept_named v j b e))
