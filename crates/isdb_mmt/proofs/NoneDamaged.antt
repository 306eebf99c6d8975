-- Where every kept table parses, its reading hands it out. Assumes nothing.
use Rattle.std.proofs.Common.{◌≡◌, ℕ, Bool, true, eqb, List, [], ◌∷◌, sym, refl, ap, ◌∙◌, subst, eqb-true}
use Rattle.std.specs.Prelude.{Option as StdOption, Result, Err, Option, None, Some}
use Rattle.isdb_mmt.specs.declared.decoder.refusal.Refusal.{Refusal}
use Rattle.isdb_mmt.specs.declared.decoder.readings.CarriedAsset.{CarriedAsset}
use Rattle.isdb_tlv.proofs.Guards.{either}
use Rattle.isdb_mmt.specs.Decoder.Packet.{Bytes}
use Rattle.isdb_mmt.specs.Decoder.Maps.{find}
use Rattle.isdb_mmt.specs.Decoder.Kept.{Kept, parses_as}
use Rattle.isdb_mmt.specs.Decoder.Model.{State, Control}
use Rattle.isdb_mmt.specs.Memory.Session.{Session}
use Rattle.isdb_mmt.specs.Memory.Check.{sound}
use Rattle.isdb_mmt.specs.Memory.View.{view}
use Rattle.isdb_mmt.specs.Memory.Octets.{Lent}
use Rattle.isdb_mmt.specs.Answers.Readings.{table_id_of_key, asset_read}
use Rattle.isdb_mmt.specs.Answers.TableReadingLaws.{says_of, hands_out, section_bytes, mpt_bytes, says_asset, AnswerIs, Damaged, AsKept}
use Rattle.isdb_mmt.proofs.Names.{true_not_false}
use Rattle.isdb_mmt.proofs.PlacesFor.{none_some}
use Rattle.isdb_mmt.proofs.Every.{Every}
use Rattle.isdb_mmt.proofs.Stores.{Parses, mpt_good_lem, plt_good_lem, tot_good_lem, KeptParses}
use Rattle.isdb_mmt.proofs.Ready.{ControlParses, Ready}
use Rattle.isdb_mmt.proofs.TableReadings.{kept_tables, first_carriers}

-- ---- what is kept parses

every_find : {A : Type 0} (P : ℕ → A → Type 0) (m : List (ℕ × A)) → Every P m → (k : ℕ) (a : A) → find k m ≡ Some a → P k a
unfolding find
every_find P [] h k a e = absurd (none_some a e)
every_find P (x ∷ m) h k a e =
    either (eqb k x.0)
    (λ t.
    let q : x.1 ≡ a = cc (rw t at e) in
    subst (λ j. P j a) (sym (eqb-true k x.0 t)) (subst (P x.0) q h.0))
    (λ f. every_find P m h.1 k a (rw f at e))

abbrev Good : (Bytes → Bool) → Option Bytes → Type 0
Good parses o = (b : Bytes) → o ≡ Some b → parses b ≡ true

handed_whole : (parses : Bytes → Bool) (o : Option Bytes) → Good parses o → says_of parses o ≡ hands_out o
handed_whole parses None h = refl
handed_whole parses (Some b) h = rw (h b refl) refl

parsed_good : (parses : Bytes → Bool) (o : Option Bytes) → Parses parses o → Good parses o
parsed_good parses None h b e = absurd (none_some b e)
parsed_good parses (Some x) h b e = let q : x ≡ b = cc in subst (λ (y : Bytes). parses y ≡ true) q h

-- a state of the model whose tables parse, as packets leave it
module _ (v : State) (n : ℕ) (r : Ready n v) where
  section_good : (k : ℕ) → Good (parses_as (table_id_of_key k)) (section_bytes (find k v.store.kept))
  section_good k = go (find k v.store.kept) refl
    where
      go : (o : Option Kept) → find k v.store.kept ≡ o → Good (parses_as (table_id_of_key k)) (section_bytes o)
      go None f b e = absurd (none_some b e)
      go (Some x) f b e =
          let q : x.bytes ≡ b = cc in
          subst (λ (y : Bytes). parses_as (table_id_of_key k) y ≡ true) q
          (every_find KeptParses v.store.kept r.store.kept k x f)

  mpt_good : (id : ℕ) → Good mpt_good_lem (mpt_bytes (find id v.controls))
  mpt_good id = go (find id v.controls) refl
    where
      go : (o : Option Control) → find id v.controls ≡ o → Good mpt_good_lem (mpt_bytes o)
      go None f = λ b e. absurd (none_some b e)
      go (Some c) f =
          parsed_good mpt_good_lem c.mpt (every_find ControlParses v.controls r.controls id c f)

  undamaged : (p : ℕ) → Damaged p v.controls → ⊥
  undamaged p d = true_not_false (mpt_good_lem d.bytes) (mpt_good d.id d.bytes d.kept) (rw d.broken refl)

  -- a session that holds this state
  pub as_kept : (s : Session) → sound s ≡ true → Lent s → view s ≡ v → AsKept s v
  as_kept s ok h e =
      let k = kept_tables s ok in
      record {
        section =
            λ i.
            (k.section i).says
            ∙ ap (λ (w : State). says_of (parses_as (table_id_of_key i)) (section_bytes (find i w.store.kept))) e
            ∙ handed_whole (parses_as (table_id_of_key i)) (section_bytes (find i v.store.kept)) (section_good i);
        mpt =
            λ i.
            (k.mpt i).says
            ∙ ap (λ (w : State). says_of mpt_good_lem (mpt_bytes (find i w.controls))) e
            ∙ handed_whole mpt_good_lem (mpt_bytes (find i v.controls)) (mpt_good i);
        plt =
            k.plt.says
            ∙ ap (λ (w : State). says_of plt_good_lem w.store.plt) e
            ∙ handed_whole plt_good_lem v.store.plt (parsed_good plt_good_lem v.store.plt r.store.plt);
        tot =
            k.tot.says
            ∙ ap (λ (w : State). says_of tot_good_lem w.store.tot) e
            ∙ handed_whole tot_good_lem v.store.tot (parsed_good tot_good_lem v.store.tot r.store.tot);
        asset =
            λ p n d.
            let a : AnswerIs p (view s).controls (says_asset s.tables (asset_read s p)) = first_carriers s ok h.state p in
            let b : AnswerIs p (view s).controls (says_asset s.tables (Err n)) =
            subst (λ (z : Result (StdOption CarriedAsset) Refusal). AnswerIs p (view s).controls (says_asset s.tables z)) d a in
            undamaged p (subst (λ (w : State). Damaged p w.controls) e b.1);
      }
