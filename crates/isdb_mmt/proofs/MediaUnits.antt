-- What the units of a media packet leave in the object's area and hand out, by their fragmentation indicator. Assumes nothing.
use Rattle.std.specs.Prelude.{Option, None, Some, is_some}
use Rattle.std.proofs.Common.{◌≡◌, ℕ, ◌+◌, ◌≤◌, max, Bool, true, false, cond, leb, List, [], ◌∷◌, ◌++◌, map, length, sym, refl, ap, ◌∙◌, subst, append_assoc, append-nil, arith, leb-true}
use Rattle.isdb_mmt.specs.Formats.Part.{part_of}
use Rattle.isdb_mmt.specs.Decoder.Packet.{Bytes, PayloadUnit, MpuPacket}
use Rattle.isdb_mmt.specs.Decoder.Objects.{Mfu, Asset, UnitEffect, most_object, grown, continued, effect_of, unit_effect, after_unit, object_of, after_units, delivered_by}
use Rattle.isdb_mmt.specs.Decoder.Needs.{held_length, unit_area, units_need}
use Rattle.isdb_mmt.specs.Memory.Lent.{over}
use Rattle.isdb_mmt.specs.Pushes.Records.{object_for}
use Rattle.isdb_mmt.specs.Pushes.MediaPush.{held_over}
use Rattle.isdb_mmt.specs.Pushes.MediaEffect.{with_unit, with_each_unit, head_unit, grown_to, dropped_unit}
use Rattle.isdb_mmt.specs.Pushes.MediaCommit.{data_in}
use Rattle.isdb_mmt.specs.declared.mpu.FragmentationIndicator.{FragmentationIndicator}
use Rattle.isdb_mmt.specs.declared.mpu.FragmentationIndicator.TheVariants.{Complete, Head, Middle, Last}
use Rattle.isdb_mmt.specs.declared.mpu.Unit.{Unit as DataUnit}
use Rattle.isdb_mmt.specs.declared.decoder.reassembler.MediaEffect.{MediaEffect}
use Rattle.isdb_mmt.proofs.Names.{true_not_false}
use Rattle.isdb_mmt.proofs.EffectsModelled.{object_as, grown_none, grown_some}
use Rattle.isdb_mmt.proofs.Fits.{mild}

abbrev pub unit_as : FragmentationIndicator → Bytes → DataUnit → PayloadUnit
unit_as f q u = record { fragment = f; mfu = u.mfu; item_id = u.item_id; bytes = part_of q u.«data» }

-- ---- what is held is no longer than the needs

did_held : (m : MpuPacket) (a : Asset) (u : PayloadUnit) → held_length (after_unit a (unit_effect m a u)).held ≤ unit_area u.fragment (unit_effect m a u)
unfolding unit_effect after_unit
did_held m a u = (mild u.fragment a.held (object_of m u)).held

pub units_held : (m : MpuPacket) (us : List PayloadUnit) (a : Asset) → held_length (after_units m a us).held ≤ max (held_length a.held) (units_need m a us)
unfolding after_units units_need
units_held m [] a = omega arith
units_held m (u ∷ us) a =
    let d = unit_effect m a u in
    let i = units_held m us (after_unit a d) in
    let k : held_length (after_unit a d).held ≤ unit_area u.fragment d = did_held m a u in
    omega arith

module _ (m : MpuPacket) (q : Bytes) (at : ℕ) (l : Bytes) where
  -- ---- Complete: an object that is held is dropped, its bytes stay
  pub complete_held : (us : List DataUnit) (a : Asset) → held_over at a.held l ≡ l
      → held_over at (after_units m a (map (unit_as Complete q) us)).held l ≡ l
  unfolding after_units unit_effect after_unit effect_of
  complete_held [] a e = e
  complete_held (u ∷ us) a e = complete_held us (after_unit a (unit_effect m a (unit_as Complete q u))) refl

  -- ---- Head: the last unit's data are held
  pub head_gives : (us : List DataUnit) (a : Asset) → delivered_by m a (map (unit_as Head q) us) ≡ []
  unfolding delivered_by unit_effect after_unit effect_of
  head_gives [] a = refl
  head_gives (u ∷ us) a = head_gives us (after_unit a (unit_effect m a (unit_as Head q u)))

  pub head_held : (mpu : ℕ) (rap : Bool) (us : List DataUnit) (a : Asset) (t : MediaEffect) → held_over at a.held l ≡ over at (part_of q t.last) l
      → held_over at (after_units m a (map (unit_as Head q) us)).held l ≡ over at (part_of q (with_each_unit Head mpu rap q t us).last) l
  unfolding after_units unit_effect after_unit effect_of object_of with_each_unit with_unit head_unit
  head_held mpu rap [] a t e = e
  head_held mpu rap (u ∷ us) a t e =
      head_held mpu rap us (after_unit a (unit_effect m a (unit_as Head q u))) (with_unit Head mpu rap t u (length (part_of q u.«data»))) refl

  pub head_fits : (mpu : ℕ) (rap : Bool) (us : List DataUnit) (t : MediaEffect) → length (part_of q t.last) ≤ t.longest
      → length (part_of q (with_each_unit Head mpu rap q t us).last) ≤ (with_each_unit Head mpu rap q t us).longest
  unfolding with_each_unit with_unit head_unit
  head_fits mpu rap [] t e = e
  head_fits mpu rap (u ∷ us) t e = head_fits mpu rap us (with_unit Head mpu rap t u (length (part_of q u.«data»))) (omega arith)

  -- ---- Middle: each unit's data behind what is held
  no_outs : (o : Option Mfu) (g : Mfu) → (effect_of Middle o g).outs ≡ []
  unfolding effect_of continued
  no_outs None g = refl
  no_outs (Some h) g = go (leb (length h.bytes + length g.bytes) most_object) (grown h g.bytes)
    where
      go : (b : Bool) (x : Mfu) → (continued b false x).outs ≡ []
      go true x = refl
      go false x = refl

  pub middle_gives : (us : List DataUnit) (a : Asset) → delivered_by m a (map (unit_as Middle q) us) ≡ []
  unfolding delivered_by unit_effect
  middle_gives [] a = refl
  middle_gives (u ∷ us) a =
      let a1 : Asset = after_unit a (unit_effect m a (unit_as Middle q u)) in
      ap (λ (ds : List Mfu). ds ++ delivered_by m a1 (map (unit_as Middle q) us)) (no_outs a.held (object_of m (unit_as Middle q u)))
      ∙ middle_gives us a1

  pub middle_none : (us : List DataUnit) (a : Asset) → a.held ≡ None → (after_units m a (map (unit_as Middle q) us)).held ≡ None
  unfolding after_units unit_effect after_unit effect_of
  middle_none [] a e = e
  middle_none (u ∷ us) a e =
      middle_none us (after_unit a (unit_effect m a (unit_as Middle q u)))
      (ap (λ (o : Option Mfu). (effect_of Middle o (object_of m (unit_as Middle q u))).held) e)

  pub middle_held : (us : List DataUnit) (a : Asset) (g : Mfu) → a.held ≡ Some g → is_some (after_units m a (map (unit_as Middle q) us)).held ≡ true
      → (after_units m a (map (unit_as Middle q) us)).held ≡ Some (grown g (data_in q us))
  unfolding after_units unit_effect after_unit effect_of object_of continued grown data_in
  middle_held [] a g e h =
      e ∙ (λ i. Some (record { mpu = g.mpu; rap = g.rap; mfu = g.mfu; item_id = g.item_id; bytes = sym (append-nil g.bytes) i }))
  middle_held (u ∷ us) a g e h =
      go (leb (length g.bytes + length (part_of q u.«data»)) most_object)
      (ap (λ (o : Option Mfu). (effect_of Middle o (object_of m (unit_as Middle q u))).held) e)
      (λ k. middle_held us (after_unit a (unit_effect m a (unit_as Middle q u))) (grown g (part_of q u.«data»)) k h)
    where
      go : (b : Bool) → (after_unit a (unit_effect m a (unit_as Middle q u))).held ≡ (continued b false (grown g (part_of q u.«data»))).held
          → ((after_unit a (unit_effect m a (unit_as Middle q u))).held ≡ Some (grown g (part_of q u.«data»))
          → (after_units m (after_unit a (unit_effect m a (unit_as Middle q u))) (map (unit_as Middle q) us)).held ≡ Some (grown (grown g (part_of q u.«data»)) (data_in q us)))
          → (after_units m (after_unit a (unit_effect m a (unit_as Middle q u))) (map (unit_as Middle q) us)).held ≡ Some (grown g (part_of q u.«data» ++ data_in q us))
      go true k again =
          again k
          ∙ (λ i.
          Some (record {
            mpu = g.mpu;
            rap = g.rap;
            mfu = g.mfu;
            item_id = g.item_id;
            bytes = append_assoc g.bytes (part_of q u.«data») (data_in q us) i;
          }))
      go false k again = true_not_false true refl (sym h ∙ ap is_some (middle_none us (after_unit a (unit_effect m a (unit_as Middle q u))) k))

  -- ---- Last: the first unit ends what is held
  last_quiet : (mpu : ℕ) (rap : Bool) (us : List DataUnit) (t : MediaEffect) → t.object ≡ None → with_each_unit Last mpu rap q t us ≡ t
  unfolding with_each_unit with_unit
  last_quiet mpu rap [] t e = refl
  last_quiet mpu rap (u ∷ us) t e =
      ap (λ (x : MediaEffect). with_each_unit Last mpu rap q x us) (grown_none true t u.«data» (length (part_of q u.«data»)) e)
      ∙ last_quiet mpu rap us t e

  last_none : (us : List DataUnit) (a : Asset) → a.held ≡ None
      → (delivered_by m a (map (unit_as Last q) us) ≡ []) × ((after_units m a (map (unit_as Last q) us)).held ≡ None)
  unfolding delivered_by after_units unit_effect after_unit effect_of
  last_none [] a e = (refl, e)
  last_none (u ∷ us) a e =
      let a1 : Asset = after_unit a (unit_effect m a (unit_as Last q u)) in
      let d : UnitEffect = unit_effect m a (unit_as Last q u) in
      let k : a1.held ≡ None = ap (λ (o : Option Mfu). (effect_of Last o (object_of m (unit_as Last q u))).held) e in
      let z : d.outs ≡ [] = ap (λ (o : Option Mfu). (effect_of Last o (object_of m (unit_as Last q u))).outs) e in
      let i = last_none us a1 k in
      (ap (λ (ds : List Mfu). ds ++ delivered_by m a1 (map (unit_as Last q) us)) z ∙ i.0, i.1)

  last_ends : (o : Option Mfu) (g : Mfu) → (effect_of Last o g).held ≡ None
  unfolding effect_of continued
  last_ends None g = refl
  last_ends (Some h) g = go (leb (length h.bytes + length g.bytes) most_object) (grown h g.bytes)
    where
      go : (b : Bool) (x : Mfu) → (continued b true x).held ≡ None
      go true x = refl
      go false x = refl

  pub last_held : (us : List DataUnit) (a : Asset) → held_over at a.held l ≡ l → held_over at (after_units m a (map (unit_as Last q) us)).held l ≡ l
  unfolding after_units unit_effect after_unit
  last_held [] a e = e
  last_held (u ∷ us) a e =
      let a1 : Asset = after_unit a (unit_effect m a (unit_as Last q u)) in
      ap (λ (o : Option Mfu). held_over at o l) (last_none us a1 (last_ends a.held (object_of m (unit_as Last q u)))).1

  -- `r` is the effect after them
  pub record Ended (us : List DataUnit) (a : Asset) (t r : MediaEffect) : Type 0 where
    pub object : Mfu
    pub was : a.held ≡ Some object
    pub gives : delivered_by m a (map (unit_as Last q) us) ≡ grown object (part_of q r.last) ∷ []
    pub bytes : r.bytes ≡ t.bytes + (length object.bytes + length (part_of q r.last))
    pub most : length object.bytes + length (part_of q r.last) ≤ most_object

  last_turn : (mpu : ℕ) (rap : Bool) (u : DataUnit) (us : List DataUnit) (a : Asset) (t : MediaEffect) (g : Mfu) → a.held ≡ Some g → t.object ≡ Some (object_for g)
      → t.records ≡ 0 → ((with_each_unit Last mpu rap q t (u ∷ us)).records ≡ 0 → ⊥)
      → Ended (u ∷ us) a t (with_each_unit Last mpu rap q t (u ∷ us))
  unfolding with_each_unit with_unit delivered_by unit_effect after_unit effect_of object_of continued grown_to dropped_unit
  last_turn mpu rap u us a t g e eo z ne = go (leb (length g.bytes + length d) most_object) refl
    where
      d : Bytes
      d = part_of q u.«data»

      after : MediaEffect
      after = with_unit Last mpu rap t u (length d)

      turned : after ≡ cond (leb (length g.bytes + length d) most_object) (grown_to true (object_for g) t u.«data» (length g.bytes + length d)) (dropped_unit t u.«data»)
      turned = grown_some true t u.«data» (length d) (object_for g) eo

      next : Asset
      next = after_unit a (unit_effect m a (unit_as Last q u))

      gone : next.held ≡ None
      gone = last_ends a.held (object_of m (unit_as Last q u))

      outs : (unit_effect m a (unit_as Last q u)).outs ≡ (continued (leb (length g.bytes + length d) most_object) true (grown g d)).outs
      outs = ap (λ (o : Option Mfu). (effect_of Last o (object_of m (unit_as Last q u))).outs) e

      go : (b : Bool) → leb (length g.bytes + length d) most_object ≡ b → Ended (u ∷ us) a t (with_each_unit Last mpu rap q after us)
      go true f =
          let w : after ≡ grown_to true (object_for g) t u.«data» (length g.bytes + length d) = rw f at turned in
          let r : with_each_unit Last mpu rap q after us ≡ grown_to true (object_for g) t u.«data» (length g.bytes + length d) =
          ap (λ (x : MediaEffect). with_each_unit Last mpu rap q x us) w ∙ last_quiet mpu rap us (grown_to true (object_for g) t u.«data» (length g.bytes + length d)) refl in
          let y : (unit_effect m a (unit_as Last q u)).outs ≡ grown g d ∷ [] = rw f at outs in
          subst (λ (x : MediaEffect). Ended (u ∷ us) a t x) (sym r)
          (record {
            object = g;
            was = e;
            gives =
                ap (λ (ds : List Mfu). ds ++ delivered_by m next (map (unit_as Last q) us)) y
                ∙ ap (λ (ds : List Mfu). grown g d ∷ ds) (last_none us next gone).0;
            bytes = refl;
            most = leb-true (length g.bytes + length d) most_object f;
          })
      go false f =
          let w : after ≡ dropped_unit t u.«data» = rw f at turned in
          let r : with_each_unit Last mpu rap q after us ≡ dropped_unit t u.«data» =
          ap (λ (x : MediaEffect). with_each_unit Last mpu rap q x us) w ∙ last_quiet mpu rap us (dropped_unit t u.«data») refl in
          absurd (ne (ap (λ (x : MediaEffect). x.records) r ∙ z))

  pub last_given : (mpu : ℕ) (rap : Bool) (us : List DataUnit) (a : Asset) (t : MediaEffect) → t.object ≡ object_as a.held
      → t.records ≡ 0 → ((with_each_unit Last mpu rap q t us).records ≡ 0 → ⊥) → Ended us a t (with_each_unit Last mpu rap q t us)
  unfolding with_each_unit with_unit
  last_given mpu rap [] a t eo z ne = absurd (ne z)
  last_given mpu rap (u ∷ us) a t eo z ne = by_held a.held refl
    where
      by_held : (o : Option Mfu) → a.held ≡ o → Ended (u ∷ us) a t (with_each_unit Last mpu rap q t (u ∷ us))
      by_held None e =
          absurd (ne (ap (λ (x : MediaEffect). x.records) (last_quiet mpu rap (u ∷ us) t (eo ∙ ap object_as e)) ∙ z))
      by_held (Some g) e =
          last_turn mpu rap u us a t g e (eo ∙ ap object_as e) z ne
