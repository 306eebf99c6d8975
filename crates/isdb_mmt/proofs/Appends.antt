-- The data of units written one behind the other: one turn of the walk. Assumes nothing.
use Rattle.std.specs.Prelude.{Option, None, Some, is_some}
use Rattle.std.proofs.Common.{◌≡◌, ℕ, ◌+◌, ◌-◌, ◌*◌, ◌<◌, ◌≤◌, Bool, true, false, List, [], ◌++◌, length, sym, refl, ap, ◌∙◌, arith, length-append, w64, Fits}
use Rattle.isdb_mmt.specs.Formats.Part.{part_of}
use Rattle.isdb_mmt.specs.Decoder.Packet.{Bytes}
use Rattle.isdb_tlv.specs.Walk.{also}
use Rattle.isdb_mmt.specs.Formats.Mpu.{unit_step, units_from, units_of}
use Rattle.isdb_mmt.specs.Memory.Lent.{over}
use Rattle.isdb_mmt.specs.Pushes.MediaCommit.{data_in, units_data, CanAppend}
use Rattle.isdb_mmt.specs.declared.mpu.Unit.{Unit as DataUnit}
use Rattle.isdb_mmt.specs.Formats.Steps.{UnitStep}
use Rattle.isdb_mmt.specs.declared.walk_step.WalkStep.TheVariants.{End, Malformed as not_whole, Entry as found}
use Rattle.isdb_mmt.proofs.Lent.{length_over, over_next, over_none}
use Rattle.isdb_mmt.proofs.Names.{true_not_false}
use Rattle.isdb_mmt.proofs.Units.{units_at, units_also, whole_behind}
use Rattle.isdb_mmt.proofs.MediaEffects.{data_ahead}

module _ (q : Bytes) (timed aggregated : Bool) (from : ℕ) (l₀ : Bytes) where
  abbrev data_at : ℕ → Bytes
  data_at at = units_data q (units_from q timed aggregated at)

  pub record Appending (at k : ℕ) (l : Bytes) : Type 0 where
    pub long : length q ≤ 65537
    pub within : at ≤ 65537
    pub behind : k + 8 ≤ from + at
    pub low : from ≤ 4294967296
    pub whole : is_some (units_from q timed aggregated at) ≡ true
    pub same : length l ≡ length l₀
    pub fits : k + length (data_at at) ≤ length l
    pub rest : over k (data_at at) l ≡ over from (data_at 8) l₀

  pub appending_first : CanAppend q timed aggregated from l₀ → Appending 8 from l₀
  unfolding units_of
  appending_first o =
      record {
        long = o.long;
        within = omega arith;
        behind = omega arith;
        low = o.low;
        whole = o.whole;
        same = refl;
        fits = o.fits;
        rest = refl;
      }

  module _ (at k : ℕ) (l : Bytes) (g : Appending at k l) (x : UnitStep) (ex : x ≡ unit_step q timed aggregated at) where
    pub appending_end : x ≡ End → l ≡ over from (units_data q (units_of q timed aggregated)) l₀
    unfolding units_of units_data data_in
    appending_end e =
        let u : units_from q timed aggregated at ≡ Some [] = rw (units_at q timed aggregated at, ← ex, e) in
        sym (over_none k l)
        ∙ ap (λ (o : Option (List DataUnit)). over k (units_data q o) l) (sym u)
        ∙ g.rest

    pub appending_bad : x ≡ not_whole → l ≡ over from (units_data q (units_of q timed aggregated)) l₀
    appending_bad e =
        let u : units_from q timed aggregated at ≡ None = rw (units_at q timed aggregated at, ← ex, e) in
        true_not_false (is_some (units_from q timed aggregated at)) g.whole (ap is_some u)

    module _ (u : DataUnit) (next : ℕ) (e : x ≡ found u next) where
      abbrev unit_bytes : Bytes
      unit_bytes = part_of q u.«data»

      also_is : units_from q timed aggregated at ≡ also u (units_from q timed aggregated next)
      also_is = units_also q timed aggregated at next u x ex e

      data_cons : (o : Option (List DataUnit)) → is_some (also u o) ≡ true → units_data q (also u o) ≡ unit_bytes ++ units_data q o
      unfolding units_data data_in
      data_cons None h = true_not_false false h refl
      data_cons (Some us) h = refl

      data_next : data_at at ≡ unit_bytes ++ data_at next
      data_next =
          ap (units_data q) also_is ∙ data_cons (units_from q timed aggregated next) (rw also_is at g.whole)

      data_length : length (data_at at) ≡ length unit_bytes + length (data_at next)
      data_length = ap length data_next ∙ length-append unit_bytes (data_at next)

      pub appending_less : length q - next < length q - at
      appending_less = let a = data_ahead q timed aggregated at next u x ex e in omega arith

      module _ (b : Bytes) (eb : b ≡ unit_bytes) where
        pub appending_put : 0 * 0 + k + length b ≤ length l
        appending_put = let n : length b ≡ length unit_bytes = ap length eb in omega (arith, g.fits, data_length)

        pub appending_add : Fits w64 (k + length b)
        appending_add =
            let n : length b ≡ length unit_bytes = ap length eb in
            let a = data_ahead q timed aggregated at next u x ex e in
            record { fits = omega (arith, g.behind, g.within, g.low, g.long, a.0, a.1.1) }

        pub appending_next : (l' : Bytes) → l' ≡ over (0 * 0 + k) b l → Appending next (k + length b) l'
        appending_next l' el =
            let a = data_ahead q timed aggregated at next u x ex e in
            let z : 0 * 0 + k ≡ k = omega arith in
            let n : length b ≡ length unit_bytes = ap length eb in
            let el' : l' ≡ over k unit_bytes l = el ∙ rw (z, eb) in
            let ln : length l' ≡ length l = ap length el' ∙ length_over k unit_bytes l (omega (arith, g.fits, data_length)) in
            let w : over (k + length unit_bytes) (data_at next) l' ≡ over from (data_at 8) l₀ =
            ap (λ (y : Bytes). over (k + length unit_bytes) (data_at next) y) el'
            ∙ over_next k unit_bytes (data_at next) l (omega (arith, g.fits, data_length))
            ∙ ap (λ (y : Bytes). over k y l) (sym data_next)
            ∙ g.rest in
            record {
              long = g.long;
              within = omega (arith, a.1.1, g.long);
              behind = omega (arith, g.behind, a.0, n);
              low = g.low;
              whole = whole_behind u (units_from q timed aggregated next) (rw also_is at g.whole);
              same = ln ∙ g.same;
              fits = omega (arith, g.fits, data_length, ln, n);
              rest = rw n w;
            }
