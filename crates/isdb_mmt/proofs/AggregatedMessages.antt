-- The messages of an aggregated control payload and the tables of a PA message: each leads on to a place ahead and lies within
-- the bytes, so that steps from one to the next go over all of them. Assumes nothing.
use Rattle.std.proofs.Common.{◌≡◌, ℕ, ◌+◌, ◌-◌, ◌%◌, ◌^◌, ◌≤◌, Bool, true, false, ltb, List, [], length, get_or, refl, ◌∙◌, arith, w8, Fits, ltb-false}
use Rattle.isdb_tlv.specs.Bytes.{be}
use Rattle.isdb_tlv.specs.Walk.{turn}
use Rattle.isdb_tlv.proofs.Walk.{Ahead, walk_at}
use Rattle.isdb_tlv.proofs.Numbers.{be_whole}
use Rattle.isdb_tlv.proofs.Guards.{cond_elim}
use Rattle.isdb_mmt.proofs.Places.{Lies}
use Rattle.isdb_mmt.specs.Formats.Message.{prefix_width, aggregated_at, aggregated_item, aggregated_from, table_at, table_item, tables_from}
use Rattle.isdb_mmt.specs.declared.part.Part.{Part}
use Rattle.isdb_mmt.specs.Formats.Steps.{MessageStep}
use Rattle.isdb_mmt.specs.declared.walk_step.WalkStep.TheVariants.{End, Malformed, Entry as Message}
use Rattle.isdb_mmt.specs.Formats.Steps.{TableStep}
use Rattle.isdb_mmt.specs.declared.walk_step.WalkStep.TheVariants.{End as no_more, Malformed as bad_table, Entry as table}

pub width_ge : (long : Bool) → 2 ≤ prefix_width long
width_ge true = omega arith
width_ge false = omega arith

pub width_le : (long : Bool) → prefix_width long ≤ 4
width_le true = omega arith
width_le false = omega arith

-- so a number of 64 bits holds a length
pub length_is : (s : List ℕ) → ((i : ℕ) → Fits w8 (get_or s i 0)) → (at : ℕ) (long : Bool) {w r : ℕ} → w ≡ prefix_width long → r ≡ be w s at % 2 ^ 64
    → r ≡ be w s at
length_is s h at long {w} e n = n ∙ be_whole s h w at (omega (arith, width_le long))

pub length_whole : (s : List ℕ) → ((i : ℕ) → Fits w8 (get_or s i 0)) → (at : ℕ) (long : Bool) → be (prefix_width long) s at % 2 ^ 64 ≡ be (prefix_width long) s at
length_whole s h at long = length_is s h at long refl refl

abbrev pub AggregatedInside : List ℕ → ℕ → MessageStep → Type 0
AggregatedInside s at End = Unit {0}
AggregatedInside s at Malformed = Unit {0}
AggregatedInside s at (Message p next) = Lies s at p next

abbrev pub TableInside : List ℕ → ℕ → TableStep → Type 0
TableInside s at no_more = Unit {0}
TableInside s at bad_table = Unit {0}
TableInside s at (table p next) = Lies s at p next

module _ (s : List ℕ) (long : Bool) where
  pub aggregated_inside : (at : ℕ) → AggregatedInside s at (aggregated_at s long at)
  unfolding aggregated_at
  aggregated_inside at =
      let w = prefix_width long in
      let n = be w s at in
      cond_elim (AggregatedInside s at) (ltb (length s - at) w) (λ e. tt) (λ e.
      cond_elim (AggregatedInside s at) (ltb (length s - (at + w)) n) (λ d. tt) (λ d.
      let a = ltb-false (length s - at) w e in
      let b = ltb-false (length s - (at + w)) n d in
      let g = width_ge long in
      record { ahead = omega arith; within = omega arith; starts = omega arith; ends = refl }))

  pub aggregated_lies : {at next : ℕ} {p : Part} → aggregated_at s long at ≡ Message p next → Lies s at p next
  aggregated_lies {at} e = rw e at (aggregated_inside at)

  aggregated_ahead : (at : ℕ) (r : MessageStep) → AggregatedInside s at r → Ahead (length s) at (aggregated_item r)
  aggregated_ahead at End l = tt
  aggregated_ahead at Malformed l = tt
  aggregated_ahead at (Message p next) l = (omega (arith, l.ahead, l.within), l.ahead)

  -- the messages from a place on: what stands there, and the messages from where it leads
  pub aggregated_at_lem : (at : ℕ) → aggregated_from s long at ≡ turn (aggregated_from s long) (aggregated_item (aggregated_at s long at))
  unfolding aggregated_from
  aggregated_at_lem at =
      walk_at (λ q. aggregated_item (aggregated_at s long q)) (record { found = []; malformed = 0 }) (length s) (λ q. aggregated_ahead q (aggregated_at s long q) (aggregated_inside q)) at

module _ (s : List ℕ) where
  pub table_inside : (at : ℕ) → TableInside s at (table_at s at)
  unfolding table_at
  table_inside at =
      let n = be 2 s (at + 2) + 4 in
      cond_elim (TableInside s at) (ltb (length s - at) 4) (λ e. tt) (λ e.
      cond_elim (TableInside s at) (ltb (length s - at) n) (λ d. tt) (λ d.
      let a = ltb-false (length s - at) n d in
      record { ahead = omega arith; within = omega arith; starts = omega arith; ends = refl }))

  pub table_lies : {at next : ℕ} {p : Part} → table_at s at ≡ table p next → Lies s at p next
  table_lies {at} e = rw e at (table_inside at)

  table_ahead : (at : ℕ) (r : TableStep) → TableInside s at r → Ahead (length s) at (table_item r)
  table_ahead at no_more l = tt
  table_ahead at bad_table l = tt
  table_ahead at (table p next) l = (omega (arith, l.ahead, l.within), l.ahead)

  -- the tables from a place on: what stands there, and the tables from where it leads
  pub tables_at : (at : ℕ) → tables_from s at ≡ turn (tables_from s) (table_item (table_at s at))
  unfolding tables_from
  tables_at at =
      walk_at (λ q. table_item (table_at s q)) (record { found = []; malformed = 0 }) (length s) (λ q. table_ahead q (table_at s q) (table_inside q)) at
