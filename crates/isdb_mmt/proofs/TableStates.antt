-- The model's folds over tables are the fields of one. Assumes nothing.
use Rattle.std.proofs.Common.{◌≡◌, ℕ, max, List, [], ◌∷◌, refl, ◌∙◌, arith}
use Rattle.isdb_mmt.specs.Decoder.Kept.{Table, mpt_after_all, stored_all, counted_all, stored}
use Rattle.isdb_mmt.specs.Decoder.Needs.{table_area_of, tables_need}
use Rattle.isdb_mmt.specs.Pushes.TableState.{TableState, after_table, after_tables}

pub mpt_all : (ts : List Table) (w : TableState) → (after_tables w ts).mpt ≡ mpt_after_all w.mpt ts
unfolding after_tables mpt_after_all
mpt_all [] w = refl
mpt_all (t ∷ ts) w = mpt_all ts (after_table w t)

pub store_all : (ts : List Table) (w : TableState) → (after_tables w ts).store ≡ stored_all w.store ts
unfolding after_tables stored_all
store_all [] w = refl
store_all (t ∷ ts) w = store_all ts (after_table w t)

pub counters_all : (ts : List Table) (w : TableState) → (after_tables w ts).counters ≡ counted_all w.mpt w.store w.counters ts
unfolding after_tables counted_all
counters_all [] w = refl
counters_all (t ∷ ts) w = counters_all ts (after_table w t)

max_zero : (a : ℕ) → a ≡ max a 0
max_zero a = omega arith

max_assoc : (a b c : ℕ) → max (max a b) c ≡ max a (max b c)
max_assoc a b c = omega arith

pub longest_all : (ts : List Table) (w : TableState) → (after_tables w ts).longest ≡ max w.longest (tables_need w.store ts)
unfolding after_tables tables_need
longest_all [] w = max_zero w.longest
longest_all (t ∷ ts) w =
    longest_all ts (after_table w t) ∙ max_assoc w.longest (table_area_of w.store t) (tables_need (stored w.store t) ts)
