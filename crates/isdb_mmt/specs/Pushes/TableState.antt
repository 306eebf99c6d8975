-- What tables leave, on one record: the MPT of their control id, all else that is kept, the counters, and the longest table that
-- is kept on the way. The model's folds are its fields.
use Rattle.std.specs.Prelude.{ℕ, max, List, [], ◌∷◌, Option}
use Rattle.isdb_mmt.specs.declared.decoder.counts.Counters.{Counters}
use Rattle.isdb_mmt.specs.Decoder.Packet.{Bytes}
use Rattle.isdb_mmt.specs.Decoder.Kept.{KeptTables, Table, table_counted, table_increments, mpt_after, stored}
use Rattle.isdb_mmt.specs.Decoder.Needs.{table_area_of}

pub record TableState : Type 0 where
  pub mpt : Option Bytes
  pub store : KeptTables
  pub counters : Counters
  pub longest : ℕ

abbrev pub after_table : TableState → Table → TableState
after_table w t =
    record {
      mpt = mpt_after w.mpt t;
      store = stored w.store t;
      counters = table_counted w.counters (table_increments w.mpt w.store t);
      longest = max w.longest (table_area_of w.store t);
    }

unfoldable pub after_tables : TableState → List Table → TableState
after_tables w [] = w
after_tables w (t ∷ ts) = after_tables (after_table w t) ts
