-- Where kept tables lie in the lent tables: what a session's areas are reached by.
use Rattle.std.specs.Prelude.{◌≡◌, ℕ, ◌+◌, ◌<◌, ◌≤◌}
use Rattle.isdb_mmt.specs.Decoder.Packet.{Bytes}
use Rattle.isdb_mmt.specs.Memory.Layout.{most_control_ids, most_sections, most_table_area}
use Rattle.isdb_mmt.specs.Memory.Session.{limits_of, used_of}
use Rattle.isdb_mmt.specs.Memory.Check.{PlacesThere}
use Rattle.isdb_mmt.specs.declared.decoder.limits.Limits.{Limits}

-- the places in use lie within the state, and the number of every area times its size has 64 bits
pub record Reachable (l : Bytes) : Type 0 where
  pub there : PlacesThere l
  pub sections : (limits_of l).sections ≤ most_sections
  pub controls : (limits_of l).control_ids ≤ most_control_ids
  pub area : (limits_of l).table_area ≤ most_table_area

-- the number of control ids in use
pub record AllInUse (l : Bytes) (n : ℕ) : Type 0 where
  pub session : Reachable l
  pub number : n ≡ (used_of l).control_ids

-- one of the areas of the tables
pub record AnArea (l : Limits) (i : ℕ) : Type 0 where
  pub number : i ≤ most_sections + most_control_ids + 1
  pub size : l.table_area ≤ most_table_area

-- the MPT of a control place
pub record MptReachable (l : Bytes) (i : ℕ) : Type 0 where
  pub session : Reachable l
  pub place : i < most_control_ids
