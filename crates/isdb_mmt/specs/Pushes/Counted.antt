-- Packets that are only counted: what their functions need.
use Rattle.std.specs.Prelude.{ℕ, ◌≤◌, List, length}
use Rattle.isdb_mmt.specs.Memory.Layout.{most_count, state_size}
use Rattle.isdb_mmt.specs.Memory.Session.{counters_of}
use Rattle.isdb_mmt.specs.declared.decoder.counts.Counters.{Counters}

-- counts as question 5 has them, and at most one more of each
pub record Countable (c : Counters) (ip non time : ℕ) : Type 0 where
  pub packets : c.tlv_packets ≤ most_count
  pub ip_errors : c.ip_errors ≤ most_count
  pub non_mmtp : c.non_mmtp ≤ most_count
  pub ntp : c.ntp ≤ most_count
  pub one_ip : ip ≤ 1
  pub one_non : non ≤ 1
  pub one_time : time ≤ 1

pub record StateCountable (l : List ℕ) (ip non time : ℕ) : Type 0 where
  pub long : state_size ≤ length l
  pub counts : Countable (counters_of l) ip non time
