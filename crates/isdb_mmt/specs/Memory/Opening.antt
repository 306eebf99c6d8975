-- What an opening answers and leaves.
use Rattle.std.specs.Prelude.{◌≡◌, ℕ, ◌-◌, List, ◌++◌, replicate, ◌≢◌}
use Rattle.isdb_tlv.specs.Fields.{written}
use Rattle.isdb_mmt.specs.Memory.Lent.{over}
use Rattle.isdb_mmt.specs.Memory.Layout.{table_ids, used_place, state_size}
use Rattle.isdb_mmt.specs.Memory.Limits.{asked}
use Rattle.isdb_mmt.specs.Memory.Session.{Session, limits_fields}
use Rattle.isdb_mmt.specs.Memory.Check.{lengths_of}
use Rattle.isdb_mmt.specs.declared.decoder.limits.Limits.{Limits}

abbrev pub lent : List ℕ → List ℕ → List ℕ → List ℕ → List ℕ → Session
lent state others objects messages tables =
    record { state = state; others = others; objects = objects; messages = messages; tables = tables }

-- the limits, then zeros: no place in use, nothing kept, no time, all counts 0
unfoldable pub opened_state : Limits → List ℕ
opened_state l = written (limits_fields l) ++ replicate (state_size - used_place) 0

-- the areas keep their bytes, and so does what is lent beyond the state
unfoldable pub opened_session : Limits → Session → Session
unfolding over opened_state
opened_session l s =
    lent (over 0 (opened_state l) s.state) (replicate table_ids 0) s.objects s.messages s.tables

-- an opening over `s`: its answer `r`, and what it leaves
pub record Opened (l : Limits) (s : Session) (r : ℕ) (s' : Session) : Type 0 where
  pub number : r ≡ asked l (lengths_of s)
  pub unchanged : (r ≢ 0) → s' ≡ s
  pub done : r ≡ 0 → s' ≡ opened_session l s
