-- What a commit writes to the areas of the kept tables: of each place that is logged, its table out of the message. It decides nothing.
use Rattle.std.specs.Prelude.{◌≡◌, ℕ, zero, suc, ◌+◌, ◌-◌, ◌*◌, ◌<◌, ◌≤◌, List, [], ◌∷◌, length, ◌≢◌, slice_index, Option, None, Some}
use Rattle.isdb_tlv.specs.Guards.{◌=?◌}
use Rattle.std.specs.Prelude.{if◌then◌else◌}
use Rattle.isdb_mmt.specs.Memory.Layout.{most_sections, most_control_ids, most_table_area, state_size}
use Rattle.isdb_mmt.specs.Decoder.Packet.{Bytes}
use Rattle.isdb_mmt.specs.Memory.Lent.{part, over}
use Rattle.isdb_mmt.specs.Pushes.TableOutcome.{index_size, place_at, recent_length}
use Rattle.isdb_mmt.specs.Pushes.PendingTables.{Logged, logged}
use Rattle.isdb_mmt.specs.declared.part.Part.{Part}
use Rattle.isdb_mmt.specs.declared.decoder.head.Used.{Used}
use Rattle.isdb_mmt.specs.declared.decoder.limits.Limits.{Limits}
use Rattle.isdb_mmt.specs.declared.decoder.table_outcome.Recent.{Recent}
use Rattle.isdb_mmt.specs.declared.decoder.walk.WalkState.{WalkState}

abbrev pub put_one : ℕ → Logged → Bytes → Bytes → Bytes
put_one at e m t = if e.from =? 0 then t else over at (part (e.from - 1) e.place.length m) t

unfoldable pub put_tables : ℕ → ℕ → List Logged → Bytes → Bytes → Bytes
put_tables area i [] m t = t
put_tables area i (e ∷ es) m t = put_tables area (i + 1) es m (put_one (i * area) e m t)

-- each fits its area, and stands in the message where it is logged
pub record EntryFits (area : ℕ) (m : Bytes) (e : Logged) : Type 0 where
  pub small : e.place.length ≤ area
  pub within : (e.from ≢ 0) → length (part (e.from - 1) e.place.length m) ≡ e.place.length

abbrev pub AllFit : ℕ → Bytes → List Logged → Type 0
AllFit area m [] = Unit {0}
AllFit area m (e ∷ es) = EntryFits area m e × AllFit area m es

-- a table that is logged, over the area that starts at `at`
abbrev pub put_recent : ℕ → Option Recent → Bytes → Bytes → Bytes
put_recent at None m t = t
put_recent at (Some r) m t = if r.from =? 0 then t else over at (part (r.from - 1) r.length m) t

-- `n` places of an index with their log, from the place `i` on
unfoldable pub logged_from : ℕ → ℕ → List ℕ → List ℕ → List Logged
logged_from zero i ix log = []
logged_from (suc n) i ix log = logged (place_at ix i) (slice_index log i) ∷ logged_from n (i + 1) ix log

pub record CanStore (tables ix log : List ℕ) (used area : ℕ) (m : Bytes) : Type 0 where
  pub few : used ≤ most_sections
  pub logs : used ≤ length log
  pub room : used * area ≤ length tables
  pub each : (i : ℕ) → i < used → EntryFits area m (logged (place_at ix i) (slice_index log i))

pub record CanStoreOne (tables ix log : List ℕ) (i area : ℕ) (m : Bytes) : Type 0 where
  pub few : i < most_sections
  pub logs : i < length log
  pub room : (i + 1) * area ≤ length tables
  pub fits : EntryFits area m (logged (place_at ix i) (slice_index log i))

pub record CanStoreRecent (tables : List ℕ) (r : Option Recent) (i area : ℕ) (m : Bytes) : Type 0 where
  pub room : (i + 1) * area ≤ length tables
  pub small : recent_length r ≤ area

-- a part of a message, to a place
pub record CanPut (s : List ℕ) (at : ℕ) (m : Bytes) (p : Part) : Type 0 where
  pub room : at + p.length ≤ length s

pub record CanStoreState (state ix : List ℕ) (u : Used) : Type 0 where
  pub long : state_size ≤ length state
  pub index_long : length ix ≡ index_size
  pub few : u.sections ≤ most_sections

-- all that a walk has logged: sections, then the PLT, the TOT and the MPT of the control place `i`
abbrev pub put_areas : Limits → ℕ → WalkState → List Logged → Bytes → Bytes → Bytes
put_areas l i g es m t =
    put_recent ((l.sections + i) * l.table_area) g.mpt m
    (put_recent ((l.sections + l.control_ids + 1) * l.table_area) g.tot m
    (put_recent ((l.sections + l.control_ids) * l.table_area) g.plt m (put_tables l.table_area 0 es m t)))

pub record CanStoreAreas (tables ix log : List ℕ) (g : WalkState) (l : Limits) (i : ℕ) (m : Bytes) : Type 0 where
  pub sections : CanStore tables ix log g.used l.table_area m
  pub room : (l.sections + l.control_ids + 2) * l.table_area ≤ length tables
  pub few : l.sections + l.control_ids ≤ most_sections + most_control_ids
  pub area : l.table_area ≤ most_table_area
  pub place : i < l.control_ids
  pub mpt : recent_length g.mpt ≤ l.table_area
  pub plt : recent_length g.plt ≤ l.table_area
  pub tot : recent_length g.tot ≤ l.table_area
