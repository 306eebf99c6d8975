-- A message packet with which a message is whole: the message in two pieces, the walk over its tables, what is asked and left.
use Rattle.std.specs.Prelude.{◌≡◌, ℕ, zero, suc, ◌+◌, ◌*◌, ◌<◌, ◌≤◌, Bool, true, false, List, [], ◌++◌, length, take, drop, replicate, is_some, None}
use Rattle.isdb_tlv.specs.Guards.{◌<?◌, ◌=?◌}
use Rattle.std.specs.Prelude.{if◌then◌else◌}
use Rattle.isdb_mmt.specs.Memory.Layout.{most_sections, most_control_ids, most_message_area, most_count, table_ids, section_places, section_size, state_size}
use Rattle.isdb_mmt.specs.Decoder.Packet.{Bytes, MessagePacket}
use Rattle.isdb_mmt.specs.Decoder.Reassembly.{PartialMessage, cut_of}
use Rattle.isdb_mmt.specs.Decoder.Kept.{table_read}
use Rattle.isdb_mmt.specs.Memory.Lent.{part, over}
use Rattle.isdb_mmt.specs.Memory.Session.{Session, limits_of, used_of}
use Rattle.isdb_mmt.specs.Memory.Check.{lengths_of, Sound}
use Rattle.isdb_mmt.specs.Pushes.Push.{most_bytes}
use Rattle.isdb_mmt.specs.Pushes.Fragments.{flags_in, control_with, completes}
use Rattle.isdb_mmt.specs.Pushes.FragmentPush.{with_reassembly, with_counts, received_fragment}
use Rattle.isdb_mmt.specs.Pushes.TableOutcome.{index_size, recent_length}
use Rattle.isdb_mmt.specs.Pushes.Placed.{join_of, placed_cut}
use Rattle.isdb_mmt.specs.Pushes.PendingTables.{Walked, CanWalk}
use Rattle.isdb_mmt.specs.Pushes.Start.{recent_at, walk_start, latest_with, counters_with, tables_ask, CanGo, CopiesLent}
use Rattle.isdb_mmt.specs.declared.decoder.limits.Limits.{Limits}
use Rattle.isdb_mmt.specs.declared.decoder.counts.Counters.{Counters}
use Rattle.isdb_mmt.specs.declared.decoder.head.Used.{Used}
use Rattle.isdb_mmt.specs.declared.decoder.control.Control.{Control}
use Rattle.isdb_mmt.specs.declared.decoder.messages.FragmentOutcome.{FragmentOutcome}
use Rattle.isdb_mmt.specs.declared.decoder.messages.FragmentOutcome.TheVariants.{Short, Undivided, First, Orphan, Oversize, Grown, Whole}
use Rattle.isdb_mmt.specs.declared.decoder.messages.ReceivedFragment.{ReceivedFragment}
use Rattle.isdb_mmt.specs.declared.decoder.place.PlaceFor.{PlaceFor}
use Rattle.isdb_mmt.specs.declared.decoder.place.PlaceFor.TheVariants.{Own, Free}
use Rattle.isdb_mmt.specs.declared.decoder.walk.WalkState.{WalkState}

-- ---- the message: what was joined before, where it is the last fragment, and the packet's data

abbrev pub is_last : FragmentOutcome → Bool
is_last Short = false
is_last Undivided = false
is_last First = false
is_last Orphan = false
is_last Oversize = false
is_last Grown = false
is_last Whole = true

abbrev pub before_by : Bool → Bytes → Bytes
before_by last m = if last then m else []

-- its flags are those of its first fragment
abbrev pub long_by : Bool → Control → Bytes → Bool
long_by last c b = if last then c.long_length else (flags_in b).long_length

abbrev pub aggregated_by : Bool → Control → Bytes → Bool
aggregated_by last c b = if last then c.aggregated else (flags_in b).aggregated

abbrev pub join_by : Bool → Control → Bytes → Bytes → PartialMessage
join_by last c m b = join_of (long_by last c b) (aggregated_by last c b) (before_by last m ++ drop 2 b)

-- ---- the walk

-- the message that the area `i` holds
abbrev pub held_in : List ℕ → List ℕ → ℕ → Control → Bytes
held_in state messages i c = part (i * (limits_of state).message_area) c.length messages

abbrev pub walk_from : List ℕ → List ℕ → Counters → ℕ → Control → WalkState
walk_from state t cs i c =
    walk_start state t cs (recent_at t (((limits_of state).sections + i) * (limits_of state).table_area) c.mpt c.mpt_length)

abbrev pub WalkedWhole : List ℕ → List ℕ → List ℕ → ℕ → Control → Counters → PartialMessage → WalkState → List ℕ → List ℕ → List ℕ → Type 0
WalkedWhole state others t i c cs j r ix log mine =
    Walked table_read (part section_places index_size state) (replicate most_sections 0) others (walk_from state t cs i c) (placed_cut j) (length j.bytes + 1)
    (cut_of j).malformed r ix log mine

pub record CanWalkWhole (state others messages t ix log mine : List ℕ) (i : ℕ) (c : Control) (last : Bool) (cs : Counters) (b : Bytes) : Type 0 where
  pub go : CanGo state t
  pub copies : CopiesLent ix log mine
  pub counts : length mine ≡ length others
  pub long : state_size ≤ length state
  pub place : i < (limits_of state).control_ids
  pub room : (i + 1) * (limits_of state).message_area ≤ length messages
  pub area : (limits_of state).message_area ≤ most_message_area
  pub walk : CanWalk (part section_places index_size state) (replicate most_sections 0) others (walk_from state t cs i c) (join_by last c (held_in state messages i c) b).bytes 0 most_count

-- ---- what is asked: places, then the message's area, then the tables'

unfoldable pub whole_ask : Limits → ℕ → WalkState → ℕ
whole_ask l area g =
    if tables_ask l g =? 8 then 8
    else if l.message_area <? area then 9
    else tables_ask l g

-- ---- what is left

abbrev pub used_whole : Used → ℕ → ℕ → Used
used_whole u k n = record { media_ids = u.media_ids; control_ids = u.control_ids + k; sections = n }

abbrev pub place_whole : ℕ → ℕ → WalkState → Control
place_whole id n g = control_with id n None (is_some g.mpt) (recent_length g.mpt)

abbrev pub state_left : ℕ → ℕ → Control → Counters → WalkState → List ℕ → List ℕ → List ℕ
state_left i k d cs g ix state =
    with_counts (counters_with cs g) (latest_with g)
    (over section_places (take (section_size * g.used) ix) (with_reassembly i d (used_whole (used_of state) k g.used) state))

pub record CanLeaveState (state ix : List ℕ) (i k : ℕ) (g : WalkState) : Type 0 where
  pub long : state_size ≤ length state
  pub index_long : length ix ≡ index_size
  pub place : i < most_control_ids
  pub few : (used_of state).control_ids ≤ most_control_ids
  pub new : k ≤ 1
  pub sections : g.used ≤ most_sections

-- ---- a packet

pub record CanPushWhole (s : Session) (x : MessagePacket) (y : ReceivedFragment) : Type 0 where
  pub session : Sound s.state s.others (lengths_of s)
  pub others_long : length s.others ≡ table_ids
  pub short : length x.payload ≤ most_bytes
  pub received : y ≡ received_fragment s.state x
  pub whole : completes y.outcome ≡ true

-- at the place `i` of its id; `k` is 1 where it is a new one
abbrev pub place_for_at : ℕ → ℕ → PlaceFor
place_for_at i zero = Own i
place_for_at i (suc k) = Free i

pub record CanPushAt (s : Session) (x : MessagePacket) (y : ReceivedFragment) (i k : ℕ) (ix log mine : List ℕ) : Type 0 where
  pub packet : CanPushWhole s x y
  pub place_for : y.place_for ≡ place_for_at i k
  pub few : k ≤ 1
  pub copies : CopiesLent ix log mine
