-- A message packet at the place of its id: which place, and what is asked and left where no message is whole with it. One law says
-- that it is what the model asks and leaves (proofs/FragmentPushes).
use Rattle.std.specs.Prelude.{◌≡◌, ℕ, ◌+◌, ◌*◌, ◌<◌, ◌≤◌, Bool, false, List, length, ◌≢◌}
use Rattle.isdb_tlv.specs.Guards.{◌<?◌}
use Rattle.std.specs.Prelude.{if◌then◌else◌}
use Rattle.isdb_tlv.specs.Fields.{written}
use Rattle.isdb_mmt.specs.Decoder.Packet.{Bytes, MessagePacket}
use Rattle.isdb_mmt.specs.Memory.Lent.{over}
use Rattle.isdb_mmt.specs.Memory.Layout.{latest_place, counters_place, control_places, control_size, most_control_ids, most_message_area, state_size}
use Rattle.isdb_mmt.specs.Memory.Session.{Session, limits_of, used_of, latest_of, latest_fields, counters_of, counters_fields, control_fields, control_at}
use Rattle.isdb_mmt.specs.Memory.Check.{PlacesThere, Sound, lengths_of}
use Rattle.isdb_mmt.specs.Pushes.MediaPush.{with_used}
use Rattle.isdb_mmt.specs.Pushes.Leaves.{control_place_for}
use Rattle.isdb_mmt.specs.Pushes.Push.{most_bytes}
use Rattle.isdb_mmt.specs.Pushes.Fragments.{fragment_outcome, joined_by, control_with, laid_by, area_by, completes, fragment_counted, CanCount}
use Rattle.isdb_mmt.specs.declared.decoder.counts.Counters.{Counters}
use Rattle.isdb_mmt.specs.declared.decoder.head.Used.{Used}
use Rattle.isdb_mmt.specs.declared.decoder.head.Latest.{Latest}
use Rattle.isdb_mmt.specs.declared.decoder.control.Control.{Control}
use Rattle.isdb_mmt.specs.declared.decoder.messages.FragmentOutcome.{FragmentOutcome}
use Rattle.isdb_mmt.specs.declared.decoder.messages.ReceivedFragment.{ReceivedFragment}
use Rattle.isdb_mmt.specs.declared.decoder.place.PlaceFor.{PlaceFor}
use Rattle.isdb_mmt.specs.declared.decoder.place.PlaceFor.TheVariants.{Own, Free, NoneFree}

-- ---- the place

abbrev pub blank_place : Control
blank_place =
    record {
      packet_id = 0;
      seen = false;
      sequence = 0;
      joining = false;
      long_length = false;
      aggregated = false;
      length = 0;
      mpt = false;
      mpt_length = 0;
    }

-- an id without a place has a blank one
unfoldable pub place_in : List ℕ → PlaceFor → Control
place_in l (Own i) = control_at l i
place_in l (Free i) = blank_place
place_in l NoneFree = blank_place

abbrev pub PlaceForThere : PlaceFor → Type 0
PlaceForThere (Own i) = i < most_control_ids
PlaceForThere (Free i) = Unit {0}
PlaceForThere NoneFree = Unit {0}

-- ---- what is stored; the length of what is absent is 0

abbrev pub length_if : Bool → ℕ → ℕ
length_if there n = if there then n else 0

abbrev pub normal_latest : Latest → Latest
normal_latest x =
    record {
      plt = x.plt;
      plt_length = length_if x.plt x.plt_length;
      tot = x.tot;
      tot_length = length_if x.tot x.tot_length;
    }

abbrev pub with_more : ℕ → Used → Used
with_more k u = record { media_ids = u.media_ids; control_ids = u.control_ids + k; sections = u.sections }

-- the place, and the places in use
abbrev pub with_reassembly : ℕ → Control → Used → List ℕ → List ℕ
with_reassembly i c u l = with_used u (over (control_places + control_size * i) (written (control_fields c)) l)

-- counters, then PLT and TOT
abbrev pub with_counts : Counters → Latest → List ℕ → List ℕ
with_counts k x l = over latest_place (written (latest_fields x)) (over counters_place (written (counters_fields k)) l)

-- ---- a fragment at the place `i`; `k` is 1 where it is a new one

abbrev pub place_next : ℕ → ℕ → Control → FragmentOutcome → Bytes → Control
place_next id n c f b = control_with id n (joined_by f c b) c.mpt (length_if c.mpt c.mpt_length)

unfoldable pub state_next : ℕ → ℕ → Control → FragmentOutcome → List ℕ → List ℕ
state_next i k d f l = with_counts (fragment_counted f (counters_of l)) (normal_latest (latest_of l)) (with_reassembly i d (with_more k (used_of l)) l)

pub record CanStoreReassembly (l : List ℕ) (i k : ℕ) : Type 0 where
  pub long : state_size ≤ length l
  pub place : i < most_control_ids
  pub new : k ≤ 1
  pub used : (used_of l).control_ids ≤ most_control_ids
  pub counts : CanCount (counters_of l)

pub record CanJoinAt (l m : List ℕ) (i k : ℕ) (b : Bytes) : Type 0 where
  pub stores : CanStoreReassembly l i k
  pub short : length b ≤ most_bytes
  pub area : (limits_of l).message_area ≤ most_message_area
  pub room : (i + 1) * (limits_of l).message_area ≤ length m

pub record JoinedAt (l m : List ℕ) (i k id n : ℕ) (b : Bytes) (c : Control) (f : FragmentOutcome) (r : ℕ) (l' m' : List ℕ) : Type 0 where
  pub number : r ≡ (if (limits_of l).message_area <? area_by f c b then 9 else 0)
  pub same : (r ≢ 0) → (l' ≡ l) × (m' ≡ m)
  pub state : r ≡ 0 → l' ≡ state_next i k (place_next id n c f b) f l
  pub messages : r ≡ 0 → m' ≡ laid_by f (i * (limits_of l).message_area) c b m

-- ---- a fragment as it is received: which place its id has, what that place holds, what becomes of the fragment

unfoldable pub received_fragment : List ℕ → MessagePacket → ReceivedFragment
received_fragment l x =
    record {
      place_for = control_place_for l x.id;
      place = place_in l (control_place_for l x.id);
      outcome = fragment_outcome (place_in l (control_place_for l x.id)) x.number x.payload;
    }

pub record CanReceive (l : List ℕ) (b : Bytes) : Type 0 where
  pub there : PlacesThere l
  pub short : length b ≤ most_bytes

-- no message is whole with it
pub record CanJoin (s : Session) (x : MessagePacket) (y : ReceivedFragment) : Type 0 where
  pub session : Sound s.state s.others (lengths_of s)
  pub short : length x.payload ≤ most_bytes
  pub received : y ≡ received_fragment s.state x
  pub divided : completes y.outcome ≡ false
