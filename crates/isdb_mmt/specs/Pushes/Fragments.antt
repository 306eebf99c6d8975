-- What a message packet does to the place of its id, by the place, the packet's number and its payload alone. One law says that it
-- is what the model does (proofs/Fragments).
use Rattle.std.specs.Prelude.{ℕ, ◌+◌, ◌-◌, ◌≤◌, Bool, true, false, not, ◌++◌, length, drop, slice_index, Option, None, Some, is_some}
use Rattle.isdb_tlv.specs.Guards.{◌<?◌}
use Rattle.std.specs.Prelude.{if◌then◌else◌}
use Rattle.isdb_mmt.specs.Decoder.Packet.{Bytes}
use Rattle.isdb_mmt.specs.Decoder.Maps.{one}
use Rattle.isdb_mmt.specs.Formats.Message.{fragment_of}
use Rattle.isdb_mmt.specs.Decoder.Reassembly.{PartialMessage, most_message}
use Rattle.isdb_mmt.specs.Decoder.Kept.{with_packet_counts}
use Rattle.isdb_mmt.specs.Memory.Lent.{over}
use Rattle.isdb_mmt.specs.Memory.Layout.{most_count}
use Rattle.isdb_mmt.specs.Pushes.MediaPlace.{gap_after}
use Rattle.isdb_mmt.specs.declared.message.Division.{Division}
use Rattle.isdb_mmt.specs.declared.message.Division.TheVariants.{Undivided as undivided, First as first, Middle as middle, Last as last}
use Rattle.isdb_mmt.specs.declared.message.Fragment.{Fragment}
use Rattle.isdb_mmt.specs.declared.decoder.control.Control.{Control}
use Rattle.isdb_mmt.specs.declared.decoder.counts.Counters.{Counters}
use Rattle.isdb_mmt.specs.declared.decoder.messages.FragmentOutcome.{FragmentOutcome}
use Rattle.isdb_mmt.specs.declared.decoder.messages.FragmentOutcome.TheVariants.{Short, Undivided, First, Orphan, Oversize, Grown, Whole}
use Rattle.isdb_mmt.specs.declared.decoder.messages.Joined.{Joined}

-- ---- what becomes of a fragment

-- a message is there to be continued: a gap takes it away
unfoldable pub in_sequence : Control → ℕ → Bool
in_sequence c n = if c.joining then not (gap_after c.seen c.sequence n) else false

-- the message's length with the fragment, whose data start at 2
abbrev pub grown_length : Control → Bytes → ℕ
grown_length c b = c.length + (length b - 2)

unfoldable pub continued : Bool → Control → ℕ → Bytes → FragmentOutcome
continued ends c n b =
    if not (in_sequence c n) then Orphan
    else if most_message <? grown_length c b then Oversize
    else if ends then Whole
    else Grown

abbrev pub by_division : Division → Control → ℕ → Bytes → FragmentOutcome
by_division undivided c n b = Undivided
by_division first c n b = First
by_division middle c n b = continued false c n b
by_division last c n b = continued true c n b

abbrev pub flags_in : Bytes → Fragment
flags_in b = fragment_of (slice_index b 0)

unfoldable pub fragment_outcome : Control → ℕ → Bytes → FragmentOutcome
fragment_outcome c n b = if length b <? 2 then Short else by_division (flags_in b).division c n b

-- ---- what is joined after it

abbrev pub joined_with : Bool → Bool → ℕ → Joined
joined_with long aggregated n = record { long_length = long; aggregated = aggregated; length = n }

abbrev pub joined_still : Control → Option Joined
joined_still c = if c.joining then Some (joined_with c.long_length c.aggregated c.length) else None

unfoldable pub joined_by : FragmentOutcome → Control → Bytes → Option Joined
joined_by Short c b = joined_still c
joined_by Undivided c b = None
joined_by First c b = Some (joined_with (flags_in b).long_length (flags_in b).aggregated (length b - 2))
joined_by Orphan c b = None
joined_by Oversize c b = None
joined_by Grown c b = Some (joined_with c.long_length c.aggregated (grown_length c b))
joined_by Whole c b = None

-- the model's
abbrev pub joined_as : Option PartialMessage → Option Joined
joined_as None = None
joined_as (Some m) = Some (joined_with m.long m.aggregated (length m.bytes))

-- as a place holds it: without one, its flags are down and its length is 0
abbrev pub joined_long : Option Joined → Bool
joined_long None = false
joined_long (Some j) = j.long_length

abbrev pub joined_aggregated : Option Joined → Bool
joined_aggregated None = false
joined_aggregated (Some j) = j.aggregated

abbrev pub joined_length : Option Joined → ℕ
joined_length None = 0
joined_length (Some j) = j.length

-- the place after, with the MPT that is kept then
abbrev pub control_with : ℕ → ℕ → Option Joined → Bool → ℕ → Control
control_with id n j mpt size =
    record {
      packet_id = id;
      seen = true;
      sequence = n;
      joining = is_some j;
      long_length = joined_long j;
      aggregated = joined_aggregated j;
      length = joined_length j;
      mpt = mpt;
      mpt_length = size;
    }

-- the message's area, from `at` on
unfoldable pub laid_by : FragmentOutcome → ℕ → Control → Bytes → Bytes → Bytes
laid_by Short at c b l = l
laid_by Undivided at c b l = l
laid_by First at c b l = over at (drop 2 b) l
laid_by Orphan at c b l = l
laid_by Oversize at c b l = l
laid_by Grown at c b l = over (at + c.length) (drop 2 b) l
laid_by Whole at c b l = l

-- ---- what is asked and counted

-- the longest message that it joins
unfoldable pub area_by : FragmentOutcome → Control → Bytes → ℕ
area_by Short c b = 0
area_by Undivided c b = 0
area_by First c b = length b - 2
area_by Orphan c b = 0
area_by Oversize c b = 0
area_by Grown c b = grown_length c b
area_by Whole c b = grown_length c b

-- the message that is whole with it, where `m` is what was joined before
unfoldable pub whole_by_of : FragmentOutcome → Control → Bytes → Bytes → Option PartialMessage
whole_by_of Short c m b = None
whole_by_of Undivided c m b = Some (record { long = (flags_in b).long_length; aggregated = (flags_in b).aggregated; bytes = drop 2 b })
whole_by_of First c m b = None
whole_by_of Orphan c m b = None
whole_by_of Oversize c m b = None
whole_by_of Grown c m b = None
whole_by_of Whole c m b = Some (record { long = c.long_length; aggregated = c.aggregated; bytes = m ++ drop 2 b })

abbrev pub completes : FragmentOutcome → Bool
completes Short = false
completes Undivided = true
completes First = false
completes Orphan = false
completes Oversize = false
completes Grown = false
completes Whole = true

-- whether it is counted as an orphan, as oversize, as malformed
pub record Faults : Type 0 where
  pub orphan : Bool
  pub oversize : Bool
  pub malformed : Bool

abbrev faults : Bool → Bool → Bool → Faults
faults orphan oversize malformed = record { orphan = orphan; oversize = oversize; malformed = malformed }

abbrev pub faults_of : FragmentOutcome → Faults
faults_of Short = faults false false true
faults_of Undivided = faults false false false
faults_of First = faults false false false
faults_of Orphan = faults true false false
faults_of Oversize = faults false true false
faults_of Grown = faults false false false
faults_of Whole = faults false false false

-- a packet more, and what is counted of its fragment
abbrev pub counted_with : Counters → ℕ → ℕ → ℕ → Counters
counted_with c orphans oversizes bad =
    with_packet_counts c (c.tlv_packets + 1) (c.orphan_fragments + orphans) (c.oversize + oversizes) (c.message_malformed + bad)

abbrev pub fragment_counted : FragmentOutcome → Counters → Counters
fragment_counted f c = counted_with c (one (faults_of f).orphan) (one (faults_of f).oversize) (one (faults_of f).malformed)

-- counts as question 5 has them
pub record CanCount (c : Counters) : Type 0 where
  pub packets : c.tlv_packets ≤ most_count
  pub orphan_fragments : c.orphan_fragments ≤ most_count
  pub oversize : c.oversize ≤ most_count
  pub malformed : c.message_malformed ≤ most_count
