-- The limits of a session, the lengths of memory that they ask for, and questions 1 to 4 of an opening.
use Rattle.std.specs.Prelude.{◌≡◌, ℕ, ◌+◌, ◌*◌, Bool, true, false, not, Result, Ok, Err}
use Rattle.isdb_tlv.specs.Guards.{◌<?◌, ◌≤?◌}
use Rattle.std.specs.Prelude.{if◌then◌else◌}
use Rattle.isdb_mmt.specs.Memory.Layout.{most_media_ids, most_control_ids, most_sections, most_mfu_area, most_message_area, most_table_area, most_packets, state_size}
use Rattle.isdb_mmt.specs.declared.decoder.limits.Limits.{Limits}
use Rattle.isdb_mmt.specs.declared.decoder.limits.Lengths.{Lengths}
use Rattle.isdb_mmt.specs.Memory.Refusals.{answer_number}
use Rattle.isdb_mmt.specs.declared.decoder.refusal.Refusal.{Refusal}
use Rattle.isdb_mmt.specs.declared.decoder.refusal.Refusal.TheVariants.{PlacesOutOfRange, AreasOutOfRange, PacketsOutOfRange}

-- 1 to `most`
unfoldable pub in_range : ℕ → ℕ → Bool
in_range most x = if x <? 1 then false else x ≤? most

-- question 1: places
unfoldable pub places_in_range : Limits → Bool
unfolding in_range
places_in_range l =
    if not (in_range most_media_ids l.media_ids) then false
    else if not (in_range most_control_ids l.control_ids) then false
    else in_range most_sections l.sections

-- question 2: areas, in bytes for each place
unfoldable pub areas_in_range : Limits → Bool
unfolding in_range
areas_in_range l =
    if not (in_range most_mfu_area l.mfu_area) then false
    else if not (in_range most_message_area l.message_area) then false
    else in_range most_table_area l.table_area

-- question 4: packets
unfoldable pub packets_in_range : Limits → Bool
unfolding in_range
packets_in_range l = in_range most_packets l.packets

-- the lengths that limits need. The state's is the same for all; a table area is for each section place, for the MPT of
-- each control id, for the PLT and for the TOT
unfoldable pub lengths_for : Limits → Lengths
lengths_for l =
    record {
      state = state_size;
      objects = l.media_ids * l.mfu_area;
      messages = l.control_ids * l.message_area;
      tables = (l.sections + l.control_ids + 2) * l.table_area;
    }

-- question 3: every buffer is as long as it has to be
unfoldable pub long_enough : Lengths → Lengths → Bool
long_enough need lent =
    if lent.state <? need.state then false
    else if lent.objects <? need.objects then false
    else if lent.messages <? need.messages then false
    else need.tables ≤? lent.tables

-- what limits need, or the question that they fail, whatever is lent
unfoldable pub needed_of : Limits → Result Lengths Refusal
unfolding places_in_range areas_in_range packets_in_range lengths_for
needed_of l =
    if not (places_in_range l) then Err PlacesOutOfRange
    else if not (areas_in_range l) then Err AreasOutOfRange
    else if not (packets_in_range l) then Err PacketsOutOfRange
    else Ok (lengths_for l)

-- the first question that is answered no, or 0
unfoldable pub asked : Limits → Lengths → ℕ
unfolding places_in_range areas_in_range packets_in_range lengths_for long_enough
asked l lent =
    if not (places_in_range l) then 1
    else if not (areas_in_range l) then 2
    else if not (long_enough (lengths_for l) lent) then 3
    else if not (packets_in_range l) then 4
    else 0

-- what is needed and what is asked agree: with buffers as long as limits need every question is answered yes, and where
-- every buffer is long enough the number asked is the need's
pub record Agree (l : Limits) (lent : Lengths) : Type 0 where
  pub enough : (n : Lengths) → needed_of l ≡ Ok n → long_enough n lent ≡ true → asked l lent ≡ 0
  pub number : long_enough (lengths_for l) lent ≡ true → asked l lent ≡ answer_number (needed_of l)

abbrev pub Agreement : Type 0
Agreement = (l : Limits) (lent : Lengths) → Agree l lent
