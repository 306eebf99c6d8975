-- MMT-SI messages of control payloads: ARIB STD-B60, 7.2, Tables 7-1 to 7-4; STD-B32 Part 3, Figure 2.
use Rattle.std.specs.Prelude.{ℕ, ◌+◌, ◌-◌, ◌*◌, ◌/◌, ◌%◌, Bool, List, [], ◌∷◌, length, slice_index}
use Rattle.isdb_tlv.specs.Guards.{◌<?◌, ◌≤?◌, ◌=?◌}
use Rattle.std.specs.Prelude.{if◌then◌else◌}
use Rattle.isdb_tlv.specs.Bytes.{be}
use Rattle.isdb_tlv.specs.Walk.{Next, stop, more, walk}
use Rattle.isdb_tlv.specs.Messages.{pa_message_id, m2_section_message_id, m2_short_section_message_id}
use Rattle.isdb_mmt.specs.Formats.Part.{part_at}
use Rattle.isdb_mmt.specs.declared.part.Part.{Part}
use Rattle.isdb_mmt.specs.declared.message.Division.{Division}
use Rattle.isdb_mmt.specs.declared.message.Division.TheVariants.{Undivided, First, Middle, Last}
use Rattle.isdb_mmt.specs.declared.message.Fragment.{Fragment}
use Rattle.isdb_mmt.specs.Formats.Steps.{MessageStep}
use Rattle.isdb_mmt.specs.declared.walk_step.WalkStep.TheVariants.{End, Malformed, Entry as Message}
use Rattle.isdb_mmt.specs.declared.message.Content.{Content}
use Rattle.isdb_mmt.specs.declared.message.Content.TheVariants.{Malformed as bad_message, Nothing, Table as one_table_of, Tables}
use Rattle.isdb_mmt.specs.Formats.Steps.{TableStep}
use Rattle.isdb_mmt.specs.declared.walk_step.WalkStep.TheVariants.{End as no_more, Malformed as bad_table, Entry as table}

-- division index, 2 bits
unfoldable pub division_of : ℕ → Division
division_of d =
    if d =? 0 then Undivided
    else if d =? 1 then First
    else if d =? 2 then Middle
    else Last

-- the first byte: division index 2 bits, reserved 4, length extension flag 1, aggregation flag 1
abbrev pub fragment_of : ℕ → Fragment
fragment_of flags =
    record { division = division_of (flags / 64); long_length = flags / 2 % 2 =? 1; aggregated = flags % 2 =? 1 }

abbrev pub prefix_width : Bool → ℕ
prefix_width long = if long then 4 else 2

-- a message of an aggregated payload: a length and so many bytes; a tail too short for a length is dropped
unfoldable pub aggregated_at : List ℕ → Bool → ℕ → MessageStep
aggregated_at s long at =
    if length s - at <? prefix_width long then End
    else if length s - (at + prefix_width long) <? be (prefix_width long) s at then Malformed
    else Message (part_at (at + prefix_width long) (be (prefix_width long) s at)) (at + prefix_width long + be (prefix_width long) s at)

-- PA message: id 16 bits, version 8, length 32, body, as far as it is there
abbrev pub body_part : List ℕ → Part
body_part m =
    if length m - 7 <? be 4 m 3 then part_at 7 (length m - 7)
    else part_at 7 (be 4 m 3)

-- its tables start behind a list of 4 bytes for each of as many as its first byte says
unfoldable pub pa_tables : List ℕ → Content
pa_tables m =
    if length m <? 7 then bad_message
    else if (body_part m).length =? 0 then Nothing
    else Tables (body_part m) (slice_index m 7 * 4 + 1)

-- M2 section, CA and M2 short section message: id 16 bits, version 8, length 16, one table
unfoldable pub section_table : List ℕ → Content
section_table m =
    if length m <? 5 then bad_message
    else if length m - 5 <? be 2 m 3 then bad_message
    else one_table_of (part_at 5 (be 2 m 3))

-- a message, by its id (Table 4-6)
unfoldable pub content_of : List ℕ → Content
content_of m =
    if length m <? 2 then bad_message
    else if be 2 m 0 =? pa_message_id then pa_tables m
    else if be 2 m 0 <? m2_section_message_id then Nothing
    else if be 2 m 0 ≤? m2_short_section_message_id then section_table m
    else Nothing

-- a table of a PA message's body: id 8 bits, version 8, length 16, and so many bytes
unfoldable pub table_at : List ℕ → ℕ → TableStep
table_at s at =
    if length s - at <? 4 then no_more
    else if length s - at <? be 2 s (at + 2) + 4 then bad_table
    else table (part_at at (be 2 s (at + 2) + 4)) (at + (be 2 s (at + 2) + 4))

-- the messages of an aggregated payload's data, and how many lengths run past the end (0 or 1)
pub record Aggregated : Type 0 where
  pub found : List Part
  pub malformed : ℕ

abbrev pub also_message : Part → Aggregated → Aggregated
also_message p l = record { found = p ∷ l.found; malformed = l.malformed }

abbrev pub aggregated_item : MessageStep → Next Aggregated
aggregated_item End = stop (record { found = []; malformed = 0 })
aggregated_item Malformed = stop (record { found = []; malformed = 1 })
aggregated_item (Message p next) = more next (also_message p)

unfoldable pub aggregated_from : List ℕ → Bool → ℕ → Aggregated
aggregated_from s long at = walk (λ p. aggregated_item (aggregated_at s long p)) (record { found = []; malformed = 0 }) (length s) at

-- the tables of a PA message's body from a place on, and how many run past its end (0 or 1)
abbrev pub table_item : TableStep → Next Aggregated
table_item no_more = stop (record { found = []; malformed = 0 })
table_item bad_table = stop (record { found = []; malformed = 1 })
table_item (table p next) = more next (also_message p)

unfoldable pub tables_from : List ℕ → ℕ → Aggregated
tables_from s at = walk (λ p. table_item (table_at s p)) (record { found = []; malformed = 0 }) (length s) at
