-- What a message packet does to the message that is being joined for its packet id, and the tables it gives: the Rust's
-- `Messages::push`, on values.
-- Translated from message.rs of isdb-rs (Apache-2.0, see NOTICE) and changed.
use Rattle.std.specs.Prelude.{ℕ, ◌+◌, Bool, true, false, cond, not, ◌&&◌, List, [], ◌∷◌, ◌++◌, map, length, drop, slice_index, Option, None, Some, is_some}
use Rattle.isdb_tlv.specs.Guards.{◌<?◌, ◌≤?◌}
use Rattle.std.specs.Prelude.{if◌then◌else◌}
use Rattle.isdb_mmt.specs.Formats.Part.{part_of}
use Rattle.isdb_mmt.specs.Formats.Message.{fragment_of, Aggregated, aggregated_from, content_of, tables_from}
use Rattle.isdb_mmt.specs.Decoder.Packet.{Bytes, MessagePacket}
use Rattle.isdb_mmt.specs.declared.part.Part.{Part}
use Rattle.isdb_mmt.specs.declared.message.Division.{Division}
use Rattle.isdb_mmt.specs.declared.message.Division.TheVariants.{Undivided, First, Middle as middle_part, Last as last_part}
use Rattle.isdb_mmt.specs.declared.message.Fragment.{Fragment}
use Rattle.isdb_mmt.specs.declared.message.Content.{Content}
use Rattle.isdb_mmt.specs.declared.message.Content.TheVariants.{Malformed as bad_message, Nothing, Table as one_table_of, Tables}
use Rattle.isdb_mmt.specs.Decoder.Objects.{gap}

-- the largest message
abbrev pub most_message : ℕ
most_message = 1048576

-- a message being joined: the flags of its first fragment, and its bytes
pub record PartialMessage : Type 0 where
  pub long : Bool
  pub aggregated : Bool
  pub bytes : Bytes

pub record Reassembly : Type 0 where
  pub number : Option ℕ
  pub partial : Option PartialMessage

unfoldable pub idle : Reassembly
idle = record { number = None; partial = None }

abbrev pub short : MessagePacket → Bool
short c = length c.payload <? 2

abbrev pub flags_of : MessagePacket → Fragment
flags_of c = fragment_of (slice_index c.payload 0)

abbrev pub started : MessagePacket → PartialMessage
started c =
    record { long = (flags_of c).long_length; aggregated = (flags_of c).aggregated; bytes = drop 2 c.payload }

-- what is joined before the fragment: a gap takes it away
unfoldable pub part_before : Reassembly → MessagePacket → Option PartialMessage
unfolding gap
part_before l c = cond (gap l.number c.number) None l.partial

-- a message continued, where it fits
unfoldable pub joined_on : Option PartialMessage → Bytes → Option PartialMessage
joined_on None d = None
joined_on (Some j) d =
    cond (length j.bytes + length d ≤? most_message)
    (Some (record { long = j.long; aggregated = j.aggregated; bytes = j.bytes ++ d })) None

unfoldable pub part_after : Division → Option PartialMessage → MessagePacket → Option PartialMessage
unfolding joined_on
part_after Undivided j c = None
part_after First j c = Some (started c)
part_after middle_part j c = joined_on j (drop 2 c.payload)
part_after last_part j c = None

unfoldable pub whole_of : Division → Option PartialMessage → MessagePacket → Option PartialMessage
unfolding joined_on
whole_of Undivided j c = Some (started c)
whole_of First j c = None
whole_of middle_part j c = None
whole_of last_part j c = joined_on j (drop 2 c.payload)

-- a payload below 2 bytes sets the number, and leaves the message, over a gap too
unfoldable pub reassembly_after : Reassembly → MessagePacket → Reassembly
unfolding part_before part_after
reassembly_after l c =
    record {
      number = Some c.number;
      partial = cond (short c) l.partial (part_after (flags_of c).division (part_before l c) c);
    }

-- the message that the packet makes whole
unfoldable pub message_completed : Reassembly → MessagePacket → Option PartialMessage
unfolding part_before whole_of
message_completed l c = cond (short c) None (whole_of (flags_of c).division (part_before l c) c)

-- a continuing fragment without a message, and one that makes it too long
abbrev pub continues : Division → Bool
continues Undivided = false
continues First = false
continues middle_part = true
continues last_part = true

unfoldable pub orphan : Reassembly → MessagePacket → Bool
unfolding part_before
orphan l c = not (short c) && (continues (flags_of c).division && not (is_some (part_before l c)))

unfoldable pub oversize : Reassembly → MessagePacket → Bool
unfolding part_before joined_on
oversize l c =
    not (short c)
    && (continues (flags_of c).division
    && (is_some (part_before l c) && not (is_some (joined_on (part_before l c) (drop 2 c.payload)))))

-- the tables of messages, in turn, and how much of them is malformed
pub record TablesFound : Type 0 where
  pub tables : List Bytes
  pub malformed : ℕ

abbrev pub no_tables : ℕ → TablesFound
no_tables n = record { tables = []; malformed = n }

abbrev pub parts_of : Bytes → List Part → List Bytes
parts_of b ps = map (part_of b) ps

abbrev pub tables_in : Bytes → Content → TablesFound
tables_in m bad_message = no_tables 1
tables_in m Nothing = no_tables 0
tables_in m (one_table_of p) = record { tables = part_of m p ∷ []; malformed = 0 }
tables_in m (Tables body at) =
    record {
      tables = parts_of (part_of m body) (tables_from (part_of m body) at).found;
      malformed = (tables_from (part_of m body) at).malformed;
    }

unfoldable pub tables_of : Bytes → TablesFound
tables_of m = tables_in m (content_of m)

unfoldable pub tables_of_all : List Bytes → TablesFound
tables_of_all [] = no_tables 0
tables_of_all (m ∷ ms) =
    record {
      tables = (tables_of m).tables ++ (tables_of_all ms).tables;
      malformed = (tables_of m).malformed + (tables_of_all ms).malformed;
    }

-- the messages of joined data: one, or those that are aggregated
unfoldable pub messages_of : PartialMessage → Aggregated
messages_of j = aggregated_from j.bytes j.long 0

unfoldable pub cut_of : PartialMessage → TablesFound
cut_of j =
    if j.aggregated
    then record {
      tables = (tables_of_all (parts_of j.bytes (messages_of j).found)).tables;
      malformed = (messages_of j).malformed + (tables_of_all (parts_of j.bytes (messages_of j).found)).malformed;
    }
    else tables_of j.bytes

unfoldable pub cut_of_all : Option PartialMessage → TablesFound
cut_of_all None = no_tables 0
cut_of_all (Some j) = cut_of j
