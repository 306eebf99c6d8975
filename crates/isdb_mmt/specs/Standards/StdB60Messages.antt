-- ARIB STD-B60, 7.2 (Tables 7-1 to 7-4), in the payload of STD-B32 Part 3, Figure 2: control payloads and the messages in them as
-- a conforming sender writes them, whole or divided, and what it means to read them right.
use Rattle.std.specs.Prelude.{◌≡◌, ℕ, ◌+◌, ◌%◌, ◌^◌, ◌<◌, ◌≤◌, List, [], ◌∷◌, ◌++◌, map, length, slice_index, Option, None, Some}
use Rattle.isdb_tlv.specs.Guards.{◌=?◌}
use Rattle.std.specs.Prelude.{if◌then◌else◌}
use Rattle.isdb_tlv.specs.Fields.{Field, field, bits, packed, written}
use Rattle.isdb_tlv.specs.Messages.{set_of, messages_of}
use Rattle.isdb_tlv.specs.declared.mmtp.Message.{Message}
use Rattle.isdb_mmt.specs.Standards.StdB60Sections.{All}
use Rattle.isdb_mmt.specs.Formats.Message.{fragment_of}
use Rattle.isdb_mmt.specs.Decoder.Packet.{Bytes, MessagePacket, message_packet}
use Rattle.isdb_mmt.specs.Decoder.Reassembly.{PartialMessage, Reassembly, short, reassembly_after, message_completed, orphan, oversize}
use Rattle.isdb_mmt.specs.Decoder.Reassembly.{TablesFound, tables_of, cut_of, cut_of_all}
use Rattle.isdb_mmt.specs.Decoder.Maps.{one}
use Rattle.isdb_mmt.specs.Decoder.Kept.{table_read}
use Rattle.isdb_mmt.specs.Decoder.GivenTables.{tables_given}
use Rattle.isdb_mmt.specs.declared.message.Division.TheVariants.{Undivided}

-- a table of a PA message: id 8 bits, version 8, length 16, and so many bytes; and the length that the message's list gives for
-- it, which no reading uses
pub record SentTable : Type 0 where
  pub id : ℕ
  pub version : ℕ
  pub content : List ℕ
  pub listed : ℕ

abbrev pub table_fields : SentTable → List Field
table_fields t = field 1 t.id ∷ field 1 t.version ∷ field 2 (length t.content) ∷ []

abbrev pub table_sent : SentTable → List ℕ
table_sent t = written (table_fields t) ++ t.content

abbrev pub tables_sent : List SentTable → List ℕ
tables_sent [] = []
tables_sent (t ∷ ts) = table_sent t ++ tables_sent ts

-- PA message (Table 7-1): the list has table id 8 bits, version 8 and length 16 of each table
abbrev pub list_fields : SentTable → List Field
list_fields t = field 1 t.id ∷ field 1 t.version ∷ field 2 t.listed ∷ []

abbrev pub list_sent : List SentTable → List ℕ
list_sent [] = []
list_sent (t ∷ ts) = written (list_fields t) ++ list_sent ts

-- number of tables 8 bits, the list, the tables
abbrev pub pa_body : List SentTable → List ℕ
pa_body ts = written (field 1 (length ts) ∷ []) ++ (list_sent ts ++ tables_sent ts)

pub data SentMessage : Type 0 where
  -- version, tables
  pa : ℕ → List SentTable → SentMessage
  -- version, the bytes of the one table
  m2_section : ℕ → List ℕ → SentMessage
  ca : ℕ → List ℕ → SentMessage
  m2_short_section : ℕ → List ℕ → SentMessage

-- PA message: id 0000h 16 bits, version 8, length 32, body
abbrev pub pa_fields : ℕ → List SentTable → List Field
pa_fields v ts = field 2 0x0000 ∷ field 1 v ∷ field 4 (length (pa_body ts)) ∷ []

-- M2 section (Table 7-2), CA (7-3) and M2 short section message (7-4): id 16 bits, version 8, length 16, a table
abbrev pub one_table_fields : ℕ → ℕ → List ℕ → List Field
one_table_fields id v t = field 2 id ∷ field 1 v ∷ field 2 (length t) ∷ []

abbrev pub one_table_sent : ℕ → ℕ → List ℕ → List ℕ
one_table_sent id v t = written (one_table_fields id v t) ++ t

abbrev pub message_sent : SentMessage → List ℕ
message_sent (pa v ts) = written (pa_fields v ts) ++ pa_body ts
message_sent (m2_section v t) = one_table_sent 0x8000 v t
message_sent (ca v t) = one_table_sent 0x8001 v t
message_sent (m2_short_section v t) = one_table_sent 0x8002 v t

pub record TableConforming (t : SentTable) : Type 0 where
  pub id : t.id < 2 ^ 8
  pub version : t.version < 2 ^ 8
  pub listed : t.listed < 2 ^ 16
  pub short : length t.content < 2 ^ 16

-- a table has its id at least
pub record OneTableConforming (v : ℕ) (t : List ℕ) : Type 0 where
  pub version : v < 2 ^ 8
  pub there : 0 < length t
  pub short : length t < 2 ^ 16

pub record PaConforming (v : ℕ) (ts : List SentTable) : Type 0 where
  pub version : v < 2 ^ 8
  pub tables : All TableConforming ts
  pub few : length ts < 2 ^ 8
  pub short : length (pa_body ts) < 2 ^ 32

abbrev pub MessageConforming : SentMessage → Type 0
MessageConforming (pa v ts) = PaConforming v ts
MessageConforming (m2_section v t) = OneTableConforming v t
MessageConforming (ca v t) = OneTableConforming v t
MessageConforming (m2_short_section v t) = OneTableConforming v t

-- the bytes of a message's tables
abbrev pub message_tables : SentMessage → List Bytes
message_tables (pa v ts) = map table_sent ts
message_tables (m2_section v t) = t ∷ []
message_tables (ca v t) = t ∷ []
message_tables (m2_short_section v t) = t ∷ []

abbrev pub tables_of_messages : List SentMessage → List Bytes
tables_of_messages [] = []
tables_of_messages (m ∷ ms) = message_tables m ++ tables_of_messages ms

-- these tables, and nothing malformed
abbrev pub all_read_of : List Bytes → TablesFound
all_read_of ts = record { tables = ts; malformed = 0 }

pub record MessageRead (m : SentMessage) : Type 0 where
  pub tables : tables_of (message_sent m) ≡ all_read_of (message_tables m)

-- what a control payload carries: a message, or messages that are aggregated
pub data Carried : Type 0 where
  single : SentMessage → Carried
  aggregated : List SentMessage → Carried

abbrev pub carried_messages : Carried → List SentMessage
carried_messages (single m) = m ∷ []
carried_messages (aggregated ms) = ms

abbrev pub aggregation_flag : Carried → ℕ
aggregation_flag (single m) = 0
aggregation_flag (aggregated ms) = 1

-- the length before an aggregated message: 16 bits, or 32 with the length extension flag
abbrev pub length_bytes : ℕ → ℕ
length_bytes extension = if extension =? 1 then 4 else 2

abbrev pub aggregated_sent : ℕ → List SentMessage → List ℕ
aggregated_sent w [] = []
aggregated_sent w (m ∷ ms) = written (field w (length (message_sent m)) ∷ []) ++ (message_sent m ++ aggregated_sent w ms)

-- what stands behind the two bytes of a payload's header; divided or not
pub record SentContent : Type 0 where
  pub extension : ℕ
  pub carried : Carried

abbrev pub carried_sent : ℕ → Carried → List ℕ
carried_sent w (single m) = message_sent m
carried_sent w (aggregated ms) = aggregated_sent w ms

abbrev pub content_sent : SentContent → List ℕ
content_sent c = carried_sent (length_bytes c.extension) c.carried

-- division index 2 bits, reserved 4, length extension flag 1, aggregation flag 1, division number counter 8
abbrev pub control_fields : ℕ → ℕ → SentContent → ℕ → List Field
control_fields division reserved c counter =
    field 1 (packed (bits 2 division ∷ bits 4 reserved ∷ bits 1 c.extension ∷ bits 1 (aggregation_flag c.carried) ∷ []))
    ∷ field 1 counter
    ∷ []

-- an undivided payload: division index 0
pub record SentControl : Type 0 where
  pub reserved : ℕ
  pub counter : ℕ
  pub content : SentContent

unfoldable pub control_sent : SentControl → List ℕ
control_sent p = written (control_fields 0 p.reserved p.content p.counter) ++ content_sent p.content

-- an aggregated message's length fits
abbrev pub Sized : ℕ → List SentMessage → Type 0
Sized w ms = All (λ m. length (message_sent m) < 256 ^ w) ms

abbrev pub CarriedConforming : ℕ → Carried → Type 0
CarriedConforming w (single m) = MessageConforming m
CarriedConforming w (aggregated ms) = All MessageConforming ms × Sized w ms × (0 < length ms)

pub record ContentConforming (c : SentContent) : Type 0 where
  pub extension : c.extension < 2
  pub carried : CarriedConforming (length_bytes c.extension) c.carried

pub record ControlConforming (p : SentControl) : Type 0 where
  pub reserved : p.reserved < 2 ^ 4
  pub counter : p.counter < 2 ^ 8
  pub content : ContentConforming p.content

abbrev pub content_tables : SentContent → List Bytes
content_tables c = tables_of_messages (carried_messages c.carried)

-- the message as it is read: its flags and bytes
abbrev pub content_seen : SentContent → PartialMessage
content_seen c =
    record { long = c.extension =? 1; aggregated = aggregation_flag c.carried =? 1; bytes = content_sent c }

pub record ContentRead (c : SentContent) : Type 0 where
  pub tables : cut_of (content_seen c) ≡ all_read_of (content_tables c)

-- what the model makes of a packet id's message packets in turn: messages made whole, their tables, what is counted, and what is
-- being joined in the end
pub record Joined : Type 0 where
  pub messages : List PartialMessage
  pub tables : List Bytes
  pub orphans : ℕ
  pub oversizes : ℕ
  pub malformed : ℕ
  pub left : Reassembly

abbrev pub also_whole : Option PartialMessage → List PartialMessage → List PartialMessage
also_whole None l = l
also_whole (Some j) l = j ∷ l

abbrev pub joined_by : Reassembly → List MessagePacket → Joined
joined_by l [] = record { messages = []; tables = []; orphans = 0; oversizes = 0; malformed = 0; left = l }
joined_by l (x ∷ xs) =
    let r = joined_by (reassembly_after l x) xs in
    record {
      messages = also_whole (message_completed l x) r.messages;
      tables = (cut_of_all (message_completed l x)).tables ++ r.tables;
      orphans = one (orphan l x) + r.orphans;
      oversizes = one (oversize l x) + r.oversizes;
      malformed = one (short x) + (cut_of_all (message_completed l x)).malformed + r.malformed;
      left = r.left;
    }

-- a content is the one message that becomes whole, its tables are the sender's, nothing else is counted, and nothing is left after
-- the packet with the number `n`
abbrev pub joined_whole : SentContent → ℕ → Joined
joined_whole c n =
    record {
      messages = content_seen c ∷ [];
      tables = content_tables c;
      orphans = 0;
      oversizes = 0;
      malformed = 0;
      left = record { number = Some n; partial = None };
    }

-- whatever was being joined
pub record ControlRead (p : SentControl) : Type 0 where
  pub header : fragment_of (slice_index (control_sent p) 0) ≡ record {
    division = Undivided;
    long_length = p.content.extension =? 1;
    aggregated = aggregation_flag p.content.carried =? 1;
  }
  pub message : (id number : ℕ) (l : Reassembly)
      → message_completed l (message_packet id number (control_sent p)) ≡ Some (content_seen p.content)
  pub tables : (id number : ℕ) (l : Reassembly)
      → cut_of_all (message_completed l (message_packet id number (control_sent p))) ≡ all_read_of (content_tables p.content)
  pub given : (id number : ℕ) (l : Reassembly)
      → tables_given l (message_packet id number (control_sent p)) ≡ map table_read (content_tables p.content)
  pub joined : (id number : ℕ) (l : Reassembly)
      → joined_by l (message_packet id number (control_sent p) ∷ []) ≡ joined_whole p.content number

-- the reading of `mmtp::messages`: a message's id and the ids of its tables, of a PA message both those listed and those of the
-- tables themselves
abbrev pub table_ids : List SentTable → List ℕ
table_ids ts = map (λ t. t.id) ts

abbrev pub message_seen : SentMessage → Message
message_seen (pa v ts) = record { id = 0x0000; tables = set_of (table_ids ts ++ table_ids ts) }
message_seen (m2_section v t) = record { id = 0x8000; tables = set_of (slice_index t 0 ∷ []) }
message_seen (ca v t) = record { id = 0x8001; tables = set_of (slice_index t 0 ∷ []) }
message_seen (m2_short_section v t) = record { id = 0x8002; tables = set_of (slice_index t 0 ∷ []) }

pub record ControlListed (p : SentControl) : Type 0 where
  pub messages : messages_of (control_sent p) ≡ Some (map message_seen (carried_messages p.content.carried))

-- a divided content: parts of it in payloads of division index 1, 2 and 3, each behind a header of its own
pub record SentPart : Type 0 where
  pub reserved : ℕ
  pub counter : ℕ
  pub bytes : List ℕ

pub record SentDivided : Type 0 where
  -- packet id, and packet sequence number of the first part
  pub id : ℕ
  pub number : ℕ
  pub content : SentContent
  pub first : SentPart
  pub middle : List SentPart
  pub last : SentPart

abbrev pub part_sent : ℕ → SentContent → SentPart → List ℕ
part_sent division c p = written (control_fields division p.reserved c p.counter) ++ p.bytes

-- packet sequence numbers follow one another modulo 2 ^ 32 (ISO/IEC 23008-1)
abbrev pub number_behind_of : ℕ → ℕ
number_behind_of n = (n + 1) % 2 ^ 32

abbrev pub rest_sent : ℕ → ℕ → SentContent → List SentPart → SentPart → List MessagePacket
rest_sent id n c [] p = message_packet id n (part_sent 3 c p) ∷ []
rest_sent id n c (q ∷ qs) p = message_packet id n (part_sent 2 c q) ∷ rest_sent id (number_behind_of n) c qs p

abbrev pub divided_sent : SentDivided → List MessagePacket
divided_sent d =
    message_packet d.id d.number (part_sent 1 d.content d.first)
    ∷ rest_sent d.id (number_behind_of d.number) d.content d.middle d.last

abbrev pub rest_bytes : List SentPart → SentPart → List ℕ
rest_bytes [] p = p.bytes
rest_bytes (q ∷ qs) p = q.bytes ++ rest_bytes qs p

pub record PartConforming (p : SentPart) : Type 0 where
  pub reserved : p.reserved < 2 ^ 4
  pub counter : p.counter < 2 ^ 8

pub record DividedConforming (d : SentDivided) : Type 0 where
  pub id : d.id < 2 ^ 16
  pub number : d.number < 2 ^ 32
  pub content : ContentConforming d.content
  pub first : PartConforming d.first
  pub middle : All PartConforming d.middle
  pub last : PartConforming d.last
  -- the parts make up the content
  pub whole : d.first.bytes ++ rest_bytes d.middle d.last ≡ content_sent d.content

-- from whatever was being joined
pub record DividedRead (d : SentDivided) : Type 0 where
  pub joined : (l : Reassembly) → joined_by l (divided_sent d) ≡ joined_whole d.content ((d.number + length d.middle + 1) % 2 ^ 32)

-- proved in proofs/StdB60Messages.antt
abbrev pub MessageTheorem : Type 0
MessageTheorem = (m : SentMessage) → MessageConforming m → MessageRead m

abbrev pub ContentTheorem : Type 0
ContentTheorem = (c : SentContent) → ContentConforming c → ContentRead c

abbrev pub ControlTheorem : Type 0
ControlTheorem = (p : SentControl) → ControlConforming p → ControlRead p

-- up to the largest message that is joined
abbrev pub DividedTheorem : Type 0
DividedTheorem = (d : SentDivided) → DividedConforming d → length (content_sent d.content) ≤ 1048576 → DividedRead d

-- proved in proofs/StdB60MessageIds.antt
abbrev pub ListedTheorem : Type 0
ListedTheorem = (p : SentControl) → ControlConforming p → ControlListed p

-- witnesses: payloads that conform, with their bytes
abbrev pub pa_witness : SentMessage
pa_witness =
    pa 0
    (record { id = 0x20; version = 3; content = 0x01 ∷ []; listed = 1 }
    ∷ record { id = 0x80; version = 1; content = 0xAA ∷ 0xBB ∷ []; listed = 2 }
    ∷ [])

abbrev pub undivided_witness : SentControl
undivided_witness = record { reserved = 0; counter = 0; content = record { extension = 0; carried = single pa_witness } }

abbrev pub undivided_bytes : List ℕ
undivided_bytes =
    0x00 ∷ 0x00 ∷ 0x00 ∷ 0x00 ∷ 0x00 ∷ 0x00 ∷ 0x00 ∷ 0x00 ∷ 0x14 ∷ 0x02 ∷ 0x20 ∷ 0x03 ∷ 0x00 ∷ 0x01 ∷ 0x80 ∷ 0x01 ∷ 0x00 ∷ 0x02
    ∷ 0x20 ∷ 0x03 ∷ 0x00 ∷ 0x01 ∷ 0x01 ∷ 0x80 ∷ 0x01 ∷ 0x00 ∷ 0x02 ∷ 0xAA ∷ 0xBB ∷ []

-- a PA message and an M2 section message, each behind a length of 32 bits
abbrev pub aggregated_witness : SentControl
aggregated_witness =
    record {
      reserved = 0;
      counter = 0;
      content =
          record {
            extension = 1;
            carried =
                aggregated
                (pa 0 (record { id = 0x20; version = 3; content = 0x01 ∷ []; listed = 1 } ∷ [])
                ∷ m2_section 0 (0x9F ∷ 0xB0 ∷ 0x09 ∷ 0x12 ∷ 0x34 ∷ 0xC5 ∷ 0x00 ∷ 0x00 ∷ 0xC2 ∷ 0x1D ∷ 0x88 ∷ 0xFA ∷ [])
                ∷ []);
          };
    }

abbrev pub aggregated_bytes : List ℕ
aggregated_bytes =
    0x03 ∷ 0x00
    ∷ 0x00 ∷ 0x00 ∷ 0x00 ∷ 0x11 ∷ 0x00 ∷ 0x00 ∷ 0x00 ∷ 0x00 ∷ 0x00 ∷ 0x00 ∷ 0x0A ∷ 0x01 ∷ 0x20 ∷ 0x03 ∷ 0x00 ∷ 0x01
    ∷ 0x20 ∷ 0x03 ∷ 0x00 ∷ 0x01 ∷ 0x01
    ∷ 0x00 ∷ 0x00 ∷ 0x00 ∷ 0x11 ∷ 0x80 ∷ 0x00 ∷ 0x00 ∷ 0x00 ∷ 0x0C
    ∷ 0x9F ∷ 0xB0 ∷ 0x09 ∷ 0x12 ∷ 0x34 ∷ 0xC5 ∷ 0x00 ∷ 0x00 ∷ 0xC2 ∷ 0x1D ∷ 0x88 ∷ 0xFA ∷ []

-- a value that conforms, and the bytes of it
pub record Witness (p : SentControl) (b : List ℕ) : Type 0 where
  pub conforms : ControlConforming p
  pub bytes : control_sent p ≡ b

-- the first witness's message in three parts, over the end of the packet numbers
abbrev pub divided_witness : SentDivided
divided_witness =
    record {
      id = 0x8001;
      number = 0xFFFFFFFF;
      content = undivided_witness.content;
      first =
          record {
            reserved = 0;
            counter = 2;
            bytes = 0x00 ∷ 0x00 ∷ 0x00 ∷ 0x00 ∷ 0x00 ∷ 0x00 ∷ 0x14 ∷ 0x02 ∷ 0x20 ∷ 0x03 ∷ [];
          };
      middle =
          record {
            reserved = 0;
            counter = 1;
            bytes = 0x00 ∷ 0x01 ∷ 0x80 ∷ 0x01 ∷ 0x00 ∷ 0x02 ∷ 0x20 ∷ 0x03 ∷ 0x00 ∷ 0x01 ∷ [];
          }
          ∷ [];
      last = record { reserved = 0; counter = 0; bytes = 0x01 ∷ 0x80 ∷ 0x01 ∷ 0x00 ∷ 0x02 ∷ 0xAA ∷ 0xBB ∷ [] };
    }

abbrev pub divided_packets : List MessagePacket
divided_packets =
    message_packet 0x8001 0xFFFFFFFF (0x40 ∷ 0x02 ∷ 0x00 ∷ 0x00 ∷ 0x00 ∷ 0x00 ∷ 0x00 ∷ 0x00 ∷ 0x14 ∷ 0x02 ∷ 0x20 ∷ 0x03 ∷ [])
    ∷ message_packet 0x8001 0 (0x80 ∷ 0x01 ∷ 0x00 ∷ 0x01 ∷ 0x80 ∷ 0x01 ∷ 0x00 ∷ 0x02 ∷ 0x20 ∷ 0x03 ∷ 0x00 ∷ 0x01 ∷ [])
    ∷ message_packet 0x8001 1 (0xC0 ∷ 0x00 ∷ 0x01 ∷ 0x80 ∷ 0x01 ∷ 0x00 ∷ 0x02 ∷ 0xAA ∷ 0xBB ∷ [])
    ∷ []

pub record DividedWitness (d : SentDivided) (xs : List MessagePacket) : Type 0 where
  pub conforms : DividedConforming d
  pub short : length (content_sent d.content) ≤ 1048576
  pub packets : divided_sent d ≡ xs
