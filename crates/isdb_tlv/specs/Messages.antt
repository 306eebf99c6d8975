-- The control messages of an undivided payload: their ids and the ids of the tables that they carry.
-- ARIB STD-B32 Part 3, Figure 2 (the payload) and STD-B60, 4.2 and 7.2.3, Tables 4-6 and 4-8 (the messages).
use Rattle.std.specs.Prelude.{ℕ, ◌+◌, ◌-◌, ◌*◌, ◌/◌, ◌%◌, ◌^◌, List, [], ◌∷◌, ◌++◌, Bool, length, take, drop, get_or, set, min, None, Some, Option}
use Rattle.isdb_tlv.specs.Guards.{◌<?◌, ◌≤?◌, ◌=?◌, ◌≠?◌}
use Rattle.std.specs.Prelude.{if◌then◌else◌}
use Rattle.isdb_tlv.specs.Bytes.{be, with_bit_of}
use Rattle.isdb_tlv.specs.Walk.{Next, stop, more, run, walk, also, count_of}
use Rattle.isdb_tlv.specs.declared.mmtp.TableIds.{TableIds}
use Rattle.isdb_tlv.specs.declared.mmtp.Message.{Message}
use Rattle.isdb_tlv.specs.declared.mmtp.MessageStep.{MessageStep}
use Rattle.isdb_tlv.specs.declared.mmtp.MessageStep.TheVariants.{Refused, End, Found}

-- a set of table ids: bit i of word k stands for the id 64 k + i
abbrev pub no_table_ids : TableIds
no_table_ids = record { words = 0 ∷ 0 ∷ 0 ∷ 0 ∷ [] }

-- word `k`; the last for any number from 3 on
abbrev pub word_of : TableIds → ℕ → ℕ
word_of t k = get_or t.words (min k 3) 0

unfoldable pub has : TableIds → ℕ → Bool
has t id = word_of t (id / 64) / 2 ^ (id % 64) % 2 =? 1

abbrev pub with_word : TableIds → ℕ → ℕ → TableIds
with_word t k w = record { words = set t.words (min k 3) w }

unfoldable pub insert : ℕ → TableIds → TableIds
insert id t = with_word t (id / 64) (with_bit_of (word_of t (id / 64)) (id % 64))

abbrev pub insert_all : List ℕ → TableIds → TableIds
insert_all [] t = t
insert_all (id ∷ ids) t = insert_all ids (insert id t)

-- where all are below 256, the set has these and no others (SetIsList of specs/Facts)
unfoldable pub set_of : List ℕ → TableIds
set_of ids = insert_all ids no_table_ids

-- the messages' ids (Table 4-6); CA, 0x8001, lies between the last two
abbrev pub pa_message_id : ℕ
pa_message_id = 0x0000

abbrev pub m2_section_message_id : ℕ
m2_section_message_id = 0x8000

abbrev pub m2_short_section_message_id : ℕ
m2_short_section_message_id = 0x8002

-- PA message: the table list has an entry of 4 bytes for each of `n` tables, its table id first; those from `at` on that
-- are present
abbrev pub listed_at : List ℕ → ℕ → Next (List ℕ)
listed_at s at =
    if length s ≤? at then stop []
    else more (at + 4) (λ ids. get_or s at 0 ∷ ids)

abbrev pub listed_from : ℕ → List ℕ → ℕ → List ℕ
listed_from n s at = run (listed_at s) (λ p. []) n at

-- a table: its id, a version, a length of 16 bits and so many bytes
abbrev pub table_id_at : List ℕ → ℕ → Next (List ℕ)
table_id_at s at =
    if length s - at <? 4 then stop []
    else more (at + 4 + be 2 s (at + 2)) (λ ids. get_or s at 0 ∷ ids)

-- the ids of the tables from `at` on, the last of which may run past the end
unfoldable pub walked_from : List ℕ → ℕ → List ℕ
walked_from s at = walk (table_id_at s) [] (length s) at

-- the table ids of a PA message's body: those of its table list, whose length is the first byte, and those of the tables
-- behind it
unfoldable pub pa_tables : List ℕ → List ℕ
pa_tables body = listed_from (get_or body 0 0) body 1 ++ walked_from body (1 + 4 * get_or body 0 0)

abbrev pub pa_body : List ℕ → Option Message
pa_body body =
    if length body =? 0 then None
    else Some (record { id = pa_message_id; tables = set_of (pa_tables body) })

-- PA message: id 16 bits, version 8, length 32, body, cut at the message's end
unfoldable pub pa_message : List ℕ → Option Message
pa_message m =
    if length m <? 7 then None
    else pa_body (take (be 4 m 3) (drop 7 m))

-- M2 section, CA and M2 short section message: id 16 bits, version 8, length 16, then a table, its id first
unfoldable pub section_message : List ℕ → ℕ → Option Message
section_message m id =
    if length m <? 6 then None
    else Some (record { id = id; tables = set_of (get_or m 5 0 ∷ []) })

abbrev pub other_message : ℕ → Option Message
other_message id = Some (record { id = id; tables = no_table_ids })

-- a message, by its id; others than these without tables
unfoldable pub message_of : List ℕ → Option Message
message_of m =
    if length m <? 2 then None
    else if be 2 m 0 =? pa_message_id then pa_message m
    else if be 2 m 0 <? m2_section_message_id then other_message (be 2 m 0)
    else if be 2 m 0 ≤? m2_short_section_message_id then section_message m (be 2 m 0)
    else other_message (be 2 m 0)

abbrev pub behind : ℕ → Option Message → MessageStep
behind end None = Refused
behind end (Some m) = Found m end

-- the message in the bytes from `at` to `end`
unfoldable pub message_in : List ℕ → ℕ → ℕ → MessageStep
message_in p at end = behind end (message_of (take (end - at) (drop at p)))

-- the message behind a length of `w` bytes
unfoldable pub prefixed_at : List ℕ → ℕ → ℕ → MessageStep
prefixed_at p at w =
    if length p - at <? w then Refused
    else if length p - (at + w) <? be w p at then Refused
    else message_in p (at + w) (at + w + be w p at)

-- a control payload: division index 2 bits, reserved 4, length extension flag 1, aggregation flag 1, division number
-- counter 8, then a message, or aggregated messages with a length of 2 or 4 bytes each
unfoldable pub message_at : List ℕ → ℕ → MessageStep
message_at p at =
    if get_or p 0 0 % 2 =? 0 then message_in p at (length p)
    else if get_or p 0 0 / 2 % 2 =? 0 then prefixed_at p at 2
    else prefixed_at p at 4

-- what stands at `at`: the first message, at 2, must be there, also for a place before it; another where bytes are left
unfoldable pub message_step : List ℕ → ℕ → MessageStep
message_step p at =
    if length p <? 2 then Refused
    else if get_or p 0 0 / 64 ≠? 0 then Refused
    else if at ≤? 2 then message_at p 2
    else if length p ≤? at then End
    else message_at p at

abbrev pub item : MessageStep → Next (Option (List Message))
item Refused = stop None
item End = stop (Some [])
item (Found m next) = more next (also m)

-- the messages from a place on; one that cannot be identified makes the whole refused
unfoldable pub messages_from : List ℕ → ℕ → Option (List Message)
messages_from p at = walk (λ q. item (message_step p q)) None (length p) at

unfoldable pub messages_of : List ℕ → Option (List Message)
messages_of p = messages_from p 2

unfoldable pub counted : Option (List Message) → Option ℕ
counted o = count_of None Some o
