-- A push: what it is given, the question that it fails, what it leaves and hands out, and what holds of every list of accepted
-- pushes.
use Rattle.std.specs.Prelude.{◌≡◌, ℕ, ◌+◌, ◌*◌, ◌<◌, ◌≤◌, Bool, true, false, not, List, [], ◌∷◌, ◌++◌, map, length, ◌≢◌}
use Rattle.isdb_tlv.specs.Guards.{◌<?◌, ◌≤?◌, ◌=?◌}
use Rattle.std.specs.Prelude.{if◌then◌else◌}
use Rattle.isdb_mmt.specs.Decoder.Packet.{Bytes, Packet, classify}
use Rattle.isdb_mmt.specs.Decoder.Objects.{Rec}
use Rattle.isdb_mmt.specs.Decoder.Model.{opened, pushed, gives}
use Rattle.isdb_mmt.specs.Decoder.Needs.{Needs, needs}
use Rattle.isdb_mmt.specs.Books.Demand.{push_all, give_all}
use Rattle.isdb_mmt.specs.Memory.Limits.{asked}
use Rattle.isdb_mmt.specs.Memory.Layout.{table_ids}
use Rattle.isdb_mmt.specs.Memory.Lent.{over}
use Rattle.isdb_mmt.specs.Memory.Session.{Session, limits_of, used_of, counters_of}
use Rattle.isdb_mmt.specs.Memory.Check.{lengths_of, sound, Sound}
use Rattle.isdb_mmt.specs.Memory.View.{view}
use Rattle.isdb_mmt.specs.Memory.Opening.{opened_session}
use Rattle.isdb_mmt.specs.Memory.Octets.{Octets, Lent}
use Rattle.isdb_mmt.specs.Pushes.Records.{row_size, rows_from, data_from, read_rows}
use Rattle.isdb_mmt.specs.Pushes.Leaves.{packet_leaves}
use Rattle.isdb_mmt.specs.declared.decoder.limits.Limits.{Limits}
use Rattle.isdb_mmt.specs.declared.decoder.head.Used.{Used}

-- what is given: the packet, and the two lent output buffers
pub record Input : Type 0 where
  pub kind : ℕ
  pub bytes : Bytes
  pub rows : Bytes
  pub out : Bytes

abbrev pub input : ℕ → Bytes → Bytes → Bytes → Input
input kind b rows out = record { kind = kind; bytes = b; rows = rows; out = out }

abbrev pub packet_of : Input → Packet
packet_of x = classify x.kind x.bytes

-- the most bytes that a packet may have
abbrev pub most_bytes : ℕ
most_bytes = 65535

-- questions 8, 9 and 10: a place for each id and key, an area for each object, message and table, room for records and data
unfoldable pub has_places : Limits → Used → Needs → Bool
has_places l u n =
    if not (u.media_ids + n.media_ids ≤? l.media_ids) then false
    else if not (u.control_ids + n.control_ids ≤? l.control_ids) then false
    else u.sections + n.sections ≤? l.sections

unfoldable pub has_areas : Limits → Needs → Bool
has_areas l n =
    if not (n.object ≤? l.mfu_area) then false
    else if not (n.message ≤? l.message_area) then false
    else n.table ≤? l.table_area

unfoldable pub has_outputs : ℕ → ℕ → Needs → Bool
has_outputs rows out n = if not (row_size * n.records ≤? rows) then false else n.data_bytes ≤? out

-- the first of 8 to 10 that is answered no, or 0
unfoldable pub asks_of : Session → ℕ → ℕ → Packet → ℕ
unfolding has_places has_areas has_outputs
asks_of s rows out p =
    if not (has_places (limits_of s.state) (used_of s.state) (needs (view s) p)) then 8
    else if not (has_areas (limits_of s.state) (needs (view s) p)) then 9
    else if not (has_outputs rows out (needs (view s) p)) then 10
    else 0

-- questions 6 to 10: the first that is answered no, or 0
unfoldable pub asks_later : Session → Input → ℕ
unfolding asks_of
asks_later s x =
    if not (length x.bytes ≤? most_bytes) then 6
    else if not ((counters_of s.state).tlv_packets <? (limits_of s.state).packets) then 7
    else asks_of s (length x.rows) (length x.out) (packet_of x)

-- the first question that is answered no, or 0
unfoldable pub asks : Session → Input → ℕ
unfolding asks_later
asks s x = if not (sound s) then 5 else asks_later s x

-- the questions answered yes, fact by fact
pub record Fits (s : Session) (rows out : ℕ) (p : Packet) : Type 0 where
  pub media : (used_of s.state).media_ids + (needs (view s) p).media_ids ≤ (limits_of s.state).media_ids
  pub controls : (used_of s.state).control_ids + (needs (view s) p).control_ids ≤ (limits_of s.state).control_ids
  pub sections : (used_of s.state).sections + (needs (view s) p).sections ≤ (limits_of s.state).sections
  pub object : (needs (view s) p).object ≤ (limits_of s.state).mfu_area
  pub message : (needs (view s) p).message ≤ (limits_of s.state).message_area
  pub table : (needs (view s) p).table ≤ (limits_of s.state).table_area
  pub records : row_size * (needs (view s) p).records ≤ rows
  pub data_bytes : (needs (view s) p).data_bytes ≤ out

pub record Taken (s : Session) (x : Input) : Type 0 where
  pub session : sound s ≡ true
  pub short : length x.bytes ≤ most_bytes
  pub packets : (counters_of s.state).tlv_packets < (limits_of s.state).packets
  pub fits : Fits s (length x.rows) (length x.out) (packet_of x)

-- what a packet is taken from: a session that passes question 5, and data that pass 6
pub record CanTakePacket (s : Session) (b : Bytes) : Type 0 where
  pub session : Sound s.state s.others (lengths_of s)
  pub others_long : length s.others ≡ table_ids
  pub short : length b ≤ most_bytes

-- a packet, questions 5 to 7 answered: the number `r`, how many records and data bytes, and what is lent after
pub record PacketPushed (s : Session) (rows out : Bytes) (p : Packet) (r records bytes : ℕ) (s' : Session) (rows' out' : Bytes) : Type 0 where
  pub number : r ≡ asks_of s (length rows) (length out) p
  -- turned down: nothing is changed or handed out
  pub same : (r ≢ 0) → s' ≡ s
  pub kept : (r ≢ 0) → (rows' ≡ rows) × (out' ≡ out)
  pub nothing : (r ≢ 0) → (records ≡ 0) × (bytes ≡ 0)
  -- taken
  pub session : r ≡ 0 → s' ≡ packet_leaves s p
  pub rows_are : r ≡ 0 → rows' ≡ over 0 (rows_from 0 (gives (view s) p)) rows
  pub data_are : r ≡ 0 → out' ≡ over 0 (data_from (gives (view s) p)) out
  pub counts : r ≡ 0 → (records ≡ (needs (view s) p).records) × (bytes ≡ (needs (view s) p).data_bytes)

-- a packet that hands nothing out
pub record QuietPushed (s : Session) (p : Packet) (r : ℕ) (s' : Session) : Type 0 where
  pub number : r ≡ asks_of s 0 0 p
  pub same : (r ≢ 0) → s' ≡ s
  pub session : r ≡ 0 → s' ≡ packet_leaves s p

-- a push; the session after is the model's
pub record Pushed (s : Session) (x : Input) (r records bytes : ℕ) (s' : Session) (rows' out' : Bytes) : Type 0 where
  pub number : r ≡ asks s x
  pub same : (r ≢ 0) → s' ≡ s
  pub kept : (r ≢ 0) → (rows' ≡ x.rows) × (out' ≡ x.out)
  pub nothing : (r ≢ 0) → (records ≡ 0) × (bytes ≡ 0)
  pub session : r ≡ 0 → s' ≡ packet_leaves s (packet_of x)
  pub rows_are : r ≡ 0 → rows' ≡ over 0 (rows_from 0 (gives (view s) (packet_of x))) x.rows
  pub data_are : r ≡ 0 → out' ≡ over 0 (data_from (gives (view s) (packet_of x))) x.out
  pub counts : r ≡ 0 → (records ≡ length (gives (view s) (packet_of x))) × (bytes ≡ (needs (view s) (packet_of x)).data_bytes)
  pub state : r ≡ 0 → view s' ≡ pushed (view s) (packet_of x)

-- ---- a push, taken or turned down, as its contract fixes it (law `push_determined`)

unfoldable pub leaves_of : Session → Input → Session
leaves_of s x = if asks s x =? 0 then packet_leaves s (packet_of x) else s

-- what it hands back: its number, how many records and data bytes, the output buffers
pub record Reply : Type 0 where
  pub number : ℕ
  pub records : ℕ
  pub bytes : ℕ
  pub rows : Bytes
  pub out : Bytes

abbrev pub replied : ℕ → ℕ → Input → List Rec → Reply
replied n bytes x rs =
    if n =? 0
    then record { number = 0; records = length rs; bytes = bytes; rows = over 0 (rows_from 0 rs) x.rows; out = over 0 (data_from rs) x.out }
    else record { number = n; records = 0; bytes = 0; rows = x.rows; out = x.out }

unfoldable pub reply_of : Session → Input → Reply
reply_of s x = replied (asks s x) (needs (view s) (packet_of x)).data_bytes x (gives (view s) (packet_of x))

-- ---- lists of accepted pushes

unfoldable pub leaves_all : Session → List Input → Session
leaves_all s [] = s
leaves_all s (x ∷ xs) = leaves_all (packet_leaves s (packet_of x)) xs

-- the records of one, read off the output buffers as it leaves them
unfoldable pub handed : Session → Input → List Rec
handed s x =
    read_rows (length (gives (view s) (packet_of x))) (over 0 (rows_from 0 (gives (view s) (packet_of x))) x.rows)
    (over 0 (data_from (gives (view s) (packet_of x))) x.out)

unfoldable pub handed_all : Session → List Input → List Rec
handed_all s [] = []
handed_all s (x ∷ xs) = handed s x ++ handed_all (packet_leaves s (packet_of x)) xs

-- each is accepted by the session that those before it leave
abbrev pub AllTaken : Session → List Input → Type 0
AllTaken s [] = Unit {0}
AllTaken s (x ∷ xs) = (asks s x ≡ 0) × AllTaken (packet_leaves s (packet_of x)) xs

abbrev pub AllBytes : List Input → Type 0
AllBytes [] = Unit {0}
AllBytes (x ∷ xs) = Octets x.bytes × AllBytes xs

abbrev pub packets_of : List Input → List Packet
packets_of xs = map packet_of xs

-- demand 2: after every list of accepted pushes from an opened session, all that the session says (counters and kept tables among
-- it) is the model's state, and the records handed out, with their data, are the model's
pub record AsModel (pass : Bool) (s : Session) (xs : List Input) : Type 0 where
  pub state : view (leaves_all s xs) ≡ push_all (opened pass) (packets_of xs)
  pub records : handed_all s xs ≡ give_all (opened pass) (packets_of xs)

abbrev pub Demand2 : Type 0
Demand2 = (l : Limits) (s : Session) → asked l (lengths_of s) ≡ 0 → Lent s → (xs : List Input) → AllBytes xs
    → AllTaken (opened_session l s) xs → AsModel l.pass_scrambled (opened_session l s) xs
