-- The packets that are met most, told by a few tests: header-compressed IP without a header, MMTP without packet counter and extension, one
-- timed unit, for an id whose last packet was the one before it, of the same MPU: a whole unit where no object is held, or a middle part
-- where one is.
use Rattle.std.specs.Prelude.{◌≡◌, ℕ, ◌+◌, ◌-◌, ◌*◌, ◌/◌, ◌%◌, ◌<◌, ◌≤◌, Bool, true, false, not, List, length, drop, slice_index, slice_index_or, None, Option, Some}
use Rattle.isdb_tlv.specs.Guards.{◌<?◌, ◌≤?◌, ◌=?◌, ◌≠?◌}
use Rattle.std.specs.Prelude.{if◌then◌else◌}
use Rattle.isdb_tlv.specs.Bytes.{be}
use Rattle.isdb_tlv.specs.declared.mmtp.Header.{Header}
use Rattle.isdb_tlv.specs.declared.mmtp.FecType.TheVariants.{NotProtected}
use Rattle.isdb_tlv.specs.declared.mmtp.PayloadType.TheVariants.{Mpu}
use Rattle.isdb_mmt.specs.Decoder.Packet.{Bytes, media_of}
use Rattle.isdb_mmt.specs.Formats.Mpu.{payload_header, declared_of, follows}
use Rattle.isdb_mmt.specs.Memory.Layout.{most_media_ids, most_mfu_area, most_count, media_size, stats_place, state_size, table_ids}
use Rattle.isdb_mmt.specs.Memory.Session.{Session, limits_of, counters_of, media_at}
use Rattle.isdb_mmt.specs.Memory.Lent.{over}
use Rattle.isdb_mmt.specs.Memory.Check.{lengths_of, Sound}
use Rattle.isdb_mmt.specs.Memory.Octets.{Lent}
use Rattle.isdb_mmt.specs.Pushes.Records.{row_size}
use Rattle.isdb_mmt.specs.Pushes.MediaPush.{no_object, media_place_for, MediaPushed}
use Rattle.isdb_mmt.specs.Pushes.MediaPlace.{StatsWithin}
use Rattle.isdb_mmt.specs.Pushes.MediaCommit.{state_after, CanPushMedia}
use Rattle.isdb_mmt.specs.Pushes.Push.{Input, Pushed}
use Rattle.isdb_mmt.specs.declared.mpu.PayloadHeader.{PayloadHeader}
use Rattle.isdb_mmt.specs.declared.decoder.place.PlaceFor.TheVariants.{Own}
use Rattle.isdb_mmt.specs.declared.decoder.counts.AssetStats.{AssetStats}
use Rattle.isdb_mmt.specs.declared.decoder.media.Object.{Object}
use Rattle.isdb_mmt.specs.declared.decoder.media.Media.{Media}
use Rattle.isdb_mmt.specs.declared.decoder.plain.Plain.{Plain}
use Rattle.isdb_mmt.specs.declared.decoder.plain.Plain.TheVariants.{No, Yes, Grown}

-- ---- the tests

-- where an MPU payload starts in such a packet: behind 3 bytes of compressed IP and 12 of MMTP
abbrev pub payload_start : ℕ
payload_start = 15

-- compressed IP of header type 61h; MMTP of version 0 without counter and extension (Table 6-4); payload type 0
unfoldable pub is_mpu : ℕ → Bytes → Bool
is_mpu kind b =
    if kind ≠? 3 then false
    else if length b <? payload_start then false
    else if slice_index_or b 2 0 ≠? 0x61 then false
    else if 32 ≤? slice_index_or b 3 0 then false
    else if slice_index b 3 / 2 % 2 =? 1 then false
    else slice_index b 4 % 64 =? 0

-- the flags of a payload of type 2, timed, not aggregated (Table 6-1): undivided, or a middle part
abbrev pub whole_unit : ℕ
whole_unit = 0x28

abbrev pub middle_part : ℕ
middle_part = 0x2C

-- one unit under such flags, with room for the unit's header
unfoldable pub is_unit : ℕ → Bytes → Bool
is_unit flags p =
    if length p <? 22 then false
    else if be 2 p 0 <? 20 then false
    else if length p <? be 2 p 0 + 2 then false
    else slice_index_or p 2 0 =? flags

-- how many bytes of data it has
abbrev pub unit_bytes : Bytes → ℕ
unit_bytes p = be 2 p 0 - 20

-- the place: packet `n` of MPU `mpu` is the next one
unfoldable pub is_next : Media → ℕ → ℕ → Bool
is_next m n mpu =
    if not m.seen then false
    else if not m.mpu_seen then false
    else if m.mpu ≠? mpu then false
    else follows m.sequence n

-- it holds an object of timed units
unfoldable pub growing : Media → Bool
growing m =
    if not m.held then false
    else if not m.object.timed then false
    else not m.object.item

-- what is read of the MMTP header of such a packet; its FEC type is not looked at
abbrev pub plain_header : Bytes → Header
plain_header b =
    record {
      fec_type = NotProtected;
      rap = slice_index b 3 % 2 =? 1;
      payload_type = Mpu;
      packet_id = be 2 b 5;
      sequence = be 4 b 11;
      scramble_info = false;
      scramble_control = None;
    }

-- ---- the place after it

abbrev pub one_more_unit : AssetStats → AssetStats
one_more_unit s =
    record {
      packets = s.packets + 1;
      packets_lost = s.packets_lost;
      scrambled_packets = s.scrambled_packets;
      mfus = s.mfus + 1;
      scrambled_mfus = s.scrambled_mfus;
      mfus_dropped = s.mfus_dropped;
      mpus = s.mpus;
      mpu_sequence_jumps = s.mpu_sequence_jumps;
      malformed = s.malformed;
    }

unfoldable pub next_of : Media → ℕ → Media
next_of m n =
    record {
      packet_id = m.packet_id;
      seen = true;
      sequence = n;
      mpu_seen = true;
      mpu = m.mpu;
      first_mpu = m.first_mpu;
      held = false;
      object = no_object;
      stats = one_more_unit m.stats;
    }

-- with a middle part, the object has `k` bytes
abbrev pub one_more_packet : AssetStats → AssetStats
one_more_packet s =
    record {
      packets = s.packets + 1;
      packets_lost = s.packets_lost;
      scrambled_packets = s.scrambled_packets;
      mfus = s.mfus;
      scrambled_mfus = s.scrambled_mfus;
      mfus_dropped = s.mfus_dropped;
      mpus = s.mpus;
      mpu_sequence_jumps = s.mpu_sequence_jumps;
      malformed = s.malformed;
    }

abbrev pub timed_of : Object → ℕ → Object
timed_of o k =
    record {
      mpu_sequence_number = o.mpu_sequence_number;
      rap = o.rap;
      timed = true;
      header = o.header;
      item = false;
      item_id = 0;
      length = k;
    }

unfoldable pub grown_of : Media → ℕ → ℕ → Media
grown_of m n k =
    record {
      packet_id = m.packet_id;
      seen = true;
      sequence = n;
      mpu_seen = true;
      mpu = m.mpu;
      first_mpu = m.first_mpu;
      held = true;
      object = timed_of m.object k;
      stats = one_more_packet m.stats;
    }

-- ---- the steps

-- a count that can be raised
pub record CanRaise (l : List ℕ) (at : ℕ) : Type 0 where
  pub there : at + 8 ≤ length l
  pub small : be 8 l at ≤ most_count

-- a place's bytes, whose counts of packets and units can be raised
pub record CanStoreNext (p : List ℕ) : Type 0 where
  pub long : length p ≡ media_size
  pub packets : be 8 p stats_place ≤ most_count
  pub mfus : be 8 p (stats_place + 24) ≤ most_count

pub record CanStorePlain (l : List ℕ) (i : ℕ) : Type 0 where
  pub long : state_size ≤ length l
  pub index : i < most_media_ids
  pub modest : StatsWithin most_count (media_at l i).stats
  pub packets : (counters_of l).tlv_packets ≤ most_count

-- the place of an id whose next packet is `n` of MPU `mpu`, where it was found
abbrev pub NextAt : List ℕ → ℕ → ℕ → ℕ → Option ℕ → Type 0
NextAt l id n mpu None = Unit {0}
NextAt l id n mpu (Some i) = (media_place_for l id ≡ Own i) × ((is_next (media_at l i) n mpu ≡ true) × (i < most_media_ids))

-- a payload's header, where the place holds no object
abbrev pub FreeHeader : List ℕ → ℕ → Bytes → Option PayloadHeader → Type 0
FreeHeader l i b None = Unit {0}
FreeHeader l i b (Some x) = ((media_at l i).held ≡ false) × (payload_header b ≡ Some x)

-- the length of its object with `n` bytes more, where it holds one and they have room
pub record CanGrow (l : List ℕ) (i n : ℕ) : Type 0 where
  pub long : state_size ≤ length l
  pub index : i < most_media_ids
  pub area : (limits_of l).mfu_area ≤ most_mfu_area
  pub short : n ≤ 65535

abbrev pub GrownAt : List ℕ → ℕ → ℕ → Option ℕ → Type 0
GrownAt l i n None = Unit {0}
GrownAt l i n (Some k) = (growing (media_at l i) ≡ true) × ((k ≡ (media_at l i).object.length + n) × (k ≤ (limits_of l).mfu_area))

-- a middle part laid behind the object that a place holds
pub record CanCommitPart (l objects b : Bytes) (i k : ℕ) : Type 0 where
  pub store : CanStorePlain l i
  pub area : (limits_of l).mfu_area ≤ most_mfu_area
  pub long : 22 ≤ length (declared_of b)
  pub grown : k ≡ (media_at l i).object.length + (length (declared_of b) - 22)
  pub room : i * (limits_of l).mfu_area + k ≤ length objects

pub record PartLaid (l objects b : Bytes) (i n k : ℕ) (l' objects' : Bytes) : Type 0 where
  pub laid : objects' ≡ over (i * (limits_of l).mfu_area + (media_at l i).object.length) (drop 22 (declared_of b)) objects
  pub left : l' ≡ state_after l (grown_of (media_at l i) n k) (Own i)

-- a clear payload of one unit, and what is lent
pub record CanPushUnit (flags : ℕ) (s : Session) (h : Header) (p : Bytes) : Type 0 where
  pub can : CanPushMedia s p
  pub clear : h.scramble_info ≡ false
  pub unit : is_unit flags p ≡ true

-- with its place and its header, and room for its record
pub record WholeUnit (s : Session) (h : Header) (p rows out : Bytes) (i : ℕ) (x : PayloadHeader) : Type 0 where
  pub can : CanPushUnit whole_unit s h p
  pub own : media_place_for s.state h.packet_id ≡ Own i
  pub next : is_next (media_at s.state i) h.sequence (be 4 p 4) ≡ true
  pub free : (media_at s.state i).held ≡ false
  pub header : payload_header p ≡ Some x
  pub row : row_size ≤ length rows
  pub room : unit_bytes p ≤ length out

-- a middle part with its place, whose object has `k` bytes with it
pub record MiddlePart (s : Session) (h : Header) (b : Bytes) (i k : ℕ) : Type 0 where
  pub can : CanPushUnit middle_part s h b
  pub own : media_place_for s.state h.packet_id ≡ Own i
  pub next : is_next (media_at s.state i) h.sequence (be 4 b 4) ≡ true
  pub grows : growing (media_at s.state i) ≡ true
  pub grown : k ≡ (media_at s.state i).object.length + unit_bytes b
  pub room : k ≤ (limits_of s.state).mfu_area

-- room for the record of the one unit that `q` holds behind a payload's header
pub record RoomForUnit (q rows out : Bytes) : Type 0 where
  pub long : 22 ≤ length q
  pub short : length q ≤ 65537
  pub row : row_size ≤ length rows
  pub room : length q - 22 ≤ length out

-- nothing done, or the packet taken
pub record UnitPushed (s : Session) (h : Header) (p rows out : Bytes) (t : Plain) (s' : Session) (rows' out' : Bytes) : Type 0 where
  pub same : t ≡ No → (s' ≡ s) × ((rows' ≡ rows) × (out' ≡ out))
  pub taken : (n : ℕ) → t ≡ Yes n → MediaPushed s rows out (media_of h p) 0 1 n s' rows' out'
  pub grown : t ≡ Grown → MediaPushed s rows out (media_of h p) 0 0 0 s' rows' out'

-- ---- the packet

pub record CanTryPlain (s : Session) : Type 0 where
  pub session : Sound s.state s.others (lengths_of s)
  pub others_long : length s.others ≡ table_ids
  pub lent : Lent s

pub record PlainPushed (s : Session) (x : Input) (t : Plain) (s' : Session) (rows' out' : Bytes) : Type 0 where
  pub same : t ≡ No → (s' ≡ s) × ((rows' ≡ x.rows) × (out' ≡ x.out))
  pub taken : (n : ℕ) → t ≡ Yes n → Pushed s x 0 1 n s' rows' out'
  pub grown : t ≡ Grown → Pushed s x 0 0 0 s' rows' out'
