-- Worked cases, proved as one table by computation: the lengths of descriptors, and feeds from their bytes through `classify` and
-- `pushed`, with the readings that are easily got wrong. Those of messages and sections are in ControlCases.
use Rattle.isdb_tlv.specs.declared.ip.IpError.{IpError}
use Rattle.isdb_tlv.specs.declared.ip.Datagram.{Datagram}
use Rattle.std.specs.Prelude.{ℕ, Bool, true, false, List, [], ◌∷◌, ◌++◌, map, replicate, refl, Err, None, Result, Some, Option}
use Rattle.isdb_mmt.specs.Examples.Worked.{Case, ◌⇒◌, Holds}
use Rattle.isdb_tlv.specs.Fields.{bytes_of}
use Rattle.isdb_tlv.specs.Bytes.{be}
use Rattle.isdb_tlv.specs.Crc.{feed, feed_byte, crc_of}
use Rattle.isdb_tlv.specs.Tlv.{packet_type}
use Rattle.isdb_tlv.specs.Ip.{compressed_of}
use Rattle.isdb_tlv.specs.Mmtp.{fec_type_of, payload_type_of, bits_of, entry, entries, extension_at, after_fixed, mmtp_of}
use Rattle.isdb_tlv.specs.Si.{is_tlv_si, section_at, sections_from, sections_of}
use Rattle.isdb_tlv.specs.declared.ip.IpError.TheVariants.{HeaderType}
use Rattle.isdb_mmt.specs.declared.desc.Descriptor.{Descriptor}
use Rattle.isdb_mmt.specs.declared.desc.Descriptor.TheVariants.{StreamIdentifier, Other}
use Rattle.isdb_mmt.specs.Formats.Part.{part_at, part_of}
use Rattle.isdb_mmt.specs.Formats.Desc.{length_width_of, step_at, split_from, split_of, stream_identifier, descriptor_of, descriptors_of}
use Rattle.isdb_mmt.specs.Formats.Mpu.{fragment_type_of, indicator, payload_header, unit_in, unit_at, unit_step, units_from, units_of, follows, lost_from}
use Rattle.isdb_mmt.specs.Formats.Section.{long_section_of, entry_at, entries_from, entries_told}
use Rattle.isdb_mmt.specs.Formats.Nit.{nit_body, nit_of}
use Rattle.isdb_mmt.specs.Formats.Sdt.{sdt_body, sdt_of}
use Rattle.isdb_mmt.specs.Formats.Mpt.{declared_length_of, mpt_assets, mpt_table, mpt_of}
use Rattle.isdb_mmt.specs.Formats.Message.{division_of, pa_tables, section_table, content_of, table_at, tables_from}
use Rattle.isdb_mmt.specs.Decoder.Packet.{Bytes, media_of, clear, readable, classify}
use Rattle.isdb_mmt.specs.Decoder.Maps.{find, put, or_else}
use Rattle.isdb_mmt.specs.Decoder.Objects.{Asset, Rec, fresh, gap, lost_by, grown, continued, effect_of, after_unit, object_of, unit_effect, after_units, delivered_by, new_mpu, jumped, mpu_after, range_after, malformed_payload, after_headers, asset_after, tagged, passes, media_gives}
use Rattle.isdb_mmt.specs.Decoder.Reassembly.{idle, part_before, joined_on, part_after, whole_of, reassembly_after, message_completed, orphan, oversize, tables_of, tables_of_all, messages_of, cut_of, cut_of_all}
use Rattle.isdb_mmt.specs.Decoder.Kept.{body_read, section_of, other_version, keep_if, keep, keep_all_of, zeros, table_counted, section_increments, table_by_id, table_read, table_increments, mpt_after, mpt_after_all, stored, stored_all, counted_all}
use Rattle.isdb_mmt.specs.Decoder.GivenTables.{tables_given}
use Rattle.isdb_mmt.specs.Decoder.Model.{State, Control, opened, idle_control, asset_of, control_of, packet_counted, message_counted, reassembly_counted, time_after, pushed, gives}
use Rattle.isdb_mmt.specs.Books.Book.{book, nothing, entered_all, entered, reception_log, log_entries, units_received, follower, drop_counted, in_order_of, missing, continued_by, delivered_of}
use Rattle.isdb_mmt.specs.Decoder.Needs.{Needs, needs, units_need, reassembly_needs, table_area_of, tables_need}
use Rattle.isdb_mmt.specs.declared.mpu.MfuHeader.{MfuHeader}
use Rattle.isdb_mmt.specs.Books.Demand.{Feed, packets_of, push_all, give_all, held_bytes}
use Rattle.isdb_mmt.specs.Pushes.Leaves.{joined_in as joining_in}

-- what a feed leaves of the media id F100h: packets, lost, scrambled, MPUs, malformed, objects delivered, dropped, the held one
pub record Left : Type 0 where
  pub packets : ℕ
  pub lost : ℕ
  pub scrambled : ℕ
  pub mpus : ℕ
  pub malformed : ℕ
  pub objects : List Bytes
  pub dropped : ℕ
  pub held : Option Bytes

abbrev pub id : ℕ
id = 0xF100

abbrev pub left_of : Bool → Feed → Asset → Left
left_of pass f a =
    record {
      packets = a.stats.packets;
      lost = a.stats.packets_lost;
      scrambled = a.stats.scrambled_packets;
      mpus = a.stats.mpus;
      malformed = a.stats.malformed;
      objects = delivered_of id (give_all (opened pass) (packets_of f));
      dropped = a.stats.mfus_dropped;
      held = held_bytes a.held;
    }

-- what is asked, and what is answered: the width of a tag's length, a loop's descriptors, their bodies' bytes; a compressed
-- packet's reading; of a feed the id's counts and objects, its book from the packets alone, the data of all records with
-- scrambled payloads passed on, all records under either setting, the id's MPU numbers, the IP errors, the sections' counts with
-- the versions kept, the sections' bytes kept, what is joined for the control id 8001h, and what a packet needs behind it
pub data Ask : Type 0 where
  width_of : ℕ → Ask
  decoded_of : Bytes → Ask
  bodies_of : Bytes → Ask
  read_as : Bytes → Ask
  left : Feed → Ask
  booked : Feed → Ask
  passed : Feed → Ask
  handed : Bool → Feed → Ask
  mpu_of : Feed → Ask
  ip_errors_of : Feed → Ask
  sections : Feed → Ask
  kept_of : Feed → Ask
  joined_of : Feed → Ask
  needed : Feed → ℕ × Bytes → Ask

pub data Told : Type 0 where
  width : ℕ → Told
  decoded : List Descriptor → Told
  bodies : List Bytes → Told
  ip : Result Datagram IpError → Told
  leaves : Left → Told
  books : List Bytes → ℕ → Option Bytes → Told
  given : List Bytes → Told
  records : List Rec → Told
  -- the last number, then the first and the last
  mpu : Option ℕ → Option (ℕ × ℕ) → Told
  errors : ℕ → Told
  tables : ℕ → ℕ → List ℕ → Told
  kept : List Bytes → Told
  -- orphans, malformed, the last number, what is being joined, the MPT
  joined : ℕ → ℕ → Option ℕ → Option Bytes → Option Bytes → Told
  asks : Needs → Told

-- what a state has joined for the control id, `c`
abbrev joined_in : State → Control → Told
joined_in s c =
    joined s.counters.orphan_fragments s.counters.message_malformed c.reassembly.number (joining_in c.reassembly.partial) c.mpt

unfoldable pub told : Ask → Told
unfolding bytes_of be feed feed_byte crc_of packet_type compressed_of fec_type_of payload_type_of bits_of entry entries extension_at after_fixed mmtp_of is_tlv_si section_at sections_from sections_of length_width_of step_at split_from split_of stream_identifier descriptor_of descriptors_of fragment_type_of indicator payload_header unit_in unit_at unit_step units_from units_of follows lost_from long_section_of entry_at entries_from entries_told nit_body nit_of sdt_body sdt_of declared_length_of mpt_assets mpt_table mpt_of division_of pa_tables section_table content_of table_at tables_from media_of classify find put or_else fresh gap lost_by grown continued effect_of after_unit object_of unit_effect after_units delivered_by clear readable new_mpu jumped mpu_after range_after malformed_payload after_headers asset_after tagged passes media_gives idle part_before joined_on part_after whole_of reassembly_after message_completed orphan oversize tables_of tables_of_all messages_of cut_of cut_of_all body_read section_of other_version keep_if keep keep_all_of zeros table_counted section_increments table_by_id table_read table_increments mpt_after mpt_after_all stored stored_all counted_all opened idle_control asset_of control_of packet_counted message_counted reassembly_counted tables_given time_after pushed gives book nothing entered_all entered reception_log log_entries units_received follower drop_counted in_order_of missing continued_by delivered_of needs units_need reassembly_needs table_area_of tables_need push_all give_all held_bytes
told (width_of t) = width (length_width_of t)
told (decoded_of s) = decoded (descriptors_of s)
told (bodies_of s) = bodies (map (λ r. part_of s r.body) (split_of s).found)
told (read_as b) = ip (compressed_of b)
told (needed f p) = asks (needs (push_all (opened false) (packets_of f)) (classify p.0 p.1))
told (left f) = leaves (left_of false f (asset_of id (push_all (opened false) (packets_of f))))
told (booked f) = books (book id (packets_of f)).delivered (book id (packets_of f)).dropped (book id (packets_of f)).held
told (passed f) = given (map (λ r. r.mfu.bytes) (give_all (opened true) (packets_of f)))
told (handed pass f) = records (give_all (opened pass) (packets_of f))
told (mpu_of f) =
    mpu (asset_of id (push_all (opened false) (packets_of f))).mpu (asset_of id (push_all (opened false) (packets_of f))).range
told (ip_errors_of f) = errors (push_all (opened false) (packets_of f)).counters.ip_errors
told (sections f) =
    tables (push_all (opened false) (packets_of f)).counters.version_changes (push_all (opened false) (packets_of f)).counters.malformed
    (map (λ e. e.1.version) (push_all (opened false) (packets_of f)).store.kept)
told (kept_of f) = kept (map (λ e. e.1.bytes) (push_all (opened false) (packets_of f)).store.kept)
told (joined_of f) = joined_in (push_all (opened false) (packets_of f)) (control_of 0x8001 (push_all (opened false) (packets_of f)))

-- a compressed packet of context 1 with an MMTP packet: first byte, payload type, packet id, number, what follows the twelve
-- bytes
abbrev pub compressed : ℕ → ℕ → ℕ → ℕ → Bytes → ℕ × Bytes
compressed flags type i number rest =
    (0x03, 0x00 ∷ 0x10 ∷ 0x61 ∷ flags ∷ type ∷ bytes_of 2 i ++ (0x00 ∷ 0x00 ∷ 0x00 ∷ 0x00 ∷ bytes_of 4 number ++ rest))

-- a media packet of the id: first byte, number, payload
abbrev pub mmtp : ℕ → ℕ → Bytes → ℕ × Bytes
mmtp flags number rest = compressed flags 0x00 id number rest

-- a payload of MPU 7 that declares `n` bytes, with a byte of flags
abbrev pub payload : ℕ → ℕ → Bytes → Bytes
payload n flags rest = 0x00 ∷ n ∷ flags ∷ 0x00 ∷ 0x00 ∷ 0x00 ∷ 0x00 ∷ 0x07 ∷ rest

-- a packet with one timed unit, whose data is two bytes; the flags say how it is divided
abbrev pub unit : ℕ → ℕ → Bytes → ℕ × Bytes
unit number flags d = mmtp 0x00 number (payload 22 flags (replicate 14 0x00 ++ d))

abbrev pub head_of : ℕ → Bytes → ℕ × Bytes
head_of n d = unit n 0x2A d

abbrev pub middle_of : ℕ → Bytes → ℕ × Bytes
middle_of n d = unit n 0x2C d

abbrev pub last_of : ℕ → Bytes → ℕ × Bytes
last_of n d = unit n 0x2E d

abbrev pub complete_of : ℕ → Bytes → ℕ × Bytes
complete_of n d = unit n 0x28 d

-- a payload whose unit is a byte short
abbrev pub unreadable : ℕ → ℕ × Bytes
unreadable n = mmtp 0x00 n (payload 19 0x2A (replicate 13 0x00))

-- scrambled by an extension of type 0 with one entry of type 1, bits 3
abbrev pub scrambled_of : ℕ → Bytes → ℕ × Bytes
scrambled_of n p = mmtp 0x02 n (0x00 ∷ 0x00 ∷ 0x00 ∷ 0x05 ∷ 0x80 ∷ 0x01 ∷ 0x00 ∷ 0x01 ∷ 0x18 ∷ p)

abbrev pub ab : Bytes
ab = 0xAA ∷ 0xBB ∷ []

abbrev pub cd : Bytes
cd = 0xCC ∷ 0xDD ∷ []

-- scrambled, with a unit that could be read
abbrev pub scrambled_unit : ℕ × Bytes
scrambled_unit = scrambled_of 5 (payload 22 0x28 (replicate 14 0x00 ++ ab))

-- the bytes 1 to 14, and the MFU header that they are
abbrev pub one_to14 : Bytes
one_to14 =
    0x01 ∷ 0x02 ∷ 0x03 ∷ 0x04 ∷ 0x05 ∷ 0x06 ∷ 0x07 ∷ 0x08 ∷ 0x09 ∷ 0x0A ∷ 0x0B ∷ 0x0C ∷ 0x0D ∷ 0x0E ∷ []

abbrev pub header : MfuHeader
header =
    record {
      movie_fragment_sequence_number = 0x01020304;
      sample_number = 0x05060708;
      offset = 0x090A0B0C;
      priority = 13;
      dependency_counter = 14;
    }

-- a record of the id, MPU 7, with or without an MFU header
abbrev pub record_of : Bool → Option MfuHeader → Bytes → Rec
record_of hidden h d =
    record { id = id; scrambled = hidden; mfu = record { mpu = 7; rap = false; mfu = h; item_id = None; bytes = d } }

-- nothing scrambled, one MPU: packets, lost, malformed, objects, dropped, held
abbrev pub clearly : ℕ → ℕ → ℕ → List Bytes → ℕ → Option Bytes → Told
clearly p l m os d h =
    leaves
    (record { packets = p; lost = l; scrambled = 0; mpus = 1; malformed = m; objects = os; dropped = d; held = h })

-- of a media packet: new media ids, the longest object, records, data bytes
abbrev pub media_needs : ℕ → ℕ → ℕ → ℕ → Needs
media_needs i o r d =
    record { media_ids = i; control_ids = 0; sections = 0; object = o; message = 0; table = 0; records = r; data_bytes = d }

abbrev cases : List (Case Ask Told)
cases =
    (width_of 0x3FFF ⇒ width 1)
    ∷ (width_of 0x4000 ⇒ width 2)
    ∷ (width_of 0x6FFF ⇒ width 2)
    ∷ (width_of 0x7000 ⇒ width 4)
    ∷ (width_of 0x7FFF ⇒ width 4)
    ∷ (width_of 0x8000 ⇒ width 1)
    ∷ (width_of 0xEFFF ⇒ width 1)
    ∷ (width_of 0xF000 ⇒ width 2)
    ∷ (decoded_of (0x80 ∷ 0x11 ∷ 0x02 ∷ 0x00 ∷ 0x10 ∷ []) ⇒ decoded (StreamIdentifier 16 ∷ []))
    ∷ (decoded_of (0x80 ∷ 0x11 ∷ 0x01 ∷ 0x00 ∷ []) ⇒ decoded (Other 0x8011 (part_at 0 1) ∷ []))
    ∷ (bodies_of (0x80 ∷ 0x11 ∷ 0x01 ∷ 0x00 ∷ []) ⇒ bodies ((0x00 ∷ []) ∷ []))
    -- a header type that is not known
    ∷ (read_as (0x00 ∷ 0x10 ∷ 0x62 ∷ []) ⇒ ip (Err (HeaderType 0x62)))
    ∷ (ip_errors_of ((0x03, 0x00 ∷ 0x10 ∷ 0x62 ∷ []) ∷ []) ⇒ errors 1)
    -- a head at the last number, its last at 0: delivered, and nothing lost
    ∷ (left (head_of 4294967295 ab ∷ last_of 0 cd ∷ []) ⇒ clearly 2 0 0 ((ab ++ cd) ∷ []) 0 None)
    ∷ (booked (head_of 4294967295 ab ∷ last_of 0 cd ∷ []) ⇒ books ((ab ++ cd) ∷ []) 0 None)
    -- two packets lost; a repeated number is a gap, and what is held is dropped
    ∷ (left (head_of 5 ab ∷ last_of 8 cd ∷ []) ⇒ clearly 2 2 0 [] 1 None)
    ∷ (left (head_of 5 ab ∷ last_of 5 cd ∷ []) ⇒ clearly 2 1048576 0 [] 1 None)
    ∷ (booked (head_of 5 ab ∷ last_of 5 cd ∷ []) ⇒ books [] 1 None)
    -- a whole unit, a head, and a last behind a gap
    ∷ (left (complete_of 5 ab ∷ head_of 6 ab ∷ last_of 8 ab ∷ []) ⇒ clearly 3 1 0 (ab ∷ []) 1 None)
    -- the header stands outside the declared length: the MPU is counted, then the payload is malformed; of metadata it is not
    ∷ (left (mmtp 0x00 5 (payload 0 0x20 []) ∷ []) ⇒ clearly 1 0 1 [] 0 None)
    ∷ (left (mmtp 0x00 5 (payload 0 0x00 []) ∷ []) ⇒ clearly 1 0 0 [] 0 None)
    -- a timed unit of 13 bytes, and of 14
    ∷ (left (mmtp 0x00 5 (payload 19 0x28 (replicate 13 0x00)) ∷ []) ⇒ clearly 1 0 1 [] 0 None)
    ∷ (left (mmtp 0x00 5 (payload 20 0x28 (replicate 14 0x00)) ∷ []) ⇒ clearly 1 0 0 ([] ∷ []) 0 None)
    -- an unreadable payload passes, and what is held stays
    ∷ (left (head_of 5 ab ∷ unreadable 6 ∷ last_of 7 cd ∷ []) ⇒ clearly 3 0 1 ((ab ++ cd) ∷ []) 0 None)
    ∷ (booked (head_of 5 ab ∷ unreadable 6 ∷ []) ⇒ books [] 0 (Some ab))
    -- a scrambled payload is passed on from byte 8 to its end, beyond the six bytes that it declares
    ∷ (passed (scrambled_of 5 (payload 6 0x28 ab) ∷ []) ⇒ given (ab ∷ []))
    -- a scrambled unit that could be read: counted, and handed out only as it is, where the session is set so
    ∷ (left (scrambled_unit ∷ []) ⇒ leaves (record { packets = 1; lost = 0; scrambled = 1; mpus = 1; malformed = 0; objects = []; dropped = 0; held = None }))
    ∷ (handed false (scrambled_unit ∷ []) ⇒ records [])
    ∷ (handed true (scrambled_unit ∷ []) ⇒ records (record_of true None (replicate 14 0x00 ++ ab) ∷ []))
    -- the five fields of an MFU's header; the MPU's number
    ∷ (handed false (mmtp 0x00 5 (payload 22 0x28 (one_to14 ++ ab)) ∷ []) ⇒ records (record_of false (Some header) ab ∷ []))
    ∷ (mpu_of (complete_of 5 ab ∷ []) ⇒ mpu (Some 7) (Some (7, 7)))
    -- a last needs room for what it joins; a whole unit for nothing but its record
    ∷ (needed (head_of 5 ab ∷ []) (last_of 6 cd) ⇒ asks (media_needs 0 4 1 4))
    ∷ (needed [] (complete_of 5 ab) ⇒ asks (media_needs 1 0 1 2))
    ∷ (needed [] (head_of 5 ab) ⇒ asks (media_needs 1 2 0 0))
    ∷ (needed (head_of 5 ab ∷ []) (middle_of 6 cd) ⇒ asks (media_needs 0 4 0 0))
    ∷ []

pub table : Holds told cases
unfolding told
table = refl
