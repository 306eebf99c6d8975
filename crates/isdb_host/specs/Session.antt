-- The calls on a session, as a host sees them: the limits it gives, and what each call writes to the numbers of its answer.
use Rattle.std.specs.Prelude.{ℕ, not, List, [], ◌∷◌, get_or, Option, Some, None, Result, Ok, Err, if◌then◌else◌, is_some, unwrap_or}
use Rattle.isdb_mmt.specs.declared.decoder.refusal.Refusal.{Refusal}
use Rattle.isdb_mmt.specs.Memory.Refusals.{number_of}
use Rattle.isdb_mmt.specs.declared.decoder.readings.Held.{Held}
use Rattle.isdb_mmt.specs.declared.decoder.readings.Held.TheVariants.{NoId, NoObject, Object}
use Rattle.isdb_mmt.specs.declared.decoder.counts.Counters.{Counters}
use Rattle.isdb_mmt.specs.declared.part.Part.{Part}
use Rattle.isdb_tlv.specs.Guards.{◌=?◌}
use Rattle.isdb_mmt.specs.Decoder.Packet.{Bytes}
use Rattle.isdb_mmt.specs.Memory.Session.{Session}
use Rattle.isdb_mmt.specs.Pushes.Push.{Input, Pushed}
use Rattle.isdb_mmt.specs.Pushes.PushAll.{AllPushed}
use Rattle.isdb_mmt.specs.Formats.Mpu.{header_or}
use Rattle.isdb_mmt.specs.declared.decoder.many.Pushes.{Pushes}
use Rattle.isdb_mmt.specs.declared.decoder.many.Halt.{Halt}
use Rattle.isdb_mmt.specs.declared.decoder.many.Halt.TheVariants.{End, Short, Bad, Full, Refused}
use Rattle.isdb_mmt.specs.declared.decoder.limits.Limits.{Limits}
use Rattle.isdb_mmt.specs.declared.decoder.limits.Lengths.{Lengths}
use Rattle.isdb_mmt.specs.declared.decoder.readings.MediaState.{MediaState}
use Rattle.isdb_mmt.specs.declared.decoder.readings.HeldObject.{HeldObject}
use Rattle.isdb_mmt.specs.declared.decoder.readings.ControlState.{ControlState}
use Rattle.isdb_mmt.specs.declared.decoder.readings.CarriedAsset.{CarriedAsset}
use Rattle.isdb_host.specs.Values.{Reply, says, code, one_number, nothing, no_id, Replied}
use Rattle.isdb_mmt.specs.Formats.Maybe.{flag_of, given}
use Rattle.isdb_host.specs.Fields.{first_mpu_of, last_mpu}

-- the limits that eight numbers say; scrambled payloads are passed on where the last is not 0
unfoldable pub limits_from : List ℕ → Limits
limits_from x =
    record {
      media_ids = get_or x 0 0;
      control_ids = get_or x 1 0;
      sections = get_or x 2 0;
      mfu_area = get_or x 3 0;
      message_area = get_or x 4 0;
      table_area = get_or x 5 0;
      packets = get_or x 6 0;
      pass_scrambled = not (get_or x 7 0 =? 0);
    }

-- an answer by its numbers, or why it was refused
abbrev pub answer_said : {A : Type 0} → (A → List ℕ) → Result A Refusal → Reply
answer_said numbers (Err e) = code (number_of e)
answer_said numbers (Ok x) = says (numbers x)

-- the same of a reading, which may find nothing
abbrev pub reading_said : {A : Type 0} → (A → List ℕ) → Result (Option A) Refusal → Reply
reading_said numbers (Err e) = code (number_of e)
reading_said numbers (Ok None) = nothing
reading_said numbers (Ok (Some x)) = says (numbers x)

-- a part by its place
abbrev pub part_numbers : Part → List ℕ
part_numbers p = p.start ∷ p.length ∷ []

-- how long the lent buffers have to be
abbrev pub length_numbers : Lengths → List ℕ
length_numbers x = x.state ∷ x.objects ∷ x.messages ∷ x.tables ∷ []

abbrev pub needed_said : Result Lengths Refusal → Reply
needed_said = answer_said length_numbers

-- ---- a push

-- how many records and data bytes, where it was taken
abbrev pub push_said : ℕ → ℕ → ℕ → Reply
push_said number records bytes = if not (number =? 0) then code number else says (records ∷ bytes ∷ [])

-- a push that returned `r`: what the library's push of it does, and the sixteen lent numbers before and after, `v` and `w`
pub record HostPushed (s : Session) (x : Input) (r : ℕ) (s' : Session) (rows' out' : Bytes) (v w : List ℕ) : Type 0 where
  pub records : ℕ
  pub bytes : ℕ
  pub pushed : Pushed s x r records bytes s' rows' out'
  pub replied : Replied (push_said r records bytes) r v w

-- ---- many packets

-- why it ended, and the number where a packet was turned down
abbrev pub halt_code : Halt → ℕ
halt_code End = 0
halt_code Short = 1
halt_code Bad = 2
halt_code Full = 3
halt_code (Refused e) = 4

abbrev pub halt_number : Halt → ℕ
halt_number End = 0
halt_number Short = 0
halt_number Bad = 0
halt_number Full = 0
halt_number (Refused e) = number_of e

-- the place in the input, packets, records and data bytes, and why it ended
abbrev pub all_said : Pushes → Reply
all_said a =
    says
    (a.progress.at
    ∷ a.progress.packets
    ∷ a.progress.records
    ∷ a.progress.bytes
    ∷ halt_code a.halt
    ∷ halt_number a.halt
    ∷ [])

-- a call that returned `r`: what the library's call does, and the sixteen lent numbers before and after, `v` and `w`
pub record HostPushedAll (s : Session) (input : Bytes) (most : ℕ) (rows out lines : Bytes) (r : ℕ) (s' : Session) (rows' out' lines' : Bytes) (v w : List ℕ) : Type 0 where
  pub pushes : Pushes
  pub pushed : AllPushed s input most rows out lines pushes s' rows' out' lines'
  pub replied : Replied (all_said pushes) r v w

-- ---- readings

-- the counts of the feed
abbrev pub counter_numbers : Counters → List ℕ
counter_numbers c =
    c.tlv_packets
    ∷ c.ip_errors
    ∷ c.non_mmtp
    ∷ c.ntp
    ∷ c.tables
    ∷ c.crc_errors
    ∷ c.malformed
    ∷ c.version_changes
    ∷ c.orphan_fragments
    ∷ c.oversize
    ∷ c.message_malformed
    ∷ c.split_errors
    ∷ []

abbrev pub counters_said : Result Counters Refusal → Reply
counters_said = answer_said counter_numbers

-- the last NTP timestamp
abbrev pub time_said : Result (Option ℕ) Refusal → Reply
time_said = reading_said one_number

-- tables of an id that are not decoded
abbrev pub count_said : Result ℕ Refusal → Reply
count_said = answer_said one_number

-- a packet id or a key
abbrev pub name_said : Result (Option ℕ) Refusal → Reply
name_said = reading_said one_number

-- a media packet id: its counts, the MPU numbers, the last packet's number, the length of the held object
abbrev pub media_numbers : MediaState → List ℕ
media_numbers m =
    m.stats.packets
    ∷ m.stats.packets_lost
    ∷ m.stats.scrambled_packets
    ∷ m.stats.mfus
    ∷ m.stats.scrambled_mfus
    ∷ m.stats.mfus_dropped
    ∷ m.stats.mpus
    ∷ m.stats.mpu_sequence_jumps
    ∷ m.stats.malformed
    ∷ given m.mpu_range
    ∷ first_mpu_of m.mpu_range
    ∷ last_mpu m.mpu_range
    ∷ given m.sequence
    ∷ unwrap_or m.sequence 0
    ∷ given m.held
    ∷ unwrap_or m.held 0
    ∷ []

abbrev pub media_said : Result (Option MediaState) Refusal → Reply
media_said = reading_said media_numbers

-- a held object: the fields of its first unit, and where its bytes lie in the lent objects
abbrev pub held_numbers : HeldObject → List ℕ
held_numbers o =
    o.mpu_sequence_number
    ∷ flag_of o.rap
    ∷ flag_of (is_some o.mfu)
    ∷ (header_or o.mfu).movie_fragment_sequence_number
    ∷ (header_or o.mfu).sample_number
    ∷ (header_or o.mfu).offset
    ∷ (header_or o.mfu).priority
    ∷ (header_or o.mfu).dependency_counter
    ∷ given o.item_id
    ∷ unwrap_or o.item_id 0
    ∷ o.bytes.start
    ∷ o.bytes.length
    ∷ []

abbrev pub held_said : Result Held Refusal → Reply
held_said (Err e) = code (number_of e)
held_said (Ok NoId) = no_id
held_said (Ok NoObject) = nothing
held_said (Ok (Object o)) = says (held_numbers o)

-- a packet id of control messages: the last packet's number, the length of the message being joined
abbrev pub control_numbers : ControlState → List ℕ
control_numbers c =
    given c.sequence ∷ unwrap_or c.sequence 0 ∷ given c.joined ∷ unwrap_or c.joined 0 ∷ []

abbrev pub control_said : Result (Option ControlState) Refusal → Reply
control_said = reading_said control_numbers

-- a kept table: where its bytes lie in the lent tables
abbrev pub table_said : Result (Option Part) Refusal → Reply
table_said = reading_said part_numbers

-- the asset that a packet id carries: the MPT, its service, and the asset, whose parts count in the MPT's bytes
abbrev pub asset_numbers : CarriedAsset → List ℕ
asset_numbers x =
    x.control_id
    ∷ x.mpt.start
    ∷ x.mpt.length
    ∷ given x.service_id
    ∷ unwrap_or x.service_id 0
    ∷ x.asset.identifier_type
    ∷ x.asset.asset_id_scheme
    ∷ x.asset.asset_id.start
    ∷ x.asset.asset_id.length
    ∷ x.asset.asset_type
    ∷ flag_of x.asset.clock_relation
    ∷ x.asset.locations
    ∷ x.asset.locations_start
    ∷ x.asset.descriptors.start
    ∷ x.asset.descriptors.length
    ∷ []

abbrev pub asset_said : Result (Option CarriedAsset) Refusal → Reply
asset_said = reading_said asset_numbers
