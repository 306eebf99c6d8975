-- Readings of a session: what each answers. Every one asks question 5 first (of a table also whether its kept bytes still parse);
-- it answers why it is turned down, that there is nothing, or the value.
use Rattle.std.specs.Prelude.{ℕ, zero, suc, ◌+◌, ◌*◌, ◌/◌, ◌^◌, Bool, false, List, [], ◌∷◌, length, slice_index, Option, Some, None, Result, Ok, Err, if◌then◌else◌}
use Rattle.std.specs.Bool.{then_some}
use Rattle.isdb_mmt.specs.declared.decoder.refusal.Refusal.{Refusal}
use Rattle.isdb_mmt.specs.declared.decoder.refusal.Refusal.TheVariants.{NotASession}
use Rattle.isdb_mmt.specs.declared.decoder.counts.Counters.{Counters}
use Rattle.isdb_tlv.specs.Guards.{◌<?◌, ◌=?◌}
use Rattle.isdb_mmt.specs.Decoder.Packet.{Bytes}
use Rattle.isdb_mmt.specs.Formats.Part.{part_at, part_of}
use Rattle.isdb_mmt.specs.Memory.Lent.{names_from, found_from}
use Rattle.isdb_mmt.specs.Memory.Layout.{media_places, media_size, control_places, control_size, section_places, section_size}
use Rattle.isdb_mmt.specs.Memory.Session.{Session, limits_of, used_of, latest_of, time_of, counters_of, media_at, control_at, section_at}
use Rattle.isdb_mmt.specs.Memory.Check.{sound}
use Rattle.isdb_mmt.specs.Memory.Refusals.{number_of}
use Rattle.isdb_mmt.specs.Memory.View.{header_given, item_given}
use Rattle.isdb_mmt.specs.Decoder.Kept.{parses_as, mpt_parses, plt_parses, tot_parses}
use Rattle.isdb_mmt.specs.Formats.Mpt.{mpt_of, service_id_of, locations_of, first_packet_id, assets_from}
use Rattle.isdb_mmt.specs.Formats.Plt.{plt_of}
use Rattle.isdb_mmt.specs.Formats.Tot.{tot_of}
use Rattle.isdb_mmt.specs.declared.part.Part.{Part}
use Rattle.isdb_mmt.specs.declared.table.mpt.Asset.{Asset}
use Rattle.isdb_mmt.specs.declared.decoder.limits.Limits.{Limits}
use Rattle.isdb_mmt.specs.declared.decoder.head.Time.{Time}
use Rattle.isdb_mmt.specs.declared.decoder.media.Media.{Media}
use Rattle.isdb_mmt.specs.declared.decoder.control.Control.{Control}
use Rattle.isdb_mmt.specs.declared.decoder.readings.MediaState.{MediaState}
use Rattle.isdb_mmt.specs.declared.decoder.readings.HeldObject.{HeldObject}
use Rattle.isdb_mmt.specs.declared.decoder.readings.Held.{Held}
use Rattle.isdb_mmt.specs.declared.decoder.readings.Held.TheVariants.{NoId, NoObject, Object}
use Rattle.isdb_mmt.specs.declared.decoder.readings.ControlState.{ControlState}
use Rattle.isdb_mmt.specs.declared.decoder.readings.CarriedAsset.{CarriedAsset}
use Rattle.isdb_mmt.specs.declared.table.mpt.Mpt.{Mpt}

-- the names in use, as they stand in the state
abbrev pub media_names : Session → List ℕ
media_names s = names_from (used_of s.state).media_ids media_size media_places s.state

abbrev pub control_names : Session → List ℕ
control_names s = names_from (used_of s.state).control_ids control_size control_places s.state

abbrev pub keys_in : Session → List ℕ
keys_in s = names_from (used_of s.state).sections section_size section_places s.state

-- which place has a name
unfoldable pub media_found : Session → ℕ → Option ℕ
media_found s i = found_from 0 (media_names s) i

unfoldable pub control_found : Session → ℕ → Option ℕ
control_found s i = found_from 0 (control_names s) i

unfoldable pub section_found : Session → ℕ → Option ℕ
section_found s k = found_from 0 (keys_in s) k

-- ---- counts and the time

unfoldable pub counters_read : Session → Result Counters Refusal
counters_read s = if sound s then Ok (counters_of s.state) else Err NotASession

abbrev pub time_at : Time → Option ℕ
time_at t = then_some t.seen t.timestamp

unfoldable pub time_read : Session → Result (Option ℕ) Refusal
time_read s = if sound s then Ok (time_at (time_of s.state)) else Err NotASession

unfoldable pub count_read : Session → ℕ → Result ℕ Refusal
count_read s id = if sound s then Ok (slice_index s.others id) else Err NotASession

-- ---- names in ascending order, one at a time

-- the least of some names that lies from `a` to `b`; `x` is the least so far
abbrev pub lesser : Option ℕ → ℕ → Option ℕ
lesser None y = Some y
lesser (Some x) y = if y <? x then Some y else Some x

unfoldable pub least_from : Option ℕ → ℕ → ℕ → List ℕ → Option ℕ
least_from x a b [] = x
least_from x a b (y ∷ ys) = if y <? a then least_from x a b ys else if b <? y then least_from x a b ys else least_from (lesser x y) a b ys

abbrev pub name_read : Session → List ℕ → ℕ → ℕ → Result (Option ℕ) Refusal
name_read s names a b = if sound s then Ok (least_from None a b names) else Err NotASession

-- the largest name
abbrev pub most_name : ℕ
most_name = 4294967295

-- names in ascending order, each once: the least, then the least above it, and so on
abbrev pub then_above : (ℕ → List ℕ) → Option ℕ → List ℕ
then_above go None = []
then_above go (Some x) = x ∷ go (x + 1)

unfoldable pub ascending_from : ℕ → ℕ → List ℕ → List ℕ
unfolding least_from
ascending_from zero a names = []
ascending_from (suc n) a names = then_above (λ x. ascending_from n x names) (least_from None a most_name names)

abbrev pub ascending : List ℕ → List ℕ
ascending names = ascending_from (length names) 0 names

unfoldable pub next_media_read : Session → ℕ → Result (Option ℕ) Refusal
next_media_read s a = name_read s (media_names s) a most_name

unfoldable pub next_control_read : Session → ℕ → Result (Option ℕ) Refusal
next_control_read s a = name_read s (control_names s) a most_name

-- a sort of tables is a range of keys: the table id is a key's high byte
unfoldable pub next_key_read : Session → ℕ → ℕ → Result (Option ℕ) Refusal
next_key_read s a b = name_read s (keys_in s) a b

-- ---- a media id and a control id

abbrev pub u32_if : Bool → ℕ → Option ℕ
u32_if t n = if t then Some n else None

abbrev pub media_state_of : Media → MediaState
media_state_of m =
    record {
      stats = m.stats;
      sequence = u32_if m.seen m.sequence;
      mpu_range = then_some m.mpu_seen (record { first = m.first_mpu; last = m.mpu });
      held = u32_if m.held m.object.length;
    }

abbrev pub media_if : Session → Option ℕ → Option MediaState
media_if s None = None
media_if s (Some i) = Some (media_state_of (media_at s.state i))

unfoldable pub media_read : Session → ℕ → Result (Option MediaState) Refusal
media_read s id = if sound s then Ok (media_if s (media_found s id)) else Err NotASession

-- the held object of media place `i` lies in area `i` of the objects
abbrev pub held_object_of : Limits → ℕ → Media → HeldObject
held_object_of l i m =
    record {
      mpu_sequence_number = m.object.mpu_sequence_number;
      rap = m.object.rap;
      mfu = header_given m.object.timed m.object.header;
      item_id = item_given m.object.item m.object.item_id;
      bytes = part_at (i * l.mfu_area) m.object.length;
    }

abbrev pub held_at : Limits → ℕ → Media → Held
held_at l i m = if m.held then Object (held_object_of l i m) else NoObject

abbrev pub held_if : Session → Option ℕ → Held
held_if s None = NoId
held_if s (Some i) = held_at (limits_of s.state) i (media_at s.state i)

unfoldable pub held_read : Session → ℕ → Result Held Refusal
held_read s id = if sound s then Ok (held_if s (media_found s id)) else Err NotASession

abbrev pub control_state_of : Control → ControlState
control_state_of c = record { sequence = u32_if c.seen c.sequence; joined = u32_if c.joining c.length }

abbrev pub control_if : Session → Option ℕ → Option ControlState
control_if s None = None
control_if s (Some i) = Some (control_state_of (control_at s.state i))

unfoldable pub control_read : Session → ℕ → Result (Option ControlState) Refusal
control_read s id = if sound s then Ok (control_if s (control_found s id)) else Err NotASession

-- ---- kept tables: of the tables' areas, section places come first, then the MPT of each control place, the PLT and the TOT

abbrev pub area_part : Limits → ℕ → ℕ → Part
area_part l i n = part_at (i * l.table_area) n

abbrev pub section_part : Session → Option ℕ → Option Part
section_part s None = None
section_part s (Some i) = Some (area_part (limits_of s.state) i (section_at s.state i).length)

abbrev pub mpt_at : Limits → ℕ → Control → Option Part
mpt_at l i c = then_some c.mpt (area_part l (l.sections + i) c.mpt_length)

abbrev pub mpt_part : Session → Option ℕ → Option Part
mpt_part s None = None
mpt_part s (Some i) = mpt_at (limits_of s.state) i (control_at s.state i)

abbrev pub plt_part : Session → Option Part
plt_part s =
    then_some (latest_of s.state).plt
    (area_part (limits_of s.state) ((limits_of s.state).sections + (limits_of s.state).control_ids) (latest_of s.state).plt_length)

abbrev pub tot_part : Session → Option Part
tot_part s =
    then_some (latest_of s.state).tot
    (area_part (limits_of s.state) ((limits_of s.state).sections + (limits_of s.state).control_ids + 1) (latest_of s.state).tot_length)

-- a part that is there is handed out where its bytes parse
abbrev pub table_if : (Bytes → Bool) → Bytes → Option Part → Result (Option Part) Refusal
table_if parses b None = Ok None
table_if parses b (Some p) = if parses (part_of b p) then Ok (Some p) else Err NotASession

abbrev pub table_read : Session → (Bytes → Bool) → Option Part → Result (Option Part) Refusal
table_read s parses p = if sound s then table_if parses s.tables p else Err NotASession

-- a section as the table that its key's high byte, the table id, names
abbrev pub table_id_of_key : ℕ → ℕ
table_id_of_key k = k / 2 ^ 24

unfoldable pub section_read : Session → ℕ → Result (Option Part) Refusal
section_read s k = table_read s (parses_as (table_id_of_key k)) (section_part s (section_found s k))

unfoldable pub mpt_read : Session → ℕ → Result (Option Part) Refusal
mpt_read s id = table_read s (λ b. mpt_parses (mpt_of b).mpt) (mpt_part s (control_found s id))

unfoldable pub plt_read : Session → Result (Option Part) Refusal
plt_read s = table_read s (λ b. plt_parses (plt_of b)) (plt_part s)

unfoldable pub tot_read : Session → Result (Option Part) Refusal
tot_read s = table_read s (λ b. tot_parses (tot_of b).result) (tot_part s)

-- ---- the asset that a packet id carries: MPTs in ascending order of their control ids, up to the one that names it

-- the first of some assets whose first location with a packet id has this one
abbrev pub is_this : ℕ → Option ℕ → Bool
is_this p None = false
is_this p (Some q) = q =? p

unfoldable pub first_carried : ℕ → Bytes → List Asset → Option Asset
first_carried p b [] = None
first_carried p b (a ∷ as') =
    if is_this p (first_packet_id (locations_of a.locations b a.locations_start)) then Some a else first_carried p b as'

abbrev pub carried : ℕ → Part → Option ℕ → Option Asset → Result (Option CarriedAsset) Refusal → Result (Option CarriedAsset) Refusal
carried id m service None rest = rest
carried id m service (Some a) rest = Ok (Some (record { control_id = id; mpt = m; service_id = service; asset = a }))

-- the MPT with bytes `b`; one that no longer parses is refused
abbrev pub asset_in : ℕ → ℕ → Part → Bytes → Option Mpt → Result (Option CarriedAsset) Refusal → Result (Option CarriedAsset) Refusal
asset_in p id m b None rest = Err NotASession
asset_in p id m b (Some t) rest =
    carried id m (service_id_of b t.package_id) (first_carried p b (assets_from t.assets b t.start).found) rest

abbrev pub asset_if : ℕ → Bytes → ℕ → Option Part → Result (Option CarriedAsset) Refusal → Result (Option CarriedAsset) Refusal
asset_if p tables id None rest = rest
asset_if p tables id (Some m) rest = asset_in p id m (part_of tables m) (mpt_of (part_of tables m)).mpt rest

unfoldable pub asset_among : Session → ℕ → List ℕ → Result (Option CarriedAsset) Refusal
unfolding control_found first_carried
asset_among s p [] = Ok None
asset_among s p (id ∷ ids) = asset_if p s.tables id (mpt_part s (control_found s id)) (asset_among s p ids)

unfoldable pub asset_read : Session → ℕ → Result (Option CarriedAsset) Refusal
unfolding asset_among
asset_read s p = if sound s then asset_among s p (ascending (control_names s)) else Err NotASession

-- what an answer about a table tells its caller: a number, that nothing is kept, or bytes, taken from the lent tables
pub data TableTold : Type 0 where
  refused : ℕ → TableTold
  nothing : TableTold
  these : Bytes → TableTold

abbrev pub told_by : Bytes → Result (Option Part) Refusal → TableTold
told_by tables (Err r) = refused (number_of r)
told_by tables (Ok None) = nothing
told_by tables (Ok (Some p)) = these (part_of tables p)
