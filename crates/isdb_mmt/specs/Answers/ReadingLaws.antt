-- What readings say of a session: each answer is told from the state of the model that the session's bytes hold (View).
use Rattle.std.specs.Prelude.{◌≡◌, ℕ, ◌+◌, ◌≤◌, Bool, true, false, List, [], ◌∷◌, map, length, ◌≢◌, slice_index, Option as StdOption, Some, None, Result, Ok, Err, if◌then◌else◌, Option}
use Rattle.isdb_mmt.specs.declared.decoder.refusal.Refusal.{Refusal}
use Rattle.isdb_mmt.specs.declared.decoder.readings.MpuRange.{MpuRange}
use Rattle.isdb_mmt.specs.declared.decoder.readings.MediaState.{MediaState}
use Rattle.isdb_mmt.specs.declared.decoder.readings.Held.{Held}
use Rattle.isdb_mmt.specs.declared.decoder.readings.Held.TheVariants.{NoId, NoObject, Object}
use Rattle.isdb_mmt.specs.declared.decoder.readings.ControlState.{ControlState}
use Rattle.isdb_tlv.specs.Guards.{◌≤?◌}
use Rattle.isdb_mmt.specs.Decoder.Packet.{Bytes}
use Rattle.isdb_mmt.specs.Formats.Part.{part_of}
use Rattle.isdb_mmt.specs.Decoder.Maps.{find}
use Rattle.isdb_mmt.specs.Decoder.Objects.{Mfu, Asset}
use Rattle.isdb_mmt.specs.Decoder.Reassembly.{PartialMessage}
use Rattle.isdb_mmt.specs.Decoder.Model.{Control as ControlLine}
use Rattle.isdb_mmt.specs.Memory.Lent.{among}
use Rattle.isdb_mmt.specs.Memory.Octets.{Octets}
use Rattle.isdb_mmt.specs.Memory.Session.{Session}
use Rattle.isdb_mmt.specs.Memory.Check.{sound}
use Rattle.isdb_mmt.specs.Memory.View.{view}
use Rattle.isdb_mmt.specs.Answers.Readings.{media_names, control_names, keys_in, counters_read, time_read, count_read, most_name, ascending, next_media_read, next_control_read, next_key_read, media_read, held_read, control_read}
use Rattle.isdb_mmt.specs.declared.decoder.readings.HeldObject.{HeldObject}

-- ---- counts and the time

abbrev pub time_told : Option ℕ → StdOption ℕ
time_told None = None
time_told (Some t) = Some t

pub record CountsTold (s : Session) : Type 0 where
  pub counters : counters_read s ≡ Ok (view s).counters
  pub time : time_read s ≡ Ok (time_told (view s).time)
  pub tables : (id : ℕ) → count_read s id ≡ Ok (slice_index (view s).store.others id)

abbrev pub CountsAreTold : Type 0
CountsAreTold = (s : Session) → sound s ≡ true → CountsTold s

-- ---- packet ids

abbrev pub u32_told : Option ℕ → Option ℕ
u32_told None = None
u32_told (Some n) = Some n

abbrev pub range_told : Option (ℕ × ℕ) → StdOption MpuRange
range_told None = None
range_told (Some r) = Some (record { first = r.0; last = r.1 })

-- of a held object, and of a message being joined, the length
abbrev pub object_length : Option Mfu → Option ℕ
object_length None = None
object_length (Some h) = Some (length h.bytes)

abbrev pub joined_length_of : Option PartialMessage → Option ℕ
joined_length_of None = None
joined_length_of (Some j) = Some (length j.bytes)

abbrev pub media_told : Option Asset → StdOption MediaState
media_told None = None
media_told (Some a) =
    Some
    (record {
      stats = a.stats;
      sequence = u32_told a.number;
      mpu_range = range_told a.range;
      held = object_length a.held;
    })

-- the object that is handed out, its bytes taken from the lent objects
abbrev pub object_of : Bytes → HeldObject → Mfu
object_of b o =
    record {
      mpu = o.mpu_sequence_number;
      rap = o.rap;
      mfu = o.mfu;
      item_id = o.item_id;
      bytes = part_of b o.bytes;
    }

pub record Holds (b : Bytes) (r : Result Held Refusal) (h : Mfu) : Type 0 where
  pub object : HeldObject
  pub answer : r ≡ Ok (Object object)
  pub is : object_of b object ≡ h

abbrev pub HeldIs : Bytes → Result Held Refusal → Option Mfu → Type 0
HeldIs b r None = r ≡ Ok NoObject
HeldIs b r (Some h) = Holds b r h

abbrev pub HeldTold : Bytes → Result Held Refusal → Option Asset → Type 0
HeldTold b r None = r ≡ Ok NoId
HeldTold b r (Some a) = HeldIs b r a.held

abbrev pub control_told : Option ControlLine → StdOption ControlState
control_told None = None
control_told (Some c) = Some (record { sequence = u32_told c.reassembly.number; joined = joined_length_of c.reassembly.partial })

pub record IdsTold (s : Session) : Type 0 where
  pub media : (id : ℕ) → media_read s id ≡ Ok (media_told (find id (view s).assets))
  pub held : (id : ℕ) → HeldTold s.objects (held_read s id) (find id (view s).assets)
  pub control : (id : ℕ) → control_read s id ≡ Ok (control_told (find id (view s).controls))

abbrev pub IdsAreTold : Type 0
IdsAreTold = (s : Session) → sound s ≡ true → IdsTold s

-- ---- names in ascending order

abbrev pub names_in : {A : Type 0} → List (ℕ × A) → List ℕ
names_in {A} es = map (λ (e : ℕ × A). e.0) es

-- each above the one before, the first at least `a`
unfoldable pub rises : ℕ → List ℕ → Bool
rises a [] = true
rises a (x ∷ xs) = if a ≤? x then rises (x + 1) xs else false

-- `ns` has the names of `names` in ascending order, each once
pub record InOrder (names ns : List ℕ) : Type 0 where
  pub rising : rises 0 ns ≡ true
  pub same : (x : ℕ) → among x ns ≡ among x names
  pub many : length ns ≡ length names

-- the least of some names from `a` to `b`
pub record Least (names : List ℕ) (a b x : ℕ) : Type 0 where
  pub one : among x names ≡ true
  pub from : a ≤ x
  pub to : x ≤ b
  pub least : (y : ℕ) → among y names ≡ true → a ≤ y → y ≤ b → x ≤ y

-- the next name from `a` to `b`, or that there is none
pub record NextTold (names : List ℕ) (a b : ℕ) (r : Result (StdOption ℕ) Refusal) : Type 0 where
  pub answered : (e : Refusal) → r ≢ Err e
  pub name : (x : ℕ) → r ≡ Ok (Some x) → Least names a b x
  pub nothing : r ≡ Ok None → (y : ℕ) → among y names ≡ true → a ≤ y → y ≤ b → ⊥
  pub empty : ((y : ℕ) → among y names ≡ true → a ≤ y → y ≤ b → ⊥) → r ≡ Ok None

pub record NamesTold (s : Session) : Type 0 where
  pub media : InOrder (names_in (view s).assets) (ascending (media_names s))
  pub controls : InOrder (names_in (view s).controls) (ascending (control_names s))
  pub keys : InOrder (names_in (view s).store.kept) (ascending (keys_in s))
  pub next_media : (a : ℕ) → NextTold (names_in (view s).assets) a most_name (next_media_read s a)
  pub next_control : (a : ℕ) → NextTold (names_in (view s).controls) a most_name (next_control_read s a)
  pub next_key : (a b : ℕ) → NextTold (names_in (view s).store.kept) a b (next_key_read s a b)

-- the state is made of bytes, so that no name is above the largest
abbrev pub NamesAreTold : Type 0
NamesAreTold = (s : Session) → sound s ≡ true → Octets s.state → NamesTold s
