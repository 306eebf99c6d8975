-- How a media packet is answered and committed, by its place and its outcome. Laws say that this is what the model needs, leaves
-- and gives out (proofs/MediaPushes).
use Rattle.std.specs.Prelude.{◌≡◌, ℕ, ◌+◌, ◌-◌, ◌*◌, ◌<◌, ◌≤◌, Bool, true, false, ◌&&◌, List, [], ◌∷◌, ◌++◌, length, None, Some, Option, is_some}
use Rattle.isdb_tlv.specs.Guards.{◌<?◌, ◌=?◌}
use Rattle.std.specs.Prelude.{if◌then◌else◌}
use Rattle.isdb_tlv.specs.Fields.{written}
use Rattle.isdb_tlv.specs.declared.mmtp.Header.{Header}
use Rattle.isdb_mmt.specs.Formats.Part.{part_of, part_at}
use Rattle.isdb_mmt.specs.Decoder.Packet.{Bytes, media_of}
use Rattle.isdb_mmt.specs.Decoder.Maps.{one}
use Rattle.isdb_mmt.specs.Formats.Mpu.{units_of}
use Rattle.isdb_mmt.specs.Decoder.Objects.{no_stats, Asset, Rec, asset_after, media_gives}
use Rattle.isdb_mmt.specs.Decoder.Needs.{data_of}
use Rattle.isdb_mmt.specs.Memory.Layout.{most_media_ids, most_mfu_area, most_count, media_places, media_size, state_size}
use Rattle.isdb_mmt.specs.Memory.Lent.{part, over}
use Rattle.isdb_mmt.specs.Memory.Session.{Session, limits_of, used_of, counters_of, media_fields, media_at}
use Rattle.isdb_mmt.specs.Memory.Check.{lengths_of, PlacesThere, Sound}
use Rattle.isdb_mmt.specs.Memory.View.{asset_of_place}
use Rattle.isdb_mmt.specs.Pushes.Records.{row_size, row_fields, rows_from, data_from}
use Rattle.isdb_mmt.specs.Pushes.MediaPush.{no_object, held_over, one_more_of, with_used, with_packets}
use Rattle.isdb_mmt.specs.Pushes.MediaPlace.{place_after_of, StatsWithin}
use Rattle.isdb_mmt.specs.Pushes.MediaOutcome.{media_outcome, CanReadUnits}
use Rattle.isdb_mmt.specs.declared.mpu.PayloadHeader.{PayloadHeader}
use Rattle.isdb_mmt.specs.declared.mpu.Unit.{Unit as DataUnit}
use Rattle.isdb_mmt.specs.declared.decoder.place.PlaceFor.{PlaceFor}
use Rattle.isdb_mmt.specs.declared.decoder.place.PlaceFor.TheVariants.{Own, Free, NoneFree}
use Rattle.isdb_mmt.specs.declared.decoder.limits.Limits.{Limits}
use Rattle.isdb_mmt.specs.declared.decoder.media.Object.{Object}
use Rattle.isdb_mmt.specs.declared.decoder.media.Media.{Media}
use Rattle.isdb_mmt.specs.declared.decoder.reassembler.MediaEffect.{MediaEffect}
use Rattle.isdb_mmt.specs.declared.decoder.reassembler.MediaOutcome.{MediaOutcome}
use Rattle.isdb_mmt.specs.Pushes.Answer.{Answer}

-- ---- the place that a packet starts from: its id's, or a blank one

pub record CanTakePlace (s : List ℕ) (l : Limits) : Type 0 where
  pub there : PlacesThere s
  pub limits : l ≡ limits_of s

abbrev pub blank : Media
blank =
    record {
      packet_id = 0;
      seen = false;
      sequence = 0;
      mpu_seen = false;
      mpu = 0;
      first_mpu = 0;
      held = false;
      object = no_object;
      stats = no_stats;
    }

unfoldable pub place_in : List ℕ → PlaceFor → Media
place_in l (Own i) = media_at l i
place_in l (Free i) = blank
place_in l NoneFree = blank

abbrev pub index_of : PlaceFor → ℕ
index_of (Own i) = i
index_of (Free i) = i
index_of NoneFree = 0

-- ---- the answer

-- whether the payload is passed on, scrambled as it is
unfoldable pub passes_on : Bool → Bool → Option PayloadHeader → Bool
passes_on pass scrambled None = false
passes_on pass scrambled (Some h) = pass && scrambled

-- records and data bytes: a payload passed on is one record, of all but its first 8 bytes
abbrev pub records_handed : Bool → MediaEffect → ℕ
records_handed passed t = one passed + t.records

abbrev pub bytes_handed : Bool → ℕ → MediaEffect → ℕ
bytes_handed passed n t = (if passed then n - 8 else 0) + t.bytes

unfoldable pub fits_number : ℕ → ℕ → ℕ → ℕ → ℕ → ℕ → ℕ
fits_number area longest rows given records bytes =
    if area <? longest then 9
    else if rows <? row_size * records then 10
    else if given <? bytes then 10
    else 0

unfoldable pub number_of : PlaceFor → ℕ → ℕ → ℕ → ℕ → ℕ → ℕ → ℕ
unfolding fits_number
number_of NoneFree area longest rows given records bytes = 8
number_of (Own i) area longest rows given records bytes = fits_number area longest rows given records bytes
number_of (Free i) area longest rows given records bytes = fits_number area longest rows given records bytes

abbrev pub refused : ℕ → Answer
refused n = record { number = n; records = 0; bytes = 0 }

abbrev pub accepted : ℕ → ℕ → Answer
accepted records bytes = record { number = 0; records = records; bytes = bytes }

abbrev pub answer_by : ℕ → ℕ → ℕ → Answer
answer_by n records bytes = if n =? 0 then accepted records bytes else refused n

-- from the limits and the outcome of a payload of n bytes
unfoldable pub answer_of : PlaceFor → Limits → Bool → MediaOutcome → ℕ → ℕ → ℕ → Answer
unfolding passes_on number_of
answer_of place_for_of l scrambled r n rows given =
    let passed : Bool = passes_on l.pass_scrambled scrambled r.header in
    answer_by (number_of place_for_of l.mfu_area r.units.longest rows given (records_handed passed r.units) (bytes_handed passed n r.units))
    (records_handed passed r.units) (bytes_handed passed n r.units)

-- what the sums are made of
pub record Small (t : MediaEffect) : Type 0 where
  pub drops : t.drops ≤ 65539
  pub records : t.records ≤ 65537
  pub bytes : t.bytes ≤ 4295032833

-- ---- records and held bytes

-- one record, its data in two pieces
pub record OneFits (a b rows given : Bytes) : Type 0 where
  pub row : row_size ≤ length rows
  pub bytes : length a + length b ≤ length given

pub record OnePut (id : ℕ) (scrambled : Bool) (o : Object) (a b rows given rows' given' : Bytes) : Type 0 where
  pub row_is : rows' ≡ over 0 (written (row_fields id scrambled o 0)) rows
  pub data_is : given' ≡ over 0 (a ++ b) given

-- the data of units, one behind the other
unfoldable pub data_in : Bytes → List DataUnit → Bytes
data_in q [] = []
data_in q (u ∷ us) = part_of q u.«data» ++ data_in q us

unfoldable pub units_data : Bytes → Option (List DataUnit) → Bytes
unfolding data_in
units_data q None = []
units_data q (Some us) = data_in q us

pub record CanAppend (q : Bytes) (timed aggregated : Bool) (from : ℕ) (l : Bytes) : Type 0 where
  pub long : length q ≤ 65537
  pub whole : is_some (units_of q timed aggregated) ≡ true
  pub fits : from + length (units_data q (units_of q timed aggregated)) ≤ length l
  pub low : from ≤ 4294967296

-- ---- the commit, for a place whose object lies at `at`

abbrev pub starts_from : ℕ → Media → Bytes → Asset
starts_from at p objects = asset_of_place p (part at p.object.length objects)

abbrev pub gives_from : ℕ → Bool → Media → Header → Bytes → Bytes → List Rec
gives_from at pass p h b objects = media_gives pass (starts_from at p objects) (media_of h b)

pub record CanCommit (at : ℕ) (pass : Bool) (p : Media) (r : MediaOutcome) (h : Header) (b objects rows given : Bytes) : Type 0 where
  pub look : r ≡ media_outcome p h.sequence h.scramble_info h.rap b
  pub can : CanReadUnits p b
  pub low : at ≤ 1073741824
  pub held : p.held ≡ true → at + p.object.length ≤ length objects
  pub room : at + r.units.longest ≤ length objects
  pub rows_fit : row_size * length (gives_from at pass p h b objects) ≤ length rows
  pub data_fit : data_of (gives_from at pass p h b objects) ≤ length given

-- of a payload with the header x, whose units are taken
pub record CanTake (x : PayloadHeader) (at : ℕ) (p : Media) (r : MediaOutcome) (h : Header) (b objects rows given : Bytes) : Type 0 where
  pub can : CanCommit at false p r h b objects rows given
  pub header : r.header ≡ Some x
  pub taken : r.taken ≡ true

pub record Committed (at : ℕ) (pass : Bool) (p : Media) (h : Header) (b objects rows given objects' rows' given' : Bytes) : Type 0 where
  pub area : objects' ≡ held_over at (asset_after (starts_from at p objects) (media_of h b)).held objects
  pub rows_out : rows' ≡ over 0 (rows_from 0 (gives_from at pass p h b objects)) rows
  pub data_out : given' ≡ over 0 (data_from (gives_from at pass p h b objects)) given

-- the end of an object: the bytes held at `at`, and those of its last unit
pub record CanEnd (at : ℕ) (p : Media) (t : MediaEffect) (q objects rows given : Bytes) : Type 0 where
  pub small : t.bytes < 4294967296
  pub fits : OneFits (part at p.object.length objects) (part_of q t.last) rows given

-- a payload passed on
abbrev pub passed_unit : ℕ → DataUnit
passed_unit n = record { mfu = None; item_id = None; «data» = part_at 8 (n - 8) }

pub record CanPass (b rows given : Bytes) : Type 0 where
  pub long : length b ≤ 65535
  pub there : 8 ≤ length b
  pub row : row_size ≤ length rows
  pub bytes : length b - 8 ≤ length given

-- ---- the state

unfoldable pub state_after : List ℕ → Media → PlaceFor → List ℕ
state_after l m (Own i) =
    with_packets ((counters_of l).tlv_packets + 1) (over (media_places + media_size * i) (written (media_fields m)) l)
state_after l m (Free i) =
    with_packets ((counters_of l).tlv_packets + 1)
    (with_used (one_more_of (used_of l)) (over (media_places + media_size * i) (written (media_fields m)) l))
state_after l m NoneFree = l

pub record CanStore (l : List ℕ) (place_for_of : PlaceFor) : Type 0 where
  pub long : state_size ≤ length l
  pub index : index_of place_for_of < most_media_ids
  pub used : (used_of l).media_ids ≤ most_media_ids
  pub packets : (counters_of l).tlv_packets ≤ most_count

-- ---- all of it

pub record CanCommitAll (l : Limits) (place_for_of : PlaceFor) (p : Media) (r : MediaOutcome) (h : Header) (b state objects rows given : Bytes) : Type 0 where
  pub commit : CanCommit (index_of place_for_of * l.mfu_area) l.pass_scrambled p r h b objects rows given
  pub store : CanStore state place_for_of
  pub modest : StatsWithin most_count p.stats
  pub area : l.mfu_area ≤ most_mfu_area

pub record CommittedAll (l : Limits) (place_for_of : PlaceFor) (p : Media) (r : MediaOutcome) (h : Header) (b state objects rows given state' objects' rows' given' : Bytes) : Type 0 where
  pub commit : Committed (index_of place_for_of * l.mfu_area) l.pass_scrambled p h b objects rows given objects' rows' given'
  pub store : state' ≡ state_after state (place_after_of h.packet_id p h.sequence h.scramble_info r.header r.bad r.units) place_for_of

-- ---- a push: question 5 is answered yes

pub record CanPushMedia (s : Session) (b : Bytes) : Type 0 where
  pub sound : Sound s.state s.others (lengths_of s)
  pub long : length b ≤ 65535
