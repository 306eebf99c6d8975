-- Worked cases of limits, places and question 5's names, one table; and the layout's sums.
use Rattle.std.specs.Prelude.{◌≡◌, ℕ, ◌+◌, ◌-◌, Bool, true, false, List, [], ◌∷◌, refl, Result, Ok, Err}
use Rattle.isdb_mmt.specs.Examples.Worked.{Case, ◌⇒◌, Holds}
use Rattle.isdb_tlv.specs.Fields.{Field}
use Rattle.isdb_mmt.specs.Memory.Lent.{among, distinct, found_from, place_for_name}
use Rattle.isdb_mmt.specs.Memory.Layout.{most_media_ids, most_control_ids, most_sections, most_mfu_area, most_message_area, most_table_area, most_packets, used_place, latest_place, time_place, counters_place, media_places, object_place, stats_place, media_size, control_size, section_size, state_size}
use Rattle.isdb_mmt.specs.Memory.Limits.{in_range, places_in_range, areas_in_range, packets_in_range, lengths_for, long_enough, needed_of, asked}
use Rattle.isdb_mmt.specs.Memory.Session.{limits_fields, used_fields, latest_fields, time_fields, counters_fields, number_fields, object_fields, media_fields, control_fields, section_fields}
use Rattle.isdb_mmt.specs.declared.decoder.limits.Limits.{Limits}
use Rattle.isdb_mmt.specs.declared.decoder.limits.Lengths.{Lengths}
use Rattle.isdb_mmt.specs.declared.decoder.place.PlaceFor.{PlaceFor}
use Rattle.isdb_mmt.specs.declared.decoder.place.PlaceFor.TheVariants.{Own, Free, NoneFree}
use Rattle.isdb_mmt.specs.declared.decoder.counts.Counters.{Counters}
use Rattle.isdb_mmt.specs.declared.decoder.head.Used.{Used}
use Rattle.isdb_mmt.specs.declared.decoder.head.Latest.{Latest}
use Rattle.isdb_mmt.specs.declared.decoder.head.Time.{Time}
use Rattle.isdb_mmt.specs.declared.decoder.media.Object.{Object}
use Rattle.isdb_mmt.specs.declared.decoder.media.Media.{Media}
use Rattle.isdb_mmt.specs.declared.decoder.control.Control.{Control}
use Rattle.isdb_mmt.specs.declared.decoder.section.KeptSection.{KeptSection}
use Rattle.isdb_mmt.specs.declared.decoder.refusal.Refusal.{Refusal}
use Rattle.isdb_mmt.specs.declared.decoder.refusal.Refusal.TheVariants.{PlacesOutOfRange, AreasOutOfRange, PacketsOutOfRange}

-- media ids, control ids, sections, the three areas, packets
abbrev limits : ℕ → ℕ → ℕ → ℕ → ℕ → ℕ → ℕ → Limits
limits m c s o g t p =
    record {
      media_ids = m;
      control_ids = c;
      sections = s;
      mfu_area = o;
      message_area = g;
      table_area = t;
      packets = p;
      pass_scrambled = false;
    }

-- the state, objects, messages, tables
abbrev lengths : ℕ → ℕ → ℕ → ℕ → Lengths
lengths n o m t = record { state = n; objects = o; messages = m; tables = t }

-- limits that a small listing program would set
abbrev few : Limits
few = limits 4 4 4 4096 4096 2048 4294967295

pub data Ask : Type 0 where
  need_of : Limits → Ask
  number : Limits → Lengths → Ask
  place_for_of : List ℕ → ℕ → ℕ → Ask
  apart : List ℕ → Ask

pub data Told : Type 0 where
  need : Result Lengths Refusal → Told
  is : ℕ → Told
  sits : PlaceFor → Told
  all : Bool → Told

abbrev told : Ask → Told
told (need_of l) = need (needed_of l)
told (number l n) = is (asked l n)
told (place_for_of names limit x) = sits (place_for_name names limit x)
told (apart names) = all (distinct names)

abbrev cases : List (Case Ask Told)
cases =
    (need_of few ⇒ need (Ok (lengths state_size 16384 16384 20480)))
    -- the least and the most that can be asked for
    ∷ (need_of (limits 1 1 1 1 1 1 1) ⇒ need (Ok (lengths state_size 1 1 4)))
    ∷ (need_of (limits most_media_ids most_control_ids most_sections most_mfu_area most_message_area most_table_area most_packets) ⇒ need (Ok (lengths state_size 1073741824 33554432 35784294)))
    -- one below and one above each range
    ∷ (need_of (limits 0 1 1 1 1 1 1) ⇒ need (Err PlacesOutOfRange))
    ∷ (need_of (limits 65 1 1 1 1 1 1) ⇒ need (Err PlacesOutOfRange))
    ∷ (need_of (limits 1 0 1 1 1 1 1) ⇒ need (Err PlacesOutOfRange))
    ∷ (need_of (limits 1 33 1 1 1 1 1) ⇒ need (Err PlacesOutOfRange))
    ∷ (need_of (limits 1 1 0 1 1 1 1) ⇒ need (Err PlacesOutOfRange))
    ∷ (need_of (limits 1 1 513 1 1 1 1) ⇒ need (Err PlacesOutOfRange))
    ∷ (need_of (limits 1 1 1 0 1 1 1) ⇒ need (Err AreasOutOfRange))
    ∷ (need_of (limits 1 1 1 16777217 1 1 1) ⇒ need (Err AreasOutOfRange))
    ∷ (need_of (limits 1 1 1 1 0 1 1) ⇒ need (Err AreasOutOfRange))
    ∷ (need_of (limits 1 1 1 1 1048577 1 1) ⇒ need (Err AreasOutOfRange))
    ∷ (need_of (limits 1 1 1 1 1 0 1) ⇒ need (Err AreasOutOfRange))
    ∷ (need_of (limits 1 1 1 1 1 65540 1) ⇒ need (Err AreasOutOfRange))
    ∷ (need_of (limits 1 1 1 1 1 1 0) ⇒ need (Err PacketsOutOfRange))
    ∷ (need_of (limits 1 1 1 1 1 1 4294967296) ⇒ need (Err PacketsOutOfRange))
    -- buffers just long enough, longer, and each a byte short
    ∷ (number few (lengths state_size 16384 16384 20480) ⇒ is 0)
    ∷ (number few (lengths 20000 20000 20000 40000) ⇒ is 0)
    ∷ (number few (lengths (state_size - 1) 16384 16384 20480) ⇒ is 3)
    ∷ (number few (lengths state_size 16383 16384 20480) ⇒ is 3)
    ∷ (number few (lengths state_size 16384 16383 20480) ⇒ is 3)
    ∷ (number few (lengths state_size 16384 16384 20479) ⇒ is 3)
    -- the first no decides
    ∷ (number (limits 0 1 1 0 1 1 0) (lengths 0 0 0 0) ⇒ is 1)
    ∷ (number (limits 1 1 1 0 1 1 0) (lengths 0 0 0 0) ⇒ is 2)
    ∷ (number (limits 1 1 1 1 1 1 0) (lengths 0 0 0 0) ⇒ is 3)
    ∷ (number (limits 1 1 1 1 1 1 0) (lengths state_size 1 1 4) ⇒ is 4)
    -- a name has its place, or takes the next one, or there is none
    ∷ (place_for_of (0xF100 ∷ 0xF101 ∷ []) 2 0xF101 ⇒ sits (Own 1))
    ∷ (place_for_of (0xF100 ∷ 0xF101 ∷ []) 3 0xF102 ⇒ sits (Free 2))
    ∷ (place_for_of (0xF100 ∷ 0xF101 ∷ []) 2 0xF102 ⇒ sits NoneFree)
    ∷ (apart (0xF100 ∷ 0xF101 ∷ 0xF102 ∷ []) ⇒ all true)
    ∷ (apart (0xF100 ∷ 0xF101 ∷ 0xF100 ∷ []) ⇒ all false)
    ∷ []

pub table : Holds told cases
unfolding in_range places_in_range areas_in_range packets_in_range lengths_for long_enough needed_of asked among distinct found_from place_for_name
table = refl

-- the bytes of some fields
abbrev size : List Field → ℕ
size [] = 0
size (f ∷ fs) = f.width + size fs

-- the parts of the state lie one behind the other, and each place has its fields' size
pub record Laid : Type 0 where
  pub used : (x : Limits) → size (limits_fields x) ≡ used_place
  pub latest : (x : Used) → used_place + size (used_fields x) ≡ latest_place
  pub time : (x : Latest) → latest_place + size (latest_fields x) ≡ time_place
  pub counters : (x : Time) → time_place + size (time_fields x) ≡ counters_place
  pub media : (x : Counters) → counters_place + size (counters_fields x) ≡ media_places
  pub object : (x : Media) → size (number_fields x) ≡ object_place
  pub stats : (x : Object) → object_place + size (object_fields x) ≡ stats_place
  pub media_place : (x : Media) → size (media_fields x) ≡ media_size
  pub control_place : (x : Control) → size (control_fields x) ≡ control_size
  pub section_place : (x : KeptSection) → size (section_fields x) ≡ section_size

pub laid : Laid
laid =
    record {
      used = λ x. refl;
      latest = λ x. refl;
      time = λ x. refl;
      counters = λ x. refl;
      media = λ x. refl;
      object = λ x. refl;
      stats = λ x. refl;
      media_place = λ x. refl;
      control_place = λ x. refl;
      section_place = λ x. refl;
    }
