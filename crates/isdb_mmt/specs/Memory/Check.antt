-- Question 5: do the lent bytes hold a session? Its limits pass questions 1 to 4, its lengths fit their areas, no media id,
-- control id or key stands twice among its own sort, and no count is above 2^53.
use Rattle.std.specs.Prelude.{◌≡◌, ℕ, zero, suc, ◌+◌, ◌≤◌, Bool, true, false, not, List, [], ◌∷◌, ◌++◌, map, length}
use Rattle.isdb_tlv.specs.Bytes.{be}
use Rattle.isdb_tlv.specs.Guards.{◌≤?◌, ◌=?◌}
use Rattle.std.specs.Prelude.{if◌then◌else◌}
use Rattle.isdb_mmt.specs.Memory.Lent.{places_from, names_from, distinct, every}
use Rattle.isdb_mmt.specs.Memory.Limits.{asked}
use Rattle.isdb_mmt.specs.Memory.Session.{Session, limits_of, used_of, latest_of, counters_of, media_place_of, control_place_of, section_place_of}
use Rattle.isdb_mmt.specs.Memory.Layout.{most_media_ids, most_control_ids, most_sections, most_count, media_places, media_size, control_places, control_size, section_places, section_size, state_size}
use Rattle.isdb_mmt.specs.declared.decoder.limits.Limits.{Limits}
use Rattle.isdb_mmt.specs.declared.decoder.limits.Lengths.{Lengths}
use Rattle.isdb_mmt.specs.declared.decoder.counts.AssetStats.{AssetStats}
use Rattle.isdb_mmt.specs.declared.decoder.counts.Counters.{Counters}
use Rattle.isdb_mmt.specs.declared.decoder.head.Used.{Used}
use Rattle.isdb_mmt.specs.declared.decoder.head.Latest.{Latest}
use Rattle.isdb_mmt.specs.declared.decoder.media.Media.{Media}
use Rattle.isdb_mmt.specs.declared.decoder.control.Control.{Control}
use Rattle.isdb_mmt.specs.declared.decoder.section.KeptSection.{KeptSection}

-- a count: at most 2^53
abbrev pub at_most : ℕ → ℕ → Bool
at_most most x = x ≤? most

abbrev pub count_fits_of : ℕ → Bool
count_fits_of x = at_most most_count x

-- `n` counts one behind the other from `at` on
unfoldable pub counts_from : ℕ → ℕ → List ℕ → List ℕ
counts_from zero at l = []
counts_from (suc n) at l = be 8 l at ∷ counts_from n (at + 8) l

-- the counts are these, and one for each table id
abbrev pub stats_counts : AssetStats → List ℕ
stats_counts s =
    s.packets
    ∷ s.packets_lost
    ∷ s.scrambled_packets
    ∷ s.mfus
    ∷ s.scrambled_mfus
    ∷ s.mfus_dropped
    ∷ s.mpus
    ∷ s.mpu_sequence_jumps
    ∷ s.malformed
    ∷ []

abbrev pub packet_counts : Counters → List ℕ
packet_counts c = c.tlv_packets ∷ c.ip_errors ∷ c.non_mmtp ∷ c.ntp ∷ []

abbrev pub table_counts : Counters → List ℕ
table_counts c =
    c.tables
    ∷ c.crc_errors
    ∷ c.malformed
    ∷ c.version_changes
    ∷ c.orphan_fragments
    ∷ c.oversize
    ∷ c.message_malformed
    ∷ c.split_errors
    ∷ []

-- something that is there fits its area; of what is not there the length says nothing
abbrev pub length_fits : Bool → ℕ → ℕ → Bool
length_fits there n area = if there then n ≤? area else true

unfoldable pub media_sound : Limits → Media → Bool
unfolding every
media_sound l m =
    if length_fits m.held m.object.length l.mfu_area then every count_fits_of (stats_counts m.stats) else false

unfoldable pub control_sound : Limits → Control → Bool
control_sound l c =
    if length_fits c.joining c.length l.message_area
    then length_fits c.mpt c.mpt_length l.table_area
    else false

abbrev pub section_sound : Limits → KeptSection → Bool
section_sound l x = x.length ≤? l.table_area

-- as many places in use as there may be
unfoldable pub used_sound : Limits → Used → Bool
used_sound l u =
    if not (u.media_ids ≤? l.media_ids) then false
    else if not (u.control_ids ≤? l.control_ids) then false
    else u.sections ≤? l.sections

unfoldable pub latest_sound : Limits → Latest → Bool
latest_sound l x =
    if length_fits x.plt x.plt_length l.table_area
    then length_fits x.tot x.tot_length l.table_area
    else false

unfoldable pub counters_sound : Counters → Bool
unfolding every
counters_sound c = if every count_fits_of (packet_counts c) then every count_fits_of (table_counts c) else false

-- the places in use of each sort, from the state
unfoldable pub media_in : List ℕ → List Media
unfolding places_from media_place_of
media_in l = map media_place_of (places_from (used_of l).media_ids media_size media_places l)

unfoldable pub controls_in : List ℕ → List Control
unfolding places_from control_place_of
controls_in l = map control_place_of (places_from (used_of l).control_ids control_size control_places l)

unfoldable pub sections_in : List ℕ → List KeptSection
unfolding places_from section_place_of
sections_in l = map section_place_of (places_from (used_of l).sections section_size section_places l)

-- limits, with the buffers as they are lent now; what the head has; the counts of table ids
unfoldable pub head_sound : List ℕ → List ℕ → Lengths → Bool
head_sound l others lent =
    if not (asked (limits_of l) lent =? 0) then false
    else if not (used_sound (limits_of l) (used_of l)) then false
    else if not (latest_sound (limits_of l) (latest_of l)) then false
    else if not (counters_sound (counters_of l)) then false
    else every count_fits_of others

unfoldable pub places_sound : List ℕ → Bool
places_sound l =
    if not (every (media_sound (limits_of l)) (media_in l)) then false
    else if not (every (control_sound (limits_of l)) (controls_in l)) then false
    else every (section_sound (limits_of l)) (sections_in l)

unfoldable pub names_sound : List ℕ → Bool
names_sound l =
    if not (distinct (names_from (used_of l).media_ids media_size media_places l)) then false
    else if not (distinct (names_from (used_of l).control_ids control_size control_places l)) then false
    else distinct (names_from (used_of l).sections section_size section_places l)

-- whether none of the counts is above `most`
unfoldable pub stats_at_most : ℕ → Media → Bool
unfolding every
stats_at_most most m = every (at_most most) (stats_counts m.stats)

unfoldable pub counts_at_most : ℕ → List ℕ → List ℕ → Bool
unfolding every media_in stats_at_most
counts_at_most most l others =
    if not (every (at_most most) (packet_counts (counters_of l) ++ table_counts (counters_of l))) then false
    else if not (every (stats_at_most most) (media_in l)) then false
    else every (at_most most) others

-- 2^52: counts that are not above it are far from 2^53
abbrev pub roomy_count : ℕ
roomy_count = 4503599627370496

-- places that lie within the state
pub record PlacesThere (l : List ℕ) : Type 0 where
  pub long : state_size ≤ length l
  pub media : (used_of l).media_ids ≤ most_media_ids
  pub controls : (used_of l).control_ids ≤ most_control_ids
  pub sections : (used_of l).sections ≤ most_sections

unfoldable pub sound_in : List ℕ → List ℕ → Lengths → Bool
unfolding head_sound places_sound names_sound
sound_in l others lent =
    if not (head_sound l others lent) then false else if not (places_sound l) then false else names_sound l

-- question 5 answered yes, fact by fact
pub record Sound (l others : List ℕ) (lent : Lengths) : Type 0 where
  pub limits : asked (limits_of l) lent ≡ 0
  pub there : PlacesThere l
  -- as many places in use as there may be
  pub media : (used_of l).media_ids ≤ (limits_of l).media_ids
  pub controls : (used_of l).control_ids ≤ (limits_of l).control_ids
  pub sections : (used_of l).sections ≤ (limits_of l).sections
  -- the PLT and the TOT fit their areas
  pub plt : (latest_of l).plt ≡ true → (latest_of l).plt_length ≤ (limits_of l).table_area
  pub tot : (latest_of l).tot ≡ true → (latest_of l).tot_length ≤ (limits_of l).table_area
  -- counts
  pub packets : every count_fits_of (packet_counts (counters_of l)) ≡ true
  pub tables : every count_fits_of (table_counts (counters_of l)) ≡ true
  pub counts : every count_fits_of others ≡ true
  -- every place in use
  pub objects : every (media_sound (limits_of l)) (media_in l) ≡ true
  pub messages : every (control_sound (limits_of l)) (controls_in l) ≡ true
  pub kept : every (section_sound (limits_of l)) (sections_in l) ≡ true
  -- no name twice
  pub media_names : distinct (names_from (used_of l).media_ids media_size media_places l) ≡ true
  pub control_names : distinct (names_from (used_of l).control_ids control_size control_places l) ≡ true
  pub keys : distinct (names_from (used_of l).sections section_size section_places l) ≡ true

abbrev pub lengths_of : Session → Lengths
lengths_of s =
    record {
      state = length s.state;
      objects = length s.objects;
      messages = length s.messages;
      tables = length s.tables;
    }

unfoldable pub sound : Session → Bool
unfolding sound_in
sound s = sound_in s.state s.others (lengths_of s)
