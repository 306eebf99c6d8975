-- What a sender that conforms to ARIB STD-B60 writes of the bodies of descriptors is read right. Assumes nothing.
use Rattle.std.proofs.Common.{◌≡◌, ℕ, ◌+◌, ◌-◌, ◌/◌, ◌%◌, ◌^◌, ◌<◌, ◌≤◌, List, [], ◌∷◌, ◌++◌, map, length, get_or, refl, ◌∙◌, ap₂, add-zero, arith, length-append, drop_of_length-le, drop_at, le-ltb, lt-ltb}
use lib.ListN.{length-map}
use Rattle.isdb_tlv.specs.Bytes.{be}
use Rattle.isdb_tlv.specs.Fields.{bytes_of, Field, field, bits, packed, written, Fit}
use Rattle.isdb_tlv.proofs.Fields.{be_one, size, field_at, offset_of, length_written}
use Rattle.isdb_mmt.specs.Formats.Part.{part_at, part_of}
use Rattle.isdb_mmt.specs.Formats.Location.{location_of}
use Rattle.isdb_mmt.specs.Standards.StdB60.{width_of, loop_sent, LoopConforming, SentLocation, same_flow, ipv4, ipv6, mpeg2_ts, mpeg2_ts_ipv6, url, location_fields, location_bytes, location_sent, LocationConforming, location_seen}
use Rattle.isdb_mmt.specs.Formats.Desc.{descriptor_of, access_control, scrambler, stream_identifier, service_text, short_event_of, hevc, service_at, genre_at}
use Rattle.isdb_mmt.specs.Formats.Timestamp.{timestamp_at}
use Rattle.isdb_mmt.specs.WholeValues.Steps.{at_end, element, Counts}
use Rattle.isdb_mmt.specs.WholeValues.WholeDescriptors.{url_in, timestamp_seen, timestamps_in, service_seen, services_in, genre_seen as genre_stood, genres_in, location_seen as location_stood}
use Rattle.isdb_mmt.specs.WholeValues.WholeLists.{whole_sent as sent_whole}
use Rattle.isdb_mmt.specs.Standards.StdB60Sections.{All}
use Rattle.isdb_mmt.proofs.BytesAt.{FoundAt, located_whole, located_first, located_last, located_part, located_drop, located_within, located_front, located_rest, field_read, first_read, byte_read}
use Rattle.isdb_mmt.proofs.StdB60.{places}
use Rattle.isdb_mmt.proofs.DescriptorWalks.{rows}
use Rattle.isdb_mmt.proofs.BytesBehind.{found_is}
use Rattle.isdb_mmt.proofs.WholeLists.{sent as sent_read}
use Rattle.isdb_mmt.specs.Standards.StdB60Descriptors.{rows_sent, SentTime, time_fields, time_sent, TimeConforming, time_seen, SentListed, listed_fields, listed_sent, ListedConforming, listed_seen, SentGenre, genre_fields, genre_sent, GenreConforming, genre_seen}
use Rattle.isdb_mmt.specs.Standards.StdB60Descriptors.{SentHevc, hevc_fields, HevcConforming, event_fields, scrambler_fields, service_fields}
use Rattle.isdb_mmt.specs.Standards.StdB60Descriptors.{SentBody, mpu_times, ca_system, ca_system_at, scrambling, hevc_video, services_listed, event_texts, component_tag_of, genres, broadcaster_called, service_called, mpu_times_extended, tag_of, BodyConforming, BodyRead, BodyTheorem}
use Rattle.isdb_mmt.specs.Standards.StdB60Descriptors.{place_seen, length_bytes, whole_sent, WholeConforming, whole_seen, described, DescriptorsTheorem, LocationsTheorem, Examples}
use Rattle.isdb_mmt.proofs.StdB60Rows.{rows_given, ends_same}
use Rattle.isdb_mmt.proofs.StdB60Extended.{extended_read}

-- fields at the front, and what stands behind them
abbrev pub behind : List Field → List ℕ → List ℕ
behind fs r = written fs ++ r

module _ (fs : List Field) (fit : Fit fs) (r : List ℕ) where
  front_byte : (k : ℕ) → (field_at k fs).width ≡ 1 → get_or (behind fs r) (0 + offset_of k fs) 0 ≡ (field_at k fs).value
  front_byte = byte_read fs fit (located_front (written fs) r (located_whole (behind fs r)))

  front_field : (k : ℕ) → be (field_at k fs).width (behind fs r) (0 + offset_of k fs) ≡ (field_at k fs).value
  front_field = field_read fs fit (located_front (written fs) r (located_whole (behind fs r)))

  rest_found : FoundAt (behind fs r) (0 + size fs) r
  rest_found = located_rest (written fs) r (located_whole (behind fs r)) (length_written fs)

  behind_length : length (behind fs r) ≡ size fs + length r
  behind_length = rw (length-append, length_written fs)

-- scrambler
scrambler_read : (layer reserved system : ℕ) (private : List ℕ) → BodyConforming (scrambling layer reserved system private)
    → BodyRead (scrambling layer reserved system private)
unfolding descriptor_of scrambler
scrambler_read layer reserved system private c =
    let fs = scrambler_fields layer reserved system in
    let s = behind fs private in
    let fit : Fit fs = omega arith in
    let long = behind_length fs fit private in
    let upper : get_or s 0 0 / 64 ≡ layer = rw (front_byte fs fit private 0 refl) (omega arith) in
    rw (le-ltb (length s) 2 (omega arith), upper, front_byte fs fit private 1 refl)

-- stream identifier
component_read : (c : ℕ) → BodyConforming (component_tag_of c) → BodyRead (component_tag_of c)
unfolding descriptor_of stream_identifier
component_read c h =
    let fs : List Field = field 2 c ∷ [] in
    let s = written fs in
    let fit : Fit fs = omega arith in
    rw (le-ltb (length s) 2 (omega (arith, length_written fs)), first_read fs fit (located_whole s))

-- HEVC
hevc_read : (x : SentHevc) → HevcConforming x → BodyRead (hevc_video x)
unfolding descriptor_of hevc
hevc_read x c =
    let fs = hevc_fields x in
    let s = behind fs x.behind in
    let fit : Fit fs = omega arith in
    let long = behind_length fs fit x.behind in
    let byte = front_byte fs fit x.behind 0 refl in
    let profile : get_or s 0 0 % 32 ≡ x.profile = rw byte (omega arith) in
    let tier : get_or s 0 0 / 32 % 2 ≡ x.tier = rw byte (omega arith) in
    rw (le-ltb (length s) 12 (omega arith), profile, tier, front_byte fs fit x.behind 3 refl)

-- a text behind a length of `w` bytes that stands at `at`
pub record TextAt (s : List ℕ) (w at : ℕ) (t : List ℕ) : Type 0 where
  pub long : at + w + length t ≤ length s
  pub size : be w s at ≡ length t
  pub text : part_of s (part_at (at + w) (length t)) ≡ t

text_at : {s : List ℕ} {at : ℕ} (w : ℕ) (t : List ℕ) → length t < 256 ^ w → FoundAt s at (written (field w (length t) ∷ []) ++ t)
    → TextAt s w at t
text_at {s} {at} w t short h =
    let fs : List Field = field w (length t) ∷ [] in
    let fit : Fit fs = (short, tt) in
    let n : length (written fs) ≡ w = length_written fs ∙ add-zero w in
    let there = located_rest (written fs) t h n in
    record {
      long = located_within t there;
      size = first_read fs fit (located_front (written fs) t h);
      text = located_part t there;
    }

-- MH-service
service_read : (t : ℕ) (provider name : List ℕ) → BodyConforming (service_called t provider name) → BodyRead (service_called t provider name)
unfolding descriptor_of service_text
service_read t provider name c =
    let fs = service_fields t provider in
    let last = written (field 1 (length name) ∷ []) ++ name in
    let s = behind fs (provider ++ last) in
    let fit : Fit fs = omega arith in
    let p = length provider in
    let there = rest_found fs fit (provider ++ last) in
    let e : 2 + p ≡ p + 2 = omega arith in
    let e3 : p + 2 + 1 ≡ p + 3 = omega arith in
    let first : part_of s (part_at 2 p) ≡ provider = located_part provider (located_front provider last there) in
    let second : TextAt s 1 (p + 2) name = rw e at (text_at 1 name c.2 (located_rest provider last there refl)) in
    let long : p + 2 + 1 + length name ≤ length s = second.long in
    let size : get_or s (p + 2) 0 ≡ length name = be_one s (p + 2) ∙ second.size in
    let text : part_of s (part_at (p + 3) (length name)) ≡ name = rw e3 at second.text in
    rw (le-ltb (length s) 2 (omega arith), front_byte fs fit (provider ++ last) 1 refl, front_byte fs fit (provider ++ last) 0 refl, size)
    (rw (le-ltb (length s) (p + 3) (omega arith), le-ltb (length s) (p + 3 + length name) (omega arith), first, text))

-- MH-short event
event_read : (a b c : ℕ) (name text : List ℕ) → BodyConforming (event_texts a b c name text) → BodyRead (event_texts a b c name text)
unfolding descriptor_of short_event_of
event_read a b c name text h =
    let fs = event_fields a b c name in
    let last = written (field 2 (length text) ∷ []) ++ text in
    let r = name ++ last in
    let s = behind fs r in
    let fit : Fit fs = omega arith in
    let n = length name in
    let there = rest_found fs fit r in
    let e : 4 + n ≡ n + 4 = omega arith in
    let e2 : n + 4 + 2 ≡ n + 6 = omega arith in
    let first : part_of s (part_at 4 n) ≡ name = located_part name (located_front name last there) in
    let second : TextAt s 2 (n + 4) text = rw e at (text_at 2 text h.4 (located_rest name last there refl)) in
    let long : n + 4 + 2 + length text ≤ length s = second.long in
    let body : part_of s (part_at (n + 6) (length text)) ≡ text = rw e2 at second.text in
    let byte = front_byte fs fit r in
    rw (le-ltb (length s) 4 (omega arith), byte 3 refl, byte 0 refl, byte 1 refl, byte 2 refl, second.size)
    (rw (le-ltb (length s) (n + 6) (omega arith), le-ltb (length s) (n + 6 + length text) (omega arith), first, body))

-- MH-broadcaster name
broadcaster_read : (name : List ℕ) → BodyRead (broadcaster_called name)
unfolding descriptor_of
broadcaster_read name = rw (located_part name (located_whole name))

-- entries to the end of the body
module _ (ts : List SentTime) (c : All TimeConforming ts) where
  abbrev times : List ℕ
  times = rows_sent time_sent ts

  time_step : (at : ℕ) (t : SentTime) → TimeConforming t → FoundAt times at (time_sent t)
      → timestamp_seen times at ≡ element (time_seen t) (at + length (time_sent t))
  unfolding timestamp_at
  time_step at t h f =
      let fs = time_fields t in
      let fit : Fit fs = omega arith in
      let long = located_within (time_sent t) f in
      rw (length_written fs, le-ltb (length times - at) 12 (omega (arith, length_written fs)), first_read fs fit f, field_read fs fit f 1)

  times_end : timestamp_seen times (0 + length times) ≡ at_end
  unfolding timestamp_at
  times_end = rw (lt-ltb (length times - (0 + length times)) 12 (omega arith))

  times_read : BodyRead (mpu_times ts)
  unfolding descriptor_of
  times_read =
      let g = rows_given time_sent time_seen TimeConforming times (timestamp_seen times) time_step 0 ts c (located_whole times) in
      let all : timestamps_in times ≡ map time_seen ts =
      ends_same (timestamp_seen times) (rows times).timestamps (record { stop = 0 + length times; gives = g; ends = times_end }) in
      rw all

module _ (xs : List SentListed) (c : All ListedConforming xs) where
  abbrev listed : List ℕ
  listed = rows_sent listed_sent xs

  listed_step : (at : ℕ) (x : SentListed) → ListedConforming x → FoundAt listed at (listed_sent x)
      → service_seen listed at ≡ element (listed_seen x) (at + length (listed_sent x))
  unfolding service_at
  listed_step at x h f =
      let fs = listed_fields x in
      let fit : Fit fs = omega arith in
      let long = located_within (listed_sent x) f in
      rw (length_written fs, le-ltb (length listed - at) 3 (omega (arith, length_written fs)), first_read fs fit f, byte_read fs fit f 1 refl)

  listed_end : service_seen listed (0 + length listed) ≡ at_end
  unfolding service_at
  listed_end = rw (lt-ltb (length listed - (0 + length listed)) 3 (omega arith))

  pub listed_whole : services_in listed ≡ map listed_seen xs
  listed_whole =
      let g = rows_given listed_sent listed_seen ListedConforming listed (service_seen listed) listed_step 0 xs c (located_whole listed) in
      ends_same (service_seen listed) (rows listed).services (record { stop = 0 + length listed; gives = g; ends = listed_end })

module _ (xs : List SentGenre) (c : All GenreConforming xs) where
  abbrev kinds : List ℕ
  kinds = rows_sent genre_sent xs

  genre_step : (at : ℕ) (x : SentGenre) → GenreConforming x → FoundAt kinds at (genre_sent x)
      → genre_stood kinds at ≡ element (genre_seen x) (at + length (genre_sent x))
  unfolding genre_at
  genre_step at x h f =
      let fs = genre_fields x in
      let fit : Fit fs = omega arith in
      let long = located_within (genre_sent x) f in
      let byte : get_or kinds at 0 ≡ packed (bits 4 x.level1 ∷ bits 4 x.level2 ∷ []) = be_one kinds at ∙ first_read fs fit f in
      let first : get_or kinds at 0 / 16 ≡ x.level1 = rw byte (omega arith) in
      let second : get_or kinds at 0 % 16 ≡ x.level2 = rw byte (omega arith) in
      rw (length_written fs, le-ltb (length kinds - at) 2 (omega (arith, length_written fs)), first, second, byte_read fs fit f 1 refl)

  genres_end : genre_stood kinds (0 + length kinds) ≡ at_end
  unfolding genre_at
  genres_end = rw (lt-ltb (length kinds - (0 + length kinds)) 2 (omega arith))

  genres_whole : genres_in kinds ≡ map genre_seen xs
  genres_whole =
      let g = rows_given genre_sent genre_seen GenreConforming kinds (genre_stood kinds) genre_step 0 xs c (located_whole kinds) in
      ends_same (genre_stood kinds) (rows kinds).genres (record { stop = 0 + length kinds; gives = g; ends = genres_end })

-- the bytes of a URL
pub url_read : (p : SentLocation) (r : List ℕ) → url_in (location_sent p ++ r) (location_seen p) ≡ location_bytes p
url_read (same_flow id) r = refl
url_read (ipv4 src dst port id) r = refl
url_read (ipv6 sh sl dh dl port id) r = refl
url_read (mpeg2_ts network ts pid) r = refl
url_read (mpeg2_ts_ipv6 sh sl dh dl port pid) r = refl
url_read (url b) r =
    located_part b
    (located_rest (written (location_fields (url b))) b (located_first (location_sent (url b)) r) (length_written (location_fields (url b))))

-- access control
abbrev ca_field : ℕ → List Field
ca_field ca = field 2 ca ∷ []

alone_read : (ca : ℕ) → ca < 2 ^ 16 → BodyRead (ca_system ca)
unfolding descriptor_of access_control location_of
alone_read ca c =
    let fs = ca_field ca in
    let s = written fs in
    let fit : Fit fs = omega arith in
    let long = length_written fs in
    rw (le-ltb (length s) 2 (omega arith), first_read fs fit (located_whole s), drop_of_length-le s {i = 2} (omega arith))

control_read_lem : (ca : ℕ) (p : SentLocation) (private : List ℕ) → ca < 2 ^ 16 → LocationConforming p → BodyRead (ca_system_at ca p private)
unfolding descriptor_of access_control
control_read_lem ca p private c d =
    let fs = ca_field ca in
    let r = location_sent p ++ private in
    let s = behind fs r in
    let fit : Fit fs = omega arith in
    let long = behind_length fs fit r in
    let rest = drop_at (written fs) r 2 (length_written fs) in
    rw (le-ltb (length s) 2 (omega arith), front_field fs fit r 0, rest, (places p d private).location)
    (rw (rest, url_read p private))

pub bodies : BodyTheorem
unfolding descriptor_of
bodies (mpu_times ts) c = times_read ts c
bodies (ca_system ca) c = alone_read ca c
bodies (ca_system_at ca p private) c = control_read_lem ca p private c.0 c.1
bodies (scrambling layer reserved system private) c = scrambler_read layer reserved system private c
bodies (hevc_video x) c = hevc_read x c
bodies (services_listed xs) c = rw (listed_whole xs c)
bodies (event_texts a b d name text) c = event_read a b d name text c
bodies (component_tag_of d) c = component_read d c
bodies (genres xs) c = rw (genres_whole xs c)
bodies (broadcaster_called name) c = broadcaster_read name
bodies (service_called t provider name) c = service_read t provider name c
bodies (mpu_times_extended e) c = extended_read e c

-- whole descriptors
width : (d : SentBody) → width_of (tag_of d) ≡ length_bytes d
unfolding width_of
width (mpu_times ts) = refl
width (ca_system ca) = refl
width (ca_system_at ca p private) = refl
width (scrambling layer reserved system private) = refl
width (hevc_video x) = refl
width (services_listed xs) = refl
width (event_texts a b d name text) = refl
width (component_tag_of d) = refl
width (genres xs) = refl
width (broadcaster_called name) = refl
width (service_called t provider name) = refl
width (mpu_times_extended e) = refl

tag_fits : (d : SentBody) → tag_of d < 2 ^ 16
tag_fits (mpu_times ts) = omega arith
tag_fits (ca_system ca) = omega arith
tag_fits (ca_system_at ca p private) = omega arith
tag_fits (scrambling layer reserved system private) = omega arith
tag_fits (hevc_video x) = omega arith
tag_fits (services_listed xs) = omega arith
tag_fits (event_texts a b d name text) = omega arith
tag_fits (component_tag_of d) = omega arith
tag_fits (genres xs) = omega arith
tag_fits (broadcaster_called name) = omega arith
tag_fits (service_called t provider name) = omega arith
tag_fits (mpu_times_extended e) = omega arith

loop_is : (ds : List SentBody) → loop_sent (map described ds) ≡ rows_sent whole_sent ds
loop_is [] = refl
loop_is (d ∷ ds) = rw (width d, loop_is ds)

loop_fits : (ds : List SentBody) → All WholeConforming ds → LoopConforming (map described ds)
loop_fits [] c = tt
loop_fits (d ∷ ds) c = (record { tag = tag_fits d; short = rw (width d) c.0.short }, loop_fits ds c.1)

loop_seen : (ds : List SentBody) → All WholeConforming ds → map sent_whole (map described ds) ≡ map whole_seen ds
loop_seen [] c = refl
loop_seen (d ∷ ds) c = ap₂ ◌∷◌ (rw (bodies d c.0.body)) (loop_seen ds c.1)

pub descriptors : DescriptorsTheorem
descriptors ds c =
    record {
      loop = loop_is ds;
      conforms = loop_fits ds c;
      values = rw (loop_is ds, loop_seen ds c) at (sent_read (map described ds) (loop_fits ds c));
    }

-- locations
location_step : (s : List ℕ) (at : ℕ) (p : SentLocation) → LocationConforming p → FoundAt s at (location_sent p)
    → location_stood s at ≡ element (place_seen p) (at + length (location_sent p))
location_step s at p c h =
    let rest = located_drop (location_sent p) h in
    rw (rest, (places p c h.behind).location) (rw (rest, url_read p h.behind))

pub locations : LocationsTheorem
locations a ps r c =
    let all = rows_sent location_sent ps in
    let s = a ++ (all ++ r) in
    let there : FoundAt s (length a) all = located_front all r (located_last a (all ++ r) refl) in
    let g = rows_given location_sent place_seen LocationConforming s (location_stood s) (location_step s) (length a) ps c there in
    let all-given : Counts (location_stood s) (length ps) (length a) (map place_seen ps) =
    record { count = length-map ps place_seen; stop = length a + length all; gives = g } in
    found_is (location_stood s) all-given

pub examples_conform : Examples
unfolding bytes_of
examples_conform =
    record {
      conform = (
        omega arith,
        (
          omega arith,
          (
            omega arith,
            (
              omega arith,
              (
                omega arith,
                (
                  omega arith,
                  (
                    omega arith,
                    (
                      omega arith,
                      (
                        omega arith,
                        (
                          omega arith,
                          (record { body = tt; short = omega arith }, (omega arith, (omega arith, (omega arith, (omega arith, tt))))),
                        ),
                      ),
                    ),
                  ),
                ),
              ),
            ),
          ),
        ),
      );
      bytes = refl;
      url_conforms = omega arith;
      url_bytes = refl;
    }
