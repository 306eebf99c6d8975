-- What a media packet asks for, leaves in the lent bytes and hands out. All of it is the model's, laid out in bytes: of the
-- state the packet's own place, the number of places in use where it takes one, and the count of packets; of the objects its area.
use Rattle.std.specs.Prelude.{◌≡◌, ℕ, ◌+◌, ◌*◌, List, [], ◌∷◌, length, ◌≢◌, Option, None, Some}
use Rattle.isdb_tlv.specs.Guards.{◌<?◌}
use Rattle.std.specs.Prelude.{if◌then◌else◌}
use Rattle.isdb_tlv.specs.Fields.{field, written}
use Rattle.isdb_mmt.specs.Decoder.Packet.{Bytes, MpuPacket, media}
use Rattle.isdb_mmt.specs.Decoder.Objects.{Mfu, Asset, asset_after}
use Rattle.isdb_mmt.specs.Decoder.Model.{asset_of, gives}
use Rattle.isdb_mmt.specs.Decoder.Needs.{Needs, needs}
use Rattle.isdb_mmt.specs.Memory.Lent.{over, names_from, place_for_name}
use Rattle.isdb_mmt.specs.Memory.Layout.{used_place, counters_place, media_places, media_size}
use Rattle.isdb_mmt.specs.Memory.Session.{Session, limits_of, used_of, used_fields, counters_of, media_fields}
use Rattle.isdb_mmt.specs.Memory.View.{view}
use Rattle.isdb_mmt.specs.Memory.Opening.{lent}
use Rattle.isdb_mmt.specs.Pushes.Records.{row_size, rows_from, data_from}
unfoldable pub use Rattle.isdb_mmt.specs.Memory.PlacesOf.{no_object, held_for, first_in, place_for_asset}
use Rattle.isdb_mmt.specs.declared.decoder.place.PlaceFor.{PlaceFor}
use Rattle.isdb_mmt.specs.declared.decoder.place.PlaceFor.TheVariants.{Own, Free, NoneFree}
use Rattle.isdb_mmt.specs.declared.decoder.head.Used.{Used}
use Rattle.isdb_mmt.specs.declared.decoder.limits.Limits.{Limits}

-- ---- what is left

abbrev pub held_over : ℕ → Option Mfu → List ℕ → List ℕ
held_over at None l = l
held_over at (Some h) l = over at h.bytes l

abbrev pub with_place : ℕ → ℕ → Asset → List ℕ → List ℕ
with_place i id a l = over (media_places + media_size * i) (written (media_fields (place_for_asset id a))) l

abbrev pub one_more_of : Used → Used
one_more_of u = record { media_ids = u.media_ids + 1; control_ids = u.control_ids; sections = u.sections }

abbrev pub with_used : Used → List ℕ → List ℕ
with_used u l = over used_place (written (used_fields u)) l

-- the count of packets is the first counter
abbrev pub with_packets : ℕ → List ℕ → List ℕ
with_packets n l = over counters_place (written (field 8 n ∷ [])) l

unfoldable pub media_place_for : List ℕ → ℕ → PlaceFor
media_place_for l id = place_for_name (names_from (used_of l).media_ids media_size media_places l) (limits_of l).media_ids id

abbrev pub leaves_at : Session → ℕ → Asset → PlaceFor → Session
leaves_at s id a (Own i) =
    lent (with_packets ((counters_of s.state).tlv_packets + 1) (with_place i id a s.state)) s.others
    (held_over (i * (limits_of s.state).mfu_area) a.held s.objects) s.messages s.tables
leaves_at s id a (Free i) =
    lent (with_packets ((counters_of s.state).tlv_packets + 1) (with_used (one_more_of (used_of s.state)) (with_place i id a s.state))) s.others
    (held_over (i * (limits_of s.state).mfu_area) a.held s.objects) s.messages s.tables
leaves_at s id a NoneFree = s

unfoldable pub asset_next : Session → MpuPacket → Asset
asset_next s m = asset_after (asset_of m.id (view s)) m

unfoldable pub media_leaves : Session → MpuPacket → Session
media_leaves s m = leaves_at s m.id (asset_next s m) (media_place_for s.state m.id)

-- ---- questions 8 to 10, by what the model would need

abbrev pub asks_for : Limits → Used → ℕ → ℕ → Needs → ℕ
asks_for l u rows given n =
    if l.media_ids <? u.media_ids + n.media_ids then 8
    else if l.mfu_area <? n.object then 9
    else if rows <? row_size * n.records then 10
    else if given <? n.data_bytes then 10
    else 0

unfoldable pub media_asks : Session → ℕ → ℕ → MpuPacket → ℕ
media_asks s rows given m = asks_for (limits_of s.state) (used_of s.state) rows given (needs (view s) (media m))

-- ---- a push: what is lent, with the output buffers, before and after

pub record MediaPushed (s : Session) (rows given : Bytes) (m : MpuPacket) (r records bytes : ℕ) (s' : Session) (rows' given' : Bytes) : Type 0 where
  pub number : r ≡ media_asks s (length rows) (length given) m
  pub same : (r ≢ 0) → s' ≡ s
  pub kept : (r ≢ 0) → (rows' ≡ rows) × (given' ≡ given)
  pub nothing : (r ≢ 0) → (records ≡ 0) × (bytes ≡ 0)
  pub session : r ≡ 0 → s' ≡ media_leaves s m
  pub rows_out : r ≡ 0 → rows' ≡ over 0 (rows_from 0 (gives (view s) (media m))) rows
  pub data_out : r ≡ 0 → given' ≡ over 0 (data_from (gives (view s) (media m))) given
  pub counts : r ≡ 0 → (records ≡ (needs (view s) (media m)).records) × (bytes ≡ (needs (view s) (media m)).data_bytes)
