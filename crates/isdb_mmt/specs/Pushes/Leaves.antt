-- What an accepted packet leaves in the lent bytes: the model's next state, laid out. Of the state, the places of the packet's own
-- id, the kept sections, how many places are in use, PLT and TOT, the time and the counters; of the areas, what the next state
-- holds, joins and keeps. What it keeps from before lies there already.
use Rattle.std.specs.Prelude.{ℕ, ◌+◌, ◌*◌, true, List, [], ◌∷◌, ◌++◌, length, Option, None, Some}
use Rattle.isdb_tlv.specs.Fields.{written}
use Rattle.isdb_mmt.specs.declared.decoder.counts.Counters.{Counters}
use Rattle.isdb_mmt.specs.Decoder.Packet.{Bytes, MessagePacket, Packet, ip_error, ntp, non_mmtp_of, media, message, control, other}
use Rattle.isdb_mmt.specs.Decoder.Reassembly.{PartialMessage}
use Rattle.isdb_mmt.specs.Decoder.Kept.{Kept, KeptTables}
use Rattle.isdb_mmt.specs.Decoder.Model.{State, Control as ControlState, control_of, pushed}
use Rattle.isdb_mmt.specs.Memory.Lent.{over, names_from, place_for_name}
use Rattle.isdb_mmt.specs.Memory.Layout.{latest_place, time_place, counters_place, control_places, control_size, section_places}
use Rattle.isdb_mmt.specs.Memory.Session.{Session, limits_of, used_of, latest_fields, time_fields, counters_fields, control_fields, section_fields}
use Rattle.isdb_mmt.specs.Memory.View.{view}
use Rattle.isdb_mmt.specs.Memory.Opening.{lent}
use Rattle.isdb_mmt.specs.Memory.PlacesOf.{control_for, section_for, latest_for}
use Rattle.isdb_mmt.specs.Pushes.MediaPush.{with_used, media_leaves}
use Rattle.isdb_mmt.specs.declared.decoder.place.PlaceFor.{PlaceFor}
use Rattle.isdb_mmt.specs.declared.decoder.place.PlaceFor.TheVariants.{Own, Free, NoneFree}
use Rattle.isdb_mmt.specs.declared.decoder.limits.Limits.{Limits}
use Rattle.isdb_mmt.specs.declared.decoder.head.Used.{Used}
use Rattle.isdb_mmt.specs.declared.decoder.section.KeptSection.{KeptSection}

-- ---- places

abbrev pub joined_in : Option PartialMessage → Option Bytes
joined_in None = None
joined_in (Some j) = Some j.bytes

abbrev pub kept_place : ℕ × Kept → KeptSection
kept_place e = section_for e.0 e.1

-- as many places in use as there are ids and keys
abbrev pub used_for : State → Used
used_for n =
    record { media_ids = length n.assets; control_ids = length n.controls; sections = length n.store.kept }

-- ---- the state

abbrev pub with_control : ℕ → ℕ → ControlState → List ℕ → List ℕ
with_control i id c l = over (control_places + control_size * i) (written (control_fields (control_for id c))) l

-- section places one behind the other
unfoldable pub section_rows : List (ℕ × Kept) → List ℕ
section_rows [] = []
section_rows (e ∷ es) = written (section_fields (kept_place e)) ++ section_rows es

abbrev pub with_sections : List (ℕ × Kept) → List ℕ → List ℕ
with_sections kept l = over section_places (section_rows kept) l

abbrev pub with_latest : KeptTables → List ℕ → List ℕ
with_latest s l = over latest_place (written (latest_fields (latest_for s))) l

abbrev pub with_time : Option ℕ → List ℕ → List ℕ
with_time None l = l
with_time (Some t) l = over time_place (written (time_fields (record { seen = true; timestamp = t }))) l

abbrev pub with_counters : Counters → List ℕ → List ℕ
with_counters c l = over counters_place (written (counters_fields c)) l

-- what tables leave: places in use, section places, counters; of a message the PLT and the TOT too
abbrev pub state_of_tables : State → List ℕ → List ℕ
state_of_tables n l = with_counters n.counters (with_sections n.store.kept (with_used (used_for n) l))

-- ---- the areas

abbrev pub bytes_over : ℕ → Option Bytes → Bytes → Bytes
bytes_over at None l = l
bytes_over at (Some b) l = over at b l

-- kept sections, the first in the area `i`
unfoldable pub kept_over : ℕ → ℕ → List (ℕ × Kept) → Bytes → Bytes
kept_over area i [] t = t
kept_over area i (e ∷ es) t = kept_over area (i + 1) es (over (i * area) e.1.bytes t)

-- then PLT and TOT
abbrev pub latest_over : Limits → KeptTables → Bytes → Bytes
latest_over l s t =
    bytes_over ((l.sections + l.control_ids + 1) * l.table_area) s.tot
    (bytes_over ((l.sections + l.control_ids) * l.table_area) s.plt t)

-- ---- packets

-- only the counters
abbrev pub counted_in : Session → State → Session
counted_in s n = lent (with_counters n.counters s.state) s.others s.objects s.messages s.tables

abbrev pub time_leaves : Session → Option ℕ → State → Session
time_leaves s t n = lent (with_counters n.counters (with_time t s.state)) s.others s.objects s.messages s.tables

unfoldable pub control_leaves : Session → State → Session
control_leaves s n =
    lent (state_of_tables n s.state) n.store.others s.objects s.messages
    (kept_over (limits_of s.state).table_area 0 n.store.kept s.tables)

-- a message packet, whose id has the place `i`
unfoldable pub message_in : Session → State → ℕ → ℕ → Session
message_in s n id i =
    lent (with_latest n.store (state_of_tables n (with_control i id (control_of id n) s.state))) n.store.others s.objects
    (bytes_over (i * (limits_of s.state).message_area) (joined_in (control_of id n).reassembly.partial) s.messages)
    (bytes_over (((limits_of s.state).sections + i) * (limits_of s.state).table_area) (control_of id n).mpt
    (latest_over (limits_of s.state) n.store (kept_over (limits_of s.state).table_area 0 n.store.kept s.tables)))

unfoldable pub control_place_for : List ℕ → ℕ → PlaceFor
control_place_for l id = place_for_name (names_from (used_of l).control_ids control_size control_places l) (limits_of l).control_ids id

abbrev pub message_at : Session → State → ℕ → PlaceFor → Session
message_at s n id (Own i) = message_in s n id i
message_at s n id (Free i) = message_in s n id i
message_at s n id NoneFree = s

unfoldable pub message_leaves : Session → MessagePacket → Session
message_leaves s c = message_at s (pushed (view s) (message c)) c.id (control_place_for s.state c.id)

unfoldable pub packet_leaves : Session → Packet → Session
packet_leaves s ip_error = counted_in s (pushed (view s) ip_error)
packet_leaves s non_mmtp_of = counted_in s (pushed (view s) non_mmtp_of)
packet_leaves s other = counted_in s (pushed (view s) other)
packet_leaves s (ntp t) = time_leaves s t (pushed (view s) (ntp t))
packet_leaves s (media m) = media_leaves s m
packet_leaves s (message c) = message_leaves s c
packet_leaves s (control bs) = control_leaves s (pushed (view s) (control bs))
