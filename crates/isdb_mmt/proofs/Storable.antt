-- A state that the places of a session can hold: of every id and key numbers fit, lengths are within areas, bytes are bytes. The
-- view of every session that passes question 5 is one, with counts up to 2^53, and so is what a packet makes of it, with counts
-- up to 2^53 + 2^21. Assumes nothing.
use Rattle.std.specs.Prelude.{Option, None, Some}
use Rattle.std.proofs.Common.{◌≡◌, ℕ, zero, suc, ◌+◌, ◌*◌, ◌<◌, ◌≤◌, Bool, true, false, List, map, length, get_or, drop, replicate, refl, arith, length-take}
use lib.ListN.{length-map}
use Rattle.isdb_mmt.specs.Decoder.Packet.{Bytes, MpuPacket, MessagePacket, Packet, ip_error, ntp, non_mmtp_of, media, message, control, other, classify}
use Rattle.isdb_mmt.specs.Decoder.Objects.{Mfu, Asset, fresh, asset_after}
use Rattle.isdb_mmt.specs.Decoder.Reassembly.{PartialMessage, most_message, reassembly_after, message_completed, cut_of_all}
use Rattle.isdb_mmt.specs.Decoder.Kept.{zeros, table_read, mpt_after_all, a_section, section_of}
use Rattle.isdb_mmt.specs.Decoder.GivenTables.{tables_given, control_tables}
use Rattle.isdb_mmt.specs.Decoder.Model.{State, Control as ControlState, idle_control, opened, asset_of, control_of, reassembly_of, packet_counted, time_after, pushed}
use Rattle.isdb_mmt.specs.Decoder.Needs.{held_length, needs}
use Rattle.isdb_mmt.specs.Memory.Lent.{part, places_from, every, indexed}
use Rattle.isdb_mmt.specs.Memory.Layout.{most_count, media_places, media_size, object_place, control_places, control_size, section_places, section_size, time_place}
use Rattle.isdb_mmt.specs.Memory.Session.{Session, limits_of, used_of, latest_of, time_of, counters_of, held_object_at, media_place_of, control_place_of, section_place_of}
use Rattle.isdb_mmt.specs.Memory.Check.{stats_counts, packet_counts, table_counts, media_sound, control_sound, section_sound, media_in, controls_in, sections_in, Sound, lengths_of}
use Rattle.isdb_mmt.specs.Memory.View.{given, header_given, item_given, mfu_of, asset_of_place, control_state_in, asset_entry, control_entry, section_entry, view_by, view}
use Rattle.isdb_mmt.specs.Memory.Octets.{Octets, Lent}
use Rattle.isdb_mmt.specs.Memory.PlacesOf.{first_in}
use Rattle.isdb_mmt.specs.Pushes.MediaPlace.{StatsWithin}
use Rattle.isdb_mmt.specs.declared.mpu.MfuHeader.{MfuHeader}
use Rattle.isdb_mmt.specs.declared.decoder.counts.AssetStats.{AssetStats}
use Rattle.isdb_mmt.specs.declared.decoder.counts.Counters.{Counters}
use Rattle.isdb_mmt.specs.declared.decoder.limits.Limits.{Limits}
use Rattle.isdb_mmt.proofs.Checks.{media_was, control_was, section_was, count_was}
use Rattle.isdb_mmt.proofs.Guards.{was_both}
use Rattle.isdb_mmt.proofs.Every.{Every, every_put, every_found, every_mono}
use Rattle.isdb_mmt.proofs.Brief.{octets_part, Plain, plain_of}
use Rattle.isdb_mmt.specs.Theorems.Room.{most_added}
use Rattle.isdb_mmt.proofs.Fits.{asset_more}
use Rattle.isdb_mmt.proofs.Stores.{breaks_in, breaks_read, breaks_control, CountersFit, counters_more, counted_fit}
use Rattle.isdb_mmt.proofs.Joins.{JoinFits, reassembly_fits, gives_fits, Given, given_cut, packet_fits, reassembly_counts}
use Rattle.isdb_mmt.proofs.Outs.{be_small, HeaderOk, MfuOk, ItemOk, ObjectOk, HeldOk, MediaOk, TimeOk, PacketOk, packet_ok}
use Rattle.isdb_mmt.proofs.PlaceFits.{NumberOk, AssetOk, fresh_ok, asset_after_lem, TableOk, KeptOk, StoreOk, store_ok_more, tables_ok, control_ok, stores_ok, mpts_ok, ControlOk, idle_ok}

-- ---- a state

abbrev pub MediaFits : Limits → ℕ → ℕ → Asset → Type 0
MediaFits l n i a = (i < 4294967296) × AssetOk l.mfu_area n a

abbrev pub ReassemblyFits : Limits → ℕ → ControlState → Type 0
ReassemblyFits l i c = (i < 4294967296) × ControlOk l.message_area l.table_area c

-- `n` is the most of a count
pub record Storable (l : Limits) (n : ℕ) (s : State) : Type 0 where
  pub assets : Every (MediaFits l n) s.assets
  pub controls : Every (ReassemblyFits l) s.controls
  pub store : StoreOk l.table_area n s.store
  pub time : TimeOk s.time
  pub counters : CountersFit n n n s.counters

-- question 9
pub record HasAreas (l : Limits) (s : State) (p : Packet) : Type 0 where
  pub object : (needs s p).object ≤ l.mfu_area
  pub message : (needs s p).message ≤ l.message_area
  pub table : (needs s p).table ≤ l.table_area

asset_ok_more : (area n m : ℕ) (a : Asset) → n ≤ m → AssetOk area n a → AssetOk area m a
asset_ok_more area n m a l h =
    record { counts = asset_more area n m a l h.counts; number = h.number; mpu = h.mpu; first = h.first; held = h.held }

-- what a message packet leaves of its id
abbrev pub control_after : State → MessagePacket → ControlState
control_after s c =
    record {
      reassembly = reassembly_after (reassembly_of c.id s) c;
      mpt = mpt_after_all (control_of c.id s).mpt (tables_given (reassembly_of c.id s) c);
    }

module _ (l : Limits) (n : ℕ) (s : State) (h : Storable l n s) where
  others_fit : Every (MediaFits l (n + most_added)) s.assets
  others_fit =
      every_mono (MediaFits l n) (MediaFits l (n + most_added)) (λ i a f. (f.0, asset_ok_more l.mfu_area n (n + most_added) a (omega arith) f.1))
      s.assets h.assets

  counted : (x y z : ℕ) → x ≤ 1 → y ≤ 1 → z ≤ 1
      → CountersFit (n + most_added) (n + most_added) (n + most_added) (packet_counted s.counters x y z)
  counted x y z a b c =
      counters_more (n + 1) n n (n + most_added) (n + most_added) (n + most_added) _ (omega arith) (omega arith) (omega arith)
      (packet_fits n n n x y z s.counters a b c h.counters)

  store_stays : StoreOk l.table_area (n + most_added) s.store
  store_stays = store_ok_more l.table_area n (n + most_added) s.store (omega arith) h.store

  time_after_lem : (t : Option ℕ) → TimeOk t → TimeOk (time_after s.time t)
  unfolding time_after
  time_after_lem None q = h.time
  time_after_lem (Some t) q = q

  -- an id's asset, and its reassembly
  pub asset_of_lem : (i : ℕ) → i < 4294967296 → MediaFits l n i (asset_of i s)
  unfolding asset_of
  asset_of_lem i q = every_found (MediaFits l n) fresh i (q, fresh_ok l.mfu_area n) s.assets h.assets

  pub control_of_lem : (i : ℕ) → i < 4294967296 → ReassemblyFits l i (control_of i s)
  unfolding control_of
  control_of_lem i q = every_found (ReassemblyFits l) idle_control i (q, idle_ok l.message_area l.table_area) s.controls h.controls

  pub asset_next_lem : (m : MpuPacket) → MediaOk m → Plain (media m) → (needs s (media m)).object ≤ l.mfu_area
      → MediaFits l (n + most_added) m.id (asset_after (asset_of m.id s) m)
  unfolding needs
  asset_next_lem m o q t =
      let i : m.id < 4294967296 = omega (arith, o.id) in
      (i, asset_after_lem l.mfu_area n (asset_of m.id s) m (asset_of_lem m.id i).1 o q t)

  -- a message packet: the tables that it gives, and its reassembly after it
  pub tables_given_lem : (c : MessagePacket) → PacketOk (message c) → Plain (message c) → Given (cut_of_all (message_completed (reassembly_of c.id s) c))
  tables_given_lem c o q =
      given_cut (message_completed (reassembly_of c.id s) c)
      (gives_fits l.message_area (reassembly_of c.id s) c (control_of_lem c.id (omega (arith, o.0))).1.joins q.0 q.1)

  pub control_next : (c : MessagePacket) → PacketOk (message c) → Plain (message c) → HasAreas l s (message c) → ReassemblyFits l c.id (control_after s c)
  unfolding needs tables_given reassembly_after
  control_next c o q a =
      let i : c.id < 4294967296 = omega (arith, o.0) in
      let old = (control_of_lem c.id i).1 in
      let bs = (cut_of_all (message_completed (reassembly_of c.id s) c)).tables in (
        i,
        record {
          number = o.1;
          joins = reassembly_fits l.message_area (reassembly_of c.id s) c old.joins q.1 a.message;
          mpt =
              mpts_ok l.table_area (map table_read bs) (control_of c.id s).mpt s.store old.mpt
              (tables_ok bs (tables_given_lem c o q).octets) a.table;
        },
      )

  media_stored : (m : MpuPacket) → MediaOk m → Plain (media m) → (needs s (media m)).object ≤ l.mfu_area
      → Storable l (n + most_added) (pushed s (media m))
  unfolding pushed
  media_stored m o q t =
      record {
        assets = every_put (MediaFits l (n + most_added)) m.id _ (asset_next_lem m o q t) s.assets others_fit;
        controls = h.controls;
        store = store_stays;
        time = h.time;
        counters = counted 0 0 0 (omega arith) (omega arith) (omega arith);
      }

  message_counted_lem : (c : MessagePacket) → PacketOk (message c) → Plain (message c)
      → CountersFit (n + most_added) (n + most_added) (n + most_added) (pushed s (message c)).counters
  unfolding pushed tables_given
  message_counted_lem c o q =
      let reassembly = reassembly_of c.id s in
      let g = tables_given_lem c o q in
      let bs = (cut_of_all (message_completed reassembly c)).tables in
      let many = length-map bs table_read in
      counters_more (n + 1 + (most_message + 2)) (n + length (map table_read bs)) (n + breaks_in (map table_read bs)) (n + most_added) (n + most_added) (n + most_added)
      _ (omega arith) (omega (arith, many, g.many)) (omega (arith, breaks_read bs, g.long))
      (counted_fit (map table_read bs) (n + 1 + (most_message + 2)) n n (control_of c.id s).mpt s.store _
      (reassembly_counts (n + 1) n n _ reassembly c g.malformed
      (packet_fits n n n 0 0 0 s.counters (omega arith) (omega arith) (omega arith) h.counters)))

  control_counted : (bs : List Bytes) → Plain (control bs)
      → CountersFit (n + most_added) (n + most_added) (n + most_added) (pushed s (control bs)).counters
  unfolding pushed
  control_counted bs q =
      let many = length-map bs (λ (b : Bytes). a_section (section_of b)) in
      counters_more (n + 1) (n + length (control_tables bs)) (n + breaks_in (control_tables bs)) (n + most_added) (n + most_added) (n + most_added) _
      (omega arith) (omega (arith, many, q.0)) (omega (arith, breaks_control bs, q.1))
      (counted_fit (control_tables bs) (n + 1) n n None s.store _
      (packet_fits n n n 0 0 0 s.counters (omega arith) (omega arith) (omega arith) h.counters))

  -- counts need no areas
  pub counters_next : (p : Packet) → PacketOk p → Plain p → CountersFit (n + most_added) (n + most_added) (n + most_added) (pushed s p).counters
  unfolding pushed
  counters_next ip_error o q = counted 1 0 0 (omega arith) (omega arith) (omega arith)
  counters_next (ntp t) o q = counted 0 0 1 (omega arith) (omega arith) (omega arith)
  counters_next non_mmtp_of o q = counted 0 1 0 (omega arith) (omega arith) (omega arith)
  counters_next (media m) o q = counted 0 0 0 (omega arith) (omega arith) (omega arith)
  counters_next (message c) o q = message_counted_lem c o q
  counters_next (control bs) o q = control_counted bs q
  counters_next other o q = counted 0 0 0 (omega arith) (omega arith) (omega arith)

  message_stored : (c : MessagePacket) → PacketOk (message c) → Plain (message c) → HasAreas l s (message c)
      → Storable l (n + most_added) (pushed s (message c))
  unfolding pushed needs tables_given
  message_stored c o q a =
      let reassembly = reassembly_of c.id s in
      let g = tables_given_lem c o q in
      let bs = (cut_of_all (message_completed reassembly c)).tables in
      let many = length-map bs table_read in
      record {
        assets = others_fit;
        controls = every_put (ReassemblyFits l) c.id _ (control_next c o q a) s.controls h.controls;
        store =
            store_ok_more l.table_area (n + length (map table_read bs)) (n + most_added) _ (omega (arith, many, g.many))
            (stores_ok l.table_area (map table_read bs) n s.store h.store (tables_ok bs g.octets) a.table);
        time = h.time;
        counters = message_counted_lem c o q;
      }

  control_stored : (bs : List Bytes) → Plain (control bs) → HasAreas l s (control bs) → Storable l (n + most_added) (pushed s (control bs))
  unfolding pushed needs
  control_stored bs q a =
      let many = length-map bs (λ (b : Bytes). a_section (section_of b)) in
      record {
        assets = others_fit;
        controls = h.controls;
        store =
            store_ok_more l.table_area (n + length (control_tables bs)) (n + most_added) _ (omega (arith, many, q.0))
            (stores_ok l.table_area (control_tables bs) n s.store h.store (control_ok bs q.2) a.table);
        time = h.time;
        counters = control_counted bs q;
      }

  counted_stored : (x y z : ℕ) → x ≤ 1 → y ≤ 1 → z ≤ 1 → (t : Option ℕ) → TimeOk t
      → Storable l (n + most_added) (record { passing = s.passing; assets = s.assets; controls = s.controls; store = s.store; time = t; counters = packet_counted s.counters x y z })
  counted_stored x y z a b c t q =
      record { assets = others_fit; controls = h.controls; store = store_stays; time = q; counters = counted x y z a b c }

  -- one packet
  pub storable_push : (p : Packet) → PacketOk p → Plain p → HasAreas l s p → Storable l (n + most_added) (pushed s p)
  unfolding pushed
  storable_push ip_error o q a = counted_stored 1 0 0 (omega arith) (omega arith) (omega arith) s.time h.time
  storable_push (ntp t) o q a = counted_stored 0 0 1 (omega arith) (omega arith) (omega arith) (time_after s.time t) (time_after_lem t o)
  storable_push non_mmtp_of o q a = counted_stored 0 1 0 (omega arith) (omega arith) (omega arith) s.time h.time
  storable_push (media m) o q a = media_stored m o q a.object
  storable_push (message c) o q a = message_stored c o q a
  storable_push (control bs) o q a = control_stored bs q a
  storable_push other o q a = counted_stored 0 0 0 (omega arith) (omega arith) (omega arith) s.time h.time

-- ---- an opened state

abbrev blank : ℕ → List ℕ
blank n = replicate n 0

zero_at : (n i : ℕ) → get_or (blank n) i 0 ≡ 0
zero_at zero i = refl
zero_at (suc n) zero = refl
zero_at (suc n) (suc i) = zero_at n i

pub storable_opened : (l : Limits) (pass : Bool) → Storable l 0 (opened pass)
unfolding opened zeros
storable_opened l pass =
    record {
      assets = tt;
      controls = tt;
      store = record { plt = tt; tot = tt; kept = tt; others = λ i. omega (arith, zero_at 256 i) };
      time = tt;
      counters =
          record {
            tlv_packets = omega arith;
            ip_errors = omega arith;
            non_mmtp = omega arith;
            ntp = omega arith;
            tables = omega arith;
            crc_errors = omega arith;
            malformed = omega arith;
            version_changes = omega arith;
            orphan_fragments = omega arith;
            oversize = omega arith;
            message_malformed = omega arith;
            split_errors = omega arith;
          };
    }

-- ---- the view of a session that passes question 5

-- what a flag says is there
number_given : (b : Bool) (n : ℕ) → n < 4294967296 → NumberOk (given b n)
number_given true n h = h
number_given false n h = tt

first_given : (b : Bool) (r : ℕ × ℕ) → r.0 < 4294967296 → first_in (given b r) < 4294967296
first_given true r h = h
first_given false r h = omega arith

time_given_lem : (b : Bool) (t : ℕ) → t < 18446744073709551616 → TimeOk (given b t)
time_given_lem true t h = h
time_given_lem false t h = tt

header_given_lem : (b : Bool) (h : MfuHeader) → HeaderOk h → MfuOk (header_given b h)
header_given_lem true h o = o
header_given_lem false h o = tt

item_given_lem : (b : Bool) (i : ℕ) → i < 4294967296 → ItemOk (item_given b i)
item_given_lem true i o = o
item_given_lem false i o = tt

held_given : (b : Bool) (u : Mfu) → ObjectOk u → HeldOk (given b u)
held_given true u o = o
held_given false u o = tt

length_given : (b : Bool) (u : Mfu) (n area : ℕ) → length u.bytes ≤ n → (b ≡ true → n ≤ area) → held_length (given b u) ≤ area
length_given true u n area l h = omega (arith, h refl)
length_given false u n area l h = omega arith

join_given : (b : Bool) (j : PartialMessage) (n area : ℕ) → length j.bytes ≤ n → (b ≡ true → n ≤ area) → Octets j.bytes → JoinFits area (given b j)
join_given true j n area l h o = (omega (arith, h refl), o)
join_given false j n area l h o = tt

table_given : (b : Bool) (x : Bytes) (n area : ℕ) → length x ≤ n → (b ≡ true → n ≤ area) → Octets x → TableOk area (given b x)
table_given true x n area l h o = (omega (arith, h refl), o)
table_given false x n area l h o = tt

part_le : (at n : ℕ) (b : Bytes) → length (part at n b) ≤ n
part_le at n b = omega (arith, length-take n (drop at b))

-- every place in use
places_all : {A B : Type 0} (of : Bytes → A) (g : ℕ → A → ℕ × B) (f : A → Bool) (P : ℕ → B → Type 0) (size : ℕ) (b : Bytes) → Octets b
    → ((i : ℕ) (p : Bytes) → Octets p → f (of p) ≡ true → P (g i (of p)).0 (g i (of p)).1)
    → (n at i : ℕ) → every f (map of (places_from n size at b)) ≡ true → Every P (indexed g i (map of (places_from n size at b)))
unfolding every indexed places_from
places_all of g f P size b o h zero at i e = tt
places_all of g f P size b o h (suc n) at i e =
    let q = was_both (f (of (part at size b))) _ e in
    (h i (part at size b) (octets_part at size b o) q.0, places_all of g f P size b o h n (at + size) (i + 1) q.1)

object_ok : (p b : Bytes) → Octets p → Octets b → ObjectOk (mfu_of (held_object_at p) b)
unfolding mfu_of held_object_at
object_ok p b o q =
    record {
      mpu = be_small p o 4 object_place;
      mfu =
          header_given_lem (held_object_at p).timed (held_object_at p).header
          (record {
            fragment = be_small p o 4 (object_place + 6);
            sample = be_small p o 4 (object_place + 10);
            offset = be_small p o 4 (object_place + 14);
            priority = be_small p o 1 (object_place + 18);
            dependency = be_small p o 1 (object_place + 19);
          });
      item_id = item_given_lem (held_object_at p).item (held_object_at p).item_id (be_small p o 4 (object_place + 21));
      octets = q;
    }

-- counts, from the lists of them that question 5 goes through
pub stats_of_lem : (n : ℕ) (s : AssetStats) → ((i : ℕ) → get_or (stats_counts s) i 0 ≤ n) → StatsWithin n s
stats_of_lem n s k =
    record {
      packets = k 0;
      lost = k 1;
      scrambled = k 2;
      mfus = k 3;
      scrambled_mfus = k 4;
      dropped = k 5;
      mpus = k 6;
      jumps = k 7;
      malformed = k 8;
    }

pub counters_of_lem : (n : ℕ) (c : Counters) → ((i : ℕ) → get_or (packet_counts c) i 0 ≤ n) → ((i : ℕ) → get_or (table_counts c) i 0 ≤ n)
    → CountersFit n n n c
counters_of_lem n c k t =
    record {
      tlv_packets = k 0;
      ip_errors = k 1;
      non_mmtp = k 2;
      ntp = k 3;
      tables = t 0;
      crc_errors = t 1;
      malformed = t 2;
      version_changes = t 3;
      orphan_fragments = t 4;
      oversize = t 5;
      message_malformed = t 6;
      split_errors = t 7;
    }

module _ (l : Limits) (s : Session) (h : Lent s) where
  media_view : (i : ℕ) (p : Bytes) → Octets p → media_sound l (media_place_of p) ≡ true
      → MediaFits l most_count (asset_entry l s i (media_place_of p)).0 (asset_entry l s i (media_place_of p)).1
  unfolding media_place_of asset_of_place
  media_view i p o e =
      let m = media_place_of p in
      let w = media_was l m e in
      let b = part (i * l.mfu_area) m.object.length s.objects in
      let q = octets_part (i * l.mfu_area) m.object.length s.objects h.objects in (
        be_small p o 4 0,
        record {
          counts =
              record {
                held = length_given m.held (mfu_of m.object b) m.object.length l.mfu_area (part_le (i * l.mfu_area) m.object.length s.objects) w.0;
                counts = stats_of_lem most_count m.stats (λ j. count_was (stats_counts m.stats) j w.1);
              };
          number = number_given m.seen m.sequence (be_small p o 4 5);
          mpu = number_given m.mpu_seen m.mpu (be_small p o 4 10);
          first = first_given m.mpu_seen (m.first_mpu, m.mpu) (be_small p o 4 14);
          held = held_given m.held (mfu_of m.object b) (object_ok p b o q);
        },
      )

  control_view : (i : ℕ) (p : Bytes) → Octets p → control_sound l (control_place_of p) ≡ true
      → ReassemblyFits l (control_entry l s i (control_place_of p)).0 (control_entry l s i (control_place_of p)).1
  unfolding control_place_of control_state_in
  control_view i p o e =
      let c = control_place_of p in
      let w = control_was l c e in (
        be_small p o 4 0,
        record {
          number = number_given c.seen c.sequence (be_small p o 4 5);
          joins =
              join_given c.joining _ c.length l.message_area (part_le (i * l.message_area) c.length s.messages) w.0
              (octets_part (i * l.message_area) c.length s.messages h.messages);
          mpt =
              table_given c.mpt _ c.mpt_length l.table_area (part_le ((l.sections + i) * l.table_area) c.mpt_length s.tables) w.1
              (octets_part ((l.sections + i) * l.table_area) c.mpt_length s.tables h.tables);
        },
      )

  section_view : (i : ℕ) (p : Bytes) → Octets p → section_sound l (section_place_of p) ≡ true
      → KeptOk l.table_area (section_entry l s i (section_place_of p)).0 (section_entry l s i (section_place_of p)).1
  unfolding section_place_of
  section_view i p o e =
      let x = section_place_of p in
      record {
        key = be_small p o 4 0;
        version = be_small p o 1 4;
        fits = omega (arith, section_was l x e, part_le (i * l.table_area) x.length s.tables);
        octets = octets_part (i * l.table_area) x.length s.tables h.tables;
      }

pub storable_view : (s : Session) → Sound s.state s.others (lengths_of s) → Lent s → Storable (limits_of s.state) most_count (view s)
unfolding view view_by media_in controls_in sections_in time_of
storable_view s q h =
    let l = limits_of s.state in
    let u = used_of s.state in
    let x = latest_of s.state in
    let c = counters_of s.state in
    let plt = (l.sections + l.control_ids) * l.table_area in
    let tot = (l.sections + l.control_ids + 1) * l.table_area in
    record {
      assets =
          places_all media_place_of (asset_entry l s) (media_sound l) (MediaFits l most_count) media_size s.state h.state (media_view l s h)
          u.media_ids media_places 0 q.objects;
      controls =
          places_all control_place_of (control_entry l s) (control_sound l) (ReassemblyFits l) control_size s.state h.state (control_view l s h)
          u.control_ids control_places 0 q.messages;
      store =
          record {
            plt = table_given x.plt _ x.plt_length l.table_area (part_le plt x.plt_length s.tables) q.plt (octets_part plt x.plt_length s.tables h.tables);
            tot = table_given x.tot _ x.tot_length l.table_area (part_le tot x.tot_length s.tables) q.tot (octets_part tot x.tot_length s.tables h.tables);
            kept =
                places_all section_place_of (section_entry l s) (section_sound l) (KeptOk l.table_area) section_size s.state h.state (section_view l s h)
                u.sections section_places 0 q.kept;
            others = λ i. count_was s.others i q.counts;
          };
      time = time_given_lem (time_of s.state).seen (time_of s.state).timestamp (be_small s.state h.state 8 (time_place + 1));
      counters = counters_of_lem most_count c (λ i. count_was (packet_counts c) i q.packets) (λ i. count_was (table_counts c) i q.tables);
    }

-- and of what a packet makes of it
pub storable_next : (s : Session) (kind : ℕ) (b : Bytes) → Sound s.state s.others (lengths_of s) → Lent s → length b ≤ 65535 → Octets b
    → HasAreas (limits_of s.state) (view s) (classify kind b)
    → Storable (limits_of s.state) (most_count + most_added) (pushed (view s) (classify kind b))
storable_next s kind b q h n o a =
    storable_push (limits_of s.state) most_count (view s) (storable_view s q h) (classify kind b) (packet_ok kind b (omega arith) o)
    (plain_of kind b (omega arith) o) a
