-- What an accepted push stores fits its fields, so that the session after it is the model's next state and has bytes alone; and so
-- after every list of accepted pushes from an opened session. Assumes nothing.
use Rattle.std.specs.Prelude.{Option, None, Some}
use Rattle.std.proofs.Common.{◌≡◌, ℕ, ◌+◌, ◌*◌, ◌<◌, ◌≤◌, true, List, [], ◌∷◌, ◌++◌, length, refl, ap, ◌∙◌, arith}
use Rattle.isdb_tlv.specs.Fields.{Field, field, written}
use Rattle.isdb_mmt.specs.Decoder.Packet.{Bytes, Packet, classify, ip_error, ntp, non_mmtp_of, media, message, control, other}
use Rattle.isdb_mmt.specs.Decoder.Reassembly.{PartialMessage}
use Rattle.isdb_mmt.specs.Decoder.Objects.{Mfu, Asset, Rec, asset_after}
use Rattle.isdb_mmt.specs.Decoder.Kept.{Kept}
use Rattle.isdb_mmt.specs.Decoder.Model.{State, asset_of, control_of, pushed, gives}
use Rattle.isdb_mmt.specs.Decoder.Needs.{partial_length, needs}
use Rattle.isdb_mmt.specs.Books.Demand.{push_all, give_all}
use Rattle.isdb_mmt.specs.Memory.Layout.{most_count}
use Rattle.isdb_mmt.specs.Memory.Lent.{over}
use Rattle.isdb_mmt.specs.Memory.Session.{Session, limits_of, used_of, counters_of, used_fields, latest_fields, time_fields, counters_fields, control_fields, section_fields, media_fields}
use Rattle.isdb_mmt.specs.Memory.Check.{media_in, controls_in, sections_in, lengths_of, Sound}
use Rattle.isdb_mmt.specs.Memory.View.{asset_entry, control_entry, section_entry, view_by, view}
use Rattle.isdb_mmt.specs.Memory.Opening.{opened_session}
use Rattle.isdb_mmt.specs.Memory.Octets.{Octets, Lent}
use Rattle.isdb_mmt.specs.Memory.PlacesOf.{place_for_asset, table_length, control_for, latest_for}
use Rattle.isdb_mmt.specs.Pushes.MediaPush.{held_over, one_more_of, media_place_for, leaves_at, asset_next, media_leaves}
use Rattle.isdb_mmt.specs.Pushes.Leaves.{joined_in, kept_place, used_for, with_control, section_rows, with_time, with_counters, state_of_tables, bytes_over, kept_over, control_leaves, message_in, control_place_for, message_at, message_leaves, packet_leaves}
use Rattle.isdb_mmt.specs.Pushes.Push.{Input, packet_of, asks, Fits, Taken, leaves_all, handed, handed_all, AllTaken, AllBytes, packets_of, Demand2}
use Rattle.isdb_mmt.specs.declared.decoder.place.PlaceFor.{PlaceFor}
use Rattle.isdb_mmt.specs.declared.decoder.place.PlaceFor.TheVariants.{Own, Free, NoneFree}
use Rattle.isdb_mmt.specs.declared.decoder.limits.Limits.{Limits}
use Rattle.isdb_mmt.proofs.Limits.{passed, Passed}
use Rattle.isdb_mmt.proofs.Checks.{sound_session}
use Rattle.isdb_mmt.proofs.Opening.{opening}
use Rattle.isdb_mmt.proofs.Every.{Every}
use Rattle.isdb_mmt.proofs.Brief.{Plain, plain_of, octets_append, octets_written, octets_over, lent_opened}
use Rattle.isdb_mmt.specs.Theorems.Room.{most_added}
use Rattle.isdb_mmt.proofs.Joins.{JoinFits}
use Rattle.isdb_mmt.proofs.Outs.{HeldOk, PacketOk, packet_ok}
use Rattle.isdb_mmt.proofs.PlaceFits.{TableOk, KeptOk, section_place_lem, control_place_lem}
use Rattle.isdb_mmt.proofs.Storable.{Storable, HasAreas, control_of_lem, asset_next_lem, storable_view, storable_next}
use Rattle.isdb_mmt.proofs.SoundFits.{media_fits, counters_fit, rows_read}
use Rattle.isdb_mmt.proofs.PlacesFor.{length_controls, length_sections, length_media, length_indexed}
use Rattle.isdb_mmt.proofs.TableAreas.{AllKept}
use Rattle.isdb_mmt.proofs.StateWrites.{TablesFit}
use Rattle.isdb_mmt.proofs.PacketLeaves.{taken, ControlFits, Stores, packet_leaves_lem}

-- ---- lengths, from what is known of a state

all_kept : (area : ℕ) → area ≤ 65539 → (es : List (ℕ × Kept)) → Every (KeptOk area) es → AllKept area es
all_kept area small [] h = tt
all_kept area small (e ∷ es) h =
    (record { fields = section_place_lem area e.0 e.1 small h.0; short = h.0.fits }, all_kept area small es h.1)

table_short : (area : ℕ) (o : Option Bytes) → TableOk area o → table_length o ≤ area
table_short area None h = omega arith
table_short area (Some b) h = h.0

join_short : (area : ℕ) (o : Option PartialMessage) → JoinFits area o → partial_length o ≤ area
join_short area None h = omega arith
join_short area (Some j) h = h.0

-- the places in use are the entries of the view
module _ (s : Session) where
  pub media_length : length (view s).assets ≡ (used_of s.state).media_ids
  unfolding view view_by
  media_length = length_indexed (asset_entry (limits_of s.state) s) 0 (media_in s.state) ∙ length_media s.state

  pub control_length : length (view s).controls ≡ (used_of s.state).control_ids
  unfolding view view_by
  control_length = length_indexed (control_entry (limits_of s.state) s) 0 (controls_in s.state) ∙ length_controls s.state

  pub section_length : length (view s).store.kept ≡ (used_of s.state).sections
  unfolding view view_by
  section_length = length_indexed (section_entry (limits_of s.state) s) 0 (sections_in s.state) ∙ length_sections s.state

module _ (s : Session) (q : Sound s.state s.others (lengths_of s)) (h : Lent s) (kind : ℕ) (b : Bytes) (short : length b ≤ 65535) (o : Octets b)
    (rows out : ℕ) (f : Fits s rows out (classify kind b)) where
  abbrev l : Limits
  l = limits_of s.state

  abbrev n : State
  n = pushed (view s) (classify kind b)

  in_order : Passed l (lengths_of s)
  in_order = passed l (lengths_of s) q.limits

  areas : HasAreas l (view s) (classify kind b)
  areas = record { object = f.object; message = f.message; table = f.table }

  pub next : Storable l (most_count + most_added) n
  next = storable_next s kind b q h short o areas

  tables_fit : TablesFit l n
  unfolding needs
  tables_fit =
      record {
        counters = counters_fit s q h kind b short o;
        media = omega (arith, f.media, media_length s, q.media);
        controls = omega (arith, f.controls, control_length s, q.controls);
        sections = omega (arith, f.sections, section_length s, q.sections);
        kept = all_kept l.table_area in_order.ranges.table.1 n.store.kept next.store.kept;
        plt = table_short l.table_area n.store.plt next.store.plt;
        tot = table_short l.table_area n.store.tot next.store.tot;
      }

  place_fits : (id : ℕ) → id < 65536 → ControlFits l id (control_of id n)
  place_fits id small =
      let c = control_of_lem l (most_count + most_added) n next id (omega arith) in
      record {
        fields = control_place_lem l.message_area l.table_area id (control_of id n) in_order.ranges.message.1 in_order.ranges.table.1 c.0 c.1;
        joins = join_short l.message_area (control_of id n).reassembly.partial c.1.joins;
        mpt = table_short l.table_area (control_of id n).mpt c.1.mpt;
      }

  pub stores_of : (p : Packet) → classify kind b ≡ p → Stores s p
  unfolding asset_next
  stores_of ip_error e = rw e at tables_fit.counters
  stores_of non_mmtp_of e = rw e at tables_fit.counters
  stores_of other e = rw e at tables_fit.counters
  stores_of (ntp None) e = rw e at tables_fit.counters
  stores_of (ntp (Some t)) e = (rw e at tables_fit.counters, rw e at (packet_ok kind b (omega (arith, short)) o))
  stores_of (media m) e = media_fits s q h kind b short o m e (rw e at f.object)
  stores_of (message c) e =
      let i : PacketOk (message c) = rw e at (packet_ok kind b (omega (arith, short)) o) in
      record { tables = rw e at tables_fit; place = rw e at (place_fits c.id i.0) }
  stores_of (control bs) e = rw e at tables_fit

  pub moved : view (packet_leaves s (classify kind b)) ≡ n
  moved = packet_leaves_lem s q (classify kind b) rows out f (stores_of (classify kind b) refl)

  -- ---- bytes stay bytes

  held_lent : (at : ℕ) (u : Option Mfu) → HeldOk u → (t : Bytes) → Octets t → Octets (held_over at u t)
  held_lent at None k t y = y
  held_lent at (Some u) k t y = octets_over at u.bytes t k.octets y

  laid_lent : (area at : ℕ) (u : Option Bytes) → TableOk area u → (t : Bytes) → Octets t → Octets (bytes_over at u t)
  laid_lent area at None k t y = y
  laid_lent area at (Some u) k t y = octets_over at u t k.1 y

  joined_lent : (area at : ℕ) (u : Option PartialMessage) → JoinFits area u → (t : Bytes) → Octets t → Octets (bytes_over at (joined_in u) t)
  joined_lent area at None k t y = y
  joined_lent area at (Some j) k t y = octets_over at j.bytes t k.1 y

  kept_lent : (area : ℕ) (es : List (ℕ × Kept)) → Every (KeptOk area) es → (i : ℕ) (t : Bytes) → Octets t → Octets (kept_over area i es t)
  unfolding kept_over
  kept_lent area [] k i t y = y
  kept_lent area (e ∷ es) k i t y = kept_lent area es k.1 (i + 1) (over (i * area) e.1.bytes t) (octets_over (i * area) e.1.bytes t k.0.octets y)

  rows_lent : (es : List (ℕ × Kept)) → Octets (section_rows es)
  unfolding section_rows
  rows_lent [] = λ i. omega arith
  rows_lent (e ∷ es) = octets_append (written (section_fields (kept_place e))) (section_rows es) (octets_written (section_fields (kept_place e))) (rows_lent es)

  tables_lent : (m : State) (t : List ℕ) → Octets t → Octets (state_of_tables m t)
  tables_lent m t y =
      octets_over _ _ _ (octets_written (counters_fields m.counters))
      (octets_over _ _ _ (rows_lent m.store.kept) (octets_over _ _ _ (octets_written (used_fields (used_for m))) y))

  counted_lent : (m : State) (t : List ℕ) → Octets t → Octets (with_counters m.counters t)
  counted_lent m t y = octets_over _ _ _ (octets_written (counters_fields m.counters)) y

  abbrev packets : List Field
  packets = field 8 ((counters_of s.state).tlv_packets + 1) ∷ []

  place_for_lent : (id : ℕ) (a : Asset) → HeldOk a.held → (x : PlaceFor) → Lent (leaves_at s id a x)
  place_for_lent id a k (Own i) =
      record {
        state = octets_over _ _ _ (octets_written packets) (octets_over _ _ _ (octets_written (media_fields (place_for_asset id a))) h.state);
        objects = held_lent (i * l.mfu_area) a.held k s.objects h.objects;
        messages = h.messages;
        tables = h.tables;
      }
  place_for_lent id a k (Free i) =
      record {
        state =
            octets_over _ _ _ (octets_written packets)
            (octets_over _ _ _ (octets_written (used_fields (one_more_of (used_of s.state)))) (octets_over _ _ _ (octets_written (media_fields (place_for_asset id a))) h.state));
        objects = held_lent (i * l.mfu_area) a.held k s.objects h.objects;
        messages = h.messages;
        tables = h.tables;
      }
  place_for_lent id a k NoneFree = h

  message_in_lem : (m : State) → Storable l (most_count + most_added) m → (id : ℕ) → id < 65536 → (i : ℕ) → Lent (message_in s m id i)
  unfolding message_in
  message_in_lem m k id small i =
      let c = (control_of_lem l (most_count + most_added) m k id (omega arith)).1 in
      record {
        state =
            octets_over _ _ _ (octets_written (latest_fields (latest_for m.store)))
            (tables_lent m (with_control i id (control_of id m) s.state)
            (octets_over _ _ _ (octets_written (control_fields (control_for id (control_of id m)))) h.state));
        objects = h.objects;
        messages = joined_lent l.message_area (i * l.message_area) (control_of id m).reassembly.partial c.joins s.messages h.messages;
        tables =
            laid_lent l.table_area _ (control_of id m).mpt c.mpt _
            (laid_lent l.table_area _ m.store.tot k.store.tot _
            (laid_lent l.table_area _ m.store.plt k.store.plt _
            (kept_lent l.table_area m.store.kept k.store.kept 0 s.tables h.tables)));
      }

  message_lent : (m : State) → Storable l (most_count + most_added) m → (id : ℕ) → id < 65536 → (x : PlaceFor) → Lent (message_at s m id x)
  message_lent m k id small (Own i) = message_in_lem m k id small i
  message_lent m k id small (Free i) = message_in_lem m k id small i
  message_lent m k id small NoneFree = h

  with_state : (t : List ℕ) → Octets t → Lent (record { state = t; others = s.others; objects = s.objects; messages = s.messages; tables = s.tables })
  with_state t y = record { state = y; objects = h.objects; messages = h.messages; tables = h.tables }

  by_packet : (p : Packet) → classify kind b ≡ p → Storable l (most_count + most_added) (pushed (view s) p) → Lent (packet_leaves s p)
  unfolding packet_leaves message_leaves control_leaves media_leaves asset_next
  by_packet ip_error e k = with_state _ (counted_lent (pushed (view s) ip_error) s.state h.state)
  by_packet non_mmtp_of e k = with_state _ (counted_lent (pushed (view s) non_mmtp_of) s.state h.state)
  by_packet other e k = with_state _ (counted_lent (pushed (view s) other) s.state h.state)
  by_packet (ntp None) e k = with_state _ (counted_lent (pushed (view s) (ntp None)) s.state h.state)
  by_packet (ntp (Some t)) e k =
      with_state _ (counted_lent (pushed (view s) (ntp (Some t))) (with_time (Some t) s.state) (octets_over _ _ _ (octets_written (time_fields (record { seen = true; timestamp = t }))) h.state))
  by_packet (media m) e k =
      let y : PacketOk (media m) = rw e at (packet_ok kind b (omega (arith, short)) o) in
      let z : Plain (media m) = rw e at (plain_of kind b (omega (arith, short)) o) in
      let a = asset_next_lem l most_count (view s) (storable_view s q h) m y z (rw e at f.object) in
      place_for_lent m.id (asset_after (asset_of m.id (view s)) m) a.1.held (media_place_for s.state m.id)
  by_packet (message c) e k =
      let y : PacketOk (message c) = rw e at (packet_ok kind b (omega (arith, short)) o) in
      message_lent (pushed (view s) (message c)) k c.id y.0 (control_place_for s.state c.id)
  by_packet (control bs) e k =
      record {
        state = tables_lent (pushed (view s) (control bs)) s.state h.state;
        objects = h.objects;
        messages = h.messages;
        tables = kept_lent l.table_area (pushed (view s) (control bs)).store.kept k.store.kept 0 s.tables h.tables;
      }

  pub lent_next : Lent (packet_leaves s (classify kind b))
  lent_next = by_packet (classify kind b) refl next

-- ---- a push, and lists of them

module _ (s : Session) (h : Lent s) (x : Input) (o : Octets x.bytes) (e : asks s x ≡ 0) where
  yes_all : Taken s x
  yes_all = taken s x e

  ok : Sound s.state s.others (lengths_of s)
  ok = sound_session s yes_all.session

  pub push_moved : view (packet_leaves s (packet_of x)) ≡ pushed (view s) (packet_of x)
  push_moved = moved s ok h x.kind x.bytes yes_all.short o (length x.rows) (length x.out) yes_all.fits

  pub push_lent : Lent (packet_leaves s (packet_of x))
  push_lent = lent_next s ok h x.kind x.bytes yes_all.short o (length x.rows) (length x.out) yes_all.fits

  pub push_gave : handed s x ≡ gives (view s) (packet_of x)
  unfolding handed
  push_gave = rows_read s ok h x.kind x.bytes yes_all.short o yes_all.fits.object x.rows x.out

pub record Ran (s : Session) (xs : List Input) : Type 0 where
  pub state : view (leaves_all s xs) ≡ push_all (view s) (packets_of xs)
  pub records : handed_all s xs ≡ give_all (view s) (packets_of xs)

pub ran : (s : Session) → Lent s → (xs : List Input) → AllBytes xs → AllTaken s xs → Ran s xs
unfolding leaves_all handed_all push_all give_all
ran s h [] o t = record { state = refl; records = refl }
ran s h (x ∷ xs) o t =
    let m = push_moved s h x o.0 t.0 in
    let r = ran (packet_leaves s (packet_of x)) (push_lent s h x o.0 t.0) xs o.1 t.1 in
    record {
      state = r.state ∙ ap (λ (v : State). push_all v (packets_of xs)) m;
      records =
          ap (λ (g : List Rec). g ++ handed_all (packet_leaves s (packet_of x)) xs) (push_gave s h x o.0 t.0)
          ∙ ap (λ (g : List Rec). gives (view s) (packet_of x) ++ g) (r.records ∙ ap (λ (v : State). give_all v (packets_of xs)) m);
    }

-- demand 2
pub demand_2 : Demand2
demand_2 l s a h xs o t =
    let f = opening l s a in
    let r = ran (opened_session l s) (lent_opened l s h) xs o t in
    record {
      state = r.state ∙ ap (λ (v : State). push_all v (packets_of xs)) f.state;
      records = r.records ∙ ap (λ (v : State). give_all v (packets_of xs)) f.state;
    }
