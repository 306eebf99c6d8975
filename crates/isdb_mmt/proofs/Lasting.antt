-- What an accepted packet leaves of limits, buffers and stored lengths: everything that is there still stands within its buffer.
-- Assumes nothing.
use Rattle.std.specs.Prelude.{Option, None, Some}
use Rattle.std.proofs.Common.{◌≡◌, ℕ, ◌+◌, ◌*◌, ◌<◌, ◌≤◌, true, List, [], ◌∷◌, map, length, sym, refl, ◌∙◌, inl, arith}
use Rattle.isdb_tlv.specs.Fields.{written, Fit}
use Rattle.isdb_tlv.proofs.Fields.{length_written}
use Rattle.isdb_mmt.specs.declared.decoder.counts.Counters.{Counters}
use Rattle.isdb_mmt.specs.Decoder.Packet.{Bytes, MessagePacket, Packet, ip_error, ntp, non_mmtp_of, media, message, control, other}
use Rattle.isdb_mmt.specs.Decoder.Maps.{put}
use Rattle.isdb_mmt.specs.Decoder.Objects.{Mfu, Asset}
use Rattle.isdb_mmt.specs.Decoder.Kept.{Kept}
use Rattle.isdb_mmt.specs.Decoder.Model.{State, Control as ControlState, control_of, pushed}
use Rattle.isdb_mmt.specs.Decoder.Needs.{held_length}
use Rattle.isdb_mmt.specs.Memory.Layout.{latest_place, time_place, counters_place, media_places}
use Rattle.isdb_mmt.specs.Memory.Lent.{over}
use Rattle.isdb_mmt.specs.Memory.Session.{Session, limits_of, used_of, latest_of, time_fields, counters_fields, media_fields}
use Rattle.isdb_mmt.specs.Memory.Check.{media_in, controls_in, sections_in, lengths_of, Sound}
use Rattle.isdb_mmt.specs.Memory.View.{view}
use Rattle.isdb_mmt.specs.Memory.Opening.{lent}
use Rattle.isdb_mmt.specs.Memory.PlacesOf.{table_length, place_for_asset, held_for, control_for, latest_for}
use Rattle.isdb_mmt.specs.Pushes.MediaPush.{held_over, media_place_for, leaves_at, asset_next, media_leaves}
use Rattle.isdb_mmt.specs.Pushes.Leaves.{kept_place, with_time, with_counters, control_leaves, message_in, control_place_for, message_at, message_leaves, packet_leaves, joined_in}
use Rattle.isdb_mmt.specs.Pushes.Push.{Fits}
use Rattle.isdb_mmt.specs.declared.decoder.place.PlaceFor.{PlaceFor}
use Rattle.isdb_mmt.specs.declared.decoder.place.PlaceFor.TheVariants.{Own, Free, NoneFree}
use Rattle.isdb_mmt.specs.declared.decoder.limits.Limits.{Limits}
use Rattle.isdb_mmt.proofs.Lent.{length_over}
use Rattle.isdb_mmt.proofs.Limits.{passed, Passed, in_buffer}
use Rattle.isdb_mmt.proofs.Stored.{apart, limits_own, latest_own}
use Rattle.isdb_mmt.proofs.Sessions.{Sort, media as media_sort, controls as control_sort, sections as section_sort, in_use, named, place_apart, used_apart}
use Rattle.isdb_mmt.proofs.PlacesFor.{control_entries, length_media}
use Rattle.isdb_mmt.proofs.TableAreas.{AllKept, length_laid, length_kept}
use Rattle.isdb_mmt.proofs.StateWrites.{TablesFit, length_tables, latest_tables, limits_tables, sections_tables, long_latest, latest_read}
use Rattle.isdb_mmt.proofs.Placed.{Tied}
use Rattle.isdb_mmt.proofs.MediaLeaves.{in_objects, within_old, keeps_old, media_old, new_facts, keeps_new, media_new, place_for_free, held_room, tied_next}
use Rattle.isdb_mmt.proofs.MessageLeaves.{Says, in_table, kept_within, media_same, controls_same, media_2, sections_t2, long_1, length_1, long_t, len0, len1, len2, in2, in_messages, joined_length, controls_old, message_old, controls_new, all_before, message_new}
use Rattle.isdb_mmt.proofs.PacketLeaves.{Stores, MessageFits, own, place_for_free as control_free, old_free, new_free, sections_plt, sections_tot}
use Rattle.isdb_mmt.proofs.Stays.{Placed, media_there_lem, control_there_lem, section_there, Exact, exact_was, placed_set, placed_snoc, placed_mono}

-- a session after another: limits and lengths of buffers as before, and what is there stands within them
pub record Lasts (s s' : Session) : Type 0 where
  pub limits : limits_of s'.state ≡ limits_of s.state
  pub state : length s'.state ≡ length s.state
  pub objects : length s'.objects ≡ length s.objects
  pub messages : length s'.messages ≡ length s.messages
  pub tables : length s'.tables ≡ length s.tables
  pub media : Placed (media_there_lem (limits_of s.state) s) 0 (media_in s'.state)
  pub controls : Placed (control_there_lem (limits_of s.state) s) 0 (controls_in s'.state)
  pub sections : Placed (section_there (limits_of s.state) s) 0 (sections_in s'.state)
  pub plt : (latest_of s'.state).plt ≡ true → (latest_of s'.state).plt_length ≤ (limits_of s.state).table_area
  pub tot : (latest_of s'.state).tot ≡ true → (latest_of s'.state).tot_length ≤ (limits_of s.state).table_area

module _ (s : Session) (ok : Sound s.state s.others (lengths_of s)) where
  abbrev l : Limits
  l = limits_of s.state

  was : Exact l s
  was = exact_was s ok

  fine : Passed l (lengths_of s)
  fine = passed l (lengths_of s) ok.limits

  pub lasting : (s' : Session) → Lasts s s' → Exact (limits_of s'.state) s'
  lasting s' h =
      let l' = limits_of s'.state in
      record {
        media = placed_mono (media_there_lem l s) (media_there_lem l' s') (λ i m k t. rw (h.limits, h.objects) (k t)) (media_in s'.state) 0 h.media;
        controls =
            placed_mono (control_there_lem l s) (control_there_lem l' s')
            (λ i c k. ((λ t. rw (h.limits, h.messages) (k.0 t)), (λ t. rw (h.limits, h.tables) (k.1 t))))
            (controls_in s'.state) 0 h.controls;
        sections = placed_mono (section_there l s) (section_there l' s') (λ i x k. rw (h.limits, h.tables) k) (sections_in s'.state) 0 h.sections;
        plt = λ t. rw (h.limits, h.tables) (in_table s ok (l.sections + l.control_ids) (latest_of s'.state).plt_length (omega arith) (h.plt t));
        tot = λ t. rw (h.limits, h.tables) (in_table s ok (l.sections + l.control_ids + 1) (latest_of s'.state).tot_length (omega arith) (h.tot t));
      }

  -- ---- writes to the head behind PLT and TOT
  pub record Behind (m : List ℕ) : Type 0 where
    pub long : length m ≡ length s.state
    pub limits : limits_of m ≡ l
    pub latest : latest_of m ≡ latest_of s.state
    pub media : media_in m ≡ media_in s.state
    pub controls : controls_in m ≡ controls_in s.state
    pub sections : sections_in m ≡ sections_in s.state
    pub used : used_of m ≡ used_of s.state

  untouched : Behind s.state
  untouched = record { long = refl; limits = refl; latest = refl; media = refl; controls = refl; sections = refl; used = refl }

  apart_of : {A : Type 0} (o : Sort A) → o.count (used_of s.state) ≤ o.places → media_places ≤ o.at → (m : List ℕ) → Behind m → (b : ℕ) (bs : List ℕ)
      → time_place ≤ b → b + length bs ≤ media_places → in_use o (over b bs m) ≡ in_use o m
  apart_of o c k m h b bs p q =
      place_apart o m (omega (arith, h.long, ok.there.long)) (rw h.used c) b bs (inl (omega arith)) (inl (omega arith)) (omega (arith, h.long, ok.there.long))

  behind : (m : List ℕ) → Behind m → (b : ℕ) (bs : List ℕ) → time_place ≤ b → b + length bs ≤ media_places → Behind (over b bs m)
  behind m h b bs p q =
      let w : b + length bs ≤ length m = omega (arith, h.long, ok.there.long) in
      record {
        long = length_over b bs m w ∙ h.long;
        limits = apart limits_of 0 57 limits_own b bs m (inl (omega arith)) w ∙ h.limits;
        latest = apart latest_of latest_place 10 latest_own b bs m (inl (omega arith)) w ∙ h.latest;
        media = sym (named.media (over b bs m)) ∙ apart_of media_sort ok.there.media (omega arith) m h b bs p q ∙ named.media m ∙ h.media;
        controls = sym (named.controls (over b bs m)) ∙ apart_of control_sort ok.there.controls (omega arith) m h b bs p q ∙ named.controls m ∙ h.controls;
        sections = sym (named.sections (over b bs m)) ∙ apart_of section_sort ok.there.sections (omega arith) m h b bs p q ∙ named.sections m ∙ h.sections;
        used = used_apart b bs m (inl (omega arith)) w ∙ h.used;
      }

  counted : (c : Counters) (m : List ℕ) → Behind m → Behind (with_counters c m)
  counted c m h =
      let e : length (written (counters_fields c)) ≡ 96 = length_written (counters_fields c) in
      behind m h counters_place (written (counters_fields c)) (omega arith) (omega arith)

  timed : (t : Option ℕ) → Behind (with_time t s.state)
  timed None = untouched
  timed (Some t) =
      let e : length (written (time_fields (record { seen = true; timestamp = t }))) ≡ 9 = length_written (time_fields (record { seen = true; timestamp = t })) in
      behind s.state untouched time_place (written (time_fields (record { seen = true; timestamp = t }))) (omega arith) (omega arith)

  head_lasts : (m : List ℕ) → Behind m → Lasts s (lent m s.others s.objects s.messages s.tables)
  head_lasts m h =
      record {
        limits = h.limits;
        state = h.long;
        objects = refl;
        messages = refl;
        tables = refl;
        media = rw h.media was.media;
        controls = rw h.controls was.controls;
        sections = rw h.sections was.sections;
        plt = rw h.latest ok.plt;
        tot = rw h.latest ok.tot;
      }

  -- ---- a media packet

  held_short : (o : Option Mfu) (area : ℕ) → held_length o ≤ area → (held_for o).length ≤ area
  held_short None area h = omega arith
  held_short (Some u) area h = h

  length_held : (o : Option Mfu) (at area : ℕ) (t : Bytes) → held_length o ≤ area → at + area ≤ length t → length (held_over at o t) ≡ length t
  length_held None at area t h w = refl
  length_held (Some u) at area t h w = length_over at u.bytes t (omega arith)

  module _ (id : ℕ) (a : Asset) (tied : Tied a) (fits : Fit (media_fields (place_for_asset id a))) (room : held_length a.held ≤ l.mfu_area) where
    media_own : (i : ℕ) → i < l.media_ids → media_there_lem l s (0 + i) (place_for_asset id a)
    unfolding place_for_asset
    media_own i free t = omega (arith, in_objects s ok id a tied fits room i free, held_short a.held l.mfu_area room)

    objects_long : (i : ℕ) → i < l.media_ids → length (held_over (i * l.mfu_area) a.held s.objects) ≡ length s.objects
    objects_long i free =
        length_held a.held (i * l.mfu_area) l.mfu_area s.objects room (omega (arith, in_objects s ok id a tied fits room i free))

    place_for_lasts : (x : PlaceFor) → media_place_for s.state id ≡ x → (x ≡ NoneFree → ⊥) → Lasts s (leaves_at s id a x)
    place_for_lasts (Own i) e n =
        let k = keeps_old s ok id a tied fits room i e in
        let free : i < l.media_ids = omega (arith, within_old s ok id a tied fits room i e, ok.media) in
        record {
          limits = k.limits;
          state = k.long;
          objects = objects_long i free;
          messages = refl;
          tables = refl;
          media = rw (media_old s ok id a tied fits room i e) (placed_set (media_there_lem l s) (media_in s.state) 0 i (place_for_asset id a) (media_own i free) was.media);
          controls = rw k.controls was.controls;
          sections = rw k.sections was.sections;
          plt = rw k.latest ok.plt;
          tot = rw k.latest ok.tot;
        }
    place_for_lasts (Free i) e n =
        let k = keeps_new s ok id a tied fits room i e in
        let f = new_facts s ok id a tied fits room i e in
        let z : length (media_in s.state) ≡ i = length_media s.state ∙ sym f.is in
        record {
          limits = k.limits;
          state = k.long;
          objects = objects_long i f.free;
          messages = refl;
          tables = refl;
          media =
              rw (media_new s ok id a tied fits room i e)
              (placed_snoc (media_there_lem l s) (media_in s.state) 0 (place_for_asset id a) (rw z (media_own i f.free)) was.media);
          controls = rw k.controls was.controls;
          sections = rw k.sections was.sections;
          plt = rw k.latest ok.plt;
          tot = rw k.latest ok.tot;
        }
    place_for_lasts NoneFree e n = absurd (n refl)

  -- ---- tables

  kept_there : (kept : List (ℕ × Kept)) (k : ℕ) → k + length kept ≤ l.sections → AllKept l.table_area kept → Placed (section_there l s) k (map kept_place kept)
  kept_there [] k w f = tt
  kept_there (e ∷ es) k w f = (in_table s ok k (length e.1.bytes) (omega arith) f.0.short, kept_there es (k + 1) (omega arith) f.1)

  -- a control packet
  module _ (n : State) (f : TablesFit l n) (ep : (view s).passing ≡ n.passing) (ea : (view s).assets ≡ n.assets) (ec : (view s).controls ≡ n.controls)
      (el : (view s).store.plt ≡ n.store.plt) (et : (view s).store.tot ≡ n.store.tot) (ei : (view s).time ≡ n.time) where
    control_lasts : Lasts s (control_leaves s n)
    unfolding control_leaves
    control_lasts =
        let r = fine.ranges in
        let lt = latest_tables l n r.media.1 r.controls.1 r.sections.1 f s.state ok.there.long in
        record {
          limits = limits_tables l n r.media.1 r.controls.1 r.sections.1 f s.state ok.there.long;
          state = length_tables l n r.media.1 r.controls.1 r.sections.1 f s.state ok.there.long;
          objects = refl;
          messages = refl;
          tables = length_kept l.table_area n.store.kept 0 s.tables f.kept (kept_within s ok n f);
          media = rw (media_same s ok n f ep ea ec el et ei) was.media;
          controls = rw (controls_same s ok n f ep ea ec el et ei) was.controls;
          sections =
              rw (sections_tables l n r.media.1 r.controls.1 r.sections.1 f s.state ok.there.long)
              (kept_there n.store.kept 0 (omega (arith, f.sections)) f.kept);
          plt = rw lt ok.plt;
          tot = rw lt ok.tot;
        }

  -- a message packet, whose id has or takes the place i
  module _ (n : State) (id : ℕ) (f : MessageFits l id n) (ep : (view s).passing ≡ n.passing) (ea : (view s).assets ≡ n.assets)
      (ec : put id (control_of id n) (control_entries s) ≡ n.controls) (ei : (view s).time ≡ n.time) (i : ℕ) (free : i < l.control_ids) where
    abbrev c : ControlState
    c = control_of id n

    control_own : control_there_lem l s (0 + i) (control_for id c)
    unfolding control_for
    control_own = (
      (λ t. in_buffer (0 + i) _ l.message_area (length s.messages) l.control_ids f.place.joins (omega arith) fine.messages),
      (λ t. in_table s ok (l.sections + (0 + i)) (table_length c.mpt) (omega arith) f.place.mpt),
    )

    abbrev there : Type 0
    there = Placed (control_there_lem l s) 0 (controls_in (message_in s n id i).state)

    message_lasts : Says s (message_in s n id i) n → there → Lasts s (message_in s n id i)
    unfolding message_in latest_for
    message_lasts y cs =
        let r = fine.ranges in
        let t = f.tables in
        let p = f.place in
        let m : media_in (message_in s n id i).state ≡ media_in s.state =
        media_2 s ok n t id c p.fields p.joins p.mpt ep ea ec ei i free in
        let x : sections_in (message_in s n id i).state ≡ map kept_place n.store.kept =
        sections_t2 s ok n t id c p.fields p.joins p.mpt ep ea ec ei i free in
        let g : table_length (joined_in c.reassembly.partial) ≤ l.message_area = rw (joined_length c.reassembly.partial) p.joins in
        let lt : latest_of (message_in s n id i).state ≡ latest_for n.store =
        latest_read n.store l.table_area r.table.1 t.plt t.tot _ (long_t s ok n t id c p.fields p.joins p.mpt ep ea ec ei i free) in
        record {
          limits = y.limits;
          state =
              long_latest n.store l.table_area r.table.1 t.plt t.tot _ (long_t s ok n t id c p.fields p.joins p.mpt ep ea ec ei i free)
              ∙ length_tables l n r.media.1 r.controls.1 r.sections.1 t _ (long_1 s ok n t id c p.fields p.joins p.mpt ep ea ec ei i free)
              ∙ length_1 s ok n t id c p.fields p.joins p.mpt ep ea ec ei i free;
          objects = refl;
          messages =
              length_laid l.message_area (joined_in c.reassembly.partial) s.messages i g
              (in_messages s ok n t id c p.fields p.joins p.mpt ep ea ec ei i free);
          tables =
              length_laid l.table_area c.mpt _ (l.sections + i) p.mpt
              (in2 s ok n t id c p.fields p.joins p.mpt ep ea ec ei i free (l.sections + i) (omega arith))
              ∙ len2 s ok n t id c p.fields p.joins p.mpt ep ea ec ei i free ∙ len1 s ok n t id c p.fields p.joins p.mpt ep ea ec ei i free
              ∙ len0 s ok n t id c p.fields p.joins p.mpt ep ea ec ei i free;
          media = rw m was.media;
          controls = cs;
          sections = rw x (kept_there n.store.kept 0 (omega (arith, t.sections)) t.kept);
          plt = rw lt (λ b. t.plt);
          tot = rw lt (λ b. t.tot);
        }

    pub old_lasts : control_place_for s.state id ≡ Own i → Lasts s (message_in s n id i)
    unfolding message_in
    old_lasts e =
        let t = f.tables in
        let p = f.place in
        message_lasts (message_old s ok n t id c p.fields p.joins p.mpt ep ea ec ei i free e)
        (rw (controls_old s ok n t id c p.fields p.joins p.mpt ep ea ec ei i free e)
        (placed_set (control_there_lem l s) (controls_in s.state) 0 i (control_for id c) control_own was.controls))

    pub new_lasts : control_place_for s.state id ≡ Free i → Lasts s (message_in s n id i)
    unfolding message_in
    new_lasts e =
        let t = f.tables in
        let p = f.place in
        let z : length (controls_in s.state) ≡ i = all_before s ok n t id c p.fields p.joins p.mpt ep ea ec ei i free e in
        message_lasts (message_new s ok n t id c p.fields p.joins p.mpt ep ea ec ei i free e)
        (rw (controls_new s ok n t id c p.fields p.joins p.mpt ep ea ec ei i free e)
        (placed_snoc (control_there_lem l s) (controls_in s.state) 0 (control_for id c) (rw z control_own) was.controls))

  module _ (c : MessagePacket) (rows out : ℕ) (q : Fits s rows out (message c)) (f : MessageFits l c.id (pushed (view s) (message c))) where
    message_place_for : (x : PlaceFor) → control_place_for s.state c.id ≡ x → Lasts s (message_at s (pushed (view s) (message c)) c.id x)
    unfolding pushed
    message_place_for (Own i) e =
        old_lasts (pushed (view s) (message c)) c.id f refl refl (own s ok c rows out q f) refl i (old_free s ok c rows out q f i e) e
    message_place_for (Free i) e =
        new_lasts (pushed (view s) (message c)) c.id f refl refl (own s ok c rows out q f) refl i (new_free s ok c rows out q f i e) e
    message_place_for NoneFree e = absurd (control_free s ok c rows out q f e)

  -- ---- all of them
  pub packet_lasts : (p : Packet) (rows out : ℕ) → Fits s rows out p → Stores s p → Lasts s (packet_leaves s p)
  unfolding packet_leaves pushed message_leaves media_leaves
  packet_lasts ip_error rows out h f = head_lasts _ (counted (pushed (view s) ip_error).counters s.state untouched)
  packet_lasts non_mmtp_of rows out h f = head_lasts _ (counted (pushed (view s) non_mmtp_of).counters s.state untouched)
  packet_lasts other rows out h f = head_lasts _ (counted (pushed (view s) other).counters s.state untouched)
  packet_lasts (ntp t) rows out h f = head_lasts _ (counted (pushed (view s) (ntp t)).counters (with_time t s.state) (timed t))
  packet_lasts (media m) rows out h f =
      place_for_lasts m.id (asset_next s m) (tied_next s ok m h.media h.object) f (held_room s ok m h.media h.object) (media_place_for s.state m.id) refl
      (place_for_free s ok m h.media h.object)
  packet_lasts (message c) rows out h f = message_place_for c rows out h f (control_place_for s.state c.id) refl
  packet_lasts (control bs) rows out h f =
      control_lasts (pushed (view s) (control bs)) f refl refl refl (sym (sections_plt s ok bs (view s).store)) (sym (sections_tot s ok bs (view s).store)) refl
