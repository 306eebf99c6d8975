-- From any session that passes question 5, with room below 2^53, an accepted push leaves one that passes it, and so does any list of
-- pushes. Assumes nothing.
use Rattle.std.proofs.Common.{◌≡◌, ℕ, zero, suc, ◌+◌, ◌*◌, ◌≤◌, true, false, eqb, List, [], ◌∷◌, length, get_or, refl, ap, ◌∙◌, arith, eqb-true}
use Rattle.isdb_tlv.proofs.Guards.{either}
use Rattle.isdb_mmt.specs.Decoder.Model.{State, packet_counted, pushed}
use Rattle.isdb_mmt.specs.Memory.Lent.{indexed}
use Rattle.isdb_mmt.specs.Memory.Limits.{asked}
use Rattle.isdb_mmt.specs.Memory.Layout.{most_count}
use Rattle.isdb_mmt.specs.Memory.Session.{Session, limits_of, counters_of}
use Rattle.isdb_mmt.specs.Memory.Check.{stats_counts, packet_counts, table_counts, media_in, lengths_of, sound, Sound}
use Rattle.isdb_mmt.specs.Memory.View.{asset_of_place, asset_entry, view_by, view}
use Rattle.isdb_mmt.specs.Memory.Octets.{Octets, Lent}
use Rattle.isdb_mmt.specs.Pushes.Leaves.{packet_leaves}
use Rattle.isdb_mmt.specs.Pushes.Push.{Input, packet_of, asks_later, asks, Taken, leaves_of, leaves_all}
use Rattle.isdb_mmt.specs.Theorems.Room.{most_added, AllAtMost, MediaWithin, CountsWithin, SoundWithin, SoundStays, RoomNeeded, AllStaySound, leaves_over, AskedOnce}
use Rattle.isdb_mmt.specs.declared.decoder.limits.Limits.{Limits}
use Rattle.isdb_mmt.specs.declared.decoder.media.Media.{Media}
use Rattle.isdb_mmt.proofs.Checks.{count_was, sound_session}
use Rattle.isdb_mmt.proofs.Every.{Every}
use Rattle.isdb_mmt.proofs.Brief.{plain_of}
use Rattle.isdb_mmt.proofs.Named.{Named, Takes, named_push}
use Rattle.isdb_mmt.proofs.Outs.{packet_ok}
use Rattle.isdb_mmt.proofs.Storable.{MediaFits, Storable, HasAreas, stats_of_lem, counters_of_lem, storable_push, storable_view}
use Rattle.isdb_mmt.proofs.Stays.{stays_sound, media_keys, control_keys, section_keys}
use Rattle.isdb_mmt.proofs.Lasting.{Lasts, lasting, packet_lasts}
use Rattle.isdb_mmt.proofs.PacketLeaves.{taken}
use Rattle.isdb_mmt.proofs.Accepted.{media_length, control_length, section_length, stores_of, push_moved, push_lent}

-- ---- counts of a session, and of its view

at_most : (n : ℕ) (xs : List ℕ) → AllAtMost n xs → (i : ℕ) → get_or xs i 0 ≤ n
at_most n [] h i = omega arith
at_most n (x ∷ xs) h zero = h.0
at_most n (x ∷ xs) h (suc i) = at_most n xs h.1 i

all_at_most : (n : ℕ) (xs : List ℕ) → ((i : ℕ) → get_or xs i 0 ≤ n) → AllAtMost n xs
all_at_most n [] h = tt
all_at_most n (x ∷ xs) h = (h 0, all_at_most n xs (λ i. h (suc i)))

more_at_most : (n m : ℕ) → n ≤ m → (xs : List ℕ) → AllAtMost n xs → AllAtMost m xs
more_at_most n m l [] h = tt
more_at_most n m l (x ∷ xs) h = (omega (arith, h.0), more_at_most n m l xs h.1)

more_media : (n m : ℕ) → n ≤ m → (ms : List Media) → MediaWithin n ms → MediaWithin m ms
more_media n m l [] h = tt
more_media n m l (x ∷ ms) h = (more_at_most n m l (stats_counts x.stats) h.0, more_media n m l ms h.1)

pub within_more : (n m : ℕ) → n ≤ m → (s : Session) → SoundWithin n s → SoundWithin m s
within_more n m l s h =
    let c = h.counts in
    record {
      lent = h.lent;
      session = h.session;
      counts =
          record {
            packets = more_at_most n m l (packet_counts (counters_of s.state)) c.packets;
            tables = more_at_most n m l (table_counts (counters_of s.state)) c.tables;
            media = more_media n m l (media_in s.state) c.media;
            others = more_at_most n m l s.others c.others;
          };
    }

module _ (l : Limits) (s : Session) (n : ℕ) where
  media_within : (most : ℕ) (ms : List Media) (i : ℕ) → Every (MediaFits l most) (indexed (asset_entry l s) i ms) → MediaWithin n ms
      → Every (MediaFits l n) (indexed (asset_entry l s) i ms)
  unfolding indexed asset_of_place
  media_within most [] i h w = tt
  media_within most (m ∷ ms) i h w =
      let a = h.0.1 in (
        (
          h.0.0,
          record {
            counts = record { held = a.counts.held; counts = stats_of_lem n m.stats (at_most n (stats_counts m.stats) w.0) };
            number = a.number;
            mpu = a.mpu;
            first = a.first;
            held = a.held;
          },
        ),
        media_within most ms (i + 1) h.1 w.1,
      )

  media_counts : (ms : List Media) (i : ℕ) → Every (MediaFits l n) (indexed (asset_entry l s) i ms) → MediaWithin n ms
  unfolding indexed asset_of_place
  media_counts [] i h = tt
  media_counts (m ∷ ms) i h =
      let c = h.0.1.counts.counts in (
        (c.packets, (c.lost, (c.scrambled, (c.mfus, (c.scrambled_mfus, (c.dropped, (c.mpus, (c.jumps, (c.malformed, tt))))))))),
        media_counts ms (i + 1) h.1,
      )

-- a view with closer bounds of its counts
storable_within : (s : Session) (most n : ℕ) → Storable (limits_of s.state) most (view s) → CountsWithin n s
    → Storable (limits_of s.state) n (view s)
unfolding view view_by
storable_within s most n h w =
    let c = counters_of s.state in
    record {
      assets = media_within (limits_of s.state) s n most (media_in s.state) 0 h.assets w.media;
      controls = h.controls;
      store = record { plt = h.store.plt; tot = h.store.tot; kept = h.store.kept; others = at_most n s.others w.others };
      time = h.time;
      counters = counters_of_lem n c (at_most n (packet_counts c) w.packets) (at_most n (table_counts c) w.tables);
    }

pub counts_within : (s : Session) (n : ℕ) → Storable (limits_of s.state) n (view s) → CountsWithin n s
unfolding view view_by
counts_within s n h =
    let c = h.counters in
    record {
      packets = (c.tlv_packets, (c.ip_errors, (c.non_mmtp, (c.ntp, tt))));
      tables = (
        c.tables,
        (
          c.crc_errors,
          (
            c.malformed,
            (
              c.version_changes,
              (c.orphan_fragments, (c.oversize, (c.message_malformed, (c.split_errors, tt)))),
            ),
          ),
        ),
      );
      media = media_counts (limits_of s.state) s n (media_in s.state) 0 h.assets;
      others = all_at_most n s.others h.store.others;
    }

-- ---- names and places in use

module _ (s : Session) where
  abbrev l : Limits
  l = limits_of s.state

  named_view : Sound s.state s.others (lengths_of s) → Named l (view s)
  named_view q =
      record {
        media_names = rw (media_keys s) q.media_names;
        control_names = rw (control_keys s) q.control_names;
        kept_names = rw (section_keys s) q.keys;
        media = omega (arith, media_length s, q.media);
        lines = omega (arith, control_length s, q.controls);
        sections = omega (arith, section_length s, q.sections);
      }

  -- the questions, of the view
  pub takes : (x : Input) → Taken s x → Takes l (view s) (packet_of x)
  unfolding view view_by
  takes x q =
      record {
        packets = q.packets;
        media = omega (arith, media_length s, q.fits.media);
        lines = omega (arith, control_length s, q.fits.controls);
        sections = omega (arith, section_length s, q.fits.sections);
        object = q.fits.object;
        message = q.fits.message;
        table = q.fits.table;
      }

same_lengths : (s s' : Session) → Lasts s s' → lengths_of s' ≡ lengths_of s
same_lengths s s' h = λ i. record { state = h.state i; objects = h.objects i; messages = h.messages i; tables = h.tables i }

-- ---- one push

pub push_lasts : (s : Session) (x : Input) → Lent s → Octets x.bytes → asks s x ≡ 0 → Lasts s (packet_leaves s (packet_of x))
push_lasts s x h o e =
    let q = taken s x e in
    let ok = sound_session s q.session in
    packet_lasts s ok (packet_of x) (length x.rows) (length x.out) q.fits
    (stores_of s ok h x.kind x.bytes q.short o (length x.rows) (length x.out) q.fits (packet_of x) refl)

pub sound_stays : SoundStays
sound_stays s x h o n w room e =
    let l = limits_of s.state in
    let q = taken s x e in
    let ok = sound_session s q.session in
    let s' = packet_leaves s (packet_of x) in
    let t = push_lasts s x h o e in
    let a : asked (limits_of s'.state) (lengths_of s') ≡ 0 = rw (t.limits, same_lengths s s' t) ok.limits in
    let k : HasAreas l (view s) (packet_of x) = record { object = q.fits.object; message = q.fits.message; table = q.fits.table } in
    let y = storable_push l n (view s) (storable_within s most_count n (storable_view s ok h) w) (packet_of x)
    (packet_ok x.kind x.bytes (omega (arith, q.short)) o) (plain_of x.kind x.bytes (omega (arith, q.short)) o) k in
    let m = push_moved s h x o e in
    let z : Storable (limits_of s'.state) (n + most_added) (view s') = rw (t.limits, m) y in
    let d : Named (limits_of s'.state) (view s') =
    rw (t.limits, m) (named_push l (view s) (packet_of x) (named_view s ok) (takes s x q)) in
    record {
      lent = push_lent s h x o e;
      session = stays_sound s' (n + most_added) room a (lasting s ok s' t) z d;
      counts = counts_within s' (n + most_added) z;
    }

pub room_needed : RoomNeeded
unfolding view view_by pushed packet_counted
room_needed s x h o c i e =
    let s' = packet_leaves s (packet_of x) in
    let m : (counters_of s'.state).ip_errors ≡ (counters_of s.state).ip_errors + 1 =
    ap (λ (v : State). v.counters.ip_errors) (push_moved s h x o e) ∙ rw i refl in
    either (sound s')
    (λ t. absurd (omega (arith, m, c, count_was (packet_counts (counters_of s'.state)) 1 (sound_session s' t).packets)))
    (λ f. f)

-- ---- lists of pushes

pub all_stay_sound : AllStaySound
unfolding leaves_all
all_stay_sound s n h [] o room t = within_more n (n + 0 * most_added) (omega arith) s h
all_stay_sound s n h (x ∷ xs) o room t =
    let s' = packet_leaves s (packet_of x) in
    let g = sound_stays s x h.lent o.0 n h.counts (omega (arith, room)) t.0 in
    within_more (n + most_added + length xs * most_added) (n + suc (length xs) * most_added) (omega arith) (leaves_all s' xs)
    (all_stay_sound s' (n + most_added) g xs o.1 (omega (arith, room)) t.1)

-- a push, accepted or not
module _ (s : Session) (x : Input) where
  pub leaves_taken : eqb (asks s x) 0 ≡ true → leaves_of s x ≡ packet_leaves s (packet_of x)
  unfolding leaves_of
  leaves_taken t = rw t

  pub leaves_same : eqb (asks s x) 0 ≡ false → leaves_of s x ≡ s
  unfolding leaves_of
  leaves_same f = rw f

  asks_later_lem : sound s ≡ true → asks s x ≡ asks_later s x
  unfolding asks
  asks_later_lem e = rw e

  pub push_stays : (n : ℕ) → SoundWithin n s → Octets x.bytes → n + most_added ≤ most_count → SoundWithin (n + most_added) (leaves_of s x)
  push_stays n h o room =
      either (eqb (asks s x) 0)
      (λ t. rw (leaves_taken t) (sound_stays s x h.lent o n h.counts room (eqb-true (asks s x) 0 t)))
      (λ f. rw (leaves_same f) (within_more n (n + most_added) (omega arith) s h))

pub asked_once_lem : AskedOnce
unfolding leaves_over
asked_once_lem s n h [] o room = record { numbers = tt; after = within_more n (n + 0 * most_added) (omega arith) s h }
asked_once_lem s n h (x ∷ xs) o room =
    let s' = leaves_of s x in
    let r = asked_once_lem s' (n + most_added) (push_stays s x n h o.0 (omega (arith, room))) xs o.1 (omega (arith, room)) in
    record {
      numbers = (asks_later_lem s x h.session, r.numbers);
      after =
          within_more (n + most_added + length xs * most_added) (n + suc (length xs) * most_added) (omega arith) (leaves_over s' xs)
          r.after;
    }
