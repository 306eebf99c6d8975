-- Readings of a sound session are told from the model's state. Assumes nothing.
use Rattle.std.proofs.Common.{◌≡◌, ℕ, zero, suc, ◌+◌, ◌*◌, ◌<◌, ◌≤◌, Bool, true, false, eqb, List, length, sym, refl, ap, ◌∙◌, subst, arith, eqb-true}
use Rattle.std.specs.Bool.{then_some}
use Rattle.isdb_mmt.specs.declared.decoder.readings.MpuRange.{MpuRange}
use Rattle.std.specs.Prelude.{Option, Some, None, Result, Ok, Err}
use Rattle.isdb_mmt.specs.declared.decoder.refusal.Refusal.{Refusal}
use Rattle.isdb_tlv.specs.Bytes.{be}
use Rattle.isdb_tlv.proofs.Guards.{either}
use Rattle.isdb_tlv.proofs.Numbers.{be_lt}
use Rattle.isdb_mmt.specs.Decoder.Packet.{Bytes}
use Rattle.isdb_mmt.specs.Decoder.Maps.{find}
use Rattle.isdb_mmt.specs.Decoder.Objects.{Mfu}
use Rattle.isdb_mmt.specs.Decoder.Reassembly.{PartialMessage}
use Rattle.isdb_mmt.specs.Memory.Lent.{part, names_from, among, found_from, indexed}
use Rattle.isdb_mmt.specs.Memory.Octets.{Octets}
use Rattle.isdb_mmt.specs.Memory.Layout.{media_places, media_size, control_places, control_size, section_places, section_size}
use Rattle.isdb_mmt.specs.Memory.Session.{Session, limits_of, used_of, time_of, media_place_of, control_place_of, media_at, control_at}
use Rattle.isdb_mmt.specs.Memory.Check.{lengths_of, sound, Sound, media_in, controls_in, sections_in, media_sound, control_sound}
use Rattle.isdb_mmt.specs.Memory.View.{given, mfu_of, asset_of_place, control_state_in, asset_entry, control_entry, section_entry, kept_table_at, view_by, view}
use Rattle.isdb_mmt.specs.Answers.Readings.{media_names, control_names, keys_in, media_found, control_found, counters_read, time_at, time_read, count_read, least_from, name_read, most_name, next_media_read, next_control_read, next_key_read, u32_if, media_state_of, media_if, media_read, held_object_of, held_at, held_if, held_read, control_state_of, control_if, control_read}
use Rattle.isdb_mmt.specs.Answers.ReadingLaws.{time_told, CountsAreTold, u32_told, range_told, object_length, joined_length_of, media_told, HeldTold, control_told, IdsAreTold, Least, NextTold, NamesAreTold}
use Rattle.isdb_mmt.specs.declared.decoder.head.Time.{Time}
use Rattle.isdb_mmt.specs.declared.decoder.limits.Limits.{Limits}
use Rattle.isdb_mmt.specs.declared.decoder.media.Media.{Media}
use Rattle.isdb_mmt.specs.declared.decoder.control.Control.{Control}
use Rattle.isdb_mmt.proofs.Said.{media_entry, control_at_place, media_found_lem, control_found_lem}
use Rattle.isdb_mmt.proofs.Lent.{length_part, length_names}
use Rattle.isdb_mmt.proofs.Names.{true_not_false}
use Rattle.isdb_mmt.proofs.Views.{keys}
use Rattle.isdb_mmt.proofs.PlacesFor.{control_entries, control_names_lem, entries, entry_names}
use Rattle.isdb_mmt.proofs.Stays.{section_keys}
use Rattle.isdb_mmt.proofs.Limits.{passed, in_buffer}
use Rattle.isdb_mmt.proofs.Checks.{sound_session, media_was, control_was, place_was}
use Rattle.isdb_mmt.proofs.ReadSteps.{found_below}
use Rattle.isdb_mmt.proofs.Least.{least_is, least_nothing, in_order}

-- ---- counts and the time

time_told_lem : (t : Time) → time_at t ≡ time_told (given t.seen t.timestamp)
time_told_lem t = go t.seen
  where
    go : (b : Bool) → time_at (record { seen = b; timestamp = t.timestamp }) ≡ time_told (given b t.timestamp)
    go true = refl
    go false = refl

pub counts_told : CountsAreTold
unfolding counters_read time_read count_read view view_by
counts_told s e = record { counters = rw e; time = rw e (ap Ok (time_told_lem (time_of s.state))); tables = λ id. rw e }

-- ---- what is known of an id

u32_told_lem : (b : Bool) (n : ℕ) → u32_if b n ≡ u32_told (given b n)
u32_told_lem true n = refl
u32_told_lem false n = refl

range_told_lem : (b : Bool) (x y : ℕ) → ◌≡◌ {A = Option MpuRange} (then_some b (record { first = x; last = y })) (range_told (given b (x, y)))
range_told_lem true x y = refl
range_told_lem false x y = refl

object_told : (b : Bool) (n : ℕ) (h : Mfu) → (b ≡ true → length h.bytes ≡ n) → u32_if b n ≡ object_length (given b h)
object_told true n h e = rw (e refl)
object_told false n h e = refl

join_told : (b : Bool) (n : ℕ) (j : PartialMessage) → (b ≡ true → length j.bytes ≡ n) → u32_if b n ≡ joined_length_of (given b j)
join_told true n j e = rw (e refl)
join_told false n j e = refl

media_told_of : (m : Media) (b : Bytes) → (m.held ≡ true → length b ≡ m.object.length) → Some (media_state_of m) ≡ media_told (Some (asset_of_place m b))
unfolding asset_of_place mfu_of
media_told_of m b e =
    rw (← u32_told_lem m.seen m.sequence, ← range_told_lem m.mpu_seen m.first_mpu m.mpu, ← object_told m.held m.object.length (mfu_of m.object b) e)
    refl

control_told_of : (c : Control) (b t : Bytes) → (c.joining ≡ true → length b ≡ c.length) → Some (control_state_of c) ≡ control_told (Some (control_state_in c b t))
unfolding control_state_in
control_told_of c b t e =
    rw (← u32_told_lem c.seen c.sequence, ← join_told c.joining c.length (record { long = c.long_length; aggregated = c.aggregated; bytes = b }) e)
    refl

held_told_of : (objects : Bytes) (l : Limits) (i : ℕ) (m : Media)
    → HeldTold objects (Ok (held_at l i m)) (Some (asset_of_place m (part (i * l.mfu_area) m.object.length objects)))
unfolding asset_of_place mfu_of
held_told_of objects l i m =
    either m.held (λ t. rw t (record { object = held_object_of l i m; answer = refl; is = refl })) (λ f. rw f refl)

module _ (s : Session) (e : sound s ≡ true) (id : ℕ) where
  ok : Sound s.state s.others (lengths_of s)
  ok = sound_session s e

  abbrev l : Limits
  l = limits_of s.state

  object_long : (i : ℕ) → i < (used_of s.state).media_ids → (media_at s.state i).held ≡ true
      → length (part (i * l.mfu_area) (media_at s.state i).object.length s.objects) ≡ (media_at s.state i).object.length
  unfolding media_in
  object_long i b h =
      let q = (media_was l (media_at s.state i) (place_was (media_sound l) media_place_of (used_of s.state).media_ids media_size media_places s.state i ok.objects b)).0 h in
      length_part (i * l.mfu_area) (media_at s.state i).object.length s.objects
      (in_buffer i (media_at s.state i).object.length l.mfu_area (length s.objects) l.media_ids q (omega (arith, ok.media))
      (passed l (lengths_of s) ok.limits).objects)

  message_long : (i : ℕ) → i < (used_of s.state).control_ids → (control_at s.state i).joining ≡ true
      → length (part (i * l.message_area) (control_at s.state i).length s.messages) ≡ (control_at s.state i).length
  unfolding controls_in
  message_long i b h =
      let q = (control_was l (control_at s.state i) (place_was (control_sound l) control_place_of (used_of s.state).control_ids control_size control_places s.state i ok.messages b)).0 h in
      length_part (i * l.message_area) (control_at s.state i).length s.messages
      (in_buffer i (control_at s.state i).length l.message_area (length s.messages) l.control_ids q (omega (arith, ok.controls))
      (passed l (lengths_of s) ok.limits).messages)

  asset_found : (i : ℕ) → found_from 0 (media_names s) id ≡ Some i → (i < (used_of s.state).media_ids) × (find id (entries s) ≡ Some (asset_entry l s i (media_at s.state i)).1)
  unfolding media_found view view_by
  asset_found i d = (
    omega (arith, (found_below (media_names s) id 0 i d).1, length_names media_size (used_of s.state).media_ids media_places s.state),
    media_found_lem s id ∙ ap (media_entry s) d,
  )

  asset_missing : found_from 0 (media_names s) id ≡ None → find id (entries s) ≡ None
  unfolding media_found view view_by
  asset_missing d = media_found_lem s id ∙ ap (media_entry s) d

  control_there : (i : ℕ) → found_from 0 (control_names s) id ≡ Some i → (i < (used_of s.state).control_ids) × (find id (control_entries s) ≡ Some (control_entry l s i (control_at s.state i)).1)
  unfolding control_found view view_by
  control_there i d = (
    omega (arith, (found_below (control_names s) id 0 i d).1, length_names control_size (used_of s.state).control_ids control_places s.state),
    control_found_lem s id ∙ ap (control_at_place s) d,
  )

  control_missing : found_from 0 (control_names s) id ≡ None → find id (control_entries s) ≡ None
  unfolding control_found view view_by
  control_missing d = control_found_lem s id ∙ ap (control_at_place s) d

  media_by : (f : Option ℕ) → found_from 0 (media_names s) id ≡ f → media_if s f ≡ media_told (find id (entries s))
  media_by (Some i) d =
      let w = asset_found i d in
      rw w.1 (media_told_of (media_at s.state i) (part (i * l.mfu_area) (media_at s.state i).object.length s.objects) (object_long i w.0))
  media_by None d = rw (asset_missing d)

  held_by : (f : Option ℕ) → found_from 0 (media_names s) id ≡ f → HeldTold s.objects (Ok (held_if s f)) (find id (entries s))
  held_by (Some i) d = rw (asset_found i d).1 (held_told_of s.objects l i (media_at s.state i))
  held_by None d = rw (asset_missing d) refl

  control_by : (f : Option ℕ) → found_from 0 (control_names s) id ≡ f → control_if s f ≡ control_told (find id (control_entries s))
  control_by (Some i) d =
      let w = control_there i d in
      rw w.1
      (control_told_of (control_at s.state i) (part (i * l.message_area) (control_at s.state i).length s.messages) (kept_table_at l s (l.sections + i) (control_at s.state i).mpt_length)
      (message_long i w.0))
  control_by None d = rw (control_missing d)

  media_told_lem : media_read s id ≡ Ok (media_told (find id (view s).assets))
  unfolding media_read media_found view view_by
  media_told_lem = rw e (ap Ok (media_by (found_from 0 (media_names s) id) refl))

  held_told : HeldTold s.objects (held_read s id) (find id (view s).assets)
  unfolding held_read media_found view view_by
  held_told = rw e (held_by (found_from 0 (media_names s) id) refl)

  control_told_lem : control_read s id ≡ Ok (control_told (find id (view s).controls))
  unfolding control_read control_found view view_by
  control_told_lem = rw e (ap Ok (control_by (found_from 0 (control_names s) id) refl))

pub ids_told : IdsAreTold
ids_told s e = record { media = media_told_lem s e; held = held_told s e; control = control_told_lem s e }

-- ---- names

key_names : (s : Session) → keys (indexed (section_entry (limits_of s.state) s) 0 (sections_in s.state)) ≡ keys_in s
unfolding view view_by
key_names s = section_keys s

names_small : (l : List ℕ) → Octets l → (size n at y : ℕ) → among y (names_from n size at l) ≡ true → y ≤ most_name
unfolding among names_from
names_small l o size zero at y m = true_not_false false m refl
names_small l o size (suc n) at y m =
    either (eqb (be 4 l at) y)
    (λ t.
    let b : be 4 l at < 4294967296 = be_lt l (λ i. record { fits = o i }) 4 at in
    omega (arith, eqb-true (be 4 l at) y t))
    (λ f. names_small l o size n (at + size) y (rw f at m))

name_not : {A : Type 0} (x : Option ℕ) (y : Refusal) → ◌≡◌ {A = Result (Option ℕ) Refusal} (Ok x) (Err y) → A
name_not x y e = let z : ◌≡◌ {A = ℕ} 0 1 = cc in absurd (omega arith)

nothing_no_name : {A : Type 0} (x : ℕ) → ◌≡◌ {A = Result (Option ℕ) Refusal} (Ok None) (Ok (Some x)) → A
nothing_no_name x e = let z : ◌≡◌ {A = ℕ} 0 1 = cc in absurd (omega arith)

same_name : (x y : ℕ) → ◌≡◌ {A = Result (Option ℕ) Refusal} (Ok (Some x)) (Ok (Some y)) → x ≡ y
same_name x y e = cc

next_by : (names : List ℕ) (a b : ℕ) (r : Option ℕ) → least_from None a b names ≡ r → NextTold names a b (Ok r)
next_by names a b None d =
    record {
      answered = λ n q. name_not None n q;
      name = λ x q. nothing_no_name x q;
      nothing = λ q. least_nothing names a b d;
      empty = λ f. refl;
    }
next_by names a b (Some x) d =
    let l = least_is names a b x d in
    record {
      answered = λ n q. name_not (Some x) n q;
      name = λ y q. subst (λ z. Least names a b z) (same_name x y q) l;
      nothing = λ q. nothing_no_name x (sym q);
      empty = λ f. absurd (f x l.one l.from l.to);
    }

next_told : (s : Session) → sound s ≡ true → (names : List ℕ) (a b : ℕ) → NextTold names a b (name_read s names a b)
next_told s e names a b = rw e (next_by names a b (least_from None a b names) refl)

pub names_told : NamesAreTold
unfolding view view_by next_media_read next_control_read next_key_read
names_told s e o =
    let ok = sound_session s e in
    let st = s.state in
    let u = used_of st in
    record {
      media = rw (entry_names s) (in_order (media_names s) ok.media_names (names_small st o media_size u.media_ids media_places));
      controls = rw (control_names_lem s) (in_order (control_names s) ok.control_names (names_small st o control_size u.control_ids control_places));
      keys = rw (key_names s) (in_order (keys_in s) ok.keys (names_small st o section_size u.sections section_places));
      next_media = λ a. rw (entry_names s) (next_told s e (media_names s) a most_name);
      next_control = λ a. rw (control_names_lem s) (next_told s e (control_names s) a most_name);
      next_key = λ a b. rw (key_names s) (next_told s e (keys_in s) a b);
    }
