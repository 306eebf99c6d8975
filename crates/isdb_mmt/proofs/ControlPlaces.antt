-- The place of a control id: what is known of it before a message packet, and after any. Assumes nothing.
use Rattle.std.proofs.Common.{◌≡◌, ℕ, ◌+◌, ◌-◌, ◌*◌, ◌<◌, ◌≤◌, true, false, List, [], ◌∷◌, length, get_or, sym, refl, ap, ◌∙◌, subst, add-zero, arith, length-append, length-set}
use Rattle.isdb_tlv.specs.Guards.{◌<?◌}
use Rattle.std.specs.Prelude.{if◌then◌else◌, Option, None, Some, is_some}
use Rattle.isdb_mmt.specs.Decoder.Packet.{Bytes, MessagePacket, message}
use Rattle.isdb_mmt.specs.Memory.Lent.{part, names_from, found_from}
use Rattle.isdb_mmt.specs.Memory.Layout.{control_places, control_size}
use Rattle.isdb_mmt.specs.Memory.Session.{Session, limits_of, used_of, counters_of, control_at, control_place_of}
use Rattle.isdb_mmt.specs.Memory.Check.{Sound, lengths_of, controls_in, control_sound, media_in, sections_in}
use Rattle.isdb_mmt.specs.Pushes.Leaves.{with_sections, kept_over, latest_over, message_in, message_at, message_leaves, packet_leaves, control_place_for, joined_in, bytes_over, used_for}
use Rattle.isdb_mmt.specs.Pushes.Fragments.{joined_as, laid_by, area_by, fragment_outcome, joined_by, control_with, Faults, faults_of, counted_with, fragment_counted}
use Rattle.isdb_mmt.specs.Pushes.FragmentPush.{blank_place, with_reassembly, with_counts}
use Rattle.isdb_mmt.specs.Pushes.Start.{malformed_more}
use Rattle.isdb_mmt.specs.Decoder.Maps.{put, or_else, one}
use Rattle.isdb_mmt.specs.Decoder.Reassembly.{PartialMessage, idle, reassembly_after, message_completed, cut_of_all}
use Rattle.isdb_mmt.specs.Decoder.Model.{State, Control as ControlState, control_of, idle_control, reassembly_of, packet_counted, message_counted, reassembly_counted, pushed, gives}
use Rattle.isdb_mmt.specs.Memory.View.{given, control_state_in, control_entry, kept_table_at, view_by, view, asset_entry, section_entry}
use Rattle.isdb_mmt.specs.Decoder.Kept.{with_packet_counts, mpt_after_all}
use Rattle.isdb_mmt.specs.Decoder.GivenTables.{tables_given}
use Rattle.isdb_mmt.specs.Memory.PlacesOf.{table_length, control_for, latest_for}
use Rattle.isdb_mmt.specs.Decoder.Needs.{needs, tables_need}
use Rattle.isdb_mmt.specs.Pushes.Push.{asks_of, QuietPushed}
use Rattle.isdb_mmt.specs.Memory.Opening.{lent}
use Rattle.isdb_mmt.specs.declared.decoder.limits.Limits.{Limits}
use Rattle.isdb_mmt.specs.declared.decoder.counts.Counters.{Counters}
use Rattle.isdb_mmt.specs.declared.decoder.control.Control.{Control}
use Rattle.isdb_mmt.specs.declared.decoder.messages.FragmentOutcome.{FragmentOutcome}
use Rattle.isdb_mmt.specs.declared.decoder.place.PlaceFor.TheVariants.{Own, Free, NoneFree}
use Rattle.isdb_mmt.specs.declared.decoder.messages.Joined.{Joined}
use Rattle.isdb_mmt.specs.declared.decoder.place.PlaceFor.{PlaceFor}
use Rattle.isdb_mmt.proofs.Lent.{length_part, length_names}
use Rattle.isdb_mmt.proofs.Names.{true_not_false}
use Rattle.isdb_mmt.proofs.Limits.{passed, in_buffer}
use Rattle.isdb_mmt.proofs.Checks.{control_was, place_was}
use Rattle.isdb_mmt.proofs.Counting.{counted_alone}
use Rattle.isdb_mmt.proofs.Views.{keys, FoundAt, found_at, absent}
use Rattle.isdb_mmt.proofs.PlacesFor.{length_sections, length_controls, control_entries, control_names_lem, get_d_places, place_for_was_old, place_for_was_new, length_indexed, get_d_indexed, length_media, place_for_was_full}
use Rattle.isdb_mmt.proofs.Maps.{find_put}
use Rattle.isdb_mmt.proofs.Fragments.{Does, outcome_does}
use Rattle.isdb_mmt.proofs.Quiet.{asks_none, asks_kept}

-- ---- the place before the packet, and what is known of its id

-- the place `i` is the id's; `k` is 1 where it is a new one
pub record Sits (s : Session) (id i k : ℕ) (c : Control) : Type 0 where
  pub is : control_of id (view s)
      ≡ control_state_in c (part (i * (limits_of s.state).message_area) c.length s.messages)
      (kept_table_at (limits_of s.state) s ((limits_of s.state).sections + i) c.mpt_length)
  pub joins : c.joining ≡ true → i * (limits_of s.state).message_area + c.length ≤ length s.messages
  pub mpt : c.mpt ≡ true → ((limits_of s.state).sections + i) * (limits_of s.state).table_area + c.mpt_length ≤ length s.tables
  pub free : i < (limits_of s.state).control_ids
  pub few : k ≤ 1
  pub more : (a : ControlState) → length (put id a (view s).controls) ≡ length (view s).controls + k
  pub room : (used_of s.state).control_ids + k ≤ (limits_of s.state).control_ids

blank_idle : (m t : Bytes) → control_state_in blank_place m t ≡ idle_control
unfolding control_state_in idle_control idle
blank_idle m t = refl

module _ (s : Session) (ok : Sound s.state s.others (lengths_of s)) (id : ℕ) where
  abbrev st : List ℕ
  st = s.state

  abbrev l : Limits
  l = limits_of st

  pub length_all : length (view s).controls ≡ (used_of st).control_ids
  unfolding view view_by
  length_all = length_indexed (control_entry l s) 0 (controls_in st) ∙ length_controls st

  pub sits_old : (i : ℕ) → control_place_for st id ≡ Own i → Sits s id i 0 (control_at st i)
  unfolding control_place_for control_of or_else view view_by controls_in
  sits_old i place_for_of =
      let c : Control = control_at st i in
      let e : found_from 0 (keys (control_entries s)) id ≡ Some i =
      ap (λ (ns : List ℕ). found_from 0 ns id) (control_names_lem s)
      ∙ place_for_was_old (names_from (used_of st).control_ids control_size control_places st) l.control_ids id i place_for_of in
      let z : i - 0 ≡ i = omega arith in
      let w : FoundAt (control_entries s) id i = rw z at (found_at (control_entries s) id 0 i e).1 in
      let lu : length (control_entries s) ≡ (used_of st).control_ids = length_indexed (control_entry l s) 0 (controls_in st) ∙ length_controls st in
      let u : i < (used_of st).control_ids = omega (arith, w.within, lu) in
      let free : i < l.control_ids = omega (arith, ok.controls) in
      let q = control_was l c (place_was (control_sound l) control_place_of (used_of st).control_ids control_size control_places st i ok.messages u) in
      let r = passed l (lengths_of s) ok.limits in
      let y : 0 + i ≡ i = omega arith in
      let g : get_or (control_entries s) i (0, idle_control) ≡ control_entry l s i c =
      rw y at (get_d_indexed (control_entry l s) (controls_in st) 0 i blank_place (0, idle_control) (omega (arith, length_controls st)))
      ∙ ap (control_entry l s i) (get_d_places control_place_of control_size blank_place st (used_of st).control_ids i control_places u) in
      record {
        is = ap (or_else idle_control) (w.found idle_control) ∙ ap (λ (p : ℕ × ControlState). p.1) g;
        joins = λ t. in_buffer i c.length l.message_area (length s.messages) l.control_ids (q.0 t) free r.messages;
        mpt =
            λ t.
            in_buffer (l.sections + i) c.mpt_length l.table_area (length s.tables) (l.sections + l.control_ids + 2) (q.1 t) (omega arith)
            r.tables;
        free = free;
        few = omega arith;
        more =
            λ a.
            ap (λ (m : List (ℕ × ControlState)). length m) (w.stored a) ∙ length-set (control_entries s) i (id, a) ∙ sym (add-zero (length (control_entries s)));
        room = omega (arith, ok.controls);
      }

  pub sits_new : (i : ℕ) → control_place_for st id ≡ Free i → Sits s id i 1 blank_place
  unfolding control_place_for control_of or_else view view_by
  sits_new i place_for_of =
      let w = place_for_was_new (names_from (used_of st).control_ids control_size control_places st) l.control_ids id i place_for_of in
      let e : found_from 0 (keys (control_entries s)) id ≡ None = ap (λ (ns : List ℕ). found_from 0 ns id) (control_names_lem s) ∙ w.0 in
      let a = absent (control_entries s) id 0 e in
      record {
        is = ap (or_else idle_control) a.0 ∙ sym (blank_idle (part (i * l.message_area) 0 s.messages) (kept_table_at l s (l.sections + i) 0));
        joins = λ t. true_not_false false t refl;
        mpt = λ t. true_not_false false t refl;
        free = w.1.1;
        few = omega arith;
        more =
            λ b. ap (λ (m : List (ℕ × ControlState)). length m) (a.1 b) ∙ length-append (control_entries s) ((id, b) ∷ []);
        room = omega (arith, w.1, length_names control_size (used_of st).control_ids control_places st);
      }

-- ---- the place after any message packet

module _ (s : Session) (ok : Sound s.state s.others (lengths_of s)) (x : MessagePacket) (i k : ℕ) (c : Control) (at : Sits s x.id i k c) (f : FragmentOutcome)
    (ef : f ≡ fragment_outcome c x.number x.payload) where
  abbrev v : State
  v = view s

  abbrev n : State
  n = pushed v (message x)

  abbrev lim : Limits
  lim = limits_of s.state

  abbrev b : Bytes
  b = x.payload

  abbrev m : Bytes
  m = part (i * lim.message_area) c.length s.messages

  abbrev t : Bytes
  t = kept_table_at lim s (lim.sections + i) c.mpt_length

  pub does : Does (reassembly_of x.id v) x c m f
  does =
      let e = outcome_does c m t (λ j. length_part (i * lim.message_area) c.length s.messages (at.joins j)) x in
      subst (λ (y : ControlState). Does y.reassembly x c m f) (sym at.is) (subst (Does (control_state_in c m t).reassembly x c m) (sym ef) e)

  pub own : control_of x.id n
      ≡ record { reassembly = reassembly_after (reassembly_of x.id v) x; mpt = mpt_after_all (control_of x.id v).mpt (tables_given (reassembly_of x.id v) x) }
  unfolding pushed control_of or_else
  own = ap (or_else idle_control) (find_put x.id _ v.controls)

  place_with : (o : Option PartialMessage) (t : Option Bytes)
      → control_for x.id (record { reassembly = record { number = Some x.number; partial = o }; mpt = t }) ≡ control_with x.id x.number (joined_as o) (is_some t) (table_length t)
  unfolding control_for or_else
  place_with None t = refl
  place_with (Some j) t = refl

  pub place_after : control_for x.id (control_of x.id n)
      ≡ control_with x.id x.number (joined_by f c b) (is_some (control_of x.id n).mpt) (table_length (control_of x.id n).mpt)
  unfolding control_for reassembly_after or_else
  place_after =
      ap (control_for x.id) own
      ∙ place_with (reassembly_after (reassembly_of x.id v) x).partial (mpt_after_all (control_of x.id v).mpt (tables_given (reassembly_of x.id v) x))
      ∙ ap
      (λ (j : Option Joined).
      control_with x.id x.number j (is_some (mpt_after_all (control_of x.id v).mpt (tables_given (reassembly_of x.id v) x)))
      (table_length (mpt_after_all (control_of x.id v).mpt (tables_given (reassembly_of x.id v) x))))
      does.joined
      ∙ ap (λ (y : ControlState). control_with x.id x.number (joined_by f c b) (is_some y.mpt) (table_length y.mpt)) (sym own)

  pub mpt_before : (control_of x.id v).mpt ≡ given c.mpt t
  unfolding control_state_in
  mpt_before = ap (λ (y : ControlState). y.mpt) at.is

  -- what is counted of it, where `k` messages or tables that it makes whole are cut short
  pub counts_after : (k : ℕ) → (cut_of_all (message_completed (reassembly_of x.id v) x)).malformed ≡ k
      → reassembly_counted (packet_counted v.counters 0 0 0) (reassembly_of x.id v) x ≡ malformed_more (fragment_counted f (counters_of s.state)) k
  unfolding reassembly_counted message_counted view view_by
  counts_after k e =
      let a = counters_of s.state in
      let z : Faults = faults_of f in
      let sum : a.message_malformed + (one z.malformed + k) ≡ a.message_malformed + one z.malformed + k = omega arith in
      ap (λ (y : Counters). reassembly_counted y (reassembly_of x.id v) x) (counted_alone a)
      ∙ (λ j. counted_with a (one (does.orphan_fragments j)) (one (does.oversize j)) (one (does.shorts j) + e j))
      ∙ ap (with_packet_counts a (a.tlv_packets + 1) (a.orphan_fragments + one z.orphan) (a.oversize + one z.oversize)) sum

  pub length_assets : length v.assets ≡ (used_of s.state).media_ids
  unfolding view view_by
  length_assets = length_indexed (asset_entry lim s) 0 (media_in s.state) ∙ length_media s.state

  pub length_kept : length v.store.kept ≡ (used_of s.state).sections
  unfolding view view_by
  length_kept = length_indexed (section_entry lim s) 0 (sections_in s.state) ∙ length_sections s.state

  pub controls_more : length n.controls ≡ (used_of s.state).control_ids + k
  unfolding pushed
  controls_more = at.more _ ∙ ap (λ y. y + k) (length_all s ok x.id)

  pub messages_are : area_by f c b ≤ lim.message_area
      → bytes_over (i * lim.message_area) (joined_in (control_of x.id n).reassembly.partial) s.messages ≡ laid_by f (i * lim.message_area) c b s.messages
  unfolding reassembly_after
  messages_are h =
      ap (λ (y : ControlState). bytes_over (i * lim.message_area) (joined_in y.reassembly.partial) s.messages) own
      ∙ does.bytes (i * lim.message_area) s.messages (λ j. refl)
      (in_buffer i (area_by f c b) lim.message_area (length s.messages) lim.control_ids h at.free
      (passed lim (lengths_of s) ok.limits).messages)

  pub used_after : used_for n
      ≡ record {
        media_ids = (used_of s.state).media_ids;
        control_ids = (used_of s.state).control_ids + k;
        sections = length n.store.kept;
      }
  unfolding pushed
  used_after = let h = controls_more in λ j. record { media_ids = length_assets j; control_ids = h j; sections = length n.store.kept }

  -- what it asks
  pub asks_message : asks_of s 0 0 (message x)
      ≡ (if lim.sections <? (used_of s.state).sections + (needs v (message x)).sections then 8
      else if lim.message_area <? area_by f c b then 9
      else if lim.table_area <? tables_need v.store (tables_given (reassembly_of x.id v) x) then 9
      else 0)
  unfolding asks_of needs pushed gives
  asks_message =
      asks_kept (needs v (message x)) lim (used_of s.state) (omega (arith, ok.media))
      (omega (arith, controls_more, length_all s ok x.id, at.room)) (omega arith) refl refl
      ∙ ap
      (λ y.
      if lim.sections <? (used_of s.state).sections + (needs v (message x)).sections then 8
      else if lim.message_area <? y then 9
      else if lim.table_area <? tables_need v.store (tables_given (reassembly_of x.id v) x) then 9
      else 0)
      does.area

  -- what it leaves
  pub leaves_parts : area_by f c b ≤ lim.message_area → (place_for_of : PlaceFor) → control_place_for s.state x.id ≡ place_for_of
      → message_at s n x.id place_for_of ≡ message_in s n x.id i
      → packet_leaves s (message x)
      ≡ lent
      (with_counts n.counters (latest_for n.store)
      (with_sections n.store.kept
      (with_reassembly i
      (control_with x.id x.number (joined_by f c b) (is_some (control_of x.id n).mpt) (table_length (control_of x.id n).mpt))
      (record {
        media_ids = (used_of s.state).media_ids;
        control_ids = (used_of s.state).control_ids + k;
        sections = length n.store.kept;
      })
      s.state)))
      n.store.others
      s.objects
      (laid_by f (i * lim.message_area) c b s.messages)
      (bytes_over ((lim.sections + i) * lim.table_area) (control_of x.id n).mpt
      (latest_over lim n.store (kept_over lim.table_area 0 n.store.kept s.tables)))
  unfolding packet_leaves message_leaves message_in
  leaves_parts h place_for_of e q =
      let p = place_after in
      let u = used_after in
      let r = messages_are h in
      ap (message_at s n x.id) e
      ∙ q
      ∙ (λ j.
      lent (with_counts n.counters (latest_for n.store) (with_sections n.store.kept (with_reassembly i (p j) (u j) s.state))) n.store.others
      s.objects (r j)
      (bytes_over ((lim.sections + i) * lim.table_area) (control_of x.id n).mpt
      (latest_over lim n.store (kept_over lim.table_area 0 n.store.kept s.tables))))

-- ---- an id that finds no place

pub no_place : (s : Session) (ok : Sound s.state s.others (lengths_of s)) (x : MessagePacket) → control_place_for s.state x.id ≡ NoneFree → QuietPushed s (message x) 8 s
unfolding control_place_for asks_of needs pushed view view_by
no_place s ok x e =
    let st = s.state in
    let l = limits_of st in
    let w = place_for_was_full (names_from (used_of st).control_ids control_size control_places st) l.control_ids x.id e in
    let q : found_from 0 (keys (control_entries s)) x.id ≡ None = ap (λ (ns : List ℕ). found_from 0 ns x.id) (control_names_lem s) ∙ w.0 in
    let a : length (pushed (view s) (message x)).controls ≡ length (control_entries s) + 1 =
    ap (λ (m : List (ℕ × ControlState)). length m) ((absent (control_entries s) x.id 0 q).1 _) ∙ length-append (control_entries s) (_ ∷ []) in
    record {
      number =
          sym
          (asks_none (needs (view s) (message x)) l (used_of st)
          (omega (arith, a, w.1, length_names control_size (used_of st).control_ids control_places st)));
      same = λ z. refl;
      session = λ z. absurd (omega arith);
    }
