-- A session whose view its places can hold, with counts up to 2^53, no name twice and no more of each than its limits say, and whose
-- stored lengths are those of the bytes that stand there, passes question 5. Assumes nothing.
use Rattle.std.proofs.Common.{◌≡◌, ℕ, zero, suc, ◌+◌, ◌*◌, ◌<◌, ◌≤◌, Bool, true, false, List, [], ◌∷◌, ◌++◌, length, get_or, set, refl, ◌∙◌, add-zero, arith, le-leb, leb-true}
use Rattle.isdb_mmt.specs.Decoder.Packet.{Bytes}
use Rattle.isdb_mmt.specs.Decoder.Objects.{Mfu}
use Rattle.isdb_mmt.specs.Decoder.Reassembly.{PartialMessage}
use Rattle.isdb_mmt.specs.Decoder.Needs.{held_length}
use Rattle.isdb_mmt.specs.Memory.Lent.{part, names_from, every, indexed}
use Rattle.isdb_mmt.specs.Memory.Limits.{asked}
use Rattle.isdb_mmt.specs.Memory.Layout.{most_count, media_places, media_size, control_places, control_size, section_places, section_size}
use Rattle.isdb_mmt.specs.Memory.Session.{Session, limits_of, used_of, latest_of, counters_of, section_place_of}
use Rattle.isdb_mmt.specs.Memory.Check.{count_fits_of, length_fits, media_sound, control_sound, section_sound, media_in, controls_in, sections_in, sound, lengths_of, Sound}
use Rattle.isdb_mmt.specs.Memory.View.{given, mfu_of, asset_of_place, control_state_in, asset_entry, control_entry, section_entry, view_by, view}
use Rattle.isdb_mmt.specs.declared.decoder.limits.Limits.{Limits}
use Rattle.isdb_mmt.specs.declared.decoder.media.Media.{Media}
use Rattle.isdb_mmt.specs.declared.decoder.control.Control.{Control}
use Rattle.isdb_mmt.specs.declared.decoder.section.KeptSection.{KeptSection}
use Rattle.isdb_mmt.proofs.Names.{true_not_false}
use Rattle.isdb_mmt.proofs.Lent.{length_part}
use Rattle.isdb_mmt.proofs.Views.{keys}
use Rattle.isdb_mmt.proofs.Limits.{passed, in_buffer}
use Rattle.isdb_mmt.proofs.Checks.{media_is, control_is, is_sound, was_there}
use Rattle.isdb_mmt.proofs.Guards.{was_both}
use Rattle.isdb_mmt.proofs.Every.{Every}
use Rattle.isdb_mmt.proofs.Fits.{AssetFits}
use Rattle.isdb_mmt.proofs.Named.{Named}
use Rattle.isdb_mmt.proofs.Joins.{JoinFits}
use Rattle.isdb_mmt.proofs.PlaceFits.{TableOk, KeptOk, ControlOk}
use Rattle.isdb_mmt.proofs.Storable.{MediaFits, ReassemblyFits, Storable}
use Rattle.isdb_mmt.proofs.PlacesFor.{length_media, length_controls, length_sections, length_indexed, names_view, section_name, entry_names, control_names_lem}

-- of each place with its index
module _ {A : Type 0} (E : ℕ → A → Type 0) where
  abbrev pub Placed : ℕ → List A → Type 0
  Placed i [] = Unit {0}
  Placed i (x ∷ xs) = E i x × Placed (i + 1) xs

-- what is there stands within its buffer: facts of stored lengths and of the buffers' lengths alone
abbrev pub media_there_lem : Limits → Session → ℕ → Media → Type 0
media_there_lem l s i m = m.held ≡ true → i * l.mfu_area + m.object.length ≤ length s.objects

abbrev pub control_there_lem : Limits → Session → ℕ → Control → Type 0
control_there_lem l s i c =
    (c.joining ≡ true → i * l.message_area + c.length ≤ length s.messages)
    × (c.mpt ≡ true → (l.sections + i) * l.table_area + c.mpt_length ≤ length s.tables)

abbrev pub section_there : Limits → Session → ℕ → KeptSection → Type 0
section_there l s i x = i * l.table_area + x.length ≤ length s.tables

pub record Exact (l : Limits) (s : Session) : Type 0 where
  pub media : Placed (media_there_lem l s) 0 (media_in s.state)
  pub controls : Placed (control_there_lem l s) 0 (controls_in s.state)
  pub sections : Placed (section_there l s) 0 (sections_in s.state)
  pub plt : (latest_of s.state).plt ≡ true
      → (l.sections + l.control_ids) * l.table_area + (latest_of s.state).plt_length ≤ length s.tables
  pub tot : (latest_of s.state).tot ≡ true
      → (l.sections + l.control_ids + 1) * l.table_area + (latest_of s.state).tot_length ≤ length s.tables

pub placed_mono : {A : Type 0} (E F : ℕ → A → Type 0) → ((i : ℕ) (x : A) → E i x → F i x) → (xs : List A) (k : ℕ) → Placed E k xs → Placed F k xs
placed_mono E F f [] k h = tt
placed_mono E F f (x ∷ xs) k h = (f k x h.0, placed_mono E F f xs (k + 1) h.1)

-- one place stored anew, and one place more
module _ {A : Type 0} (E : ℕ → A → Type 0) where
  pub placed_set : (xs : List A) (k i : ℕ) (a : A) → E (k + i) a → Placed E k xs → Placed E k (set xs i a)
  placed_set [] k i a e h = h
  placed_set (x ∷ xs) k zero a e h = (rw add-zero at e, h.1)
  placed_set (x ∷ xs) k (suc i) a e h =
      let q : k + suc i ≡ k + 1 + i = omega arith in (h.0, placed_set xs (k + 1) i a (rw q at e) h.1)

  pub placed_snoc : (xs : List A) (k : ℕ) (a : A) → E (k + length xs) a → Placed E k xs → Placed E k (xs ++ (a ∷ []))
  placed_snoc [] k a e h = (rw add-zero at e, tt)
  placed_snoc (x ∷ xs) k a e h =
      let q : k + suc (length xs) ≡ k + 1 + length xs = omega arith in (h.0, placed_snoc xs (k + 1) a (rw q at e) h.1)

-- ---- lists of places

every_is : {A B : Type 0} (g : ℕ → A → ℕ × B) (f : A → Bool) (P : ℕ → B → Type 0) (E : ℕ → A → Type 0)
    → ((i : ℕ) (x : A) → P (g i x).0 (g i x).1 → E i x → f x ≡ true)
    → (xs : List A) (i : ℕ) → Every P (indexed g i xs) → Placed E i xs → every f xs ≡ true
unfolding indexed every
every_is g f P E h [] i a b = refl
every_is g f P E h (x ∷ xs) i a b = rw (h i x a.0 b.0, every_is g f P E h xs (i + 1) a.1 b.1)

-- ---- one place

held_length_lem : (b : Bool) (u : Mfu) (area : ℕ) → held_length (given b u) ≤ area → b ≡ true → length u.bytes ≤ area
held_length_lem true u area h e = h
held_length_lem false u area h e = true_not_false false e refl

join_length : (b : Bool) (j : PartialMessage) (area : ℕ) → JoinFits area (given b j) → b ≡ true → length j.bytes ≤ area
join_length true j area h e = h.0
join_length false j area h e = true_not_false false e refl

table_length_lem : (area : ℕ) (b : Bool) (x : Bytes) → TableOk area (given b x) → b ≡ true → length x ≤ area
table_length_lem area true x h e = h.0
table_length_lem area false x h e = true_not_false false e refl

module _ (l : Limits) (s : Session) (n : ℕ) (big : n ≤ most_count) where
  media_sound_lem : (i : ℕ) (m : Media) → AssetFits l.mfu_area n (asset_entry l s i m).1 → media_there_lem l s i m → media_sound l m ≡ true
  unfolding asset_of_place every mfu_of
  media_sound_lem i m h e =
      media_is l m
      (λ t.
      let k = held_length_lem m.held (mfu_of m.object (part (i * l.mfu_area) m.object.length s.objects)) l.mfu_area h.held t in
      omega (arith, length_part (i * l.mfu_area) m.object.length s.objects (e t)))
      (simp (
        le-leb m.stats.packets most_count (omega (arith, h.counts.packets)),
        le-leb m.stats.packets_lost most_count (omega (arith, h.counts.lost)),
        le-leb m.stats.scrambled_packets most_count (omega (arith, h.counts.scrambled)),
        le-leb m.stats.mfus most_count (omega (arith, h.counts.mfus)),
        le-leb m.stats.scrambled_mfus most_count (omega (arith, h.counts.scrambled_mfus)),
        le-leb m.stats.mfus_dropped most_count (omega (arith, h.counts.dropped)),
        le-leb m.stats.mpus most_count (omega (arith, h.counts.mpus)),
        le-leb m.stats.mpu_sequence_jumps most_count (omega (arith, h.counts.jumps)),
        le-leb m.stats.malformed most_count (omega (arith, h.counts.malformed)),
      ))

  control_sound_lem : (i : ℕ) (c : Control) → ControlOk l.message_area l.table_area (control_entry l s i c).1 → control_there_lem l s i c
      → control_sound l c ≡ true
  unfolding control_state_in
  control_sound_lem i c h e =
      control_is l c
      (λ t. let k = join_length c.joining _ l.message_area h.joins t in omega (arith, length_part (i * l.message_area) c.length s.messages (e.0 t)))
      (λ t. let k = table_length_lem l.table_area c.mpt _ h.mpt t in omega (arith, length_part ((l.sections + i) * l.table_area) c.mpt_length s.tables (e.1 t)))

  section_sound_lem : (i : ℕ) (x : KeptSection) → KeptOk l.table_area x.key (section_entry l s i x).1 → section_there l s i x
      → section_sound l x ≡ true
  section_sound_lem i x h e =
      le-leb x.length l.table_area (omega (arith, h.fits, length_part (i * l.table_area) x.length s.tables e))

counts_fit : (n : ℕ) → n ≤ most_count → (xs : List ℕ) → ((i : ℕ) → get_or xs i 0 ≤ n) → every count_fits_of xs ≡ true
unfolding every
counts_fit n big [] h = refl
counts_fit n big (x ∷ xs) h = rw (le-leb x most_count (omega (arith, h 0)), counts_fit n big xs (λ i. h (suc i)))

four : (a b c d : ℕ) → a ≤ most_count → b ≤ most_count → c ≤ most_count → d ≤ most_count
    → every count_fits_of (a ∷ b ∷ c ∷ d ∷ []) ≡ true
unfolding every
four a b c d p q r s = simp (le-leb a _ p, le-leb b _ q, le-leb c _ r, le-leb d _ s)

eight : (a b c d e f g h : ℕ) → a ≤ most_count → b ≤ most_count → c ≤ most_count → d ≤ most_count
    → e ≤ most_count → f ≤ most_count → g ≤ most_count → h ≤ most_count
    → every count_fits_of (a ∷ b ∷ c ∷ d ∷ e ∷ f ∷ g ∷ h ∷ []) ≡ true
unfolding every
eight a b c d e f g h p q r s t u v w =
    simp (le-leb a _ p, le-leb b _ q, le-leb c _ r, le-leb d _ s, le-leb e _ t, le-leb f _ u, le-leb g _ v, le-leb h _ w)

-- ---- the session

module _ (s : Session) where
  pub media_keys : keys (view s).assets ≡ names_from (used_of s.state).media_ids media_size media_places s.state
  unfolding view view_by
  media_keys = entry_names s

  pub control_keys : keys (view s).controls ≡ names_from (used_of s.state).control_ids control_size control_places s.state
  unfolding view view_by
  control_keys = control_names_lem s

  pub section_keys : keys (view s).store.kept ≡ names_from (used_of s.state).sections section_size section_places s.state
  unfolding view view_by sections_in
  section_keys =
      names_view section_place_of (λ x. x.key) (section_entry (limits_of s.state) s) section_size section_places (used_of s.state).sections s.state
      (omega arith) (λ i x. refl) section_name

pub stays_sound : (s : Session) (n : ℕ) → n ≤ most_count → asked (limits_of s.state) (lengths_of s) ≡ 0 → Exact (limits_of s.state) s
    → Storable (limits_of s.state) n (view s) → Named (limits_of s.state) (view s) → sound s ≡ true
unfolding sound view view_by media_in controls_in sections_in
stays_sound s n big a e h w =
    let l = limits_of s.state in
    let p = passed l (lengths_of s) a in
    let c = h.counters in
    let x = counters_of s.state in
    let m1 = length_indexed (asset_entry l s) 0 (media_in s.state) ∙ length_media s.state in
    let m2 = length_indexed (control_entry l s) 0 (controls_in s.state) ∙ length_controls s.state in
    let m3 = length_indexed (section_entry l s) 0 (sections_in s.state) ∙ length_sections s.state in
    is_sound s.state s.others (lengths_of s)
    (record {
      limits = a;
      there =
          record {
            long = p.state;
            media = omega (arith, m1, w.media, p.ranges);
            controls = omega (arith, m2, w.lines, p.ranges);
            sections = omega (arith, m3, w.sections, p.ranges);
          };
      media = omega (arith, m1, w.media);
      controls = omega (arith, m2, w.lines);
      sections = omega (arith, m3, w.sections);
      plt = λ t. let k = table_length_lem l.table_area (latest_of s.state).plt _ h.store.plt t in
          omega (arith, length_part ((l.sections + l.control_ids) * l.table_area) (latest_of s.state).plt_length s.tables (e.plt t));
      tot = λ t. let k = table_length_lem l.table_area (latest_of s.state).tot _ h.store.tot t in
          omega (arith, length_part ((l.sections + l.control_ids + 1) * l.table_area) (latest_of s.state).tot_length s.tables (e.tot t));
      packets = four x.tlv_packets x.ip_errors x.non_mmtp x.ntp (omega (arith, c.tlv_packets)) (omega (arith, c.ip_errors)) (omega (arith, c.non_mmtp)) (omega (arith, c.ntp));
      tables =
          eight x.tables x.crc_errors x.malformed x.version_changes x.orphan_fragments x.oversize x.message_malformed x.split_errors
          (omega (arith, c.tables)) (omega (arith, c.crc_errors)) (omega (arith, c.malformed)) (omega (arith, c.version_changes))
          (omega (arith, c.orphan_fragments)) (omega (arith, c.oversize)) (omega (arith, c.message_malformed)) (omega (arith, c.split_errors));
      counts = counts_fit n big s.others h.store.others;
      objects =
          every_is (asset_entry l s) (media_sound l) (MediaFits l n) (media_there_lem l s) (λ i m f t. media_sound_lem l s n big i m f.1.counts t)
          (media_in s.state) 0 h.assets e.media;
      messages =
          every_is (control_entry l s) (control_sound l) (ReassemblyFits l) (control_there_lem l s) (λ i c f t. control_sound_lem l s n big i c f.1 t)
          (controls_in s.state) 0 h.controls e.controls;
      kept =
          every_is (section_entry l s) (section_sound l) (KeptOk l.table_area) (section_there l s)
          (λ i x f t. section_sound_lem l s n big i x f t) (sections_in s.state) 0 h.store.kept e.sections;
      media_names = rw (media_keys s) at w.media_names;
      control_names = rw (control_keys s) at w.control_names;
      keys = rw (section_keys s) at w.kept_names;
    })

-- ---- a session that passes question 5 has what it says: nothing is to be shown of places that a push leaves

placed_all : {A : Type 0} (f : A → Bool) (E : ℕ → A → Type 0) (most : ℕ) → ((i : ℕ) (x : A) → i < most → f x ≡ true → E i x)
    → (xs : List A) (k : ℕ) → k + length xs ≤ most → every f xs ≡ true → Placed E k xs
unfolding every
placed_all f E most h [] k b e = tt
placed_all f E most h (x ∷ xs) k b e =
    let q = was_both (f x) (every f xs) e in
    (h k x (omega arith) q.0, placed_all f E most h xs (k + 1) (omega arith) q.1)

pub exact_was : (s : Session) → Sound s.state s.others (lengths_of s) → Exact (limits_of s.state) s
unfolding media_sound control_sound media_in controls_in sections_in
exact_was s q =
    let l = limits_of s.state in
    let p = passed l (lengths_of s) q.limits in
    let m1 = length_media s.state in
    let m2 = length_controls s.state in
    let m3 = length_sections s.state in
    record {
      media =
          placed_all (media_sound l) (media_there_lem l s) l.media_ids
          (λ i m b f t. in_buffer i m.object.length l.mfu_area (length s.objects) l.media_ids (was_there m.held _ _ (was_both _ _ f).0 t) b p.objects)
          (media_in s.state) 0 (omega (arith, m1, q.media)) q.objects;
      controls =
          placed_all (control_sound l) (control_there_lem l s) l.control_ids
          (λ i c b f. (
            (λ t. in_buffer i c.length l.message_area (length s.messages) l.control_ids (was_there c.joining _ _ (was_both _ _ f).0 t) b p.messages),
            (λ t. in_buffer (l.sections + i) c.mpt_length l.table_area (length s.tables) (l.sections + l.control_ids + 2) (was_there c.mpt _ _ (was_both (length_fits c.joining c.length l.message_area) _ f).1 t) (omega arith) p.tables),
          ))
          (controls_in s.state) 0 (omega (arith, m2, q.controls)) q.messages;
      sections =
          placed_all (section_sound l) (section_there l s) l.sections
          (λ i x b f. in_buffer i x.length l.table_area (length s.tables) (l.sections + l.control_ids + 2) (leb-true _ _ f) (omega arith) p.tables)
          (sections_in s.state) 0 (omega (arith, m3, q.sections)) q.kept;
      plt = λ t. in_buffer (l.sections + l.control_ids) _ l.table_area (length s.tables) (l.sections + l.control_ids + 2) (q.plt t) (omega arith) p.tables;
      tot = λ t. in_buffer (l.sections + l.control_ids + 1) _ l.table_area (length s.tables) (l.sections + l.control_ids + 2) (q.tot t) (omega arith) p.tables;
    }
