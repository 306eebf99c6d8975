-- What the copies stand for at the start of a walk is the session's view. Assumes nothing.
use Rattle.std.specs.Prelude.{Option}
use Rattle.std.proofs.Common.{◌≡◌, ℕ, zero, suc, ◌+◌, ◌*◌, ◌≤◌, Bool, true, false, List, [], ◌∷◌, map, get_or, take, drop, replicate, refl, ap, ◌∙◌, add-zero, arith, drop-drop, leb-true}
use Rattle.isdb_mmt.specs.Memory.Layout.{most_sections, section_places, section_size}
use Rattle.isdb_mmt.specs.Decoder.Packet.{Bytes}
use Rattle.isdb_mmt.specs.Decoder.Kept.{Kept}
use Rattle.isdb_mmt.specs.Memory.Lent.{part, places_from, indexed, every}
use Rattle.isdb_mmt.specs.Memory.Session.{Session, limits_of, used_of, latest_of, section_place_of}
use Rattle.isdb_mmt.specs.Memory.Check.{sections_in, section_sound, lengths_of, Sound}
use Rattle.isdb_mmt.specs.Memory.View.{given, section_entry, view_by, view}
use Rattle.isdb_mmt.specs.Pushes.TableOutcome.{index_size, index_of}
use Rattle.isdb_mmt.specs.Pushes.PendingTables.{logged, with_log, PendingTables, pending_of, committed_entry, committed_kept, committed_recent, Areas, committed, VersionOf, Versions}
use Rattle.isdb_mmt.specs.Pushes.Start.{recent_at, plt_at, tot_at, walk_start, CanGo}
use Rattle.isdb_mmt.specs.declared.decoder.limits.Limits.{Limits}
use Rattle.isdb_mmt.specs.declared.decoder.counts.Counters.{Counters}
use Rattle.isdb_mmt.specs.declared.decoder.section.KeptSection.{KeptSection}
use Rattle.isdb_mmt.specs.declared.decoder.table_outcome.Recent.{Recent}
use Rattle.isdb_mmt.proofs.Lent.{part_take}
use Rattle.isdb_mmt.proofs.Limits.{Passed, passed}
use Rattle.isdb_mmt.proofs.Guards.{was_both}
use Rattle.isdb_mmt.proofs.TableOutcomes.{byte_at}
use Rattle.isdb_mmt.proofs.Logging.{Held, AllHeld}

-- ---- the index has the section places

places_part : (base big : ℕ) (l : List ℕ) (n at : ℕ) → at + section_size * n ≤ big
    → places_from n section_size at (part base big l) ≡ places_from n section_size (base + at) l
unfolding places_from
places_part base big l zero at h = refl
places_part base big l (suc n) at h =
    let a : part at section_size (part base big l) ≡ part (base + at) section_size l =
    part_take at section_size big (drop base l) (omega arith) ∙ ap (λ (z : List ℕ). take section_size z) (drop-drop at base l) in
    let b : places_from n section_size (at + section_size) (part base big l) ≡ places_from n section_size (base + (at + section_size)) l =
    places_part base big l n (at + section_size) (omega arith) in
    let e : base + (at + section_size) ≡ base + at + section_size = omega arith in
    let c : places_from n section_size (base + (at + section_size)) l ≡ places_from n section_size (base + at + section_size) l =
    ap (λ k. places_from n section_size k l) e in
    λ i. a i ∷ (b ∙ c) i

pub index_is : (l : List ℕ) → (used_of l).sections ≤ most_sections → index_of (used_of l).sections (part section_places index_size l) ≡ sections_in l
unfolding index_of sections_in
index_is l h =
    ap (map section_place_of)
    (places_part section_places index_size l (used_of l).sections 0 (omega arith)
    ∙ ap (λ k. places_from (used_of l).sections section_size k l) (add-zero section_places))

-- ---- nothing is logged

abbrev pub NoLog : List ℕ → Type 0
NoLog fs = (i : ℕ) → get_or fs i 0 ≡ 0

pub no_log : (n : ℕ) → NoLog (replicate n 0)
no_log zero i = refl
no_log (suc n) zero = refl
no_log (suc n) (suc i) = no_log n i

module _ (m t : Bytes) (area : ℕ) where
  abbrev entry_in : ℕ → KeptSection → ℕ × Kept
  entry_in i x = (x.key, record { version = x.version; bytes = part (i * area) x.length t })

  kept_start : (xs : List KeptSection) (fs : List ℕ) → NoLog fs → (i : ℕ) → indexed (committed_entry m t area) i (with_log xs fs) ≡ indexed entry_in i xs
  unfolding indexed
  kept_start [] fs z i = refl
  kept_start (x ∷ xs) [] z i = ap (λ (l : List (ℕ × Kept)). entry_in i x ∷ l) (kept_start xs [] (λ j. refl) (i + 1))
  kept_start (x ∷ xs) (f ∷ fs) z i =
      ap (λ k. committed_entry m t area i (logged x k) ∷ indexed (committed_entry m t area) (i + 1) (with_log xs fs)) (z 0)
      ∙ ap (λ (l : List (ℕ × Kept)). entry_in i x ∷ l) (kept_start xs fs (λ j. z (suc j)) (i + 1))

every_both : {A : Type 0} (f : A → Bool) (x : A) (xs : List A) → every f (x ∷ xs) ≡ true → (f x ≡ true) × (every f xs ≡ true)
unfolding every
every_both f x xs e = was_both (f x) (every f xs) e

module _ (m : Bytes) (l : Limits) where
  held_one : (x : KeptSection) (f : ℕ) → f ≡ 0 → section_sound l x ≡ true → Held m l.table_area 0 (logged x f)
  held_one x f z e =
      record { there = λ n. absurd (n z); small = omega (arith, leb-true x.length l.table_area e) }

  held_start : (xs : List KeptSection) (fs : List ℕ) → NoLog fs → every (section_sound l) xs ≡ true → AllHeld m l.table_area 0 (with_log xs fs)
  held_start [] fs z e = tt
  held_start (x ∷ xs) [] z e =
      let b = every_both (section_sound l) x xs e in
      (held_one x 0 refl b.0, held_start xs [] (λ j. refl) b.1)
  held_start (x ∷ xs) (f ∷ fs) z e =
      let b = every_both (section_sound l) x xs e in
      (held_one x f (z 0) b.0, held_start xs fs (λ j. z (suc j)) b.1)

-- the version of a table that lies in its area is its byte 1
pub version_start : (m t : Bytes) (at : ℕ) (there : Bool) (n : ℕ) → VersionOf (committed_recent m t at (recent_at t at there n)) (recent_at t at there n)
version_start m t at true n = byte_at (part at n t) 1
version_start m t at false n = tt

-- which lies there yet
pub recent_start : (m t : Bytes) (at : ℕ) (there : Bool) (n : ℕ) → committed_recent m t at (recent_at t at there n) ≡ given there (part at n t)
recent_start m t at true n = refl
recent_start m t at false n = refl

-- ---- a session

module _ (s : Session) (ok : Sound s.state s.others (lengths_of s)) where
  abbrev limits : Limits
  limits = limits_of s.state

  pub met : Passed limits (lengths_of s)
  met = passed limits (lengths_of s) ok.limits

  pub can_go : CanGo s.state s.tables
  can_go =
      record {
        few = omega (arith, met.ranges.sections, met.ranges.controls);
        area = omega (arith, met.ranges.table);
        room = met.tables;
      }

  module _ (m : Bytes) (log : List ℕ) (z : NoLog log) (mpt : Option Recent) (mpt_at : ℕ) (c : Counters) (cs : Counters) where
    abbrev pub areas : Areas
    areas =
        record {
          bytes = s.tables;
          area = limits.table_area;
          mpt = mpt_at;
          plt = plt_at s.state;
          tot = tot_at s.state;
        }

    abbrev pub start : PendingTables
    start = pending_of (part section_places index_size s.state) log s.others (walk_start s.state s.tables cs mpt)

    kept_view : committed_kept m s.tables limits.table_area start.index ≡ indexed (section_entry limits s) 0 (sections_in s.state)
    kept_view =
        kept_start m s.tables limits.table_area (index_of (used_of s.state).sections (part section_places index_size s.state)) log z 0
        ∙ ap (indexed (section_entry limits s) 0) (index_is s.state ok.there.sections)

    pub store_view : (committed m areas c start).store ≡ (view s).store
    unfolding committed view view_by
    store_view =
        λ i.
        record {
          plt = recent_start m s.tables (plt_at s.state) (latest_of s.state).plt (latest_of s.state).plt_length i;
          tot = recent_start m s.tables (tot_at s.state) (latest_of s.state).tot (latest_of s.state).tot_length i;
          kept = kept_view i;
          others = s.others;
        }

    pub held_view : AllHeld m limits.table_area 0 start.index
    held_view =
        held_start m limits (index_of (used_of s.state).sections (part section_places index_size s.state)) log z
        (ap (every (section_sound limits)) (index_is s.state ok.there.sections) ∙ ok.kept)

    pub versions_view : VersionOf (committed_recent m s.tables mpt_at mpt) mpt → Versions m areas start
    versions_view v =
        record {
          mpt = v;
          plt = version_start m s.tables (plt_at s.state) (latest_of s.state).plt (latest_of s.state).plt_length;
        }
