-- After the commit the areas have what index and log stood for. Assumes nothing.
use Rattle.std.specs.Prelude.{Option, None, Some}
use Rattle.std.proofs.Common.{◌≡◌, ℕ, zero, suc, ◌+◌, ◌-◌, ◌*◌, ◌<◌, ◌≤◌, eqb, List, [], ◌∷◌, ◌++◌, map, length, get_or, drop, sym, refl, ap, ◌∙◌, add-zero, mul-le-mul_right, zero-add, add-one, arith, length-append, length-take, drop-cons}
use borrow.Author.Tests.{eqb-false}
use Rattle.isdb_tlv.proofs.Guards.{either}
use Rattle.isdb_mmt.specs.Decoder.Packet.{Bytes}
use Rattle.isdb_mmt.specs.Memory.Lent.{part, over, indexed, places_from}
use Rattle.isdb_mmt.specs.Memory.Layout.{section_size, most_sections}
use Rattle.isdb_mmt.specs.Memory.Session.{section_place_of}
use Rattle.isdb_mmt.specs.Pushes.TableOutcome.{place_at, index_of, recent_length}
use Rattle.isdb_mmt.proofs.Limits.{areas_next}
use Rattle.isdb_mmt.proofs.Lent.{length_over, over_next, over_same}
use Rattle.isdb_mmt.proofs.Views.{area_apart}
use Rattle.isdb_mmt.specs.Pushes.PendingTables.{Logged, logged, with_log, bytes_at, committed_entry, committed_recent}
use Rattle.isdb_mmt.specs.Formats.Part.{part_of}
use Rattle.isdb_mmt.specs.Pushes.Placed.{behind}
use Rattle.isdb_mmt.specs.Pushes.Leaves.{bytes_over, kept_over}
use Rattle.isdb_mmt.specs.declared.part.Part.{Part}
use Rattle.isdb_mmt.specs.declared.decoder.table_outcome.Recent.{Recent}
use Rattle.isdb_mmt.proofs.Joined.{pieces}
use Rattle.isdb_mmt.specs.Pushes.Commit.{put_one, put_tables, put_recent, EntryFits, AllFit, logged_from, CanPut, CanStore, CanStoreOne}

module _ (area : ℕ) (m : Bytes) where
  -- one table
  module _ (i : ℕ) (e : Logged) (f : EntryFits area m e) (t : Bytes) (w : (i + 1) * area ≤ length t) where
    abbrev bs : Bytes
    bs = part (e.from - 1) e.place.length m

    abbrev t' : Bytes
    t' = put_one (i * area) e m t

    size_of : (e.from ≡ 0 → ⊥) → length bs ≡ e.place.length
    size_of n = f.within n

    one_length : length t' ≡ length t
    one_length =
        either (eqb e.from 0) (λ q. rw q)
        (λ q.
        let s = size_of (eqb-false e.from 0 q) in
        rw q (length_over (i * area) bs t (omega (arith, f.small))))

    one_apart : (j n : ℕ) → (j ≡ i → ⊥) → n ≤ area → part (j * area) n t' ≡ part (j * area) n t
    one_apart j n d b =
        either (eqb e.from 0) (λ q. rw q)
        (λ q.
        let s = size_of (eqb-false e.from 0 q) in
        rw q
        (ap (λ k. part (j * area) n (over k bs t)) (sym (add-zero (i * area)))
        ∙ area_apart area t bs i 0 (omega (arith, f.small)) w j n d b))

  -- a table that lies in its area is laid there again by nothing
  one_laid : (i : ℕ) (e : Logged) → EntryFits area m e → (t₀ t : Bytes) → (i + 1) * area ≤ length t
      → part (i * area) e.place.length t ≡ part (i * area) e.place.length t₀
      → put_one (i * area) e m t ≡ over (i * area) (bytes_at m t₀ (i * area) e.from e.place.length) t
  one_laid i e f t₀ t w h =
      either (eqb e.from 0)
      (λ q. rw q (sym (ap (λ (b : Bytes). over (i * area) b t) (sym h) ∙ over_same (i * area) e.place.length t)))
      (λ q. rw q)

  -- so the commit lays all that is kept
  pub put_is : (es : List Logged) (i : ℕ) (t₀ t : Bytes) → AllFit area m es → (i + length es) * area ≤ length t
      → ((j n : ℕ) → i ≤ j → n ≤ area → part (j * area) n t ≡ part (j * area) n t₀)
      → put_tables area i es m t ≡ kept_over area i (indexed (committed_entry m t₀ area) i es) t
  unfolding put_tables kept_over indexed
  put_is [] i t₀ t f w h = refl
  put_is (e ∷ es) i t₀ t f w h =
      let r = areas_next i (length es) area (length t) w in
      let t1 : Bytes = put_one (i * area) e m t in
      let l : length t1 ≡ length t = one_length i e f.0 t r.0 in
      let q : t1 ≡ over (i * area) (bytes_at m t₀ (i * area) e.from e.place.length) t =
      one_laid i e f.0 t₀ t r.0 (h i e.place.length (omega arith) f.0.small) in
      put_is es (i + 1) t₀ t1 f.1 (omega (arith, r.1))
      (λ j n a b. one_apart i e f.0 t r.0 j n (λ z. absurd (omega arith)) b ∙ h j n (omega arith) b)
      ∙ ap (λ (z : Bytes). kept_over area (i + 1) (indexed (committed_entry m t₀ area) (i + 1) es) z) q

  -- later areas stay
  pub put_length : (es : List Logged) (i : ℕ) (t : Bytes) → AllFit area m es → (i + length es) * area ≤ length t → length (put_tables area i es m t) ≡ length t
  unfolding put_tables
  put_length [] i t f w = refl
  put_length (e ∷ es) i t f w =
      let r = areas_next i (length es) area (length t) w in
      let l : length (put_one (i * area) e m t) ≡ length t = one_length i e f.0 t r.0 in
      put_length es (i + 1) (put_one (i * area) e m t) f.1 (omega (arith, r.1)) ∙ l

  pub put_apart : (es : List Logged) (i : ℕ) (t : Bytes) → AllFit area m es → (i + length es) * area ≤ length t
      → (j n : ℕ) → i + length es ≤ j → n ≤ area → part (j * area) n (put_tables area i es m t) ≡ part (j * area) n t
  unfolding put_tables
  put_apart [] i t f w j n h b = refl
  put_apart (e ∷ es) i t f w j n h b =
      let r = areas_next i (length es) area (length t) w in
      let l : length (put_one (i * area) e m t) ≡ length t = one_length i e f.0 t r.0 in
      put_apart es (i + 1) (put_one (i * area) e m t) f.1 (omega (arith, r.1)) j n (omega arith) b
      ∙ one_apart i e f.0 t r.0 j n (λ q. absurd (omega arith)) b

  short_of : (r : Recent) → r.length ≤ area → length (part (r.from - 1) r.length m) ≤ area
  short_of r f = omega (arith, f, length-take r.length (drop (r.from - 1) m))

  pub recent_length_lem : (i : ℕ) (r : Option Recent) (t : Bytes) → recent_length r ≤ area → (i + 1) * area ≤ length t → length (put_recent (i * area) r m t) ≡ length t
  recent_length_lem i None t f w = refl
  recent_length_lem i (Some r) t f w =
      either (eqb r.from 0) (λ z. rw z)
      (λ z. rw z (length_over (i * area) (part (r.from - 1) r.length m) t (omega (arith, short_of r f))))

  pub recent_apart : (i : ℕ) (r : Option Recent) (t : Bytes) → recent_length r ≤ area → (i + 1) * area ≤ length t → (j n : ℕ) → (j ≡ i → ⊥) → n ≤ area
      → part (j * area) n (put_recent (i * area) r m t) ≡ part (j * area) n t
  recent_apart i None t f w j n d b = refl
  recent_apart i (Some r) t f w j n d b =
      either (eqb r.from 0) (λ z. rw z)
      (λ z.
      rw z
      (ap (λ k. part (j * area) n (over k (part (r.from - 1) r.length m) t)) (sym (add-zero (i * area)))
      ∙ area_apart area t (part (r.from - 1) r.length m) i 0 (omega (arith, short_of r f)) w j n d b))

  -- an MPT, a PLT or a TOT
  pub recent_is : (i : ℕ) (r : Option Recent) (t₀ t : Bytes) → recent_length r ≤ area → (i + 1) * area ≤ length t
      → ((n : ℕ) → n ≤ area → part (i * area) n t ≡ part (i * area) n t₀)
      → put_recent (i * area) r m t ≡ bytes_over (i * area) (committed_recent m t₀ (i * area) r) t
  recent_is i None t₀ t f w h = refl
  recent_is i (Some r) t₀ t f w h =
      either (eqb r.from 0)
      (λ z. rw z (sym (ap (λ (b : Bytes). over (i * area) b t) (sym (h r.length f)) ∙ over_same (i * area) r.length t)))
      (λ z. rw z)

-- ---- a part of a message in two pieces

module _ (s : List ℕ) (at : ℕ) (a b : Bytes) (p : Part) (can : CanPut s at (a ++ b) p) (x : Bytes) (ex : x ≡ part_of a p) (q : Part) (eq : q ≡ behind (length a) p) where
  put_short : length x ≤ p.length
  put_short = rw ex (omega (arith, length-take p.length (drop p.start a)))

  pub put_first : at + length x ≤ length s
  put_first = omega (arith, can.room, put_short)

  module _ (y : Bytes) (ey : y ≡ part_of b q) where
    put_whole : x ++ y ≡ part_of (a ++ b) p
    put_whole = rw (ex, ey, eq) (pieces a b p)

    put_both : at + length x + length y ≤ length s
    put_both =
        let l : length x + length y ≡ length (part_of (a ++ b) p) = sym (length-append x y) ∙ ap length put_whole in
        omega (arith, can.room, length-take p.length (drop p.start (a ++ b)))

    pub put_second : (s' : List ℕ) → s' ≡ over at x s → at + length x + length y ≤ length s'
    put_second s' e = rw (e, length_over at x s put_first) put_both

    pub put_done : (s' s'' : List ℕ) → s' ≡ over at x s → s'' ≡ over (at + length x) y s' → s'' ≡ over at (part_of (a ++ b) p) s
    put_done s' s'' e e' =
        e' ∙ ap (λ (z : List ℕ). over (at + length x) y z) e ∙ over_next at x y s put_both ∙ ap (λ (z : Bytes). over at z s) put_whole

-- ---- the loop

pub record Storing (t₀ ix log : List ℕ) (used area : ℕ) (m : Bytes) (t : List ℕ) (i : ℕ) : Type 0 where
  pub up_to : i ≤ used
  pub long : length t ≡ length t₀
  pub whole : put_tables area i (logged_from (used - i) i ix log) m t ≡ put_tables area 0 (logged_from used 0 ix log) m t₀
  pub can : CanStore t₀ ix log used area m

pub storing_start : (t ix log : List ℕ) (used area : ℕ) (m : Bytes) → CanStore t ix log used area m → Storing t ix log used area m t 0
storing_start t ix log used area m c = let e : used - 0 ≡ used = omega arith in record { up_to = omega arith; long = refl; whole = rw e; can = c }

module _ (t₀ ix log : List ℕ) (used area : ℕ) (m : Bytes) (t : List ℕ) (i : ℕ) (s : Storing t₀ ix log used area m t i) where
  pub storing_end : used ≤ i → t ≡ put_tables area 0 (logged_from used 0 ix log) m t₀
  unfolding put_tables logged_from
  storing_end h = let e : used - i ≡ 0 = omega arith in rw e at s.whole

  module _ (h : i < used) where
    pub storing_can : CanStoreOne t ix log i area m
    storing_can =
        let k : (i + 1) * area ≤ used * area = mul-le-mul_right area (omega arith) in
        record { few = omega (arith, s.can.few); logs = omega (arith, s.can.logs); room = omega (arith, s.can.room, s.long); fits = s.can.each i h }

    pub storing_on : (t' : List ℕ) → t' ≡ put_one (i * area) (logged (place_at ix i) (get_or log i 0)) m t → length t' ≡ length t → Storing t₀ ix log used area m t' (i + 1)
    unfolding put_tables logged_from
    storing_on t' et l =
        let e : used - i ≡ suc (used - (i + 1)) = omega arith in
        let w = rw e at s.whole in
        record { up_to = omega arith; long = l ∙ s.long; whole = rw et w; can = s.can }

-- the places with their log, as the walk has them
pub logged_are : (n i : ℕ) (ix log : List ℕ) → i + n ≤ length log
    → logged_from n i ix log ≡ with_log (map section_place_of (places_from n section_size (section_size * i) ix)) (drop i log)
unfolding logged_from places_from
logged_are zero i ix log h = refl
logged_are (suc n) i ix log h =
    let d : drop i log ≡ get_or log i 0 ∷ drop (i + 1) log = rw (add-one i) (drop-cons log i 0 (omega arith)) in
    let e : section_size * i + section_size ≡ section_size * (i + 1) = omega arith in
    rw (d, e) (ap (λ (l : List Logged). logged (place_at ix i) (get_or log i 0) ∷ l) (logged_are n (i + 1) ix log (omega arith)))

pub logged_all : (used : ℕ) (ix log : List ℕ) → used ≤ length log → logged_from used 0 ix log ≡ with_log (index_of used ix) log
unfolding index_of
logged_all used ix log h = logged_are used 0 ix log (omega arith)

-- each of the places that are logged
all_each : (area : ℕ) (m : Bytes) (ix log : List ℕ) (n k : ℕ) → AllFit area m (logged_from n k ix log) → (i : ℕ) → i < n
    → EntryFits area m (record { place = place_at ix (k + i); from = get_or log (k + i) 0 })
unfolding logged_from
all_each area m ix log zero k f i h = absurd (omega arith)
all_each area m ix log (suc n) k f zero h = rw (add-zero k) f.0
all_each area m ix log (suc n) k f (suc i) h =
    let e : k + 1 + i ≡ k + suc i = omega arith in
    rw (← e) (all_each area m ix log n (k + 1) f.1 i (omega arith))

-- sections that fit their areas, logged behind each other
pub store_can : (tables ix log : List ℕ) (used area : ℕ) (m : Bytes) → used ≤ most_sections → used ≤ length log → used * area ≤ length tables
    → AllFit area m (with_log (index_of used ix) log) → CanStore tables ix log used area m
store_can tables ix log used area m few logs room f =
    let e : logged_from used 0 ix log ≡ with_log (index_of used ix) log = logged_all used ix log logs in
    record {
      few = few;
      logs = logs;
      room = room;
      each = λ i h. rw (zero-add i) at (all_each area m ix log used 0 (rw e f) i h);
    }
