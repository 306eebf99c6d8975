-- What the walk logs stands in the message, and is no longer than the longest: so the commit can be made. Assumes nothing.
use Rattle.std.specs.Prelude.{None, Option, Some}
use Rattle.std.proofs.Common.{◌≡◌, ℕ, zero, suc, ◌+◌, ◌-◌, ◌≤◌, max, true, false, ltb, List, [], ◌∷◌, ◌++◌, length, get_or, set, sym, ap, arith}
use Rattle.isdb_tlv.specs.Guards.{◌=?◌}
use Rattle.isdb_tlv.proofs.Guards.{cond_elim}
use Rattle.isdb_mmt.specs.Decoder.Packet.{Bytes}
use Rattle.isdb_mmt.specs.Memory.Lent.{part, found_from}
use Rattle.isdb_mmt.specs.Decoder.Kept.{Section, Table, empty_table, mpt_table, plt_table, tot_table, truncated_section, a_section, other_table}
use Rattle.isdb_mmt.specs.declared.decoder.section.KeptSection.{KeptSection}
use Rattle.isdb_mmt.specs.declared.decoder.table_outcome.Recent.{Recent}
use Rattle.isdb_mmt.specs.declared.decoder.table_outcome.TableAction.{TableAction}
use Rattle.isdb_mmt.specs.declared.decoder.table_outcome.TableAction.TheVariants.{Nothing, Other, Mpt, Plt, Tot, Put}
use Rattle.isdb_mmt.specs.declared.decoder.table_outcome.TableOutcome.{TableOutcome}
use Rattle.isdb_mmt.specs.Pushes.Placed.{Placed, PlacedAt, AllPlaced}
use Rattle.isdb_mmt.specs.Pushes.TableOutcome.{keys_of, no_section, recent_length, body_outcome, version_outcome, section_outcome, table_outcome}
use Rattle.isdb_mmt.specs.Pushes.PendingTables.{Logged, logged, places_of, PendingTables, recent, index_after, mpt_after, plt_after, tot_after, kept_length, pending_with, pending_with_all}
use Rattle.isdb_mmt.specs.Pushes.Commit.{AllFit}
use Rattle.isdb_mmt.proofs.Committed.{TableAt, ReadPlaced}

-- what is logged stands in the message with its length
abbrev pub StandsIn : Bytes → Option Recent → Type 0
StandsIn m None = Unit {0}
StandsIn m (Some r) = (r.from ≡ 0 → ⊥) → length (part (r.from - 1) r.length m) ≡ r.length

module _ (m : Bytes) where
  -- what is logged stands in the message; the longest is `n`, and what is not logged fits `area`
  pub record Held (area n : ℕ) (e : Logged) : Type 0 where
    pub there : (e.from ≡ 0 → ⊥) → length (part (e.from - 1) e.place.length m) ≡ e.place.length
    pub small : e.place.length ≤ max area n

  abbrev pub AllHeld : ℕ → ℕ → List Logged → Type 0
  AllHeld area n [] = Unit {0}
  AllHeld area n (e ∷ es) = Held area n e × AllHeld area n es

  more : (area n k : ℕ) → n ≤ k → (es : List Logged) → AllHeld area n es → AllHeld area k es
  more area n k h [] a = tt
  more area n k h (e ∷ es) a = (record { there = a.0.there; small = omega (arith, a.0.small) }, more area n k h es a.1)

  held_set : (area n : ℕ) (es : List Logged) (i : ℕ) (e : Logged) → AllHeld area n es → Held area n e → AllHeld area n (set es i e)
  held_set area n [] i e a h = tt
  held_set area n (x ∷ es) zero e a h = (h, a.1)
  held_set area n (x ∷ es) (suc i) e a h = (a.0, held_set area n es i e a.1 h)

  held_snoc : (area n : ℕ) (es : List Logged) (e : Logged) → AllHeld area n es → Held area n e → AllHeld area n (es ++ (e ∷ []))
  held_snoc area n [] e a h = (h, tt)
  held_snoc area n (x ∷ es) e a h = (a.0, held_snoc area n es e a.1 h)

  -- a table that is kept stands in the message
  abbrev PutPlaced : ℕ → TableAction → Type 0
  PutPlaced k Nothing = Unit {0}
  PutPlaced k (Other id) = Unit {0}
  PutPlaced k (Mpt v n) = length (part k n m) ≡ n
  PutPlaced k (Plt v n) = length (part k n m) ≡ n
  PutPlaced k (Tot n) = length (part k n m) ≡ n
  PutPlaced k (Put i x) = length (part k x.length m) ≡ x.length

  module _ (ks : List KeptSection) (k : ℕ) where
    abbrev Fine : TableOutcome → Type 0
    Fine t = PutPlaced k t.act

    put_body : (x : Section) → PlacedAt m k x.bytes → (c i : ℕ) → Fine (body_outcome x c i)
    put_body x h c i = cond_elim Fine x.body_ok (λ e. sym (ap length h)) (λ e. tt)

    put_version : (x : Section) → PlacedAt m k x.bytes → (f : Option ℕ) → Fine (version_outcome ks x f)
    put_version x h None = put_body x h 0 (length ks)
    put_version x h (Some i) = cond_elim Fine ((get_or ks i no_section).version =? x.version) (λ e. tt) (λ e. put_body x h 1 i)

    put_section : (x : Section) → PlacedAt m k x.bytes → Fine (section_outcome ks x)
    unfolding section_outcome
    put_section x h =
        cond_elim Fine x.header_and_crc_good (λ e. put_version x h (found_from 0 (keys_of ks) x.key))
        (λ e. cond_elim Fine x.crc_bad (λ z. tt) (λ z. tt))

    put_located : (r p : Option Recent) (t : Table) → TableAt m k t → Fine (table_outcome ks r p t)
    unfolding table_outcome
    put_located r p empty_table h = tt
    put_located r p (mpt_table true n b) h = sym (ap length h)
    put_located r p (mpt_table false n b) h = tt
    put_located r p (plt_table true b) h = sym (ap length h)
    put_located r p (plt_table false b) h = tt
    put_located r p (tot_table true c n b) h = sym (ap length h)
    put_located r p (tot_table false c n b) h = tt
    put_located r p truncated_section h = tt
    put_located r p (a_section x) h = put_section x h
    put_located r p (other_table id) h = tt

  after : (area n k : ℕ) (es : List Logged) (z : TableAction) → PutPlaced k z → AllHeld area n es → AllHeld area (max n (kept_length z)) (index_after es z (k + 1))
  after area n k es Nothing h a = more area n (max n 0) (omega arith) es a
  after area n k es (Other id) h a = more area n (max n 0) (omega arith) es a
  after area n k es (Mpt v l) h a = more area n (max n l) (omega arith) es a
  after area n k es (Plt v l) h a = more area n (max n l) (omega arith) es a
  after area n k es (Tot l) h a = more area n (max n l) (omega arith) es a
  after area n k es (Put i x) h a =
      let q : k + 1 - 1 ≡ k = omega arith in
      let e : Held area (max n x.length) (logged x (k + 1)) = record { there = λ y. rw q h; small = omega arith } in
      let b = more area n (max n x.length) (omega arith) es a in
      cond_elim (AllHeld area (max n x.length)) (ltb i (length es)) (λ t. held_set area (max n x.length) es i (logged x (k + 1)) b e)
      (λ t. held_snoc area (max n x.length) es (logged x (k + 1)) b e)

  pub held_all : (read : Bytes → Table) → ReadPlaced read → (area : ℕ) (xs : List Placed) (d : PendingTables) → AllPlaced m xs → AllHeld area d.longest d.index
      → AllHeld area (pending_with_all read d xs).longest (pending_with_all read d xs).index
  unfolding pending_with_all
  held_all read found_at area [] d s a = a
  held_all read found_at area (x ∷ xs) d s a =
      let t : TableOutcome = table_outcome (places_of d.index) d.mpt d.plt (read x.bytes) in
      held_all read found_at area xs (pending_with read d x) s.1
      (after area d.longest x.at d.index t.act
      (put_located (places_of d.index) x.at d.mpt d.plt (read x.bytes) (found_at m x.at x.bytes s.0)) a)

  -- where the longest fits, all fit
  pub all_fit : (area n : ℕ) → n ≤ area → (es : List Logged) → AllHeld area n es → AllFit area m es
  all_fit area n h [] a = tt
  all_fit area n h (e ∷ es) a = (record { small = omega (arith, a.0.small); within = a.0.there }, all_fit area n h es a.1)

  -- ---- the MPT, the PLT and the TOT

  pub record RecentHeld (area n : ℕ) (r : Option Recent) : Type 0 where
    pub there : StandsIn m r
    pub small : recent_length r ≤ max area n

  recent_more : (area n k : ℕ) → n ≤ k → (r : Option Recent) → RecentHeld area n r → RecentHeld area k r
  recent_more area n k h r a = record { there = a.there; small = omega (arith, a.small) }

  recent_new : (area n k v l : ℕ) → length (part k l m) ≡ l → RecentHeld area (max n l) (recent v (k + 1) l)
  recent_new area n k v l h =
      let q : k + 1 - 1 ≡ k = omega arith in
      record { there = λ z. rw q h; small = omega arith }

  module _ (area n k : ℕ) (r : Option Recent) (a : RecentHeld area n r) where
    keeps : (l : ℕ) → RecentHeld area (max n l) r
    keeps l = recent_more area n (max n l) (omega arith) r a

    mpt_held : (z : TableAction) → PutPlaced k z → RecentHeld area (max n (kept_length z)) (mpt_after r z (k + 1))
    mpt_held Nothing h = keeps 0
    mpt_held (Other id) h = keeps 0
    mpt_held (Mpt v l) h = recent_new area n k v l h
    mpt_held (Plt v l) h = keeps l
    mpt_held (Tot l) h = keeps l
    mpt_held (Put i x) h = keeps x.length

    plt_held : (z : TableAction) → PutPlaced k z → RecentHeld area (max n (kept_length z)) (plt_after r z (k + 1))
    plt_held Nothing h = keeps 0
    plt_held (Other id) h = keeps 0
    plt_held (Mpt v l) h = keeps l
    plt_held (Plt v l) h = recent_new area n k v l h
    plt_held (Tot l) h = keeps l
    plt_held (Put i x) h = keeps x.length

    tot_held : (z : TableAction) → PutPlaced k z → RecentHeld area (max n (kept_length z)) (tot_after r z (k + 1))
    tot_held Nothing h = keeps 0
    tot_held (Other id) h = keeps 0
    tot_held (Mpt v l) h = keeps l
    tot_held (Plt v l) h = keeps l
    tot_held (Tot l) h = recent_new area n k 0 l h
    tot_held (Put i x) h = keeps x.length

  pub record Recents (area : ℕ) (d : PendingTables) : Type 0 where
    pub mpt : RecentHeld area d.longest d.mpt
    pub plt : RecentHeld area d.longest d.plt
    pub tot : RecentHeld area d.longest d.tot

  pub recents_all : (read : Bytes → Table) → ReadPlaced read → (area : ℕ) (xs : List Placed) (d : PendingTables) → AllPlaced m xs → Recents area d
      → Recents area (pending_with_all read d xs)
  unfolding pending_with_all
  recents_all read found_at area [] d s a = a
  recents_all read found_at area (x ∷ xs) d s a =
      let t : TableOutcome = table_outcome (places_of d.index) d.mpt d.plt (read x.bytes) in
      let h : PutPlaced x.at t.act =
      put_located (places_of d.index) x.at d.mpt d.plt (read x.bytes) (found_at m x.at x.bytes s.0) in
      recents_all read found_at area xs (pending_with read d x) s.1
      (record {
        mpt = mpt_held area d.longest x.at d.mpt a.mpt t.act h;
        plt = plt_held area d.longest x.at d.plt a.plt t.act h;
        tot = tot_held area d.longest x.at d.tot a.tot t.act h;
      })
