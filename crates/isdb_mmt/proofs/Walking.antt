-- A walk over tables on the copies: steps one after the other, and the loop over them. Assumes nothing.
use Rattle.std.proofs.Common.{◌≡◌, ℕ, ◌+◌, ◌*◌, ◌<◌, ◌≤◌, true, false, ltb, List, [], ◌∷◌, ◌++◌, length, sym, refl, ap, ◌∙◌, subst, arith, length-append, length-set}
use Rattle.isdb_tlv.proofs.Guards.{either}
use Rattle.isdb_mmt.specs.Memory.Layout.{most_sections}
use Rattle.isdb_mmt.specs.Decoder.Packet.{Bytes}
use Rattle.isdb_mmt.specs.Decoder.Kept.{Table}
use Rattle.isdb_mmt.specs.declared.decoder.section.KeptSection.{KeptSection}
use Rattle.isdb_mmt.specs.declared.decoder.table_outcome.TableAction.{TableAction}
use Rattle.isdb_mmt.specs.declared.decoder.table_outcome.TableAction.TheVariants.{Nothing, Other, Mpt, Plt, Tot, Put}
use Rattle.isdb_mmt.specs.declared.decoder.table_outcome.TableOutcome.{TableOutcome}
use Rattle.isdb_mmt.specs.declared.decoder.walk.WalkState.{WalkState}
use Rattle.isdb_mmt.specs.Pushes.Placed.{Placed}
use Rattle.isdb_mmt.specs.Pushes.TableOutcome.{index_of, table_outcome}
use Rattle.isdb_mmt.specs.Pushes.PendingTables.{most_by_table, Logged, logged, with_log, places_of, PendingTables, pending_of, index_after, pending_after, pending_with, pending_with_all, Room, Copies, cut_short, WalkedTo, Applied, Walked}
use Rattle.isdb_mmt.proofs.Names.{true_not_false}
use Rattle.isdb_mmt.proofs.Applied.{log_places, room_marked, room_more}

-- ---- the index grows

after_mono : (es : List Logged) (z : TableAction) (f : ℕ) → length es ≤ length (index_after es z f)
after_mono es Nothing f = omega arith
after_mono es (Other id) f = omega arith
after_mono es (Mpt v n) f = omega arith
after_mono es (Plt v n) f = omega arith
after_mono es (Tot n) f = omega arith
after_mono es (Put i x) f =
    either (ltb i (length es)) (λ t. rw t (omega (arith, length-set es i (logged x f))))
    (λ t. rw t (omega (arith, length-append es (logged x f ∷ []))))

module _ (read : Bytes → Table) where
  pub mono : (xs : List Placed) (d : PendingTables) → length d.index ≤ length (pending_with_all read d xs).index
  unfolding pending_with_all
  mono [] d = omega arith
  mono (x ∷ xs) d =
      let t : TableOutcome = table_outcome (places_of d.index) d.mpt d.plt (read x.bytes) in
      omega (arith, after_mono d.index t.act (x.at + 1), mono xs (pending_with read d x))

  applied_append : (xs ys : List Placed) (d : PendingTables) → pending_with_all read d (xs ++ ys) ≡ pending_with_all read (pending_with_all read d xs) ys
  unfolding pending_with_all
  applied_append [] ys d = refl
  applied_append (x ∷ xs) ys d = applied_append xs ys (pending_with read d x)

  -- ---- no table, and a message or table that is cut short

  module _ (ix log others : List ℕ) (g : WalkState) (u : g.used ≤ most_sections) where
    pub none_walked : Walked read ix log others g [] 0 0 g ix log others
    unfolding pending_with_all
    none_walked =
        record {
          to = record { stays = λ y. y; over = λ y z. true_not_false g.full z y; now = λ y. (y, refl); used = u };
          room = λ most r. room_more g others most (most + 0 * most_by_table) (omega arith) r;
          bad = omega arith;
        }

    pub cut_walked : (r : WalkState) → r ≡ cut_short g → Walked read ix log others g [] 1 1 r ix log others
    unfolding pending_with_all
    cut_walked r er =
        rw er
        (record {
          to = record { stays = λ y. y; over = λ y z. true_not_false g.full z y; now = λ y. (y, refl); used = u };
          room = λ most r. room_marked g others _ _ most (most + 1 * most_by_table) (omega arith) (omega (arith, r.bad)) r;
          bad = refl;
        })

  -- one table
  pub one_walked : (ix log others : List ℕ) (g : WalkState) (x : Placed) (t : TableOutcome)
      → t ≡ table_outcome (index_of g.used ix) g.mpt g.plt (read x.bytes) → (r : WalkState) (ix' log' others' : List ℕ)
      → Applied ix log others g t (x.at + 1) r ix' log' others' → Walked read ix log others g (x ∷ []) 1 0 r ix' log' others'
  unfolding pending_with_all
  one_walked ix log others g x t et r ix' log' others' n =
      let e : t ≡ table_outcome (places_of (with_log (index_of g.used ix) log)) g.mpt g.plt (read x.bytes) =
      et ∙ ap (λ (ks : List KeptSection). table_outcome ks g.mpt g.plt (read x.bytes)) (sym (log_places (index_of g.used ix) log)) in
      record {
        to = subst (λ (z : TableOutcome). WalkedTo (pending_after (pending_of ix log others g) z (x.at + 1)) g r ix' log' others') e n.to;
        room = n.room;
        bad = omega (arith, n.bad);
      }

-- a walk in more bytes
pub walked_more : (read : Bytes → Table) (ix log others : List ℕ) (g : WalkState) (xs : List Placed) (n k : ℕ) (r : WalkState) (ix' log' others' : List ℕ)
    → Walked read ix log others g xs n k r ix' log' others' → (m : ℕ) → n ≤ m → Walked read ix log others g xs m k r ix' log' others'
walked_more read ix log others g xs n k r ix' log' others' w m h =
    record {
      to = w.to;
      room = λ most q. room_more r others' (most + n * most_by_table) (most + m * most_by_table) (omega arith) (w.room most q);
      bad = w.bad;
    }

-- ---- the loop: `rest` is still to be applied, and `left` is cut short in it

pub record Goes (read : Bytes → Table) (ix₀ log₀ others₀ : List ℕ) (g₀ : WalkState) (all : List Placed) (bads : ℕ) (ix log others : List ℕ) (g : WalkState) (rest : List Placed) (left n : ℕ) : Type 0 where
  pub copies : Copies ix log others g
  pub room : (most : ℕ) → Room g₀ others₀ most → Room g others (most + n * most_by_table)
  pub bad : g.message_malformed + left ≡ g₀.message_malformed + bads
  pub stays : g₀.full ≡ true → g.full ≡ true
  pub over : g₀.full ≡ false → g.full ≡ true → most_sections < length (pending_with_all read (pending_of ix₀ log₀ others₀ g₀) all).index
  pub now : g.full ≡ false → (g₀.full ≡ false) × (pending_with_all read (pending_of ix log others g) rest ≡ pending_with_all read (pending_of ix₀ log₀ others₀ g₀) all)

pub goes_start : (read : Bytes → Table) (ix log others : List ℕ) (g : WalkState) → Copies ix log others g → (all : List Placed) (bads n : ℕ)
    → Goes read ix log others g all bads ix log others g all bads n
goes_start read ix log others g c all bads n =
    record {
      copies = c;
      room = λ most r. room_more g others most (most + n * most_by_table) (omega arith) r;
      bad = refl;
      stays = λ y. y;
      over = λ y z. true_not_false g.full z y;
      now = λ y. (y, refl);
    }

module _ (read : Bytes → Table) (ix₀ log₀ others₀ : List ℕ) (g₀ : WalkState) (all : List Placed) (bads : ℕ) (ix log others : List ℕ) (g : WalkState)
    (rest : List Placed) (left n : ℕ) (go : Goes read ix₀ log₀ others₀ g₀ all bads ix log others g rest left n) where
  pub in_sequence_lem : (xs rest' : List Placed) → rest ≡ xs ++ rest' → (k left' : ℕ) → left ≡ k + left' → (c n' : ℕ) → n + c ≤ n'
      → (r : WalkState) (ix' log' others' : List ℕ) → Walked read ix log others g xs c k r ix' log' others'
      → length ix' ≡ length ix → length log' ≡ length log → length others' ≡ length others
      → Goes read ix₀ log₀ others₀ g₀ all bads ix' log' others' r rest' left' n'
  in_sequence_lem xs rest' er k left' el c n' h r ix' log' others' w li ll lo =
      let d : PendingTables = pending_of ix log others g in
      let D : PendingTables = pending_with_all read (pending_of ix₀ log₀ others₀ g₀) all in
      let step : g.full ≡ false → pending_with_all read (pending_with_all read d xs) rest' ≡ D =
      λ y. sym (applied_append read xs rest' d) ∙ ap (λ (zs : List Placed). pending_with_all read d zs) (sym er) ∙ (go.now y).1 in
      record {
        copies =
            record {
              index_long = li ∙ go.copies.index_long;
              log_long = ll ∙ go.copies.log_long;
              others_long = lo ∙ go.copies.others_long;
              used = w.to.used;
            };
        room =
            λ most q.
            room_more r others' (most + n * most_by_table + c * most_by_table) (most + n' * most_by_table) (omega arith)
            (w.room (most + n * most_by_table) (go.room most q));
        bad = omega (arith, w.bad, go.bad);
        stays = λ y. w.to.stays (go.stays y);
        over =
            λ y z.
            either g.full (λ v. go.over y v)
            (λ v.
            let m = mono read rest' (pending_with_all read d xs) in
            let o = w.to.over v z in
            let e : length (pending_with_all read (pending_with_all read d xs) rest').index ≡ length D.index = ap (λ (z : PendingTables). length z.index) (step v) in
            omega (arith, m, o, e));
        now =
            λ y.
            let q = w.to.now y in
            ((go.now q.0).0, ap (λ (z : PendingTables). pending_with_all read z rest') q.1 ∙ step q.0);
      }

  pub goes_end : rest ≡ [] → left ≡ 0 → (m : ℕ) → n ≤ m → Walked read ix₀ log₀ others₀ g₀ all m bads g ix log others
  unfolding pending_with_all
  goes_end er el m h =
      record {
        to =
            record {
              stays = go.stays;
              over = go.over;
              now = λ y. let q = go.now y in (q.0, sym (ap (λ (xs : List Placed). pending_with_all read (pending_of ix log others g) xs) er) ∙ q.1);
              used = go.copies.used;
            };
        room = λ most q. room_more g others (most + n * most_by_table) (most + m * most_by_table) (omega arith) (go.room most q);
        bad = omega (arith, go.bad);
      }

  -- what is left is cut short
  pub goes_cut : rest ≡ [] → left ≡ 1 → (m : ℕ) → n < m → (r : WalkState) → r ≡ cut_short g → Walked read ix₀ log₀ others₀ g₀ all m bads r ix log others
  unfolding pending_with_all
  goes_cut er el m h r e =
      let w = cut_walked read ix log others g go.copies.used r e in
      record {
        to =
            record {
              stays = λ y. w.to.stays (go.stays y);
              over = λ y z. either g.full (λ v. go.over y v) (λ v. true_not_false r.full z (ap (λ (x : WalkState). x.full) e ∙ v));
              now =
                  λ y.
                  let q = w.to.now y in
                  let p = go.now q.0 in
                  (p.0, q.1 ∙ sym (ap (λ (xs : List Placed). pending_with_all read (pending_of ix log others g) xs) er) ∙ p.1);
              used = w.to.used;
            };
        room =
            λ most q.
            room_more r others (most + n * most_by_table + 1 * most_by_table) (most + m * most_by_table) (omega arith) (w.room (most + n * most_by_table) (go.room most q));
        bad = omega (arith, w.bad, go.bad);
      }
