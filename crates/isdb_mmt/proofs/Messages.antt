-- The tables of a joined message: one, those of a PA message's body, those of a message, and those of messages that are
-- aggregated. Assumes nothing.
use Rattle.std.proofs.Common.{◌≡◌, ℕ, ◌+◌, ◌-◌, ◌*◌, ◌<◌, ◌≤◌, min, Bool, true, false, List, [], ◌∷◌, ◌++◌, map, length, get_or, sym, ap, ◌∙◌, subst, zero-add, arith, length-append, w8, w64, Fits, ltb-false}
use Rattle.isdb_tlv.specs.Guards.{◌<?◌, ◌≤?◌, ◌=?◌}
use Rattle.isdb_tlv.specs.Bytes.{be}
use Rattle.isdb_tlv.specs.Walk.{turn}
use Rattle.isdb_tlv.proofs.Guards.{cond_elim}
use Rattle.isdb_tlv.proofs.Numbers.{be_lt}
use Rattle.isdb_mmt.specs.Memory.Layout.{most_message_area, most_table_area, most_count}
use Rattle.isdb_mmt.specs.Decoder.Packet.{Bytes}
use Rattle.isdb_mmt.specs.Formats.Part.{part_of}
use Rattle.isdb_mmt.specs.Formats.Message.{Aggregated, prefix_width, aggregated_at, aggregated_item, aggregated_from, content_of, pa_tables, section_table, body_part, table_at, table_item, tables_from}
use Rattle.isdb_mmt.specs.Decoder.Reassembly.{messages_of, parts_of, tables_in, tables_of, tables_of_all, cut_of}
use Rattle.isdb_mmt.specs.Decoder.Kept.{table_read}
use Rattle.isdb_mmt.specs.declared.part.Part.{Part}
use Rattle.isdb_mmt.specs.declared.message.Content.{Content}
use Rattle.isdb_mmt.specs.declared.message.Content.TheVariants.{Malformed as bad_message, Nothing as nothing, Table as one_table_of, Tables}
use Rattle.isdb_mmt.specs.Formats.Steps.{MessageStep}
use Rattle.isdb_mmt.specs.declared.walk_step.WalkStep.TheVariants.{End as no_more, Malformed as past_end, Entry as message_step}
use Rattle.isdb_mmt.specs.Formats.Steps.{TableStep}
use Rattle.isdb_mmt.specs.declared.walk_step.WalkStep.TheVariants.{End as no_more, Malformed as bad_table, Entry as table_step_of}
use Rattle.isdb_mmt.specs.declared.decoder.table_outcome.TableOutcome.{TableOutcome}
use Rattle.isdb_mmt.specs.declared.decoder.walk.WalkState.{WalkState}
use Rattle.isdb_mmt.specs.Pushes.Placed.{join_of, placed, placed_in, placed_of, placed_of_all, placed_from, malformed_from, placed_cut, behind}
use Rattle.isdb_mmt.specs.Pushes.TableOutcome.{index_of, table_outcome, CanDecide}
use Rattle.isdb_mmt.specs.Pushes.PendingTables.{most_by_table, most_before, Room, CanApply, cut_short, Applied, Walked, CanTake, CanWalk, in_body}
use Rattle.isdb_mmt.proofs.Places.{Lies}
use Rattle.isdb_mmt.proofs.AggregatedMessages.{width_ge, aggregated_lies, aggregated_at_lem, table_lies, tables_at}
use Rattle.isdb_mmt.proofs.TableOutcomes.{length_index}
use Rattle.isdb_mmt.proofs.Breaks.{small_told}
use Rattle.isdb_mmt.proofs.Amounts.{part_le}
use Rattle.isdb_mmt.proofs.Joined.{pieces, both_fit}
use Rattle.isdb_mmt.proofs.Walking.{none_walked, cut_walked, one_walked, walked_more, Goes, goes_start, in_sequence_lem, goes_end, goes_cut}
use Rattle.isdb_mmt.proofs.Applied.{room_more}

part_fits : (m : Bytes) → ((i : ℕ) → Fits w8 (get_or m i 0)) → (n : ℕ) → be 2 m n ≤ 65535
part_fits m h n = omega (arith, be_lt m h 2 n)

-- ---- one table

module _ (ix log others : List ℕ) (g : WalkState) (a b : Bytes) (p : Part) (from : ℕ) (can : CanTake ix log others g (a ++ b) p from) where
  module _ (q : Part) (eq : q ≡ behind (length a) p) (x y : Bytes) (ex : x ≡ part_of a p) (ey : y ≡ part_of b q) where
    whole : x ++ y ≡ part_of (a ++ b) p
    whole = rw (ex, ey, eq) (pieces a b p)

    pub table_tell : CanDecide ix g.used x y
    table_tell =
        let l : length x + length y ≡ length (part_of (a ++ b) p) = sym (length-append x y) ∙ ap length whole in
        record {
          few = can.copies.used;
          index_long = can.copies.index_long;
          short = omega (arith, part_le (a ++ b) p, can.few);
        }

    module _ (t : TableOutcome) (et : t ≡ table_outcome (index_of g.used ix) g.mpt g.plt (table_read (x ++ y))) where
      pub table_apply : CanApply ix log others g t
      table_apply =
          let l : length (x ++ y) ≤ most_message_area = rw whole (omega (arith, part_le (a ++ b) p, can.few)) in
          record {
            copies = can.copies;
            room = can.room;
            told = rw et (small_told (index_of g.used ix) g.used (length_index g.used ix) g.mpt g.plt (x ++ y) l);
          }

      pub table_walked : (r : WalkState) (ix' log' others' : List ℕ) → Applied ix log others g t (from + p.start + 1) r ix' log' others'
          → Walked table_read ix log others g (placed from (a ++ b) p ∷ []) 1 0 r ix' log' others'
      table_walked r ix' log' others' n =
          one_walked table_read ix log others g (placed from (a ++ b) p) t
          (et ∙ ap (λ (z : Bytes). table_outcome (index_of g.used ix) g.mpt g.plt (table_read z)) whole) r ix' log' others' n

-- ---- the tables of a body

abbrev FewIn : TableStep → Type 0
FewIn no_more = Unit {0}
FewIn bad_table = Unit {0}
FewIn (table_step_of q next) = q.length ≤ most_table_area

few_table : (m : Bytes) (p : ℕ) → ((i : ℕ) → Fits w8 (get_or m i 0)) → FewIn (table_at m p)
unfolding table_at
few_table m p h =
    cond_elim FewIn (length m - p <? 4) (λ e. tt) (λ e.
    cond_elim FewIn (length m - p <? be 2 m (p + 2) + 4) (λ e. tt) (λ e. omega (arith, part_fits m h (p + 2))))

pub record InTables (ix₀ log₀ others₀ : List ℕ) (g₀ : WalkState) (m : Bytes) (first from : ℕ) (ix log others : List ℕ) (g : WalkState) (p : ℕ) : Type 0 where
  pub goes : Goes table_read ix₀ log₀ others₀ g₀ (in_body m from first) (tables_from m first).malformed ix log others g (in_body m from p) (tables_from m p).malformed (min p (length m))
  pub can : CanWalk ix₀ log₀ others₀ g₀ m from (2 * most_count)

pub tables_start : (ix log others : List ℕ) (g : WalkState) (m : Bytes) (first from : ℕ) → CanWalk ix log others g m from (2 * most_count)
    → InTables ix log others g m first from ix log others g first
tables_start ix log others g m first from c =
    record {
      goes = goes_start table_read ix log others g c.copies (in_body m from first) (tables_from m first).malformed (min first (length m));
      can = c;
    }

module _ (ix₀ log₀ others₀ : List ℕ) (g₀ : WalkState) (m : Bytes) (first from : ℕ) (ix log others : List ℕ) (g : WalkState) (p : ℕ)
    (go : InTables ix₀ log₀ others₀ g₀ m first from ix log others g p) where
  pub tables_short : length m ≤ most_message_area
  tables_short = omega (arith, go.can.short)

  tables_room : Room g others most_before
  tables_room =
      room_more g others (2 * most_count + min p (length m) * most_by_table) most_before (omega (arith, go.can.short)) (go.goes.room (2 * most_count) go.can.room)

  pub tables_cut_can : g.message_malformed ≤ most_before
  tables_cut_can = tables_room.bad

  module _ (s : TableStep) (es : s ≡ table_at m p) where
    step : tables_from m p ≡ turn (tables_from m) (table_item s)
    step = tables_at m p ∙ ap (λ (z : TableStep). turn (tables_from m) (table_item z)) (sym es)

    module _ (z : TableStep) (e : s ≡ z) where
      step_of : tables_from m p ≡ turn (tables_from m) (table_item z)
      step_of = step ∙ ap (λ (z : TableStep). turn (tables_from m) (table_item z)) e

      rest_of : in_body m from p ≡ map (placed from m) (turn (tables_from m) (table_item z)).found
      rest_of = ap (λ (q : Aggregated). map (placed from m) q.found) step_of

      left_of_lem : (tables_from m p).malformed ≡ (turn (tables_from m) (table_item z)).malformed
      left_of_lem = ap (λ (q : Aggregated). q.malformed) step_of

    pub tables_end : s ≡ no_more → Walked table_read ix₀ log₀ others₀ g₀ (in_body m from first) (length m + 1) (tables_from m first).malformed g ix log others
    tables_end e =
        goes_end table_read ix₀ log₀ others₀ g₀ (in_body m from first) (tables_from m first).malformed ix log others g (in_body m from p)
        (tables_from m p).malformed (min p (length m)) go.goes (rest_of no_more e) (left_of_lem no_more e) (length m + 1) (omega arith)

    pub tables_cut : s ≡ bad_table → (r : WalkState) → r ≡ cut_short g
        → Walked table_read ix₀ log₀ others₀ g₀ (in_body m from first) (length m + 1) (tables_from m first).malformed r ix log others
    tables_cut e r er =
        goes_cut table_read ix₀ log₀ others₀ g₀ (in_body m from first) (tables_from m first).malformed ix log others g (in_body m from p)
        (tables_from m p).malformed (min p (length m)) go.goes (rest_of bad_table e) (left_of_lem bad_table e) (length m + 1) (omega arith) r er

    module _ (q : Part) (next : ℕ) (e : s ≡ table_step_of q next) where
      lies : Lies m p q next
      lies = table_lies m (sym es ∙ e)

      pub tables_less : length m - next < length m - p
      tables_less = omega (arith, lies.ahead, lies.within)

      pub tables_can : ((i : ℕ) → Fits w8 (get_or m i 0)) → CanTake ix log others g m q from
      tables_can h =
          record {
            copies = go.goes.copies;
            room = tables_room;
            lies = omega (arith, lies.within, lies.ends);
            few = subst FewIn (sym es ∙ e) (few_table m p h);
            short = go.can.short;
          }

      pub tables_on : (r : WalkState) (ix' log' others' : List ℕ)
          → Walked table_read ix log others g (placed from m q ∷ []) 1 0 r ix' log' others'
          → length ix' ≡ length ix → length log' ≡ length log → length others' ≡ length others
          → InTables ix₀ log₀ others₀ g₀ m first from ix' log' others' r next
      tables_on r ix' log' others' w li ll lo =
          record {
            goes =
                in_sequence_lem table_read ix₀ log₀ others₀ g₀ (in_body m from first) (tables_from m first).malformed ix log others g (in_body m from p)
                (tables_from m p).malformed (min p (length m)) go.goes (placed from m q ∷ []) (in_body m from next) (rest_of (table_step_of q next) e) 0
                (tables_from m next).malformed (left_of_lem (table_step_of q next) e ∙ sym (zero-add (tables_from m next).malformed)) 1 (min next (length m))
                (omega (arith, lies.ahead, lies.within)) r ix' log' others' w li ll lo;
            can = go.can;
          }

-- ---- one message

abbrev ContentIn : Bytes → Content → Type 0
ContentIn m bad_message = Unit {0}
ContentIn m nothing = Unit {0}
ContentIn m (one_table_of p) = (p.start + p.length ≤ length m) × (p.length ≤ most_table_area)
ContentIn m (Tables body k) = body.start + body.length ≤ length m

content_in : (m : Bytes) → ((i : ℕ) → Fits w8 (get_or m i 0)) → ContentIn m (content_of m)
unfolding content_of pa_tables section_table
content_in m h =
    cond_elim (ContentIn m) (length m <? 2) (λ e. tt) (λ e0.
    cond_elim (ContentIn m) (be 2 m 0 =? 0x0000)
    (λ e.
    cond_elim (ContentIn m) (length m <? 7) (λ e1. tt) (λ e1.
    cond_elim (ContentIn m) ((body_part m).length =? 0) (λ e2. tt) (λ e2.
    let k = ltb-false (length m) 7 e1 in
    cond_elim (λ (p : Part). p.start + p.length ≤ length m) (length m - 7 <? be 4 m 3) (λ e3. omega arith)
    (λ e3. let l = ltb-false (length m - 7) (be 4 m 3) e3 in omega arith))))
    (λ e1.
    cond_elim (ContentIn m) (be 2 m 0 <? 0x8000) (λ e. tt) (λ e2.
    cond_elim (ContentIn m) (be 2 m 0 ≤? 0x8002)
    (λ e.
    cond_elim (ContentIn m) (length m <? 5) (λ e3. tt) (λ e3.
    cond_elim (ContentIn m) (length m - 5 <? be 2 m 3) (λ e4. tt)
    (λ e4.
    let k = ltb-false (length m) 5 e3 in
    let l = ltb-false (length m - 5) (be 2 m 3) e4 in
    (omega arith, omega (arith, part_fits m h 3)))))
    (λ e3. tt))))

module _ (ix log others : List ℕ) (g : WalkState) (a b : Bytes) (from : ℕ) (can : CanWalk ix log others g (a ++ b) from (2 * most_count))
    (c : Content) (ec : c ≡ content_of (a ++ b)) where
  abbrev m : Bytes
  m = a ++ b

  as_placed : (z : Content) → c ≡ z → (n : ℕ) → n ≤ length m + 1 → (r : WalkState) (ix' log' others' : List ℕ)
      → Walked table_read ix log others g (placed_in from m z) n (tables_in m z).malformed r ix' log' others'
      → Walked table_read ix log others g (placed_of from m) (length m + 1) (tables_of m).malformed r ix' log' others'
  unfolding placed_of tables_of
  as_placed z e n h r ix' log' others' w =
      subst (λ (y : Content). Walked table_read ix log others g (placed_in from m y) (length m + 1) (tables_in m y).malformed r ix' log' others')
      (sym e ∙ ec) (walked_more table_read ix log others g (placed_in from m z) n (tables_in m z).malformed r ix' log' others' w (length m + 1) h)

  pub message_cut : c ≡ bad_message → (r : WalkState) → r ≡ cut_short g
      → Walked table_read ix log others g (placed_of from m) (length m + 1) (tables_of m).malformed r ix log others
  message_cut e r er = as_placed bad_message e 1 (omega arith) r ix log others (cut_walked table_read ix log others g can.copies.used r er)

  pub message_none : c ≡ nothing → Walked table_read ix log others g (placed_of from m) (length m + 1) (tables_of m).malformed g ix log others
  message_none e = as_placed nothing e 0 (omega arith) g ix log others (none_walked table_read ix log others g can.copies.used)

  module _ (p : Part) (e : c ≡ one_table_of p) where
    pub message_table_can : ((i : ℕ) → Fits w8 (get_or a i 0)) → ((i : ℕ) → Fits w8 (get_or b i 0)) → CanTake ix log others g m p from
    message_table_can ha hb =
        let q : ContentIn m (one_table_of p) = subst (ContentIn m) (sym ec ∙ e) (content_in m (both_fit a b ha hb)) in
        record {
          copies = can.copies;
          room = room_more g others (2 * most_count) most_before (omega arith) can.room;
          lies = q.0;
          few = q.1;
          short = can.short;
        }

    pub message_table : (r : WalkState) (ix' log' others' : List ℕ) → Walked table_read ix log others g (placed from m p ∷ []) 1 0 r ix' log' others'
        → Walked table_read ix log others g (placed_of from m) (length m + 1) (tables_of m).malformed r ix' log' others'
    message_table r ix' log' others' w = as_placed (one_table_of p) e 1 (omega arith) r ix' log' others' w

  module _ (body : Part) (first : ℕ) (e : c ≡ Tables body first) (ha : (i : ℕ) → Fits w8 (get_or a i 0)) (hb : (i : ℕ) → Fits w8 (get_or b i 0)) where
    body_in : body.start + body.length ≤ length m
    body_in = subst (ContentIn m) (sym ec ∙ e) (content_in m (both_fit a b ha hb))

    pub message_body_adds : Fits w64 (from + body.start)
    message_body_adds = omega (arith, body_in, can.short)

    module _ (q : Part) (eq : q ≡ behind (length a) body) (x y : Bytes) (ex : x ≡ part_of a body) (ey : y ≡ part_of b q) where
      body_whole : x ++ y ≡ part_of m body
      body_whole = rw (ex, ey, eq) (pieces a b body)

      pub message_body_can : CanWalk ix log others g (x ++ y) (from + body.start) (2 * most_count)
      message_body_can =
          record {
            copies = can.copies;
            room = can.room;
            short = rw body_whole (omega (arith, part_le m body, body_in, can.short));
          }

      pub message_body : (r : WalkState) (ix' log' others' : List ℕ)
          → Walked table_read ix log others g (in_body (x ++ y) (from + body.start) first) (length (x ++ y) + 1) (tables_from (x ++ y) first).malformed r ix' log' others'
          → Walked table_read ix log others g (placed_of from m) (length m + 1) (tables_of m).malformed r ix' log' others'
      message_body r ix' log' others' w =
          as_placed (Tables body first) e (length (x ++ y) + 1) (rw body_whole (omega (arith, part_le m body, body_in))) r ix' log' others'
          (subst (λ (z : Bytes). Walked table_read ix log others g (in_body z (from + body.start) first) (length (x ++ y) + 1) (tables_from z first).malformed r ix' log' others')
          body_whole w)

-- ---- messages that are aggregated

-- a length stands before each
abbrev BehindIn : ℕ → MessageStep → Type 0
BehindIn p no_more = Unit {0}
BehindIn p past_end = Unit {0}
BehindIn p (message_step q next) = p + 2 ≤ q.start

aggregated_starts : (m : Bytes) (long : Bool) (p : ℕ) → BehindIn p (aggregated_at m long p)
unfolding aggregated_at
aggregated_starts m long p =
    cond_elim (BehindIn p) (length m - p <? prefix_width long) (λ e. tt) (λ e.
    cond_elim (BehindIn p) (length m - (p + prefix_width long) <? be (prefix_width long) m p) (λ e. tt) (λ e. omega (arith, width_ge long)))

pub record InMessages (ix₀ log₀ others₀ : List ℕ) (g₀ : WalkState) (m : Bytes) (long : Bool) (ix log others : List ℕ) (g : WalkState) (p : ℕ) : Type 0 where
  pub goes : Goes table_read ix₀ log₀ others₀ g₀ (placed_from m long 0) (malformed_from m long 0) ix log others g (placed_from m long p) (malformed_from m long p) (min p (length m))
  pub can : CanWalk ix₀ log₀ others₀ g₀ m 0 most_count

pub messages_start : (ix log others : List ℕ) (g : WalkState) (m : Bytes) (long : Bool) → CanWalk ix log others g m 0 most_count
    → InMessages ix log others g m long ix log others g 0
messages_start ix log others g m long c =
    record {
      goes = goes_start table_read ix log others g c.copies (placed_from m long 0) (malformed_from m long 0) (min 0 (length m));
      can = c;
    }

module _ (ix₀ log₀ others₀ : List ℕ) (g₀ : WalkState) (a b : Bytes) (long : Bool) (ix log others : List ℕ) (g : WalkState) (p : ℕ)
    (go : InMessages ix₀ log₀ others₀ g₀ (a ++ b) long ix log others g p) where
  abbrev all : Bytes
  all = a ++ b

  pub messages_short : length all ≤ most_message_area
  messages_short = omega (arith, go.can.short)

  messages_room : Room g others (2 * most_count)
  messages_room =
      room_more g others (most_count + min p (length all) * most_by_table) (2 * most_count) (omega (arith, go.can.short)) (go.goes.room most_count go.can.room)

  pub messages_cut_can : g.message_malformed ≤ most_before
  messages_cut_can = omega (arith, messages_room.bad)

  module _ (s : MessageStep) (es : s ≡ aggregated_at all long p) (z : MessageStep) (e : s ≡ z) where
    aggregated_of : aggregated_from all long p ≡ turn (aggregated_from all long) (aggregated_item z)
    aggregated_of = aggregated_at_lem all long p ∙ ap (λ (z : MessageStep). turn (aggregated_from all long) (aggregated_item z)) (sym es ∙ e)

    aggregated_rest : placed_from all long p ≡ placed_of_all all (turn (aggregated_from all long) (aggregated_item z)).found
    aggregated_rest = ap (λ (q : Aggregated). placed_of_all all q.found) aggregated_of

    aggregated_left : malformed_from all long p
        ≡ (turn (aggregated_from all long) (aggregated_item z)).malformed + (tables_of_all (parts_of all (turn (aggregated_from all long) (aggregated_item z)).found)).malformed
    aggregated_left = ap (λ (q : Aggregated). q.malformed + (tables_of_all (parts_of all q.found)).malformed) aggregated_of

  module _ (s : MessageStep) (es : s ≡ aggregated_at all long p) where
    pub messages_end : s ≡ no_more → Walked table_read ix₀ log₀ others₀ g₀ (placed_from all long 0) (length all + 1) (malformed_from all long 0) g ix log others
    unfolding placed_of_all tables_of_all
    messages_end e =
        goes_end table_read ix₀ log₀ others₀ g₀ (placed_from all long 0) (malformed_from all long 0) ix log others g (placed_from all long p)
        (malformed_from all long p) (min p (length all)) go.goes (aggregated_rest s es no_more e) (aggregated_left s es no_more e) (length all + 1) (omega arith)

    pub messages_cut : s ≡ past_end → (r : WalkState) → r ≡ cut_short g
        → Walked table_read ix₀ log₀ others₀ g₀ (placed_from all long 0) (length all + 1) (malformed_from all long 0) r ix log others
    unfolding placed_of_all tables_of_all
    messages_cut e r er =
        goes_cut table_read ix₀ log₀ others₀ g₀ (placed_from all long 0) (malformed_from all long 0) ix log others g (placed_from all long p)
        (malformed_from all long p) (min p (length all)) go.goes (aggregated_rest s es past_end e) (aggregated_left s es past_end e) (length all + 1) (omega arith) r er

    module _ (q : Part) (next : ℕ) (e : s ≡ message_step q next) where
      aggregated_in_lem : Lies all p q next
      aggregated_in_lem = aggregated_lies all long (sym es ∙ e)

      pub messages_less : length all - next < length all - p
      messages_less = omega (arith, aggregated_in_lem.ahead, aggregated_in_lem.within)

      aggregated_behind : p + 2 ≤ q.start
      aggregated_behind = subst (BehindIn p) (sym es ∙ e) (aggregated_starts all long p)

      module _ (d : Part) (ed : d ≡ behind (length a) q) (x y : Bytes) (ex : x ≡ part_of a q) (ey : y ≡ part_of b d) where
        aggregated_whole : x ++ y ≡ part_of all q
        aggregated_whole = rw (ex, ey, ed) (pieces a b q)

        pub messages_can : CanWalk ix log others g (x ++ y) q.start (2 * most_count)
        messages_can =
            record {
              copies = go.goes.copies;
              room = messages_room;
              short = rw aggregated_whole (omega (arith, part_le all q, aggregated_in_lem.within, aggregated_in_lem.ends, go.can.short));
            }

        pub messages_on : (r : WalkState) (ix' log' others' : List ℕ)
            → Walked table_read ix log others g (placed_of q.start (x ++ y)) (length (x ++ y) + 1) (tables_of (x ++ y)).malformed r ix' log' others'
            → length ix' ≡ length ix → length log' ≡ length log → length others' ≡ length others
            → InMessages ix₀ log₀ others₀ g₀ all long ix' log' others' r next
        unfolding placed_of_all tables_of_all
        messages_on r ix' log' others' w li ll lo =
            let w' : Walked table_read ix log others g (placed_of q.start (part_of all q)) (length (x ++ y) + 1) (tables_of (part_of all q)).malformed r ix' log' others' =
            subst (λ (z : Bytes). Walked table_read ix log others g (placed_of q.start z) (length (x ++ y) + 1) (tables_of z).malformed r ix' log' others') aggregated_whole w in
            let n : length (x ++ y) ≤ q.length = rw aggregated_whole (part_le all q) in
            record {
              goes =
                  in_sequence_lem table_read ix₀ log₀ others₀ g₀ (placed_from all long 0) (malformed_from all long 0) ix log others g (placed_from all long p)
                  (malformed_from all long p) (min p (length all)) go.goes (placed_of q.start (part_of all q)) (placed_from all long next)
                  (aggregated_rest s es (message_step q next) e) (tables_of (part_of all q)).malformed (malformed_from all long next)
                  (aggregated_left s es (message_step q next) e
                  ∙ swap (aggregated_from all long next).malformed (tables_of (part_of all q)).malformed (tables_of_all (parts_of all (aggregated_from all long next).found)).malformed)
                  (length (x ++ y) + 1) (min next (length all)) (omega (arith, n, aggregated_behind, aggregated_in_lem.within, aggregated_in_lem.ends)) r ix' log' others' w' li ll lo;
              can = go.can;
            }
          where
            swap : (i j k : ℕ) → i + (j + k) ≡ j + (i + k)
            swap i j k = omega arith

-- ---- joined data

module _ (ix log others : List ℕ) (g : WalkState) (m : Bytes) (long : Bool) (can : CanWalk ix log others g m 0 most_count) where
  pub joined_can : CanWalk ix log others g m 0 (2 * most_count)
  joined_can =
      record {
        copies = can.copies;
        room = room_more g others most_count (2 * most_count) (omega arith) can.room;
        short = can.short;
      }

  module _ (aggregated : Bool) (r : WalkState) (ix' log' others' : List ℕ) where
    abbrev whole_cut : Type 0
    whole_cut = Walked table_read ix log others g (placed_cut (join_of long aggregated m)) (length m + 1) (cut_of (join_of long aggregated m)).malformed r ix' log' others'

    pub joined_many : aggregated ≡ true → Walked table_read ix log others g (placed_from m long 0) (length m + 1) (malformed_from m long 0) r ix' log' others' → whole_cut
    unfolding placed_cut cut_of messages_of
    joined_many e w = rw e w

    pub joined_one : aggregated ≡ false → Walked table_read ix log others g (placed_of 0 m) (length m + 1) (tables_of m).malformed r ix' log' others' → whole_cut
    unfolding placed_cut cut_of
    joined_one e w = rw e w
