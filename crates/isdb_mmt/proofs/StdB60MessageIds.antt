-- What a sender that conforms to ARIB STD-B60 writes of messages is listed right: every message with its id and table ids. Assumes
-- nothing.
use Rattle.std.specs.Prelude.{Some}
use Rattle.std.proofs.Common.{◌≡◌, ℕ, ◌+◌, ◌-◌, ◌*◌, ◌^◌, ◌<◌, ◌≤◌, eqb, leb, List, [], ◌∷◌, ◌++◌, map, length, get_or, take, sym, refl, ◌∙◌, arith, length-append, get_or-drop, take_all, le-ltb, eq-eqb, ne_eqb, eqb-true, le-leb, leb-true}
use lib.ListN.{get_or-append}
use borrow.Author.Tests.{lt-leb, eqb-false}
use Rattle.isdb_tlv.specs.Bytes.{be}
use Rattle.isdb_tlv.specs.Walk.{also}
use Rattle.isdb_tlv.specs.Fields.{Field, field, written, Fit}
use Rattle.isdb_tlv.specs.Messages.{insert, insert_all, set_of, no_table_ids, listed_from, walked_from, pa_tables, pa_message, section_message}
use Rattle.isdb_tlv.specs.Messages.{message_of, message_in, prefixed_at, message_at, message_step, messages_from, messages_of}
use Rattle.isdb_tlv.specs.declared.mmtp.TableIds.{TableIds}
use Rattle.isdb_tlv.specs.declared.mmtp.MessageStep.TheVariants.{End, Found}
use Rattle.isdb_tlv.proofs.Guards.{either}
use Rattle.isdb_tlv.proofs.Fields.{be_one, length_written}
use Rattle.isdb_tlv.proofs.Messages.{insert_both, walked_next, walked_end, messages_at}
use Rattle.isdb_mmt.specs.Standards.StdB60Sections.{All}
use Rattle.isdb_mmt.proofs.BytesAt.{FoundAt, located_whole, located_part, located_drop, located_within, located_front, located_rest}
use Rattle.isdb_mmt.proofs.BytesAt.{field_read, first_read}
use Rattle.isdb_mmt.specs.Standards.StdB60Messages.{SentTable, table_fields, table_sent, tables_sent, list_fields, list_sent, pa_body, SentMessage}
use Rattle.isdb_mmt.specs.Standards.StdB60Messages.{pa, m2_section, ca, m2_short_section, one_table_sent, message_sent, TableConforming}
use Rattle.isdb_mmt.specs.Standards.StdB60Messages.{OneTableConforming, PaConforming, MessageConforming, table_ids, message_seen, single}
use Rattle.isdb_mmt.specs.Standards.StdB60Messages.{aggregated, Carried, aggregation_flag, length_bytes, aggregated_sent, SentContent}
use Rattle.isdb_mmt.specs.Standards.StdB60Messages.{carried_sent, Sized, CarriedConforming, carried_messages, ListedTheorem}
use Rattle.isdb_mmt.proofs.StdB60Messages.{table_length_lem, one_table_fields_lem, pa_body_lem, pa_count, pa_fields_lem, Payload, undivided}

-- the ids of the list
module _ {s : List ℕ} where
  listed_read : (at : ℕ) (ts : List SentTable) → All TableConforming ts → FoundAt s at (list_sent ts)
      → listed_from (length ts) s at ≡ table_ids ts
  listed_read at [] c h = refl
  listed_read at (t ∷ ts) c h =
      let front = located_front (written (list_fields t)) (list_sent ts) h in
      let within = located_within (written (list_fields t)) front in
      let size = length_written (list_fields t) in
      let a = c.0 in
      let id : get_or s at 0 ≡ t.id = be_one s at ∙ first_read (list_fields t) (omega arith) front in
      rw (lt-leb (length s) at (omega arith), id)
      (rw (listed_read (at + 4) ts c.1 (located_rest (written (list_fields t)) (list_sent ts) h size)))

  -- and those of the tables
  walked_read : (at : ℕ) (ts : List SentTable) (u : TableIds) → All TableConforming ts → FoundAt s at (tables_sent ts)
      → at + length (tables_sent ts) ≡ length s → insert_all (walked_from s at) u ≡ insert_all (table_ids ts) u
  walked_read at [] u c h e = rw (walked_end s at (omega arith))
  walked_read at (t ∷ ts) u c h e =
      let here = located_front (table_sent t) (tables_sent ts) h in
      let front = located_front (written (table_fields t)) t.content here in
      let within = located_within (table_sent t) here in
      let size = table_length_lem t in
      let a = c.0 in
      let fits : Fit (table_fields t) = omega arith in
      let id : get_or s at 0 ≡ t.id = be_one s at ∙ first_read (table_fields t) fits front in
      let len : be 2 s (at + 2) ≡ length t.content = field_read (table_fields t) fits front 2 in
      let next : at + length (table_sent t) ≡ at + 4 + length t.content = omega arith in
      let behind = located_rest (table_sent t) (tables_sent ts) h refl in
      let rest = walked_read (at + 4 + length t.content) ts (insert t.id u) c.1 (rw next at behind)
      (omega (arith, length-append (table_sent t) (tables_sent ts))) in
      sym (walked_next s at (length t.content) u (insert t.id u) (omega arith) (rw id) (sym len)) ∙ rest

-- a message
module _ (id v : ℕ) (t : List ℕ) (from : 0x8000 ≤ id) (to : id ≤ 0x8002) (c : OneTableConforming v t) where
  one_seen : message_of (one_table_sent id v t) ≡ Some (record { id = id; tables = set_of (get_or t 0 0 ∷ []) })
  unfolding message_of section_message
  one_seen =
      let m = one_table_sent id v t in
      let f = one_table_fields_lem id v t from to c in
      let long = f.long in
      let there = c.there in
      let first : get_or m 5 0 ≡ get_or t 0 0 =
      sym (get_or-drop 5 m 0 0) ∙ rw (located_drop t f.body) (get_or-append t f.body.behind 0 0 there) in
      rw (le-ltb (length m) 2 (omega arith), f.kind, ne_eqb id 0 (λ e. omega arith), le-ltb id 0x8000 from, le-leb id 0x8002 to)
      (rw (le-ltb (length m) 6 (omega arith), first))

module _ (v : ℕ) (ts : List SentTable) (c : PaConforming v ts) where
  pa_seen : message_of (message_sent (pa v ts)) ≡ Some (message_seen (pa v ts))
  unfolding message_of pa_message pa_tables set_of
  pa_seen =
      let m = message_sent (pa v ts) in
      let n = length (pa_body ts) in
      let ids = table_ids ts in
      let f = pa_fields_lem v ts c in
      let long = f.long in
      let b = pa_body_lem ts in
      let there = b.there in
      let count = pa_count ts c.few (located_whole (pa_body ts)) in
      let place : 1 + 4 * length ts ≡ length ts * 4 + 1 = omega arith in
      rw (le-ltb (length m) 2 (omega arith), f.kind, le-ltb (length m) 7 (omega arith), f.size)
      (rw (located_part (pa_body ts) f.body, ne_eqb n 0 (λ e. omega arith), count, place, listed_read 1 ts c.tables b.list)
      (rw (insert_both ids (walked_from (pa_body ts) (length ts * 4 + 1)) no_table_ids, insert_both ids ids no_table_ids)
      (rw (walked_read (length ts * 4 + 1) ts (insert_all ids no_table_ids) c.tables b.tables b.ends))))

message_seen_lem : (m : SentMessage) → MessageConforming m → message_of (message_sent m) ≡ Some (message_seen m)
message_seen_lem (pa v ts) c = pa_seen v ts c
message_seen_lem (m2_section v t) c = one_seen 0x8000 v t (omega arith) (omega arith) c
message_seen_lem (ca v t) c = one_seen 0x8001 v t (omega arith) (omega arith) c
message_seen_lem (m2_short_section v t) c = one_seen 0x8002 v t (omega arith) (omega arith) c

-- no message is shorter than its id
message_long : (m : SentMessage) → MessageConforming m → 2 ≤ length (message_sent m)
message_long (pa v ts) c = omega (arith, (pa_fields_lem v ts c).long)
message_long (m2_section v t) c = omega (arith, (one_table_fields_lem 0x8000 v t (omega arith) (omega arith) c).long)
message_long (ca v t) c = omega (arith, (one_table_fields_lem 0x8001 v t (omega arith) (omega arith) c).long)
message_long (m2_short_section v t) c = omega (arith, (one_table_fields_lem 0x8002 v t (omega arith) (omega arith) c).long)

-- an undivided payload
module _ {s : List ℕ} {c : SentContent} {b : List ℕ} (u : Payload s 0 c b) where
  -- where bytes are left there is a message
  step_at_lem : (at : ℕ) → 2 ≤ at → at < length s → message_step s at ≡ message_at s at
  unfolding message_step
  step_at_lem at from h =
      rw (le-ltb (length s) 2 (omega arith), u.division)
      (either (leb at 2)
      (λ e. let l = leb-true at 2 e in let d : at ≡ 2 = omega arith in rw d)
      (λ e. rw (e, lt-leb (length s) at h)))

  -- and behind the last none
  none_left : (at : ℕ) → 2 < at → length s ≤ at → messages_from s at ≡ Some []
  unfolding message_step
  none_left at from h =
      let end : message_step s at ≡ End =
      rw (le-ltb (length s) 2 (omega (arith, u.long)), u.division, lt-leb at 2 from, le-leb (length s) at h) in
      messages_at s at ∙ rw end

  -- one message
  single_listed : (m : SentMessage) → MessageConforming m → aggregation_flag c.carried ≡ 0 → b ≡ message_sent m
      → messages_of s ≡ Some (message_seen m ∷ [])
  unfolding messages_of message_at message_in
  single_listed m h flag e =
      let long = u.long in
      let size = message_long m h in
      let same : length b ≡ length (message_sent m) = rw e in
      let all : take (length s - 2) b ≡ b = take_all (length s - 2) b (omega arith) in
      let step : message_step s 2 ≡ Found (message_seen m) (length s) =
      step_at_lem 2 (omega arith) (omega arith) ∙ rw (u.several, flag, u.content, all, e, message_seen_lem m h) in
      messages_at s 2 ∙ rw (step, none_left (length s) (omega arith) (omega arith))

  -- aggregated messages, each behind its length
  module _ (flag : aggregation_flag c.carried ≡ 1) (bit : c.extension < 2) where
    abbrev w : ℕ
    w = length_bytes c.extension

    abbrev length_field : SentMessage → List Field
    length_field m = field w (length (message_sent m)) ∷ []

    prefixed : (at : ℕ) → message_at s at ≡ prefixed_at s at w
    unfolding message_at
    prefixed at =
        rw (u.several, flag, u.extended)
        (either (eqb c.extension 0)
        (λ e. let z = eqb-true c.extension 0 e in rw (e, ne_eqb c.extension 1 (λ o. omega arith)))
        (λ e. let z = eqb-false c.extension 0 e in rw (e, eq-eqb c.extension 1 (omega arith))))

    next_listed : (at : ℕ) (m : SentMessage) (r : List ℕ) → 2 ≤ at → MessageConforming m → length (message_sent m) < 256 ^ w
        → FoundAt s at (written (length_field m) ++ (message_sent m ++ r))
        → messages_from s at ≡ also (message_seen m) (messages_from s (at + w + length (message_sent m)))
    unfolding prefixed_at message_in
    next_listed at m r from h fits found =
        let n = length (message_sent m) in
        let size : length (written (length_field m)) ≡ w = rw (length_written (length_field m)) (omega arith) in
        let front = located_front (written (length_field m)) (message_sent m ++ r) found in
        let len : be w s at ≡ n = first_read (length_field m) (fits, tt) front in
        let here = located_front (message_sent m) r (located_rest (written (length_field m)) (message_sent m ++ r) found size) in
        let within = located_within (message_sent m) here in
        let long = message_long m h in
        let out : at + w + n - (at + w) ≡ n = omega arith in
        let step : message_step s at ≡ Found (message_seen m) (at + w + n) =
        step_at_lem at from (omega arith) ∙ prefixed at
        ∙ rw (le-ltb (length s - at) w (omega arith), len, le-ltb (length s - (at + w)) n (omega arith), out)
        (rw (located_part (message_sent m) here, message_seen_lem m h)) in
        messages_at s at ∙ rw step

    -- what follows it, and that it ends where all ends
    rest_located : (at : ℕ) (m : SentMessage) (r : List ℕ) → FoundAt s at (written (length_field m) ++ (message_sent m ++ r))
        → at + length (written (length_field m) ++ (message_sent m ++ r)) ≡ length s
        → FoundAt s (at + w + length (message_sent m)) r × (at + w + length (message_sent m) + length r ≡ length s)
    rest_located at m r found e =
        let size : length (written (length_field m)) ≡ w = rw (length_written (length_field m)) (omega arith) in
        let all = length-append (written (length_field m)) (message_sent m ++ r) in
        let both = length-append (message_sent m) r in
        (located_rest (message_sent m) r (located_rest (written (length_field m)) (message_sent m ++ r) found size) refl, omega arith)

    several_listed : (at : ℕ) (m : SentMessage) (ms : List SentMessage) → 2 ≤ at → All MessageConforming (m ∷ ms) → Sized w (m ∷ ms)
        → FoundAt s at (aggregated_sent w (m ∷ ms)) → at + length (aggregated_sent w (m ∷ ms)) ≡ length s
        → messages_from s at ≡ Some (map message_seen (m ∷ ms))
    several_listed at m [] from h fits found e =
        let r = rest_located at m [] found e in
        let long = message_long m h.0 in
        let end = none_left (at + w + length (message_sent m)) (omega arith) (omega (arith, r.1)) in
        next_listed at m [] from h.0 fits.0 found ∙ rw end
    several_listed at m (n ∷ ms) from h fits found e =
        let r = rest_located at m (aggregated_sent w (n ∷ ms)) found e in
        let on = several_listed (at + w + length (message_sent m)) n ms (omega arith) h.1 fits.1 r.0 r.1 in
        next_listed at m (aggregated_sent w (n ∷ ms)) from h.0 fits.0 found ∙ rw on

carried_listed : {s : List ℕ} (extension : ℕ) (x : Carried) → extension < 2 → CarriedConforming (length_bytes extension) x
    → Payload s 0 (record { extension = extension; carried = x }) (carried_sent (length_bytes extension) x)
    → messages_of s ≡ Some (map message_seen (carried_messages x))
unfolding messages_of
carried_listed extension (single m) bit h u = single_listed u m h refl refl
carried_listed extension (aggregated []) bit h u = absurd (omega arith)
carried_listed extension (aggregated (m ∷ ms)) bit h u =
    several_listed u refl bit 2 m ms (omega arith) h.0 h.1 u.body (omega (arith, u.long))

pub listed : ListedTheorem
listed p c =
    let x = p.content in
    record { messages = carried_listed x.extension x.carried c.content.extension c.content.carried (undivided p c) }
