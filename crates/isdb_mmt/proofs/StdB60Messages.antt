-- What a sender that conforms to ARIB STD-B60 writes of control payloads and messages is read right. Assumes nothing.
use Rattle.std.specs.Prelude.{Option, None, Some}
use Rattle.std.proofs.Common.{◌≡◌, ℕ, ◌+◌, ◌-◌, ◌*◌, ◌/◌, ◌%◌, ◌^◌, ◌<◌, ◌≤◌, Bool, false, List, [], ◌∷◌, ◌++◌, map, length, get_or, drop, refl, ap, ◌∙◌, ap₂, append_assoc, append-nil, add-zero, zero-add, arith, length-append, drop_at, le-ltb, lt-ltb, eq-eqb, ne_eqb, le-leb}
use Rattle.isdb_tlv.specs.Guards.{◌=?◌}
use Rattle.isdb_tlv.specs.Bytes.{be}
use Rattle.isdb_tlv.specs.Fields.{bytes_of, Field, field, written, Fit}
use Rattle.isdb_tlv.proofs.Fields.{be_one, length_written}
use Rattle.isdb_mmt.specs.Formats.Part.{part_at, part_of}
use Rattle.isdb_mmt.specs.Formats.Message.{division_of, prefix_width, aggregated_at, aggregated_from, pa_tables, section_table, content_of}
use Rattle.isdb_mmt.specs.Formats.Message.{table_at, tables_from, Aggregated}
use Rattle.isdb_mmt.specs.Decoder.Packet.{MessagePacket, message_packet}
use Rattle.isdb_mmt.specs.Decoder.Reassembly.{PartialMessage, Reassembly, short, part_before, joined_on, part_after, whole_of}
use Rattle.isdb_mmt.specs.Decoder.Reassembly.{reassembly_after, message_completed, orphan, oversize, tables_of, tables_of_all, messages_of}
use Rattle.isdb_mmt.specs.Decoder.Reassembly.{cut_of, cut_of_all}
use Rattle.isdb_mmt.specs.Decoder.GivenTables.{tables_given}
use Rattle.isdb_mmt.specs.Decoder.Objects.{gap}
use Rattle.isdb_mmt.specs.Formats.Mpu.{follows}
use Rattle.isdb_mmt.specs.Standards.StdB60Sections.{All}
use Rattle.isdb_mmt.specs.declared.walk_step.WalkStep.TheVariants.{End, Entry as Message}
use Rattle.isdb_mmt.specs.declared.walk_step.WalkStep.TheVariants.{End as no_more, Entry as table}
use Rattle.isdb_mmt.proofs.AggregatedMessages.{width_ge, aggregated_at_lem, tables_at}
use Rattle.isdb_mmt.proofs.BytesAt.{FoundAt, located_whole, located_first, located_last, located_part, located_within, located_front}
use Rattle.isdb_mmt.proofs.BytesAt.{located_rest, field_read, first_read, byte_read}
use Rattle.isdb_mmt.specs.Standards.StdB60Messages.{SentTable, table_fields, table_sent, tables_sent, list_fields, list_sent, pa_body, SentMessage}
use Rattle.isdb_mmt.specs.Standards.StdB60Messages.{pa, m2_section, ca, m2_short_section, pa_fields, one_table_fields, one_table_sent, message_sent}
use Rattle.isdb_mmt.specs.Standards.StdB60Messages.{TableConforming, OneTableConforming, PaConforming, MessageConforming, tables_of_messages}
use Rattle.isdb_mmt.specs.Standards.StdB60Messages.{all_read_of, MessageTheorem, single, aggregated, Carried, carried_messages, aggregation_flag}
use Rattle.isdb_mmt.specs.Standards.StdB60Messages.{length_bytes, aggregated_sent, SentContent, content_sent, control_fields, SentControl}
use Rattle.isdb_mmt.specs.Standards.StdB60Messages.{control_sent, Sized, CarriedConforming, ControlConforming, content_seen, ContentTheorem}
use Rattle.isdb_mmt.specs.Standards.StdB60Messages.{ControlTheorem, SentPart, part_sent, number_behind_of, rest_sent, rest_bytes, PartConforming}
use Rattle.isdb_mmt.specs.Standards.StdB60Messages.{Joined, joined_by, DividedTheorem, undivided_witness, undivided_bytes, aggregated_witness}
use Rattle.isdb_mmt.specs.Standards.StdB60Messages.{aggregated_bytes, Witness, divided_witness, divided_packets, DividedWitness}

-- a table that stands at `at`
pub table_length_lem : (t : SentTable) → length (table_sent t) ≡ length t.content + 4
table_length_lem t = rw (length-append, length_written (table_fields t)) (omega arith)

module _ {s : List ℕ} {at : ℕ} (t : SentTable) (c : TableConforming t) (h : FoundAt s at (table_sent t)) where
  table_step : table_at s at ≡ table (part_at at (length (table_sent t))) (at + length (table_sent t))
  unfolding table_at
  table_step =
      let within = located_within (table_sent t) h in
      let fits : Fit (table_fields t) = omega arith in
      let front = located_front (written (table_fields t)) t.content h in
      let len : be 2 s (at + 2) ≡ length t.content = field_read (table_fields t) fits front 2 in
      let size = table_length_lem t in
      rw (size, le-ltb (length s - at) 4 (omega arith), len, le-ltb (length s - at) (length t.content + 4) (omega arith))

-- parts one behind another, all of them found
pub record PartsAt (s : List ℕ) (bs : List (List ℕ)) (r : Aggregated) : Type 0 where
  pub found : map (part_of s) r.found ≡ bs
  pub none_bad : r.malformed ≡ 0

tables_read : (s : List ℕ) (at : ℕ) (ts : List SentTable) → All TableConforming ts → FoundAt s at (tables_sent ts)
    → at + length (tables_sent ts) ≡ length s → PartsAt s (map table_sent ts) (tables_from s at)
unfolding table_at
tables_read s at [] c h e =
    let end : table_at s at ≡ no_more = rw (lt-ltb (length s - at) 4 (omega arith)) in
    rw (tables_at s at, end) (record { found = refl; none_bad = refl })
tables_read s at (t ∷ ts) c h e =
    let here = located_front (table_sent t) (tables_sent ts) h in
    let r = tables_read s (at + length (table_sent t)) ts c.1 (located_rest (table_sent t) (tables_sent ts) h refl)
    (omega (arith, length-append (table_sent t) (tables_sent ts))) in
    rw (tables_at s at, table_step t c.0 here)
    (record { found = ap₂ ◌∷◌ (located_part (table_sent t) here) r.found; none_bad = r.none_bad })

-- the list before the tables
pub list_length : (ts : List SentTable) → length (list_sent ts) ≡ length ts * 4
list_length [] = refl
list_length (t ∷ ts) =
    rw (length-append (written (list_fields t)) (list_sent ts), length_written (list_fields t), list_length ts) (omega arith)

-- M2 section, CA and M2 short section message: its fields, and the table behind them
pub record OneTable (m : List ℕ) (id : ℕ) (t : List ℕ) : Type 0 where
  pub long : length m ≡ 5 + length t
  pub kind : be 2 m 0 ≡ id
  pub size : be 2 m 3 ≡ length t
  pub body : FoundAt m 5 t

module _ (id v : ℕ) (t : List ℕ) (from : 0x8000 ≤ id) (to : id ≤ 0x8002) (c : OneTableConforming v t) where
  pub one_table_fields_lem : OneTable (one_table_sent id v t) id t
  one_table_fields_lem =
      let fs = one_table_fields id v t in
      let all = located_whole (one_table_sent id v t) in
      let front = located_front (written fs) t all in
      let fit : Fit fs = omega arith in
      record {
        long = rw (length-append (written fs) t, length_written fs);
        kind = first_read fs fit front;
        size = field_read fs fit front 2;
        body = located_rest (written fs) t all (length_written fs);
      }

  one_table : tables_of (one_table_sent id v t) ≡ all_read_of (t ∷ [])
  unfolding tables_of content_of section_table
  one_table =
      let m = one_table_sent id v t in
      let f = one_table_fields_lem in
      let long = f.long in
      rw (le-ltb (length m) 2 (omega arith), f.kind, ne_eqb id 0 (λ e. omega arith), le-ltb id 0x8000 from, le-leb id 0x8002 to)
      (rw (le-ltb (length m) 5 (omega arith), f.size, le-ltb (length m - 5) (length t) (omega arith), located_part t f.body))

-- PA message: its fields, and the body behind them
abbrev pub count_field : List SentTable → List Field
count_field ts = field 1 (length ts) ∷ []

pub record PaMessage (m : List ℕ) (ts : List SentTable) : Type 0 where
  pub long : length m ≡ 7 + length (pa_body ts)
  pub kind : be 2 m 0 ≡ 0
  pub size : be 4 m 3 ≡ length (pa_body ts)
  pub body : FoundAt m 7 (pa_body ts)

-- its body: the number of tables, the list, and the tables
pub record PaBody (ts : List SentTable) : Type 0 where
  pub there : 1 ≤ length (pa_body ts)
  pub list : FoundAt (pa_body ts) 1 (list_sent ts)
  pub tables : FoundAt (pa_body ts) (length ts * 4 + 1) (tables_sent ts)
  pub ends : length ts * 4 + 1 + length (tables_sent ts) ≡ length (pa_body ts)

pub pa_body_lem : (ts : List SentTable) → PaBody ts
pa_body_lem ts =
    let n = written (count_field ts) in
    let r = list_sent ts ++ tables_sent ts in
    let place : 1 + length ts * 4 ≡ length ts * 4 + 1 = omega arith in
    let rest = located_rest n r (located_whole (pa_body ts)) (length_written (count_field ts)) in
    let size : length (pa_body ts) ≡ 1 + length r = rw (length-append n r, length_written (count_field ts)) in
    let both = length-append (list_sent ts) (tables_sent ts) in
    let list = list_length ts in
    record {
      there = omega arith;
      list = located_front (list_sent ts) (tables_sent ts) rest;
      tables = rw place at (located_rest (list_sent ts) (tables_sent ts) rest (list_length ts));
      ends = omega arith;
    }

-- the number of tables, where the body stands
pub pa_count : {m : List ℕ} {at : ℕ} (ts : List SentTable) → length ts < 2 ^ 8 → FoundAt m at (pa_body ts) → get_or m at 0 ≡ length ts
pa_count {m} {at} ts few h =
    be_one m at ∙ first_read (count_field ts) (few, tt) (located_front (written (count_field ts)) (list_sent ts ++ tables_sent ts) h)

module _ (v : ℕ) (ts : List SentTable) (c : PaConforming v ts) where
  pub pa_fields_lem : PaMessage (message_sent (pa v ts)) ts
  pa_fields_lem =
      let fs = pa_fields v ts in
      let all = located_whole (message_sent (pa v ts)) in
      let front = located_front (written fs) (pa_body ts) all in
      let fit : Fit fs = omega arith in
      record {
        long = rw (length-append (written fs) (pa_body ts), length_written fs);
        kind = first_read fs fit front;
        size = field_read fs fit front 2;
        body = located_rest (written fs) (pa_body ts) all (length_written fs);
      }

  pa_read : tables_of (message_sent (pa v ts)) ≡ all_read_of (map table_sent ts)
  unfolding tables_of content_of pa_tables
  pa_read =
      let m = message_sent (pa v ts) in
      let n = length (pa_body ts) in
      let f = pa_fields_lem in
      let long = f.long in
      let b = pa_body_lem ts in
      let there = b.there in
      let r = tables_read (pa_body ts) (length ts * 4 + 1) ts c.tables b.tables b.ends in
      rw (le-ltb (length m) 2 (omega arith), f.kind, le-ltb (length m) 7 (omega arith), f.size)
      (rw (le-ltb (length m - 7) n (omega arith), ne_eqb n 0 (λ e. omega arith), pa_count ts c.few f.body)
      (rw (located_part (pa_body ts) f.body, r.found, r.none_bad)))

pub messages : MessageTheorem
messages (pa v ts) c = record { tables = pa_read v ts c }
messages (m2_section v t) c = record { tables = one_table 0x8000 v t (omega arith) (omega arith) c }
messages (ca v t) c = record { tables = one_table 0x8001 v t (omega arith) (omega arith) c }
messages (m2_short_section v t) c = record { tables = one_table 0x8002 v t (omega arith) (omega arith) c }

-- aggregated messages, each behind its length
module _ (s : List ℕ) (long : Bool) where
  abbrev length_field : SentMessage → List Field
  length_field m = field (prefix_width long) (length (message_sent m)) ∷ []

  aggregated_read : (at : ℕ) (ms : List SentMessage) → Sized (prefix_width long) ms → FoundAt s at (aggregated_sent (prefix_width long) ms)
      → at + length (aggregated_sent (prefix_width long) ms) ≡ length s → PartsAt s (map message_sent ms) (aggregated_from s long at)
  unfolding aggregated_at
  aggregated_read at [] c h e =
      let end : aggregated_at s long at ≡ End = rw (lt-ltb (length s - at) (prefix_width long) (omega (arith, width_ge long))) in
      rw (aggregated_at_lem s long at, end) (record { found = refl; none_bad = refl })
  aggregated_read at (m ∷ ms) c h e =
      let w = prefix_width long in
      let n = length (message_sent m) in
      let rest = aggregated_sent w ms in
      let front = located_front (written (length_field m)) (message_sent m ++ rest) h in
      let len : be w s at ≡ n = first_read (length_field m) (c.0, tt) front in
      let size : length (written (length_field m)) ≡ w = rw (length_written (length_field m)) (omega arith) in
      let body = located_rest (written (length_field m)) (message_sent m ++ rest) h size in
      let here = located_front (message_sent m) rest body in
      let all = length-append (written (length_field m)) (message_sent m ++ rest) in
      let both = length-append (message_sent m) rest in
      let step : aggregated_at s long at ≡ Message (part_at (at + w) n) (at + w + n) =
      rw (le-ltb (length s - at) w (omega arith), len, le-ltb (length s - (at + w)) n (omega arith)) in
      let r = aggregated_read (at + w + n) ms c.1 (located_rest (message_sent m) rest body refl) (omega arith) in
      rw (aggregated_at_lem s long at, step)
      (record { found = ap₂ ◌∷◌ (located_part (message_sent m) here) r.found; none_bad = r.none_bad })

tables_of_all_lem : (ms : List SentMessage) → All MessageConforming ms → tables_of_all (map message_sent ms) ≡ all_read_of (tables_of_messages ms)
unfolding tables_of_all
tables_of_all_lem [] c = refl
tables_of_all_lem (m ∷ ms) c = rw ((messages m c.0).tables, tables_of_all_lem ms c.1)

carried_read : (extension : ℕ) (x : Carried) → CarriedConforming (length_bytes extension) x
    → cut_of (content_seen (record { extension = extension; carried = x })) ≡ all_read_of (tables_of_messages (carried_messages x))
unfolding cut_of messages_of
carried_read extension (single m) c = rw append-nil (messages m c).tables
carried_read extension (aggregated ms) c =
    let b = aggregated_sent (length_bytes extension) ms in
    let r = aggregated_read b (extension =? 1) 0 ms c.1 (located_whole b) (omega arith) in
    rw (r.found, r.none_bad, tables_of_all_lem ms c.0)

pub contents : ContentTheorem
contents c h = record { tables = carried_read c.extension c.carried h.carried }

-- a payload's header and what stands behind it
flag_fits : (x : Carried) → aggregation_flag x < 2
flag_fits (single m) = omega arith
flag_fits (aggregated ms) = omega arith

pub record Payload (s : List ℕ) (d : ℕ) (c : SentContent) (b : List ℕ) : Type 0 where
  pub division : get_or s 0 0 / 64 ≡ d
  pub extended : get_or s 0 0 / 2 % 2 ≡ c.extension
  pub several : get_or s 0 0 % 2 ≡ aggregation_flag c.carried
  pub long : length s ≡ 2 + length b
  pub body : FoundAt s 2 b
  pub content : drop 2 s ≡ b

payload_read : (d reserved : ℕ) (c : SentContent) (counter : ℕ) (b : List ℕ)
    → d < 2 ^ 2 → reserved < 2 ^ 4 → c.extension < 2 → counter < 2 ^ 8
    → Payload (written (control_fields d reserved c counter) ++ b) d c b
payload_read d reserved c counter b index fits flag small =
    let fs = control_fields d reserved c counter in
    let flag2 = flag_fits c.carried in
    let fit : Fit fs = omega arith in
    let byte = byte_read fs fit (located_first (written fs) b) 0 refl in
    record {
      division = rw byte (omega arith);
      extended = rw byte (omega arith);
      several = rw byte (omega arith);
      long = rw (length-append (written fs) b, length_written fs);
      body = located_last (written fs) b (length_written fs);
      content = drop_at (written fs) b 2 (length_written fs);
    }

-- after the packet with the number `n` nothing is being joined
abbrev nothing_left : ℕ → Reassembly
nothing_left n = record { number = Some n; partial = None }

-- what a packet does
record Does (l : Reassembly) (x : MessagePacket) (o : Option PartialMessage) (l' : Reassembly) : Type 0 where
  whole : message_completed l x ≡ o
  orphans : orphan l x ≡ false
  oversizes : oversize l x ≡ false
  shorts : short x ≡ false
  after : reassembly_after l x ≡ l'

-- one that makes a message whole
abbrev joined_as : PartialMessage → ℕ → Joined
joined_as j n =
    record {
      messages = j ∷ [];
      tables = (cut_of j).tables;
      orphans = 0;
      oversizes = 0;
      malformed = (cut_of j).malformed;
      left = nothing_left n;
    }

whole_joined : {l : Reassembly} {x : MessagePacket} {j : PartialMessage} {n : ℕ} → Does l x (Some j) (nothing_left n)
    → joined_by l (x ∷ []) ≡ joined_as j n
unfolding cut_of_all
whole_joined e = rw (e.whole, e.orphans, e.oversizes, e.shorts, e.after) (simp (add-zero, zero-add, append-nil))

module _ (p : SentControl) (c : ControlConforming p) where
  pub undivided : Payload (control_sent p) 0 p.content (content_sent p.content)
  unfolding control_sent
  undivided =
      let x = p.content in
      payload_read 0 p.reserved x p.counter (content_sent x) (omega arith) c.reserved c.content.extension c.counter

  undivided_does : (id number : ℕ) (l : Reassembly)
      → Does l (message_packet id number (control_sent p)) (Some (content_seen p.content)) (nothing_left number)
  unfolding message_completed whole_of orphan oversize reassembly_after part_after division_of
  undivided_does id number l =
      let u = undivided in
      let long = le-ltb (length (control_sent p)) 2 (omega (arith, u.long)) in
      record {
        whole = rw (long, u.division, u.extended, u.several, u.content);
        orphans = rw (long, u.division);
        oversizes = rw (long, u.division);
        shorts = long;
        after = rw (long, u.division);
      }

pub controls : ControlTheorem
unfolding division_of cut_of_all tables_given
controls p c =
    let u = undivided p c in
    let tables = (contents p.content c.content).tables in
    record {
      header = rw (u.division, u.extended, u.several);
      message = λ id number l. (undivided_does p c id number l).whole;
      tables = λ id number l. rw (undivided_does p c id number l).whole tables;
      given = λ id number l. rw ((undivided_does p c id number l).whole, tables);
      joined = λ id number l. whole_joined (undivided_does p c id number l) ∙ rw tables;
    }

-- a divided content
abbrev partial_of : SentContent → List ℕ → PartialMessage
partial_of c b = record { long = c.extension =? 1; aggregated = aggregation_flag c.carried =? 1; bytes = b }

abbrev joining : ℕ → SentContent → List ℕ → Reassembly
joining n c b = record { number = Some n; partial = Some (partial_of c b) }

module _ (id : ℕ) (c : SentContent) (flag : c.extension < 2) where
  first_does : (l : Reassembly) (n : ℕ) (p : SentPart) → PartConforming p
      → Does l (message_packet id n (part_sent 1 c p)) None (joining n c p.bytes)
  unfolding message_completed whole_of orphan oversize reassembly_after part_after division_of
  first_does l n p h =
      let s = part_sent 1 c p in
      let u = payload_read 1 p.reserved c p.counter p.bytes (omega arith) h.reserved flag h.counter in
      let long = le-ltb (length s) 2 (omega (arith, u.long)) in
      record {
        whole = rw (long, u.division);
        orphans = rw (long, u.division);
        oversizes = rw (long, u.division);
        shorts = long;
        after = rw (long, u.division, u.extended, u.several, u.content);
      }

  module _ (n : ℕ) (b : List ℕ) (p : SentPart) (h : PartConforming p) (room : length b + length p.bytes ≤ 1048576) where
    middle_does : Does (joining n c b) (message_packet id (number_behind_of n) (part_sent 2 c p)) None
        (joining (number_behind_of n) c (b ++ p.bytes))
    unfolding message_completed whole_of orphan oversize reassembly_after part_before part_after joined_on gap follows division_of
    middle_does =
        let s = part_sent 2 c p in
        let u = payload_read 2 p.reserved c p.counter p.bytes (omega arith) h.reserved flag h.counter in
        let long = le-ltb (length s) 2 (omega (arith, u.long)) in
        let next = eq-eqb (number_behind_of n) (number_behind_of n) refl in
        let fits = le-leb (length b + length p.bytes) 1048576 room in
        record {
          whole = rw (long, u.division);
          orphans = rw (long, u.division, next);
          oversizes = rw (long, u.division, next, u.content, fits);
          shorts = long;
          after = rw (long, u.division, next, u.content, fits);
        }

    last_does : Does (joining n c b) (message_packet id (number_behind_of n) (part_sent 3 c p)) (Some (partial_of c (b ++ p.bytes)))
        (nothing_left (number_behind_of n))
    unfolding message_completed whole_of orphan oversize reassembly_after part_before part_after joined_on gap follows division_of
    last_does =
        let s = part_sent 3 c p in
        let u = payload_read 3 p.reserved c p.counter p.bytes (omega arith) h.reserved flag h.counter in
        let long = le-ltb (length s) 2 (omega (arith, u.long)) in
        let next = eq-eqb (number_behind_of n) (number_behind_of n) refl in
        let fits = le-leb (length b + length p.bytes) 1048576 room in
        record {
          whole = rw (long, u.division, next, u.content, fits);
          orphans = rw (long, u.division, next);
          oversizes = rw (long, u.division, next, u.content, fits);
          shorts = long;
          after = rw (long, u.division);
        }

  -- the bytes `b` that are held and the parts that follow
  rest_joined : (n : ℕ) (b : List ℕ) (qs : List SentPart) (p : SentPart) → All PartConforming qs → PartConforming p
      → length b + length (rest_bytes qs p) ≤ 1048576
      → joined_by (joining n c b) (rest_sent id (number_behind_of n) c qs p)
      ≡ joined_as (partial_of c (b ++ rest_bytes qs p)) ((n + length qs + 1) % 2 ^ 32)
  unfolding cut_of_all
  rest_joined n b [] p hs h room =
      rw (add-zero n) (whole_joined (last_does n b p h room))
  rest_joined n b (q ∷ qs) p hs h room =
      let both = length-append q.bytes (rest_bytes qs p) in
      let e = middle_does n b q hs.0 (omega arith) in
      let all = length-append b q.bytes in
      let r = rest_joined (number_behind_of n) (b ++ q.bytes) qs p hs.1 h (omega arith) in
      let number : (number_behind_of n + length qs + 1) % 2 ^ 32 ≡ (n + length (q ∷ qs) + 1) % 2 ^ 32 = omega arith in
      rw (e.whole, e.orphans, e.oversizes, e.shorts, e.after, r, number, append_assoc b q.bytes (rest_bytes qs p))
      (simp zero-add)

pub divided : DividedTheorem
unfolding cut_of_all
divided d c short =
    let content = d.content in
    let flag = c.content.extension in
    let first = d.first in
    let all = length-append first.bytes (rest_bytes d.middle d.last) in
    let size : length (first.bytes ++ rest_bytes d.middle d.last) ≡ length (content_sent content) = ap length c.whole in
    let r = rest_joined d.id content flag d.number first.bytes d.middle d.last c.middle c.last (omega arith) in
    let tables = (contents content c.content).tables in
    record {
      joined = λ l.
          let e = first_does d.id content flag l d.number first c.first in
          rw (e.whole, e.orphans, e.oversizes, e.shorts, e.after, r, c.whole, tables);
    }

-- payloads that conform
pub undivided_witness_lem : Witness undivided_witness undivided_bytes
unfolding control_sent bytes_of
undivided_witness_lem =
    record {
      conforms = omega arith;
      bytes = refl;
    }

pub aggregated_witness_lem : Witness aggregated_witness aggregated_bytes
unfolding control_sent bytes_of
aggregated_witness_lem =
    record {
      conforms = omega arith;
      bytes = refl;
    }

pub divided_witness_lem : DividedWitness divided_witness divided_packets
unfolding bytes_of
divided_witness_lem =
    record {
      conforms =
          record {
            id = omega arith;
            number = omega arith;
            content = omega arith;
            first = omega arith;
            middle = omega arith;
            last = omega arith;
            whole = refl;
          };
      short = omega arith;
      packets = refl;
    }
