-- Tables that a sender which conforms to ARIB STD-B60 puts into messages are taken by the model in turn, and an MPT is kept. Assumes
-- nothing.
use Rattle.std.specs.Prelude.{Option, Some}
use Rattle.std.proofs.Common.{◌≡◌, ℕ, ◌+◌, ◌%◌, ◌^◌, ◌<◌, ◌≤◌, List, [], ◌∷◌, ◌++◌, map, length, get_or, sym, refl, ap, ◌∙◌, subst, append-nil, add-zero, add_assoc, arith, le-ltb, ne_eqb, le-leb}
use mathlib.Core.List.{map-append}
use Rattle.isdb_tlv.specs.Bytes.{be}
use Rattle.isdb_tlv.specs.Fields.{bytes_of, written, Fit}
use Rattle.isdb_mmt.specs.Decoder.Maps.{or_else, one}
use Rattle.isdb_mmt.specs.Decoder.Packet.{Bytes, MessagePacket, message_packet, message}
use Rattle.isdb_mmt.specs.Decoder.Reassembly.{Reassembly, short, reassembly_after, message_completed, orphan, oversize, cut_of_all}
use Rattle.isdb_mmt.specs.Decoder.Kept.{Table, KeptTables, table_by_id, table_read, mpt_after, mpt_after_all, stored, stored_all}
use Rattle.isdb_mmt.specs.Decoder.Kept.{table_counted, table_increments, counted_all}
use Rattle.isdb_mmt.specs.Decoder.GivenTables.{tables_given}
use Rattle.isdb_mmt.specs.Decoder.Model.{State, Control, control_of, reassembly_of, packet_counted, message_counted, reassembly_counted}
use Rattle.isdb_mmt.specs.Decoder.Model.{pushed}
use Rattle.isdb_mmt.specs.Books.Demand.{push_all}
use Rattle.isdb_mmt.specs.Standards.StdB60Sections.{All}
use Rattle.isdb_mmt.specs.Standards.StdB60Tables.{table_head, SentMpt, mpt_rest, mpt_sent}
use Rattle.isdb_mmt.specs.declared.decoder.counts.Counters.{Counters}
use Rattle.isdb_mmt.proofs.Maps.{find_put}
use Rattle.isdb_mmt.proofs.BytesAt.{located_first, field_read, byte_read}
use Rattle.isdb_mmt.proofs.StdB60Tables.{headed, mpt}
use Rattle.isdb_mmt.specs.Standards.StdB60Messages.{SentTable, table_fields, table_sent, TableConforming, SentContent, content_tables}
use Rattle.isdb_mmt.specs.Standards.StdB60Messages.{control_sent, SentPart, rest_sent, divided_sent, number_behind_of, joined_by, joined_whole}
use Rattle.isdb_mmt.specs.Standards.StdB60Kept.{state_after, ContentPushed, NoMpt, LastMpt, mpt_as_table, mpt_in_pa_sent, MptInPaKept, mpt_witness}
use Rattle.isdb_mmt.specs.Standards.StdB60Kept.{mpt_witness_bytes, MptWitness, UndividedPushed, DividedPushed, MptRecognized, MptKept}
use Rattle.isdb_mmt.proofs.StdB60Messages.{controls, divided}
use Rattle.isdb_mmt.proofs.TableKinds.{by_kinds}

-- an MPT is told from its bytes
pub mpt_recognized : MptRecognized
unfolding table_read table_by_id mpt_sent
mpt_recognized t c is =
    let r = mpt_rest t in
    let fs = table_head t.table_id t.version (length r) in
    let s = mpt_sent t in
    let h = headed t.table_id t.version r c.table_id c.version c.short in
    let long = h.long in
    let fit : Fit fs = omega arith in
    let size : be 2 s 2 ≡ length r = field_read fs fit (located_first (written fs) r) 2 in
    rw (ne_eqb (length s) 0 (λ e. omega arith), h.id, le-ltb t.table_id 0x11 is.0, le-leb t.table_id 0x20 is.1)
    (rw ((mpt t c).table, size, h.whole))

-- another table leaves the MPT as it is
other_same : (m : Option Bytes) (b : Bytes) → NoMpt b → mpt_after m (table_read b) ≡ m
unfolding mpt_after
other_same m b other =
    by_kinds (λ (x : Table). mpt_after m x ≡ m) b
    (record {
      empty = refl;
      mpt = λ l h. let o = other l in absurd (omega arith);
      plt = refl;
      tot = refl;
      truncated = refl;
      section = refl;
      others = refl;
    })

others_same : (m : Option Bytes) (bs : List Bytes) → All NoMpt bs → mpt_after_all m (map table_read bs) ≡ m
unfolding mpt_after_all
others_same m [] h = refl
others_same m (b ∷ bs) h = ap (λ x. mpt_after_all x (map table_read bs)) (other_same m b h.0) ∙ others_same m bs h.1

-- tables one behind another
mpt_behind : (m : Option Bytes) (before bs : List Bytes)
    → mpt_after_all m (map table_read (before ++ bs)) ≡ mpt_after_all (mpt_after_all m (map table_read before)) (map table_read bs)
unfolding mpt_after_all
mpt_behind m [] bs = refl
mpt_behind m (a ∷ before) bs = mpt_behind (mpt_after m (table_read a)) before bs

store_behind : (s : KeptTables) (before bs : List Bytes)
    → stored_all s (map table_read (before ++ bs)) ≡ stored_all (stored_all s (map table_read before)) (map table_read bs)
unfolding stored_all
store_behind s [] bs = refl
store_behind s (a ∷ before) bs = store_behind (stored s (table_read a)) before bs

pub mpt_kept : MptKept
unfolding mpt_after_all mpt_after
mpt_kept t c is x last id xs h s =
    let b = mpt_sent t in
    let m = (control_of id s).mpt in
    h.mpt s ∙ rw (last.all, mpt_behind m last.before (b ∷ last.behind), mpt_recognized t c is)
    (others_same (Some b) last.behind last.others)

-- tables count as nothing of what message.rs counts
record Untouched (c d : Counters) : Type 0 where
  orphans : c.orphan_fragments ≡ d.orphan_fragments
  oversizes : c.oversize ≡ d.oversize
  malformed : c.message_malformed ≡ d.message_malformed

untouched : (m : Option Bytes) (s : KeptTables) (c : Counters) (ts : List Table) → Untouched (counted_all m s c ts) c
unfolding counted_all table_counted
untouched m s c [] = record { orphans = refl; oversizes = refl; malformed = refl }
untouched m s c (t ∷ ts) =
    let r = untouched (mpt_after m t) (stored s t) (table_counted c (table_increments m s t)) ts in
    record { orphans = r.orphans; oversizes = r.oversizes; malformed = r.malformed }

-- what one packet does to its id, of which `k` is known
abbrev given_by : Control → MessagePacket → List Bytes
given_by k x = (cut_of_all (message_completed k.reassembly x)).tables

abbrev control_after : Control → MessagePacket → Control
control_after k x = record { reassembly = reassembly_after k.reassembly x; mpt = mpt_after_all k.mpt (map table_read (given_by k x)) }

record Does (s : State) (x : MessagePacket) (id : ℕ) (k : Control) : Type 0 where
  control : control_of id (pushed s (message x)) ≡ control_after k x
  store : (pushed s (message x)).store ≡ stored_all s.store (map table_read (given_by k x))
  orphans : (pushed s (message x)).counters.orphan_fragments ≡ s.counters.orphan_fragments + one (orphan k.reassembly x)
  oversizes : (pushed s (message x)).counters.oversize ≡ s.counters.oversize + one (oversize k.reassembly x)
  malformed : (pushed s (message x)).counters.message_malformed
      ≡ s.counters.message_malformed + (one (short x) + (cut_of_all (message_completed k.reassembly x)).malformed)

one_does : (s : State) (x : MessagePacket) → Does s x x.id (control_of x.id s)
unfolding pushed or_else reassembly_counted message_counted packet_counted
one_does s x =
    let l = reassembly_of x.id s in
    let c = reassembly_counted (packet_counted s.counters 0 0 0) l x in
    let r = untouched (control_of x.id s).mpt s.store c (tables_given l x) in
    record {
      control = rw find_put;
      store = refl;
      orphans = r.orphans;
      oversizes = r.oversizes;
      malformed = r.malformed;
    }

-- packets of one id, pushed in turn, do what they do to what is joined, and give its tables
record PushedAs (s : State) (id : ℕ) (k : Control) (xs : List MessagePacket) : Type 0 where
  mpt : (control_of id (state_after s xs)).mpt ≡ mpt_after_all k.mpt (map table_read (joined_by k.reassembly xs).tables)
  store : (state_after s xs).store ≡ stored_all s.store (map table_read (joined_by k.reassembly xs).tables)
  orphans : (state_after s xs).counters.orphan_fragments ≡ s.counters.orphan_fragments + (joined_by k.reassembly xs).orphans
  oversizes : (state_after s xs).counters.oversize ≡ s.counters.oversize + (joined_by k.reassembly xs).oversizes
  malformed : (state_after s xs).counters.message_malformed ≡ s.counters.message_malformed + (joined_by k.reassembly xs).malformed

joined_pushed : (id : ℕ) (xs : List MessagePacket) → All (λ x. x.id ≡ id) xs → (s : State) (k : Control) → control_of id s ≡ k
    → PushedAs s id k xs
unfolding push_all mpt_after_all stored_all
joined_pushed id [] h s k d =
    record {
      mpt = ap (λ y. y.mpt) d;
      store = refl;
      orphans = sym (add-zero _);
      oversizes = sym (add-zero _);
      malformed = sym (add-zero _);
    }
joined_pushed id (x ∷ xs) h s k d =
    let c = s.counters in
    let l = k.reassembly in
    let rest = joined_by (reassembly_after l x) xs in
    let e = subst (Does s x id) d (subst (λ i. Does s x i (control_of i s)) h.0 (one_does s x)) in
    let r = joined_pushed id xs h.1 (pushed s (message x)) (control_after k x) e.control in
    record {
      mpt = r.mpt ∙ sym (mpt_behind k.mpt (given_by k x) rest.tables);
      store =
          r.store ∙ ap (λ y. stored_all y (map table_read rest.tables)) e.store
          ∙ sym (store_behind s.store (given_by k x) rest.tables);
      orphans = r.orphans ∙ rw e.orphans (add_assoc c.orphan_fragments (one (orphan l x)) rest.orphans);
      oversizes = r.oversizes ∙ rw e.oversizes (add_assoc c.oversize (one (oversize l x)) rest.oversizes);
      malformed =
          let here = one (short x) + (cut_of_all (message_completed l x)).malformed in
          r.malformed ∙ rw e.malformed (add_assoc c.message_malformed here rest.malformed);
    }

-- a content that is joined whole
content_pushed : (c : SentContent) (n id : ℕ) (xs : List MessagePacket) → All (λ x. x.id ≡ id) xs
    → ((l : Reassembly) → joined_by l xs ≡ joined_whole c n) → ContentPushed c id xs
content_pushed c n id xs h joined =
    let r : (s : State) → PushedAs s id (control_of id s) xs = λ s. joined_pushed id xs h s (control_of id s) refl in
    let j : (s : State) → joined_by (reassembly_of id s) xs ≡ joined_whole c n = λ s. joined (reassembly_of id s) in
    record {
      mpt = λ s. (r s).mpt ∙ ap (λ y. mpt_after_all (control_of id s).mpt (map table_read y.tables)) (j s);
      store = λ s. (r s).store ∙ ap (λ y. stored_all s.store (map table_read y.tables)) (j s);
      orphans = λ s. (r s).orphans ∙ ap (λ y. s.counters.orphan_fragments + y.orphans) (j s) ∙ add-zero _;
      oversizes = λ s. (r s).oversizes ∙ ap (λ y. s.counters.oversize + y.oversizes) (j s) ∙ add-zero _;
      malformed = λ s. (r s).malformed ∙ ap (λ y. s.counters.message_malformed + y.malformed) (j s) ∙ add-zero _;
    }

pub undivided_pushed : UndividedPushed
undivided_pushed p c id number =
    content_pushed p.content number id (message_packet id number (control_sent p) ∷ []) (refl, tt) ((controls p c).joined id number)

-- the parts have one id
rest_ids : (id n : ℕ) (c : SentContent) (qs : List SentPart) (p : SentPart) → All (λ x. x.id ≡ id) (rest_sent id n c qs p)
rest_ids id n c [] p = (refl, tt)
rest_ids id n c (q ∷ qs) p = (refl, rest_ids id (number_behind_of n) c qs p)

pub divided_pushed : DividedPushed
divided_pushed d c short =
    content_pushed d.content ((d.number + length d.middle + 1) % 2 ^ 32) d.id (divided_sent d)
    (refl, rest_ids d.id (number_behind_of d.number) d.content d.middle d.last) (divided d c short).joined

-- tables of a PA message
table_id_lem : (u : SentTable) → TableConforming u → get_or (table_sent u) 0 0 ≡ u.id
table_id_lem u c =
    let fit : Fit (table_fields u) = omega arith in
    byte_read (table_fields u) fit (located_first (written (table_fields u)) u.content) 0 refl

others_sent : (us : List SentTable) → All TableConforming us → All (λ u. 0x11 ≤ u.id → 0x20 < u.id) us → All NoMpt (map table_sent us)
others_sent [] c h = tt
others_sent (u ∷ us) c h = (rw (table_id_lem u c.0) h.0, others_sent us c.1 h.1)

all_behind : {A : Type 0} (P : A → Type 0) (a b : List A) → All P (a ++ b) → All P b
all_behind P [] b h = h
all_behind P (x ∷ a) b h = all_behind P a b h.1

mpt_as_table_lem : (t : SentMpt) (listed : ℕ) → table_sent (mpt_as_table t listed) ≡ mpt_sent t
unfolding mpt_sent
mpt_as_table_lem t listed = refl

pub mpt_in_pa : MptInPaKept
unfolding push_all
mpt_in_pa x c s id number =
    let p = mpt_in_pa_sent x in
    let t = mpt_as_table x.mpt x.listed in
    let tables = c.payload.content.carried.tables in
    let behind = (all_behind TableConforming x.before (t ∷ x.behind) tables).1 in
    let last : LastMpt x.mpt (content_tables p.content) =
    record {
      before = map table_sent x.before;
      behind = map table_sent x.behind;
      all = append-nil _ ∙ map-append table_sent x.before (t ∷ x.behind) ∙ rw (mpt_as_table_lem x.mpt x.listed);
      others = others_sent x.behind behind c.others;
    } in
    let pushes = undivided_pushed p c.payload id number in
    mpt_kept x.mpt c.mpt c.id p.content last id (message_packet id number (control_sent p) ∷ []) pushes s

pub mpt_witness_lem : MptWitness mpt_witness mpt_witness_bytes
unfolding control_sent bytes_of
mpt_witness_lem = record { conforms = omega arith; bytes = refl }
