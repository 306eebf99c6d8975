-- What tables do to what is kept and counted: what is kept parses, and counts grow by the number of tables and of their descriptor
-- loops. Assumes nothing.
use Rattle.std.specs.Prelude.{Option, None, Some, is_some}
use Rattle.std.proofs.Common.{◌≡◌, ℕ, suc, ◌+◌, ◌/◌, ◌^◌, ◌≤◌, Bool, true, false, cond, not, ◌&&◌, eqb, ltb, List, [], ◌∷◌, map, length, get_or, set, refl, arith, get_or-set_other, get_or-set_same, ltb-false, ltb-true, eqb-true}
use lib.Seq.{set_out}
use borrow.Author.Tests.{eqb-false}
use Rattle.isdb_tlv.specs.Bytes.{be}
use Rattle.isdb_tlv.proofs.Guards.{cond_elim, either}
use Rattle.isdb_mmt.specs.Standards.StdB60Sections.{All}
use Rattle.isdb_mmt.specs.declared.decoder.counts.Counters.{Counters}
use Rattle.isdb_mmt.specs.Decoder.Packet.{Bytes}
use Rattle.isdb_mmt.specs.Decoder.Maps.{find}
use Rattle.isdb_mmt.specs.Formats.Mpt.{mpt_of}
use Rattle.isdb_mmt.specs.Formats.Plt.{plt_of}
use Rattle.isdb_mmt.specs.Formats.Tot.{tot_of}
use Rattle.isdb_mmt.specs.Memory.Octets.{Octets}
use Rattle.isdb_mmt.specs.Decoder.Kept.{Section, key_of, section_of, parses_as, Kept, other_version, keep_if, keep, Increments, increments, table_counted, section_increments, KeptTables, Table, empty_table, mpt_table, plt_table, tot_table, truncated_section, a_section, other_table, mpt_parses, plt_parses, tot_parses, table_read, changes, table_increments, latest, mpt_after, mpt_after_all, stored, stored_all, counted_all}
use Rattle.isdb_mmt.specs.Decoder.GivenTables.{control_tables}
use Rattle.isdb_mmt.proofs.Declared.{same_section, same_body, same_tot, same_mpt, same_plt}
use Rattle.isdb_mmt.proofs.Every.{Every, every_put}
use Rattle.isdb_mmt.proofs.Amounts.{breaks_of, section_breaks, table_breaks, total}
use Rattle.isdb_mmt.proofs.Brief.{all_read, AllOctets}
use Rattle.isdb_mmt.proofs.Maps.{one_le}
use Rattle.isdb_mmt.proofs.TableKinds.{by_kinds}

-- ---- a table whose declared bytes parse where it did

abbrev pub Sane : Table → Type 0
Sane empty_table = Unit {0}
Sane (mpt_table ok n b) = ok ≡ true → mpt_parses (mpt_of b).mpt ≡ true
Sane (plt_table ok b) = ok ≡ true → plt_parses (plt_of b) ≡ true
Sane (tot_table ok c n b) = ok ≡ true → tot_parses (tot_of b).result ≡ true
Sane truncated_section = Unit {0}
Sane (a_section x) = x.header_and_crc_good ≡ true → x.body_ok ≡ true → parses_as (x.key / 2 ^ 24) x.bytes ≡ true
Sane (other_table id) = Unit {0}

abbrev pub AllSane : List Table → Type 0
AllSane ts = All Sane ts

-- the id is the high byte of the key
key_id : (b : Bytes) → Octets b → key_of b / 2 ^ 24 ≡ get_or b 0 0
unfolding be
key_id b o = omega (arith, o 3, o 4, o 6)

pub section_sane : (b : Bytes) → Octets b → Sane (a_section (section_of b))
unfolding section_of parses_as
section_sane b o h k = rw (key_id b o, same_section b, same_body b (get_or b 0 0), h, k)

pub table_sane : (b : Bytes) → Octets b → Sane (table_read b)
table_sane b o =
    by_kinds Sane b
    (record {
      empty = tt;
      mpt = λ l h k. rw (same_mpt b) k;
      plt = λ k. rw (same_plt b) k;
      tot = λ k. rw (same_tot b) k;
      truncated = tt;
      section = section_sane b o;
      others = tt;
    })

pub tables_sane : (bs : List Bytes) → AllOctets bs → AllSane (map table_read bs)
tables_sane = all_read Sane table_read table_sane

pub control_sane : (bs : List Bytes) → AllOctets bs → AllSane (control_tables bs)
control_sane = all_read Sane (λ b. a_section (section_of b)) section_sane

-- how many loops break in tables
abbrev pub breaks_in : List Table → ℕ
breaks_in [] = 0
breaks_in (t ∷ ts) = breaks_of t + breaks_in ts

pub breaks_read : (bs : List Bytes) → breaks_in (map table_read bs) ≤ total bs
breaks_read [] = omega arith
breaks_read (b ∷ bs) = omega (arith, breaks_read bs, table_breaks b)

pub breaks_control : (bs : List Bytes) → breaks_in (control_tables bs) ≤ total bs
breaks_control [] = omega arith
breaks_control (b ∷ bs) = omega (arith, breaks_control bs, section_breaks b)

-- ---- what is kept

-- a kept table, where there is one, parses
abbrev pub Parses : (Bytes → Bool) → Option Bytes → Type 0
Parses parses None = Unit {0}
Parses parses (Some b) = parses b ≡ true

abbrev pub mpt_good_lem : Bytes → Bool
mpt_good_lem b = mpt_parses (mpt_of b).mpt

abbrev pub plt_good_lem : Bytes → Bool
plt_good_lem b = plt_parses (plt_of b)

abbrev pub tot_good_lem : Bytes → Bool
tot_good_lem b = tot_parses (tot_of b).result

latest_parses : (parses : Bytes → Bool) (ok : Bool) (o : Option Bytes) (b : Bytes) → Parses parses o → (ok ≡ true → parses b ≡ true)
    → Parses parses (latest ok o b)
latest_parses parses true o b h f = f refl
latest_parses parses false o b h f = h

abbrev pub KeptParses : ℕ → Kept → Type 0
KeptParses k x = parses_as (k / 2 ^ 24) x.bytes ≡ true

pub record StoreParses (s : KeptTables) : Type 0 where
  pub plt : Parses plt_good_lem s.plt
  pub tot : Parses tot_good_lem s.tot
  pub kept : Every KeptParses s.kept

pub counted_one : (l : List ℕ) (id n : ℕ) → ((i : ℕ) → get_or l i 0 ≤ n) → (i : ℕ) → get_or (set l id (get_or l id 0 + 1)) i 0 ≤ n + 1
counted_one l id n h i =
    either (ltb id (length l))
    (λ e.
    either (eqb i id)
    (λ t. rw (eqb-true i id t, get_or-set_same l id (get_or l id 0 + 1) 0 (ltb-true id (length l) e)) (omega (arith, h id)))
    (λ t. rw (get_or-set_other l id i (get_or l id 0 + 1) 0 (eqb-false i id t)) (omega (arith, h i))))
    (λ e. rw (set_out l id (get_or l id 0 + 1) (ltb-false id (length l) e)) (omega (arith, h i)))

-- a section that is kept
module _ (x : Section) (m : List (ℕ × Kept)) (f : Every KeptParses m) (q : Sane (a_section x)) where
  kept_if : (h n b : Bool) → x.header_and_crc_good ≡ h → x.body_ok ≡ b → Every KeptParses (cond h (keep_if n b x m) m)
  unfolding keep_if
  kept_if true true true e k = every_put KeptParses x.key _ (q e k) m f
  kept_if true true false e k = f
  kept_if true false b e k = f
  kept_if false n b e k = f

store_parses : (s : KeptTables) (t : Table) → StoreParses s → Sane t → StoreParses (stored s t)
unfolding stored keep
store_parses s empty_table h q = h
store_parses s (mpt_table ok k b) h q = h
store_parses s (plt_table ok b) h q = record { plt = latest_parses plt_good_lem ok s.plt b h.plt q; tot = h.tot; kept = h.kept }
store_parses s (tot_table ok c k b) h q = record { plt = h.plt; tot = latest_parses tot_good_lem ok s.tot b h.tot q; kept = h.kept }
store_parses s truncated_section h q = h
store_parses s (a_section x) h q =
    record {
      plt = h.plt;
      tot = h.tot;
      kept =
          kept_if x s.kept h.kept q x.header_and_crc_good (other_version (find x.key s.kept) x.version) x.body_ok refl
          refl;
    }
store_parses s (other_table id) h q = record { plt = h.plt; tot = h.tot; kept = h.kept }

pub stores_parse : (ts : List Table) (s : KeptTables) → StoreParses s → AllSane ts → StoreParses (stored_all s ts)
unfolding stored_all
stores_parse [] s h q = h
stores_parse (t ∷ ts) s h q = stores_parse ts (stored s t) (store_parses s t h q.0) q.1

-- the MPT of a control id
mpt_parses_lem : (m : Option Bytes) (t : Table) → Parses mpt_good_lem m → Sane t → Parses mpt_good_lem (mpt_after m t)
unfolding mpt_after
mpt_parses_lem m empty_table h q = h
mpt_parses_lem m (mpt_table ok k b) h q = latest_parses mpt_good_lem ok m b h q
mpt_parses_lem m (plt_table ok b) h q = h
mpt_parses_lem m (tot_table ok c k b) h q = h
mpt_parses_lem m truncated_section h q = h
mpt_parses_lem m (a_section x) h q = h
mpt_parses_lem m (other_table id) h q = h

pub mpts_parse : (ts : List Table) (m : Option Bytes) → Parses mpt_good_lem m → AllSane ts → Parses mpt_good_lem (mpt_after_all m ts)
unfolding mpt_after_all
mpts_parse [] m h q = h
mpts_parse (t ∷ ts) m h q = mpts_parse ts (mpt_after m t) (mpt_parses_lem m t h q.0) q.1

-- ---- what is counted

-- counts of packets and messages, of tables, of descriptor loops
pub record CountersFit (p t b : ℕ) (c : Counters) : Type 0 where
  pub tlv_packets : c.tlv_packets ≤ p
  pub ip_errors : c.ip_errors ≤ p
  pub non_mmtp : c.non_mmtp ≤ p
  pub ntp : c.ntp ≤ p
  pub tables : c.tables ≤ t
  pub crc_errors : c.crc_errors ≤ t
  pub malformed : c.malformed ≤ t
  pub version_changes : c.version_changes ≤ t
  pub orphan_fragments : c.orphan_fragments ≤ p
  pub oversize : c.oversize ≤ p
  pub message_malformed : c.message_malformed ≤ p
  pub split_errors : c.split_errors ≤ b

pub counters_more : (p t b p' t' b' : ℕ) (c : Counters) → p ≤ p' → t ≤ t' → b ≤ b' → CountersFit p t b c → CountersFit p' t' b' c
counters_more p t b p' t' b' c x y z h =
    record {
      tlv_packets = omega (arith, h.tlv_packets);
      ip_errors = omega (arith, h.ip_errors);
      non_mmtp = omega (arith, h.non_mmtp);
      ntp = omega (arith, h.ntp);
      tables = omega (arith, h.tables);
      crc_errors = omega (arith, h.crc_errors);
      malformed = omega (arith, h.malformed);
      version_changes = omega (arith, h.version_changes);
      orphan_fragments = omega (arith, h.orphan_fragments);
      oversize = omega (arith, h.oversize);
      message_malformed = omega (arith, h.message_malformed);
      split_errors = omega (arith, h.split_errors);
    }

record Few (n : ℕ) (x : Increments) : Type 0 where
  crc_errors : x.crc_errors ≤ 1
  malformed : x.malformed ≤ 1
  version_changes : x.version_changes ≤ 1
  breaks : x.breaks ≤ n

few : (n c m v b : ℕ) → c ≤ 1 → m ≤ 1 → v ≤ 1 → b ≤ n → Few n (increments c m v b)
few n c m v b x y z w = record { crc_errors = x; malformed = y; version_changes = z; breaks = w }

few_section : (x : Section) (k : Option Kept) → Few x.breaks (section_increments x k)
unfolding section_increments
few_section x k =
    let P : Increments → Type 0 = Few x.breaks in
    cond_elim P (not x.header_and_crc_good) (λ e. few x.breaks _ _ 0 0 (one_le x.crc_bad) (one_le (not x.crc_bad)) (omega arith) (omega arith)) (λ e.
    cond_elim P (not (other_version k x.version)) (λ e. few x.breaks 0 0 0 0 (omega arith) (omega arith) (omega arith) (omega arith)) (λ e.
    few x.breaks 0 _ _ x.breaks (omega arith) (one_le (not x.body_ok)) (one_le (is_some k)) (omega arith)))

few_increments : (m : Option Bytes) (s : KeptTables) (t : Table) → Few (breaks_of t) (table_increments m s t)
unfolding table_increments
few_increments m s empty_table = few 0 0 0 0 0 (omega arith) (omega arith) (omega arith) (omega arith)
few_increments m s (mpt_table ok n b) = few n 0 _ _ n (omega arith) (one_le (not ok)) (one_le (ok && changes m b)) (omega arith)
few_increments m s (plt_table ok b) = few 0 0 _ _ 0 (omega arith) (one_le (not ok)) (one_le (ok && changes s.plt b)) (omega arith)
few_increments m s (tot_table ok c n b) = few n _ _ 0 n (one_le c) (one_le (not ok && not c)) (omega arith) (omega arith)
few_increments m s truncated_section = few 0 0 1 0 0 (omega arith) (omega arith) (omega arith) (omega arith)
few_increments m s (a_section x) = few_section x (find x.key s.kept)
few_increments m s (other_table id) = few 0 0 0 0 0 (omega arith) (omega arith) (omega arith) (omega arith)

table_counted_fits : (p t b n : ℕ) (c : Counters) (x : Increments) → CountersFit p t b c → Few n x → CountersFit p (t + 1) (b + n) (table_counted c x)
unfolding table_counted
table_counted_fits p t b n c x h f =
    record {
      tlv_packets = h.tlv_packets;
      ip_errors = h.ip_errors;
      non_mmtp = h.non_mmtp;
      ntp = h.ntp;
      tables = omega (arith, h.tables);
      crc_errors = omega (arith, h.crc_errors, f.crc_errors);
      malformed = omega (arith, h.malformed, f.malformed);
      version_changes = omega (arith, h.version_changes, f.version_changes);
      orphan_fragments = h.orphan_fragments;
      oversize = h.oversize;
      message_malformed = h.message_malformed;
      split_errors = omega (arith, h.split_errors, f.breaks);
    }

pub counted_fit : (ts : List Table) (p t b : ℕ) (m : Option Bytes) (s : KeptTables) (c : Counters) → CountersFit p t b c
    → CountersFit p (t + length ts) (b + breaks_in ts) (counted_all m s c ts)
unfolding counted_all
counted_fit [] p t b m s c h = counters_more p t b p (t + 0) (b + 0) c (omega arith) (omega arith) (omega arith) h
counted_fit (x ∷ ts) p t b m s c h =
    counters_more p (t + 1 + length ts) (b + breaks_of x + breaks_in ts) p (t + suc (length ts)) (b + (breaks_of x + breaks_in ts)) _ (omega arith) (omega arith) (omega arith)
    (counted_fit ts p (t + 1) (b + breaks_of x) (mpt_after m x) (stored s x) (table_counted c (table_increments m s x)) (table_counted_fits p t b (breaks_of x) c _ h (few_increments m s x)))

-- tables leave the count of packets
pub counted_packets : (ts : List Table) (m : Option Bytes) (s : KeptTables) (c : Counters) → (counted_all m s c ts).tlv_packets ≡ c.tlv_packets
unfolding counted_all table_counted
counted_packets [] m s c = refl
counted_packets (x ∷ ts) m s c = counted_packets ts (mpt_after m x) (stored s x) (table_counted c (table_increments m s x))
