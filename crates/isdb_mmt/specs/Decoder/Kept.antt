-- What is done with a table: kept, passed over, counted. The Rust's `Decoder::table`, `control` and `keep`, on values.
-- Translated from decoder.rs of isdb-rs (Apache-2.0, see NOTICE) and changed.
use Rattle.isdb_mmt.specs.declared.table.plt.Plt.{Plt}
use Rattle.isdb_mmt.specs.declared.table.mpt.Mpt.{Mpt}
use Rattle.isdb_mmt.specs.declared.table.tot.Tot.{Tot}
use Rattle.isdb_mmt.specs.declared.table.section.SectionHeader.{SectionHeader}
use Rattle.std.specs.Prelude.{ℕ, ◌+◌, ◌*◌, ◌^◌, Bool, true, false, cond, not, ◌&&◌, List, [], ◌∷◌, length, take, slice_index, slice_index_or, slice_set, Err, None, Ok, Result, Some, Option, is_some, is_ok}
use Rattle.isdb_tlv.specs.Guards.{◌<?◌, ◌≤?◌, ◌=?◌}
use Rattle.std.specs.Prelude.{if◌then◌else◌}
use Rattle.isdb_tlv.specs.Bytes.{be}
use Rattle.isdb_tlv.specs.Si.{nit_actual_id, nit_other_id, amt_id}
use Rattle.isdb_mmt.specs.Formats.TableIds.{mpt_first_id, mpt_id, plt_id, eit_first_id, eit_last_id, bit_id, sdt_actual_id, sdt_other_id, tot_id}
use Rattle.isdb_mmt.specs.Formats.Section.{length12, long_section_of}
use Rattle.isdb_mmt.specs.Formats.Mpt.{mpt_of}
use Rattle.isdb_mmt.specs.Formats.Plt.{plt_of}
use Rattle.isdb_mmt.specs.Formats.Tot.{tot_of}
use Rattle.isdb_mmt.specs.Formats.Eit.{eit_of}
use Rattle.isdb_mmt.specs.Formats.Sdt.{sdt_of}
use Rattle.isdb_mmt.specs.Formats.Bit.{bit_of}
use Rattle.isdb_mmt.specs.Formats.Nit.{nit_of}
use Rattle.isdb_mmt.specs.Formats.Amt.{amt_of}
use Rattle.isdb_mmt.specs.Decoder.Packet.{Bytes}
use Rattle.isdb_mmt.specs.declared.decoder.counts.Counters.{Counters}
use Rattle.isdb_mmt.specs.declared.table.section.SectionError.{SectionError}
use Rattle.isdb_mmt.specs.declared.table.section.SectionError.TheVariants.{Truncated, Crc, Malformed}
use Rattle.isdb_mmt.specs.Decoder.Maps.{find, put, one}

-- a section that reaches `keep`: its key; whether header and CRC are good, and which of them is not; its version; whether its
-- body parses, and how many descriptor loops break on the way; its declared bytes
pub record Section : Type 0 where
  pub key : ℕ
  pub header_and_crc_good : Bool
  pub crc_bad : Bool
  pub version : ℕ
  pub body_ok : Bool
  pub breaks : ℕ
  pub bytes : Bytes

-- a key is table id, table id extension and section number
abbrev pub key_of : Bytes → ℕ
key_of b = slice_index b 0 * 2 ^ 24 + be 2 b 3 * 2 ^ 8 + slice_index b 6

pub record Body : Type 0 where
  pub ok : Bool
  pub breaks : ℕ

abbrev pub body : Bool → ℕ → Body
body o n = record { ok = o; breaks = n }

-- the table that a section's id names; the others are EITs
unfoldable pub body_read : ℕ → Bytes → Body
body_read id b =
    if id =? bit_id then body (is_ok (bit_of b).result) (bit_of b).breaks
    else if id =? sdt_actual_id then body (is_ok (sdt_of b).result) (sdt_of b).breaks
    else if id =? sdt_other_id then body (is_ok (sdt_of b).result) (sdt_of b).breaks
    else if id =? nit_actual_id then body (is_ok (nit_of b)) 0
    else if id =? nit_other_id then body (is_ok (nit_of b)) 0
    else if id =? amt_id then body (is_ok (amt_of b)) 0
    else body (is_ok (eit_of b).result) (eit_of b).breaks

abbrev pub head_is_ok : Result SectionHeader SectionError → Bool
head_is_ok (Ok h) = true
head_is_ok (Err e) = false

abbrev pub is_crc : SectionError → Bool
is_crc Truncated = false
is_crc Crc = true
is_crc Malformed = false

abbrev pub crc_is_bad : Result SectionHeader SectionError → Bool
crc_is_bad (Ok h) = false
crc_is_bad (Err e) = is_crc e

abbrev pub version_in : Result SectionHeader SectionError → ℕ
version_in (Ok h) = h.version
version_in (Err e) = 0

-- a section declares 3 bytes and its length
abbrev pub declared_section : Bytes → Bytes
declared_section b = take (length12 b 1 + 3) b

unfoldable pub section_of : Bytes → Section
section_of b =
    record {
      key = key_of b;
      header_and_crc_good = head_is_ok (long_section_of b);
      crc_bad = crc_is_bad (long_section_of b);
      version = version_in (long_section_of b);
      body_ok = (body_read (slice_index b 0) b).ok;
      breaks = (body_read (slice_index b 0) b).breaks;
      bytes = declared_section b;
    }

-- header, CRC and the body of the table that the id names all parse
unfoldable pub parses_as : ℕ → Bytes → Bool
parses_as id b = head_is_ok (long_section_of b) && (body_read id b).ok

pub record Kept : Type 0 where
  pub version : ℕ
  pub bytes : Bytes

-- a section of another version than the kept one's, or where none is kept
unfoldable pub other_version : Option Kept → ℕ → Bool
other_version None v = true
other_version (Some k) v = not (k.version =? v)

unfoldable pub keep_if : Bool → Bool → Section → List (ℕ × Kept) → List (ℕ × Kept)
unfolding put
keep_if true true x m = put x.key (record { version = x.version; bytes = x.bytes }) m
keep_if true false x m = m
keep_if false b x m = m

-- header and CRC; then the version, against the kept one's; then the body
unfoldable pub keep : Section → List (ℕ × Kept) → List (ℕ × Kept)
unfolding keep_if other_version find
keep x m = cond x.header_and_crc_good (keep_if (other_version (find x.key m) x.version) x.body_ok x m) m

unfoldable pub keep_all_of : List Section → List (ℕ × Kept) → List (ℕ × Kept)
unfolding keep
keep_all_of [] m = m
keep_all_of (x ∷ xs) m = keep_all_of xs (keep x m)

unfoldable pub zeros : Counters
zeros =
    record {
      tlv_packets = 0;
      ip_errors = 0;
      non_mmtp = 0;
      ntp = 0;
      tables = 0;
      crc_errors = 0;
      malformed = 0;
      version_changes = 0;
      orphan_fragments = 0;
      oversize = 0;
      message_malformed = 0;
      split_errors = 0;
    }

-- with other counts of packets and of fragments
abbrev pub with_packet_counts : Counters → (packets orphans oversizes bad : ℕ) → Counters
with_packet_counts c packets orphans oversizes bad =
    record {
      tlv_packets = packets;
      ip_errors = c.ip_errors;
      non_mmtp = c.non_mmtp;
      ntp = c.ntp;
      tables = c.tables;
      crc_errors = c.crc_errors;
      malformed = c.malformed;
      version_changes = c.version_changes;
      orphan_fragments = orphans;
      oversize = oversizes;
      message_malformed = bad;
      split_errors = c.split_errors;
    }

-- with other counts of what tables raise
abbrev pub with_table_counts : Counters → (tables crc malformed changes bad breaks : ℕ) → Counters
with_table_counts c tables crc malformed changes bad breaks =
    record {
      tlv_packets = c.tlv_packets;
      ip_errors = c.ip_errors;
      non_mmtp = c.non_mmtp;
      ntp = c.ntp;
      tables = tables;
      crc_errors = crc;
      malformed = malformed;
      version_changes = changes;
      orphan_fragments = c.orphan_fragments;
      oversize = c.oversize;
      message_malformed = bad;
      split_errors = breaks;
    }

-- what a table adds to the counts
pub record Increments : Type 0 where
  pub crc_errors : ℕ
  pub malformed : ℕ
  pub version_changes : ℕ
  pub breaks : ℕ

abbrev pub increments : ℕ → ℕ → ℕ → ℕ → Increments
increments c m v b = record { crc_errors = c; malformed = m; version_changes = v; breaks = b }

-- a table more, with what it adds
unfoldable pub table_counted : Counters → Increments → Counters
table_counted c x =
    with_table_counts c (c.tables + 1) (c.crc_errors + x.crc_errors) (c.malformed + x.malformed) (c.version_changes + x.version_changes)
    c.message_malformed (c.split_errors + x.breaks)

-- a section: a bad header or CRC is counted; a section of the kept version is passed over; another counts a version change
-- before its body is read
unfoldable pub section_increments : Section → Option Kept → Increments
unfolding other_version
section_increments x k =
    if not x.header_and_crc_good then increments (one x.crc_bad) (one (not x.crc_bad)) 0 0
    else if not (other_version k x.version) then increments 0 0 0 0
    else increments 0 (one (not x.body_ok)) (one (is_some k)) x.breaks

-- what is kept, beside the MPT of each control id
pub record KeptTables : Type 0 where
  pub plt : Option Bytes
  pub tot : Option Bytes
  pub kept : List (ℕ × Kept)
  -- a count for each of the 256 table ids that are not read
  pub others : List ℕ

abbrev pub kept_tables_with : KeptTables → List (ℕ × Kept) → KeptTables
kept_tables_with s k = record { plt = s.plt; tot = s.tot; kept = k; others = s.others }

-- a table of a message, by its id (Table 4-8)
pub data Table : Type 0 where
  -- no bytes
  empty_table : Table
  -- 11h to 20h: whether it parses, how many loops break, its declared bytes
  mpt_table : Bool → ℕ → Bytes → Table
  -- 80h
  plt_table : Bool → Bytes → Table
  -- A1h: whether it parses, and whether the CRC is what fails
  tot_table : Bool → Bool → ℕ → Bytes → Table
  -- 8Bh to 9Bh, 9Dh, 9Fh, A0h under 7 bytes
  truncated_section : Table
  a_section : Section → Table
  other_table : ℕ → Table

abbrev pub mpt_parses : Option Mpt → Bool
mpt_parses o = is_some o

abbrev pub plt_parses : Option Plt → Bool
plt_parses o = is_some o

abbrev pub tot_parses : Result Tot SectionError → Bool
tot_parses r = is_ok r

abbrev pub tot_crc_bad : Result Tot SectionError → Bool
tot_crc_bad (Ok t) = false
tot_crc_bad (Err e) = is_crc e

-- an MPT or a PLT declares 4 bytes and its length; a TOT declares as a section does
abbrev pub declared_table : Bytes → Bytes
declared_table b = take (be 2 b 2 + 4) b

abbrev pub long_table : Bytes → Table
long_table b = if length b <? 7 then truncated_section else a_section (section_of b)

unfoldable pub table_by_id : ℕ → Bytes → Table
table_by_id id b =
    if id <? mpt_first_id then other_table id
    else if id ≤? mpt_id then mpt_table (mpt_parses (mpt_of b).mpt) (mpt_of b).breaks (declared_table b)
    else if id =? plt_id then plt_table (plt_parses (plt_of b)) (declared_table b)
    else if id =? tot_id then tot_table (tot_parses (tot_of b).result) (tot_crc_bad (tot_of b).result) (tot_of b).breaks (declared_section b)
    else if id <? eit_first_id then other_table id
    else if id ≤? eit_last_id then long_table b
    else if id =? bit_id then long_table b
    else if id =? sdt_actual_id then long_table b
    else if id =? sdt_other_id then long_table b
    else other_table id

unfoldable pub table_read : Bytes → Table
table_read b = if length b =? 0 then empty_table else table_by_id (slice_index b 0) b

-- an MPT or a PLT of another version than the kept one's
abbrev pub changes : Option Bytes → Bytes → Bool
changes None b = false
changes (Some old) b = not (slice_index_or old 1 0 =? slice_index_or b 1 0)

-- what a table adds to the counts, from the MPT `m` that is kept for its control id and all else that is kept
unfoldable pub table_increments : Option Bytes → KeptTables → Table → Increments
table_increments m s empty_table = increments 0 0 0 0
table_increments m s (mpt_table ok breaks b) = increments 0 (one (not ok)) (one (ok && changes m b)) breaks
table_increments m s (plt_table ok b) = increments 0 (one (not ok)) (one (ok && changes s.plt b)) 0
table_increments m s (tot_table ok crc breaks b) = increments (one crc) (one (not ok && not crc)) 0 breaks
table_increments m s truncated_section = increments 0 1 0 0
table_increments m s (a_section x) = section_increments x (find x.key s.kept)
table_increments m s (other_table id) = increments 0 0 0 0

-- what is kept after it
abbrev pub latest : Bool → Option Bytes → Bytes → Option Bytes
latest true o b = Some b
latest false o b = o

-- the MPT of its control id
unfoldable pub mpt_after : Option Bytes → Table → Option Bytes
mpt_after m empty_table = m
mpt_after m (mpt_table ok breaks b) = latest ok m b
mpt_after m (plt_table ok b) = m
mpt_after m (tot_table ok crc breaks b) = m
mpt_after m truncated_section = m
mpt_after m (a_section x) = m
mpt_after m (other_table id) = m

unfoldable pub mpt_after_all : Option Bytes → List Table → Option Bytes
unfolding mpt_after
mpt_after_all m [] = m
mpt_after_all m (t ∷ ts) = mpt_after_all (mpt_after m t) ts

-- all else
unfoldable pub stored : KeptTables → Table → KeptTables
stored s empty_table = s
stored s (mpt_table ok breaks b) = s
stored s (plt_table ok b) =
    record { plt = latest ok s.plt b; tot = s.tot; kept = s.kept; others = s.others }
stored s (tot_table ok crc breaks b) =
    record { plt = s.plt; tot = latest ok s.tot b; kept = s.kept; others = s.others }
stored s truncated_section = s
stored s (a_section x) = kept_tables_with s (keep x s.kept)
stored s (other_table id) =
    record { plt = s.plt; tot = s.tot; kept = s.kept; others = slice_set s.others id (slice_index s.others id + 1) }

unfoldable pub stored_all : KeptTables → List Table → KeptTables
unfolding stored
stored_all s [] = s
stored_all s (t ∷ ts) = stored_all (stored s t) ts

-- the counts after tables, each from what those before it leave
unfoldable pub counted_all : Option Bytes → KeptTables → Counters → List Table → Counters
unfolding mpt_after stored table_counted table_increments
counted_all m s c [] = c
counted_all m s c (t ∷ ts) = counted_all (mpt_after m t) (stored s t) (table_counted c (table_increments m s t)) ts
