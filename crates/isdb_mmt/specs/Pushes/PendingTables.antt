-- The walk on copies: an index with a log, and what one table makes of them. Its memory is not limited here.
use Rattle.std.specs.Prelude.{◌≡◌, ℕ, ◌+◌, ◌-◌, ◌*◌, ◌<◌, ◌≤◌, max, Bool, true, false, List, [], ◌∷◌, ◌++◌, map, length, slice_index, slice_set, Option, None, Some}
use Rattle.isdb_tlv.specs.Guards.{◌<?◌, ◌=?◌}
use Rattle.std.specs.Prelude.{if◌then◌else◌}
use Rattle.isdb_mmt.specs.declared.decoder.counts.Counters.{Counters}
use Rattle.isdb_mmt.specs.Memory.Layout.{most_sections, most_message_area, most_table_area, most_count, table_ids}
use Rattle.isdb_mmt.specs.Decoder.Packet.{Bytes}
use Rattle.isdb_mmt.specs.Memory.Lent.{part, indexed}
use Rattle.isdb_mmt.specs.Decoder.Kept.{Kept, Table, a_section, section_of, with_table_counts}
use Rattle.isdb_mmt.specs.declared.part.Part.{Part}
use Rattle.isdb_mmt.specs.declared.decoder.section.KeptSection.{KeptSection}
use Rattle.isdb_mmt.specs.declared.decoder.table_outcome.Recent.{Recent}
use Rattle.isdb_mmt.specs.declared.decoder.table_outcome.TableAction.{TableAction}
use Rattle.isdb_mmt.specs.declared.decoder.table_outcome.TableAction.TheVariants.{Nothing, Other, Mpt, Plt, Tot, Put}
use Rattle.isdb_mmt.specs.declared.decoder.table_outcome.TableOutcome.{TableOutcome}
use Rattle.isdb_mmt.specs.declared.decoder.walk.WalkState.{WalkState}
use Rattle.isdb_mmt.specs.Formats.Message.{tables_from}
use Rattle.isdb_mmt.specs.Pushes.Placed.{Placed, placed}
use Rattle.isdb_mmt.specs.Pushes.TableState.{TableState}
use Rattle.isdb_mmt.specs.Pushes.TableOutcome.{index_size, index_of, table_outcome}

-- a place with its log: 0, or one more than the place in the message of the table that was last kept there
pub record Logged : Type 0 where
  pub place : KeptSection
  pub from : ℕ

abbrev pub logged : KeptSection → ℕ → Logged
logged x f = record { place = x; from = f }

abbrev pub with_log : List KeptSection → List ℕ → List Logged
with_log [] fs = []
with_log (x ∷ xs) [] = logged x 0 ∷ with_log xs []
with_log (x ∷ xs) (f ∷ fs) = logged x f ∷ with_log xs fs

abbrev pub places_of : List Logged → List KeptSection
places_of es = map (λ (e : Logged). e.place) es

pub record PendingTables : Type 0 where
  pub index : List Logged
  pub others : List ℕ
  pub tables : ℕ
  pub crc_errors : ℕ
  pub malformed : ℕ
  pub changes : ℕ
  pub breaks : ℕ
  pub mpt : Option Recent
  pub plt : Option Recent
  pub tot : Option Recent
  pub longest : ℕ

abbrev pub pending_of : List ℕ → List ℕ → List ℕ → WalkState → PendingTables
pending_of ix log others g =
    record {
      index = with_log (index_of g.used ix) log;
      others = others;
      tables = g.tables;
      crc_errors = g.crc_errors;
      malformed = g.malformed;
      changes = g.version_changes;
      breaks = g.split_errors;
      mpt = g.mpt;
      plt = g.plt;
      tot = g.tot;
      longest = g.longest;
    }

abbrev pub recent : ℕ → ℕ → ℕ → Option Recent
recent v f n = Some (record { version = v; from = f; length = n })

abbrev pub put_at : List Logged → ℕ → Logged → List Logged
put_at es i e = if i <? length es then slice_set es i e else es ++ (e ∷ [])

abbrev pub index_after : List Logged → TableAction → ℕ → List Logged
index_after es Nothing f = es
index_after es (Other id) f = es
index_after es (Mpt v n) f = es
index_after es (Plt v n) f = es
index_after es (Tot n) f = es
index_after es (Put i x) f = put_at es i (logged x f)

abbrev pub others_after : List ℕ → TableAction → List ℕ
others_after l Nothing = l
others_after l (Other id) = slice_set l id (slice_index l id + 1)
others_after l (Mpt v n) = l
others_after l (Plt v n) = l
others_after l (Tot n) = l
others_after l (Put i x) = l

abbrev pub mpt_after : Option Recent → TableAction → ℕ → Option Recent
mpt_after r Nothing f = r
mpt_after r (Other id) f = r
mpt_after r (Mpt v n) f = recent v f n
mpt_after r (Plt v n) f = r
mpt_after r (Tot n) f = r
mpt_after r (Put i x) f = r

abbrev pub plt_after : Option Recent → TableAction → ℕ → Option Recent
plt_after r Nothing f = r
plt_after r (Other id) f = r
plt_after r (Mpt v n) f = r
plt_after r (Plt v n) f = recent v f n
plt_after r (Tot n) f = r
plt_after r (Put i x) f = r

abbrev pub tot_after : Option Recent → TableAction → ℕ → Option Recent
tot_after r Nothing f = r
tot_after r (Other id) f = r
tot_after r (Mpt v n) f = r
tot_after r (Plt v n) f = r
tot_after r (Tot n) f = recent 0 f n
tot_after r (Put i x) f = r

-- how long a table is kept
abbrev pub kept_length : TableAction → ℕ
kept_length Nothing = 0
kept_length (Other id) = 0
kept_length (Mpt v n) = n
kept_length (Plt v n) = n
kept_length (Tot n) = n
kept_length (Put i x) = x.length

abbrev pub pending_after : PendingTables → TableOutcome → ℕ → PendingTables
pending_after d t f =
    record {
      index = index_after d.index t.act f;
      others = others_after d.others t.act;
      tables = d.tables + 1;
      crc_errors = d.crc_errors + t.crc_errors;
      malformed = d.malformed + t.malformed;
      changes = d.changes + t.version_changes;
      breaks = d.breaks + t.breaks;
      mpt = mpt_after d.mpt t.act f;
      plt = plt_after d.plt t.act f;
      tot = tot_after d.tot t.act f;
      longest = max d.longest (kept_length t.act);
    }

-- tables of a message are read by `table_read`, those of a control signal as sections
abbrev pub section_read : Bytes → Table
section_read b = a_section (section_of b)

abbrev pub pending_with : (Bytes → Table) → PendingTables → Placed → PendingTables
pending_with read d x = pending_after d (table_outcome (places_of d.index) d.mpt d.plt (read x.bytes)) (x.at + 1)

unfoldable pub pending_with_all : (Bytes → Table) → PendingTables → List Placed → PendingTables
pending_with_all read d [] = d
pending_with_all read d (x ∷ xs) = pending_with_all read (pending_with read d x) xs

-- ---- what an index and its log stand for, with the message and the areas of the kept tables

-- a kept table of `n` bytes: in the message where it is logged, else in its area
abbrev pub bytes_at : Bytes → Bytes → ℕ → ℕ → ℕ → Bytes
bytes_at m areas at f n = if f =? 0 then part at n areas else part (f - 1) n m

abbrev pub committed_entry : Bytes → Bytes → ℕ → ℕ → Logged → ℕ × Kept
committed_entry m areas area i e = (
  e.place.key,
  record { version = e.place.version; bytes = bytes_at m areas (i * area) e.from e.place.length },
)

abbrev pub committed_kept : Bytes → Bytes → ℕ → List Logged → List (ℕ × Kept)
committed_kept m areas area es = indexed (committed_entry m areas area) 0 es

abbrev pub committed_recent : Bytes → Bytes → ℕ → Option Recent → Option Bytes
committed_recent m areas at None = None
committed_recent m areas at (Some r) = Some (bytes_at m areas at r.from r.length)

-- where the areas of the MPT, the PLT and the TOT start
pub record Areas : Type 0 where
  pub bytes : Bytes
  pub area : ℕ
  pub mpt : ℕ
  pub plt : ℕ
  pub tot : ℕ

abbrev pub committed_counters : Counters → PendingTables → Counters
committed_counters c d = with_table_counts c d.tables d.crc_errors d.malformed d.changes c.message_malformed d.breaks

unfoldable pub committed : Bytes → Areas → Counters → PendingTables → TableState
committed m a c d =
    record {
      mpt = committed_recent m a.bytes a.mpt d.mpt;
      store =
          record {
            plt = committed_recent m a.bytes a.plt d.plt;
            tot = committed_recent m a.bytes a.tot d.tot;
            kept = committed_kept m a.bytes a.area d.index;
            others = d.others;
          };
      counters = committed_counters c d;
      longest = d.longest;
    }

-- the versions of the MPT and the PLT are those of their bytes
abbrev pub VersionOf : Option Bytes → Option Recent → Type 0
VersionOf None None = Unit {0}
VersionOf None (Some r) = ⊥
VersionOf (Some b) None = ⊥
VersionOf (Some b) (Some r) = r.version ≡ slice_index b 1

pub record Versions (m : Bytes) (a : Areas) (d : PendingTables) : Type 0 where
  pub mpt : VersionOf (committed_recent m a.bytes a.mpt d.mpt) d.mpt
  pub plt : VersionOf (committed_recent m a.bytes a.plt d.plt) d.plt

-- ---- what a call on the copies needs, and what it leaves

-- the most that a table adds to a count, and the most that a count may be before it
abbrev pub most_by_table : ℕ
most_by_table = 2097152

abbrev pub most_before : ℕ
most_before = 512 * most_count

pub record Room (g : WalkState) (others : List ℕ) (most : ℕ) : Type 0 where
  pub tables : g.tables ≤ most
  pub crc_errors : g.crc_errors ≤ most
  pub malformed : g.malformed ≤ most
  pub changes : g.version_changes ≤ most
  pub breaks : g.split_errors ≤ most
  pub bad : g.message_malformed ≤ most
  pub each : (k : ℕ) → slice_index others k ≤ most

pub record Copies (ix log others : List ℕ) (g : WalkState) : Type 0 where
  pub index_long : length ix ≡ index_size
  pub log_long : length log ≡ most_sections
  pub others_long : length others ≡ table_ids
  pub used : g.used ≤ most_sections

-- what a table adds, and where it is put
abbrev pub PutWithin : TableAction → ℕ → Type 0
PutWithin Nothing used = Unit {0}
PutWithin (Other id) used = Unit {0}
PutWithin (Mpt v n) used = Unit {0}
PutWithin (Plt v n) used = Unit {0}
PutWithin (Tot n) used = Unit {0}
PutWithin (Put i x) used = i ≤ used

pub record Small (t : TableOutcome) (used most : ℕ) : Type 0 where
  pub crc_errors : t.crc_errors ≤ most
  pub malformed : t.malformed ≤ most
  pub changes : t.version_changes ≤ most
  pub breaks : t.breaks ≤ most
  pub within : PutWithin t.act used

pub record CanApply (ix log others : List ℕ) (g : WalkState) (t : TableOutcome) : Type 0 where
  pub copies : Copies ix log others g
  pub room : Room g others most_before
  pub told : Small t g.used most_by_table

pub record CanCount (g : WalkState) (t : TableOutcome) : Type 0 where
  pub tables : g.tables ≤ most_before
  pub crc_errors : g.crc_errors + t.crc_errors ≤ most_before + most_by_table
  pub malformed : g.malformed + t.malformed ≤ most_before + most_by_table
  pub changes : g.version_changes + t.version_changes ≤ most_before + most_by_table
  pub breaks : g.split_errors + t.breaks ≤ most_before + most_by_table

-- with the counts that a table adds
abbrev pub counted_by : WalkState → TableOutcome → WalkState
counted_by g t =
    record {
      used = g.used;
      tables = g.tables + 1;
      crc_errors = g.crc_errors + t.crc_errors;
      malformed = g.malformed + t.malformed;
      version_changes = g.version_changes + t.version_changes;
      split_errors = g.split_errors + t.breaks;
      message_malformed = g.message_malformed;
      mpt = g.mpt;
      plt = g.plt;
      tot = g.tot;
      longest = g.longest;
      full = g.full;
    }

-- with a table of `n` bytes kept
abbrev pub kept_with : WalkState → ℕ → Option Recent → Option Recent → Option Recent → ℕ → WalkState
kept_with g used m p t n =
    record {
      used = used;
      tables = g.tables;
      crc_errors = g.crc_errors;
      malformed = g.malformed;
      version_changes = g.version_changes;
      split_errors = g.split_errors;
      message_malformed = g.message_malformed;
      mpt = m;
      plt = p;
      tot = t;
      longest = max g.longest n;
      full = g.full;
    }

-- with a message or a table that is cut short, and with no place for a section
abbrev pub marked : WalkState → ℕ → Bool → WalkState
marked g bad full =
    record {
      used = g.used;
      tables = g.tables;
      crc_errors = g.crc_errors;
      malformed = g.malformed;
      version_changes = g.version_changes;
      split_errors = g.split_errors;
      message_malformed = bad;
      mpt = g.mpt;
      plt = g.plt;
      tot = g.tot;
      longest = g.longest;
      full = full;
    }

abbrev pub filled : WalkState → WalkState
filled g = marked g g.message_malformed true

abbrev pub cut_short : WalkState → WalkState
cut_short g = marked g (g.message_malformed + 1) g.full

abbrev pub used_with : ℕ → ℕ → ℕ
used_with used i = if i <? used then used else i + 1

-- `full` is kept once it is set, and is set exactly where a section is one more than the capacity; else the copies are the walk's
pub record WalkedTo (e : PendingTables) (g r : WalkState) (ix log others : List ℕ) : Type 0 where
  pub stays : g.full ≡ true → r.full ≡ true
  pub over : g.full ≡ false → r.full ≡ true → most_sections < length e.index
  pub now : r.full ≡ false → (g.full ≡ false) × (pending_of ix log others r ≡ e)
  pub used : r.used ≤ most_sections

pub record Applied (ix log others : List ℕ) (g : WalkState) (t : TableOutcome) (f : ℕ) (r : WalkState) (ix' log' others' : List ℕ) : Type 0 where
  pub to : WalkedTo (pending_after (pending_of ix log others g) t f) g r ix' log' others'
  pub room : (most : ℕ) → Room g others most → Room r others' (most + 1 * most_by_table)
  pub bad : r.message_malformed ≡ g.message_malformed

-- a walk over tables, in so many bytes that counts rise by `n` tables' most; `k` messages or tables are cut short
pub record Walked (read : Bytes → Table) (ix log others : List ℕ) (g : WalkState) (xs : List Placed) (n k : ℕ) (r : WalkState) (ix' log' others' : List ℕ) : Type 0 where
  pub to : WalkedTo (pending_with_all read (pending_of ix log others g) xs) g r ix' log' others'
  pub room : (most : ℕ) → Room g others most → Room r others' (most + n * most_by_table)
  pub bad : r.message_malformed ≡ g.message_malformed + k

abbrev pub at : ℕ → Bytes → Placed
at k b = record { at = k; bytes = b }

-- a section of a control packet's data
pub record CanTakeSection (ix log others : List ℕ) (g : WalkState) (b : Bytes) (k : ℕ) : Type 0 where
  pub copies : Copies ix log others g
  pub room : Room g others most_before
  pub short : length b ≤ most_message_area
  pub near : k ≤ most_message_area

pub record CanWalkSections (ix log others : List ℕ) (g : WalkState) (b : Bytes) : Type 0 where
  pub copies : Copies ix log others g
  pub room : Room g others most_count
  pub short : length b ≤ most_message_area

-- a table that is a part of a message, which starts at `from`
pub record CanTake (ix log others : List ℕ) (g : WalkState) (m : Bytes) (p : Part) (from : ℕ) : Type 0 where
  pub copies : Copies ix log others g
  pub room : Room g others most_before
  pub lies : p.start + p.length ≤ length m
  pub few : p.length ≤ most_table_area
  pub short : from + length m ≤ most_message_area

-- tables of a message, or of its body, which starts at `from`
pub record CanWalk (ix log others : List ℕ) (g : WalkState) (m : Bytes) (from most : ℕ) : Type 0 where
  pub copies : Copies ix log others g
  pub room : Room g others most
  pub short : from + length m ≤ most_message_area

-- the tables of a PA message's body, which starts at `from` of the joined message
abbrev pub in_body : Bytes → ℕ → ℕ → List Placed
in_body b from first = map (placed from b) (tables_from b first).found
