-- No media id, control id or key stands twice in a state, and it has no more of each than the limits say: a packet that the questions
-- take leaves it so. Assumes nothing.
use Rattle.std.proofs.Common.{◌≡◌, ℕ, ◌+◌, ◌<◌, ◌≤◌, Bool, true, false, cond, List, [], ◌∷◌, length, arith}
use Rattle.isdb_mmt.specs.Decoder.Packet.{Packet, ip_error, ntp, non_mmtp_of, media, message, control, other}
use Rattle.isdb_mmt.specs.Decoder.Maps.{find}
use Rattle.isdb_mmt.specs.Decoder.Kept.{Section, Kept, other_version, keep_if, keep, KeptTables, Table, empty_table, mpt_table, plt_table, tot_table, truncated_section, a_section, other_table, stored, stored_all}
use Rattle.isdb_mmt.specs.Decoder.GivenTables.{tables_given, control_tables}
use Rattle.isdb_mmt.specs.Decoder.Model.{State, reassembly_of, pushed}
use Rattle.isdb_mmt.specs.Decoder.Needs.{needs}
use Rattle.isdb_mmt.specs.Memory.Lent.{distinct}
use Rattle.isdb_mmt.specs.declared.decoder.limits.Limits.{Limits}
use Rattle.isdb_mmt.proofs.Views.{keys}
use Rattle.isdb_mmt.proofs.Every.{distinct_put}

pub record Named (l : Limits) (s : State) : Type 0 where
  pub media_names : distinct (keys s.assets) ≡ true
  pub control_names : distinct (keys s.controls) ≡ true
  pub kept_names : distinct (keys s.store.kept) ≡ true
  pub media : length s.assets ≤ l.media_ids
  pub lines : length s.controls ≤ l.control_ids
  pub sections : length s.store.kept ≤ l.sections

-- what the questions say of a state and a packet
pub record Takes (l : Limits) (s : State) (p : Packet) : Type 0 where
  pub packets : s.counters.tlv_packets < l.packets
  pub media : length s.assets + (needs s p).media_ids ≤ l.media_ids
  pub lines : length s.controls + (needs s p).control_ids ≤ l.control_ids
  pub sections : length s.store.kept + (needs s p).sections ≤ l.sections
  pub object : (needs s p).object ≤ l.mfu_area
  pub message : (needs s p).message ≤ l.message_area
  pub table : (needs s p).table ≤ l.table_area

-- ---- sections that are kept

names_if : (h n b : Bool) (x : Section) (m : List (ℕ × Kept)) → distinct (keys m) ≡ true
    → distinct (keys (cond h (keep_if n b x m) m)) ≡ true
unfolding keep_if
names_if true true true x m d = distinct_put x.key _ m d
names_if true true false x m d = d
names_if true false b x m d = d
names_if false n b x m d = d

names_stored : (s : KeptTables) (t : Table) → distinct (keys s.kept) ≡ true → distinct (keys (stored s t).kept) ≡ true
unfolding stored keep
names_stored s empty_table d = d
names_stored s (mpt_table ok k b) d = d
names_stored s (plt_table ok b) d = d
names_stored s (tot_table ok c k b) d = d
names_stored s truncated_section d = d
names_stored s (a_section x) d =
    names_if x.header_and_crc_good (other_version (find x.key s.kept) x.version) x.body_ok x s.kept d
names_stored s (other_table id) d = d

names_all : (ts : List Table) (s : KeptTables) → distinct (keys s.kept) ≡ true → distinct (keys (stored_all s ts).kept) ≡ true
unfolding stored_all
names_all [] s d = d
names_all (t ∷ ts) s d = names_all ts (stored s t) (names_stored s t d)

-- ---- one packet

module _ (s : State) where
  media_names_lem : (p : Packet) → distinct (keys s.assets) ≡ true → distinct (keys (pushed s p).assets) ≡ true
  unfolding pushed
  media_names_lem ip_error d = d
  media_names_lem (ntp t) d = d
  media_names_lem non_mmtp_of d = d
  media_names_lem (media m) d = distinct_put m.id _ s.assets d
  media_names_lem (message c) d = d
  media_names_lem (control bs) d = d
  media_names_lem other d = d

  control_names_lem : (p : Packet) → distinct (keys s.controls) ≡ true → distinct (keys (pushed s p).controls) ≡ true
  unfolding pushed
  control_names_lem ip_error d = d
  control_names_lem (ntp t) d = d
  control_names_lem non_mmtp_of d = d
  control_names_lem (media m) d = d
  control_names_lem (message c) d = distinct_put c.id _ s.controls d
  control_names_lem (control bs) d = d
  control_names_lem other d = d

  kept_names : (p : Packet) → distinct (keys s.store.kept) ≡ true → distinct (keys (pushed s p).store.kept) ≡ true
  unfolding pushed
  kept_names ip_error d = d
  kept_names (ntp t) d = d
  kept_names non_mmtp_of d = d
  kept_names (media m) d = d
  kept_names (message c) d = names_all (tables_given (reassembly_of c.id s) c) s.store d
  kept_names (control bs) d = names_all (control_tables bs) s.store d
  kept_names other d = d

pub named_push : (l : Limits) (s : State) (p : Packet) → Named l s → Takes l s p → Named l (pushed s p)
unfolding needs
named_push l s p h t =
    record {
      media_names = media_names_lem s p h.media_names;
      control_names = control_names_lem s p h.control_names;
      kept_names = kept_names s p h.kept_names;
      media = omega (arith, t.media);
      lines = omega (arith, t.lines);
      sections = omega (arith, t.sections);
    }
