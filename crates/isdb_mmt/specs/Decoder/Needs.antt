-- What the decoder would need for a packet from a state, with unlimited memory: questions 8, 9 and 10 of a call compare it with
-- what the session has.
use Rattle.std.specs.Prelude.{ℕ, ◌+◌, ◌-◌, max, cond, ◌&&◌, List, [], ◌∷◌, length, drop, Option, None, Some}
use Rattle.isdb_mmt.specs.Decoder.Packet.{Bytes, PayloadUnit, MpuPacket, MessagePacket, Packet, ip_error, ntp, non_mmtp_of, media, message, control, other, readable}
use Rattle.isdb_mmt.specs.Decoder.Maps.{find}
use Rattle.isdb_mmt.specs.Decoder.Objects.{Mfu, Asset, UnitEffect, unit_effect, after_unit, after_headers, Rec}
use Rattle.isdb_mmt.specs.Decoder.Reassembly.{PartialMessage, Reassembly, short, flags_of, part_before, joined_on}
use Rattle.isdb_mmt.specs.Decoder.Kept.{other_version, KeptTables, stored, Table, empty_table, mpt_table, plt_table, tot_table, truncated_section, a_section, other_table}
use Rattle.isdb_mmt.specs.Decoder.GivenTables.{tables_given, control_tables}
use Rattle.isdb_mmt.specs.Decoder.Model.{State, asset_of, control_of, reassembly_of, pushed, gives}
use Rattle.isdb_mmt.specs.declared.mpu.FragmentationIndicator.{FragmentationIndicator}
use Rattle.isdb_mmt.specs.declared.mpu.FragmentationIndicator.TheVariants.{Complete, Head, Middle, Last}
use Rattle.isdb_mmt.specs.declared.message.Division.{Division}
use Rattle.isdb_mmt.specs.declared.message.Division.TheVariants.{Undivided, First, Middle as middle_part, Last as last_part}

pub record Needs : Type 0 where
  -- places that it takes, of each sort
  pub media_ids : ℕ
  pub control_ids : ℕ
  pub sections : ℕ
  -- the longest object, message and table that it holds, joins or keeps on the way
  pub object : ℕ
  pub message : ℕ
  pub table : ℕ
  -- the records that it hands out, and their data
  pub records : ℕ
  pub data_bytes : ℕ

-- an object held after a unit, or delivered by it
abbrev pub held_length : Option Mfu → ℕ
held_length None = 0
held_length (Some h) = length h.bytes

abbrev pub longest_of : List Mfu → ℕ
longest_of [] = 0
longest_of (h ∷ hs) = max (length h.bytes) (longest_of hs)

-- a Complete unit needs no area; an object above the maximum is dropped and asks for none
abbrev pub unit_area : FragmentationIndicator → UnitEffect → ℕ
unit_area Complete r = 0
unit_area Head r = held_length r.held
unit_area Middle r = held_length r.held
unit_area Last r = longest_of r.outs

unfoldable pub units_need : MpuPacket → Asset → List PayloadUnit → ℕ
unfolding unit_effect after_unit
units_need m a [] = 0
units_need m a (u ∷ us) = max (unit_area u.fragment (unit_effect m a u)) (units_need m (after_unit a (unit_effect m a u)) us)

abbrev pub partial_length : Option PartialMessage → ℕ
partial_length None = 0
partial_length (Some j) = length j.bytes

-- an undivided message needs no area
abbrev pub fragment_area : Division → Option PartialMessage → Bytes → ℕ
fragment_area Undivided j d = 0
fragment_area First j d = length d
fragment_area middle_part j d = partial_length (joined_on j d)
fragment_area last_part j d = partial_length (joined_on j d)

unfoldable pub reassembly_needs : Reassembly → MessagePacket → ℕ
unfolding part_before joined_on
reassembly_needs l c = cond (short c) 0 (fragment_area (flags_of c).division (part_before l c) (drop 2 c.payload))

-- a table that is kept; one that is passed over or fails asks for none
unfoldable pub table_area_of : KeptTables → Table → ℕ
unfolding find other_version
table_area_of s empty_table = 0
table_area_of s (mpt_table ok breaks b) = cond ok (length b) 0
table_area_of s (plt_table ok b) = cond ok (length b) 0
table_area_of s (tot_table ok crc breaks b) = cond ok (length b) 0
table_area_of s truncated_section = 0
table_area_of s (a_section x) = cond (x.header_and_crc_good && (other_version (find x.key s.kept) x.version && x.body_ok)) (length x.bytes) 0
table_area_of s (other_table id) = 0

unfoldable pub tables_need : KeptTables → List Table → ℕ
unfolding table_area_of stored
tables_need s [] = 0
tables_need s (t ∷ ts) = max (table_area_of s t) (tables_need (stored s t) ts)

abbrev pub object_for : State → Packet → ℕ
object_for s ip_error = 0
object_for s (ntp t) = 0
object_for s non_mmtp_of = 0
object_for s (media m) = units_need m (after_headers (asset_of m.id s) m) (readable m)
object_for s (message c) = 0
object_for s (control bs) = 0
object_for s other = 0

abbrev pub message_for : State → Packet → ℕ
message_for s ip_error = 0
message_for s (ntp t) = 0
message_for s non_mmtp_of = 0
message_for s (media m) = 0
message_for s (message c) = reassembly_needs (reassembly_of c.id s) c
message_for s (control bs) = 0
message_for s other = 0

abbrev pub table_for : State → Packet → ℕ
table_for s ip_error = 0
table_for s (ntp t) = 0
table_for s non_mmtp_of = 0
table_for s (media m) = 0
table_for s (message c) = tables_need s.store (tables_given (reassembly_of c.id s) c)
table_for s (control bs) = tables_need s.store (control_tables bs)
table_for s other = 0

abbrev pub data_of : List Rec → ℕ
data_of [] = 0
data_of (r ∷ rs) = length r.mfu.bytes + data_of rs

unfoldable pub needs : State → Packet → Needs
unfolding pushed gives units_need after_headers asset_of readable reassembly_needs control_of tables_need tables_given
needs s p =
    record {
      media_ids = length (pushed s p).assets - length s.assets;
      control_ids = length (pushed s p).controls - length s.controls;
      sections = length (pushed s p).store.kept - length s.store.kept;
      object = object_for s p;
      message = message_for s p;
      table = table_for s p;
      records = length (gives s p);
      data_bytes = data_of (gives s p);
    }
