-- What is decided of a table against an index of the kept sections: what it adds to the counts, and what it leaves to do.
use Rattle.std.specs.Prelude.{◌≡◌, ℕ, ◌+◌, ◌*◌, ◌≤◌, Bool, true, false, not, ◌&&◌, List, map, length, slice_index, slice_index_or, None, Option, Some, is_ok}
use Rattle.isdb_tlv.specs.Guards.{◌=?◌, ◌<?◌}
use Rattle.std.specs.Prelude.{if◌then◌else◌}
use Rattle.isdb_tlv.specs.Si.{nit_actual_id, nit_other_id, amt_id}
use Rattle.isdb_mmt.specs.Formats.TableIds.{bit_id, sdt_actual_id, sdt_other_id}
use Rattle.isdb_mmt.specs.Decoder.Packet.{Bytes}
use Rattle.isdb_mmt.specs.Decoder.Maps.{one}
use Rattle.isdb_mmt.specs.Memory.Lent.{part, places_from, found_from}
use Rattle.isdb_mmt.specs.Memory.Layout.{most_sections, most_table_area, section_size}
use Rattle.isdb_mmt.specs.Memory.Session.{section_place_of}
use Rattle.isdb_mmt.specs.Decoder.Kept.{key_of, declared_section, section_of, Section, Table, empty_table, mpt_table, plt_table, tot_table, truncated_section, a_section, other_table}
use Rattle.isdb_mmt.specs.Formats.Eit.{eit_body}
use Rattle.isdb_mmt.specs.Formats.Sdt.{sdt_body}
use Rattle.isdb_mmt.specs.Formats.Bit.{bit_body}
use Rattle.isdb_mmt.specs.Formats.Nit.{nit_body}
use Rattle.isdb_mmt.specs.Formats.Amt.{amt_body}
use Rattle.isdb_mmt.specs.declared.table.section.SectionHeader.{SectionHeader}
use Rattle.isdb_mmt.specs.declared.decoder.section.KeptSection.{KeptSection}
use Rattle.isdb_mmt.specs.declared.decoder.table_outcome.BodyRead.{BodyRead}
use Rattle.isdb_mmt.specs.declared.decoder.table_outcome.Recent.{Recent}
use Rattle.isdb_mmt.specs.declared.decoder.table_outcome.TableAction.{TableAction}
use Rattle.isdb_mmt.specs.declared.decoder.table_outcome.TableAction.TheVariants.{Nothing, Other, Mpt, Plt, Tot, Put}
use Rattle.isdb_mmt.specs.declared.decoder.table_outcome.TableOutcome.{TableOutcome}

-- an index: section places from its start on
abbrev pub index_size : ℕ
index_size = most_sections * section_size

-- the first `n` places of an index
unfoldable pub index_of : ℕ → List ℕ → List KeptSection
index_of n l = map section_place_of (places_from n section_size 0 l)

abbrev pub place_at : List ℕ → ℕ → KeptSection
place_at l i = section_place_of (part (section_size * i) section_size l)

abbrev pub keys_of : List KeptSection → List ℕ
keys_of ks = map (λ (k : KeptSection). k.key) ks

abbrev pub no_section : KeptSection
no_section = record { key = 0; version = 0; length = 0 }

-- the body of a section whose header is good, by its table id
abbrev pub body_read : Bool → ℕ → BodyRead
body_read ok n = record { ok = ok; breaks = n }

unfoldable pub body_from : ℕ → SectionHeader → Bytes → BodyRead
body_from id h b =
    if id =? bit_id then body_read (is_ok (bit_body h b).result) (bit_body h b).breaks
    else if id =? sdt_actual_id then body_read (is_ok (sdt_body h b).result) (sdt_body h b).breaks
    else if id =? sdt_other_id then body_read (is_ok (sdt_body h b).result) (sdt_body h b).breaks
    else if id =? nit_actual_id then body_read (is_ok (nit_body h b)) 0
    else if id =? nit_other_id then body_read (is_ok (nit_body h b)) 0
    else if id =? amt_id then body_read (is_ok (amt_body h b)) 0
    else body_read (is_ok (eit_body h b).result) (eit_body h b).breaks

abbrev pub outcome : ℕ → ℕ → ℕ → ℕ → TableAction → TableOutcome
outcome c m v b a = record { crc_errors = c; malformed = m; version_changes = v; breaks = b; act = a }

-- what a section whose header is good leaves, for the place `i`
unfoldable pub body_put : Bytes → SectionHeader → Bytes → ℕ → ℕ → ℕ → TableOutcome
body_put t h b change i key =
    if (body_from (slice_index t 0) h b).ok
    then outcome 0 0 change (body_from (slice_index t 0) h b).breaks (Put i (record { key = key; version = h.version; length = length (declared_section t) }))
    else outcome 0 1 change (body_from (slice_index t 0) h b).breaks Nothing

abbrev pub version_by : List KeptSection → Bytes → SectionHeader → Bytes → Option ℕ → TableOutcome
version_by ks t h b None = body_put t h b 0 (length ks) (key_of t)
version_by ks t h b (Some i) =
    if (slice_index_or ks i no_section).version =? h.version then outcome 0 0 0 0 Nothing else body_put t h b 1 i (key_of t)

unfoldable pub version_for : List KeptSection → Bytes → SectionHeader → Bytes → TableOutcome
version_for ks t h b = version_by ks t h b (found_from 0 (keys_of ks) (key_of t))

-- a kept table of another version
abbrev pub changes_to : Option Recent → ℕ → Bool
changes_to None v = false
changes_to (Some r) v = not (r.version =? v)

-- how long it is, where it is there
abbrev pub recent_length : Option Recent → ℕ
recent_length None = 0
recent_length (Some r) = r.length

abbrev pub place_of : Section → KeptSection
place_of x = record { key = x.key; version = x.version; length = length x.bytes }

abbrev pub body_outcome : Section → ℕ → ℕ → TableOutcome
body_outcome x change i =
    if x.body_ok then outcome 0 0 change x.breaks (Put i (place_of x)) else outcome 0 1 change x.breaks Nothing

abbrev pub version_outcome : List KeptSection → Section → Option ℕ → TableOutcome
version_outcome ks x None = body_outcome x 0 (length ks)
version_outcome ks x (Some i) =
    if (slice_index_or ks i no_section).version =? x.version then outcome 0 0 0 0 Nothing else body_outcome x 1 i

unfoldable pub section_outcome : List KeptSection → Section → TableOutcome
section_outcome ks x =
    if x.header_and_crc_good then version_outcome ks x (found_from 0 (keys_of ks) x.key)
    else if x.crc_bad then outcome 1 0 0 0 Nothing
    else outcome 0 1 0 0 Nothing

unfoldable pub long_outcome : List KeptSection → Bytes → TableOutcome
long_outcome ks b = if length b <? 7 then outcome 0 1 0 0 Nothing else section_outcome ks (section_of b)

abbrev pub kept : Bool → TableAction → TableAction
kept true a = a
kept false a = Nothing

abbrev pub mpt_outcome : Option Recent → Bool → ℕ → Bytes → TableOutcome
mpt_outcome r ok breaks b = outcome 0 (one (not ok)) (one (ok && changes_to r (slice_index b 1))) breaks (kept ok (Mpt (slice_index b 1) (length b)))

abbrev pub plt_outcome : Option Recent → Bool → Bytes → TableOutcome
plt_outcome r ok b = outcome 0 (one (not ok)) (one (ok && changes_to r (slice_index b 1))) 0 (kept ok (Plt (slice_index b 1) (length b)))

abbrev pub tot_outcome : Bool → Bool → ℕ → Bytes → TableOutcome
tot_outcome ok crc breaks b = outcome (one crc) (one (not ok && not crc)) 0 breaks (kept ok (Tot (length b)))

unfoldable pub table_outcome : List KeptSection → Option Recent → Option Recent → Table → TableOutcome
table_outcome ks m p empty_table = outcome 0 0 0 0 Nothing
table_outcome ks m p (mpt_table ok breaks b) = mpt_outcome m ok breaks b
table_outcome ks m p (plt_table ok b) = plt_outcome p ok b
table_outcome ks m p (tot_table ok crc breaks b) = tot_outcome ok crc breaks b
table_outcome ks m p truncated_section = outcome 0 1 0 0 Nothing
table_outcome ks m p (a_section x) = section_outcome ks x
table_outcome ks m p (other_table id) = outcome 0 0 0 0 (Other id)

-- a table in two pieces
pub record CanDecide (ix : List ℕ) (used : ℕ) (a b : Bytes) : Type 0 where
  pub few : used ≤ most_sections
  pub index_long : length ix ≡ index_size
  pub short : length a + length b ≤ most_table_area
