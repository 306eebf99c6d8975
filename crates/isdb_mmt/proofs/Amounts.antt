-- How much a packet's bytes can hold: units, messages, tables, descriptor loops that break. Each takes bytes of its own, so there
-- are no more of them than bytes. Assumes nothing.
use Rattle.isdb_mmt.specs.declared.table.sdt.Sdt.{Sdt}
use Rattle.isdb_mmt.specs.declared.table.eit.Eit.{Eit}
use Rattle.isdb_mmt.specs.declared.table.bit.Bit.{Bit}
use Rattle.isdb_mmt.specs.declared.table.tot.Tot.{Tot}
use Rattle.isdb_mmt.specs.declared.table.section.Parsed.{Parsed}
use Rattle.std.specs.Prelude.{Err, None, Ok, Result, Some, Option}
use Rattle.isdb_mmt.specs.declared.table.mpt.Asset.{Asset}
use Rattle.isdb_mmt.specs.declared.location.Location.{Location}
use Rattle.std.proofs.Common.{◌≡◌, ℕ, zero, suc, ◌+◌, ◌-◌, ◌<◌, ◌≤◌, Bool, not, eqb, ltb, leb, List, [], ◌∷◌, ◌++◌, length, get_or, take, drop, refl, arith, length-append, length-drop, length-take, ltb-false}
use Rattle.isdb_tlv.specs.Bytes.{be}
use Rattle.isdb_tlv.specs.Crc.{crc_of}
use Rattle.isdb_tlv.specs.Walk.{Next, stop, more, turn, run, also}
use Rattle.isdb_tlv.proofs.Guards.{cond_elim}
use Rattle.isdb_mmt.specs.Formats.Part.{part_at, part_of}
use Rattle.isdb_mmt.specs.Decoder.Packet.{Bytes}
use Rattle.isdb_mmt.specs.Formats.Mpu.{unit_step, item, units_from, units_of}
use Rattle.isdb_mmt.specs.Formats.Message.{prefix_width, aggregated_at, body_part, pa_tables, section_table, content_of, table_at, Aggregated, aggregated_item, aggregated_from, table_item, tables_from, also_message}
use Rattle.isdb_mmt.specs.Formats.Section.{length12, long_section_of, in_section, entries_from, entries_told}
use Rattle.isdb_mmt.specs.Formats.Eit.{eit_of, eit_body}
use Rattle.isdb_mmt.specs.Formats.Sdt.{sdt_of, sdt_body}
use Rattle.isdb_mmt.specs.Formats.Bit.{bit_of, bit_body}
use Rattle.isdb_mmt.specs.Formats.Tot.{tot_of, tot_fields}
use Rattle.isdb_mmt.specs.Formats.Mpt.{mpt_of, mpt_in, mpt_table as mpt_whole_of, mpt_assets, declared_length_of, locations_end, behind_location, asset_fields, asset_behind, asset_at_of, asset_item, assets_from}
use Rattle.isdb_mmt.specs.Formats.Location.{location_of}
use Rattle.isdb_mmt.specs.Decoder.Reassembly.{PartialMessage, TablesFound, parts_of, tables_in, tables_of, tables_of_all, messages_of, cut_of}
use Rattle.isdb_mmt.specs.Decoder.Kept.{section_of, body_read, Body, Table, empty_table, mpt_table, plt_table, tot_table, truncated_section, a_section, other_table, table_read}
use Rattle.isdb_mmt.specs.declared.part.Part.{Part}
use Rattle.isdb_mmt.specs.Formats.Steps.{MessageStep}
use Rattle.isdb_mmt.specs.Formats.Steps.{TableStep}
use Rattle.isdb_mmt.specs.declared.message.Content.{Content}
use Rattle.isdb_mmt.specs.declared.message.Content.TheVariants.{Malformed as bad_message, Nothing, Table as one_table_of, Tables}
use Rattle.isdb_mmt.specs.declared.mpu.Unit.{Unit as DataUnit}
use Rattle.isdb_mmt.specs.Formats.Steps.{UnitStep}
use Rattle.isdb_mmt.specs.declared.walk_step.WalkStep.TheVariants.{End, Malformed, Entry as found}
use Rattle.isdb_mmt.specs.declared.table.section.SectionError.{SectionError}
use Rattle.isdb_mmt.specs.declared.table.section.SectionHeader.{SectionHeader}
use Rattle.isdb_mmt.specs.declared.table.mpt.MptParsed.{MptParsed}
use Rattle.isdb_mmt.proofs.Units.{Inside, unit_inside}
use Rattle.isdb_mmt.proofs.AggregatedMessages.{width_ge}
use Rattle.isdb_mmt.proofs.Entries.{broken_le, breaks_le}
use Rattle.isdb_mmt.proofs.TableKinds.{by_kinds}

-- ---- a walk whose answer grows by no more than it moves ahead

module _ {R : Type 0} (size : R → ℕ) (n : ℕ) where
  abbrev pub Grows : ℕ → Next R → Type 0
  Grows at (stop r) = size r ≤ n - at
  Grows at (more next f) = (at ≤ next) × (next ≤ n) × ((r : R) → size (f r) ≤ size r + (next - at))

  module _ (step : ℕ → Next R) (out : ℕ → R) (z : (at : ℕ) → size (out at) ≡ 0) (grows : (at : ℕ) → Grows at (step at)) where
    grows_on : (k at : ℕ) → ((p : ℕ) → size (run step out k p) ≤ n - p) → (d : Next R) → Grows at d → size (turn (run step out k) d) ≤ n - at
    grows_on k at h (stop r) g = g
    grows_on k at h (more next f) g = omega (arith, h next, g.0, g.1, g.2 (run step out k next))

    pub grows_within : (k at : ℕ) → size (run step out k at) ≤ n - at
    grows_within zero at = omega (arith, z at)
    grows_within (suc k) at = grows_on k at (grows_within k) (step at) (grows at)

-- ---- units

-- what a unit adds is no more than the bytes that it takes
module _ (s : Bytes) (timed aggregated : Bool) (size : Option (List DataUnit) → ℕ) (none-size : size None ≡ 0) (end-size : size (Some []) ≡ 0)
    (also-size : (at next : ℕ) (u : DataUnit) (o : Option (List DataUnit)) → Inside s at (found u next) → size (also u o) ≤ size o + (next - at)) where
  unit_grows : (at : ℕ) (d : UnitStep) → Inside s at d → Grows size (length s) at (item d)
  unit_grows at End w = omega (arith, end-size)
  unit_grows at Malformed w = omega (arith, none-size)
  unit_grows at (found u next) w = (
    omega (arith, w.ahead),
    w.within,
    λ r. also-size at next u r w,
  )

  pub units_grow : size (units_of s timed aggregated) ≤ length s
  unfolding units_of units_from
  units_grow =
      let h = grows_within size (length s) (λ p. item (unit_step s timed aggregated p)) (λ p. None) (λ p. none-size) (λ p. unit_grows p (unit_step s timed aggregated p) (unit_inside s timed aggregated p)) (suc (length s)) 8 in
      omega (arith, h)

abbrev pub unit_count : Option (List DataUnit) → ℕ
unit_count None = 0
unit_count (Some l) = length l

count_also : (u : DataUnit) (o : Option (List DataUnit)) → unit_count (also u o) ≤ unit_count o + 1
count_also u None = omega arith
count_also u (Some l) = omega arith

pub units_le : (s : Bytes) (timed aggregated : Bool) → unit_count (units_of s timed aggregated) ≤ length s
units_le s timed aggregated = units_grow s timed aggregated unit_count refl refl (λ at next u o w. omega (arith, w.ahead, count_also u o))

-- ---- messages and tables

abbrev total_parts_lem : List Part → ℕ
total_parts_lem [] = 0
total_parts_lem (p ∷ ps) = p.length + total_parts_lem ps

abbrev pub total : List Bytes → ℕ
total [] = 0
total (b ∷ bs) = length b + total bs

pub total_append : (xs ys : List Bytes) → total (xs ++ ys) ≡ total xs + total ys
total_append [] ys = omega arith
total_append (x ∷ xs) ys = omega (arith, total_append xs ys)

pub part_le : (s : Bytes) (p : Part) → length (part_of s p) ≤ p.length
part_le s p = omega (arith, length-take p.length (drop p.start s))

part_in : (s : Bytes) (p : Part) → length (part_of s p) ≤ length s
part_in s p = omega (arith, length-take p.length (drop p.start s), length-drop p.start s)

total_parts : (s : Bytes) (ps : List Part) → total (parts_of s ps) ≤ total_parts_lem ps
total_parts s [] = omega arith
total_parts s (p ∷ ps) = omega (arith, total_parts s ps, part_le s p)

length_parts : (s : Bytes) (ps : List Part) → length (parts_of s ps) ≡ length ps
length_parts s [] = refl
length_parts s (p ∷ ps) = omega (arith, length_parts s ps)

-- the messages, their bytes and what is malformed
abbrev spread : Aggregated → ℕ
spread l = total_parts_lem l.found + length l.found + l.malformed

-- of tables, which have no prefix: how many, what is malformed, and apart from that their bytes
abbrev count : Aggregated → ℕ
count l = length l.found + l.malformed

abbrev covered : Aggregated → ℕ
covered l = total_parts_lem l.found

module _ (s : Bytes) (long : Bool) where
  aggregated_grows : (at : ℕ) → Grows spread (length s) at (aggregated_item (aggregated_at s long at))
  unfolding aggregated_at
  aggregated_grows at =
      let w = prefix_width long in
      let n = be w s at in
      let G : MessageStep → Type 0 = λ d. Grows spread (length s) at (aggregated_item d) in
      cond_elim G (ltb (length s - at) w) (λ e. omega arith) (λ e.
      let a = ltb-false (length s - at) w e in
      let g = width_ge long in
      cond_elim G (ltb (length s - (at + w)) n) (λ d. omega arith) (λ d.
      let b = ltb-false (length s - (at + w)) n d in
      (omega arith, omega arith, λ r. omega arith)))

  aggregated_le : spread (aggregated_from s long 0) ≤ length s
  unfolding aggregated_from
  aggregated_le =
      omega (arith, grows_within spread (length s) (λ p. aggregated_item (aggregated_at s long p)) (λ p. record { found = []; malformed = 0 }) (λ p. refl) aggregated_grows (suc (length s)) 0)

-- what a table adds is no more than its bytes, of which there are four at least
module _ (s : Bytes) (size : Aggregated → ℕ) (end-size : size (record { found = []; malformed = 0 }) ≡ 0) (bad-size : size (record { found = []; malformed = 1 }) ≤ 1)
    (also-size : (p : Part) (l : Aggregated) → 4 ≤ p.length → size (also_message p l) ≤ size l + p.length) where
  table_grows : (at : ℕ) → Grows size (length s) at (table_item (table_at s at))
  unfolding table_at
  table_grows at =
      let n = be 2 s (at + 2) + 4 in
      let G : TableStep → Type 0 = λ d. Grows size (length s) at (table_item d) in
      cond_elim G (ltb (length s - at) 4) (λ e. omega (arith, end-size)) (λ e.
      let a = ltb-false (length s - at) 4 e in
      cond_elim G (ltb (length s - at) n) (λ d. omega (arith, bad-size)) (λ d.
      let b = ltb-false (length s - at) n d in
      (omega arith, omega arith, λ r. omega (arith, also-size (part_at at n) r (omega arith)))))

  tables_grow : (at : ℕ) → size (tables_from s at) ≤ length s
  unfolding tables_from
  tables_grow at =
      omega (arith, grows_within size (length s) (λ p. table_item (table_at s p)) (λ p. record { found = []; malformed = 0 }) (λ p. end-size) table_grows (suc (length s)) at)

-- of a message: its tables, their bytes, what is malformed
pub record Fills (n bad : ℕ) (c : TablesFound) : Type 0 where
  pub many : length c.tables ≤ n
  pub long : total c.tables ≤ n
  pub malformed : c.malformed ≤ bad

-- content that lies within the message
abbrev Lies : Bytes → Content → Type 0
Lies m bad_message = Unit {0}
Lies m Nothing = Unit {0}
Lies m (one_table_of p) = 1 ≤ length m
Lies m (Tables p at) = Unit {0}

content_lies : (m : Bytes) → Lies m (content_of m)
unfolding content_of pa_tables section_table
content_lies m =
    cond_elim (Lies m) (ltb (length m) 2) (λ e. tt) (λ e.
    let a = ltb-false (length m) 2 e in
    cond_elim (Lies m) (eqb (be 2 m 0) 0) (λ d.
    cond_elim (Lies m) (ltb (length m) 7) (λ d. tt) (λ d.
    cond_elim (Lies m) (eqb (body_part m).length 0) (λ d. tt) (λ d. tt))) (λ d.
    cond_elim (Lies m) (ltb (be 2 m 0) 0x8000) (λ d. tt) (λ d.
    cond_elim (Lies m) (leb (be 2 m 0) 0x8002) (λ d.
    cond_elim (Lies m) (ltb (length m) 5) (λ d. tt) (λ d.
    cond_elim (Lies m) (ltb (length m - 5) (be 2 m 3)) (λ d. tt) (λ d. omega arith))) (λ d. tt))))

fills_in : (m : Bytes) (c : Content) → Lies m c → Fills (length m) (suc (length m)) (tables_in m c)
fills_in m bad_message l = record { many = omega arith; long = omega arith; malformed = omega arith }
fills_in m Nothing l = record { many = omega arith; long = omega arith; malformed = omega arith }
fills_in m (one_table_of p) l = record { many = l; long = omega (arith, part_in m p); malformed = omega arith }
fills_in m (Tables p at) l =
    let b = part_of m p in
    let h = tables_grow b count refl (omega arith) (λ p l w. omega arith) at in
    let k = tables_grow b covered refl (omega arith) (λ p l w. omega arith) at in
    record {
      many = omega (arith, h, part_in m p, length_parts b (tables_from b at).found);
      long = omega (arith, k, part_in m p, total_parts b (tables_from b at).found);
      malformed = omega (arith, h, part_in m p);
    }

fills_one : (m : Bytes) → Fills (length m) (suc (length m)) (tables_of m)
unfolding tables_of
fills_one m = fills_in m (content_of m) (content_lies m)

fills_all : (ms : List Bytes) → Fills (total ms) (total ms + length ms) (tables_of_all ms)
unfolding tables_of_all
fills_all [] = record { many = omega arith; long = omega arith; malformed = omega arith }
fills_all (m ∷ ms) =
    let x = fills_one m in
    let y = fills_all ms in
    record {
      many = omega (arith, x.many, y.many, length-append (tables_of m).tables (tables_of_all ms).tables);
      long = omega (arith, x.long, y.long, total_append (tables_of m).tables (tables_of_all ms).tables);
      malformed = omega (arith, x.malformed, y.malformed);
    }

pub fills_cut : (j : PartialMessage) → Fills (length j.bytes) (suc (length j.bytes)) (cut_of j)
unfolding cut_of messages_of
fills_cut j =
    let ps = aggregated_from j.bytes j.long 0 in
    let h = aggregated_le j.bytes j.long in
    let x = fills_all (parts_of j.bytes ps.found) in
    let t = total_parts j.bytes ps.found in
    let k = length_parts j.bytes ps.found in
    cond_elim (Fills (length j.bytes) (suc (length j.bytes))) j.aggregated
    (λ e. record { many = omega (arith, x.many, t, h); long = omega (arith, x.long, t, h); malformed = omega (arith, x.malformed, t, k, h) })
    (λ e. fills_one j.bytes)

-- ---- descriptor loops that break

entries_break : (s : Bytes) (k at : ℕ) → (entries_from s k at).breaks ≤ length s - at
unfolding entries_told
entries_break s k at = breaks_le s k at {r = entries_told (entries_from s k at)} refl

eit_body_lem : (h : SectionHeader) (s : Bytes) → (eit_body h s).breaks ≤ length s
unfolding eit_body
eit_body_lem h s = cond_elim (λ (x : Parsed (SectionHeader × Eit)). x.breaks ≤ length s) (ltb (length s) 6) (λ e. omega arith) (λ e. omega (arith, entries_break s 10 6))

sdt_body_lem : (h : SectionHeader) (s : Bytes) → (sdt_body h s).breaks ≤ length s
unfolding sdt_body
sdt_body_lem h s = cond_elim (λ (x : Parsed (SectionHeader × Sdt)). x.breaks ≤ length s) (ltb (length s) 2) (λ e. omega arith) (λ e. omega (arith, entries_break s 3 3))

bit_body_lem : (h : SectionHeader) (s : Bytes) → (bit_body h s).breaks ≤ length s
unfolding bit_body
bit_body_lem h s =
    let P : Parsed (SectionHeader × Bit) → Type 0 = λ x. x.breaks ≤ length s in
    cond_elim P (ltb (length s) 2) (λ e. omega arith) (λ e.
    cond_elim P (ltb (length s) (length12 s 0 + 2)) (λ d. omega arith) (λ d.
    let a = ltb-false (length s) (length12 s 0 + 2) d in
    let c = broken_le (take (length12 s 0) (drop 2 s)) refl in
    omega (arith, entries_break s 1 (length12 s 0 + 2))))

-- so no more break in a whole section
in_section_lem : {R : Type 0} (breaks : R → ℕ) (refused : SectionError → R) (read : SectionHeader → Bytes → R)
    → ((e : SectionError) → breaks (refused e) ≡ 0) → ((h : SectionHeader) (b : Bytes) → breaks (read h b) ≤ length b)
    → (s : Bytes) (x : Result SectionHeader SectionError) → breaks (in_section refused read s x) ≤ length s
in_section_lem breaks refused read clean few s (Err e) = omega (arith, clean e)
in_section_lem breaks refused read clean few s (Ok h) = omega (arith, few h (part_of s h.body), part_in s h.body)

eit_breaks : (s : Bytes) → (eit_of s).breaks ≤ length s
unfolding eit_of
eit_breaks s = in_section_lem (λ (r : Parsed (SectionHeader × Eit)). r.breaks) _ eit_body (λ e. refl) eit_body_lem s (long_section_of s)

sdt_breaks : (s : Bytes) → (sdt_of s).breaks ≤ length s
unfolding sdt_of
sdt_breaks s = in_section_lem (λ (r : Parsed (SectionHeader × Sdt)). r.breaks) _ sdt_body (λ e. refl) sdt_body_lem s (long_section_of s)

bit_breaks : (s : Bytes) → (bit_of s).breaks ≤ length s
unfolding bit_of
bit_breaks s = in_section_lem (λ (r : Parsed (SectionHeader × Bit)). r.breaks) _ bit_body (λ e. refl) bit_body_lem s (long_section_of s)

pub body_breaks : (id : ℕ) (s : Bytes) → (body_read id s).breaks ≤ length s
unfolding body_read
body_breaks id s =
    let P : Body → Type 0 = λ x. x.breaks ≤ length s in
    cond_elim P (eqb id 0x9D) (λ e. bit_breaks s) (λ e.
    cond_elim P (eqb id 0x9F) (λ e. sdt_breaks s) (λ e.
    cond_elim P (eqb id 0xA0) (λ e. sdt_breaks s) (λ e.
    cond_elim P (eqb id 0x40) (λ e. omega arith) (λ e.
    cond_elim P (eqb id 0x41) (λ e. omega arith) (λ e.
    cond_elim P (eqb id 0xFE) (λ e. omega arith) (λ e. eit_breaks s))))))

tot_breaks : (s : Bytes) → (tot_of s).breaks ≤ length s
unfolding tot_of tot_fields
tot_breaks s =
    let P : Parsed Tot → Type 0 = λ x. x.breaks ≤ length s in
    let n = length12 s 1 + 3 in
    cond_elim P (ltb (length s) 3) (λ e. omega arith) (λ e.
    cond_elim P (ltb (length12 s 1) 11) (λ e. omega arith) (λ e1.
    cond_elim P (ltb (length s) n) (λ e. omega arith) (λ e2.
    cond_elim P (not (eqb (crc_of (take n s)) 0)) (λ e. omega arith) (λ e3.
    cond_elim P (ltb (length (take n s)) (length12 (take n s) 8 + 10)) (λ e. omega arith) (λ e4.
    let a = ltb-false (length s) 3 e in
    let c = broken_le (part_of (take n s) (part_at 10 (length12 (take n s) 8))) refl in
    omega (arith, c))))))

-- assets go on ahead
module _ (s : Bytes) where
  abbrev Behind : ℕ → Option ℕ → Type 0
  Behind at None = Unit {0}
  Behind at (Some p) = at ≤ p

  behind_on : (go : ℕ → Option ℕ) → ((p : ℕ) → Behind p (go p)) → (at : ℕ) (d : Option (Location × ℕ)) → Behind at (turn go (behind_location at d))
  behind_on go h at None = tt
  behind_on go h at (Some (l, taken)) = further (go (at + taken)) (h (at + taken))
    where
      further : (p : Option ℕ) → Behind (at + taken) p → Behind at p
      further None b = tt
      further (Some p) b = omega arith

  locations_behind : (n at : ℕ) → Behind at (locations_end n s at)
  locations_behind zero at = omega arith
  locations_behind (suc n) at = behind_on (locations_end n s) (locations_behind n) at (location_of (drop at s))

  abbrev Leads : ℕ → Option (Asset × ℕ) → Type 0
  Leads at None = Unit {0}
  Leads at (Some (a, next)) = (at < next) × (next ≤ length s)

  behind_leads : (p q start : ℕ) → p < start → (e : Option ℕ) → Behind start e → Leads p (asset_behind s p q e)
  unfolding asset_fields
  behind_leads p q start h None b = tt
  behind_leads p q start h (Some end) b =
      cond_elim (Leads p) (ltb (length s - end) 2) (λ e. tt) (λ e.
      cond_elim (Leads p) (ltb (length s - (end + 2)) (be 2 s end)) (λ d. tt) (λ d.
      let x = ltb-false (length s - end) 2 e in
      let y = ltb-false (length s - (end + 2)) (be 2 s end) d in
      (omega arith, omega arith)))

  asset_leads : (p : ℕ) → Leads p (asset_at_of s p)
  unfolding asset_at_of
  asset_leads p =
      let q = p + 6 + get_or s (p + 5) 0 in
      cond_elim (Leads p) (ltb (length s - p) 6) (λ e. tt) (λ e.
      cond_elim (Leads p) (ltb (length s) q) (λ e. tt) (λ e.
      cond_elim (Leads p) (ltb (length s - q) 6) (λ e. tt) (λ e.
      behind_leads p q (q + 6) (omega arith) (locations_end (get_or s (q + 5) 0) s (q + 6)) (locations_behind (get_or s (q + 5) 0) (q + 6)))))

  assets_then : (n at : ℕ) → ((p : ℕ) → (assets_from n s p).breaks ≤ length s - p) → (d : Option (Asset × ℕ)) → Leads at d
      → (turn (assets_from n s) (asset_item s d)).breaks ≤ length s - at
  assets_then n at h None l = omega arith
  assets_then n at h (Some (a, next)) l = let c = broken_le (part_of s a.descriptors) refl in omega (arith, h next, l.0, l.1)

  assets_break : (n at : ℕ) → (assets_from n s at).breaks ≤ length s - at
  assets_break zero at = omega arith
  assets_break (suc n) at = assets_then n at (assets_break n) (asset_at_of s at) (asset_leads at)

  mpt_whole : (mpt_whole_of s).breaks ≤ length s
  unfolding mpt_whole_of mpt_assets
  mpt_whole =
      let P : MptParsed → Type 0 = λ x. x.breaks ≤ length s in
      let k = get_or s 5 0 + 8 in
      let n = be 2 s (get_or s 5 0 + 6) in
      let c = broken_le (take n (drop k s)) refl in
      cond_elim P (ltb (length s) 6) (λ e. omega arith) (λ e.
      cond_elim P (ltb (length s) k) (λ e. omega arith) (λ e1.
      let a = ltb-false (length s) k e1 in
      cond_elim P (ltb (length s - k) n) (λ e. omega arith) (λ e2.
      cond_elim P (ltb (length s - (k + n)) 1) (λ e. omega (arith, c)) (λ e3. omega (arith, c, assets_break (get_or s (k + n) 0) (k + n + 1))))))

mpt_in_lem : (s : Bytes) (p : Option ℕ) → (mpt_in s p).breaks ≤ length s
mpt_in_lem s None = omega arith
mpt_in_lem s (Some n) = omega (arith, mpt_whole (take n s), length-take n s)

-- of a table
abbrev pub breaks_of : Table → ℕ
breaks_of empty_table = 0
breaks_of (mpt_table ok n b) = n
breaks_of (plt_table ok b) = 0
breaks_of (tot_table ok c n b) = n
breaks_of truncated_section = 0
breaks_of (a_section x) = x.breaks
breaks_of (other_table id) = 0

pub section_breaks : (b : Bytes) → (section_of b).breaks ≤ length b
unfolding section_of
section_breaks b = body_breaks (get_or b 0 0) b

pub table_breaks : (b : Bytes) → breaks_of (table_read b) ≤ length b
unfolding mpt_of
table_breaks b =
    by_kinds (λ (t : Table). breaks_of t ≤ length b) b
    (record {
      empty = omega arith;
      mpt = λ l h. mpt_in_lem b (declared_length_of b);
      plt = omega arith;
      tot = tot_breaks b;
      truncated = omega arith;
      section = section_breaks b;
      others = omega arith;
    })
