-- What is known of an id or a key fits its place: numbers fit their fields, lengths their areas, and bytes are bytes. It does so
-- after a packet too, with counts that are no more than 2^21 larger. Assumes nothing.
use Rattle.std.specs.Prelude.{Result, Option, None, Some}
use Rattle.isdb_mmt.specs.declared.table.section.SectionError.{SectionError}
use Rattle.isdb_mmt.specs.declared.table.section.SectionHeader.{SectionHeader}
use Rattle.std.proofs.Common.{◌≡◌, ℕ, suc, ◌+◌, ◌<◌, ◌≤◌, Bool, true, false, cond, not, ◌&&◌, eqb, ltb, List, [], ◌∷◌, ◌++◌, map, length, get_or, take, refl, arith}
use Rattle.isdb_tlv.specs.Bytes.{be}
use Rattle.isdb_tlv.specs.Crc.{crc_of}
use Rattle.isdb_tlv.specs.Fields.{Field, Fit}
use Rattle.isdb_tlv.proofs.Guards.{cond_elim}
use Rattle.isdb_mmt.specs.Standards.StdB60Sections.{All}
use Rattle.isdb_mmt.specs.declared.decoder.counts.Counters.{Counters}
use Rattle.isdb_mmt.specs.Decoder.Packet.{Bytes, PayloadUnit, MpuPacket, readable}
use Rattle.isdb_mmt.specs.Decoder.Maps.{find, or_else}
use Rattle.isdb_mmt.specs.Decoder.Objects.{Mfu, Asset, fresh, gap, after_unit, unit_effect, after_units, after_headers, mpu_in, mpu_number, mpu_after, last_in, range_after, new_mpu, asset_after}
use Rattle.isdb_mmt.specs.Formats.Section.{length12, long_section_of}
use Rattle.isdb_mmt.specs.Decoder.Reassembly.{PartialMessage, idle}
use Rattle.isdb_mmt.specs.Decoder.Kept.{Section, section_of, key_of, version_in, Kept, other_version, keep_if, keep, KeptTables, Table, empty_table, mpt_table, plt_table, tot_table, truncated_section, a_section, other_table, table_read, latest, mpt_after, mpt_after_all, stored, stored_all}
use Rattle.isdb_mmt.specs.Decoder.GivenTables.{control_tables}
use Rattle.isdb_mmt.specs.Decoder.Model.{Control, idle_control}
use Rattle.isdb_mmt.specs.Decoder.Needs.{held_length, partial_length, units_need, table_area_of, tables_need}
use Rattle.isdb_mmt.specs.Memory.Layout.{most_mfu_area, most_message_area, most_table_area}
use Rattle.isdb_mmt.specs.Memory.Session.{number_fields, object_fields, stats_fields, media_fields, control_fields, section_fields, counters_fields}
use Rattle.isdb_mmt.specs.Memory.Octets.{Octets}
use Rattle.isdb_mmt.specs.Memory.PlacesOf.{no_object, held_for, first_in, place_for_asset, table_length, control_for, section_for}
use Rattle.isdb_mmt.specs.declared.mpu.PayloadHeader.{PayloadHeader}
use Rattle.isdb_mmt.proofs.Every.{Every, every_put}
use Rattle.isdb_mmt.proofs.Brief.{all_read, octets_take, AllOctets}
use Rattle.isdb_mmt.specs.Theorems.Room.{most_added}
use Rattle.isdb_mmt.proofs.Fits.{AssetFits, fresh_fits, asset_fits}
use Rattle.isdb_mmt.proofs.Stores.{CountersFit, counted_one}
use Rattle.isdb_mmt.proofs.Joins.{JoinFits}
use Rattle.isdb_mmt.proofs.Outs.{HeldOk, MediaOk, held_after, object_fits}
use Rattle.isdb_mmt.proofs.TableKinds.{by_kinds}
use Rattle.isdb_mmt.proofs.Stored.{flag_small}

fit_append : (xs ys : List Field) → Fit xs → Fit ys → Fit (xs ++ ys)
fit_append [] ys a b = b
fit_append (x ∷ xs) ys a b = (a.0, fit_append xs ys a.1 b)

-- a number of 4 bytes, where there is one
abbrev pub NumberOk : Option ℕ → Type 0
NumberOk None = Unit {0}
NumberOk (Some n) = n < 4294967296

number_small : (o : Option ℕ) → NumberOk o → or_else 0 o < 4294967296
unfolding or_else
number_small None h = omega arith
number_small (Some n) h = h

-- ---- a media id

pub record AssetOk (area n : ℕ) (a : Asset) : Type 0 where
  pub counts : AssetFits area n a
  pub number : NumberOk a.number
  pub mpu : NumberOk a.mpu
  pub first : first_in a.range < 4294967296
  pub held : HeldOk a.held

pub fresh_ok : (area n : ℕ) → AssetOk area n fresh
unfolding fresh
fresh_ok area n = record { counts = fresh_fits area n; number = tt; mpu = tt; first = omega arith; held = tt }

-- units leave its numbers
record Numbers (a b : Asset) : Type 0 where
  number : a.number ≡ b.number
  mpu : a.mpu ≡ b.mpu
  range : a.range ≡ b.range

units_numbers : (m : MpuPacket) (us : List PayloadUnit) (a : Asset) → Numbers (after_units m a us) a
unfolding after_units after_unit
units_numbers m [] a = record { number = refl; mpu = refl; range = refl }
units_numbers m (u ∷ us) a =
    let h = units_numbers m us (after_unit a (unit_effect m a u)) in record { number = h.number; mpu = h.mpu; range = h.range }

mpu_after_lem : (o : Option ℕ) (h : Option PayloadHeader) → NumberOk o → mpu_number h < 4294967296 → NumberOk (mpu_after o (mpu_in h))
unfolding mpu_after
mpu_after_lem o None a b = a
mpu_after_lem o (Some h) a b = b

last_first : (r : Option (ℕ × ℕ)) (n : ℕ) → first_in r < 4294967296 → n < 4294967296 → first_in (last_in r n) < 4294967296
last_first None n a b = b
last_first (Some r) n a b = a

range_first : (new : Bool) (r : Option (ℕ × ℕ)) (h : Option PayloadHeader) → first_in r < 4294967296 → mpu_number h < 4294967296
    → first_in (range_after new r (mpu_in h)) < 4294967296
unfolding range_after
range_first false r h a b = a
range_first true r None a b = a
range_first true r (Some h) a b = last_first r h.mpu_sequence_number a b

pub asset_after_lem : (area n : ℕ) (a : Asset) (m : MpuPacket) → AssetOk area n a → MediaOk m → length (readable m) < 65536
    → units_need m (after_headers a m) (readable m) ≤ area → AssetOk area (n + most_added) (asset_after a m)
unfolding asset_after after_headers
asset_after_lem area n a m h o q k =
    let s = units_numbers m (readable m) (after_headers a m) in
    let gone : HeldOk (after_headers a m).held = cond_elim HeldOk (gap a.number m.number) (λ e. tt) (λ e. h.held) in
    record {
      counts = asset_fits area n a m h.counts q k;
      number = rw s.number o.number;
      mpu = rw s.mpu (mpu_after_lem a.mpu m.header h.mpu o.mpu);
      first = rw s.range (range_first (new_mpu a.mpu (mpu_in m.header)) a.range m.header h.first o.mpu);
      held = held_after m (readable m) (after_headers a m) o.mpu gone o.payload_units;
    }

zero_object : Fit (object_fields no_object)
zero_object = (
  omega arith,
  (
    omega arith,
    (
      omega arith,
      (
        omega arith,
        (
          omega arith,
          (omega arith, (omega arith, (omega arith, (omega arith, (omega arith, (omega arith, tt)))))),
        ),
      ),
    ),
  ),
)

held_fits : (area : ℕ) → area ≤ most_mfu_area → (o : Option Mfu) → HeldOk o → held_length o ≤ area → Fit (object_fields (held_for o))
held_fits area w None h l = zero_object
held_fits area w (Some h) o l = object_fits h o (omega arith)

pub asset_place : (area n id : ℕ) (a : Asset) → area ≤ most_mfu_area → n < 18446744073709551616 → id < 4294967296 → AssetOk area n a
    → Fit (media_fields (place_for_asset id a))
unfolding place_for_asset
asset_place area n id a w c i h =
    let p = place_for_asset id a in
    let k = h.counts in
    let numbers : Fit (number_fields p) = (
      i,
      (
        flag_small p.seen,
        (
          number_small a.number h.number,
          (flag_small p.mpu_seen, (number_small a.mpu h.mpu, (h.first, (flag_small p.held, tt)))),
        ),
      ),
    ) in
    let stats : Fit (stats_fields p.stats) = (
      omega (arith, k.counts.packets),
      (
        omega (arith, k.counts.lost),
        (
          omega (arith, k.counts.scrambled),
          (
            omega (arith, k.counts.mfus),
            (
              omega (arith, k.counts.scrambled_mfus),
              (
                omega (arith, k.counts.dropped),
                (omega (arith, k.counts.mpus), (omega (arith, k.counts.jumps), (omega (arith, k.counts.malformed), tt))),
              ),
            ),
          ),
        ),
      ),
    ) in
    fit_append (number_fields p) (object_fields p.object ++ stats_fields p.stats) numbers
    (fit_append (object_fields p.object) (stats_fields p.stats) (held_fits area w a.held h.held k.held) stats)

-- ---- kept tables

abbrev pub TableOk : ℕ → Option Bytes → Type 0
TableOk area None = Unit {0}
TableOk area (Some b) = (length b ≤ area) × Octets b

pub record KeptOk (area k : ℕ) (x : Kept) : Type 0 where
  pub key : k < 4294967296
  pub version : x.version < 256
  pub fits : length x.bytes ≤ area
  pub octets : Octets x.bytes

pub section_place_lem : (area k : ℕ) (x : Kept) → area ≤ most_table_area → KeptOk area k x → Fit (section_fields (section_for k x))
section_place_lem area k x w h = (h.key, (h.version, (omega (arith, h.fits), tt)))

pub record StoreOk (area n : ℕ) (s : KeptTables) : Type 0 where
  pub plt : TableOk area s.plt
  pub tot : TableOk area s.tot
  pub kept : Every (KeptOk area) s.kept
  pub others : (i : ℕ) → get_or s.others i 0 ≤ n

pub store_ok_more : (area n m : ℕ) (s : KeptTables) → n ≤ m → StoreOk area n s → StoreOk area m s
store_ok_more area n m s l h = record { plt = h.plt; tot = h.tot; kept = h.kept; others = λ i. omega (arith, h.others i) }

table_small : (area : ℕ) → area ≤ most_table_area → (o : Option Bytes) → TableOk area o → table_length o < 4294967296
table_small area w None h = omega arith
table_small area w (Some b) h = omega (arith, h.0)

-- a table as it is read: its bytes are bytes, a key has 4 and a version 1
pub record SectionOk (x : Section) : Type 0 where
  pub key : x.key < 4294967296
  pub version : x.version < 256
  pub octets : Octets x.bytes

abbrev pub ReadOk : Table → Type 0
ReadOk empty_table = Unit {0}
ReadOk (mpt_table ok n b) = Octets b
ReadOk (plt_table ok b) = Octets b
ReadOk (tot_table ok c n b) = Octets b
ReadOk truncated_section = Unit {0}
ReadOk (a_section x) = SectionOk x
ReadOk (other_table id) = Unit {0}

abbrev pub AllRead : List Table → Type 0
AllRead ts = All ReadOk ts

key_small : (b : Bytes) → Octets b → key_of b < 4294967296
unfolding be
key_small b o = omega (arith, o 0, o 3, o 4, o 6)

version_small : (b : Bytes) → version_in (long_section_of b) < 256
unfolding long_section_of
version_small b =
    let P : Result SectionHeader SectionError → Type 0 = λ x. version_in x < 256 in
    cond_elim P (ltb (length b) 3) (λ e. omega arith) (λ e.
    cond_elim P (ltb (length12 b 1) 9) (λ e. omega arith) (λ e.
    cond_elim P (ltb (length b) (length12 b 1 + 3)) (λ e. omega arith) (λ e.
    cond_elim P (not (eqb (crc_of (take (length12 b 1 + 3) b)) 0)) (λ e. omega arith) (λ e. omega arith))))

section_ok : (b : Bytes) → Octets b → SectionOk (section_of b)
unfolding section_of
section_ok b o = record { key = key_small b o; version = version_small b; octets = octets_take (length12 b 1 + 3) b o }

table_ok : (b : Bytes) → Octets b → ReadOk (table_read b)
table_ok b o =
    let declared = octets_take (be 2 b 2 + 4) b o in
    by_kinds ReadOk b
    (record {
      empty = tt;
      mpt = λ l h. declared;
      plt = declared;
      tot = octets_take (length12 b 1 + 3) b o;
      truncated = tt;
      section = section_ok b o;
      others = tt;
    })

pub tables_ok : (bs : List Bytes) → AllOctets bs → AllRead (map table_read bs)
tables_ok = all_read ReadOk table_read table_ok

pub control_ok : (bs : List Bytes) → AllOctets bs → AllRead (control_tables bs)
control_ok = all_read ReadOk (λ b. a_section (section_of b)) section_ok

-- one table, and all of them
latest_ok : (area : ℕ) (ok : Bool) (o : Option Bytes) (b : Bytes) → TableOk area o → Octets b → cond ok (length b) 0 ≤ area → TableOk area (latest ok o b)
latest_ok area true o b h q l = (l, q)
latest_ok area false o b h q l = h

kept_ok : (area : ℕ) (x : Section) (m : List (ℕ × Kept)) → Every (KeptOk area) m → SectionOk x → (h n b : Bool)
    → cond (h && (n && b)) (length x.bytes) 0 ≤ area → Every (KeptOk area) (cond h (keep_if n b x m) m)
unfolding keep_if
kept_ok area x m f q true true true l =
    every_put (KeptOk area) x.key _ (record { key = q.key; version = q.version; fits = l; octets = q.octets }) m f
kept_ok area x m f q true true false l = f
kept_ok area x m f q true false b l = f
kept_ok area x m f q false n b l = f

store_ok : (area n : ℕ) (s : KeptTables) (t : Table) → StoreOk area n s → ReadOk t → table_area_of s t ≤ area → StoreOk area (n + 1) (stored s t)
unfolding stored table_area_of keep
store_ok area n s empty_table h q l = store_ok_more area n (n + 1) s (omega arith) h
store_ok area n s (mpt_table ok k b) h q l = store_ok_more area n (n + 1) s (omega arith) h
store_ok area n s (plt_table ok b) h q l =
    record { plt = latest_ok area ok s.plt b h.plt q l; tot = h.tot; kept = h.kept; others = λ i. omega (arith, h.others i) }
store_ok area n s (tot_table ok c k b) h q l =
    record { plt = h.plt; tot = latest_ok area ok s.tot b h.tot q l; kept = h.kept; others = λ i. omega (arith, h.others i) }
store_ok area n s truncated_section h q l = store_ok_more area n (n + 1) s (omega arith) h
store_ok area n s (a_section x) h q l =
    record {
      plt = h.plt;
      tot = h.tot;
      kept = kept_ok area x s.kept h.kept q x.header_and_crc_good (other_version (find x.key s.kept) x.version) x.body_ok l;
      others = λ i. omega (arith, h.others i);
    }
store_ok area n s (other_table id) h q l =
    record { plt = h.plt; tot = h.tot; kept = h.kept; others = counted_one s.others id n h.others }

pub stores_ok : (area : ℕ) (ts : List Table) (n : ℕ) (s : KeptTables) → StoreOk area n s → AllRead ts → tables_need s ts ≤ area
    → StoreOk area (n + length ts) (stored_all s ts)
unfolding stored_all tables_need
stores_ok area [] n s h q l = store_ok_more area n (n + 0) s (omega arith) h
stores_ok area (t ∷ ts) n s h q l =
    store_ok_more area (n + 1 + length ts) (n + suc (length ts)) (stored_all (stored s t) ts) (omega arith)
    (stores_ok area ts (n + 1) (stored s t) (store_ok area n s t h q.0 (omega arith)) q.1 (omega arith))

-- the MPT of a control id
mpt_ok : (area : ℕ) (m : Option Bytes) (s : KeptTables) (t : Table) → TableOk area m → ReadOk t → table_area_of s t ≤ area → TableOk area (mpt_after m t)
unfolding mpt_after table_area_of
mpt_ok area m s empty_table h q l = h
mpt_ok area m s (mpt_table ok k b) h q l = latest_ok area ok m b h q l
mpt_ok area m s (plt_table ok b) h q l = h
mpt_ok area m s (tot_table ok c k b) h q l = h
mpt_ok area m s truncated_section h q l = h
mpt_ok area m s (a_section x) h q l = h
mpt_ok area m s (other_table id) h q l = h

pub mpts_ok : (area : ℕ) (ts : List Table) (m : Option Bytes) (s : KeptTables) → TableOk area m → AllRead ts → tables_need s ts ≤ area
    → TableOk area (mpt_after_all m ts)
unfolding mpt_after_all tables_need
mpts_ok area [] m s h q l = h
mpts_ok area (t ∷ ts) m s h q l =
    mpts_ok area ts (mpt_after m t) (stored s t) (mpt_ok area m s t h q.0 (omega arith)) q.1 (omega arith)

-- ---- a control id

pub record ControlOk (message table : ℕ) (c : Control) : Type 0 where
  pub number : NumberOk c.reassembly.number
  pub joins : JoinFits message c.reassembly.partial
  pub mpt : TableOk table c.mpt

pub idle_ok : (message table : ℕ) → ControlOk message table idle_control
unfolding idle_control idle
idle_ok message table = record { number = tt; joins = tt; mpt = tt }

join_small : (area : ℕ) → area ≤ most_message_area → (o : Option PartialMessage) → JoinFits area o → partial_length o < 4294967296
join_small area w None h = omega arith
join_small area w (Some j) h = omega (arith, h.0)

pub control_place_lem : (message table id : ℕ) (c : Control) → message ≤ most_message_area → table ≤ most_table_area → id < 4294967296
    → ControlOk message table c → Fit (control_fields (control_for id c))
unfolding control_for
control_place_lem message table id c w v i h =
    let p = control_for id c in (
      i,
      (
        flag_small p.seen,
        (
          number_small c.reassembly.number h.number,
          (
            flag_small p.joining,
            (
              flag_small p.long_length,
              (
                flag_small p.aggregated,
                (
                  join_small message w c.reassembly.partial h.joins,
                  (flag_small p.mpt, (table_small table v c.mpt h.mpt, tt)),
                ),
              ),
            ),
          ),
        ),
      ),
    )

-- ---- counters and the time

pub counters_place_lem : (n : ℕ) (c : Counters) → n < 18446744073709551616 → CountersFit n n n c → Fit (counters_fields c)
counters_place_lem n c l h = (
  omega (arith, h.tlv_packets),
  (
    omega (arith, h.ip_errors),
    (
      omega (arith, h.non_mmtp),
      (
        omega (arith, h.ntp),
        (
          omega (arith, h.tables),
          (
            omega (arith, h.crc_errors),
            (
              omega (arith, h.malformed),
              (
                omega (arith, h.version_changes),
                (
                  omega (arith, h.orphan_fragments),
                  (
                    omega (arith, h.oversize),
                    (omega (arith, h.message_malformed), (omega (arith, h.split_errors), tt)),
                  ),
                ),
              ),
            ),
          ),
        ),
      ),
    ),
  ),
)
