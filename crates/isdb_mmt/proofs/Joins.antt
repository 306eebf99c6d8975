-- Messages that are being joined, and the tables that a whole one gives: how long they are, that their bytes are bytes, and what a message
-- packet counts. Assumes nothing.
use Rattle.std.specs.Prelude.{Option, None, Some}
use Rattle.std.proofs.Common.{ℕ, ◌+◌, ◌<◌, ◌≤◌, Bool, true, false, cond, leb, List, [], ◌∷◌, ◌++◌, length, drop, arith, length-append, length-drop, leb-true}
use Rattle.isdb_tlv.proofs.Guards.{cond_elim}
use Rattle.isdb_mmt.specs.declared.decoder.counts.Counters.{Counters}
use Rattle.isdb_mmt.specs.Formats.Part.{part_of}
use Rattle.isdb_mmt.specs.Decoder.Packet.{Bytes, MessagePacket}
use Rattle.isdb_mmt.specs.Formats.Message.{tables_from, aggregated_from, content_of}
use Rattle.isdb_mmt.specs.Decoder.Objects.{gap}
use Rattle.isdb_mmt.specs.Decoder.Reassembly.{PartialMessage, Reassembly, most_message, short, flags_of, part_before, joined_on, part_after, whole_of, reassembly_after, message_completed, orphan, oversize, TablesFound, parts_of, tables_in, tables_of, tables_of_all, messages_of, cut_of, cut_of_all}
use Rattle.isdb_mmt.specs.Decoder.Model.{packet_counted, message_counted, reassembly_counted}
use Rattle.isdb_mmt.specs.Decoder.Needs.{partial_length, fragment_area, reassembly_needs}
use Rattle.isdb_mmt.specs.Memory.Octets.{Octets}
use Rattle.isdb_mmt.specs.declared.part.Part.{Part}
use Rattle.isdb_mmt.specs.declared.message.Content.{Content}
use Rattle.isdb_mmt.specs.declared.message.Content.TheVariants.{Malformed as bad_message, Nothing, Table as one_table_of, Tables}
use Rattle.isdb_mmt.specs.declared.message.Division.{Division}
use Rattle.isdb_mmt.specs.declared.message.Division.TheVariants.{Undivided, First, Middle as middle_part, Last as last_part}
use Rattle.isdb_mmt.proofs.Amounts.{fills_cut, total}
use Rattle.isdb_mmt.proofs.Brief.{octets_drop, octets_take, octets_append, AllOctets}
use Rattle.isdb_mmt.proofs.Stores.{CountersFit}
use Rattle.isdb_mmt.proofs.Maps.{one_le}

-- ---- bytes of tables

octets_part : (b : Bytes) → Octets b → (p : Part) → Octets (part_of b p)
octets_part b o p = octets_take p.length (drop p.start b) (octets_drop p.start b o)

octets_parts : (b : Bytes) → Octets b → (ps : List Part) → AllOctets (parts_of b ps)
octets_parts b o [] = tt
octets_parts b o (p ∷ ps) = (octets_part b o p, octets_parts b o ps)

all_append : (xs ys : List Bytes) → AllOctets xs → AllOctets ys → AllOctets (xs ++ ys)
all_append [] ys a b = b
all_append (x ∷ xs) ys a b = (a.0, all_append xs ys a.1 b)

octets_in : (m : Bytes) → Octets m → (c : Content) → AllOctets (tables_in m c).tables
octets_in m o bad_message = tt
octets_in m o Nothing = tt
octets_in m o (one_table_of p) = (octets_part m o p, tt)
octets_in m o (Tables p at) = octets_parts (part_of m p) (octets_part m o p) (tables_from (part_of m p) at).found

octets_all : (ms : List Bytes) → AllOctets ms → AllOctets (tables_of_all ms).tables
unfolding tables_of_all tables_of
octets_all [] a = tt
octets_all (m ∷ ms) a = all_append (tables_of m).tables (tables_of_all ms).tables (octets_in m a.0 (content_of m)) (octets_all ms a.1)

octets_cut : (j : PartialMessage) → Octets j.bytes → AllOctets (cut_of j).tables
unfolding cut_of messages_of tables_of
octets_cut j o =
    cond_elim (λ (c : TablesFound). AllOctets c.tables) j.aggregated
    (λ e. octets_all (parts_of j.bytes (aggregated_from j.bytes j.long 0).found) (octets_parts j.bytes o (aggregated_from j.bytes j.long 0).found))
    (λ e. octets_in j.bytes o (content_of j.bytes))

-- ---- a message that is being joined

abbrev pub JoinFits : ℕ → Option PartialMessage → Type 0
JoinFits area None = Unit {0}
JoinFits area (Some j) = (length j.bytes ≤ area) × Octets j.bytes

before_fits : (area : ℕ) (l : Reassembly) (c : MessagePacket) → JoinFits area l.partial → JoinFits area (part_before l c)
unfolding part_before
before_fits area l c h = cond_elim (JoinFits area) (gap l.number c.number) (λ e. tt) (λ e. h)

-- what is joined has at most 1,048,576 bytes
on_fits : (area : ℕ) (o : Option PartialMessage) (d : Bytes) → JoinFits area o → Octets d → JoinFits most_message (joined_on o d)
unfolding joined_on
on_fits area None d h q = tt
on_fits area (Some j) d h q =
    cond_elim (JoinFits most_message) (leb (length j.bytes + length d) most_message)
    (λ e. (omega (arith, leb-true (length j.bytes + length d) most_message e, length-append j.bytes d), octets_append j.bytes d h.1 q))
    (λ e. tt)

join_within : (area big : ℕ) (o : Option PartialMessage) → JoinFits big o → partial_length o ≤ area → JoinFits area o
join_within area big None h l = tt
join_within area big (Some j) h l = (l, h.1)

after_fits : (area : ℕ) (d : Division) (j : Option PartialMessage) (c : MessagePacket) → JoinFits area j → Octets c.payload
    → fragment_area d j (drop 2 c.payload) ≤ area → JoinFits area (part_after d j c)
unfolding part_after
after_fits area Undivided j c h q l = tt
after_fits area First j c h q l = (l, octets_drop 2 c.payload q)
after_fits area middle_part j c h q l =
    join_within area most_message (joined_on j (drop 2 c.payload)) (on_fits area j (drop 2 c.payload) h (octets_drop 2 c.payload q)) l
after_fits area last_part j c h q l = tt

pub reassembly_fits : (area : ℕ) (l : Reassembly) (c : MessagePacket) → JoinFits area l.partial → Octets c.payload → reassembly_needs l c ≤ area → JoinFits area (reassembly_after l c).partial
unfolding reassembly_after reassembly_needs
reassembly_fits area l c h q = go (short c)
  where
    go : (b : Bool) → cond b 0 (fragment_area (flags_of c).division (part_before l c) (drop 2 c.payload)) ≤ area
        → JoinFits area (cond b l.partial (part_after (flags_of c).division (part_before l c) c))
    go true n = h
    go false n = after_fits area (flags_of c).division (part_before l c) c (before_fits area l c h) q n

whole_fits : (area : ℕ) (d : Division) (j : Option PartialMessage) (c : MessagePacket) → JoinFits area j → length c.payload < 65536 → Octets c.payload
    → JoinFits most_message (whole_of d j c)
unfolding whole_of
whole_fits area Undivided j c h s q = (omega (arith, length-drop 2 c.payload), octets_drop 2 c.payload q)
whole_fits area First j c h s q = tt
whole_fits area middle_part j c h s q = tt
whole_fits area last_part j c h s q = on_fits area j (drop 2 c.payload) h (octets_drop 2 c.payload q)

pub gives_fits : (area : ℕ) (l : Reassembly) (c : MessagePacket) → JoinFits area l.partial → length c.payload < 65536 → Octets c.payload → JoinFits most_message (message_completed l c)
unfolding message_completed
gives_fits area l c h s q =
    cond_elim (JoinFits most_message) (short c) (λ e. tt) (λ e. whole_fits area (flags_of c).division (part_before l c) c (before_fits area l c h) s q)

-- the tables of a message that is whole
pub record Given (c : TablesFound) : Type 0 where
  pub many : length c.tables ≤ most_message
  pub long : total c.tables ≤ most_message
  pub malformed : c.malformed ≤ most_message + 1
  pub octets : AllOctets c.tables

pub given_cut : (o : Option PartialMessage) → JoinFits most_message o → Given (cut_of_all o)
unfolding cut_of_all
given_cut None h = record { many = omega arith; long = omega arith; malformed = omega arith; octets = tt }
given_cut (Some j) h =
    let f = fills_cut j in
    record {
      many = omega (arith, f.many, h.0);
      long = omega (arith, f.long, h.0);
      malformed = omega (arith, f.malformed, h.0);
      octets = octets_cut j h.1;
    }

-- ---- what is counted

pub packet_fits : (p t b x y z : ℕ) (c : Counters) → x ≤ 1 → y ≤ 1 → z ≤ 1 → CountersFit p t b c → CountersFit (p + 1) t b (packet_counted c x y z)
unfolding packet_counted
packet_fits p t b x y z c k l m h =
    record {
      tlv_packets = omega (arith, h.tlv_packets);
      ip_errors = omega (arith, h.ip_errors);
      non_mmtp = omega (arith, h.non_mmtp);
      ntp = omega (arith, h.ntp);
      tables = h.tables;
      crc_errors = h.crc_errors;
      malformed = h.malformed;
      version_changes = h.version_changes;
      orphan_fragments = omega (arith, h.orphan_fragments);
      oversize = omega (arith, h.oversize);
      message_malformed = omega (arith, h.message_malformed);
      split_errors = h.split_errors;
    }

pub reassembly_counts : (p t b : ℕ) (c : Counters) (l : Reassembly) (x : MessagePacket) → (cut_of_all (message_completed l x)).malformed ≤ most_message + 1 → CountersFit p t b c
    → CountersFit (p + (most_message + 2)) t b (reassembly_counted c l x)
unfolding reassembly_counted message_counted
reassembly_counts p t b c l x k h =
    record {
      tlv_packets = omega (arith, h.tlv_packets);
      ip_errors = omega (arith, h.ip_errors);
      non_mmtp = omega (arith, h.non_mmtp);
      ntp = omega (arith, h.ntp);
      tables = h.tables;
      crc_errors = h.crc_errors;
      malformed = h.malformed;
      version_changes = h.version_changes;
      orphan_fragments = omega (arith, h.orphan_fragments, one_le (orphan l x));
      oversize = omega (arith, h.oversize, one_le (oversize l x));
      message_malformed = omega (arith, h.message_malformed, one_le (short x));
      split_errors = h.split_errors;
    }
