-- The invariant from the opened state on, beside what holds of every session that passes question 5: counts are bounded by the packets
-- taken, and what is kept parses. A packet leaves it so. Assumes nothing.
use Rattle.std.proofs.Common.{◌≡◌, ℕ, ◌+◌, ◌*◌, Bool, List, map, refl, arith}
use Rattle.isdb_mmt.specs.Decoder.Packet.{Bytes, MessagePacket, Packet, ip_error, ntp, non_mmtp_of, media, message, control, other}
use Rattle.isdb_mmt.specs.Decoder.Reassembly.{message_completed, cut_of_all}
use Rattle.isdb_mmt.specs.Decoder.Kept.{zeros, table_read}
use Rattle.isdb_mmt.specs.Decoder.GivenTables.{tables_given, control_tables}
use Rattle.isdb_mmt.specs.Decoder.Model.{Control, idle_control, State, opened, control_of, reassembly_of, packet_counted, message_counted, reassembly_counted, pushed}
use Rattle.isdb_mmt.specs.Theorems.Room.{most_added}
use Rattle.isdb_mmt.specs.declared.decoder.limits.Limits.{Limits}
use Rattle.isdb_mmt.proofs.Every.{Every, every_put, every_found}
use Rattle.isdb_mmt.proofs.Brief.{Plain}
use Rattle.isdb_mmt.proofs.Stores.{tables_sane, control_sane, Parses, mpt_good_lem, StoreParses, stores_parse, mpts_parse, counted_packets}
use Rattle.isdb_mmt.proofs.Outs.{PacketOk}
use Rattle.isdb_mmt.proofs.Storable.{Storable, tables_given_lem}

abbrev pub ControlParses : ℕ → Control → Type 0
ControlParses i c = Parses mpt_good_lem c.mpt

-- `n` is 2^21 for each packet
pub record Ready (n : ℕ) (s : State) : Type 0 where
  pub counts : n ≡ s.counters.tlv_packets * most_added
  pub controls : Every ControlParses s.controls
  pub store : StoreParses s.store

pub ready_opened : (pass : Bool) → Ready 0 (opened pass)
unfolding opened zeros
ready_opened pass = record { counts = refl; controls = tt; store = record { plt = tt; tot = tt; kept = tt } }

module _ (l : Limits) (most n : ℕ) (s : State) (f : Storable l most s) (h : Ready n s) where
  ready_message : (c : MessagePacket) → PacketOk (message c) → Plain (message c) → Ready (n + most_added) (pushed s (message c))
  unfolding pushed packet_counted control_of idle_control tables_given reassembly_counted message_counted
  ready_message c o q =
      let ts = map table_read (cut_of_all (message_completed (reassembly_of c.id s) c)).tables in
      let sane = tables_sane (cut_of_all (message_completed (reassembly_of c.id s) c)).tables (tables_given_lem l most s f c o q).octets in
      record {
        counts = rw counted_packets (omega (arith, h.counts));
        controls =
            every_put ControlParses c.id _
            (mpts_parse ts (control_of c.id s).mpt (every_found ControlParses idle_control c.id tt s.controls h.controls) sane)
            s.controls h.controls;
        store = stores_parse ts s.store h.store sane;
      }

  ready_control : (bs : List Bytes) → Plain (control bs) → Ready (n + most_added) (pushed s (control bs))
  unfolding pushed packet_counted
  ready_control bs q =
      record {
        counts = rw counted_packets (omega (arith, h.counts));
        controls = h.controls;
        store = stores_parse (control_tables bs) s.store h.store (control_sane bs q.2);
      }

  -- one packet
  pub ready_push : (p : Packet) → PacketOk p → Plain p → Ready (n + most_added) (pushed s p)
  unfolding pushed packet_counted
  ready_push ip_error o q = record { counts = omega (arith, h.counts); controls = h.controls; store = h.store }
  ready_push (ntp x) o q = record { counts = omega (arith, h.counts); controls = h.controls; store = h.store }
  ready_push non_mmtp_of o q = record { counts = omega (arith, h.counts); controls = h.controls; store = h.store }
  ready_push (media m) o q = record { counts = omega (arith, h.counts); controls = h.controls; store = h.store }
  ready_push (message c) o q = ready_message c o q
  ready_push (control bs) o q = ready_control bs q
  ready_push other o q = record { counts = omega (arith, h.counts); controls = h.controls; store = h.store }
