-- The decoder on values, with unlimited memory: what the Rust's `Decoder::push` does, every counter and kept table included.
-- Translated from decoder.rs of isdb-rs (Apache-2.0, see NOTICE) and changed.
use Rattle.std.specs.Prelude.{ℕ, ◌+◌, Bool, List, [], replicate, Option, None, Some}
use Rattle.isdb_mmt.specs.declared.decoder.counts.Counters.{Counters}
use Rattle.isdb_mmt.specs.Decoder.Packet.{Bytes, MessagePacket, Packet, ip_error, ntp, non_mmtp_of, media, message, control, other}
use Rattle.isdb_mmt.specs.Decoder.Maps.{find, put, or_else, one}
use Rattle.isdb_mmt.specs.Decoder.Objects.{fresh, asset_after, media_gives, Asset, Rec}
use Rattle.isdb_mmt.specs.Decoder.Reassembly.{idle, reassembly_after, message_completed, orphan, oversize, cut_of_all, short, Reassembly}
use Rattle.isdb_mmt.specs.Decoder.Kept.{zeros, with_packet_counts, mpt_after_all, stored_all, counted_all, KeptTables}
use Rattle.isdb_mmt.specs.Decoder.GivenTables.{tables_given, control_tables}

-- what is known of a control id: the message being joined, and the kept MPT
pub record Control : Type 0 where
  pub reassembly : Reassembly
  pub mpt : Option Bytes

unfoldable pub idle_control : Control
unfolding idle
idle_control = record { reassembly = idle; mpt = None }

-- ids stand in the order of their first arrival
pub record State : Type 0 where
  -- whether scrambled payloads are passed on
  pub passing : Bool
  pub assets : List (ℕ × Asset)
  pub controls : List (ℕ × Control)
  pub store : KeptTables
  -- the last NTP timestamp
  pub time : Option ℕ
  pub counters : Counters

unfoldable pub opened : Bool → State
opened pass =
    record {
      passing = pass;
      assets = [];
      controls = [];
      store = record { plt = None; tot = None; kept = []; others = replicate 256 0 };
      time = None;
      counters = zeros;
    }

unfoldable pub asset_of : ℕ → State → Asset
unfolding or_else fresh find
asset_of i s = or_else fresh (find i s.assets)

unfoldable pub control_of : ℕ → State → Control
unfolding or_else idle_control find
control_of i s = or_else idle_control (find i s.controls)

abbrev pub reassembly_of : ℕ → State → Reassembly
reassembly_of i s = (control_of i s).reassembly

-- a packet, with what is counted of it beside tables
unfoldable pub packet_counted : Counters → ℕ → ℕ → ℕ → Counters
packet_counted c ip non time =
    record {
      tlv_packets = c.tlv_packets + 1;
      ip_errors = c.ip_errors + ip;
      non_mmtp = c.non_mmtp + non;
      ntp = c.ntp + time;
      tables = c.tables;
      crc_errors = c.crc_errors;
      malformed = c.malformed;
      version_changes = c.version_changes;
      orphan_fragments = c.orphan_fragments;
      oversize = c.oversize;
      message_malformed = c.message_malformed;
      split_errors = c.split_errors;
    }

unfoldable pub message_counted : Counters → ℕ → ℕ → ℕ → Counters
message_counted c orphans oversizes bad =
    with_packet_counts c c.tlv_packets (c.orphan_fragments + orphans) (c.oversize + oversizes) (c.message_malformed + bad)

-- the counters that message.rs keeps, for a message packet
unfoldable pub reassembly_counted : Counters → Reassembly → MessagePacket → Counters
reassembly_counted c l x =
    message_counted c (one (orphan l x)) (one (oversize l x)) (one (short x) + (cut_of_all (message_completed l x)).malformed)

unfoldable pub time_after : Option ℕ → Option ℕ → Option ℕ
time_after o None = o
time_after o (Some t) = Some t

abbrev pub counting : State → Counters → State
counting s c =
    record { passing = s.passing; assets = s.assets; controls = s.controls; store = s.store; time = s.time; counters = c }

unfoldable pub pushed : State → Packet → State
unfolding put asset_after asset_of control_of reassembly_after message_completed mpt_after_all stored_all counted_all packet_counted reassembly_counted tables_given time_after
pushed s ip_error = counting s (packet_counted s.counters 1 0 0)
pushed s non_mmtp_of = counting s (packet_counted s.counters 0 1 0)
pushed s other = counting s (packet_counted s.counters 0 0 0)
pushed s (ntp t) =
    record {
      passing = s.passing;
      assets = s.assets;
      controls = s.controls;
      store = s.store;
      time = time_after s.time t;
      counters = packet_counted s.counters 0 0 1;
    }
pushed s (media m) =
    record {
      passing = s.passing;
      assets = put m.id (asset_after (asset_of m.id s) m) s.assets;
      controls = s.controls;
      store = s.store;
      time = s.time;
      counters = packet_counted s.counters 0 0 0;
    }
pushed s (message c) =
    record {
      passing = s.passing;
      assets = s.assets;
      controls =
          put c.id
          (record {
            reassembly = reassembly_after (reassembly_of c.id s) c;
            mpt = mpt_after_all (control_of c.id s).mpt (tables_given (reassembly_of c.id s) c);
          })
          s.controls;
      store = stored_all s.store (tables_given (reassembly_of c.id s) c);
      time = s.time;
      counters =
          counted_all (control_of c.id s).mpt s.store
          (reassembly_counted (packet_counted s.counters 0 0 0) (reassembly_of c.id s) c) (tables_given (reassembly_of c.id s) c);
    }
pushed s (control bs) =
    record {
      passing = s.passing;
      assets = s.assets;
      controls = s.controls;
      store = stored_all s.store (control_tables bs);
      time = s.time;
      counters = counted_all None s.store (packet_counted s.counters 0 0 0) (control_tables bs);
    }

-- the records given out
unfoldable pub gives : State → Packet → List Rec
unfolding media_gives asset_of
gives s ip_error = []
gives s non_mmtp_of = []
gives s other = []
gives s (ntp t) = []
gives s (media m) = media_gives s.passing (asset_of m.id s) m
gives s (message c) = []
gives s (control bs) = []
