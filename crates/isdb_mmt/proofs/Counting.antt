-- The count of a packet, in the state's bytes. Assumes nothing.
use Rattle.std.proofs.Common.{◌≡◌, ℕ, ◌+◌, ◌≤◌, List, sym, refl, subst, add-zero}
use Rattle.isdb_mmt.specs.Decoder.Kept.{with_packet_counts}
use Rattle.isdb_mmt.specs.Decoder.Model.{packet_counted}
use Rattle.isdb_mmt.specs.Memory.Session.{Session, counters_of}
use Rattle.isdb_mmt.specs.Memory.Check.{lengths_of, Sound, packet_counts, table_counts}
use Rattle.isdb_mmt.specs.Pushes.Counted.{Countable, StateCountable}
use Rattle.isdb_mmt.specs.Pushes.Fragments.{CanCount}
use Rattle.isdb_mmt.specs.declared.decoder.counts.Counters.{Counters}
use Rattle.isdb_mmt.proofs.Checks.{count_was}

pub state_countable : (s : Session) → Sound s.state s.others (lengths_of s) → (ip non time : ℕ) → ip ≤ 1 → non ≤ 1 → time ≤ 1
    → StateCountable s.state ip non time
state_countable s ok ip non time a b c =
    let cs = packet_counts (counters_of s.state) in
    record {
      long = ok.there.long;
      counts =
          record {
            packets = count_was cs 0 ok.packets;
            ip_errors = count_was cs 1 ok.packets;
            non_mmtp = count_was cs 2 ok.packets;
            ntp = count_was cs 3 ok.packets;
            one_ip = a;
            one_non = b;
            one_time = c;
          };
    }

pub fragment_countable : (s : Session) → Sound s.state s.others (lengths_of s) → CanCount (counters_of s.state)
fragment_countable s ok =
    let cs = table_counts (counters_of s.state) in
    record {
      packets = count_was (packet_counts (counters_of s.state)) 0 ok.packets;
      orphan_fragments = count_was cs 4 ok.tables;
      oversize = count_was cs 5 ok.tables;
      malformed = count_was cs 6 ok.tables;
    }

-- the counters with another count of packets
abbrev pub counting : ℕ → Counters → Counters
counting n c = with_packet_counts c n c.orphan_fragments c.oversize c.message_malformed

-- a packet with nothing counted beside it
pub counted_alone : (c : Counters) → packet_counted c 0 0 0 ≡ counting (c.tlv_packets + 1) c
unfolding packet_counted
counted_alone c = rw (add-zero c.ip_errors, add-zero c.non_mmtp, add-zero c.ntp) refl

module _ (l : List ℕ) (c : Counters) (e : c ≡ counters_of l) where
  pub countable : (ip non time : ℕ) → StateCountable l ip non time → Countable c ip non time
  countable ip non time h = subst (λ (x : Counters). Countable x ip non time) (sym e) h.counts
