-- What a media packet makes of its place, from the place, the packet's number and header, and the effect of its units.
use Rattle.isdb_mmt.specs.declared.mpu.PayloadHeader.{PayloadHeader}
use Rattle.std.specs.Prelude.{ℕ, ◌+◌, ◌≤◌, Bool, true, false, not, ◌&&◌, None, Option, Some, is_some}
use Rattle.isdb_tlv.specs.Guards.{◌=?◌}
use Rattle.std.specs.Prelude.{if◌then◌else◌}
use Rattle.isdb_mmt.specs.Formats.Part.{part_at}
use Rattle.isdb_mmt.specs.Decoder.Maps.{one}
use Rattle.isdb_mmt.specs.Formats.Mpu.{follows, lost_from, completes_of}
use Rattle.isdb_mmt.specs.Formats.Mpu.{no_header}
use Rattle.isdb_mmt.specs.Pushes.MediaEffect.{object_or}
use Rattle.isdb_mmt.specs.declared.mpu.MfuHeader.{MfuHeader}
use Rattle.isdb_mmt.specs.declared.decoder.counts.AssetStats.{AssetStats}
use Rattle.isdb_mmt.specs.declared.decoder.media.Object.{Object}
use Rattle.isdb_mmt.specs.declared.decoder.media.Media.{Media}
use Rattle.isdb_mmt.specs.declared.decoder.reassembler.MediaEffect.{MediaEffect}

-- the gap rule: a number that does not follow the last one, where there was one
abbrev pub gap_after : Bool → ℕ → ℕ → Bool
gap_after seen number n = if seen then not (follows number n) else false

unfoldable pub gap_in : Media → ℕ → Bool
gap_in p n = gap_after p.seen p.sequence n

unfoldable pub lost_in : Media → ℕ → ℕ
lost_in p n = if gap_in p n then lost_from p.sequence n else 0

-- an object without what is absent
abbrev pub header_if : Bool → MfuHeader → MfuHeader
header_if t h = if t then h else no_header

abbrev pub item_if : Bool → ℕ → ℕ
item_if t i = if t then i else 0

unfoldable pub normal_object : Object → Object
normal_object o =
    record {
      mpu_sequence_number = o.mpu_sequence_number;
      rap = o.rap;
      timed = o.timed;
      header = header_if o.timed o.header;
      item = o.item;
      item_id = item_if o.item o.item_id;
      length = o.length;
    }

-- before the units: a gap drops the held object
abbrev pub begun : Option Object → ℕ → MediaEffect
begun o drops = record { object = o; drops = drops; records = 0; bytes = 0; longest = 0; last = part_at 0 0 }

unfoldable pub start_of : Media → ℕ → MediaEffect
start_of p n =
    if not p.held then begun None 0
    else if gap_in p n then begun None 1
    else begun (Some (normal_object p.object)) 0

-- the MPU number
unfoldable pub new_in : Media → Option PayloadHeader → Bool
new_in p None = false
new_in p (Some h) = if p.mpu_seen then not (h.mpu_sequence_number =? p.mpu) else true

unfoldable pub jump_in : Media → Option PayloadHeader → Bool
jump_in p None = false
jump_in p (Some h) =
    if not p.mpu_seen then false
    else if h.mpu_sequence_number =? p.mpu then false
    else not (follows p.mpu h.mpu_sequence_number)

abbrev pub seen_mpu : Media → Option PayloadHeader → Bool
seen_mpu p None = p.mpu_seen
seen_mpu p (Some h) = true

abbrev pub last_mpu : Media → Option PayloadHeader → ℕ
last_mpu p None = item_if p.mpu_seen p.mpu
last_mpu p (Some h) = h.mpu_sequence_number

unfoldable pub first_mpu_of : Media → Option PayloadHeader → ℕ
first_mpu_of p None = item_if p.mpu_seen p.first_mpu
first_mpu_of p (Some h) = if p.mpu_seen then p.first_mpu else h.mpu_sequence_number

abbrev pub completes_in : Option PayloadHeader → Bool
completes_in None = false
completes_in (Some h) = completes_of h.fragmentation

-- the counts: what a packet adds, and the sums
unfoldable pub adds_of : Media → ℕ → Bool → Option PayloadHeader → Bool → MediaEffect → AssetStats
adds_of p n scrambled h bad t =
    record {
      packets = 1;
      packets_lost = lost_in p n;
      scrambled_packets = one scrambled;
      mfus = t.records;
      scrambled_mfus = one (scrambled && completes_in h);
      mfus_dropped = t.drops;
      mpus = one (new_in p h);
      mpu_sequence_jumps = one (jump_in p h);
      malformed = one bad;
    }

unfoldable pub summed : AssetStats → AssetStats → AssetStats
summed s d =
    record {
      packets = s.packets + d.packets;
      packets_lost = s.packets_lost + d.packets_lost;
      scrambled_packets = s.scrambled_packets + d.scrambled_packets;
      mfus = s.mfus + d.mfus;
      scrambled_mfus = s.scrambled_mfus + d.scrambled_mfus;
      mfus_dropped = s.mfus_dropped + d.mfus_dropped;
      mpus = s.mpus + d.mpus;
      mpu_sequence_jumps = s.mpu_sequence_jumps + d.mpu_sequence_jumps;
      malformed = s.malformed + d.malformed;
    }

unfoldable pub stats_after : Media → ℕ → Bool → Option PayloadHeader → Bool → MediaEffect → AssetStats
unfolding summed adds_of
stats_after p n scrambled h bad t = summed p.stats (adds_of p n scrambled h bad t)

unfoldable pub place_after_of : ℕ → Media → ℕ → Bool → Option PayloadHeader → Bool → MediaEffect → Media
place_after_of id p n scrambled h bad t =
    record {
      packet_id = id;
      seen = true;
      sequence = n;
      mpu_seen = seen_mpu p h;
      mpu = last_mpu p h;
      first_mpu = first_mpu_of p h;
      held = is_some t.object;
      object = object_or t.object;
      stats = stats_after p n scrambled h bad t;
    }

-- no count above n: 2^53 before a packet, as question 5 has it; below 2^32 what a packet adds
pub record StatsWithin (n : ℕ) (s : AssetStats) : Type 0 where
  pub packets : s.packets ≤ n
  pub lost : s.packets_lost ≤ n
  pub scrambled : s.scrambled_packets ≤ n
  pub mfus : s.mfus ≤ n
  pub scrambled_mfus : s.scrambled_mfus ≤ n
  pub dropped : s.mfus_dropped ≤ n
  pub mpus : s.mpus ≤ n
  pub jumps : s.mpu_sequence_jumps ≤ n
  pub malformed : s.malformed ≤ n
