-- What is made of a window on the input.
use Rattle.std.specs.Prelude.{◌≡◌, ℕ, Bool, true, false, List, length}
use Rattle.isdb_tlv.specs.Guards.{◌≤?◌}
use Rattle.std.specs.Prelude.{if◌then◌else◌}
use Rattle.isdb_tlv.specs.Cut.{cut_at, recording_of}
use Rattle.isdb_tlv.specs.declared.cut.Cut.{Cut}
use Rattle.isdb_tlv.specs.declared.cut.Cut.TheVariants.{Packet as packet_here, End as end_here, Short as short_here, Bad as bad_here}
use Rattle.isdb_tlv.specs.declared.cut.Stop.TheVariants.{Clean, Bad as bad_at}
use Rattle.feeddump.specs.declared.Passed.{Passed}

-- the most data of a packet
abbrev pub most_bytes : ℕ
most_bytes = 65535

-- whether what stands here is no packet, whatever is read next
abbrev pub is_bad : Cut → Bool
is_bad (packet_here kind start n next) = false
is_bad end_here = false
is_bad short_here = false
is_bad bad_here = true

-- all packets of the window are passed; what is left of it, from `at` on, may go on in what is read next, but where it is no packet
pub record StopsAt (w : List ℕ) (r : Passed) : Type 0 where
  pub end : (recording_of w most_bytes).end ≡ (if length w ≤? r.at then Clean else bad_at r.at)
  pub bad : r.bad ≡ is_bad (cut_at w most_bytes r.at)
