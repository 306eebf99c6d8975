-- TLV packets in a recording: ARIB STD-B32 Part 3, 3.5. The byte 0x7F, the kind, a length of 16 bits, and so many data.
use Rattle.std.specs.Prelude.{ℕ, ◌+◌, ◌-◌, List, [], ◌∷◌, length, take, drop, get_or}
use Rattle.isdb_tlv.specs.Guards.{◌<?◌, ◌≤?◌, ◌≠?◌}
use Rattle.std.specs.Prelude.{if◌then◌else◌}
use Rattle.isdb_tlv.specs.Bytes.{be}
use Rattle.isdb_tlv.specs.Walk.{Next, stop, more, walk}
use Rattle.isdb_tlv.specs.declared.cut.Stop.{Stop}
use Rattle.isdb_tlv.specs.declared.cut.Stop.TheVariants.{Clean, Bad as bad_at}
use Rattle.isdb_tlv.specs.declared.cut.Cut.{Cut}
use Rattle.isdb_tlv.specs.declared.cut.Cut.TheVariants.{Packet, End, Short, Bad}

-- what stands at `at`, where a packet has at most `most` data
unfoldable pub cut_at : List ℕ → ℕ → ℕ → Cut
cut_at s most at =
    if length s ≤? at then End
    else if get_or s at 0 ≠? 0x7F then Bad
    else if length s - at <? 4 then Short
    else if most <? be 2 s (at + 2) then Bad
    else if length s - at - 4 <? be 2 s (at + 2) then Short
    else Packet (get_or s (at + 1) 0) (at + 4) (be 2 s (at + 2)) (at + 4 + be 2 s (at + 2))

-- a packet: its kind and its data
pub record TlvPacket : Type 0 where
  pub kind : ℕ
  pub bytes : List ℕ

-- a recording: its packets in order, and where reading stops: at its end, or at the first byte of what is no packet or not whole
pub record Recording : Type 0 where
  pub packets : List TlvPacket
  pub end : Stop

abbrev pub ends : Stop → Recording
ends e = record { packets = []; end = e }

abbrev pub with_first : TlvPacket → Recording → Recording
with_first p r = record { packets = p ∷ r.packets; end = r.end }

abbrev pub item : List ℕ → ℕ → Cut → Next Recording
item s at (Packet kind start length next) = more next (with_first (record { kind = kind; bytes = take length (drop start s) }))
item s at End = stop (ends Clean)
item s at Short = stop (ends (bad_at at))
item s at Bad = stop (ends (bad_at at))

-- the recording from a place on
unfoldable pub recording_from : List ℕ → ℕ → ℕ → Recording
recording_from s most at = walk (λ q. item s q (cut_at s most q)) (ends Clean) (length s) at

unfoldable pub recording_of : List ℕ → ℕ → Recording
recording_of s most = recording_from s most 0
