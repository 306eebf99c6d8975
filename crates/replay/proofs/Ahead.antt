-- A packet leads ahead. Assumes nothing.
use Rattle.std.proofs.Common.{◌≡◌, ℕ, ◌<◌, List, sym, ◌∙◌, arith}
use Rattle.isdb_tlv.specs.Cut.{cut_at}
use Rattle.isdb_tlv.specs.declared.cut.Cut.{Cut}
use Rattle.isdb_tlv.specs.declared.cut.Cut.TheVariants.{Packet}
use Rattle.isdb_tlv.proofs.Cutting.{packet_lies}

pub packet_ahead : (w : List ℕ) (most i : ℕ) (c : Cut) → c ≡ cut_at w most i → (kind start n next : ℕ) → c ≡ Packet kind start n next
    → i < next
packet_ahead w most i c e kind start n next d =
    let l = packet_lies w most i (sym e ∙ d) in
    omega (arith, l.behind_header, l.behind_bytes)
