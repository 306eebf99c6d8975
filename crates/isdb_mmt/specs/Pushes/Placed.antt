-- The tables of a joined message and the sections of a control packet, each with the place where its bytes start.
use Rattle.std.specs.Prelude.{◌≡◌, ℕ, ◌+◌, ◌-◌, Bool, List, [], ◌∷◌, ◌++◌, map, length}
use Rattle.std.specs.Prelude.{if◌then◌else◌}
use Rattle.isdb_tlv.specs.Si.{sections_from}
use Rattle.isdb_tlv.specs.declared.si.Section.{Section}
use Rattle.isdb_mmt.specs.Formats.Part.{part_at as part_for, part_of}
use Rattle.isdb_mmt.specs.Decoder.Packet.{Bytes}
use Rattle.isdb_mmt.specs.Formats.Message.{content_of, aggregated_from, tables_from}
use Rattle.isdb_mmt.specs.Decoder.Reassembly.{PartialMessage, parts_of, tables_of_all, messages_of}
use Rattle.isdb_mmt.specs.Memory.Lent.{part}
use Rattle.isdb_mmt.specs.declared.part.Part.{Part}
use Rattle.isdb_mmt.specs.declared.message.Content.{Content}
use Rattle.isdb_mmt.specs.declared.message.Content.TheVariants.{Malformed as bad_message, Nothing, Table as one_table_of, Tables}

pub record Placed : Type 0 where
  pub at : ℕ
  pub bytes : Bytes

-- the parts of some bytes that start at `from`
abbrev pub placed : ℕ → Bytes → Part → Placed
placed from b p = record { at = from + p.start; bytes = part_of b p }

-- the message that is whole
abbrev pub join_of : Bool → Bool → Bytes → PartialMessage
join_of long aggregated b = record { long = long; aggregated = aggregated; bytes = b }

abbrev pub table_bytes : List Placed → List Bytes
table_bytes xs = map (λ (x : Placed). x.bytes) xs

abbrev pub placed_in : ℕ → Bytes → Content → List Placed
placed_in from m bad_message = []
placed_in from m Nothing = []
placed_in from m (one_table_of p) = placed from m p ∷ []
placed_in from m (Tables body at) =
    map (placed (from + body.start) (part_of m body)) (tables_from (part_of m body) at).found

unfoldable pub placed_of : ℕ → Bytes → List Placed
placed_of from m = placed_in from m (content_of m)

unfoldable pub placed_of_all : Bytes → List Part → List Placed
placed_of_all b [] = []
placed_of_all b (p ∷ ps) = placed_of p.start (part_of b p) ++ placed_of_all b ps

unfoldable pub placed_cut : PartialMessage → List Placed
placed_cut j =
    if j.aggregated then placed_of_all j.bytes (messages_of j).found else placed_of 0 j.bytes

-- of an aggregated payload's messages from a place on, and what is malformed there
abbrev pub placed_from : Bytes → Bool → ℕ → List Placed
placed_from b long at = placed_of_all b (aggregated_from b long at).found

abbrev pub malformed_from : Bytes → Bool → ℕ → ℕ
malformed_from b long at =
    (aggregated_from b long at).malformed + (tables_of_all (parts_of b (aggregated_from b long at).found)).malformed

-- a part of two pieces, one behind the other, of which the first has `n` bytes: what lies in the second
unfoldable pub behind : ℕ → Part → Part
behind n p = part_for (p.start - n) (p.length - (n - p.start))

-- the sections of a control packet's data, from a place on
unfoldable pub placed_sections : Bytes → ℕ → List Placed
placed_sections b at = map (λ (x : Section). record { at = x.offset; bytes = part x.offset x.size b }) (sections_from b at)

-- bytes that stand at a place of others
abbrev pub PlacedAt : Bytes → ℕ → Bytes → Type 0
PlacedAt m at bs = bs ≡ part at (length bs) m

abbrev pub AllPlaced : Bytes → List Placed → Type 0
AllPlaced m [] = Unit {0}
AllPlaced m (x ∷ xs) = PlacedAt m x.at x.bytes × AllPlaced m xs
