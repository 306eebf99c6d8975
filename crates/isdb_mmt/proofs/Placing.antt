-- The tables of a joined message and the sections of a control packet by their places: their bytes are the model's, and stand
-- where they say. Assumes nothing.
use Rattle.std.proofs.Common.{◌≡◌, ℕ, ◌+◌, ◌-◌, min, Bool, true, false, cond, List, [], ◌∷◌, ◌++◌, map, length, get_or, take, drop, sym, refl, ap, ◌∙◌, zero-add, arith, length-drop, length-take, get_or-drop, take_all, get_or-take, ext_get_or}
use Rattle.isdb_tlv.specs.Si.{sections_from, sections_of}
use Rattle.isdb_tlv.specs.declared.si.Section.{Section}
use Rattle.isdb_tlv.proofs.Guards.{either}
use Rattle.isdb_mmt.specs.Formats.Part.{part_of}
use Rattle.isdb_mmt.specs.Memory.Lent.{part}
use Rattle.isdb_mmt.specs.Decoder.Packet.{Bytes}
use Rattle.isdb_mmt.specs.Formats.Message.{content_of, tables_from}
use Rattle.isdb_mmt.specs.Decoder.Reassembly.{PartialMessage, messages_of, tables_in, tables_of, tables_of_all, parts_of, cut_of}
use Rattle.isdb_mmt.specs.declared.part.Part.{Part}
use Rattle.isdb_mmt.specs.declared.message.Content.{Content}
use Rattle.isdb_mmt.specs.declared.message.Content.TheVariants.{Malformed as bad_message, Nothing, Table as one_table_of, Tables}
use Rattle.isdb_mmt.specs.Pushes.Placed.{Placed, placed, table_bytes, placed_in, placed_of, placed_of_all, placed_cut, placed_sections, PlacedAt, AllPlaced}

-- ---- the bytes

map_append : (xs ys : List Placed) → table_bytes (xs ++ ys) ≡ table_bytes xs ++ table_bytes ys
map_append [] ys = refl
map_append (x ∷ xs) ys = ap (λ (l : List Bytes). x.bytes ∷ l) (map_append xs ys)

bytes_parts : (from : ℕ) (b : Bytes) (ps : List Part) → table_bytes (map (placed from b) ps) ≡ parts_of b ps
bytes_parts from b [] = refl
bytes_parts from b (p ∷ ps) = ap (λ (l : List Bytes). part_of b p ∷ l) (bytes_parts from b ps)

bytes_in_lem : (from : ℕ) (m : Bytes) (c : Content) → table_bytes (placed_in from m c) ≡ (tables_in m c).tables
bytes_in_lem from m bad_message = refl
bytes_in_lem from m Nothing = refl
bytes_in_lem from m (one_table_of p) = refl
bytes_in_lem from m (Tables body at) =
    bytes_parts (from + body.start) (part_of m body) (tables_from (part_of m body) at).found

bytes_of : (from : ℕ) (m : Bytes) → table_bytes (placed_of from m) ≡ (tables_of m).tables
unfolding placed_of tables_of
bytes_of from m = bytes_in_lem from m (content_of m)

bytes_all : (b : Bytes) (ps : List Part) → table_bytes (placed_of_all b ps) ≡ (tables_of_all (parts_of b ps)).tables
unfolding placed_of_all tables_of_all
bytes_all b [] = refl
bytes_all b (p ∷ ps) =
    map_append (placed_of p.start (part_of b p)) (placed_of_all b ps)
    ∙ ap (λ (l : List Bytes). l ++ table_bytes (placed_of_all b ps)) (bytes_of p.start (part_of b p))
    ∙ ap (λ (l : List Bytes). (tables_of (part_of b p)).tables ++ l) (bytes_all b ps)

pub bytes_cut : (j : PartialMessage) → table_bytes (placed_cut j) ≡ (cut_of j).tables
unfolding placed_cut cut_of messages_of
bytes_cut j =
    either j.aggregated (λ t. rw t (bytes_all j.bytes (messages_of j).found)) (λ f. rw f (bytes_of 0 j.bytes))

-- ---- the places

pub whole_located : (m : Bytes) → PlacedAt m 0 m
whole_located m = sym (take_all (length m) m (omega arith))

-- a part of what stands at a place stands behind it
pub part_located : (m : Bytes) (at : ℕ) (b : Bytes) (p : Part) → PlacedAt m at b → PlacedAt m (at + p.start) (part_of b p)
part_located m at b p h =
    let n : ℕ = length (part_of b p) in
    let lb : length b ≡ min (length b) (length m - at) =
    ap length h ∙ length-take (length b) (drop at m) ∙ ap (λ k. min (length b) k) (length-drop at m) in
    let ln : n ≡ min p.length (length b - p.start) =
    length-take p.length (drop p.start b) ∙ ap (λ k. min p.length k) (length-drop p.start b) in
    let lr : length (part (at + p.start) n m) ≡ min n (length m - (at + p.start)) =
    length-take n (drop (at + p.start) m) ∙ ap (λ k. min n k) (length-drop (at + p.start) m) in
    ext_get_or 0 (part_of b p) (part (at + p.start) n m) (omega arith)
    (λ i k.
    let e : at + p.start + i ≡ at + (p.start + i) = omega arith in
    get_or-take p.length (drop p.start b) i 0 (omega arith)
    ∙ get_or-drop p.start b i 0
    ∙ ap (λ (l : Bytes). get_or l (p.start + i) 0) h
    ∙ get_or-take (length b) (drop at m) (p.start + i) 0 (omega arith)
    ∙ get_or-drop at m (p.start + i) 0
    ∙ sym
    (get_or-take n (drop (at + p.start) m) i 0 k
    ∙ get_or-drop (at + p.start) m i 0
    ∙ ap (λ j. get_or m j 0) e))

all_append : (m : Bytes) (xs ys : List Placed) → AllPlaced m xs → AllPlaced m ys → AllPlaced m (xs ++ ys)
all_append m [] ys a b = b
all_append m (x ∷ xs) ys a b = (a.0, all_append m xs ys a.1 b)

parts_located : (m : Bytes) (at : ℕ) (b : Bytes) → PlacedAt m at b → (ps : List Part) → AllPlaced m (map (placed at b) ps)
parts_located m at b h [] = tt
parts_located m at b h (p ∷ ps) = (part_located m at b p h, parts_located m at b h ps)

in_located : (m : Bytes) (at : ℕ) (b : Bytes) → PlacedAt m at b → (c : Content) → AllPlaced m (placed_in at b c)
in_located m at b h bad_message = tt
in_located m at b h Nothing = tt
in_located m at b h (one_table_of p) = (part_located m at b p h, tt)
in_located m at b h (Tables body from) =
    parts_located m (at + body.start) (part_of b body) (part_located m at b body h) (tables_from (part_of b body) from).found

of_located : (m : Bytes) (at : ℕ) (b : Bytes) → PlacedAt m at b → AllPlaced m (placed_of at b)
unfolding placed_of
of_located m at b h = in_located m at b h (content_of b)

all_located : (m : Bytes) (ps : List Part) → AllPlaced m (placed_of_all m ps)
unfolding placed_of_all
all_located m [] = tt
all_located m (p ∷ ps) =
    all_append m (placed_of p.start (part_of m p)) (placed_of_all m ps)
    (of_located m p.start (part_of m p) (rw zero-add at (part_located m 0 m p (whole_located m)))) (all_located m ps)

pub cut_located : (j : PartialMessage) → AllPlaced j.bytes (placed_cut j)
unfolding placed_cut
cut_located j = go j.aggregated
  where
    go : (b : Bool) → AllPlaced j.bytes (cond b (placed_of_all j.bytes (messages_of j).found) (placed_of 0 j.bytes))
    go true = all_located j.bytes (messages_of j).found
    go false = of_located j.bytes 0 j.bytes (whole_located j.bytes)

-- ---- the sections of a control packet

pub bytes_sections : (b : Bytes) → table_bytes (placed_sections b 0) ≡ map (λ (x : Section). take x.size (drop x.offset b)) (sections_of b)
unfolding placed_sections sections_of
bytes_sections b = go (sections_from b 0)
  where
    go : (xs : List Section) → table_bytes (map (λ (x : Section). record { at = x.offset; bytes = part x.offset x.size b }) xs) ≡ map (λ (x : Section). take x.size (drop x.offset b)) xs
    go [] = refl
    go (x ∷ xs) = ap (λ (l : List Bytes). part x.offset x.size b ∷ l) (go xs)

pub sections_placed : (b : Bytes) → AllPlaced b (placed_sections b 0)
unfolding placed_sections
sections_placed b = go (sections_from b 0)
  where
    go : (xs : List Section) → AllPlaced b (map (λ (x : Section). record { at = x.offset; bytes = part x.offset x.size b }) xs)
    go [] = tt
    go (x ∷ xs) = (rw zero-add at (part_located b 0 b (record { start = x.offset; length = x.size }) (whole_located b)), go xs)
