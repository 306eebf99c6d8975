-- A part of some bytes, by its place.
use Rattle.std.specs.Prelude.{ℕ, List, take, drop}
use Rattle.isdb_mmt.specs.declared.part.Part.{Part}

abbrev pub part_of : List ℕ → Part → List ℕ
part_of s p = take p.length (drop p.start s)

abbrev pub part_at : ℕ → ℕ → Part
part_at start n = record { start = start; length = n }

-- 2^64, how many numbers count bytes
abbrev pub count_of_usize : ℕ
count_of_usize = 18446744073709551616
