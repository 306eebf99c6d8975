-- How a sender writes a header: fields one behind the other, each a number of whole bytes, the high byte first. Fields of
-- fewer bits are packed into such a number, the first in the high bits.
use Rattle.std.specs.Prelude.{ℕ, zero, suc, ◌+◌, ◌*◌, ◌/◌, ◌%◌, ◌^◌, ◌<◌, List, [], ◌∷◌, ◌++◌}
use Rattle.isdb_tlv.specs.Bytes.{put_be}

-- the `w` low bytes of a number
unfoldable pub bytes_of : ℕ → ℕ → List ℕ
bytes_of zero v = []
bytes_of (suc w) v = bytes_of w (v / 256) ++ (v % 256 ∷ [])

pub record Field : Type 0 where
  pub width : ℕ
  pub value : ℕ

-- a field of `w` bytes
abbrev pub field : ℕ → ℕ → Field
field w v = record { width = w; value = v }

-- a field of `k` bits
abbrev pub bits : ℕ → ℕ → Field
bits k v = record { width = k; value = v }

abbrev pub packed_from : ℕ → List Field → ℕ
packed_from n [] = n
packed_from n (f ∷ fs) = packed_from (n * 2 ^ f.width + f.value) fs

abbrev pub packed : List Field → ℕ
packed fs = packed_from 0 fs

-- the bytes of a header
abbrev pub written : List Field → List ℕ
written [] = []
written (f ∷ fs) = bytes_of f.width f.value ++ written fs

-- each value fits its field
abbrev pub Fit : List Field → Type 0
Fit [] = Unit {0}
Fit (f ∷ fs) = (f.value < 256 ^ f.width) × Fit fs

-- `l` with fields stored one behind the other from `at` on
abbrev pub puts : ℕ → List Field → List ℕ → List ℕ
puts at [] l = l
puts at (f ∷ fs) l = puts (at + f.width) fs (put_be f.width at f.value l)

-- four fields, whose widths are the hexadecimal digits of `w`
abbrev pub four_fields : ℕ → ℕ → ℕ → ℕ → ℕ → List Field
four_fields w v0 v1 v2 v3 =
    field (w / 4096 % 16) v0 ∷ field (w / 256 % 16) v1 ∷ field (w / 16 % 16) v2 ∷ field (w % 16) v3 ∷ []
