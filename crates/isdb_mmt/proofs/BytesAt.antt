-- Bytes that stand at a place among others: what is read there is what was written. Assumes nothing.
use Rattle.std.proofs.Common.{◌≡◌, ℕ, ◌+◌, ◌/◌, ◌^◌, ◌<◌, ◌≤◌, List, [], ◌∷◌, ◌++◌, length, get_or, drop, sym, refl, ◌∙◌, append_assoc, append-nil, add-zero, arith, length-append, take_at, drop_at}
use Rattle.isdb_tlv.specs.Bytes.{be}
use Rattle.isdb_tlv.specs.Fields.{Field, field, written, Fit}
use Rattle.isdb_tlv.proofs.Fields.{be_one, be_behind, be_high, field_at, offset_of, read}
use Rattle.isdb_mmt.specs.Formats.Part.{part_at, part_of}

-- the bytes `b` stand at `at` in `s`
pub record FoundAt (s : List ℕ) (at : ℕ) (b : List ℕ) : Type 0 where
  pub before : List ℕ
  pub behind : List ℕ
  pub place : length before ≡ at
  pub all : s ≡ before ++ (b ++ behind)

-- as a whole, before others, and behind others
pub located_whole : (b : List ℕ) → FoundAt b 0 b
located_whole b = record { before = []; behind = []; place = refl; all = sym (append-nil b) }

pub located_first : (b r : List ℕ) → FoundAt (b ++ r) 0 b
located_first b r = record { before = []; behind = r; place = refl; all = refl }

module _ (a b : List ℕ) {n : ℕ} (e : length a ≡ n) where
  pub located_last : FoundAt (a ++ b) n b
  located_last = record { before = a; behind = []; place = e; all = rw append-nil }

  pub last_ends : n + length b ≡ length (a ++ b)
  last_ends = rw (length-append, e)

module _ {s : List ℕ} {at : ℕ} (b : List ℕ) (h : FoundAt s at b) where
  pub located_part : part_of s (part_at at (length b)) ≡ b
  located_part = rw (h.all, drop_at h.before (b ++ h.behind) at h.place, take_at b h.behind (length b) refl)

  pub located_drop : drop at s ≡ b ++ h.behind
  located_drop = rw h.all (drop_at h.before (b ++ h.behind) at h.place)

  pub located_within : at + length b ≤ length s
  located_within = rw (h.all, length-append, length-append, ← h.place) (omega arith)

-- the parts of two lists
module _ {s : List ℕ} {at : ℕ} (b c : List ℕ) (h : FoundAt s at (b ++ c)) where
  pub located_front : FoundAt s at b
  located_front = record { before = h.before; behind = c ++ h.behind; place = h.place; all = h.all ∙ simp append_assoc }

  pub located_rest : {n : ℕ} → length b ≡ n → FoundAt s (at + n) c
  located_rest {n} e =
      record {
        before = h.before ++ b;
        behind = h.behind;
        place = rw (length-append, h.place, e);
        all = h.all ∙ simp append_assoc;
      }

-- fields: each is read where it stands
module _ {s : List ℕ} {at : ℕ} (fs : List Field) (fit : Fit fs) (h : FoundAt s at (written fs)) where
  pub field_read : (k : ℕ) → be (field_at k fs).width s (at + offset_of k fs) ≡ (field_at k fs).value
  field_read k =
      rw h.all (be_behind (field_at k fs).width h.before (written fs ++ h.behind) h.place (offset_of k fs) ∙ read fs fit k h.behind)

  -- the first one
  pub first_read : be (field_at 0 fs).width s at ≡ (field_at 0 fs).value
  first_read = rw add-zero at (field_read 0)

  -- one of a single byte
  pub byte_read : (k : ℕ) → (field_at k fs).width ≡ 1 → get_or s (at + offset_of k fs) 0 ≡ (field_at k fs).value
  byte_read k e = be_one s (at + offset_of k fs) ∙ rw e at (field_read k)

-- the high byte of a field of two
pub high_byte : {s : List ℕ} {at : ℕ} (v : ℕ) → v < 2 ^ 16 → FoundAt s at (written (field 2 v ∷ [])) → get_or s at 0 ≡ v / 256
high_byte {s} {at} v fits h =
    let e : be 1 s (at + 0) ≡ v / 256 =
    rw h.all (be_behind 1 h.before (written (field 2 v ∷ []) ++ h.behind) h.place 0 ∙ rw append_assoc (be_high 1 1 v ([] ++ h.behind) fits)) in
    be_one s at ∙ rw add-zero at e
