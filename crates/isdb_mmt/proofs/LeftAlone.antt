-- Fields of which only those that change are stored. The others are left alone: what would be stored is what stands there. Assumes nothing.
use Rattle.std.proofs.Common.{◌≡◌, ℕ, zero, suc, ◌+◌, ◌*◌, ◌/◌, ◌%◌, ◌≤◌, List, [], ◌∷◌, length, get_or, refl, ap, ◌∙◌, arith, get_or-set_other}
use lib.Seq.{set-get_or}
use Rattle.isdb_tlv.specs.Bytes.{be, put_be}
use Rattle.isdb_tlv.specs.Fields.{Field, field, puts}
use Rattle.isdb_tlv.proofs.Numbers.{be_ext, length_put_be}
use Rattle.isdb_tlv.proofs.Fields.{size}
use Rattle.isdb_mmt.specs.Memory.Octets.{Octets}

-- a number that is stored where it stands
put_same : (w at : ℕ) (l p : List ℕ) → Octets p → ((j : ℕ) → at ≤ j → get_or l j 0 ≡ get_or p j 0) → put_be w at (be w p at) l ≡ l
unfolding put_be be
put_same zero at l p o h = refl
put_same (suc w) at l p o h =
    let x = be w p at in
    let y = get_or p (at + w) 0 in
    let d : (x * 256 + y) / 256 ≡ x = omega (arith, o (at + w)) in
    let r : (x * 256 + y) % 256 ≡ y = omega (arith, o (at + w)) in
    rw (d, r, put_same w at l p o h, ← h (at + w) (omega arith)) (set-get_or l (at + w) 0)

-- what lies behind a stored number, and behind stored fields
put_behind : (w at v : ℕ) (l : List ℕ) (j : ℕ) → at + w ≤ j → get_or (put_be w at v l) j 0 ≡ get_or l j 0
unfolding put_be
put_behind zero at v l j h = refl
put_behind (suc w) at v l j h =
    get_or-set_other (put_be w at (v / 256) l) (at + w) j (v % 256) 0 (λ e. omega arith) ∙ put_behind w at (v / 256) l j (omega arith)

puts_behind : (fs : List Field) (at : ℕ) (l : List ℕ) (j : ℕ) → at + size fs ≤ j → get_or (puts at fs l) j 0 ≡ get_or l j 0
puts_behind [] at l j h = refl
puts_behind (f ∷ fs) at l j h =
    puts_behind fs (at + f.width) (put_be f.width at f.value l) j (omega arith) ∙ put_behind f.width at f.value l j (omega arith)

pub be_puts : (w : ℕ) (fs : List Field) (at : ℕ) (l : List ℕ) (j : ℕ) → at + size fs ≤ j → be w (puts at fs l) j ≡ be w l j
be_puts w fs at l j h = be_ext w j (puts at fs l) l (λ k b. puts_behind fs at l (j + k) (omega arith))

pub length_puts : (fs : List Field) (at : ℕ) (l : List ℕ) → length (puts at fs l) ≡ length l
length_puts [] at l = refl
length_puts (f ∷ fs) at l = length_puts fs (at + f.width) (put_be f.width at f.value l) ∙ length_put_be f.width at f.value l

-- a field of so many bytes that is stored with a value, or left alone
pub data Step : Type 0 where
  store : ℕ → ℕ → Step
  leave : ℕ → Step

-- what the steps from a place on make of `l`
abbrev pub stepped : ℕ → List Step → List ℕ → List ℕ
stepped at [] l = l
stepped at (store w v ∷ xs) l = stepped (at + w) xs (put_be w at v l)
stepped at (leave w ∷ xs) l = stepped (at + w) xs l

-- the fields that then stand there, where `p` stood
abbrev pub standing : ℕ → List Step → List ℕ → List Field
standing at [] p = []
standing at (store w v ∷ xs) p = field w v ∷ standing (at + w) xs p
standing at (leave w ∷ xs) p = field w (be w p at) ∷ standing (at + w) xs p

pub left_alone : (xs : List Step) (at : ℕ) (l p : List ℕ) → Octets p → ((j : ℕ) → at ≤ j → get_or l j 0 ≡ get_or p j 0)
    → puts at (standing at xs p) l ≡ stepped at xs l
left_alone [] at l p o h = refl
left_alone (store w v ∷ xs) at l p o h =
    left_alone xs (at + w) (put_be w at v l) p o (λ j b. put_behind w at v l j b ∙ h j (omega arith))
left_alone (leave w ∷ xs) at l p o h =
    ap (puts (at + w) (standing (at + w) xs p)) (put_same w at l p o h) ∙ left_alone xs (at + w) l p o (λ j b. h j (omega arith))
