use mathlib.Core.Path.{◌≡◌}
use mathlib.Core.Bool.{Bool}
use mathlib.Core.List.{List}
use Prim.Native.Nat.{ℕ, ◌+◌, ◌<◌}
use lib.Dec.{T, eqb, eqb→eq}
use lib.ListN.{length, get_or}
use Rattle.isdb_tlv.specs.Crc.{feed, feed_byte, zero_bytes}
use Rattle.isdb_tlv.specs.declared.crc.tables.TheConstants.{AFTER}
use Rattle.isdb_tlv.proofs.Table.{both, both_left, both_right, every, at}
use Rattle.isdb_tlv.proofs.crc.tables.after.Goals as goal

-- a test that antt computes at each of the entries
entry : ℕ → ℕ → ℕ → Bool
entry k n x = eqb x (zero_bytes (k + 4) n)

row : ℕ → List ℕ → Bool
row k xs = both (eqb (length xs) 256) (every (entry k) 0 xs)

all_rows : (d : List ℕ) (k : ℕ) → k < 8 → T (row k (get_or AFTER k d))
unfolding entry row feed feed_byte
all_rows d k h = at row d AFTER tt k h

read : (d : List ℕ) (k n m : ℕ) → k < 8 → n < 256 → m ≡ n → get_or (get_or AFTER k d) m 0 ≡ zero_bytes (k + 4) n
unfolding entry row
read d k n m hk hn e =
    let xs = get_or AFTER k d in
    let t = all_rows d k hk in
    let size : length xs ≡ 256 = eqb→eq (length xs) 256 (both_left (eqb (length xs) 256) (every (entry k) 0 xs) t) in
    rw e (eqb→eq (get_or xs n 0) (zero_bytes (k + 4) n) (at (entry k) 0 xs (both_right (eqb (length xs) 256) (every (entry k) 0 xs) t) n (rw size hn)))

pub returns : goal.returns
returns c = read _ c.args.k c.args.n c.from.result c.requires c.ranges.n.fits c.from.ensures
