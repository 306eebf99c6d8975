use mathlib.Core.Path.{◌≡◌}
use Prim.Native.Nat.{ℕ}
use mir.Val.{Fits}
use mir.Syntax.{w8}
use lib.ListN.{length, get_or}
use borrow.Author.Rules.{rules}
use Rattle.isdb_tlv.proofs.CrcWords.{all_eight}
use Rattle.isdb_tlv.proofs.crc.feed_eight.Goals as goal

pub returns : goal.returns
returns c =
    let s = c.args.s in
    let known : (i : ℕ) → Fits w8 (get_or s i 0) = search rules in
    let size : length s ≡ 8 = search rules in
    rw (c.feed_zeros.ensures, c.feed_zeros-y.ensures)
    (all_eight s known c.args.z c.from_be_bytes-2.result c.from_be_bytes.result c.ranges.z.fits size c.from_be_bytes-2.ensures c.from_be_bytes.ensures)
