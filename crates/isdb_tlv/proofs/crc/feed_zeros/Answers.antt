use mathlib.Core.Path.{◌≡◌}
use native.Mathlib.Omega.{arith}
use Prim.Native.Nat.{◌+◌, ◌/◌, ◌%◌, ◌^◌}
use Rattle.isdb_tlv.proofs.CrcWords.{spread}
use Rattle.isdb_tlv.proofs.crc.feed_zeros.Goals as goal

pub returns : goal.returns
returns c =
    let k = c.args.k in
    let e1 : k + 1 + 4 ≡ k + 4 + 1 = omega arith in
    let e2 : k + 2 + 4 ≡ k + 4 + 2 = omega arith in
    let e3 : k + 3 + 4 ≡ k + 4 + 3 = omega arith in
    let high : c.args.x / 2 ^ 24 % 256 ≡ c.args.x / 2 ^ 24 = omega arith in
    rw (c.after.ensures, c.after-2.ensures, c.after-3.ensures, c.after-4.ensures, e1, e2, e3, c.to_be_bytes.ensures, high)
    (spread (k + 4) c.args.x c.ranges.x.fits)
