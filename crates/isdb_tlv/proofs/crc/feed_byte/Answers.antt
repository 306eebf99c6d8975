use mathlib.Core.Path.{◌≡◌}
use native.Mathlib.Omega.{arith}
use Prim.Native.Nat.{◌/◌, ◌%◌, ◌^◌}
use Rattle.isdb_tlv.proofs.CrcWords.{one_byte}
use Rattle.isdb_tlv.proofs.crc.feed_byte.Goals as goal

pub returns : goal.returns
returns c =
    let high : c.args.z / 2 ^ 24 % 256 ≡ c.args.z / 2 ^ 24 = omega arith in
    rw (c.after.ensures, c.to_be_bytes.ensures, high) (one_byte c.args.z c.args.b c.ranges.z.fits c.ranges.b.fits)
