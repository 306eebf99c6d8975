use Rattle.std.proofs.Common.{refl, rules}
use Rattle.isdb_mmt.proofs.Floats.{unit_lit, epoch_lit, exact}
use Rattle.isdb_mmt.specs.Formats.Ntp.{ntp_to_unix_of}
use lib.Bits.{and_mask}
use Rattle.isdb_mmt.proofs.ntp.ntp_to_unix.Goals as goal

pub returns : goal.returns
unfolding ntp_to_unix_of
returns c = let t = c.args.t in rw (unit_lit, epoch_lit, and_mask t 32) (record { rounded = refl; exact = λ h. exact t (search rules) h })
