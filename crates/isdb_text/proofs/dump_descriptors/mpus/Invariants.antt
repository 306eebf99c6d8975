use Rattle.std.proofs.Common.{length}
use Rattle.isdb_mmt.specs.Formats.Timestamp.{mpu_at}
use Rattle.isdb_text.specs.DumpDescriptors.{mpu_element, mpus_text}
use Rattle.isdb_text.proofs.Elements.{Walk}
use Rattle.isdb_text.proofs.dump_descriptors.mpus.Given as goal

abbrev pub invariant-loop : goal.invariant-loop
invariant-loop l = Walk l.initial.out l.at (mpus_text l.b l.e) l.out l.p (mpu_element l.b l.e) (mpu_at l.b l.e.own_pts_offset) (length l.b) l.counter l.i
