use Rattle.std.proofs.Common.{length}
use Rattle.isdb_mmt.specs.Formats.Nit.{tlv_step_at}
use Rattle.isdb_text.specs.DumpDescriptors.{tlv_element, tlvs_text}
use Rattle.isdb_text.proofs.Elements.{Walk}
use Rattle.isdb_text.proofs.dump_descriptors.tlv_descriptors.Given as goal

abbrev pub invariant-loop : goal.invariant-loop
invariant-loop l = Walk l.initial.out l.at (tlvs_text l.pad l.b) l.out l.p (λ at. tlv_element l.pad l.b) (tlv_step_at l.b) (length l.b) l.counter l.i
