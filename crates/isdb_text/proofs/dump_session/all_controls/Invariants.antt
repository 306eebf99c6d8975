use Rattle.isdb_mmt.specs.Memory.Layout.{most_control_ids}
use Rattle.isdb_mmt.specs.Memory.Lending.{lent_by}
use Rattle.isdb_mmt.specs.Answers.Readings.{next_control_read}
use Rattle.isdb_text.specs.Ascending.{id_element}
use Rattle.isdb_text.specs.DumpSession.{all_controls, control_text}
use Rattle.isdb_text.proofs.Elements.{Walk}
use Rattle.isdb_text.proofs.dump_session.all_controls.Given as goal

abbrev pub invariant-loop : goal.invariant-loop
invariant-loop l =
    Walk l.initial.out l.at (all_controls (lent_by l.session)) l.out l.p (λ at. id_element (control_text (lent_by l.session))) (next_control_read (lent_by l.session))
    most_control_ids l.counter l.from
