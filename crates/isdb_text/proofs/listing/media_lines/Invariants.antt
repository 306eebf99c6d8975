use Rattle.isdb_mmt.specs.Memory.Lending.{lent_by}
use Rattle.isdb_mmt.specs.Answers.Readings.{next_media_read, media_read}
use Rattle.isdb_text.specs.Ascending.{id_element}
use Rattle.isdb_text.specs.Listing.{media_lines, media_text}
use Rattle.isdb_text.proofs.Elements.{Walk}
use Rattle.isdb_text.proofs.listing.media_lines.Given as goal

abbrev pub invariant-loop : goal.invariant-loop
invariant-loop l =
    Walk l.initial.out l.at (media_lines (lent_by l.session)) l.out l.p (λ at. id_element (λ id. media_text id (media_read (lent_by l.session) id))) (next_media_read (lent_by l.session))
    64 l.counter l.from
