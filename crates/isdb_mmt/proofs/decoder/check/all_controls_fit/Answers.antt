use Rattle.std.proofs.Common.{rules, tests}
use Rattle.isdb_mmt.specs.Memory.Check.{control_sound}
use Rattle.isdb_mmt.specs.Memory.Session.{control_place_of}
use Rattle.isdb_mmt.specs.Memory.Layout.{control_places, control_size}
use Rattle.isdb_mmt.proofs.EachPlace.{all_places}
use Rattle.isdb_mmt.proofs.decoder.check.all_controls_fit.Goals as goal

pub returns : goal.returns
returns c =
    all_places c.args.n control_size control_places c.args.s.now (search rules) (search rules) c.places-places.ensures _ _
    (control_sound c.args.l) control_place_of _ c.all.ensures.ran (λ x b q k. search (rules, tests))
