use Rattle.std.proofs.Common.{rules, tests}
use Rattle.isdb_mmt.specs.Memory.Check.{roomy_count, stats_at_most}
use Rattle.isdb_mmt.specs.Memory.Session.{media_place_of}
use Rattle.isdb_mmt.specs.Memory.Layout.{media_places, media_size}
use Rattle.isdb_mmt.proofs.EachPlace.{all_places}
use Rattle.isdb_mmt.proofs.decoder.room.all_media_have_room.Goals as goal

pub returns : goal.returns
returns c =
    all_places c.args.n media_size media_places c.args.s.now (search rules) (search rules) c.places.ensures _ _
    (stats_at_most roomy_count) media_place_of _ c.all.ensures.ran (λ x b q k. search (rules, tests))
