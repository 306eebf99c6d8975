use Rattle.std.proofs.Common.{◌≡◌, ◌+◌, ◌-◌, ◌*◌, map}
use Rattle.isdb_mmt.specs.Memory.Lent.{places_from, every}
use Rattle.isdb_mmt.specs.Memory.Check.{media_sound}
use Rattle.isdb_mmt.specs.Memory.Session.{media_place_of}
use Rattle.isdb_mmt.specs.Memory.Layout.{media_places, media_size}
use Rattle.isdb_mmt.proofs.decoder.check.all_media_fit.Given as goal

abbrev pub invariant-loop-i : goal.invariant-loop-i
invariant-loop-i l = every (media_sound l.l) (map media_place_of (places_from l.n media_size media_places l.s)) ≡ every (media_sound l.l) (map media_place_of (places_from (l.n - l.i) media_size (media_places + media_size * l.i) l.s))
