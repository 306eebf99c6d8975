use Rattle.std.proofs.Common.{◌≡◌, ◌+◌, ◌*◌, arith, rules}
use Rattle.isdb_mmt.specs.Memory.Layout.{media_places, media_size}
use Rattle.isdb_mmt.proofs.Checks.{media_length, place_fails, place_fits, places_end}
use native.Mathlib.Nat.{sub-zero}
use Rattle.isdb_mmt.proofs.decoder.check.all_media_fit.Goals as goal

pub loop-i-init : goal.loop-i-init
loop-i-init c = simp sub-zero

pub media_fits-requires : goal.media_fits-requires
media_fits-requires c = search (rules, media_length)

pub returns-then-not-media_fits : goal.returns-then-not-media_fits
returns-then-not-media_fits c = search (rules, place_fails)

pub loop-i-preserved : goal.loop-i-preserved
loop-i-preserved c =
    let e : media_places + media_size * c.loop-i.i + media_size ≡ media_places + media_size * (c.loop-i.i + 1) = omega arith in
    rw (← e) (search (rules, place_fits))

pub returns : goal.returns
returns c = search (rules, places_end)
