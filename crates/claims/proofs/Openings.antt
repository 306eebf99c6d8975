-- What an opening that is turned down leaves.
use Prim.Native.Nat.{ℕ}
use mathlib.Core.Path.{◌≡◌, refl, ap, ◌∙◌}
use Rattle.isdb_mmt.specs.Memory.Limits.{in_range, places_in_range, asked}
use Rattle.isdb_mmt.specs.Memory.Session.{Session}
use Rattle.isdb_mmt.specs.Memory.Opening.{Opened}
use Rattle.isdb_mmt.specs.Memory.Check.{lengths_of}
use Rattle.isdb_mmt.specs.declared.decoder.limits.Limits.{Limits}
use Rattle.claims.specs.Session.{Refused}
use native.Mathlib.Omega.{arith}

asked_places : (l : Limits) (s : Session) → l.media_ids ≡ 0 → asked l (lengths_of s) ≡ 1
unfolding asked places_in_range in_range
asked_places l s h = rw h refl

pub turned_down : (l : Limits) (s s' : Session) (r : ℕ) → l.media_ids ≡ 0 → Opened l s r s'
    → Refused 1 r s.state s'.state s.others s'.others
turned_down l s s' r h o =
    let e : r ≡ 1 = o.number ∙ asked_places l s h in
    let u : s' ≡ s = o.unchanged (λ z. omega (arith, e, z)) in
    record { answer = e; state = ap (λ x. x.state) u; others = ap (λ x. x.others) u }
