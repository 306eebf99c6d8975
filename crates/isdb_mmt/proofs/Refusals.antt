-- Reasons and their numbers: each of 1 to 10 is the number of one reason.
use Rattle.std.proofs.Common.{◌≡◌, ℕ, true, false, not, eqb, refl, sym, length, eq-eqb}
use Rattle.isdb_tlv.specs.Guards.{◌<?◌, ◌≤?◌}
use Rattle.isdb_tlv.proofs.Guards.{cond_elim}
use Rattle.isdb_mmt.specs.Memory.Refusals.{number_of, refusal_of}
use Rattle.isdb_mmt.specs.Memory.Session.{Session, limits_of, used_of, counters_of}
use Rattle.isdb_mmt.specs.Memory.Check.{sound}
use Rattle.isdb_mmt.specs.Memory.View.{view}
use Rattle.isdb_mmt.specs.Decoder.Needs.{needs}
use Rattle.isdb_mmt.specs.Pushes.Push.{Input, packet_of, most_bytes, has_places, has_areas, has_outputs, asks_of, asks_later, asks}
use Rattle.isdb_mmt.specs.declared.decoder.refusal.Refusal.{Refusal}
use Rattle.isdb_mmt.specs.declared.decoder.refusal.Refusal.TheVariants.{PlacesOutOfRange, AreasOutOfRange, BufferTooShort, PacketsOutOfRange, NotASession, PacketTooLong, PacketsUsedUp, NoPlaceFree, AreaTooSmall, OutputTooSmall}
use Rattle.isdb_mmt.proofs.Names.{true_not_false}
use Rattle.std.specs.Prelude.{Result, Ok, Err, is_ok}
use Rattle.isdb_mmt.specs.Pushes.Answer.{answered}
use Rattle.isdb_mmt.specs.declared.decoder.records.HandedOut.{HandedOut}

pub refusal_told : (r : Refusal) → refusal_of (number_of r) ≡ r
unfolding refusal_of
refusal_told PlacesOutOfRange = refl
refusal_told AreasOutOfRange = refl
refusal_told BufferTooShort = refl
refusal_told PacketsOutOfRange = refl
refusal_told NotASession = refl
refusal_told PacketTooLong = refl
refusal_told PacketsUsedUp = refl
refusal_told NoPlaceFree = refl
refusal_told AreaTooSmall = refl
refusal_told OutputTooSmall = refl

pub refusal_asks : (r : Refusal) → eqb (number_of r) 0 ≡ false
refusal_asks PlacesOutOfRange = refl
refusal_asks AreasOutOfRange = refl
refusal_asks BufferTooShort = refl
refusal_asks PacketsOutOfRange = refl
refusal_asks NotASession = refl
refusal_asks PacketTooLong = refl
refusal_asks PacketsUsedUp = refl
refusal_asks NoPlaceFree = refl
refusal_asks AreaTooSmall = refl
refusal_asks OutputTooSmall = refl

pub refusal_some : (r : Refusal) → number_of r ≡ 0 → ⊥
refusal_some r e = true_not_false (eqb (number_of r) 0) (eq-eqb (number_of r) 0 e) (refusal_asks r)

-- a number that is asked for has its reason
abbrev IsTold : ℕ → Type 0
IsTold n = eqb n 0 ≡ false → number_of (refusal_of n) ≡ n

told_5 : IsTold 5
unfolding refusal_of
told_5 z = refl

told_6 : IsTold 6
unfolding refusal_of
told_6 z = refl

told_7 : IsTold 7
unfolding refusal_of
told_7 z = refl

told_8 : IsTold 8
unfolding refusal_of
told_8 z = refl

told_9 : IsTold 9
unfolding refusal_of
told_9 z = refl

told_10 : IsTold 10
unfolding refusal_of
told_10 z = refl

told_0 : IsTold 0
told_0 z = true_not_false false (sym z) refl

pub asks_told : (s : Session) (x : Input) → IsTold (asks s x)
unfolding asks asks_later asks_of
asks_told s x =
    cond_elim IsTold (not (sound s)) (λ e. told_5) (λ e.
    cond_elim IsTold (not (length x.bytes ≤? most_bytes)) (λ e. told_6) (λ e.
    cond_elim IsTold (not ((counters_of s.state).tlv_packets <? (limits_of s.state).packets)) (λ e. told_7) (λ e.
    cond_elim IsTold (not (has_places (limits_of s.state) (used_of s.state) (needs (view s) (packet_of x)))) (λ e. told_8) (λ e.
    cond_elim IsTold (not (has_areas (limits_of s.state) (needs (view s) (packet_of x)))) (λ e. told_9) (λ e.
    cond_elim IsTold (not (has_outputs (length x.rows) (length x.out) (needs (view s) (packet_of x)))) (λ e. told_10) (λ e. told_0))))))

-- the number of an answer, by whether it is one
pub ok_number : (a : Result HandedOut Refusal) → is_ok a ≡ true → (answered a).number ≡ 0
ok_number (Ok h) e = refl
ok_number (Err r) e = true_not_false false e refl

pub err_number : (a : Result HandedOut Refusal) → is_ok a ≡ false → (answered a).number ≡ 0 → ⊥
err_number (Ok h) e z = true_not_false true refl e
err_number (Err r) e z = refusal_some r z
