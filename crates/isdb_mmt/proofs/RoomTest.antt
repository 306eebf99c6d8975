-- The test whether counts are far enough from 2^53. Assumes nothing.
use Rattle.std.proofs.Common.{◌≡◌, ℕ, ◌<◌, ◌≤◌, Bool, true, false, not, List, [], ◌∷◌, ◌++◌, length, sym, refl, ◌∙◌, le-leb, leb-true}
use borrow.Author.Tests.{lt-leb}
use Rattle.isdb_tlv.specs.Guards.{◌≤?◌}
use Rattle.isdb_mmt.specs.Memory.Octets.{Lent}
use Rattle.isdb_mmt.specs.Memory.Layout.{stats_place, counters_place}
use Rattle.isdb_mmt.specs.Memory.Lent.{every}
use Rattle.isdb_mmt.specs.Memory.Session.{Session, counters_of, media_place_of, stats_of}
use Rattle.isdb_mmt.specs.Memory.Check.{at_most, counts_from, packet_counts, table_counts, stats_counts, media_in, stats_at_most, counts_at_most, roomy_count, lengths_of, sound_in, sound, PlacesThere}
use Rattle.isdb_mmt.specs.Pushes.PushAllSteps.{most_input, asked_once}
use Rattle.isdb_mmt.specs.Theorems.Room.{AllAtMost, MediaWithin, CountsWithin, SoundWithin}
use Rattle.isdb_mmt.specs.declared.decoder.limits.Lengths.{Lengths}
use Rattle.isdb_mmt.specs.declared.decoder.media.Media.{Media}
use Rattle.isdb_mmt.proofs.Guards.{yes, guard_holds, guard_fails, was_both, was_guarded}
use Rattle.isdb_mmt.proofs.Checks.{every_both, sound_is}
use Rattle.isdb_mmt.proofs.ReadSteps.{was_sound, no_session}
use Rattle.isdb_mmt.specs.Memory.Lending.{session_asked}
use Rattle.isdb_mmt.specs.declared.decoder.refusal.Refusal.{Refusal}
use Rattle.std.specs.Prelude.{Result, Ok, Err, ⊤}

pub media_room : (p : List ℕ) (r : Bool) → r ≡ every (at_most roomy_count) (counts_from 9 stats_place p) → r ≡ stats_at_most roomy_count (media_place_of p)
unfolding stats_at_most media_place_of stats_of counts_from
media_room p r e = e

pub counters_room : (most : ℕ) (s : List ℕ)
    → every (at_most most) (counts_from 12 counters_place s) ≡ every (at_most most) (packet_counts (counters_of s) ++ table_counts (counters_of s))
unfolding counts_from counters_of
counters_room most s = refl

-- ---- whether question 5 need be asked once only

module _ (s : Session) (n : ℕ) where
  pub once_long : most_input < n → false ≡ asked_once s n
  unfolding asked_once
  once_long h = rw (lt-leb n most_input h)

  module _ (h : n ≤ most_input) (r : Result ⊤ Refusal) (er : r ≡ session_asked s) where
    pub once_unsound : (f : Refusal) → r ≡ Err f → false ≡ asked_once s n
    unfolding asked_once
    once_unsound f e = rw (le-leb n most_input h, (no_session s r er f e).0)

    pub once_room : (u : ⊤) → r ≡ Ok u → (b : Bool) → b ≡ counts_at_most roomy_count s.state s.others → b ≡ asked_once s n
    unfolding asked_once
    once_room u e b eb = rw (le-leb n most_input h, was_sound s r er u e) eb

-- ---- and back

all_at_most : (n : ℕ) (xs : List ℕ) → every (at_most n) xs ≡ true → AllAtMost n xs
unfolding every
all_at_most n [] e = tt
all_at_most n (x ∷ xs) e = let h = was_both (at_most n x) _ e in (leb-true x n h.0, all_at_most n xs h.1)

media_at_most : (n : ℕ) (ms : List Media) → every (stats_at_most n) ms ≡ true → MediaWithin n ms
unfolding every stats_at_most
media_at_most n [] e = tt
media_at_most n (m ∷ ms) e =
    let h = was_both (every (at_most n) (stats_counts m.stats)) _ e in
    (all_at_most n (stats_counts m.stats) h.0, media_at_most n ms h.1)

pub counts_were : (n : ℕ) (s : Session) → counts_at_most n s.state s.others ≡ true → CountsWithin n s
unfolding counts_at_most
counts_were n s e =
    let c = counters_of s.state in
    let h1 = was_guarded (every (at_most n) (packet_counts c ++ table_counts c)) _ e in
    let h2 = was_guarded (every (stats_at_most n) (media_in s.state)) _ h1.1 in
    let h3 = was_both (every (at_most n) (packet_counts c)) _ (sym (every_both (at_most n) (packet_counts c) (table_counts c)) ∙ h1.0) in
    record {
      packets = all_at_most n (packet_counts c) h3.0;
      tables = all_at_most n (table_counts c) h3.1;
      media = media_at_most n (media_in s.state) h2.0;
      others = all_at_most n s.others h2.1;
    }

-- a session that was asked once: it passes question 5, and its counts have room
pub were_asked : (s : Session) (n : ℕ) → Lent s → asked_once s n ≡ true → (n ≤ most_input) × SoundWithin roomy_count s
unfolding asked_once
were_asked s n h e =
    let q = was_guarded (n ≤? most_input) _ e in
    let r = was_guarded (sound s) _ q.1 in
    (leb-true n most_input q.0, record { lent = h; session = r.0; counts = counts_were roomy_count s r.1 })
