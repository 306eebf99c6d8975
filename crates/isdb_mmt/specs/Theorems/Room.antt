-- Room for packets: from a session that passes question 5 and whose counts are far enough from 2^53, pushes leave sessions that pass it
-- too. So question 5 asked once answers it for as many pushes as there is room for, whatever the session came from.
use Rattle.std.specs.Prelude.{◌≡◌, ℕ, ◌+◌, ◌*◌, ◌≤◌, true, false, List, [], ◌∷◌, length}
use Rattle.isdb_mmt.specs.Decoder.Packet.{ip_error}
use Rattle.isdb_mmt.specs.Memory.Layout.{most_count}
use Rattle.isdb_mmt.specs.Memory.Session.{Session, counters_of}
use Rattle.isdb_mmt.specs.Memory.Check.{stats_counts, packet_counts, table_counts, media_in, sound}
use Rattle.isdb_mmt.specs.Memory.Octets.{Octets, Lent}
use Rattle.isdb_mmt.specs.Pushes.Leaves.{packet_leaves}
use Rattle.isdb_mmt.specs.Pushes.Push.{Input, packet_of, asks_later, asks, leaves_of, leaves_all, AllTaken, AllBytes}
use Rattle.isdb_mmt.specs.declared.decoder.media.Media.{Media}

-- what one packet adds to a count at most: 2^21
abbrev pub most_added : ℕ
most_added = 2097152

-- ---- the counts of a session: those of question 5

abbrev pub AllAtMost : ℕ → List ℕ → Type 0
AllAtMost n [] = Unit {0}
AllAtMost n (x ∷ xs) = (x ≤ n) × AllAtMost n xs

abbrev pub MediaWithin : ℕ → List Media → Type 0
MediaWithin n [] = Unit {0}
MediaWithin n (m ∷ ms) = AllAtMost n (stats_counts m.stats) × MediaWithin n ms

-- none is above `n`: of the twelve counters, of the nine of each media place in use, of those of table ids
pub record CountsWithin (n : ℕ) (s : Session) : Type 0 where
  pub packets : AllAtMost n (packet_counts (counters_of s.state))
  pub tables : AllAtMost n (table_counts (counters_of s.state))
  pub media : MediaWithin n (media_in s.state)
  pub others : AllAtMost n s.others

-- a session that passes question 5, with its memory and a bound of its counts
pub record SoundWithin (n : ℕ) (s : Session) : Type 0 where
  pub lent : Lent s
  pub session : sound s ≡ true
  pub counts : CountsWithin n s

-- ---- one push

-- with room for one packet, a push that is accepted leaves a session that passes question 5
abbrev pub SoundStays : Type 0
SoundStays = (s : Session) (x : Input) → Lent s → Octets x.bytes → (n : ℕ) → CountsWithin n s → n + most_added ≤ most_count → asks s x ≡ 0
    → SoundWithin (n + most_added) (packet_leaves s (packet_of x))

-- without room it need not: from a session that counts 2^53 IP errors, an accepted packet with one more leaves none that passes it
abbrev pub RoomNeeded : Type 0
RoomNeeded = (s : Session) (x : Input) → Lent s → Octets x.bytes → (counters_of s.state).ip_errors ≡ most_count → packet_of x ≡ ip_error
    → asks s x ≡ 0 → sound (packet_leaves s (packet_of x)) ≡ false

-- ---- lists of pushes

-- with room for each, pushes that are all accepted do
abbrev pub AllStaySound : Type 0
AllStaySound = (s : Session) (n : ℕ) → SoundWithin n s → (xs : List Input) → AllBytes xs → n + length xs * most_added ≤ most_count
    → AllTaken s xs → SoundWithin (n + length xs * most_added) (leaves_all s xs)

-- pushes, some of them turned down: what they leave, and that each gets the number that questions 6 to 10 give it
unfoldable pub leaves_over : Session → List Input → Session
leaves_over s [] = s
leaves_over s (x ∷ xs) = leaves_over (leaves_of s x) xs

abbrev pub SameNumbers : Session → List Input → Type 0
SameNumbers s [] = Unit {0}
SameNumbers s (x ∷ xs) = (asks s x ≡ asks_later s x) × SameNumbers (leaves_of s x) xs

pub record AskedBefore (n : ℕ) (s : Session) (xs : List Input) : Type 0 where
  pub numbers : SameNumbers s xs
  pub after : SoundWithin (n + length xs * most_added) (leaves_over s xs)

-- question 5 asked once before them, and room for each: it need not be asked again
abbrev pub AskedOnce : Type 0
AskedOnce = (s : Session) (n : ℕ) → SoundWithin n s → (xs : List Input) → AllBytes xs → n + length xs * most_added ≤ most_count
    → AskedBefore n s xs
