-- The limits of a session, and opening one.
use Rattle.std.specs.Prelude.{ℕ, ◌≡◌, refl, false, List, Ok, Err}
use Rattle.isdb_mmt.specs.Memory.Limits.{in_range, places_in_range, areas_in_range, packets_in_range, lengths_for, long_enough, needed_of, asked}
use Rattle.isdb_mmt.specs.declared.decoder.limits.Limits.{Limits}
use Rattle.isdb_mmt.specs.declared.decoder.limits.Lengths.{Lengths}
use Rattle.isdb_mmt.specs.declared.decoder.refusal.Refusal.TheVariants.{PlacesOutOfRange}

-- media ids, control ids, sections, the three areas, packets
abbrev limits : ℕ → ℕ → ℕ → ℕ → ℕ → ℕ → ℕ → Limits
limits m c s o g t p =
    record { media_ids = m; control_ids = c; sections = s; mfu_area = o; message_area = g; table_area = t; packets = p; pass_scrambled = false }

-- the state, objects, messages, tables
abbrev lengths : ℕ → ℕ → ℕ → ℕ → Lengths
lengths n o m t = record { state = n; objects = o; messages = m; tables = t }

-- an opening that is turned down with a number, and leaves what it was lent
pub record Refused (number r : ℕ) (s s' o o' : List ℕ) : Type 0 where
  pub answer : r ≡ number
  pub state : s' ≡ s
  pub others : o' ≡ o

-- limits::needed: a table area for each section, for the MPT of each control id, for the PLT and for the TOT
-- wrong: 13144 8 15 98 => 13144 8 15 84 (none for the PLT and the TOT)
-- wrong: 13144 8 15 98 => 13144 8 15 77 (none for the MPTs)
pub needed : needed_of (limits 2 3 9 4 5 7 1) ≡ Ok (lengths 13144 8 15 98)
unfolding in_range places_in_range areas_in_range packets_in_range lengths_for needed_of
needed = refl

-- limits::needed: 64 media ids at most
-- wrong: Err PlacesOutOfRange => Ok (lengths 13144 65 1 4) (65 taken)
-- wrong: Err PlacesOutOfRange => Err AreasOutOfRange (the areas first)
pub needed_most : needed_of (limits 65 1 1 1 1 1 1) ≡ Err PlacesOutOfRange
unfolding in_range places_in_range areas_in_range packets_in_range lengths_for needed_of
needed_most = refl

-- limits::needed: a limit of 1 is in range
-- wrong: Ok (lengths 13144 1 1 4) => Err PlacesOutOfRange (2 at least)
-- wrong: 13144 1 1 4 => 13144 1 1 3 (no area for the TOT)
pub needed_least : needed_of (limits 1 1 1 1 1 1 1) ≡ Ok (lengths 13144 1 1 4)
unfolding in_range places_in_range areas_in_range packets_in_range lengths_for needed_of
needed_least = refl

-- limits::ask: question 1 comes before question 2
-- wrong: 1 => 2 (the areas first)
-- wrong: 1 => 3 (the buffers first)
pub ask_first : asked (limits 0 1 1 0 1 1 1) (lengths 0 0 0 0) ≡ 1
unfolding in_range places_in_range areas_in_range packets_in_range lengths_for long_enough asked
ask_first = refl

-- limits::ask: question 3 comes before question 4
-- wrong: 3 => 4 (the packets first)
-- wrong: 3 => 0 (a state of 13,143 bytes taken)
pub ask_third : asked (limits 1 1 1 1 1 1 0) (lengths 13143 1 1 4) ≡ 3
unfolding in_range places_in_range areas_in_range packets_in_range lengths_for long_enough asked
ask_third = refl

-- limits::ask: buffers of just the needed lengths
-- wrong: 0 => 3 (one byte more wanted)
-- wrong: 0 => 4 (4,294,967,294 packets at most)
pub ask_none : asked (limits 1 1 1 1 1 1 4294967295) (lengths 13144 1 1 4) ≡ 0
unfolding in_range places_in_range areas_in_range packets_in_range lengths_for long_enough asked
ask_none = refl
