-- Pushes: the question that a packet fails, and what an accepted one hands out and leaves.
use Rattle.std.specs.Prelude.{ℕ, ◌≡◌, refl, [], ◌∷◌, ◌++◌, replicate}
use Rattle.isdb_mmt.specs.declared.decoder.many.Halt.TheVariants.{End, Full, Refused}
use Rattle.isdb_mmt.specs.Decoder.Packet.{Bytes}
use Rattle.isdb_mmt.specs.Memory.Layout.{section_places, section_size}
use Rattle.isdb_mmt.specs.Examples.Cases.{complete_of, head_of, last_of, ab, cd}
use Rattle.isdb_mmt.specs.Examples.ControlCases.{fragment, table_message, nit1, nit_next}
use Rattle.isdb_mmt.specs.Examples.PushCases.{told, all_of, halted, place, two, line1, rows_of, pushed_to, behind, state_at, objects_by, bytes, number, blank, input, only, whole, long_head, null, bare, low4, long_mpt}
use Rattle.isdb_mmt.specs.declared.decoder.refusal.Refusal.TheVariants.{OutputTooSmall}
use Rattle.isdb_mmt.specs.Memory.Refusals.{refusal_of}

-- SessionMut::push: memory of zeros is no session
-- wrong: number 5 => number 0 (taken for one)
-- wrong: number 5 => number 7 (taken for one without packets left)
pub push_no_session : told (pushed_to (blank 2) (only (null 0))) ≡ number 5
unfolding told
push_no_session = refl

-- SessionMut::push: 65,536 bytes are one too many
-- wrong: number 6 => number 0 (taken)
-- wrong: number 6 => number 10 (no room for them)
pub push_too_long : told (behind 9 [] (only (null 65536))) ≡ number 6
unfolding told
push_too_long = refl

-- SessionMut::push: fewer packets are taken than the limit
-- wrong: number 7 => number 0 (one packet more)
-- wrong: number 7 => number 5 (the session is no longer one)
pub push_limit : told (behind 1 (only (null 0) ∷ []) (only (null 0))) ≡ number 7
unfolding told
push_limit = refl

-- SessionMut::push: 7 is not said early
-- wrong: number 0 => number 7 (one packet early)
-- wrong: number 0 => number 8 (turned away)
pub push_below_limit : told (behind 2 (only (null 0) ∷ []) (only (null 0))) ≡ number 0
unfolding told
push_below_limit = refl

-- SessionMut::push: a place for the id is asked for before an area for its object
-- wrong: number 8 => number 9 (8 and 9 exchanged)
-- wrong: number 8 => number 0 (the place of the other id taken)
pub push_places_first : told (behind 9 (whole ∷ []) (only (long_head 0xF101))) ≡ number 8
unfolding told
push_places_first = refl

-- SessionMut::push: two new keys in one packet want two places
-- wrong: number 8 => number 0 (both in the one that is free)
-- wrong: number 8 => number 9 (no area for the second)
pub push_two_keys : told (behind 9 [] (only (0xFE, nit1 ++ nit_next))) ≡ number 8
unfolding told
push_two_keys = refl

-- SessionMut::push: a table longer than its area
-- wrong: number 9 => number 0 (kept)
-- wrong: number 9 => number 10 (no room for it)
pub push_long_table : told (behind 9 [] (only (fragment 0x00 (table_message 17 long_mpt)))) ≡ number 9
unfolding told
push_long_table = refl

-- SessionMut::push: what a Last joins wants an area, before outputs are asked for
-- wrong: number 9 => number 10 (the outputs first)
-- wrong: number 9 => number 0 (the last unit needs none)
pub push_joined : told (behind 9 (only (head_of 5 ab) ∷ []) (only (last_of 6 cd))) ≡ number 9
unfolding told
push_joined = refl

-- SessionMut::push: a row has 36 bytes
-- wrong: number 10 => number 0 (35 are enough)
-- wrong: number 10 => number 9 (an output taken for an area)
pub push_short_row : told (behind 9 [] (input 35 2 (complete_of 5 ab))) ≡ number 10
unfolding told
push_short_row = refl

-- SessionMut::push: a whole unit needs no area, one row and room for its data
-- wrong: number 0 => number 9 (its bytes held)
-- wrong: number 0 => number 10 (one byte more wanted)
pub push_taken : told (behind 9 [] (input 36 2 (complete_of 5 ab))) ≡ number 0
unfolding told
push_taken = refl

-- a row of `bare`, whose data start at `at`
abbrev bare_at : ℕ → Bytes
bare_at at = 0xF1 ∷ 0x01 ∷ 0x00 ∷ 0x00 ∷ low4 8 ++ (replicate 20 0x00 ++ (low4 at ++ low4 3))

-- SessionMut::push: data lie one behind the other
-- wrong: bare_at 3 => bare_at 0 (the start not advanced)
-- wrong: bare_at 3 => bare_at 36 (by the rows)
pub push_rows : told (rows_of (bare ∷ bare ∷ [])) ≡ bytes (bare_at 0 ++ bare_at 3)
unfolding told
push_rows = refl

-- SessionMut::push: a section's place has its key, version and length
-- wrong: 0x01 ∷ low4 16 => 0x00 ∷ low4 16 (no version)
-- wrong: low4 16 => low4 13 (the length as its field says)
pub push_section : told (state_at section_places section_size (0xFE, nit1)) ≡ bytes (0x40 ∷ 0x00 ∷ 0x04 ∷ 0x00 ∷ 0x01 ∷ low4 16)
unfolding told
push_section = refl

-- SessionMut::push: a head's bytes lie in the area of its id
-- wrong: bytes ab => bytes (replicate 2 0x00) (not held)
-- wrong: bytes ab => bytes (0xBB ∷ 0xAA ∷ []) (out of order)
pub push_held : told (objects_by (head_of 5 ab)) ≡ bytes ab
unfolding told
push_held = refl

-- SessionMut::push_all: the data of a packet lie behind those of the packets before it
-- wrong: (ab ++ cd) => (cd ++ ab) (in front of them)
-- wrong: End => Full (a list of lines that is just full is too short)
pub push_all_two : told (all_of 9 2 2 two) ≡ halted End (place 86 2 2 4) (ab ++ cd) (line1 ++ line1)
unfolding told
push_all_two = refl

-- SessionMut::push_all: a packet that has no room for its line is not taken
-- wrong: (place 43 1 1 2) => (place 86 2 2 4) (taken without a line)
-- wrong: Full => Refused OutputTooSmall (as if its records had no room)
pub push_all_full : told (all_of 9 2 1 two) ≡ halted Full (place 43 1 1 2) (ab ++ (0x00 ∷ 0x00 ∷ [])) line1
unfolding told
push_all_full = refl

-- SessionMut::push_all: one that is turned down has its number, and the place is in front of it
-- wrong: (place 43 1 1 2) => (place 86 1 1 2) (passed over)
-- wrong: Refused OutputTooSmall => Refused PacketsUsedUp (as if no packet were left)
pub push_all_refused : told (all_of 9 1 2 two) ≡ halted (Refused OutputTooSmall) (place 43 1 1 2) ab (line1 ++ replicate 16 0x00)
unfolding told refusal_of
push_all_refused = refl
