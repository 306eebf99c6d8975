-- Feeds: what pushing them leaves and gives, by the model.
use Rattle.std.specs.Prelude.{ℕ, ◌≡◌, refl, false, List, [], ◌∷◌, ◌++◌, map, length, None, Some}
use Rattle.isdb_tlv.specs.Fields.{bytes_of}
use Rattle.isdb_mmt.specs.Decoder.Objects.{Mfu, continued, grown, effect_of}
use Rattle.isdb_mmt.specs.Decoder.Model.{opened}
use Rattle.isdb_mmt.specs.Books.Demand.{packets_of, push_all}
use Rattle.isdb_mmt.specs.Examples.Cases.{told, left, passed, sections, needed, given, tables, asks, clearly, head_of, last_of, unreadable, scrambled_of, payload, media_needs, ab, cd}
use Rattle.isdb_mmt.specs.Examples.ControlCases.{fragment, mpt_message, message_needs, nit1, nit2}
use Rattle.isdb_mmt.specs.declared.mpu.FragmentationIndicator.TheVariants.{Middle, Last}

-- behind 4,294,967,295 comes 0: a head there and its last at 0 are one object
-- wrong: clearly 2 0 0 ((ab ++ cd) ∷ []) 0 None => clearly 2 1048576 0 [] 1 None (no wrap)
-- wrong: ((ab ++ cd) ∷ []) => (cd ∷ []) (the last unit alone)
pub wrap : told (left (head_of 4294967295 ab ∷ last_of 0 cd ∷ [])) ≡ clearly 2 0 0 ((ab ++ cd) ∷ []) 0 None
unfolding told
wrap = refl

-- the same number again is a gap
-- wrong: clearly 2 1048576 0 [] 1 None => clearly 2 0 0 ((ab ++ cd) ∷ []) 0 None (no gap)
-- wrong: 1 None => 0 (Some ab) (what is held stays)
pub repeated : told (left (head_of 5 ab ∷ last_of 5 cd ∷ [])) ≡ clearly 2 1048576 0 [] 1 None
unfolding told
repeated = refl

-- a head drops a held object, and the drop is counted
-- wrong: 1 (Some cd) => 0 (Some cd) (not counted)
-- wrong: (Some cd) => (Some (ab ++ cd)) (the second taken for more of the first)
pub head_drops : told (left (head_of 5 ab ∷ head_of 6 cd ∷ [])) ≡ clearly 2 0 0 [] 1 (Some cd)
unfolding told
head_drops = refl

-- an unreadable payload leaves what is held
-- wrong: ((ab ++ cd) ∷ []) 0 None => [] 1 None (dropped)
-- wrong: clearly 3 0 1 => clearly 3 0 0 (not counted)
pub unreadable_passes : told (left (head_of 5 ab ∷ unreadable 6 ∷ last_of 7 cd ∷ [])) ≡ clearly 3 0 1 ((ab ++ cd) ∷ []) 0 None
unfolding told
unreadable_passes = refl

-- a scrambled payload is passed on from byte 8 to its end
-- wrong: (ab ∷ []) => ([] ∷ []) (cut at the declared length)
-- wrong: (ab ∷ []) => [] (not passed)
pub scrambled_passed : told (passed (scrambled_of 5 (payload 6 0x28 ab) ∷ [])) ≡ given (ab ∷ [])
unfolding told
scrambled_passed = refl

-- an object of 16,777,216 bytes is held
-- wrong: .drops ≡ 0 => .drops ≡ 1 (one byte fewer)
pub object_most : (h u : Mfu) → length h.bytes ≡ 16777210 → length u.bytes ≡ 6 → (effect_of Middle (Some h) u).drops ≡ 0
unfolding effect_of continued grown
object_most h u p q = rw (p, q) refl

-- an object of 16,777,217 bytes is dropped
-- wrong: .drops ≡ 1 => .drops ≡ 0 (one byte more)
pub object_above : (h u : Mfu) → length h.bytes ≡ 16777210 → length u.bytes ≡ 7 → (effect_of Last (Some h) u).drops ≡ 1
unfolding effect_of continued grown
object_above h u p q = rw (p, q) refl

-- a section whose body fails is not kept, and its version change is counted
-- wrong: (1 ∷ []) => (2 ∷ []) (kept)
-- wrong: tables 1 1 => tables 0 1 (not counted)
pub bad_body : told (sections ((0xFE, nit1) ∷ (0xFE, nit2) ∷ [])) ≡ tables 1 1 (1 ∷ [])
unfolding told
bad_body = refl

-- a NIT of version 1 with an empty network name
abbrev nit1other : List ℕ
nit1other = bytes_of 18 0x40B00F0004C30000F0024000F0005E731561

-- a section of the kept version is passed over
-- wrong: (nit1 ∷ []) => (nit1other ∷ []) (kept in its place)
-- wrong: (nit1 ∷ []) => (nit1 ∷ nit1other ∷ []) (kept beside it)
pub same_version : map (λ e. e.1.bytes) (push_all (opened false) (packets_of ((0xFE, nit1) ∷ (0xFE, nit1other) ∷ []))).store.kept ≡ (nit1 ∷ [])
unfolding told
same_version = refl

-- a last needs room for what it joins, a whole unit for none
-- wrong: media_needs 0 4 1 4 => media_needs 0 2 1 4 (its own bytes)
-- wrong: media_needs 0 4 1 4 => media_needs 1 4 1 4 (a place for an id that has one)
pub needs_last : told (needed (head_of 5 ab ∷ []) (last_of 6 cd)) ≡ asks (media_needs 0 4 1 4)
unfolding told
needs_last = refl

-- a kept table needs room for its declared bytes, not for those behind them
-- wrong: message_needs 1 0 9 => message_needs 1 0 11 (to the message's end)
-- wrong: message_needs 1 0 9 => message_needs 1 16 9 (an undivided message joined)
pub needs_table : told (needed [] (fragment 0x00 mpt_message)) ≡ asks (message_needs 1 0 9)
unfolding told
needs_table = refl
