-- What holds after every list of accepted packets from an opened state, of every media id and every key, as one claim.
use Rattle.std.specs.Prelude.{◌≡◌, ℕ, ◌+◌, ◌<◌, ◌≤◌, Bool, List, [], ◌∷◌, ◌++◌, map, length, Option, None, Some}
use Rattle.isdb_mmt.specs.Decoder.Packet.{Bytes, PayloadUnit, Packet, classify, ip_error, ntp, non_mmtp_of, media, message, control, other, readable}
use Rattle.isdb_mmt.specs.Decoder.Maps.{find}
use Rattle.isdb_mmt.specs.Decoder.Objects.{Mfu, Rec}
use Rattle.isdb_mmt.specs.Decoder.Kept.{Kept, Section}
use Rattle.isdb_mmt.specs.Decoder.Model.{State, opened, asset_of, pushed, gives}
use Rattle.isdb_mmt.specs.Books.Book.{reception_log, book, is_held, begun, delivered_of, MadeOf, well_formed, FirstOfLastRun}

-- the packets one after the other, and all that they give out
unfoldable pub push_all : State → List Packet → State
push_all s [] = s
push_all s (p ∷ ps) = push_all (pushed s p) ps

unfoldable pub give_all : State → List Packet → List Rec
give_all s [] = []
give_all s (p ∷ ps) = gives s p ++ give_all (pushed s p) ps

unfoldable pub held_bytes : Option Mfu → Option Bytes
held_bytes None = None
held_bytes (Some h) = Some h.bytes

abbrev pub held_of : ℕ → State → Option Bytes
held_of i s = held_bytes (asset_of i s).held

abbrev pub dropped_of : ℕ → State → ℕ
dropped_of i s = (asset_of i s).stats.mfus_dropped

abbrev pub lost_of : ℕ → State → ℕ
lost_of i s = (asset_of i s).stats.packets_lost

-- a unit is a part of its packet, which has at most 65,535 bytes
abbrev pub AllSmall : List PayloadUnit → Type 0
AllSmall [] = Unit {0}
AllSmall (u ∷ us) = (length u.bytes < 65536) × AllSmall us

abbrev pub Small : Packet → Type 0
Small ip_error = Unit {0}
Small (ntp t) = Unit {0}
Small non_mmtp_of = Unit {0}
Small (media m) = AllSmall (readable m)
Small (message c) = Unit {0}
Small (control bs) = Unit {0}
Small other = Unit {0}

abbrev pub EverySmall : List Packet → Type 0
EverySmall [] = Unit {0}
EverySmall (p ∷ ps) = Small p × EverySmall ps

-- a feed: the kind and the data of each packet; every packet has at most 65,535 bytes
abbrev pub Feed : Type 0
Feed = List (ℕ × Bytes)

abbrev pub packets_of : Feed → List Packet
packets_of f = map (λ p. classify p.0 p.1) f

abbrev pub AllFit : Feed → Type 0
AllFit [] = Unit {0}
AllFit (p ∷ f) = (length p.1 < 65536) × AllFit f

-- a held object has at most 16,777,216 bytes
abbrev pub Bounded : Option Bytes → Type 0
Bounded None = Unit {0}
Bounded (Some h) = length h ≤ 16777216

-- of a media id, between what a session says of it (drops `k`, losses `w`, the held object `h`), the objects given out and the
-- packets accepted
pub record OfId (k w : ℕ) (h : Option Bytes) (os : List Bytes) (ps : List Packet) (i : ℕ) : Type 0 where
  pub balanced : begun i ps ≡ length os + k + is_held h
  pub delivered : os ≡ (book i ps).delivered
  pub dropped : k ≡ (book i ps).dropped
  pub lost : w ≡ (book i ps).lost
  pub held : h ≡ (book i ps).held
  pub made : MadeOf (reception_log i ps) os
  pub bounded : Bounded h

-- of a key: what is kept is the first of the last run of equal version among its well-formed sections, and nothing is kept
-- exactly where there are none
pub data Keeps : Option Kept → List Section → Type 0 where
  never : Keeps None []
  keeps : {xs : List Section} (x : Section) → FirstOfLastRun x xs → Keeps (Some (record { version = x.version; bytes = x.bytes })) xs

-- of all ids and keys: what a session says of each, the records given out and the packets accepted
pub record Holds (k w : ℕ → ℕ) (h : ℕ → Option Bytes) (kept : ℕ → Option Kept) (rs : List Rec) (ps : List Packet) : Type 0 where
  pub ids : (i : ℕ) → OfId (k i) (w i) (h i) (delivered_of i rs) ps i
  pub keys : (k : ℕ) → Keeps (kept k) (well_formed k ps)

-- of a state
abbrev pub HoldsOf : State → List Rec → List Packet → Type 0
HoldsOf s rs ps = Holds (λ i. dropped_of i s) (λ i. lost_of i s) (λ i. held_of i s) (λ k. find k s.store.kept) rs ps

-- proved in proofs/Demand.antt: of packets as they are read, and of a feed's bytes
abbrev pub Theorem : Type 0
Theorem = (pass : Bool) (ps : List Packet) → EverySmall ps → HoldsOf (push_all (opened pass) ps) (give_all (opened pass) ps) ps

abbrev pub OfBytes : Type 0
OfBytes = (pass : Bool) (f : Feed) → AllFit f
    → HoldsOf (push_all (opened pass) (packets_of f)) (give_all (opened pass) (packets_of f)) (packets_of f)
