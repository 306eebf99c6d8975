-- The run and an id's book: what a run leaves of an id, and what it gives out for it, is what the book of the id's packets says.
-- Assumes nothing.
use Rattle.std.specs.Prelude.{Option, None, Some, is_some}
use Rattle.std.proofs.Common.{◌≡◌, ℕ, ◌+◌, Bool, true, false, cond, not, ◌&&◌, eqb, leb, List, [], ◌∷◌, ◌++◌, length, refl, ap, ◌∙◌, append_assoc, append-nil, add-zero}
use Rattle.isdb_tlv.proofs.Guards.{cond_elim}
use Rattle.isdb_mmt.proofs.Maps.{eqb-true, find_put, find_put_other}
use Rattle.isdb_mmt.specs.Formats.Mpu.{follows, lost_from}
use Rattle.isdb_mmt.specs.Decoder.Packet.{Bytes, PayloadUnit, MpuPacket, Packet, ip_error, ntp, non_mmtp_of, media, message, control, other, readable}
use Rattle.isdb_mmt.specs.Decoder.Maps.{one, find, put, or_else}
use Rattle.isdb_mmt.specs.Decoder.Objects.{Mfu, Rec, Asset, most_object, grown, fresh, gap, lost_by, continued, effect_of, after_unit, unit_effect, object_of, after_units, delivered_by, after_headers, asset_after, tagged, passes, media_gives}
use Rattle.isdb_mmt.specs.Decoder.Model.{State, asset_of, pushed, gives}
use Rattle.isdb_mmt.specs.Books.Book.{LogEntry, packet_number, unit_received, units_received, log_entries, reception_log, Book, drop_counted, in_order_of, missing, follower, continued_by, entered, entered_all, delivered_of}
use Rattle.isdb_mmt.specs.Books.Demand.{push_all, give_all, held_bytes}
use Rattle.isdb_mmt.specs.declared.mpu.FragmentationIndicator.{FragmentationIndicator}
use Rattle.isdb_mmt.specs.declared.mpu.FragmentationIndicator.TheVariants.{Complete, Head, Middle, Last}

-- ---- an id's state as a book

abbrev data_of : List Mfu → List Bytes
data_of [] = []
data_of (h ∷ hs) = h.bytes ∷ data_of hs

data_append : (xs ys : List Mfu) → data_of (xs ++ ys) ≡ data_of xs ++ data_of ys
data_append [] ys = refl
data_append (x ∷ xs) ys = rw (data_append xs ys)

abbrev book_of : Asset → List Bytes → Book
book_of a os = record { number = a.number; held = held_bytes a.held; dropped = a.stats.mfus_dropped; lost = a.stats.packets_lost; delivered = os }

-- a book by its parts
abbrev pub at : ℕ → Option ℕ → Option Bytes → ℕ → List Bytes → Book
at w n h k os = record { number = n; held = h; dropped = k; lost = w; delivered = os }

-- one unit
unit_parts : (w : ℕ) (c : Option ℕ) (h : Option Mfu) (k : ℕ) (os : List Bytes) (n : ℕ) (f : FragmentationIndicator) (u : Mfu)
    → entered (at w c (held_bytes h) k os) (unit_received n f u.bytes)
    ≡ at w c (held_bytes (effect_of f h u).held) (k + (effect_of f h u).drops) (os ++ data_of (effect_of f h u).outs)
unfolding entered drop_counted continued_by effect_of continued held_bytes grown
unit_parts w c None k os n Complete u = rw add-zero
unit_parts w c (Some h) k os n Complete u = refl
unit_parts w c None k os n Head u = rw (add-zero, append-nil)
unit_parts w c (Some h) k os n Head u = rw append-nil
unit_parts w c None k os n Middle u = rw (add-zero, append-nil)
unit_parts w c (Some h) k os n Middle u = go (leb (length h.bytes + length u.bytes) most_object)
  where
    go : (b : Bool)
        → cond b (at w c (Some (h.bytes ++ u.bytes)) k os) (at w c None (k + 1) os)
        ≡ at w c (held_bytes (continued b false (grown h u.bytes)).held) (k + (continued b false (grown h u.bytes)).drops)
        (os ++ data_of (continued b false (grown h u.bytes)).outs)
    go true = rw (add-zero, append-nil)
    go false = rw append-nil
unit_parts w c None k os n Last u = rw (add-zero, append-nil)
unit_parts w c (Some h) k os n Last u = go (leb (length h.bytes + length u.bytes) most_object)
  where
    go : (b : Bool)
        → cond b (at w c None k (os ++ ((h.bytes ++ u.bytes) ∷ []))) (at w c None (k + 1) os)
        ≡ at w c (held_bytes (continued b true (grown h u.bytes)).held) (k + (continued b true (grown h u.bytes)).drops)
        (os ++ data_of (continued b true (grown h u.bytes)).outs)
    go true = rw add-zero
    go false = rw append-nil

units_written : (m : MpuPacket) (a : Asset) (os : List Bytes) (n : ℕ) (us : List PayloadUnit)
    → entered_all (book_of a os) (units_received n us) ≡ book_of (after_units m a us) (os ++ data_of (delivered_by m a us))
unfolding entered_all units_received after_units delivered_by after_unit unit_effect object_of
units_written m a os n [] = rw append-nil
units_written m a os n (u ∷ us) =
    ap (λ (b : Book). entered_all b (units_received n us)) (unit_parts a.stats.packets_lost a.number a.held a.stats.mfus_dropped os n u.fragment (object_of m u))
    ∙ units_written m (after_unit a (unit_effect m a u)) (os ++ data_of (unit_effect m a u).outs) n us
    ∙ rw (data_append, append_assoc)

-- a packet's number
seen_parts : (w : ℕ) (c : Option ℕ) (h : Option Mfu) (k : ℕ) (os : List Bytes) (n : ℕ)
    → entered (at w c (held_bytes h) k os) (packet_number n) ≡ at (w + lost_by c n) (Some n) (held_bytes (cond (gap c n) None h)) (k + one (gap c n && is_some h)) os
unfolding entered drop_counted in_order_of follower missing lost_by lost_from gap follows held_bytes
seen_parts w None h k os n = simp add-zero
seen_parts w (Some l) h k os n = go (eqb n (follower l)) (lost_from l n) h
  where
    go : (b : Bool) (z : ℕ) (h : Option Mfu)
        → cond b (at (w + cond b 0 z) (Some n) (held_bytes h) k os) (at (w + cond b 0 z) (Some n) None (drop_counted (held_bytes h) k) os)
        ≡ at (w + cond b 0 z) (Some n) (held_bytes (cond (not b) None h)) (k + one (not b && is_some h)) os
    go true z h = simp add-zero
    go false z None = simp add-zero
    go false z (Some h) = refl

write_all_append : (b : Book) (xs ys : List LogEntry) → entered_all b (xs ++ ys) ≡ entered_all (entered_all b xs) ys
unfolding entered_all
write_all_append b [] ys = refl
write_all_append b (x ∷ xs) ys = write_all_append (entered b x) xs ys

media_written : (a : Asset) (os : List Bytes) (m : MpuPacket)
    → entered_all (book_of a os) (packet_number m.number ∷ units_received m.number (readable m))
    ≡ book_of (asset_after a m) (os ++ data_of (delivered_by m (after_headers a m) (readable m)))
unfolding entered_all asset_after after_headers
media_written a os m =
    ap (λ (b : Book). entered_all b (units_received m.number (readable m))) (seen_parts a.stats.packets_lost a.number a.held a.stats.mfus_dropped os m.number)
    ∙ units_written m (after_headers a m) os m.number (readable m)

-- ---- what a push hands out for an id

pub delivered_of_append : (i : ℕ) (xs ys : List Rec) → delivered_of i (xs ++ ys) ≡ delivered_of i xs ++ delivered_of i ys
unfolding delivered_of
delivered_of_append i [] ys = refl
delivered_of_append i (r ∷ rs) ys = go (eqb i r.id && not r.scrambled) (delivered_of_append i rs ys)
  where
    go : (b : Bool) → delivered_of i (rs ++ ys) ≡ delivered_of i rs ++ delivered_of i ys
        → cond b (r.mfu.bytes ∷ delivered_of i (rs ++ ys)) (delivered_of i (rs ++ ys))
        ≡ cond b (r.mfu.bytes ∷ delivered_of i rs) (delivered_of i rs) ++ delivered_of i ys
    go true h = rw h
    go false h = h

delivered_tagged : (i j : ℕ) (ds : List Mfu) → delivered_of i (tagged j ds) ≡ cond (eqb i j) (data_of ds) []
unfolding delivered_of tagged
delivered_tagged i j ds = go (eqb i j) refl ds
  where
    go : (b : Bool) → eqb i j ≡ b → (ds : List Mfu) → delivered_of i (tagged j ds) ≡ cond b (data_of ds) []
    go true e [] = refl
    go true e (d ∷ ds) = rw (e, go true e ds)
    go false e [] = refl
    go false e (d ∷ ds) = rw (e, go false e ds)

no_object_lem : (b : Bool) (d : Bytes) → cond (b && false) (d ∷ []) [] ≡ []
no_object_lem true d = refl
no_object_lem false d = refl

delivered_passes : (i : ℕ) (pass : Bool) (m : MpuPacket) → delivered_of i (passes pass m) ≡ []
unfolding delivered_of passes
delivered_passes i pass m =
    cond_elim (λ (rs : List Rec). delivered_of i rs ≡ []) (pass && (m.scrambled && is_some m.header)) (λ e. no_object_lem (eqb i m.id) m.raw) (λ e. refl)

-- ---- a push, for one id

mfus_given : (pass : Bool) (i : ℕ) (a : Asset) (m : MpuPacket)
    → delivered_of i (media_gives pass a m) ≡ cond (eqb i m.id) (data_of (delivered_by m (after_headers a m) (readable m))) []
unfolding media_gives
mfus_given pass i a m =
    delivered_of_append i (passes pass m) (tagged m.id (delivered_by m (after_headers a m) (readable m)))
    ∙ rw (delivered_passes, delivered_tagged)

put_written : (i j : ℕ) (s : State) (os : List Bytes) (m : MpuPacket) (b : Bool) → eqb i j ≡ b
    → entered_all (book_of (asset_of i s) os) (cond b (packet_number m.number ∷ units_received m.number (readable m)) [])
    ≡ book_of (or_else fresh (find i (put j (asset_after (asset_of j s) m) s.assets)))
    (os ++ cond b (data_of (delivered_by m (after_headers (asset_of j s) m) (readable m))) [])
unfolding entered_all asset_of or_else
put_written i j s os m true e = rw (← (eqb-true i j e), find_put) (media_written (asset_of i s) os m)
put_written i j s os m false e = rw (find_put_other i j _ _ e, append-nil)

push_written : (i : ℕ) (s : State) (os : List Bytes) (p : Packet)
    → entered_all (book_of (asset_of i s) os) (log_entries i p) ≡ book_of (asset_of i (pushed s p)) (os ++ delivered_of i (gives s p))
unfolding log_entries pushed gives delivered_of entered_all asset_of
push_written i s os ip_error = rw append-nil
push_written i s os (ntp t) = rw append-nil
push_written i s os non_mmtp_of = rw append-nil
push_written i s os (media m) =
    rw (mfus_given s.passing i (asset_of m.id s) m) (put_written i m.id s os m (eqb i m.id) refl)
push_written i s os (message c) = rw append-nil
push_written i s os (control bs) = rw append-nil
push_written i s os other = rw append-nil

-- ---- a run

pub run_written : (i : ℕ) (s : State) (os : List Bytes) (ps : List Packet)
    → entered_all (book_of (asset_of i s) os) (reception_log i ps) ≡ book_of (asset_of i (push_all s ps)) (os ++ delivered_of i (give_all s ps))
unfolding reception_log push_all give_all delivered_of entered_all
run_written i s os [] = rw append-nil
run_written i s os (p ∷ ps) =
    write_all_append (book_of (asset_of i s) os) (log_entries i p) (reception_log i ps)
    ∙ ap (λ (b : Book). entered_all b (reception_log i ps)) (push_written i s os p)
    ∙ run_written i (pushed s p) (os ++ delivered_of i (gives s p)) ps
    ∙ rw (delivered_of_append, append_assoc)
