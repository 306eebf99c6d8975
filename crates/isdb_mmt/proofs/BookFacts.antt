-- Facts of one id's book, by induction on its reception log from any book: the balance, the bound on the held object, and the stretches
-- of the log that the delivered objects are; and with the run, what holds of an id. Assumes nothing.
use Rattle.std.specs.Prelude.{Option, None, Some}
use Rattle.std.proofs.Common.{◌≡◌, ℕ, ◌+◌, ◌≤◌, Bool, true, false, cond, eqb, leb, List, [], ◌∷◌, ◌++◌, length, sym, refl, ap, ◌∙◌, append_assoc, append-nil, arith, eqb→eq, leb→le, length-append}
use Rattle.isdb_mmt.proofs.Run.{at, run_written}
use Rattle.isdb_mmt.specs.Decoder.Packet.{Bytes, PayloadUnit, Packet, ip_error, ntp, non_mmtp_of, media, message, control, other, readable}
use Rattle.isdb_mmt.specs.Decoder.Maps.{find, or_else}
use Rattle.isdb_mmt.specs.Decoder.Objects.{fresh}
use Rattle.isdb_mmt.specs.Decoder.Model.{opened, asset_of}
use Rattle.isdb_mmt.specs.Books.Book.{LogEntry, packet_number, unit_received, units_received, log_entries, reception_log, Book, nothing, drop_counted, in_order_of, missing, continued_by, entered, entered_all, book, follower, limit, is_held, begins, begun_in, begun_by, begun, delivered_of, Unbroken, joined, whole, divided, MadeOf, done, skip, object}
use Rattle.isdb_mmt.specs.Books.Demand.{push_all, give_all, held_bytes, held_of, dropped_of, lost_of, AllSmall, EverySmall, Bounded, OfId}
use Rattle.isdb_mmt.specs.declared.mpu.FragmentationIndicator.TheVariants.{Complete, Head, Middle, Last}

-- ---- the balance

unfoldable begun_at : LogEntry → ℕ
begun_at (packet_number n) = 0
begun_at (unit_received n f d) = begins f

unfoldable begun_on : List LogEntry → ℕ
begun_on [] = 0
begun_on (x ∷ t) = begun_at x + begun_on t

unfoldable total : Book → ℕ
total b = length b.delivered + b.dropped + is_held b.held

total_write : (w : ℕ) (n : Option ℕ) (h : Option Bytes) (k : ℕ) (os : List Bytes) (x : LogEntry)
    → total (entered (at w n h k os) x) ≡ begun_at x + total (at w n h k os)
unfolding total entered drop_counted continued_by begun_at begins is_held
total_write w n h k os (packet_number j) = go (in_order_of n j) h
  where
    go : (b : Bool) (h : Option Bytes) → total (cond b (at (w + missing n j) (Some j) h k os) (at (w + missing n j) (Some j) None (drop_counted h k) os)) ≡ 0 + total (at w n h k os)
    go true h = omega arith
    go false None = omega arith
    go false (Some h) = omega arith
total_write w n None k os (unit_received j Complete d) = simp length-append (omega arith)
total_write w n (Some h) k os (unit_received j Complete d) = simp length-append (omega arith)
total_write w n None k os (unit_received j Head d) = omega arith
total_write w n (Some h) k os (unit_received j Head d) = omega arith
total_write w n None k os (unit_received j Middle d) = omega arith
total_write w n (Some h) k os (unit_received j Middle d) = go (leb (length h + length d) limit)
  where
    go : (b : Bool) → total (cond b (at w n (Some (h ++ d)) k os) (at w n None (k + 1) os)) ≡ 0 + total (at w n (Some h) k os)
    go true = omega arith
    go false = omega arith
total_write w n None k os (unit_received j Last d) = omega arith
total_write w n (Some h) k os (unit_received j Last d) = go (leb (length h + length d) limit)
  where
    go : (b : Bool) → total (cond b (at w n None k (os ++ ((h ++ d) ∷ []))) (at w n None (k + 1) os)) ≡ 0 + total (at w n (Some h) k os)
    go true = simp length-append (omega arith)
    go false = omega arith

balance : (t : List LogEntry) (b : Book) → begun_on t + total b ≡ total (entered_all b t)
unfolding begun_on entered_all
balance [] b = omega arith
balance (x ∷ t) b = omega (arith, balance t (entered b x), total_write b.lost b.number b.held b.dropped b.delivered x)

begun_on_append : (s t : List LogEntry) → begun_on (s ++ t) ≡ begun_on s + begun_on t
unfolding begun_on
begun_on_append [] t = omega arith
begun_on_append (x ∷ s) t = omega (arith, begun_on_append s t)

begun_gots : (n : ℕ) (us : List PayloadUnit) → begun_on (units_received n us) ≡ begun_in us
unfolding begun_on units_received begun_in begun_at
begun_gots n [] = refl
begun_gots n (u ∷ us) = omega (arith, begun_gots n us)

begun_entries : (i : ℕ) (p : Packet) → begun_on (log_entries i p) ≡ begun_by i p
unfolding log_entries begun_by begun_on begun_at
begun_entries i ip_error = refl
begun_entries i (ntp x) = refl
begun_entries i non_mmtp_of = refl
begun_entries i (media m) = go (eqb i m.id)
  where
    go : (b : Bool) → begun_on (cond b (packet_number m.number ∷ units_received m.number (readable m)) []) ≡ cond b (begun_in (readable m)) 0
    go true = omega (arith, begun_gots m.number (readable m))
    go false = refl
begun_entries i (message c) = refl
begun_entries i (control bs) = refl
begun_entries i other = refl

begun_log : (i : ℕ) (ps : List Packet) → begun_on (reception_log i ps) ≡ begun i ps
unfolding reception_log begun begun_on
begun_log i [] = refl
begun_log i (p ∷ ps) = begun_on_append (log_entries i p) (reception_log i ps) ∙ rw (begun_entries, begun_log i ps)

-- ---- the bound

-- no unit's data is above the bound: a unit is a part of a packet
abbrev SmallOn : List LogEntry → Type 0
SmallOn [] = Unit {0}
SmallOn (packet_number n ∷ t) = SmallOn t
SmallOn (unit_received n f d ∷ t) = (length d ≤ limit) × SmallOn t

bound : (t : List LogEntry) (w : ℕ) (n : Option ℕ) (h : Option Bytes) (k : ℕ) (os : List Bytes) → SmallOn t → Bounded h → Bounded (entered_all (at w n h k os) t).held
unfolding entered_all entered continued_by
bound [] w n h k os q f = f
bound (packet_number j ∷ t) w n h k os q f = go (in_order_of n j) (bound t (w + missing n j) (Some j) h k os q f) (bound t (w + missing n j) (Some j) None (drop_counted h k) os q tt)
  where
    go : (b : Bool) → Bounded (entered_all (at (w + missing n j) (Some j) h k os) t).held → Bounded (entered_all (at (w + missing n j) (Some j) None (drop_counted h k) os) t).held
        → Bounded (entered_all (cond b (at (w + missing n j) (Some j) h k os) (at (w + missing n j) (Some j) None (drop_counted h k) os)) t).held
    go true x y = x
    go false x y = y
bound (unit_received j Complete d ∷ t) w n h k os q f = bound t w n None (drop_counted h k) (os ++ (d ∷ [])) q.1 tt
bound (unit_received j Head d ∷ t) w n h k os q f = bound t w n (Some d) (drop_counted h k) os q.1 q.0
bound (unit_received j Middle d ∷ t) w n None k os q f = bound t w n None k os q.1 tt
bound (unit_received j Middle d ∷ t) w n (Some h) k os q f =
    go (leb (length h + length d) limit) refl (bound t w n (Some (h ++ d)) k os q.1) (bound t w n None (k + 1) os q.1 tt)
  where
    go : (b : Bool) → leb (length h + length d) limit ≡ b
        → (Bounded (Some (h ++ d)) → Bounded (entered_all (at w n (Some (h ++ d)) k os) t).held) → Bounded (entered_all (at w n None (k + 1) os) t).held
        → Bounded (entered_all (cond b (at w n (Some (h ++ d)) k os) (at w n None (k + 1) os)) t).held
    go true e x y = x (simp length-append (leb→le (length h + length d) limit (rw e tt)))
    go false e x y = y
bound (unit_received j Last d ∷ t) w n None k os q f = bound t w n None k os q.1 tt
bound (unit_received j Last d ∷ t) w n (Some h) k os q f =
    go (leb (length h + length d) limit) (bound t w n None k (os ++ ((h ++ d) ∷ [])) q.1 tt) (bound t w n None (k + 1) os q.1 tt)
  where
    go : (b : Bool) → Bounded (entered_all (at w n None k (os ++ ((h ++ d) ∷ []))) t).held → Bounded (entered_all (at w n None (k + 1) os) t).held
        → Bounded (entered_all (cond b (at w n None k (os ++ ((h ++ d) ∷ []))) (at w n None (k + 1) os)) t).held
    go true x y = x
    go false x y = y

held_bounded : (b : Book) (t : List LogEntry) → SmallOn t → Bounded b.held → Bounded (entered_all b t).held
held_bounded b t q f = bound t b.lost b.number b.held b.dropped b.delivered q f

-- ---- what the delivered objects are made of

-- the same from a book that holds h at number n: the first object delivered may be h, gone on with up to its Last
data CutFrom : Option ℕ → Option Bytes → List LogEntry → List Bytes → Type 0 where
  plain : {n : Option ℕ} {h : Option Bytes} {t : List LogEntry} {os : List Bytes} → MadeOf t os → CutFrom n h t os
  opens : {n : ℕ} {h : Bytes} (mid : List LogEntry) (m : ℕ) (e : Bytes) {t : List LogEntry} {os : List Bytes} → Unbroken n mid m → MadeOf t os
      → CutFrom (Some n) (Some h) (mid ++ (unit_received m Last e ∷ []) ++ t) ((h ++ joined (mid ++ (unit_received m Last e ∷ []))) ∷ os)

-- each unit stands under its packet's number
abbrev Numbered : Option ℕ → List LogEntry → Type 0
Numbered n [] = Unit {0}
Numbered n (packet_number k ∷ t) = Numbered (Some k) t
Numbered None (unit_received k f d ∷ t) = ⊥
Numbered (Some n) (unit_received k f d ∷ t) = (n ≡ k) × Numbered (Some n) t

-- an object is held only once a number is known
abbrev Sane : Option ℕ → Option Bytes → Type 0
Sane None None = Unit {0}
Sane None (Some h) = ⊥
Sane (Some n) h = Unit {0}

-- the list ds of objects delivered is os and then new ones, which are stretches of the log
record Made (ds : List Bytes) (n : Option ℕ) (h : Option Bytes) (os : List Bytes) (t : List LogEntry) : Type 0 where
  new : List Bytes
  grown : ds ≡ os ++ new
  cut : CutFrom n h t new

closed : {n : Option ℕ} {t : List LogEntry} {os : List Bytes} → CutFrom n None t os → MadeOf t os
closed (plain c) = c

on_seen : {l j : ℕ} {h : Option Bytes} {t : List LogEntry} {os : List Bytes} → j ≡ follower l → CutFrom (Some j) h t os → CutFrom (Some l) h (packet_number j ∷ t) os
unfolding joined
on_seen {j} e (plain c) = plain (skip (packet_number j) c)
on_seen {j} e (opens mid m x u c) = opens (packet_number j ∷ mid) m x (e, u) c

on_head : {n k : ℕ} {d : Bytes} {h : Option Bytes} {t : List LogEntry} {os : List Bytes} → n ≡ k → CutFrom (Some n) (Some d) t os
    → CutFrom (Some n) h (unit_received k Head d ∷ t) os
unfolding joined
on_head {k} {d} q (plain c) = plain (skip (unit_received k Head d) c)
on_head {k} {d} q (opens mid m x u c) = plain (object (divided k d mid m x (rw q at u)) c)

on_middle : {n k : ℕ} {d h : Bytes} {t : List LogEntry} {os : List Bytes} → CutFrom (Some n) (Some (h ++ d)) t os → CutFrom (Some n) (Some h) (unit_received k Middle d ∷ t) os
unfolding joined
on_middle {k} {d} (plain c) = plain (skip (unit_received k Middle d) c)
on_middle {k} {d} {h} (opens mid m x u c) = rw (append_assoc h d (joined (mid ++ (unit_received m Last x ∷ [])))) (opens (unit_received k Middle d ∷ mid) m x u c)

on_last : {n k : ℕ} {d h : Bytes} {t : List LogEntry} {os : List Bytes} → n ≡ k → CutFrom (Some n) None t os
    → CutFrom (Some n) (Some h) (unit_received k Last d ∷ t) ((h ++ d) ∷ os)
unfolding joined
on_last {k} {d} {h} q c = rw append-nil at (opens {h = h} [] k d q (closed c))

-- what was delivered in the step goes in front of what the rest delivers
in_front : {ds : List Bytes} (os : List Bytes) (o : Bytes) (new : List Bytes) → ds ≡ os ++ (o ∷ []) ++ new → ds ≡ os ++ o ∷ new
in_front os o new e = e ∙ append_assoc os (o ∷ []) new

made : (t : List LogEntry) (w : ℕ) (n : Option ℕ) (h : Option Bytes) (k : ℕ) (os : List Bytes) → Numbered n t → Sane n h
    → Made (entered_all (at w n h k os) t).delivered n h os t
unfolding entered_all entered continued_by in_order_of joined
made [] w n h k os q s = record { new = []; grown = sym (append-nil os); cut = plain done }
made (packet_number j ∷ t) w None None k os q s =
    let r = made t (w + missing None j) (Some j) None k os q tt in record { new = r.new; grown = r.grown; cut = plain (skip (packet_number j) (closed r.cut)) }
made (packet_number j ∷ t) w None (Some h) k os q s = absurd s
made (packet_number j ∷ t) w (Some l) h k os q s = go (eqb j (follower l)) refl (made t (w + missing (Some l) j) (Some j) h k os q tt) (made t (w + missing (Some l) j) (Some j) None (drop_counted h k) os q tt)
  where
    go : (b : Bool) → eqb j (follower l) ≡ b
        → Made (entered_all (at (w + missing (Some l) j) (Some j) h k os) t).delivered (Some j) h os t → Made (entered_all (at (w + missing (Some l) j) (Some j) None (drop_counted h k) os) t).delivered (Some j) None os t
        → Made (entered_all (cond b (at (w + missing (Some l) j) (Some j) h k os) (at (w + missing (Some l) j) (Some j) None (drop_counted h k) os)) t).delivered (Some l) h os (packet_number j ∷ t)
    go true e x y = record { new = x.new; grown = x.grown; cut = on_seen (eqb→eq j (follower l) (rw e tt)) x.cut }
    go false e x y = record { new = y.new; grown = y.grown; cut = plain (skip (packet_number j) (closed y.cut)) }
made (unit_received j f d ∷ t) w None h k os q s = absurd q
made (unit_received j Complete d ∷ t) w (Some n) h k os q s =
    let r = made t w (Some n) None (drop_counted h k) (os ++ (d ∷ [])) q.1 tt in
    record { new = d ∷ r.new; grown = in_front os d r.new r.grown; cut = plain (rw append-nil at (object (whole j d) (closed r.cut))) }
made (unit_received j Head d ∷ t) w (Some n) h k os q s =
    let r = made t w (Some n) (Some d) (drop_counted h k) os q.1 tt in
    record { new = r.new; grown = r.grown; cut = on_head q.0 r.cut }
made (unit_received j Middle d ∷ t) w (Some n) None k os q s =
    let r = made t w (Some n) None k os q.1 tt in
    record { new = r.new; grown = r.grown; cut = plain (skip (unit_received j Middle d) (closed r.cut)) }
made (unit_received j Middle d ∷ t) w (Some n) (Some h) k os q s =
    go (leb (length h + length d) limit) (made t w (Some n) (Some (h ++ d)) k os q.1 tt) (made t w (Some n) None (k + 1) os q.1 tt)
  where
    go : (b : Bool) → Made (entered_all (at w (Some n) (Some (h ++ d)) k os) t).delivered (Some n) (Some (h ++ d)) os t
        → Made (entered_all (at w (Some n) None (k + 1) os) t).delivered (Some n) None os t
        → Made (entered_all (cond b (at w (Some n) (Some (h ++ d)) k os) (at w (Some n) None (k + 1) os)) t).delivered (Some n) (Some h) os (unit_received j Middle d ∷ t)
    go true x y = record { new = x.new; grown = x.grown; cut = on_middle x.cut }
    go false x y = record { new = y.new; grown = y.grown; cut = plain (skip (unit_received j Middle d) (closed y.cut)) }
made (unit_received j Last d ∷ t) w (Some n) None k os q s =
    let r = made t w (Some n) None k os q.1 tt in
    record { new = r.new; grown = r.grown; cut = plain (skip (unit_received j Last d) (closed r.cut)) }
made (unit_received j Last d ∷ t) w (Some n) (Some h) k os q s =
    go (leb (length h + length d) limit) (made t w (Some n) None k (os ++ ((h ++ d) ∷ [])) q.1 tt) (made t w (Some n) None (k + 1) os q.1 tt)
  where
    go : (b : Bool) → Made (entered_all (at w (Some n) None k (os ++ ((h ++ d) ∷ []))) t).delivered (Some n) None (os ++ ((h ++ d) ∷ [])) t
        → Made (entered_all (at w (Some n) None (k + 1) os) t).delivered (Some n) None os t
        → Made (entered_all (cond b (at w (Some n) None k (os ++ ((h ++ d) ∷ []))) (at w (Some n) None (k + 1) os)) t).delivered (Some n) (Some h) os (unit_received j Last d ∷ t)
    go true x y = record { new = (h ++ d) ∷ x.new; grown = in_front os (h ++ d) x.new x.grown; cut = on_last q.0 x.cut }
    go false x y = record { new = y.new; grown = y.grown; cut = plain (skip (unit_received j Last d) (closed y.cut)) }

cut_book : (t : List LogEntry) → Numbered None t → MadeOf t (entered_all nothing t).delivered
unfolding nothing
cut_book t q = let r = made t 0 None None 0 [] q tt in rw r.grown (closed r.cut)

numbered_gots : (n : ℕ) (us : List PayloadUnit) (t : List LogEntry) → Numbered (Some n) t → Numbered (Some n) (units_received n us ++ t)
unfolding units_received
numbered_gots n [] t q = q
numbered_gots n (u ∷ us) t q = (refl, numbered_gots n us t q)

numbered_log : (i : ℕ) (ps : List Packet) (n : Option ℕ) → Numbered n (reception_log i ps)
unfolding reception_log log_entries
numbered_log i [] n = tt
numbered_log i (ip_error ∷ ps) n = numbered_log i ps n
numbered_log i (ntp x ∷ ps) n = numbered_log i ps n
numbered_log i (non_mmtp_of ∷ ps) n = numbered_log i ps n
numbered_log i (media m ∷ ps) n = go (eqb i m.id) (numbered_log i ps)
  where
    go : (b : Bool) → ((n : Option ℕ) → Numbered n (reception_log i ps)) → Numbered n (cond b (packet_number m.number ∷ units_received m.number (readable m)) [] ++ reception_log i ps)
    go true h = numbered_gots m.number (readable m) (reception_log i ps) (h (Some m.number))
    go false h = h n
numbered_log i (message c ∷ ps) n = numbered_log i ps n
numbered_log i (control bs ∷ ps) n = numbered_log i ps n
numbered_log i (other ∷ ps) n = numbered_log i ps n

-- ---- small packets

small_gots : (n : ℕ) (us : List PayloadUnit) (t : List LogEntry) → AllSmall us → SmallOn t → SmallOn (units_received n us ++ t)
unfolding units_received
small_gots n [] t h q = q
small_gots n (u ∷ us) t h q = (omega arith, small_gots n us t h.1 q)

small_log : (i : ℕ) (ps : List Packet) → EverySmall ps → SmallOn (reception_log i ps)
unfolding reception_log log_entries
small_log i [] h = tt
small_log i (ip_error ∷ ps) h = small_log i ps h.1
small_log i (ntp x ∷ ps) h = small_log i ps h.1
small_log i (non_mmtp_of ∷ ps) h = small_log i ps h.1
small_log i (media m ∷ ps) h = go (eqb i m.id) (small_log i ps h.1)
  where
    go : (b : Bool) → SmallOn (reception_log i ps) → SmallOn (cond b (packet_number m.number ∷ units_received m.number (readable m)) [] ++ reception_log i ps)
    go true q = small_gots m.number (readable m) (reception_log i ps) h.0 q
    go false q = q
small_log i (message c ∷ ps) h = small_log i ps h.1
small_log i (control bs ∷ ps) h = small_log i ps h.1
small_log i (other ∷ ps) h = small_log i ps h.1

-- ---- of an id

pub ids : (pass : Bool) (ps : List Packet) → EverySmall ps → (i : ℕ)
    → OfId (dropped_of i (push_all (opened pass) ps)) (lost_of i (push_all (opened pass) ps)) (held_of i (push_all (opened pass) ps)) (delivered_of i (give_all (opened pass) ps)) ps i
unfolding book nothing opened asset_of find or_else fresh total is_held held_bytes
ids pass ps small i =
    let e : book i ps ≡ at (lost_of i (push_all (opened pass) ps)) (asset_of i (push_all (opened pass) ps)).number (held_of i (push_all (opened pass) ps)) (dropped_of i (push_all (opened pass) ps))
    (delivered_of i (give_all (opened pass) ps))
    = run_written i (opened pass) [] ps in
    record {
      balanced = omega (arith, balance (reception_log i ps) nothing, begun_log i ps, ap total e);
      delivered = sym (ap (λ (b : Book). b.delivered) e);
      dropped = sym (ap (λ (b : Book). b.dropped) e);
      lost = sym (ap (λ (b : Book). b.lost) e);
      held = sym (ap (λ (b : Book). b.held) e);
      made = rw (ap (λ (b : Book). b.delivered) e) at (cut_book (reception_log i ps) (numbered_log i ps None));
      bounded = rw (ap (λ (b : Book). b.held) e) at (held_bounded nothing (reception_log i ps) (small_log i ps small) tt);
    }
