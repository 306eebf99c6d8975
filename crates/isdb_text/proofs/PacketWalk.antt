-- The walk over the packets of a call: where it leads in the input. Assumes nothing.
use Rattle.std.proofs.Common.{◌≡◌, ℕ, zero, suc, ◌+◌, ◌-◌, ◌*◌, ◌<◌, ◌≤◌, List, [], ◌∷◌, length, take, drop, sym, refl, ap, ◌∙◌, add-one, arith, length-drop, length-take-le, ne_eqb}
use Rattle.isdb_tlv.specs.Guards.{◌<?◌, ◌=?◌}
use Rattle.isdb_tlv.specs.Walk.{turn}
use Rattle.isdb_tlv.specs.Cut.{TlvPacket, Recording, item, cut_at, recording_from, recording_of}
use Rattle.isdb_tlv.specs.declared.cut.Cut.{Cut}
use Rattle.isdb_tlv.specs.declared.cut.Cut.TheVariants.{Packet, End as end_here, Short as short_here, Bad as bad_here}
use Rattle.isdb_tlv.proofs.Guards.{either}
use Rattle.isdb_tlv.proofs.Cutting.{differ, recording_at, packet_lies, cut_drop, end_behind}
use Rattle.isdb_mmt.specs.Decoder.Packet.{Bytes}
use Rattle.isdb_mmt.specs.Memory.Session.{Session}
use Rattle.isdb_mmt.specs.Pushes.Push.{asks, reply_of}
use Rattle.isdb_mmt.specs.Pushes.PushAll.{line_size, nothing_taken, Run, run_of, input_at, after_packet, Ran, ran, pushed_each, AllPushed}
use Rattle.isdb_mmt.specs.declared.decoder.many.Progress.{Progress}
use Rattle.isdb_mmt.specs.declared.decoder.many.Pushes.{Pushes}
use Rattle.isdb_text.specs.DumpPackets.{told_of, next_place, behind_of, progress_at}

-- ---- one step

module _ (input : List ℕ) (most at : ℕ) where
  -- ahead, and not out of the input
  next_ahead : (k : Cut) → cut_at input most at ≡ k → at ≤ next_place at k
  next_ahead (Packet kind start n next) e =
      let l = packet_lies input most at e in
      omega (arith, l.behind_header, l.behind_bytes)
  next_ahead end_here e = omega arith
  next_ahead short_here e = omega arith
  next_ahead bad_here e = omega arith

  next_inside : (k : Cut) → cut_at input most at ≡ k → at ≤ length input → next_place at k ≤ length input
  next_inside (Packet kind start n next) e h = (packet_lies input most at e).inside
  next_inside end_here e h = h
  next_inside short_here e h = h
  next_inside bad_here e h = h

-- where reading the whole stops is not changed
next_end : (w : List ℕ) (base most at : ℕ) (k : Cut) → cut_at (drop base w) most at ≡ k
    → (recording_from w most (base + at)).end ≡ (recording_from w most (base + next_place at k)).end
next_end w base most at (Packet kind start n next) e =
    end_behind w most (base + at) _ refl kind (base + start) n (base + next) (cut_drop w base most at ∙ rw e refl)
next_end w base most at end_here e = refl
next_end w base most at short_here e = refl
next_end w base most at bad_here e = refl

-- ---- all steps

module _ (input : List ℕ) (most : ℕ) (lines : List ℕ) (a : Pushes) where
  abbrev place : ℕ → ℕ
  place k = (progress_at input most lines a k).at

  pub step_at_lem : (k : ℕ) → progress_at input most lines a (k + 1) ≡ behind_of input most lines a (progress_at input most lines a k)
  unfolding progress_at
  step_at_lem k = rw add-one

  place_next_lem : (k : ℕ) → place (suc k) ≡ next_place (place k) (cut_at input most (place k))
  unfolding progress_at behind_of
  place_next_lem k = refl

  pub walk_inside : (k : ℕ) → place k ≤ length input
  unfolding progress_at
  walk_inside zero = omega arith
  walk_inside (suc k) = rw (place_next_lem k) (next_inside input most (place k) (cut_at input most (place k)) refl (walk_inside k))

  -- from the second packet on
  pub walk_ahead : (k : ℕ) → place 1 ≤ place (suc k)
  walk_ahead zero = omega arith
  walk_ahead (suc k) = omega (arith, walk_ahead k, place_next_lem (suc k), next_ahead input most (place (suc k)) _ refl)

  pub walk_first : (kind start n next : ℕ) → cut_at input most 0 ≡ Packet kind start n next → 0 < place 1
  unfolding progress_at
  walk_first kind start n next e =
      let l = packet_lies input most 0 e in
      let p : place 1 ≡ next = place_next_lem 0 ∙ ap (next_place 0) e in
      omega (arith, l.behind_header, l.behind_bytes, p)

pub walk_end : (w : List ℕ) (base most : ℕ) (lines : List ℕ) (a : Pushes) (k : ℕ)
    → (recording_from w most base).end ≡ (recording_from w most (base + (progress_at (drop base w) most lines a k).at)).end
unfolding progress_at
walk_end w base most lines a zero = let z : base + 0 ≡ base = omega arith in rw z
walk_end w base most lines a (suc k) =
    let at = (progress_at (drop base w) most lines a k).at in
    walk_end w base most lines a k
    ∙ next_end w base most at (cut_at (drop base w) most at) refl
    ∙ ap (λ (x : ℕ). (recording_from w most (base + x)).end) (sym (place_next_lem (drop base w) most lines a k))

-- ---- the packets of the input

abbrev pub empty_not : List TlvPacket → ℕ
empty_not [] = 0
empty_not (p ∷ ps) = 1

abbrev pub tail_of : List TlvPacket → List TlvPacket
tail_of [] = []
tail_of (p ∷ ps) = ps

abbrev pub head_length_lem : List TlvPacket → ℕ
head_length_lem [] = 0
head_length_lem (p ∷ ps) = length p.bytes

-- a packet stands where the recording from there on has one
pub record Stands (input : List ℕ) (most at : ℕ) (p : TlvPacket) (ps : List TlvPacket) : Type 0 where
  pub place : next_place at (cut_at input most at) ≡ at + 4 + length p.bytes
  pub behind : (recording_from input most (at + 4 + length p.bytes)).packets ≡ ps

module _ (input : List ℕ) (most at : ℕ) where
  packets_at : (k : Cut) → cut_at input most at ≡ k
      → (recording_from input most at).packets ≡ (turn (recording_from input most) (item input at k)).packets
  packets_at k e =
      let r : recording_from input most at ≡ turn (recording_from input most) (item input at k) = rw (← e) (recording_at input most at) in
      ap (λ (x : Recording). x.packets) r

  stands_at : (p : TlvPacket) (ps : List TlvPacket) → (recording_from input most at).packets ≡ p ∷ ps → (k : Cut) → cut_at input most at ≡ k
      → Stands input most at p ps
  stands_at p ps e end_here ek = differ (ap empty_not (sym (packets_at end_here ek) ∙ e))
  stands_at p ps e short_here ek = differ (ap empty_not (sym (packets_at short_here ek) ∙ e))
  stands_at p ps e bad_here ek = differ (ap empty_not (sym (packets_at bad_here ek) ∙ e))
  stands_at p ps e (Packet kind start n next) ek =
      let q : TlvPacket = record { kind = kind; bytes = take n (drop start input) } in
      let f : q ∷ (recording_from input most next).packets ≡ p ∷ ps = sym (packets_at (Packet kind start n next) ek) ∙ e in
      let l = packet_lies input most at ek in
      let m : length q.bytes ≡ n = length-take-le n (drop start input) (omega (arith, length-drop start input, l.behind_bytes, l.inside)) in
      let j : length q.bytes ≡ length p.bytes = ap head_length_lem f in
      let here : next ≡ at + 4 + length p.bytes = omega (arith, m, j, l.behind_header, l.behind_bytes) in
      record { place = ap (next_place at) ek ∙ here; behind = rw (← here) (ap tail_of f) }

  pub stands : (p : TlvPacket) (ps : List TlvPacket) → (recording_from input most at).packets ≡ p ∷ ps → Stands input most at p ps
  stands p ps e = stands_at p ps e (cut_at input most at) refl

-- a call's count of packets goes ahead
pub taken_ahead : (input : List ℕ) (most : ℕ) (ps : List TlvPacket) (c : Run)
    → c.progress.packets ≤ (pushed_each input most c ps).run.progress.packets
unfolding pushed_each
taken_ahead input most [] c = omega arith
taken_ahead input most (p ∷ ps) c =
    either (length c.lines <? line_size * c.progress.packets + line_size)
    (λ t. rw t (omega arith))
    (λ t. either (asks c.session (input_at c p) =? 0)
    (λ z. rw (t, z) (omega (arith, taken_ahead input most ps (after_packet c p (reply_of c.session (input_at c p))))))
    (λ z. rw (t, z) (omega arith)))

-- ---- a call that begins with a packet

module _ (input : List ℕ) (most : ℕ) (kind start n next : ℕ) (e : cut_at input most 0 ≡ Packet kind start n next) (s : Session) (rows out lines : Bytes) (a : Pushes)
    (s' : Session) (rows' out' lines' : Bytes) (q : AllPushed s input most rows out lines a s' rows' out' lines') where
  first_packet : (recording_of input most).packets ≡ record { kind = kind; bytes = take n (drop start input) } ∷ (recording_from input most next).packets
  unfolding recording_of
  first_packet = packets_at input most 0 (Packet kind start n next) e

  -- it is written, taken or not
  some_told : 0 < told_of a
  unfolding pushed_each told_of
  some_told =
      let c = run_of s rows out lines nothing_taken in
      let p : TlvPacket = record { kind = kind; bytes = take n (drop start input) } in
      let ps = (recording_from input most next).packets in
      let g : ran (run_of s' rows' out' lines' a.progress) a.halt ≡ pushed_each input most c (p ∷ ps) = rw first_packet at q.one_by_one in
      either (length lines <? line_size * 0 + line_size)
      (λ t. let r = rw t at g in rw (ap (λ (z : Ran). z.run.progress.packets) r, ap (λ (z : Ran). z.halt) r) (omega arith))
      (λ t. either (asks s (input_at c p) =? 0)
      (λ z.
      let r = rw (t, z) at g in
      let m : 0 < a.progress.packets =
      omega (arith, taken_ahead input most ps (after_packet c p (reply_of s (input_at c p))), ap (λ (z : Ran). z.run.progress.packets) r) in
      rw (ne_eqb a.progress.packets 0 (λ w. absurd (omega (arith, w)))) m)
      (λ z. let r = rw (t, z) at g in rw (ap (λ (z : Ran). z.run.progress.packets) r, ap (λ (z : Ran). z.halt) r) (omega arith)))

  -- and so the walk goes ahead
  pub told_ahead : 0 < (progress_at input most lines' a (told_of a)).at
  told_ahead =
      let m : told_of a ≡ suc (told_of a - 1) = omega (arith, some_told) in
      rw m (omega (arith, walk_first input most lines' a kind start n next e, walk_ahead input most lines' a (told_of a - 1)))

-- ---- the walk as a loop

module _ (input : List ℕ) (most : ℕ) (lines : List ℕ) (a : Pushes) (x : Progress) where
  pub walk_begins : x ≡ nothing_taken → x ≡ progress_at input most lines a 0
  unfolding progress_at
  walk_begins e = e

  module _ (k : ℕ) (e : x ≡ progress_at input most lines a k) where
    pub walk_on : (y : Progress) → y ≡ behind_of input most lines a x → y ≡ progress_at input most lines a (k + 1)
    walk_on y d = rw (step_at_lem input most lines a k, ← e) d

    pub walk_done : (n : ℕ) → n ≡ told_of a → k ≤ n → n ≤ k → x ≡ progress_at input most lines a (told_of a)
    walk_done n d h l = let j : told_of a ≡ k = omega arith in rw j e
