-- A window's packets, call by call, up to where its recording stops. Assumes nothing.
use Rattle.std.proofs.Common.{◌≡◌, ℕ, zero, suc, ◌+◌, ◌-◌, ◌*◌, ◌<◌, ◌≤◌, Bool, false, T, leb, List, [], ◌∷◌, length, take, drop, sym, refl, ap, ◌∙◌, subst, arith, length-drop, length-take-le, w64, Fits, le-leb, leb-false, leb-true}
use borrow.Author.Tests.{lt-leb}
use Rattle.isdb_tlv.specs.Guards.{◌<?◌, ◌=?◌}
use Rattle.isdb_tlv.specs.Walk.{turn}
use Rattle.isdb_tlv.specs.Cut.{TlvPacket, Recording, item, cut_at, recording_from, recording_of}
use Rattle.isdb_tlv.specs.declared.cut.Cut.{Cut}
use Rattle.isdb_tlv.specs.declared.cut.Cut.TheVariants.{Packet, End as end_here, Short as short_here, Bad as bad_here}
use Rattle.isdb_tlv.proofs.Guards.{either}
use Rattle.isdb_tlv.specs.Facts.{moved}
use Rattle.isdb_text.proofs.PacketWalk.{empty_not, tail_of, head_length_lem}
use Rattle.isdb_tlv.proofs.Cutting.{differ, recording_at, packet_lies, cut_drop, end_behind, end_bad, end_short, end_clean, end_here_lem, over_end}
use Rattle.isdb_mmt.specs.Formats.Part.{count_of_usize}
use Rattle.isdb_mmt.specs.Decoder.Packet.{Bytes}
use Rattle.isdb_mmt.specs.Memory.Session.{Session}
use Rattle.isdb_mmt.specs.Pushes.Push.{asks, reply_of}
use Rattle.isdb_mmt.specs.Pushes.PushAll.{line_size, nothing_taken, Run, run_of, input_at, after_packet, Ran, ran, halt_at, pushed_each, AllPushed}
use Rattle.isdb_mmt.specs.declared.decoder.many.Pushes.{Pushes}
use Rattle.isdb_mmt.specs.declared.decoder.many.Halt.{Halt}
use Rattle.isdb_mmt.specs.declared.decoder.many.Halt.TheVariants.{End, Short, Bad as bad_halt, Full, Refused as refused_halt}
use Rattle.feedlist.specs.declared.Passed.TheVariants.{More, Bad}
use Rattle.feedlist.specs.Pass.{most_bytes, ends_reading, StopsAt}
use Rattle.isdb_mmt.specs.Memory.Refusals.{refusal_of}

goes_on : (n packets : ℕ) → ends_reading n packets ≡ false → 0 < packets
unfolding ends_reading
goes_on n zero e = absurd (subst T e tt)
goes_on n (suc packets) e = omega arith

above_none : (n : ℕ) → (n ≡ 0 → ⊥) → 0 < n
above_none zero h = absurd (h refl)
above_none (suc n) h = omega arith

-- what ends a call at a place, where it is not turned down there
abbrev HaltedBy : Halt → Cut → Type 0
HaltedBy End k = k ≡ end_here
HaltedBy Short k = k ≡ short_here
HaltedBy bad_halt k = k ≡ bad_here
HaltedBy Full k = Unit {0}
HaltedBy (refused_halt n) k = Unit {0}

-- a call on the window from `base` on: it goes ahead, stays inside, and passes whole packets alone
record Reached (w : Bytes) (base most : ℕ) (c : Run) (r : Ran) : Type 0 where
  ahead : c.progress.at ≤ r.run.progress.at
  taken : c.progress.packets < r.run.progress.packets → c.progress.at < r.run.progress.at
  inside : c.progress.at ≤ length (drop base w) → r.run.progress.at ≤ length (drop base w)
  end : (recording_from w most (base + c.progress.at)).end ≡ (recording_from w most (base + r.run.progress.at)).end
  halt : HaltedBy r.halt (cut_at (drop base w) most r.run.progress.at)

module _ (w : Bytes) (base most : ℕ) where
  abbrev input : Bytes
  input = drop base w

  packets_at : (at : ℕ) (k : Cut) → k ≡ cut_at input most at
      → (recording_from input most at).packets ≡ (turn (recording_from input most) (item input at k)).packets
  packets_at at k e =
      let r : recording_from input most at ≡ turn (recording_from input most) (item input at k) = rw e (recording_at input most at) in
      ap (λ (x : Recording). x.packets) r

  stays : (c : Run) (h : Halt) → HaltedBy h (cut_at input most c.progress.at) → Reached w base most c (ran c h)
  stays c h e = record { ahead = omega arith; taken = λ l. absurd (omega (arith, l)); inside = λ l. l; end = refl; halt = e }

  reached : (ps : List TlvPacket) (c : Run) → (recording_from input most c.progress.at).packets ≡ ps → (k : Cut) → k ≡ cut_at input most c.progress.at
      → Reached w base most c (pushed_each input most c ps)
  unfolding pushed_each
  reached [] c e end_here ek = stays c (halt_at (cut_at input most c.progress.at)) (rw (← ek) refl)
  reached [] c e short_here ek = stays c (halt_at (cut_at input most c.progress.at)) (rw (← ek) refl)
  reached [] c e bad_here ek = stays c (halt_at (cut_at input most c.progress.at)) (rw (← ek) refl)
  reached [] c e (Packet kind start n next) ek =
      differ (ap empty_not (sym e ∙ packets_at c.progress.at (Packet kind start n next) ek))
  reached (p ∷ ps) c e end_here ek = differ (ap empty_not (sym (packets_at c.progress.at end_here ek) ∙ e))
  reached (p ∷ ps) c e short_here ek = differ (ap empty_not (sym (packets_at c.progress.at short_here ek) ∙ e))
  reached (p ∷ ps) c e bad_here ek = differ (ap empty_not (sym (packets_at c.progress.at bad_here ek) ∙ e))
  reached (p ∷ ps) c e (Packet kind start n next) ek =
      let at = c.progress.at in
      let q : TlvPacket = record { kind = kind; bytes = take n (drop start input) } in
      let f : q ∷ (recording_from input most next).packets ≡ p ∷ ps = sym (packets_at at (Packet kind start n next) ek) ∙ e in
      let l = packet_lies input most at (sym ek) in
      let n' : length q.bytes ≡ n = length-take-le n (drop start input) (omega (arith, length-drop start input, l.behind_bytes, l.inside)) in
      let m : length q.bytes ≡ length p.bytes = ap head_length_lem f in
      let here : at + 4 + length p.bytes ≡ next = omega (arith, n', m, l.behind_header, l.behind_bytes) in
      let d : cut_at w most (base + at) ≡ Packet kind (base + start) n (base + next) = cut_drop w base most at ∙ rw (← ek) refl in
      let y = reply_of c.session (input_at c p) in
      either (length c.lines <? line_size * c.progress.packets + line_size)
      (λ t. rw t (stays c Full tt))
      (λ t. either (asks c.session (input_at c p) =? 0)
      (λ z.
      let go = reached ps (after_packet c p y) (rw here (ap tail_of f)) (cut_at input most (at + 4 + length p.bytes)) refl in
      rw (t, z)
      (record {
        ahead = omega (arith, go.ahead);
        taken = λ _. omega (arith, go.ahead);
        inside = λ _. go.inside (rw here l.inside);
        end = end_behind w most (base + at) _ refl kind (base + start) n (base + next) d ∙ (rw (← here) go.end);
        halt = go.halt;
      }))
      (λ z. rw (t, z) (stays c (refused_halt (refusal_of (asks c.session (input_at c p)))) tt)))

pub pass_start : (w : List ℕ) → (recording_of w most_bytes).end ≡ (recording_from w most_bytes 0).end
unfolding recording_of
pass_start w = refl

-- what is known before each call: the place is inside, and the packets in front of it are whole
pub record Passing (w : Bytes) (at : ℕ) : Type 0 where
  pub long : length w < count_of_usize
  pub inside : at ≤ length w
  pub end : (recording_of w most_bytes).end ≡ (recording_from w most_bytes at).end

pub passing_first : (w : Bytes) → length w < count_of_usize → Passing w 0
passing_first w l = record { long = l; inside = omega arith; end = pass_start w }

module _ (w : Bytes) (at : ℕ) (h : Passing w at) (b : Bytes) (eb : b ≡ drop at w) (s : Session) (rows out lines : Bytes) (a : Pushes) (s' : Session) (rows' out' lines' : Bytes)
    (q : AllPushed s b most_bytes rows out lines a s' rows' out' lines') where
  came : Reached w at most_bytes (run_of s rows out lines nothing_taken) (ran (run_of s' rows' out' lines' a.progress) a.halt)
  unfolding recording_of
  came =
      subst (Reached w at most_bytes (run_of s rows out lines nothing_taken)) (sym (rw eb at q).one_by_one)
      (reached w at most_bytes (recording_from (drop at w) most_bytes 0).packets (run_of s rows out lines nothing_taken) refl (cut_at (drop at w) most_bytes 0) refl)

  now_inside : at + a.progress.at ≤ length w
  now_inside = omega (arith, came.inside (omega arith), length-drop at w, h.inside)

  now_end : (recording_of w most_bytes).end ≡ (recording_from w most_bytes (at + a.progress.at)).end
  now_end = let z : at + 0 ≡ at = omega arith in h.end ∙ (rw z at came.end)

  pub place_fits : Fits w64 (at + a.progress.at)
  place_fits = record { fits = omega (arith, now_inside, h.long) }

  here : (k : Cut) → moved at k ≡ k → cut_at (drop at w) most_bytes a.progress.at ≡ k → cut_at w most_bytes (at + a.progress.at) ≡ k
  here k m e = cut_drop w at most_bytes a.progress.at ∙ ap (moved at) e ∙ m

  pub stops_end : a.halt ≡ End → StopsAt w (More (at + a.progress.at))
  stops_end e =
      let i = at + a.progress.at in
      let k : cut_at w most_bytes i ≡ end_here = here end_here refl (rw e at came.halt) in
      let l : length w ≤ i = end_here_lem w most_bytes i _ refl k in
      record {
        end = rw (le-leb (length w) i l) (now_end ∙ end_clean w most_bytes i l);
        going = λ b. differ (cc k);
      }

  pub stops_short : a.halt ≡ Short → StopsAt w (More (at + a.progress.at))
  stops_short e =
      let i = at + a.progress.at in
      let k : cut_at w most_bytes i ≡ short_here = here short_here refl (rw e at came.halt) in
      let l : i < length w = either (leb (length w) i) (λ t. differ (cc (k, over_end w most_bytes i (leb-true _ _ t)))) (λ f. leb-false _ _ f) in
      record {
        end = rw (lt-leb (length w) i l) (now_end ∙ end_short w most_bytes i _ refl k);
        going = λ b. differ (cc k);
      }

  pub stops_bad : a.halt ≡ bad_halt → StopsAt w (Bad (at + a.progress.at))
  stops_bad e =
      let i = at + a.progress.at in
      let k : cut_at w most_bytes i ≡ bad_here = here bad_here refl (rw e at came.halt) in
      record { end = now_end ∙ end_bad w most_bytes i _ refl k; closed = k }

  module _ (more : 0 < a.progress.packets) where
    less : length w - (at + a.progress.at) < length w - at
    less = omega (arith, came.taken more, now_inside)

    on : Passing w (at + a.progress.at)
    on = record { long = h.long; inside = now_inside; end = now_end }

  -- the outputs are full, or a packet that is turned down has others in front of it
  module _ (some : a.progress.packets ≡ 0 → ⊥) where
    pub full_less : length w - (at + a.progress.at) < length w - at
    full_less = less (above_none a.progress.packets some)

    pub full_on : Passing w (at + a.progress.at)
    full_on = on (above_none a.progress.packets some)

  module _ (n : ℕ) (r : Bool) (g : r ≡ ends_reading n a.progress.packets) (f : r ≡ false) where
    pub refused_less : length w - (at + a.progress.at) < length w - at
    refused_less = less (goes_on n a.progress.packets (sym g ∙ f))

    pub refused_on : Passing w (at + a.progress.at)
    refused_on = on (goes_on n a.progress.packets (sym g ∙ f))
