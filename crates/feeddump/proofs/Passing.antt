-- A window's packets, call by call, up to where its recording stops. Assumes nothing.
use Rattle.std.proofs.Common.{◌≡◌, ℕ, ◌+◌, ◌-◌, ◌<◌, ◌≤◌, leb, length, drop, sym, refl, ap, ◌∙◌, arith, length-drop, w64, Fits, le-leb, leb-false, leb-true}
use borrow.Author.Tests.{lt-leb}
use Rattle.isdb_tlv.specs.Cut.{cut_at, recording_from, recording_of}
use Rattle.isdb_tlv.specs.declared.cut.Cut.{Cut}
use Rattle.isdb_tlv.specs.declared.cut.Cut.TheVariants.{Packet, End as end_here, Short as short_here, Bad as bad_here}
use Rattle.isdb_tlv.proofs.Guards.{either}
use Rattle.isdb_tlv.specs.Facts.{moved}
use Rattle.isdb_tlv.proofs.Cutting.{differ, cut_drop, end_bad, end_short, end_clean, end_here_lem, over_end}
use Rattle.isdb_mmt.specs.Decoder.Packet.{Bytes}
use Rattle.isdb_mmt.specs.Memory.Session.{Session}
use Rattle.isdb_mmt.specs.Formats.Part.{count_of_usize}
use Rattle.isdb_mmt.specs.Pushes.PushAll.{AllPushed}
use Rattle.isdb_mmt.specs.declared.decoder.many.Progress.{Progress}
use Rattle.isdb_mmt.specs.declared.decoder.many.Pushes.{Pushes}
use Rattle.isdb_text.specs.DumpPackets.{told_of, progress_at}
use Rattle.isdb_text.proofs.PacketWalk.{walk_inside, walk_end, told_ahead}
use Rattle.feeddump.specs.declared.Passed.{Passed}
use Rattle.feeddump.specs.Pass.{is_bad, most_bytes, StopsAt}

-- what is known before each call: the place is inside, and the packets in front of it are whole
pub record Passing (w : Bytes) (at : ℕ) : Type 0 where
  pub long : length w < count_of_usize
  pub inside : at ≤ length w
  pub end : (recording_of w most_bytes).end ≡ (recording_from w most_bytes at).end

pub passing_first : (w : Bytes) → length w < count_of_usize → Passing w 0
unfolding recording_of
passing_first w l = record { long = l; inside = omega arith; end = refl }

module _ (w : Bytes) (at : ℕ) (h : Passing w at) (k : Cut) (ek : k ≡ cut_at w most_bytes at) where
  -- a packet, and so a call on the window from there on
  module _ (kind start n next : ℕ) (d : k ≡ Packet kind start n next) (b : Bytes) (eb : b ≡ drop at w) (s : Session) (rows out lines : Bytes) (a : Pushes)
      (s' : Session) (rows' out' lines' : Bytes) (q : AllPushed s b most_bytes rows out lines a s' rows' out' lines') (x : Progress)
      (ex : x ≡ progress_at b most_bytes lines' a (told_of a)) where
    call_place : x.at ≡ (progress_at (drop at w) most_bytes lines' a (told_of a)).at
    call_place = rw (← eb) (ap (λ (z : Progress). z.at) ex)

    now_inside : at + x.at ≤ length w
    now_inside = omega (arith, call_place, walk_inside (drop at w) most_bytes lines' a (told_of a), length-drop at w, h.inside)

    here : cut_at w most_bytes (at + 0) ≡ Packet kind start n next
    here = let z : at + 0 ≡ at = omega arith in rw z (sym ek ∙ d)

    ahead : (j : Cut) → cut_at (drop at w) most_bytes 0 ≡ j → 0 < (progress_at (drop at w) most_bytes lines' a (told_of a)).at
    ahead (Packet kind' start' n' next') e = told_ahead (drop at w) most_bytes kind' start' n' next' e s rows out lines a s' rows' out' lines' (rw eb at q)
    ahead end_here e = let m = sym (cut_drop w at most_bytes 0) ∙ here in let c : moved at end_here ≡ Packet kind start n next = rw e at m in differ (cc)
    ahead short_here e = let m = sym (cut_drop w at most_bytes 0) ∙ here in let c : moved at short_here ≡ Packet kind start n next = rw e at m in differ (cc)
    ahead bad_here e = let m = sym (cut_drop w at most_bytes 0) ∙ here in let c : moved at bad_here ≡ Packet kind start n next = rw e at m in differ (cc)

    pub place_fits : Fits w64 (at + x.at)
    place_fits = record { fits = omega (arith, now_inside, h.long) }

    pub less : length w - (at + x.at) < length w - at
    less = omega (arith, now_inside, call_place, ahead (cut_at (drop at w) most_bytes 0) refl)

    pub on : Passing w (at + x.at)
    on =
        record {
          long = h.long;
          inside = now_inside;
          end = rw call_place (h.end ∙ walk_end w at most_bytes lines' a (told_of a));
        }

  -- no packet
  within : (k ≡ end_here → ⊥) → at < length w
  within m = either (leb (length w) at) (λ t. absurd (m (ek ∙ over_end w most_bytes at (leb-true _ _ t)))) (λ t. leb-false _ _ t)

  module _ (n p : ℕ) (r : Passed) (e : r ≡ record { at = at; packets = n; text = p; bad = is_bad k }) where
    stops_end : k ≡ end_here → StopsAt w r
    stops_end d =
        let l : length w ≤ at = end_here_lem w most_bytes at k ek d in
        rw e (record { end = rw (le-leb (length w) at l) (h.end ∙ end_clean w most_bytes at l); bad = rw ek refl })

    stops_short : k ≡ short_here → StopsAt w r
    stops_short d =
        let l : at < length w = within (λ z. differ (cc)) in
        rw e (record { end = rw (lt-leb (length w) at l) (h.end ∙ end_short w most_bytes at k ek d); bad = rw ek refl })

    stops_bad : k ≡ bad_here → StopsAt w r
    stops_bad d =
        let l : at < length w = within (λ z. differ (cc)) in
        rw e (record { end = rw (lt-leb (length w) at l) (h.end ∙ end_bad w most_bytes at k ek d); bad = rw ek refl })

    pub stops : ((kind start m next : ℕ) → k ≡ Packet kind start m next → ⊥) → StopsAt w r
    stops f = go k refl where
      go : (j : Cut) → k ≡ j → StopsAt w r
      go (Packet kind start m next) d = absurd (f kind start m next d)
      go end_here d = stops_end d
      go short_here d = stops_short d
      go bad_here d = stops_bad d
