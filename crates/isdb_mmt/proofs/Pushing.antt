-- The push: its questions in order, then the packet. Assumes nothing.
use Rattle.std.proofs.Common.{◌≡◌, ℕ, ◌<◌, ◌≤◌, Bool, true, false, not, length, sym, refl, ap, ◌∙◌, subst, le-leb}
use borrow.Author.Tests.{lt-leb}
use Rattle.isdb_tlv.specs.Guards.{◌<?◌}
use Rattle.isdb_mmt.specs.Decoder.Packet.{Bytes, classify}
use Rattle.isdb_mmt.specs.Decoder.Needs.{needs}
use Rattle.isdb_mmt.specs.Memory.Layout.{table_ids}
use Rattle.isdb_mmt.specs.Memory.Session.{Session, limits_of, counters_of}
use Rattle.isdb_mmt.specs.Memory.Check.{sound}
use Rattle.isdb_mmt.specs.Memory.View.{view}
use Rattle.isdb_mmt.specs.Memory.Octets.{Octets, Lent}
use Rattle.isdb_mmt.specs.Pushes.Push.{Input, packet_of, most_bytes, asks_of, asks_later, asks, CanTakePacket, PacketPushed, Pushed}
use Rattle.isdb_mmt.proofs.Checks.{sound_session}
use Rattle.isdb_mmt.proofs.Accepted.{push_moved}
use Rattle.isdb_mmt.specs.Pushes.Answer.{answered}
use Rattle.isdb_mmt.specs.Memory.Refusals.{number_of}
use Rattle.isdb_mmt.specs.Memory.Lending.{session_asked}
use Rattle.isdb_mmt.specs.declared.decoder.records.HandedOut.{HandedOut}
use Rattle.isdb_mmt.specs.declared.decoder.refusal.Refusal.{Refusal}
use Rattle.isdb_mmt.specs.declared.decoder.refusal.Refusal.TheVariants.{PacketTooLong, PacketsUsedUp}
use Rattle.isdb_mmt.proofs.Refusals.{refusal_some}
use Rattle.isdb_mmt.proofs.ReadSteps.{was_sound, no_session}
use Rattle.std.specs.Prelude.{Result, Ok, Err, ⊤}

was_not : (b : Bool) → not b ≡ true → b ≡ false
was_not true e = sym e
was_not false e = refl

was_yes : (b : Bool) → not b ≡ false → b ≡ true
was_yes true e = refl
was_yes false e = sym e

-- ---- the questions in order

asked_five : (s : Session) (x : Input) → sound s ≡ false → asks s x ≡ 5
unfolding asks asks_later
asked_five s x e = rw e

asked_six : (s : Session) (x : Input) → sound s ≡ true → most_bytes < length x.bytes → asks s x ≡ 6
unfolding asks asks_later
asked_six s x e h = rw (e, lt-leb (length x.bytes) most_bytes h)

asked_seven : (s : Session) (x : Input) → sound s ≡ true → length x.bytes ≤ most_bytes
    → ((counters_of s.state).tlv_packets <? (limits_of s.state).packets) ≡ false → asks s x ≡ 7
unfolding asks asks_later
asked_seven s x e h k = rw (e, le-leb (length x.bytes) most_bytes h, k)

asked_on : (s : Session) (x : Input) → sound s ≡ true → length x.bytes ≤ most_bytes
    → ((counters_of s.state).tlv_packets <? (limits_of s.state).packets) ≡ true
    → asks s x ≡ asks_of s (length x.rows) (length x.out) (packet_of x)
unfolding asks asks_later
asked_on s x e h k = rw (e, le-leb (length x.bytes) most_bytes h, k)

-- not one byte changed, nothing handed out
refused : (s : Session) (x : Input) (f : Refusal) → asks s x ≡ number_of f → Pushed s x (number_of f) 0 0 s x.rows x.out
refused s x f e =
    record {
      number = sym e;
      same = λ z. refl;
      kept = λ z. (refl, refl);
      nothing = λ z. (refl, refl);
      session = λ z. absurd (refusal_some f z);
      rows_are = λ z. absurd (refusal_some f z);
      data_are = λ z. absurd (refusal_some f z);
      counts = λ z. absurd (refusal_some f z);
      state = λ z. absurd (refusal_some f z);
    }

-- question 5, by what the session answers
module _ (s : Session) (x : Input) (r : Result ⊤ Refusal) (e : r ≡ session_asked s) where
  pub push_five : (f : Refusal) → r ≡ Err f → (a : Result HandedOut Refusal) → a ≡ Err f
      → Pushed s x (answered a).number (answered a).records (answered a).bytes s x.rows x.out
  push_five f n a h =
      let o = no_session s r e f n in
      subst (λ (y : Result HandedOut Refusal). Pushed s x (answered y).number (answered y).records (answered y).bytes s x.rows x.out) (sym h)
      (refused s x f (asked_five s x o.0 ∙ ap number_of (sym o.1)))

  module _ (u : ⊤) (ok : r ≡ Ok u) where
    pub push_six : most_bytes < length x.bytes → Pushed s x 6 0 0 s x.rows x.out
    push_six n = refused s x PacketTooLong (asked_six s x (was_sound s r e u ok) n)

    module _ (short : length x.bytes ≤ most_bytes) (may : Bool) (m : may ≡ ((counters_of s.state).tlv_packets <? (limits_of s.state).packets)) where
      pub push_seven : not may ≡ true → Pushed s x 7 0 0 s x.rows x.out
      push_seven n = refused s x PacketsUsedUp (asked_seven s x (was_sound s r e u ok) short (sym m ∙ was_not may n))

module _ (s : Session) (x : Input) (ready : sound s ≡ true) (short : length x.bytes ≤ most_bytes) (may : Bool)
    (m : may ≡ ((counters_of s.state).tlv_packets <? (limits_of s.state).packets)) where
  pub push_taken : not may ≡ false → Lent s → Octets x.bytes → (r records bytes : ℕ) (s' : Session) (rows' out' : Bytes)
      → PacketPushed s x.rows x.out (classify x.kind x.bytes) r records bytes s' rows' out'
      → Pushed s x r records bytes s' rows' out'
  unfolding needs
  push_taken n o o5 r records bytes s' rows' out' h =
      let q : asks s x ≡ asks_of s (length x.rows) (length x.out) (packet_of x) = asked_on s x ready short (sym m ∙ was_yes may n) in
      record {
        number = h.number ∙ sym q;
        same = h.same;
        kept = h.kept;
        nothing = h.nothing;
        session = h.session;
        rows_are = h.rows_are;
        data_are = h.data_are;
        counts = h.counts;
        state = λ z. ap view (h.session z) ∙ push_moved s o x o5 (q ∙ sym h.number ∙ z);
      }

pub push_can : (s : Session) (b : Bytes) → sound s ≡ true → length b ≤ most_bytes → length s.others ≡ table_ids → CanTakePacket s b
push_can s b r short k = record { session = sound_session s r; others_long = k; short = short }
