-- The claim over lists of calls: refusals change nothing, what is accepted and handed out is a run of the model, the session stays one
-- that passes question 5, and what it keeps parses. Assumes nothing.
use Rattle.std.proofs.Common.{◌≡◌, ℕ, ◌+◌, Bool, true, false, cond, not, eqb, List, [], ◌∷◌, ◌++◌, length, sym, refl, ap, ◌∙◌, arith, eqb-true}
use Rattle.std.specs.Prelude.{Option as StdOption, Result, Ok, Err, None, Some, Option}
use Rattle.isdb_mmt.specs.declared.decoder.refusal.Refusal.{Refusal}
use Rattle.isdb_mmt.specs.declared.part.Part.{Part}
use borrow.Author.Tests.{eqb-false}
use Rattle.isdb_tlv.proofs.Guards.{either}
use Rattle.isdb_mmt.specs.Decoder.Packet.{Bytes, Packet}
use Rattle.isdb_mmt.specs.Decoder.Maps.{find}
use Rattle.isdb_mmt.specs.Decoder.Objects.{Rec}
use Rattle.isdb_mmt.specs.Decoder.Kept.{Kept, Section}
use Rattle.isdb_mmt.specs.Memory.Lent.{places_from}
use Rattle.isdb_mmt.specs.Decoder.Model.{opened, pushed, gives}
use Rattle.isdb_mmt.specs.Books.Book.{well_formed}
use Rattle.isdb_mmt.specs.Books.Demand.{push_all, give_all, EverySmall, Keeps, never, keeps, Holds}
use Rattle.isdb_mmt.specs.Memory.Limits.{asked}
use Rattle.isdb_mmt.specs.Memory.Layout.{most_count}
use Rattle.isdb_mmt.specs.Memory.Session.{Session, limits_of, used_of, counters_of}
use Rattle.isdb_mmt.specs.Memory.Check.{lengths_of, sound}
use Rattle.isdb_mmt.specs.Memory.View.{view}
use Rattle.isdb_mmt.specs.Memory.Opening.{opened_session}
use Rattle.isdb_mmt.specs.Memory.Octets.{Octets, Lent}
use Rattle.isdb_mmt.specs.Pushes.Records.{read_rows}
use Rattle.isdb_mmt.specs.Pushes.Leaves.{packet_leaves}
use Rattle.isdb_tlv.specs.Guards.{◌<?◌, ◌≤?◌}
use Rattle.isdb_mmt.specs.Decoder.Needs.{needs}
use Rattle.isdb_mmt.specs.Pushes.Push.{Input, packet_of, most_bytes, has_places, has_areas, has_outputs, asks_of, asks_later, asks, leaves_of, reply_of, handed as handed_by}
use Rattle.isdb_mmt.specs.Answers.Readings.{counters_read, time_read, count_read, next_media_read, next_control_read, next_key_read, media_read, held_read, control_read, section_read, mpt_read, plt_read, tot_read, asset_read, TableTold, refused, nothing, these, told_by}
use Rattle.isdb_mmt.specs.Answers.TableReadingLaws.{section_bytes, mpt_bytes, hands_out, AsKept}
use Rattle.isdb_mmt.specs.Theorems.Calls.{kept_in, dropped_in, lost_in, held_in, Reading, counters, time, count, next_media_of, next_control_of, next_key_of, media_of, held, control_of, mpt, plt, tot, section, asset_of, reading_number, Call, push, read, after, pushes, accepted, handed, AllBytes, decoder, PushDetermined, Tells, none_kept, kept, After, Demand3, AllAsModel, AnswersAsModel}
use Rattle.isdb_mmt.specs.declared.decoder.limits.Limits.{Limits}
use Rattle.isdb_mmt.specs.Theorems.Room.{most_added, SoundWithin}
use Rattle.isdb_mmt.proofs.Brief.{plain_of, lent_opened}
use Rattle.isdb_mmt.proofs.Ready.{Ready, ready_push, ready_opened}
use Rattle.isdb_mmt.proofs.Storable.{storable_opened, storable_view}
use Rattle.isdb_mmt.proofs.Outs.{packet_ok}
use Rattle.isdb_mmt.proofs.Limits.{passed}
use Rattle.isdb_mmt.proofs.SoundStays.{counts_within, takes, sound_stays, leaves_taken, leaves_same}
use Rattle.isdb_mmt.proofs.Checks.{sound_session}
use Rattle.isdb_mmt.proofs.Opening.{opening}
use Rattle.isdb_mmt.proofs.Smallness.{small_of}
use Rattle.isdb_mmt.proofs.PacketLeaves.{taken}
use Rattle.isdb_mmt.proofs.Accepted.{push_moved, push_gave}
use Rattle.isdb_mmt.proofs.Said.{dropped_said, lost_said, held_said_lem, kept_said}
use Rattle.isdb_mmt.proofs.NoneDamaged.{as_kept}
use Rattle.isdb_mmt.proofs.Demand.{demand}
use Rattle.isdb_mmt.specs.Memory.Refusals.{answer_number}

-- ---- a push, accepted or not

module _ (s : Session) (x : Input) where
  pub reply_number : (reply_of s x).number ≡ asks s x
  unfolding reply_of
  reply_number = either (eqb (asks s x) 0) (λ t. rw t (sym (eqb-true (asks s x) 0 t))) (λ f. rw f)

  abbrev read_back : List Rec
  read_back = read_rows (reply_of s x).records (reply_of s x).rows (reply_of s x).out

  reply_gave : eqb (asks s x) 0 ≡ true → read_back ≡ handed_by s x
  unfolding reply_of handed_by
  reply_gave t = rw t

  reply_none : eqb (asks s x) 0 ≡ false → read_back ≡ []
  unfolding reply_of read_rows places_from
  reply_none f = rw f

-- ---- lists of calls, whatever `Good` is: it stays shut while they are gone through

pub record Steps (Good : Session → Type 0) : Type 0 where
  pub moved : (s : Session) (x : Input) → Good s → Octets x.bytes → asks s x ≡ 0 → view (packet_leaves s (packet_of x)) ≡ pushed (view s) (packet_of x)
  pub gave : (s : Session) (x : Input) → Good s → Octets x.bytes → asks s x ≡ 0 → handed_by s x ≡ gives (view s) (packet_of x)
  pub stays : (s : Session) (x : Input) → Good s → Octets x.bytes → asks s x ≡ 0 → Good (packet_leaves s (packet_of x))

module _ (Good : Session → Type 0) (r : Steps Good) where
  -- from `s` the calls came to `s'` and handed out `hs`, and `ps` are the packets accepted
  pub record Ran (s s' : Session) (hs : List Rec) (ps : List Packet) : Type 0 where
    pub comes : view s' ≡ push_all (view s) ps
    pub hands : hs ≡ give_all (view s) ps
    pub small : EverySmall ps
    pub good : Good s'

  -- one push, by whether it is accepted
  one_taken : (s s' : Session) (x : Input) (hs : List Rec) (ps : List Packet) → asks s x ≡ 0 → Good s → Octets x.bytes
      → Ran (packet_leaves s (packet_of x)) s' hs ps → Ran s s' (handed_by s x ++ hs) (packet_of x ∷ ps)
  unfolding push_all give_all
  one_taken s s' x hs ps e g o y =
      let q = taken s x e in
      let m = r.moved s x g o e in
      record {
        comes = rw m at y.comes;
        hands = rw (r.gave s x g o e, ← m, y.hands);
        small = (small_of x.kind x.bytes (omega (arith, q.short)), y.small);
        good = y.good;
      }

  pub ran : (s : Session) (cs : List Call) → Good s → AllBytes cs
      → Ran s (after decoder s cs) (handed (pushes decoder s cs)) (accepted (pushes decoder s cs))
  unfolding after pushes accepted handed push_all give_all
  ran s [] g a = record { comes = refl; hands = refl; small = tt; good = g }
  ran s (read k ∷ cs) g a = ran s cs g a
  ran s (push x ∷ cs) g a =
      either (eqb (asks s x) 0)
      (λ t.
      let e = eqb-true (asks s x) 0 t in
      rw (reply_number s x, t, leaves_taken s x t, reply_gave s x t)
      (one_taken s (after decoder (packet_leaves s (packet_of x)) cs) x (handed (pushes decoder (packet_leaves s (packet_of x)) cs))
      (accepted (pushes decoder (packet_leaves s (packet_of x)) cs)) e g a.0
      (ran (packet_leaves s (packet_of x)) cs (r.stays s x g a.0 e) a.1)))
      (λ f. rw (reply_number s x, f, leaves_same s x f, reply_none s x f) (ran s cs g a.1))

  -- ids and keys, from a session that is the model's opened state
  pub holds_after : (pass : Bool) (s : Session) (cs : List Call) → view s ≡ opened pass → Good s → AllBytes cs
      → Holds (dropped_in (after decoder s cs)) (lost_in (after decoder s cs)) (held_in (after decoder s cs)) (kept_in (after decoder s cs))
      (handed (pushes decoder s cs)) (accepted (pushes decoder s cs))
  holds_after pass s cs o g a =
      let y = ran s cs g a in
      let ps = accepted (pushes decoder s cs) in
      let c : view (after decoder s cs) ≡ push_all (opened pass) ps = rw o at y.comes in
      let h : handed (pushes decoder s cs) ≡ give_all (opened pass) ps = rw o at y.hands in
      let d = demand pass ps y.small in
      record {
        ids = λ i. rw (dropped_said (after decoder s cs) i, lost_said (after decoder s cs) i, held_said_lem (after decoder s cs) i, c, h) (d.ids i);
        keys = λ k. rw (kept_said (after decoder s cs) k, c) (d.keys k);
      }

-- ---- what no call breaks

-- `bound` is 2^21 for each packet taken
pub record Good (s : Session) : Type 0 where
  pub bound : ℕ
  pub whole : SoundWithin bound s
  pub ready : Ready bound (view s)

stays : (s : Session) (x : Input) → Good s → Octets x.bytes → asks s x ≡ 0 → Good (packet_leaves s (packet_of x))
stays s x g o e =
    let q = taken s x e in
    let h = g.whole.lent in
    let t = takes s x q in
    let ok = sound_session s q.session in
    let p = passed (limits_of s.state) (lengths_of s) ok.limits in
    let y = ready_push (limits_of s.state) most_count g.bound (view s) (storable_view s ok h) g.ready (packet_of x)
    (packet_ok x.kind x.bytes (omega (arith, q.short)) o) (plain_of x.kind x.bytes (omega (arith, q.short)) o) in
    record {
      bound = g.bound + most_added;
      whole = sound_stays s x h o g.bound g.whole.counts (omega (arith, g.ready.counts, t.packets, p.packets)) e;
      ready = rw (push_moved s h x o e) y;
    }

steps : Steps Good
steps =
    record {
      moved = λ s x g o e. push_moved s g.whole.lent x o e;
      gave = λ s x g o e. push_gave s g.whole.lent x o e;
      stays = λ s x g o e. stays s x g o e;
    }

-- ---- a session that passes question 5 gets no 5

numbers_other : (a b c d e : Bool) → ◌≡◌ {A = ℕ} (cond a 6 (cond b 7 (cond c 8 (cond d 9 (cond e 10 0))))) 5 → ⊥
numbers_other true b c d e q = omega arith
numbers_other false true c d e q = omega arith
numbers_other false false true d e q = omega arith
numbers_other false false false true e q = omega arith
numbers_other false false false false true q = omega arith
numbers_other false false false false false q = omega arith

never_5 : (s : Session) → sound s ≡ true → (x : Input) → asks s x ≡ 5 → ⊥
unfolding asks asks_later asks_of
never_5 s ok x e =
    let l = limits_of s.state in
    let n = needs (view s) (packet_of x) in
    numbers_other (not (length x.bytes ≤? most_bytes)) (not ((counters_of s.state).tlv_packets <? l.packets)) (not (has_places l (used_of s.state) n))
    (not (has_areas l n)) (not (has_outputs (length x.rows) (length x.out) n)) (rw ok at e)

-- ---- readings

abbrev kept_told : Option Kept → TableTold
kept_told None = nothing
kept_told (Some x) = these x.bytes

hands_kept : (o : Option Kept) → hands_out (section_bytes o) ≡ kept_told o
hands_kept None = refl
hands_kept (Some x) = refl

tells : (o : Option Kept) (xs : List Section) → Keeps o xs → Tells (kept_told o) xs
tells _ _ never = none_kept
tells _ _ (keeps x f) = kept x f

abbrev numbered : TableTold → ℕ
numbered (refused n) = 1
numbered nothing = 0
numbered (these b) = 0

-- an answer that hands out has no number
hands_zero : (t : Bytes) (r : Result (StdOption Part) Refusal) (o : Option Bytes) → told_by t r ≡ hands_out o → answer_number r ≡ 0
hands_zero t (Err k) None e = absurd (omega (arith, ap numbered e))
hands_zero t (Err k) (Some b) e = absurd (omega (arith, ap numbered e))
hands_zero t (Ok x) o e = refl

not_refused_zero : {A : Type 0} (r : Result A Refusal) → ((k : Refusal) → r ≡ Err k → ⊥) → answer_number r ≡ 0
not_refused_zero (Err k) h = absurd (h k refl)
not_refused_zero (Ok x) h = refl

module _ (s : Session) (e : sound s ≡ true) (h : Lent s) (n : ℕ) (z : Ready n (view s)) where
  abbrev l : Limits
  l = limits_of s.state

  as_view : AsKept s (view s)
  as_view = as_kept (view s) n z s e h refl

  pub section_tells : (k : ℕ) → told_by s.tables (section_read s k) ≡ kept_told (kept_in s k)
  section_tells k = as_view.section k ∙ hands_kept (find k (view s).store.kept) ∙ ap kept_told (sym (kept_said s k))

  pub reading_zero : (r : Reading) → reading_number s r ≡ 0
  unfolding reading_number counters_read time_read count_read next_media_read next_control_read next_key_read media_read held_read control_read
  reading_zero counters = rw e
  reading_zero time = rw e
  reading_zero (count id) = rw e
  reading_zero (next_media_of a) = rw e
  reading_zero (next_control_of a) = rw e
  reading_zero (next_key_of a b) = rw e
  reading_zero (media_of id) = rw e
  reading_zero (held id) = rw e
  reading_zero (control_of id) = rw e
  reading_zero (mpt id) = hands_zero s.tables (mpt_read s id) (mpt_bytes (find id (view s).controls)) (as_view.mpt id)
  reading_zero plt = hands_zero s.tables (plt_read s) (view s).store.plt as_view.plt
  reading_zero tot = hands_zero s.tables (tot_read s) (view s).store.tot as_view.tot
  reading_zero (section k) = hands_zero s.tables (section_read s k) (section_bytes (find k (view s).store.kept)) (as_view.section k)
  reading_zero (asset_of p) = not_refused_zero (asset_read s p) (as_view.asset p)

-- ---- demand 3

module _ (l : Limits) (s : Session) (a : asked l (lengths_of s) ≡ 0) (o : Lent s) (cs : List Call) (b : AllBytes cs) where
  abbrev s0 : Session
  s0 = opened_session l s

  abbrev s' : Session
  s' = after decoder s0 cs

  good : Good s0
  good =
      let f = opening l s a in
      record {
        bound = 0;
        whole =
            record {
              lent = lent_opened l s o;
              session = f.session;
              counts = counts_within s0 0 (rw f.state (storable_opened (limits_of s0.state) l.pass_scrambled));
            };
        ready = rw f.state (ready_opened l.pass_scrambled);
      }

  come : Ran Good steps s0 s' (handed (pushes decoder s0 cs)) (accepted (pushes decoder s0 cs))
  come = ran Good steps s0 cs good b

  all_hold : After decoder s0 cs
  all_hold =
      let g = come.good in
      let h = holds_after Good steps l.pass_scrambled s0 cs (opening l s a).state good b in
      record {
        holds = h;
        reads =
            λ k.
            rw (section_tells s' g.whole.session g.whole.lent g.bound g.ready k)
            (tells (kept_in s' k) (well_formed k (accepted (pushes decoder s0 cs))) (h.keys k));
        session = g.whole.session;
        next = never_5 s' g.whole.session;
        readings = reading_zero s' g.whole.session g.whole.lent g.bound g.ready;
      }

  all_as_model : AllAsModel l.pass_scrambled s0 cs
  all_as_model =
      let g = come.good in
      let f = (opening l s a).state in
      let v : view s' ≡ push_all (opened l.pass_scrambled) (accepted (pushes decoder s0 cs)) = rw f at come.comes in
      record {
        state = v;
        records = rw f at come.hands;
        tables =
            as_kept (push_all (opened l.pass_scrambled) (accepted (pushes decoder s0 cs))) g.bound (rw v at g.ready) s'
            g.whole.session g.whole.lent v;
      }

pub demand_3 : Demand3 decoder
demand_3 = all_hold

pub answers_as_model : AnswersAsModel
answers_as_model = all_as_model

-- ---- what the contract of a push says fixes it

pub push_determined : PushDetermined
unfolding leaves_of reply_of
push_determined s x r records n s' rows out p =
    either (eqb (asks s x) 0)
    (λ t.
    let z : r ≡ 0 = p.number ∙ eqb-true (asks s x) 0 t in
    record {
      leaves = rw t (p.session z);
      replies = rw t (λ i. record { number = z i; records = (p.counts z).0 i; bytes = (p.counts z).1 i; rows = p.rows_are z i; out = p.data_are z i });
    })
    (λ f.
    let z : r ≡ 0 → ⊥ = λ q. eqb-false (asks s x) 0 f (sym p.number ∙ q) in
    record {
      leaves = rw f (p.same z);
      replies = rw f (λ i. record { number = p.number i; records = (p.nothing z).0 i; bytes = (p.nothing z).1 i; rows = (p.kept z).0 i; out = (p.kept z).1 i });
    })
