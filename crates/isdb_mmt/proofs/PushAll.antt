-- Many packets in one call: one step, and the steps one after the other. Assumes nothing.
use Rattle.std.specs.Prelude.{Result, Ok, Err}
use Rattle.std.proofs.Common.{◌≡◌, ℕ, ◌+◌, ◌-◌, ◌*◌, ◌<◌, ◌≤◌, Bool, true, false, eqb, ltb, List, [], ◌∷◌, ◌++◌, length, take, drop, sym, refl, ap, ◌∙◌, subst, append-nil, arith, length-drop, take-append-drop, drop_of_length-le, take_all, ltb-false, ltb-true, le-ltb, lt-ltb, eq-eqb, ne_eqb}
use borrow.Rule.Slice.PartMut.{mid_of, put_mid}
use Rattle.isdb_tlv.specs.Bytes.{put_be}
use Rattle.isdb_tlv.specs.Guards.{◌<?◌}
use Rattle.isdb_tlv.specs.Fields.{puts, four_fields}
use Rattle.isdb_tlv.specs.Cut.{TlvPacket, cut_at, recording_from, recording_of}
use Rattle.isdb_tlv.specs.declared.cut.Cut.{Cut}
use Rattle.isdb_tlv.specs.declared.cut.Cut.TheVariants.{Packet as packet_here, End as end_here, Short as short_here, Bad as bad_here}
use Rattle.isdb_tlv.proofs.Cutting.{recording_at, Lies, packet_lies}
use Rattle.isdb_tlv.proofs.Guards.{either}
use Rattle.isdb_mmt.specs.Formats.Part.{count_of_usize}
use Rattle.isdb_mmt.specs.Decoder.Packet.{Bytes}
use Rattle.isdb_mmt.specs.Memory.Layout.{most_count, table_ids}
use Rattle.isdb_mmt.specs.Memory.Session.{Session}
use Rattle.isdb_mmt.specs.Memory.Check.{lengths_of, sound_in, sound, roomy_count}
use Rattle.isdb_mmt.specs.Pushes.Records.{row_size}
use Rattle.isdb_mmt.specs.Pushes.Push.{Input, input, asks, Pushed, leaves_of, Reply, reply_of}
use Rattle.isdb_mmt.specs.Pushes.PushAll.{line_size, line_fields, header_size, Run, ran, halt_at, pushed_each, nothing_taken, AllPushed, run_of, input_at, progress_after, after_packet}
use Rattle.isdb_mmt.specs.Pushes.PushAllSteps.{pushed_from, ProgressFits, asked_once, AtTurn, TookPacket, Turned, MayBeKnown, PushedBehind, HasRest, OnePushed}
use Rattle.isdb_mmt.specs.Pushes.Answer.{Answer}
use Rattle.isdb_mmt.specs.declared.decoder.many.Progress.{Progress}
use Rattle.isdb_mmt.specs.declared.decoder.many.Pushes.{Pushes}
use Rattle.isdb_mmt.specs.declared.decoder.many.Halt.{Halt}
use Rattle.isdb_mmt.specs.declared.decoder.many.Halt.TheVariants.{End, Short, Bad, Full, Refused}
use Rattle.isdb_mmt.specs.Decoder.Needs.{needs}
use Rattle.isdb_mmt.specs.Memory.Octets.{Octets, Lent}
use Rattle.isdb_mmt.specs.Theorems.Room.{most_added}
use Rattle.isdb_mmt.proofs.Lent.{length_part}
use Rattle.isdb_mmt.proofs.PacketLeaves.{taken}
use Rattle.isdb_mmt.proofs.SoundStays.{within_more, leaves_taken, push_stays}
use Rattle.isdb_mmt.proofs.Accepted.{push_lent}
use Rattle.isdb_mmt.proofs.RoomTest.{were_asked}
use Rattle.isdb_mmt.proofs.Names.{true_not_false}
use Rattle.isdb_mmt.proofs.Calls.{push_determined}
use Rattle.isdb_mmt.specs.Memory.Refusals.{refusal_of}
use Rattle.isdb_mmt.specs.Memory.Lending.{session_asked}

-- ---- whether there is a session

pub known_session : (s : Session) (known : Bool) → MayBeKnown known s → known ≡ true → Ok tt ≡ session_asked s
unfolding session_asked
known_session s known h t = rw (h.session t)

-- ---- a packet's line

pub no_line : (n k : ℕ) → line_size * k ≤ n → (r : Bool) → r ≡ ltb (n - line_size * k) line_size → r ≡ (n <? line_size * k + line_size)
no_line n k h r e =
    let m = n - line_size * k in
    e
    ∙ either (ltb m line_size)
    (λ t. t ∙ sym (lt-ltb n (line_size * k + line_size) (omega (arith, ltb-true m line_size t))))
    (λ f. f ∙ sym (le-ltb n (line_size * k + line_size) (omega (arith, ltb-false m line_size f))))

pub line_put : (at a b : ℕ) (l n : List ℕ) → n ≡ puts at (four_fields 0x8800 a b 0 0) l → n ≡ puts at (line_fields a b) l
unfolding put_be
line_put at a b l n e = e

-- ---- the rest of a buffer, lent

module _ (k : ℕ) (l : Bytes) where
  rest_lent : mid_of k (length l - k) l ≡ drop k l
  rest_lent = take_all (length l - k) (drop k l) (omega (arith, length-drop k l))

  rest_put : (m : Bytes) → put_mid k (length l - k) l m ≡ take k l ++ m
  rest_put m =
      let e : length (drop k l) ≤ length l - k = omega (arith, length-drop k l) in
      rw (drop_of_length-le (drop k l) {i = length l - k} e) (ap (λ (z : Bytes). take k l ++ z) (append-nil m))

-- ---- one push

module _ (s : Session) (kind : ℕ) (b : Bytes) (first : ℕ) (rows : Bytes) (start : ℕ) (out : Bytes) where
  pub pushed_behind : (a : Answer) (s' : Session) (m n : Bytes)
      → Pushed s (input kind b (mid_of first (length rows - first) rows) (mid_of start (length out - start) out)) a.number a.records a.bytes s' m n
      → PushedBehind s (input kind b (drop first rows) (drop start out)) first rows start out a s' (put_mid first (length rows - first) rows m) (put_mid start (length out - start) out n)
  pushed_behind a s' m n h =
      let x = input kind b (drop first rows) (drop start out) in
      let h' : Pushed s x a.number a.records a.bytes s' m n = rw (rest_lent first rows, rest_lent start out) at h in
      let d = push_determined s x a.number a.records a.bytes s' m n h' in
      record {
        leaves = d.leaves;
        number = h'.number;
        records = ap (λ (y : Reply). y.records) d.replies;
        bytes = ap (λ (y : Reply). y.bytes) d.replies;
        rows_are = rest_put first rows m ∙ ap (λ (y : Reply). take first rows ++ y.rows) d.replies;
        data_are = rest_put start out n ∙ ap (λ (y : Reply). take start out ++ y.out) d.replies;
      }

-- what it hands out fits what it was lent
module _ (s : Session) (x : Input) (e : asks s x ≡ 0) where
  reply_fits : (row_size * (reply_of s x).records ≤ length x.rows) × ((reply_of s x).bytes ≤ length x.out)
  unfolding reply_of needs
  reply_fits = let f = (taken s x e).fits in rw (eq-eqb (asks s x) 0 e) (f.records, f.data_bytes)

-- ---- one step

module _ (known : Bool) (c : Run) (p : TlvPacket) (h : HasRest known c) where
  module _ (a : Answer) (s' : Session) (rows' out' : Bytes)
      (q : PushedBehind c.session (input_at c p) (row_size * c.progress.records) c.rows c.progress.bytes c.out a s' rows' out') where
    pub step_taken : a.number ≡ 0 → (lines' : Bytes) → lines' ≡ puts (line_size * c.progress.packets) (line_fields a.records a.bytes) c.lines
        → OnePushed c p a s' rows' out' lines'
    step_taken z lines' e =
        let x = input_at c p in
        let l : lines' ≡ puts (line_size * c.progress.packets) (line_fields (reply_of c.session x).records (reply_of c.session x).bytes) c.lines =
        rw (q.records, q.bytes) at e in
        record {
          number = q.number;
          same = λ n. absurd (n z);
          taken = λ _ i.
              record {
                session = q.leaves i;
                rows = q.rows_are i;
                out = q.data_are i;
                lines = l i;
                progress = progress_after c.progress (length p.bytes) (q.records i) (q.bytes i);
              };
        }

    pub step_refused : (a.number ≡ 0 → ⊥) → OnePushed c p a s' rows' out' c.lines
    unfolding leaves_of reply_of
    step_refused n =
        let x = input_at c p in
        let f : eqb (asks c.session x) 0 ≡ false = ne_eqb _ 0 (λ z. n (q.number ∙ z)) in
        let s : s' ≡ c.session = rw f at q.leaves in
        let r : rows' ≡ c.rows = (rw f at q.rows_are) ∙ take-append-drop (row_size * c.progress.records) c.rows in
        let o : out' ≡ c.out = (rw f at q.data_are) ∙ take-append-drop c.progress.bytes c.out in
        record {
          number = q.number;
          same = λ _ i. record { session = s i; rows = r i; out = o i; lines = c.lines; progress = c.progress };
          taken = λ z. absurd (n z);
        }

-- ---- all steps

pub at_turn_first : (known : Bool) (s : Session) (input : Bytes) (rows out lines : Bytes) → length s.others ≡ table_ids → known ≡ asked_once s (length input)
    → Lent s → length rows < count_of_usize → length out < count_of_usize → length lines < count_of_usize
    → AtTurn known input (run_of s rows out lines nothing_taken)
at_turn_first known s input rows out lines h e l n1 n2 n3 =
    record {
      others = h;
      lent = l;
      rows = omega arith;
      out = omega arith;
      lines = omega arith;
      rows_long = n1;
      out_long = n2;
      lines_long = n3;
      inside = omega arith;
      session = λ t.
          let q = were_asked s (length input) l (sym e ∙ t) in
          (q.0, within_more roomy_count (roomy_count + 0 * most_added) (omega arith) s q.1);
    }

module _ (known : Bool) (input : Bytes) (most : ℕ) (c : Run) (h : AtTurn known input c) (k : Cut) (ek : k ≡ cut_at input most c.progress.at) where
  -- what stands here ends the call
  ends_here : (recording_from input most c.progress.at).packets ≡ [] → (w : Halt) → halt_at k ≡ w → ran c w ≡ pushed_from input most c
  unfolding pushed_each
  ends_here e w f = sym (rw e (ap (ran c) (ap halt_at (sym ek) ∙ f)))

  pub halts_end : k ≡ end_here → ran c End ≡ pushed_from input most c
  halts_end e = ends_here (rw (recording_at input most c.progress.at, ← ek, e)) End (rw e)

  pub halts_short : k ≡ short_here → ran c Short ≡ pushed_from input most c
  halts_short e = ends_here (rw (recording_at input most c.progress.at, ← ek, e)) Short (rw e)

  pub halts_bad : k ≡ bad_here → ran c Bad ≡ pushed_from input most c
  halts_bad e = ends_here (rw (recording_at input most c.progress.at, ← ek, e)) Bad (rw e)

  -- a packet
  module _ (kind start n next : ℕ) (d : k ≡ packet_here kind start n next) where
    abbrev packet : TlvPacket
    packet = record { kind = kind; bytes = take n (drop start input) }

    lies : Lies input c.progress.at start n next
    lies = packet_lies input most c.progress.at (sym ek ∙ d)

    first_packet : (recording_from input most c.progress.at).packets ≡ packet ∷ (recording_from input most next).packets
    first_packet = rw (recording_at input most c.progress.at, ← ek, d)

    packet_length : length packet.bytes ≡ n
    packet_length = length_part start n input (omega (arith, lies.behind_bytes, lies.inside))

    module _ (full : Bool) (ef : full ≡ (length c.lines <? line_size * c.progress.packets + line_size)) where
      pub halts_full : full ≡ true → ran c Full ≡ pushed_from input most c
      unfolding pushed_each
      halts_full t = sym (rw (first_packet, sym ef ∙ t))

      module _ (ff : full ≡ false) where
        line_fits : line_size * c.progress.packets + line_size ≤ length c.lines
        line_fits = ltb-false _ _ (sym ef ∙ ff)

        module _ (a : Answer) (s' : Session) (rows' out' lines' : Bytes) (q : OnePushed c packet a s' rows' out' lines') where
          halts_refused : (a.number ≡ 0 → ⊥)
              → ran (run_of s' rows' out' lines' c.progress) (Refused (refusal_of a.number)) ≡ pushed_from input most c
          unfolding pushed_each
          halts_refused z =
              let f : eqb (asks c.session (input_at c packet)) 0 ≡ false = ne_eqb _ 0 (λ e. z (q.number ∙ e)) in
              ap (λ (y : Run). ran y (Refused (refusal_of a.number))) (q.same z)
              ∙ ap (λ (m : ℕ). ran c (Refused (refusal_of m))) q.number
              ∙ sym (rw (first_packet, sym ef ∙ ff, f))

          module _ (z : a.number ≡ 0) where
            asked_none : asks c.session (input_at c packet) ≡ 0
            asked_none = sym q.number ∙ z

            abbrev now_run : Run
            now_run = run_of s' rows' out' lines' (record { at = next; packets = c.progress.packets + 1; records = c.progress.records + a.records; bytes = c.progress.bytes + a.bytes })

            place_next_lem : next ≡ c.progress.at + header_size + length packet.bytes
            place_next_lem = omega (arith, packet_length, lies.behind_header, lies.behind_bytes)

            after_is : now_run ≡ after_packet c packet (reply_of c.session (input_at c packet))
            after_is = rw place_next_lem (q.taken z)

            reply_records : a.records ≡ (reply_of c.session (input_at c packet)).records
            reply_records = omega (arith, ap (λ (y : Run). y.progress.records) after_is)

            reply_bytes : a.bytes ≡ (reply_of c.session (input_at c packet)).bytes
            reply_bytes = omega (arith, ap (λ (y : Run). y.progress.bytes) after_is)

            rows_fit : row_size * (c.progress.records + a.records) ≤ length c.rows
            rows_fit =
                omega (arith, (reply_fits c.session (input_at c packet) asked_none).0, reply_records, length-drop (row_size * c.progress.records) c.rows, h.rows)

            out_fits : c.progress.bytes + a.bytes ≤ length c.out
            out_fits =
                omega (arith, (reply_fits c.session (input_at c packet) asked_none).1, reply_bytes, length-drop c.progress.bytes c.out, h.out)

            progress_fits : ProgressFits c.progress a
            progress_fits =
                record {
                  packets = omega (arith, line_fits, h.lines_long);
                  records = omega (arith, rows_fit, h.rows_long);
                  bytes = omega (arith, out_fits, h.out_long);
                }

            session_next : s' ≡ leaves_of c.session (input_at c packet)
            session_next = ap (λ (y : Run). y.session) after_is

            turned_on : Octets packet.bytes → length s'.others ≡ length c.session.others → length rows' ≡ length c.rows
                → length out' ≡ length c.out → length lines' ≡ length c.lines → TookPacket known input most c now_run
            unfolding pushed_each
            turned_on o e1 e2 e3 e4 =
                let s = c.session in
                let x = input_at c packet in
                let g : AtTurn known input now_run = record {
                  others = e1 ∙ h.others;
                  lent = rw (session_next, leaves_taken s x (eq-eqb (asks s x) 0 asked_none)) (push_lent s h.lent x o asked_none);
                  rows = omega (arith, rows_fit, e2);
                  out = omega (arith, out_fits, e3);
                  lines = omega (arith, line_fits, e4);
                  rows_long = rw e2 h.rows_long;
                  out_long = rw e3 h.out_long;
                  lines_long = rw e4 h.lines_long;
                  inside = lies.inside;
                  session = λ t.
                      let q = h.session t in
                      let n = roomy_count + c.progress.at * most_added in
                      let room : n + most_added ≤ most_count = omega (arith, q.0, lies.behind_header, lies.behind_bytes, lies.inside) in
                      let more : n + most_added ≤ roomy_count + next * most_added = omega (arith, lies.behind_header, lies.behind_bytes) in (
                        q.0,
                        within_more (n + most_added) (roomy_count + next * most_added) more s' (rw session_next (push_stays s x n q.1 o room)),
                      );
                } in
                record {
                  holds = g;
                  same = rw (first_packet, sym ef ∙ ff, eq-eqb (asks s x) 0 asked_none, ← after_is);
                  ahead = omega (arith, lies.behind_header, lies.behind_bytes, lies.inside);
                }

-- ---- the same, with the packet's data as the call has them

module _ (known : Bool) (input : Bytes) (c : Run) (h : AtTurn known input c) (full : Bool)
    (ef : full ≡ (length c.lines <? line_size * c.progress.packets + line_size)) (ff : full ≡ false) where
  pub turn_rest : HasRest known c
  turn_rest =
      record {
        session = record { others = h.others; session = λ t. (h.session t).1.session };
        rows = h.rows;
        out = h.out;
        line = ltb-false _ _ (sym ef ∙ ff);
      }

  module _ (most : ℕ) (k : Cut) (ek : k ≡ cut_at input most c.progress.at) (kind start n next : ℕ) (d : k ≡ packet_here kind start n next) (b : Bytes)
      (eb : b ≡ take n (drop start input)) (a : Answer) (s' : Session) (rows' out' lines' : Bytes)
      (q : OnePushed c (record { kind = kind; bytes = b }) a s' rows' out' lines') where
    own_bytes : OnePushed c (record { kind = kind; bytes = take n (drop start input) }) a s' rows' out' lines'
    own_bytes = rw eb at q

    pub turn_refused : (a.number ≡ 0 → ⊥) → Turned known input most c (Err (Refused (refusal_of a.number))) s' rows' out' lines'
    turn_refused z = halts_refused known input most c h k ek kind start n next d full ef ff a s' rows' out' lines' own_bytes z

    module _ (z : a.number ≡ 0) where
      pub turn_fits : ProgressFits c.progress a
      turn_fits = progress_fits known input most c h k ek kind start n next d full ef ff a s' rows' out' lines' own_bytes z

      pub turn_taken : Octets b → length s'.others ≡ length c.session.others → length rows' ≡ length c.rows → length out' ≡ length c.out
          → length lines' ≡ length c.lines → (y : Progress)
          → y ≡ record { at = next; packets = c.progress.packets + 1; records = c.progress.records + a.records; bytes = c.progress.bytes + a.bytes }
          → Turned known input most c (Ok y) s' rows' out' lines'
      turn_taken o e1 e2 e3 e4 y ey =
          subst (λ (w : Progress). TookPacket known input most c (run_of s' rows' out' lines' w)) (sym ey)
          (turned_on known input most c h k ek kind start n next d full ef ff a s' rows' out' lines' own_bytes z (rw eb at o) e1 e2 e3 e4)

-- the loop: how its turns lead to the whole
pub record Running (known : Bool) (input : Bytes) (most : ℕ) (c₀ c : Run) : Type 0 where
  pub holds : AtTurn known input c
  pub same : pushed_from input most c₀ ≡ pushed_from input most c
  pub rows : length c.rows ≡ length c₀.rows
  pub out : length c.out ≡ length c₀.out
  pub lines : length c.lines ≡ length c₀.lines

pub running_first : (known : Bool) (input : Bytes) (most : ℕ) (c : Run) → AtTurn known input c → Running known input most c c
running_first known input most c h =
    record {
      holds = h;
      same = refl;
      rows = refl;
      out = refl;
      lines = refl;
    }

pub turn_can : (known : Bool) (input : Bytes) (most : ℕ) (c₀ c : Run) → Running known input most c₀ c → AtTurn known input c
turn_can known input most c₀ c h = h.holds

module _ (known : Bool) (input : Bytes) (most : ℕ) (c₀ c : Run) (h : Running known input most c₀ c) (t : Result Progress Halt) (s' : Session) (rows' out' lines' : Bytes)
    (q : Turned known input most c t s' rows' out' lines') where
  is_taken : (y : Progress) → t ≡ Ok y → TookPacket known input most c (run_of s' rows' out' lines' y)
  is_taken y e = rw e at q

  pub turn_less : (y : Progress) → t ≡ Ok y → length input - y.at < length input - c.progress.at
  turn_less y e = (is_taken y e).ahead

  pub running_next : (y : Progress) → t ≡ Ok y → length rows' ≡ length c.rows → length out' ≡ length c.out → length lines' ≡ length c.lines
      → Running known input most c₀ (run_of s' rows' out' lines' y)
  running_next y e e1 e2 e3 =
      let d = is_taken y e in
      record {
        holds = d.holds;
        same = h.same ∙ d.same;
        rows = e1 ∙ h.rows;
        out = e2 ∙ h.out;
        lines = e3 ∙ h.lines;
      }

  pub runs_halted : (w : Halt) → t ≡ Err w → ran (run_of s' rows' out' lines' c.progress) w ≡ pushed_from input most c₀
  runs_halted w e = (rw e at q) ∙ sym h.same

pub ran_all : (known : Bool) (input : Bytes) (most : ℕ) (s : Session) (rows out lines : Bytes) (c : Run)
    (h : Running known input most (run_of s rows out lines nothing_taken) c) (t : Result Progress Halt) (s' : Session) (rows' out' lines' : Bytes)
    → Turned known input most c t s' rows' out' lines' → (w : Halt) → t ≡ Err w → (a : Pushes) → a ≡ record { progress = c.progress; halt = w }
    → AllPushed s input most rows out lines a s' rows' out' lines'
unfolding recording_of
ran_all known input most s rows out lines c h t s' rows' out' lines' q w e a ea =
    subst (λ (y : Pushes). AllPushed s input most rows out lines y s' rows' out' lines') (sym ea)
    (record { one_by_one = runs_halted known input most (run_of s rows out lines nothing_taken) c h t s' rows' out' lines' q w e })
