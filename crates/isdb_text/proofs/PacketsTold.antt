-- The lines of a call say what pushing its packets one by one answers and hands out. Assumes nothing.
use Rattle.std.proofs.Common.{◌≡◌, ℕ, ◌+◌, ◌*◌, ◌%◌, ◌^◌, ◌<◌, ◌≤◌, false, List, [], ◌∷◌, ◌++◌, length, take, drop, sym, refl, ap, ◌∙◌, subst, inl, mod-eq_of_lt, arith, length-append, length-drop, length-take-le, take_at, drop_at, ltb-false, le-ltb, lt-ltb, eq-eqb, eqb-true}
use Rattle.isdb_tlv.specs.Guards.{◌<?◌, ◌=?◌}
use Rattle.isdb_tlv.specs.Bytes.{be}
use Rattle.isdb_tlv.specs.Fields.{written}
use Rattle.isdb_tlv.specs.Cut.{TlvPacket, recording_from, recording_of}
use Rattle.isdb_tlv.proofs.Guards.{either}
use Rattle.isdb_tlv.proofs.Numbers.{length_put_be}
use Rattle.isdb_tlv.proofs.Fields.{length_written}
use Rattle.isdb_mmt.specs.Decoder.Packet.{Bytes}
use Rattle.isdb_mmt.specs.Decoder.Model.{gives}
use Rattle.isdb_mmt.specs.Decoder.Needs.{needs}
use Rattle.isdb_mmt.specs.Memory.Lent.{part, over}
use Rattle.isdb_mmt.specs.Memory.Session.{Session}
use Rattle.isdb_mmt.specs.Memory.View.{view}
use Rattle.isdb_mmt.specs.Pushes.Records.{row_size, rows_from, data_from}
use Rattle.isdb_mmt.specs.Pushes.Push.{Input, packet_of, asks, Reply, reply_of}
use Rattle.isdb_mmt.specs.Formats.Part.{count_of_usize}
use Rattle.isdb_mmt.specs.Pushes.PushAll.{line_size, line_fields, nothing_taken, Run, run_of, input_at, after_packet, Ran, ran, pushed_each, AllPushed}
use Rattle.isdb_mmt.specs.Pushes.Answer.{Answer}
use Rattle.isdb_mmt.specs.declared.decoder.many.Pushes.{Pushes}
use Rattle.isdb_mmt.specs.declared.decoder.many.Halt.{Halt}
use Rattle.isdb_mmt.specs.declared.decoder.many.Halt.TheVariants.{End, Short, Bad, Full, Refused}
use Rattle.isdb_mmt.proofs.Lent.{length_over, part_over, part_apart, part_take, puts_over}
use Rattle.isdb_mmt.proofs.Stored.{holds_written}
use Rattle.isdb_mmt.proofs.RecordRows.{length_rows, length_data}
use Rattle.isdb_mmt.proofs.PacketLeaves.{taken}
use Rattle.isdb_text.specs.DumpPackets.{nth_of, answer_of, first_told, told_of, behind_of, progress_at}
use Rattle.isdb_text.specs.PacketsTold.{pushed_over, answered, Told, ToldAsPushed}
use Rattle.isdb_text.proofs.PacketWalk.{step_at_lem, stands, taken_ahead}
use Rattle.isdb_mmt.specs.Memory.Refusals.{refusal_of}
use Rattle.isdb_mmt.proofs.Refusals.{asks_told}

-- ---- one push

-- what a packet that is taken hands out, in what it was lent
record Handed (x : Input) (y : Reply) : Type 0 where
  number : y.number ≡ 0
  records : row_size * y.records ≤ length x.rows
  bytes : y.bytes ≤ length x.out
  rows : length y.rows ≡ length x.rows
  out : length y.out ≡ length x.out

handed_out : (s : Session) (x : Input) → asks s x ≡ 0 → Handed x (reply_of s x)
unfolding reply_of needs
handed_out s x e =
    let f = (taken s x e).fits in
    let rs = gives (view s) (packet_of x) in
    rw (eq-eqb (asks s x) 0 e)
    (record {
      number = refl;
      records = f.records;
      bytes = f.data_bytes;
      rows = length_over 0 (rows_from 0 rs) x.rows (omega (arith, length_rows 0 rs, f.records));
      out = length_over 0 (data_from rs) x.out (omega (arith, length_data rs, f.data_bytes));
    })

-- the front of what is kept in front of a reply
front_stays : (at n k : ℕ) (l m : List ℕ) → at + n ≤ k → k ≤ length l → part at n (take k l ++ m) ≡ part at n l
front_stays at n k l m h j =
    sym (part_take at n k (take k l ++ m) h) ∙ ap (part at n) (take_at (take k l) m k (length-take-le k l j)) ∙ part_take at n k l h

front_long : (k : ℕ) (l m : List ℕ) → k ≤ length l → length m ≡ length (drop k l) → length (take k l ++ m) ≡ length l
front_long k l m h e = omega (arith, length-append (take k l) m, length-take-le k l h, length-drop k l, e)

-- ---- one packet of a call

-- what was handed out and the lines fit their buffers
record Fitting (c : Run) : Type 0 where
  rows : row_size * c.progress.records ≤ length c.rows
  out : c.progress.bytes ≤ length c.out
  lines : line_size * c.progress.packets ≤ length c.lines
  rows_long : length c.rows < count_of_usize
  out_long : length c.out < count_of_usize
  lines_long : length c.lines < count_of_usize

-- what was handed out in front of a place stays
record Stays (c e : Run) : Type 0 where
  lines : (at n : ℕ) → at + n ≤ line_size * c.progress.packets → part at n e.lines ≡ part at n c.lines
  rows : (at n : ℕ) → at + n ≤ row_size * c.progress.records → part at n e.rows ≡ part at n c.rows
  out : (at n : ℕ) → at + n ≤ c.progress.bytes → part at n e.out ≡ part at n c.out

same : (c : Run) → Stays c c
same c = record { lines = λ at n h. refl; rows = λ at n h. refl; out = λ at n h. refl }

module _ (c : Run) (p : TlvPacket) (h : Fitting c) (z : asks c.session (input_at c p) ≡ 0) (room : line_size * c.progress.packets + line_size ≤ length c.lines) where
  abbrev y : Reply
  y = reply_of c.session (input_at c p)

  given : Handed (input_at c p) y
  given = handed_out c.session (input_at c p) z

  line_put : length (after_packet c p y).lines ≡ length c.lines
  line_put =
      let at = line_size * c.progress.packets in
      length_put_be 8 (at + 8) y.bytes _ ∙ length_put_be 8 at y.records c.lines

  rows_long : length (after_packet c p y).rows ≡ length c.rows
  rows_long = front_long (row_size * c.progress.records) c.rows y.rows h.rows given.rows

  out_long_lem : length (after_packet c p y).out ≡ length c.out
  out_long_lem = front_long c.progress.bytes c.out y.out h.out given.out

  fitting_next : Fitting (after_packet c p y)
  fitting_next =
      record {
        rows = omega (arith, rows_long, given.records, length-drop (row_size * c.progress.records) c.rows, h.rows);
        out = omega (arith, out_long_lem, given.bytes, length-drop c.progress.bytes c.out, h.out);
        lines = omega (arith, line_put, room);
        rows_long = rw rows_long h.rows_long;
        out_long = rw out_long_lem h.out_long;
        lines_long = rw line_put h.lines_long;
      }

  abbrev bytes_of_line : List ℕ
  bytes_of_line = written (line_fields y.records y.bytes)

  line_over : line_size * c.progress.packets + length bytes_of_line ≤ length c.lines
  line_over = omega (arith, length_written (line_fields y.records y.bytes), room)

  stays_next : Stays c (after_packet c p y)
  stays_next =
      record {
        lines = λ at n b.
            rw (puts_over (line_fields y.records y.bytes) (line_size * c.progress.packets) c.lines room)
            (part_apart at n (line_size * c.progress.packets) bytes_of_line c.lines (inl b) line_over);
        rows = λ at n b. front_stays at n (row_size * c.progress.records) c.rows y.rows b h.rows;
        out = λ at n b. front_stays at n c.progress.bytes c.out y.out b h.out;
      }

  line_there : nth_of line_size c.progress.packets (after_packet c p y).lines ≡ bytes_of_line
  line_there =
      let at = line_size * c.progress.packets in
      let l = over at bytes_of_line c.lines in
      rw (puts_over (line_fields y.records y.bytes) at c.lines room)
      (subst (λ (n : ℕ). part at n l ≡ bytes_of_line) (length_written (line_fields y.records y.bytes)) (part_over at bytes_of_line c.lines line_over))

  rows_there_lem : part (row_size * c.progress.records) (row_size * y.records) (after_packet c p y).rows ≡ take (row_size * y.records) y.rows
  rows_there_lem =
      let k = row_size * c.progress.records in
      ap (take (row_size * y.records)) (drop_at (take k c.rows) y.rows k (length-take-le k c.rows h.rows))

  data_there : part c.progress.bytes y.bytes (after_packet c p y).out ≡ take y.bytes y.out
  data_there =
      let k = c.progress.bytes in
      ap (take y.bytes) (drop_at (take k c.out) y.out k (length-take-le k c.out h.out))

-- ---- a call

module _ (input : Bytes) (most : ℕ) where
  stays : (ps : List TlvPacket) (c : Run) → Fitting c → Stays c (pushed_each input most c ps).run
  unfolding pushed_each
  stays [] c h = same c
  stays (p ∷ ps) c h =
      either (length c.lines <? line_size * c.progress.packets + line_size)
      (λ t. rw t (same c))
      (λ t. either (asks c.session (input_at c p) =? 0)
      (λ q.
      let z = eqb-true _ 0 q in
      let room = ltb-false _ _ t in
      let s = stays_next c p h z room in
      let g = stays ps (after_packet c p (reply_of c.session (input_at c p))) (fitting_next c p h z room) in
      rw (t, q)
      (record {
        lines = λ at n b. g.lines at n (omega arith) ∙ s.lines at n b;
        rows = λ at n b. g.rows at n (omega arith) ∙ s.rows at n b;
        out = λ at n b. g.out at n (omega arith) ∙ s.out at n b;
      }))
      (λ q. rw (t, q) (same c)))

  -- a packet that was taken
  record Taken (c : Run) (p : TlvPacket) (ps : List TlvPacket) : Type 0 where
    asked : asks c.session (input_at c p) ≡ 0
    room : line_size * c.progress.packets + line_size ≤ length c.lines
    onwards : pushed_each input most c (p ∷ ps) ≡ pushed_each input most (after_packet c p (reply_of c.session (input_at c p))) ps

  was_taken : (c : Run) (p : TlvPacket) (ps : List TlvPacket) → c.progress.packets < (pushed_each input most c (p ∷ ps)).run.progress.packets → Taken c p ps
  unfolding pushed_each
  was_taken c p ps h =
      either (length c.lines <? line_size * c.progress.packets + line_size)
      (λ t. absurd (omega (arith, rw t at h)))
      (λ t. either (asks c.session (input_at c p) =? 0)
      (λ q. record { asked = eqb-true _ 0 q; room = ltb-false _ _ t; onwards = rw (t, q) refl })
      (λ q. absurd (omega (arith, rw (t, q) at h))))

  module _ (s' : Session) (rows' out' lines' : Bytes) (a : Pushes) where
    abbrev end : Run
    end = run_of s' rows' out' lines' a.progress

    Ended : Run → List TlvPacket → Type 0
    Ended c ps = ran end a.halt ≡ pushed_each input most c ps

    module _ (p : TlvPacket) (ps : List TlvPacket) (c : Run) (h : Fitting c) (e : Ended c (p ∷ ps)) (more : c.progress.packets < a.progress.packets) where
      it : Taken c p ps
      unfolding Ended
      it = was_taken c p ps (subst (λ (r : Ran). c.progress.packets < r.run.progress.packets) e more)

      abbrev reply : Reply
      reply = reply_of c.session (input_at c p)

      abbrev next : Run
      next = after_packet c p reply

      next_fits : Fitting next
      next_fits = fitting_next c p h it.asked it.room

      next_ended : Ended next ps
      unfolding Ended
      next_ended = e ∙ it.onwards

      kept : Stays next end
      unfolding Ended
      kept = subst (λ (r : Ran). Stays next r.run) (sym next_ended) (stays ps next next_fits)

      line_is : nth_of line_size c.progress.packets lines' ≡ written (line_fields reply.records reply.bytes)
      line_is = kept.lines (line_size * c.progress.packets) line_size (omega arith) ∙ line_there c p h it.asked it.room

      reply_records : c.progress.records + reply.records < count_of_usize
      reply_records = omega (arith, next_fits.rows, next_fits.rows_long)

      reply_bytes : c.progress.bytes + reply.bytes < count_of_usize
      reply_bytes = omega (arith, next_fits.out, next_fits.out_long)

      answer_is : answer_of a lines' c.progress.packets ≡ answered reply
      unfolding answer_of
      answer_is =
          let fs = line_fields reply.records reply.bytes in
          let b = holds_written fs (omega (arith, reply_records), (omega (arith, reply_bytes), tt)) in
          let r0 : be 8 (nth_of line_size c.progress.packets lines') 0 ≡ reply.records = ap (λ (l : List ℕ). be 8 l 0) line_is ∙ b 0 in
          let b0 : be 8 (nth_of line_size c.progress.packets lines') 8 ≡ reply.bytes = ap (λ (l : List ℕ). be 8 l 8) line_is ∙ b 1 in
          let n0 : 0 ≡ reply.number = sym (given c p h it.asked it.room).number in
          rw (lt-ltb _ _ more) (λ i. record { number = n0 i; records = r0 i; bytes = b0 i })

      told_here : progress_at input most lines' a c.progress.packets ≡ c.progress → Told input most a rows' out' lines' c.progress.packets c reply
      told_here g =
          record {
            place = g;
            answer = answer_is;
            rows_are = kept.rows (row_size * c.progress.records) (row_size * reply.records) (omega arith) ∙ rows_there_lem c p h it.asked it.room;
            data_are = kept.out c.progress.bytes reply.bytes (omega arith) ∙ data_there c p h it.asked it.room;
          }

      place_on : (recording_from input most c.progress.at).packets ≡ p ∷ ps → progress_at input most lines' a c.progress.packets ≡ c.progress
          → progress_at input most lines' a (c.progress.packets + 1) ≡ next.progress
      unfolding behind_of
      place_on f g =
          let x = c.progress in
          let st = stands input most x.at p ps f in
          let n1 : (x.packets + 1) % 2 ^ 64 ≡ x.packets + 1 = mod-eq_of_lt (omega (arith, next_fits.lines, next_fits.lines_long)) in
          let r1 : (x.records + (answer_of a lines' x.packets).records) % 2 ^ 64 ≡ x.records + reply.records =
          ap (λ (w : Answer). (x.records + w.records) % 2 ^ 64) answer_is ∙ mod-eq_of_lt reply_records in
          let b1 : (x.bytes + (answer_of a lines' x.packets).bytes) % 2 ^ 64 ≡ x.bytes + reply.bytes =
          ap (λ (w : Answer). (x.bytes + w.bytes) % 2 ^ 64) answer_is ∙ mod-eq_of_lt reply_bytes in
          let step : behind_of input most lines' a x ≡ next.progress =
          λ i. record { at = st.place i; packets = n1 i; records = r1 i; bytes = b1 i } in
          step_at_lem input most lines' a x.packets ∙ ap (behind_of input most lines' a) g ∙ step

    told_from : (before after : List TlvPacket) (p : TlvPacket) (c : Run) → Fitting c → Ended c (before ++ (p ∷ after))
        → (recording_from input most c.progress.at).packets ≡ before ++ (p ∷ after) → (k : ℕ) → k ≡ c.progress.packets + length before → k < a.progress.packets
        → progress_at input most lines' a c.progress.packets ≡ c.progress
        → Told input most a rows' out' lines' k (pushed_over c before) (reply_of (pushed_over c before).session (input_at (pushed_over c before) p))
    told_from [] after p c h e f k ek m g =
        let j : c.progress.packets ≡ k = omega arith in
        subst (λ (n : ℕ). Told input most a rows' out' lines' n c (reply_of c.session (input_at c p))) j (told_here p after c h e (omega arith) g)
    told_from (q ∷ before) after p c h e f k ek m g =
        let rest = before ++ (p ∷ after) in
        let more : c.progress.packets < a.progress.packets = omega arith in
        let st = stands input most c.progress.at q rest f in
        told_from before after p (next q rest c h e more) (next_fits q rest c h e more) (next_ended q rest c h e more) st.behind k (omega arith) m
        (place_on q rest c h e more f g)

-- ---- the first packet, turned down

first_least : (h : Halt) → first_told h ≤ 1
first_least End = omega arith
first_least Short = omega arith
first_least Bad = omega arith
first_least Full = omega arith
first_least (Refused n) = omega arith

module _ (s s' : Session) (input : Bytes) (most : ℕ) (rows out lines rows' out' lines' : Bytes) (a : Pushes)
    (q : AllPushed s input most rows out lines a s' rows' out' lines') (room : line_size ≤ length lines) where
  abbrev start : Run
  start = run_of s rows out lines nothing_taken

  ended : (ps : List TlvPacket) → (recording_of input most).packets ≡ ps → ran (run_of s' rows' out' lines' a.progress) a.halt ≡ pushed_each input most start ps
  ended ps f = q.one_by_one ∙ ap (pushed_each input most start) f

  refused_first : (after : List TlvPacket) (p : TlvPacket) → (recording_of input most).packets ≡ p ∷ after → a.progress.packets ≡ 0
      → ((asks s (input_at start p) =? 0) ≡ false) × (a.halt ≡ Refused (refusal_of (asks s (input_at start p))))
  unfolding pushed_each
  refused_first after p f none =
      let e : ran (run_of s' rows' out' lines' a.progress) a.halt ≡ pushed_each input most start (p ∷ after) = ended (p ∷ after) f in
      let t : (length lines <? line_size * 0 + line_size) ≡ false = le-ltb (length lines) (line_size * 0 + line_size) (omega arith) in
      either (asks s (input_at start p) =? 0)
      (λ z.
      let d = ap (λ (r : Ran). r.run.progress.packets) (rw (t, z) at e) in
      absurd (omega (arith, d, none, taken_ahead input most after (after_packet start p (reply_of s (input_at start p))))))
      (λ z. (z, ap (λ (r : Ran). r.halt) (rw (t, z) at e)))

  told_first : (after : List TlvPacket) (p : TlvPacket) → (recording_of input most).packets ≡ p ∷ after → a.progress.packets ≡ 0
      → Told input most a rows' out' lines' 0 start (reply_of s (input_at start p))
  unfolding progress_at answer_of reply_of
  told_first after p f none =
      let d = refused_first after p f none in
      let u : (0 <? a.progress.packets) ≡ false = le-ltb 0 a.progress.packets (omega arith) in
      rw d.0
      (record {
        place = refl;
        answer = rw (u, d.1, asks_told s (input_at start p) d.0) refl;
        rows_are = refl;
        data_are = refl;
      })

  -- the one packet that is written where none was taken
  told_alone : (before after : List TlvPacket) (p : TlvPacket) → (recording_of input most).packets ≡ before ++ (p ∷ after)
      → length before < first_told a.halt → a.progress.packets ≡ 0
      → Told input most a rows' out' lines' (length before) (pushed_over start before) (reply_of (pushed_over start before).session (input_at (pushed_over start before) p))
  told_alone [] after p f m none = told_first after p f none
  told_alone (x ∷ before) after p f m none = absurd (omega (arith, first_least a.halt))

  told_some : length rows < count_of_usize → length out < count_of_usize → length lines < count_of_usize
      → (before after : List TlvPacket) (p : TlvPacket) → (recording_of input most).packets ≡ before ++ (p ∷ after) → length before < a.progress.packets
      → Told input most a rows' out' lines' (length before) (pushed_over start before) (reply_of (pushed_over start before).session (input_at (pushed_over start before) p))
  unfolding recording_of progress_at Ended
  told_some n1 n2 n3 before after p f m =
      let h : Fitting start = record { rows = omega arith; out = omega arith; lines = omega arith; rows_long = n1; out_long = n2; lines_long = n3 } in
      told_from input most s' rows' out' lines' a before after p start h (ended (before ++ (p ∷ after)) f) f (length before) (omega arith) m refl

pub told_as_pushed : ToldAsPushed
unfolding told_of
told_as_pushed s s' input most rows out lines rows' out' lines' a q n1 n2 n3 room before after p f m =
    either (a.progress.packets =? 0)
    (λ t. told_alone s s' input most rows out lines rows' out' lines' a q room before after p f (rw t at m) (eqb-true _ 0 t))
    (λ t. told_some s s' input most rows out lines rows' out' lines' a q room n1 n2 n3 before after p f (rw t at m))
