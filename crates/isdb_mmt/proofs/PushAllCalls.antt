-- A call for many packets, as its pushes. Assumes nothing.
use Rattle.std.proofs.Common.{◌≡◌, ℕ, zero, suc, ◌+◌, ◌*◌, ◌≤◌, false, eqb, ltb, List, [], ◌∷◌, ◌++◌, length, take, drop, sym, refl, ap, ◌∙◌, append_assoc, arith, length-append, take-append-drop, length-take-le, take_at, drop_at, eq-eqb, eqb-true}
use lib.Seq.{take-append-add, drop-append-add, drop-append_seam}
use Rattle.isdb_tlv.specs.Cut.{TlvPacket, Recording, ends, item, cut_at, recording_from, recording_of}
use Rattle.isdb_tlv.specs.Walk.{run, turn}
use Rattle.isdb_tlv.specs.declared.cut.Stop.TheVariants.{Clean}
use Rattle.isdb_tlv.specs.declared.cut.Cut.{Cut}
use Rattle.isdb_tlv.specs.declared.cut.Cut.TheVariants.{Packet as packet_here, End as end_here, Short as short_here, Bad as bad_here}
use Rattle.isdb_tlv.proofs.Guards.{either}
use Rattle.isdb_mmt.specs.Decoder.Packet.{Bytes}
use Rattle.isdb_mmt.specs.Decoder.Model.{gives}
use Rattle.isdb_mmt.specs.Decoder.Needs.{data_of, needs}
use Rattle.isdb_mmt.specs.Memory.Session.{Session}
use Rattle.isdb_mmt.specs.Decoder.Objects.{Rec}
use Rattle.isdb_mmt.specs.Memory.Lent.{over}
use Rattle.isdb_mmt.specs.Memory.View.{view}
use Rattle.isdb_mmt.specs.Memory.Opening.{opened_session}
use Rattle.isdb_mmt.specs.Memory.Octets.{Octets, Lent}
use Rattle.isdb_mmt.specs.Pushes.Records.{row_size, rows_from, data_from, read_rows}
use Rattle.isdb_mmt.specs.Pushes.Push.{Input, packet_of, asks, Reply, reply_of}
use Rattle.isdb_mmt.specs.Pushes.PushAll.{line_size, Run, Ran, ran, input_at, after_packet, halt_at, pushed_each}
use Rattle.isdb_mmt.specs.Theorems.Calls.{Call, push, read, after, pushes, accepted, handed, AllBytes, decoder}
use Rattle.isdb_mmt.specs.Theorems.PushAllCalls.{Batch, start_of, packets_in, end_of, calls_over, calls_of, all_rows, all_data, all_lines, record_count, data_count, refusals, refusal, PushAllIsPushes, read_each, RecordsHanded, AnyCall, one, many, after_any, flat, AnyBytes, Demand3WithMany}
use Rattle.isdb_mmt.specs.declared.decoder.many.Halt.{Halt}
use Rattle.isdb_mmt.specs.declared.decoder.many.Halt.TheVariants.{Full, Refused}
use Rattle.isdb_mmt.proofs.Brief.{octets_take, octets_drop}
use Rattle.isdb_mmt.proofs.Lent.{length_over}
use Rattle.isdb_mmt.proofs.RecordRows.{length_rows, length_data}
use Rattle.isdb_mmt.proofs.SoundStays.{leaves_taken, leaves_same}
use Rattle.isdb_mmt.proofs.Checks.{sound_session}
use Rattle.isdb_mmt.proofs.SoundFits.{rows_read}
use Rattle.isdb_mmt.proofs.Accepted.{push_lent}
use Rattle.isdb_mmt.proofs.PacketLeaves.{taken}
use Rattle.isdb_mmt.proofs.Calls.{reply_number, demand_3}
use Rattle.isdb_mmt.specs.Memory.Refusals.{refusal_of}
use Rattle.isdb_mmt.proofs.Refusals.{asks_told}

-- ---- a buffer, the first `k` bytes of which are settled, and what the next one leaves of the rest

module _ (k : ℕ) (b y : Bytes) (m : ℕ) (h : k ≤ length b) where
  front : length (take k b) ≡ k
  front = length-take-le k b h

  settled : take (k + m) (take k b ++ y) ≡ take k b ++ take m y
  settled = ap (λ n. take (n + m) (take k b ++ y)) (sym front) ∙ take-append-add (take k b) y m

  left : drop (k + m) (take k b ++ y) ≡ drop m y
  left = ap (λ n. drop (n + m) (take k b ++ y)) (sym front) ∙ drop-append-add (take k b) y m

  within : m ≤ length y → k + m ≤ length (take k b ++ y)
  within q = rw (length-append (take k b) y) (omega (arith, front))

-- the output buffers keep their lengths
module _ (s : Session) (x : Input) (e : asks s x ≡ 0) where
  reply_within : (row_size * (reply_of s x).records ≤ length (reply_of s x).rows) × ((reply_of s x).bytes ≤ length (reply_of s x).out)
  unfolding reply_of needs
  reply_within =
      let rs = gives (view s) (packet_of x) in
      let f = (taken s x e).fits in
      let r : row_size * length rs ≤ length x.rows = f.records in
      let d : data_of rs ≤ length x.out = f.data_bytes in
      rw (eq-eqb (asks s x) 0 e) (
        rw (length_over 0 (rows_from 0 rs) x.rows (omega (arith, length_rows 0 rs))) r,
        rw (length_over 0 (data_from rs) x.out (omega (arith, length_data rs))) d,
      )

-- ---- from a run on

-- the output buffers have what was handed out
pub record Settled (c : Run) : Type 0 where
  pub rows : row_size * c.progress.records ≤ length c.rows
  pub out : c.progress.bytes ≤ length c.out

-- the run `c` came to the end `e`: `s'` is the session after its pushes, and `es` are their replies
pub record Came (c : Run) (e : Ran) (s' : Session) (es : List (Input × Reply)) : Type 0 where
  pub session : e.run.session ≡ s'
  pub rows : e.run.rows ≡ take (row_size * c.progress.records) c.rows ++ all_rows (drop (row_size * c.progress.records) c.rows) es
  pub out : e.run.out ≡ take c.progress.bytes c.out ++ all_data (drop c.progress.bytes c.out) es
  pub lines : e.run.lines ≡ all_lines c.progress.packets c.lines es
  pub packets : e.run.progress.packets ≡ c.progress.packets + length (accepted es)
  pub records : e.run.progress.records ≡ c.progress.records + record_count es
  pub bytes : e.run.progress.bytes ≡ c.progress.bytes + data_count es
  pub number : refusal e.halt ≡ refusals es

halts : (k : Cut) → refusal (halt_at k) ≡ []
halts (packet_here kind start n next) = refl
halts end_here = refl
halts short_here = refl
halts bad_here = refl

came_none : (c : Run) (h : Halt) → refusal h ≡ [] → Came c (ran c h) c.session []
unfolding all_rows all_data all_lines accepted record_count data_count refusals
came_none c h e =
    record {
      session = refl;
      rows = sym (take-append-drop (row_size * c.progress.records) c.rows);
      out = sym (take-append-drop c.progress.bytes c.out);
      lines = refl;
      packets = omega arith;
      records = omega arith;
      bytes = omega arith;
      number = e;
    }

module _ (c : Run) (p : TlvPacket) where
  abbrev x : Input
  x = input_at c p

  abbrev y : Reply
  y = reply_of c.session x

  refused_reply : eqb (asks c.session x) 0 ≡ false
      → y ≡ record { number = asks c.session x; records = 0; bytes = 0; rows = x.rows; out = x.out }
  unfolding reply_of
  refused_reply f = rw f

  came_refused : eqb (asks c.session x) 0 ≡ false → Came c (ran c (Refused (refusal_of (asks c.session x)))) c.session ((x, y) ∷ [])
  unfolding all_rows all_data all_lines accepted record_count data_count refusals
  came_refused f =
      rw (refused_reply f)
      (record {
        session = refl;
        rows = sym (take-append-drop (row_size * c.progress.records) c.rows);
        out = sym (take-append-drop c.progress.bytes c.out);
        lines = rw f;
        packets = rw f (omega arith);
        records = omega arith;
        bytes = omega arith;
        number = rw (f, asks_told c.session x f);
      })

  module _ (z : asks c.session x ≡ 0) (h : Settled c) where
    settled_on : Settled (after_packet c p y)
    settled_on =
        let q = reply_within c.session x z in
        let d : row_size * (c.progress.records + y.records) ≡ row_size * c.progress.records + row_size * y.records = omega arith in
        record {
          rows = rw d (within (row_size * c.progress.records) c.rows y.rows (row_size * y.records) h.rows q.0);
          out = within c.progress.bytes c.out y.out y.bytes h.out q.1;
        }

    came_on : (e : Ran) (s' : Session) (es : List (Input × Reply)) → Came (after_packet c p y) e s' es → Came c e s' ((x, y) ∷ es)
    unfolding all_rows all_data all_lines accepted record_count data_count refusals
    came_on e s' es w =
        let k = row_size * c.progress.records in
        let m = row_size * y.records in
        let d : row_size * (c.progress.records + y.records) ≡ k + m = omega arith in
        let r : e.run.rows ≡ take (k + m) (take k c.rows ++ y.rows) ++ all_rows (drop (k + m) (take k c.rows ++ y.rows)) es = rw d at w.rows in
        let n = reply_number c.session x in
        let t = eq-eqb (asks c.session x) 0 z in
        record {
          session = w.session;
          rows =
              r
              ∙ rw (settled k c.rows y.rows m h.rows, left k c.rows y.rows m h.rows)
              (append_assoc (take k c.rows) (take m y.rows) (all_rows (drop m y.rows) es));
          out =
              w.out
              ∙ rw (settled c.progress.bytes c.out y.out y.bytes h.out, left c.progress.bytes c.out y.out y.bytes h.out)
              (append_assoc (take c.progress.bytes c.out) (take y.bytes y.out) (all_data (drop y.bytes y.out) es));
          lines = rw (n, t) w.lines;
          packets = rw (n, t) (omega (arith, w.packets));
          records = omega (arith, w.records);
          bytes = omega (arith, w.bytes);
          number = rw (n, t) w.number;
        }

module _ (input : Bytes) (most : ℕ) where
  came : (c : Run) (ps : List TlvPacket) → Settled c
      → Came c (pushed_each input most c ps) (after decoder c.session (calls_over c ps)) (pushes decoder c.session (calls_over c ps))
  unfolding pushed_each calls_over after pushes
  came c [] h = came_none c (halt_at (cut_at input most c.progress.at)) (halts (cut_at input most c.progress.at))
  came c (p ∷ ps) h =
      either (ltb (length c.lines) (line_size * c.progress.packets + line_size)) (λ t. rw t (came_none c Full refl))
      (λ f.
      either (eqb (asks c.session (input_at c p)) 0)
      (λ t.
      let z = eqb-true (asks c.session (input_at c p)) 0 t in
      rw (f, t) (came_on c p z h _ _ _ (came (after_packet c p (reply_of c.session (input_at c p))) ps (settled_on c p z h))))
      (λ n. rw (f, n, leaves_same c.session (input_at c p) n) (came_refused c p n)))

module _ (s : Session) (b : Batch) where
  abbrev es : List (Input × Reply)
  es = pushes decoder s (calls_of s b)

  comes : Came (start_of s b) (end_of s b) (after decoder s (calls_of s b)) es
  comes = came b.input b.most (start_of s b) (packets_in b) (record { rows = omega arith; out = omega arith })

pub push_all_is_pushes : PushAllIsPushes
push_all_is_pushes s b a s' rows' out' lines' q =
    let w = comes s b in
    let e = q.one_by_one in
    record {
      session = ap (λ (r : Ran). r.run.session) e ∙ w.session;
      rows_are = ap (λ (r : Ran). r.run.rows) e ∙ w.rows;
      data_are = ap (λ (r : Ran). r.run.out) e ∙ w.out;
      lines_are = ap (λ (r : Ran). r.run.lines) e ∙ w.lines;
      packets = omega (arith, ap (λ (r : Ran). r.run.progress.packets) e, w.packets);
      records = omega (arith, ap (λ (r : Ran). r.run.progress.records) e, w.records);
      bytes = omega (arith, ap (λ (r : Ran). r.run.progress.bytes) e, w.bytes);
      number = ap (λ (r : Ran). refusal r.halt) e ∙ w.number;
    }

-- ---- the packets of bytes have bytes

abbrev EachBytes : List TlvPacket → Type 0
EachBytes [] = Unit {0}
EachBytes (p ∷ ps) = Octets p.bytes × EachBytes ps

module _ (input : Bytes) (most : ℕ) (o : Octets input) where
  abbrev from : ℕ → ℕ → Recording
  from = run (λ q. item input q (cut_at input most q)) (λ q. ends Clean)

  turn_bytes : (n at : ℕ) → ((q : ℕ) → EachBytes (from n q).packets) → (k : Cut) → EachBytes (turn (from n) (item input at k)).packets
  turn_bytes n at h (packet_here kind start len next) = (octets_take len (drop start input) (octets_drop start input o), h next)
  turn_bytes n at h end_here = tt
  turn_bytes n at h short_here = tt
  turn_bytes n at h bad_here = tt

  from_bytes : (n at : ℕ) → EachBytes (from n at).packets
  from_bytes zero at = tt
  from_bytes (suc n) at = turn_bytes n at (from_bytes n) (cut_at input most at)

  recording_bytes : EachBytes (recording_of input most).packets
  unfolding recording_of recording_from
  recording_bytes = from_bytes (suc (length input)) 0

calls_bytes : (c : Run) (ps : List TlvPacket) → EachBytes ps → AllBytes (calls_over c ps)
unfolding calls_over
calls_bytes c [] o = tt
calls_bytes c (p ∷ ps) o =
    either (ltb (length c.lines) (line_size * c.progress.packets + line_size)) (λ t. rw t tt)
    (λ f.
    either (eqb (asks c.session (input_at c p)) 0)
    (λ t. rw (f, t) (o.0, calls_bytes (after_packet c p (reply_of c.session (input_at c p))) ps o.1))
    (λ n. rw (f, n) (o.0, tt)))

-- ---- the records are read back off the buffers that the call leaves

-- a write to the start, before the same bytes and any others
over_own : (a r : Bytes) → over 0 a (a ++ r) ≡ a ++ r
unfolding over
over_own a r = ap (λ (z : Bytes). a ++ z) (drop-append_seam a r)

take_own : (a l : Bytes) (n : ℕ) → length a ≡ n → take n (over 0 a l) ≡ a
unfolding over
take_own a l n e = take_at a (drop (length a) l) n e

module _ (s : Session) (h : Lent s) (x : Input) (o : Octets x.bytes) (e : asks s x ≡ 0) (r q : Bytes) where
  reads_front :
      read_rows (reply_of s x).records (take (row_size * (reply_of s x).records) (reply_of s x).rows ++ r) (take (reply_of s x).bytes (reply_of s x).out ++ q)
      ≡ read_rows (reply_of s x).records (reply_of s x).rows (reply_of s x).out
  unfolding reply_of needs
  reads_front =
      let rs = gives (view s) (packet_of x) in
      let a = rows_from 0 rs in
      let d = data_from rs in
      let t = taken s x e in
      let back = rows_read s (sound_session s t.session) h x.kind x.bytes t.short o t.fits.object in
      let ea = take_own a x.rows (row_size * length rs) (length_rows 0 rs) in
      let ed = take_own d x.out (data_of rs) (length_data rs) in
      rw (eq-eqb (asks s x) 0 e)
      ((λ i. read_rows (length rs) (ea i ++ r) (ed i ++ q)) ∙ (λ i. read_rows (length rs) (sym (over_own a r) i) (sym (over_own d q) i))
      ∙ back (a ++ r) (d ++ q) ∙ sym (back x.rows x.out))

each_read : (c : Run) (ps : List TlvPacket) → Lent c.session → EachBytes ps → (r q : Bytes)
    → read_each (all_rows r (pushes decoder c.session (calls_over c ps))) (all_data q (pushes decoder c.session (calls_over c ps)))
    (pushes decoder c.session (calls_over c ps))
    ≡ handed (pushes decoder c.session (calls_over c ps))
unfolding calls_over pushes all_rows all_data read_each handed
each_read c [] h o r q = refl
each_read c (p ∷ ps) h o r q =
    let s = c.session in
    let x = input_at c p in
    either (ltb (length c.lines) (line_size * c.progress.packets + line_size)) (λ t. rw t)
    (λ f.
    either (eqb (asks s x) 0)
    (λ t.
    let z = eqb-true (asks s x) 0 t in
    let y = reply_of s x in
    let c' = after_packet c p y in
    let es = pushes decoder c'.session (calls_over c' ps) in
    let w = reply_within s x z in
    let l : Lent c'.session = rw (leaves_taken s x t) (push_lent s h x o.0 z) in
    let r' = all_rows (drop (row_size * y.records) y.rows) es in
    let q' = all_data (drop y.bytes y.out) es in
    let er = drop_at (take (row_size * y.records) y.rows) r' (row_size * y.records) (length-take-le (row_size * y.records) y.rows w.0) in
    let eq = drop_at (take y.bytes y.out) q' y.bytes (length-take-le y.bytes y.out w.1) in
    rw (f, t)
    ((λ i. reads_front s h x o.0 z r' q' i ++ read_each (er i) (eq i) es)
    ∙ ap (λ (v : List Rec). read_rows y.records y.rows y.out ++ v) (each_read c' ps l o.1 (drop (row_size * y.records) y.rows) (drop y.bytes y.out))))
    (λ n. rw (f, n, refused_reply c p n)))

pub records_handed_lem : RecordsHanded
records_handed_lem s b h o a s' rows' out' lines' q =
    let w = push_all_is_pushes s b a s' rows' out' lines' q in
    rw (w.rows_are, w.data_are) (each_read (start_of s b) (packets_in b) h (recording_bytes b.input b.most o) b.rows b.out)

-- ---- lists of calls of every sort

after_append : (s : Session) (cs ds : List Call) → after decoder s (cs ++ ds) ≡ after decoder (after decoder s cs) ds
unfolding after
after_append s [] ds = refl
after_append s (push x ∷ cs) ds = after_append (decoder.leaves s x) cs ds
after_append s (read r ∷ cs) ds = after_append s cs ds

bytes_append : (cs ds : List Call) → AllBytes cs → AllBytes ds → AllBytes (cs ++ ds)
bytes_append [] ds a b = b
bytes_append (push x ∷ cs) ds a b = (a.0, bytes_append cs ds a.1 b)
bytes_append (read r ∷ cs) ds a b = bytes_append cs ds a b

flat_after : (s : Session) (cs : List AnyCall) → after_any s cs ≡ after decoder s (flat s cs)
unfolding after_any flat after
flat_after s [] = refl
flat_after s (one (push x) ∷ cs) = flat_after (decoder.leaves s x) cs
flat_after s (one (read r) ∷ cs) = flat_after s cs
flat_after s (many b ∷ cs) =
    let s' = (end_of s b).run.session in
    flat_after s' cs ∙ ap (λ (z : Session). after decoder z (flat s' cs)) (comes s b).session ∙ sym (after_append s (calls_of s b) (flat s' cs))

flat_bytes : (s : Session) (cs : List AnyCall) → AnyBytes cs → AllBytes (flat s cs)
unfolding flat after
flat_bytes s [] o = tt
flat_bytes s (one (push x) ∷ cs) o = (o.0.0, flat_bytes (decoder.leaves s x) cs o.1)
flat_bytes s (one (read r) ∷ cs) o = flat_bytes s cs o.1
flat_bytes s (many b ∷ cs) o =
    bytes_append (calls_of s b) _ (calls_bytes (start_of s b) (packets_in b) (recording_bytes b.input b.most o.0))
    (flat_bytes (end_of s b).run.session cs o.1)

pub demand_3_with_many : Demand3WithMany
demand_3_with_many l s a h cs o =
    let s₀ = opened_session l s in
    record { session = flat_after s₀ cs; holds = demand_3 l s a h (flat s₀ cs) (flat_bytes s₀ cs o) }
