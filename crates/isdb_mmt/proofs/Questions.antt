-- Questions 8 to 10, from what a packet needs. Assumes nothing.
use Rattle.std.proofs.Common.{◌≡◌, ℕ, ◌+◌, ◌*◌, ◌≤◌, Bool, true, false, cond, not, ltb, leb, [], length, sym, refl, ◌∙◌, arith, ltb-false, ltb-true, le-leb}
use borrow.Author.Tests.{lt-leb}
use Rattle.isdb_tlv.proofs.Guards.{either}
use Rattle.isdb_mmt.specs.Decoder.Packet.{Bytes, MpuPacket, Packet, media}
use Rattle.isdb_mmt.specs.Decoder.Model.{pushed, gives}
use Rattle.isdb_mmt.specs.Decoder.Needs.{Needs, needs}
use Rattle.isdb_mmt.specs.Memory.Session.{Session, limits_of, used_of}
use Rattle.isdb_mmt.specs.Memory.Check.{lengths_of, Sound}
use Rattle.isdb_mmt.specs.Memory.View.{view}
use Rattle.isdb_mmt.specs.Pushes.Records.{row_size, rows_from, data_from}
use Rattle.isdb_mmt.specs.Pushes.MediaPush.{media_asks}
use Rattle.isdb_mmt.specs.Pushes.Push.{has_places, has_areas, has_outputs, asks_of, Fits, PacketPushed, QuietPushed}
use Rattle.isdb_mmt.specs.declared.decoder.limits.Limits.{Limits}
use Rattle.isdb_mmt.proofs.Lent.{over_none}

-- every question is answered yes
pub asks_zero : (s : Session) (rows out : ℕ) (p : Packet) → Fits s rows out p → asks_of s rows out p ≡ 0
unfolding asks_of has_places has_areas has_outputs
asks_zero s rows out p f =
    rw (
      le-leb _ _ f.media,
      le-leb _ _ f.controls,
      le-leb _ _ f.sections,
      le-leb _ _ f.object,
      le-leb _ _ f.message,
      le-leb _ _ f.table,
      le-leb _ _ f.records,
      le-leb _ _ f.data_bytes,
    )

-- the first that is not
pub asks_places : (s : Session) (rows out : ℕ) (p : Packet) → has_places (limits_of s.state) (used_of s.state) (needs (view s) p) ≡ false
    → asks_of s rows out p ≡ 8
unfolding asks_of
asks_places s rows out p e = rw e

pub asks_areas : (s : Session) (rows out : ℕ) (p : Packet) → has_places (limits_of s.state) (used_of s.state) (needs (view s) p) ≡ true
    → has_areas (limits_of s.state) (needs (view s) p) ≡ false → asks_of s rows out p ≡ 9
unfolding asks_of
asks_areas s rows out p a e = rw (a, e)

-- ---- packets that hand nothing out need no outputs

module _ (s : Session) (p : Packet) (none_given : gives (view s) p ≡ []) where
  quiet_outputs : (rows out : ℕ) → has_outputs rows out (needs (view s) p) ≡ true
  unfolding has_outputs needs
  quiet_outputs rows out = rw (none_given, le-leb 0 rows (omega arith), le-leb 0 out (omega arith))

  pub quiet_asks : (rows out : ℕ) → asks_of s rows out p ≡ asks_of s 0 0 p
  unfolding asks_of
  quiet_asks rows out = rw (quiet_outputs rows out, quiet_outputs 0 0)

  no_records : (needs (view s) p).records ≡ 0
  unfolding needs
  no_records = rw none_given

  no_bytes : (needs (view s) p).data_bytes ≡ 0
  unfolding needs
  no_bytes = rw none_given

  pub quiet_pushed : (rows out : Bytes) (r : ℕ) (s' : Session) → QuietPushed s p r s' → PacketPushed s rows out p r 0 0 s' rows out
  unfolding rows_from data_from
  quiet_pushed rows out r s' q =
      record {
        number = q.number ∙ sym (quiet_asks (length rows) (length out));
        same = q.same;
        kept = λ n. (refl, refl);
        nothing = λ n. (refl, refl);
        session = q.session;
        rows_are = λ z. rw none_given (sym (over_none 0 rows));
        data_are = λ z. rw none_given (sym (over_none 0 out));
        counts = λ z. (sym no_records, sym no_bytes);
      }

-- ---- a media packet needs places and areas of its own sort alone

not_above : (a b : ℕ) → ltb b a ≡ not (leb a b)
not_above a b =
    either (ltb b a) (λ t. rw (t, lt-leb a b (ltb-true b a t))) (λ f. rw (f, le-leb a b (ltb-false b a f)))

-- of the questions, the four that a media packet can fail
four : (a d r o : Bool)
    → ◌≡◌ {A = ℕ} (cond (not a) 8 (cond (not d) 9 (cond (not r) 10 (cond (not o) 10 0))))
    (cond (not (cond (not a) false (cond (not true) false true))) 8
    (cond (not (cond (not d) false (cond (not true) false true))) 9 (cond (not (cond (not r) false o)) 10 0)))
four false d r o = refl
four true false r o = refl
four true true false o = refl
four true true true false = refl
four true true true true = refl

module _ (s : Session) (ok : Sound s.state s.others (lengths_of s)) (m : MpuPacket) where
  abbrev l : Limits
  l = limits_of s.state

  abbrev n : Needs
  n = needs (view s) (media m)

  control_places_lem : leb ((used_of s.state).control_ids + n.control_ids) l.control_ids ≡ true
  unfolding needs pushed
  control_places_lem = let h : (used_of s.state).control_ids + n.control_ids ≤ l.control_ids = omega (arith, ok.controls) in le-leb _ _ h

  section_places_lem : leb ((used_of s.state).sections + n.sections) l.sections ≡ true
  unfolding needs pushed
  section_places_lem = let h : (used_of s.state).sections + n.sections ≤ l.sections = omega (arith, ok.sections) in le-leb _ _ h

  no_message_lem : leb n.message l.message_area ≡ true
  unfolding needs
  no_message_lem = le-leb 0 l.message_area (omega arith)

  no_table : leb n.table l.table_area ≡ true
  unfolding needs
  no_table = le-leb 0 l.table_area (omega arith)

  pub media_asks_lem : (rows out : ℕ) → media_asks s rows out m ≡ asks_of s rows out (media m)
  unfolding media_asks asks_of has_places has_areas has_outputs
  media_asks_lem rows out =
      let a : Bool = leb ((used_of s.state).media_ids + n.media_ids) l.media_ids in
      let d : Bool = leb n.object l.mfu_area in
      let r : Bool = leb (row_size * n.records) rows in
      let o : Bool = leb n.data_bytes out in
      let e : ◌≡◌ {A = ℕ} (media_asks s rows out m) (cond (not a) 8 (cond (not d) 9 (cond (not r) 10 (cond (not o) 10 0)))) =
      rw (
        not_above ((used_of s.state).media_ids + n.media_ids) l.media_ids,
        not_above n.object l.mfu_area,
        not_above (row_size * n.records) rows,
        not_above n.data_bytes out,
      ) in
      let b = sym control_places_lem in
      let c = sym section_places_lem in
      let g = sym no_message_lem in
      let t = sym no_table in
      e ∙ four a d r o
      ∙ (λ i.
      cond (not (cond (not a) false (cond (not (b i)) false (c i)))) 8
      (cond (not (cond (not d) false (cond (not (g i)) false (t i)))) 9 (cond (not (cond (not r) false o)) 10 0)))
