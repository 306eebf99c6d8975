-- A plain packet pushed: it is answered, committed and handed out as every media packet is. Assumes nothing.
use Rattle.std.specs.Prelude.{None, Option, Some, is_some, Result, Ok, ⊤}
use Rattle.std.proofs.Common.{◌≡◌, ℕ, ◌+◌, ◌-◌, ◌*◌, ◌≤◌, Bool, true, false, not, ◌&&◌, List, [], ◌∷◌, length, get_or, drop, sym, refl, ap, ◌∙◌, subst, arith, length-drop, w32, Fits, le-ltb, eq-eqb}
use Rattle.isdb_tlv.specs.Guards.{◌<?◌}
use Rattle.isdb_tlv.specs.Bytes.{be}
use Rattle.isdb_tlv.specs.Fields.{written}
use Rattle.isdb_tlv.specs.declared.mmtp.Header.{Header}
use Rattle.isdb_mmt.specs.Decoder.Packet.{Bytes, Packet, media, media_of, classify}
use Rattle.isdb_mmt.specs.Decoder.Maps.{one}
use Rattle.isdb_mmt.specs.Decoder.Objects.{Rec}
use Rattle.isdb_mmt.specs.Memory.Lent.{over}
use Rattle.isdb_mmt.specs.Formats.Part.{part_of}
use Rattle.isdb_mmt.specs.Formats.Mpu.{payload_header_fields, declared_of, units_of}
use Rattle.isdb_mmt.specs.Memory.Layout.{table_ids}
use Rattle.isdb_mmt.specs.Memory.Session.{Session, limits_of, counters_of, media_at}
use Rattle.isdb_mmt.specs.Memory.Check.{sound, lengths_of}
use Rattle.isdb_mmt.specs.Memory.Octets.{Octets, Lent}
use Rattle.isdb_mmt.specs.Memory.Opening.{lent}
use Rattle.isdb_mmt.specs.Pushes.Records.{object_for, row_size, row_fields, rows_from, data_from}
use Rattle.isdb_mmt.specs.Pushes.MediaPush.{no_object, media_place_for, MediaPushed}
use Rattle.isdb_mmt.specs.Pushes.MediaEffect.{object_or, complete_unit, with_unit, with_each_unit, units_effect}
use Rattle.isdb_mmt.specs.Pushes.MediaPlace.{gap_in, lost_in, begun, start_of, new_in, jump_in, first_mpu_of, adds_of, summed, stats_after, place_after_of}
use Rattle.isdb_mmt.specs.Pushes.MediaOutcome.{outcome_with, units_outcome, outcome_by, media_outcome}
use Rattle.isdb_mmt.specs.Pushes.Giving.{unit_rec, unit_recs, Gave}
use Rattle.isdb_mmt.specs.Pushes.MediaCommit.{place_in, passes_on, fits_number, number_of, accepted, answer_of, CanCommitAll, CanTake, Committed, state_after}
use Rattle.isdb_mmt.specs.Pushes.Push.{Input, input, PacketPushed, Pushed}
use Rattle.isdb_mmt.specs.Pushes.PushAllSteps.{MayBeKnown}
use Rattle.isdb_mmt.specs.Pushes.Plain.{payload_start, whole_unit, is_mpu, is_unit, unit_bytes, is_next, plain_header, next_of, NextAt, FreeHeader, CanStorePlain, CanPushUnit, WholeUnit, RoomForUnit, UnitPushed, CanTryPlain, PlainPushed}
use Rattle.isdb_mmt.specs.declared.mpu.PayloadHeader.{PayloadHeader}
use Rattle.isdb_mmt.specs.declared.decoder.limits.Limits.{Limits}
use Rattle.isdb_mmt.specs.declared.decoder.place.PlaceFor.TheVariants.{Own}
use Rattle.isdb_mmt.specs.declared.mpu.Unit.{Unit as DataUnit}
use Rattle.isdb_mmt.specs.declared.decoder.media.Object.{Object}
use Rattle.isdb_mmt.specs.declared.decoder.media.Media.{Media}
use Rattle.isdb_mmt.specs.declared.decoder.reassembler.MediaEffect.{MediaEffect}
use Rattle.isdb_mmt.specs.declared.decoder.reassembler.MediaOutcome.{MediaOutcome}
use Rattle.isdb_mmt.specs.Pushes.Answer.{Answer}
use Rattle.isdb_mmt.specs.declared.decoder.plain.Plain.{Plain}
use Rattle.isdb_mmt.specs.declared.decoder.plain.Plain.TheVariants.{No, Yes, Grown}
use Rattle.isdb_mmt.proofs.Guards.{yes}
use Rattle.isdb_mmt.proofs.Names.{true_not_false}
use Rattle.isdb_mmt.proofs.Checks.{sound_session, is_sound}
use Rattle.isdb_mmt.proofs.MediaCommits.{one_row, one_data, can_take, complete_done, commit_taken}
use Rattle.isdb_mmt.proofs.MediaPushes.{can_all, pushed_yes}
use Rattle.isdb_mmt.proofs.Taking.{media_pushed}
use Rattle.isdb_mmt.proofs.Pushing.{push_taken}
use Rattle.isdb_mmt.proofs.PlainTests.{mpu_facts, plain_media, unit_facts, unit_header, whole_facts, declared_long, unit_there, unit_here, one_unit, unit_data, unit_length, header_at, NextFacts, next_facts, own_id}
use Rattle.isdb_mmt.specs.Memory.Lending.{session_asked}
use Rattle.isdb_mmt.specs.declared.decoder.refusal.Refusal.{Refusal}
use Rattle.isdb_mmt.proofs.ReadSteps.{was_sound}

-- ---- what it does to its place

start_free : (m : Media) (n : ℕ) → m.held ≡ false → start_of m n ≡ begun None 0
unfolding start_of
start_free m n e = rw e

module _ (m : Media) (n mpu : ℕ) (next : is_next m n mpu ≡ true) (x : PayloadHeader) (ex : x.mpu_sequence_number ≡ mpu) where
  abbrev facts : NextFacts m n mpu
  facts = next_facts m n mpu next

  none_lost : lost_in m n ≡ 0
  unfolding lost_in gap_in
  none_lost = rw (facts.seen, facts.follows_on)

  none_new : new_in m (Some x) ≡ false
  unfolding new_in
  none_new = rw (facts.mpu_seen, eq-eqb x.mpu_sequence_number m.mpu (ex ∙ sym facts.same))

  no_jump : jump_in m (Some x) ≡ false
  unfolding jump_in
  no_jump = rw (facts.mpu_seen, eq-eqb x.mpu_sequence_number m.mpu (ex ∙ sym facts.same))

  first_is : first_mpu_of m (Some x) ≡ m.first_mpu
  unfolding first_mpu_of
  first_is = rw facts.mpu_seen

  pub more : (a b : ℕ) → b ≡ 0 → a + b ≡ a
  more a b e = omega arith

  -- what it leaves, with what it did to the object and how many units it handed out
  module _ (t : MediaEffect) (d : t.drops ≡ 0) (held : Bool) (eh : is_some t.object ≡ held) (o : Object) (eo : object_or t.object ≡ o) (units : ℕ) (eu : m.stats.mfus + t.records ≡ units) where
    pub place_with : place_after_of m.packet_id m n false (Some x) false t
        ≡ record {
          packet_id = m.packet_id;
          seen = true;
          sequence = n;
          mpu_seen = true;
          mpu = m.mpu;
          first_mpu = m.first_mpu;
          held = held;
          object = o;
          stats =
              record {
                packets = m.stats.packets + 1;
                packets_lost = m.stats.packets_lost;
                scrambled_packets = m.stats.scrambled_packets;
                mfus = units;
                scrambled_mfus = m.stats.scrambled_mfus;
                mfus_dropped = m.stats.mfus_dropped;
                mpus = m.stats.mpus;
                mpu_sequence_jumps = m.stats.mpu_sequence_jumps;
                malformed = m.stats.malformed;
              };
        }
    unfolding place_after_of stats_after summed adds_of
    place_with =
        λ i.
        record {
          packet_id = m.packet_id;
          seen = true;
          sequence = n;
          mpu_seen = true;
          mpu = (ex ∙ sym facts.same) i;
          first_mpu = first_is i;
          held = eh i;
          object = eo i;
          stats =
              record {
                packets = m.stats.packets + 1;
                packets_lost = more m.stats.packets_lost (lost_in m n) none_lost i;
                scrambled_packets = more m.stats.scrambled_packets 0 refl i;
                mfus = eu i;
                scrambled_mfus = more m.stats.scrambled_mfus 0 refl i;
                mfus_dropped = more m.stats.mfus_dropped t.drops d i;
                mpus = more m.stats.mpus (one (new_in m (Some x))) (ap one none_new) i;
                mpu_sequence_jumps = more m.stats.mpu_sequence_jumps (one (jump_in m (Some x))) (ap one no_jump) i;
                malformed = more m.stats.malformed 0 refl i;
              };
        }

-- ---- the payload

-- a clear payload is not passed on
pub not_on : (pass : Bool) → pass && false ≡ false
not_on true = refl
not_on false = refl

-- the answers
abbrev pub is_left : Plain → Bool
is_left No = true
is_left (Yes n) = false
is_left Grown = false

abbrev pub is_grown : Plain → Bool
is_grown No = false
is_grown (Yes n) = false
is_grown Grown = true

abbrev bytes_taken : Plain → ℕ
bytes_taken No = 0
bytes_taken (Yes n) = n
bytes_taken Grown = 0

pub unit_left : (s : Session) (h : Header) (b rows out : Bytes) → UnitPushed s h b rows out No s rows out
unit_left s h b rows out =
    record { same = λ e. (refl, (refl, refl)); taken = λ n e. true_not_false true refl (ap is_left e); grown = λ e. true_not_false true refl (ap is_left e) }

pub plain_left : (s : Session) (x : Input) → PlainPushed s x No s x.rows x.out
plain_left s x =
    record { same = λ e. (refl, (refl, refl)); taken = λ n e. true_not_false true refl (ap is_left e); grown = λ e. true_not_false true refl (ap is_left e) }

-- the code that comes so far
module _ (st ot ob me ta : List ℕ) (h : Header) (b rows out : Bytes) (can : CanPushUnit whole_unit (lent st ot ob me ta) h b)
    (row : row_size ≤ length rows) (k : ℕ) (ek : k ≡ be 2 b 0) (room : k - 20 ≤ length out)
    (mpu : ℕ) (em : mpu ≡ be 4 b 4) (f : Option ℕ) (w : NextAt st h.packet_id h.sequence mpu f) (i : ℕ) (ef : f ≡ Some i)
    (hd : Option PayloadHeader) (ehd : FreeHeader st i b hd) (x : PayloadHeader) (exd : hd ≡ Some x) where
  place : NextAt st h.packet_id h.sequence mpu (Some i)
  place = rw ef at w

  header : FreeHeader st i b (Some x)
  header = rw exd at ehd

  pub whole_unit_lem : WholeUnit (lent st ot ob me ta) h b rows out i x
  whole_unit_lem =
      record {
        can = can;
        own = place.0;
        next = ap (λ v. is_next (media_at st i) h.sequence v) (sym em) ∙ place.1.0;
        free = header.0;
        header = header.1;
        row = row;
        room = rw ek at room;
      }

  pub unit_told_lem : (s' : Session) (rows' out' : Bytes) → MediaPushed (lent st ot ob me ta) rows out (media_of h b) 0 1 (unit_bytes b) s' rows' out'
      → UnitPushed (lent st ot ob me ta) h b rows out (Yes (k - 20)) s' rows' out'
  unit_told_lem s' rows' out' p =
      record {
        same = λ e. true_not_false false (ap is_left e) refl;
        grown = λ e. true_not_false false (ap is_grown e) refl;
        taken = λ n e. subst (λ v. MediaPushed (lent st ot ob me ta) rows out (media_of h b) 0 1 v s' rows' out') (ap (λ v. v - 20) (sym ek) ∙ ap bytes_taken e) p;
      }

module _ (st ot ob me ta : List ℕ) (h : Header) (b rows out : Bytes) (i : ℕ) (x : PayloadHeader) (whole : WholeUnit (lent st ot ob me ta) h b rows out i x) where
  abbrev can : CanPushUnit whole_unit (lent st ot ob me ta) h b
  can = whole.can

  abbrev k : ℕ
  k = be 2 b 0

  abbrev m : Media
  m = media_at st i

  abbrev r : MediaOutcome
  r = media_outcome m h.sequence h.scramble_info h.rap b

  header_is : Some x ≡ Some (payload_header_fields b)
  header_is = sym whole.header ∙ unit_header whole_unit b can.unit

  x_is : x ≡ payload_header_fields b
  x_is = ap (λ (y : Option PayloadHeader). header_given y) header_is
    where
      header_given : Option PayloadHeader → PayloadHeader
      header_given None = payload_header_fields b
      header_given (Some y) = y

  abbrev y : PayloadHeader
  y = payload_header_fields b

  long : 22 ≤ length (declared_of b)
  long = unit_there whole_unit b can.unit

  abbrev t : MediaEffect
  t = complete_unit (begun None 0) (unit_here (declared_of b) long).«data» (length (part_of (declared_of b) (unit_here (declared_of b) long).«data»))

  outcome_here : r ≡ outcome_with false true (Some y) t
  unfolding media_outcome outcome_by units_outcome units_effect with_each_unit with_unit
  outcome_here =
      let g = whole_facts b can.unit in
      rw (start_free m h.sequence whole.free, can.clear, unit_header whole_unit b can.unit, g.kind, g.division, g.timed, g.single, one_unit (declared_of b) long)

  data_long : length (part_of (declared_of b) (unit_here (declared_of b) long).«data») ≡ k - 20
  data_long = unit_length (declared_of b) long ∙ omega (arith, declared_long whole_unit b can.unit)

  abbrev l : Limits
  l = limits_of st

  abbrev a : Answer
  a = answer_of (Own i) l h.scramble_info r (length b) (length rows) (length out)

  answer_is : a ≡ accepted 1 (k - 20)
  unfolding answer_of passes_on number_of fits_number complete_unit
  answer_is =
      let z : 0 + (0 + (k - 20)) ≡ k - 20 = omega arith in
      rw (outcome_here, can.clear, not_on l.pass_scrambled, data_long, z, le-ltb l.mfu_area 0 (omega arith), le-ltb (length rows) 36 whole.row, le-ltb (length out) (k - 20) whole.room)

  zero_is : a.number ≡ 0
  zero_is = ap (λ (z : Answer). z.number) answer_is

  own : Own i ≡ media_place_for st h.packet_id
  own = sym whole.own

  place_here : m ≡ place_in st (Own i)
  unfolding place_in
  place_here = refl

  abbrev can_all_lem : CanCommitAll l (Own i) m r h b st ob rows out
  can_all_lem = can_all st ot ob me ta h b rows out can.can l refl (Own i) own m place_here r refl a refl zero_is

  abbrev can_take_lem : CanTake y (i * l.mfu_area) m r h b ob rows out
  can_take_lem = can_take (i * l.mfu_area) l.pass_scrambled m r h b ob rows out can_all_lem.commit y (ap (λ (z : MediaOutcome). z.header) outcome_here) (ap (λ (z : MediaOutcome). z.taken) outcome_here)

  module _ (q : Bytes) (eq : q ≡ declared_of b) where
    pub can_give : RoomForUnit q rows out
    can_give =
        let n = declared_long whole_unit b can.unit in
        rw eq (record {
          long = long;
          short = omega (arith, n, (unit_facts whole_unit b can.unit).there, can.can.long);
          row = whole.row;
          room = omega (arith, n, whole.room);
        })

    pub can_store : CanStorePlain st i
    can_store =
        record {
          long = can_all_lem.store.long;
          index = can_all_lem.store.index;
          modest = can_all_lem.modest;
          packets = can_all_lem.store.packets;
        }

    id_is : m.packet_id ≡ h.packet_id
    id_is = own_id st h.packet_id i whole.own

    after_is : place_after_of h.packet_id m h.sequence h.scramble_info r.header r.bad r.units ≡ next_of m h.sequence
    unfolding complete_unit next_of
    after_is =
        rw (outcome_here, can.clear, ← id_is)
        (place_with m h.sequence (be 4 b 4) whole.next y (whole_facts b can.unit).mpu t refl false refl no_object refl (m.stats.mfus + 1) refl)

    pub unit_pushed : (rows' out' : Bytes) → Gave q true false h.packet_id x.mpu_sequence_number h.rap rows out rows' out'
        → (st' : List ℕ) → st' ≡ state_after st (next_of (media_at st i) h.sequence) (Own i)
        → MediaPushed (lent st ot ob me ta) rows out (media_of h b) 0 1 (unit_bytes b) (lent st' ot ob me ta) rows' out'
    unit_pushed rows' out' g st' es =
        let done : Committed (i * l.mfu_area) l.pass_scrambled m h b ob rows out ob rows' out' =
        commit_taken (i * l.mfu_area) l.pass_scrambled m r h b ob rows out can_all_lem.commit y (ap (λ (z : MediaOutcome). z.header) outcome_here) (ap (λ (z : MediaOutcome). z.taken) outcome_here) ob rows' out'
        (complete_done y (i * l.mfu_area) m r h b ob rows out can_take_lem (whole_facts b can.unit).division q eq rows' out' (rw ((whole_facts b can.unit).timed, (whole_facts b can.unit).single) (rw x_is at g))) in
        rw answer_is at
        (pushed_yes st ot ob me ta h b rows out can.can l refl (Own i) own m place_here r refl a refl zero_is st' ob rows' out'
        (record { commit = done; store = es ∙ ap (λ (z : Media). state_after st z (Own i)) (sym after_is) }))

-- ---- its record

module _ (q rows out : Bytes) (can : RoomForUnit q rows out) (mpu id : ℕ) (rap : Bool) where
  abbrev unit : DataUnit
  unit = unit_here q can.long

  abbrev rec : Rec
  rec = unit_rec id mpu rap q unit

  recs_are : unit_recs id mpu rap q (units_of q true false) ≡ rec ∷ []
  unfolding unit_recs
  recs_are = ap (unit_recs id mpu rap q) (one_unit q can.long)

  module _ (d : Bytes) (ed : d ≡ drop 22 q) where
    pub length_cast : Fits w32 (length d)
    length_cast = record { fits = omega (arith, ap length ed, length-drop 22 q, can.short) }

    pub data_there : 0 + length d ≤ length out
    data_there = omega (arith, ap length ed, length-drop 22 q, can.room)

    -- the object that a row tells of, with the numbers of the unit's header
    abbrev told : ℕ → ℕ → ℕ → Object
    told a b c =
        record {
          mpu_sequence_number = mpu;
          rap = rap;
          timed = true;
          header =
              record {
                movie_fragment_sequence_number = a;
                sample_number = b;
                offset = c;
                priority = get_or q 20 0;
                dependency_counter = get_or q 21 0;
              };
          item = false;
          item_id = 0;
          length = length d;
        }

    data_is : d ≡ rec.mfu.bytes
    data_is = ed ∙ sym (unit_data q can.long)

    gave_unit : (rows' out' : Bytes)
        → rows' ≡ over 0 (written (row_fields id false (told (be 4 q 8) (be 4 q 12) (be 4 q 16)) 0)) rows
        → out' ≡ over 0 d out → Gave q true false id mpu rap rows out rows' out'
    gave_unit rows' out' er eo =
        let o : object_for rec.mfu ≡ told (be 4 q 8) (be 4 q 12) (be 4 q 16) =
        λ i. record { mpu_sequence_number = mpu; rap = rap; timed = true; header = header_at q can.long i; item = false; item_id = 0; length = length (sym data_is i) } in
        record {
          rows_are = er ∙ ap (λ (z : Object). over 0 (written (row_fields id false z 0)) rows) (sym o)
              ∙ ap (λ (z : Bytes). over 0 z rows) (sym (one_row rec)) ∙ ap (λ (z : List Rec). over 0 (rows_from 0 z) rows) (sym recs_are);
          data_are = eo ∙ ap (λ (z : Bytes). over 0 z out) (data_is ∙ sym (one_data rec)) ∙ ap (λ (z : List Rec). over 0 (data_from z) out) (sym recs_are);
        }

    pub gave_read : (a b c : ℕ) → a ≡ be 4 q 8 → b ≡ be 4 q 12 → c ≡ be 4 q 16 → (rows' out' : Bytes)
        → rows' ≡ over 0 (written (row_fields id false (told a b c) 0)) rows
        → out' ≡ over 0 d out → Gave q true false id mpu rap rows out rows' out'
    gave_read a b c ea eb ec rows' out' er eo = gave_unit rows' out' (rw (ea, eb, ec) at er) eo

-- ---- the packet

module _ (kind : ℕ) (b : Bytes) (r : Bool) (er : r ≡ is_mpu kind b) (yes-mpu : not r ≡ false) where
  is_mpu_lem : is_mpu kind b ≡ true
  is_mpu_lem = yes er yes-mpu

  pub long_packet : payload_start ≤ length b
  long_packet = (mpu_facts kind b is_mpu_lem).long

  module _ (st ot ob me ta : List ℕ) (can : CanTryPlain (lent st ot ob me ta)) (short : length b ≤ 65535) (p : Bytes) (ep : p ≡ drop payload_start b)
      (h : Header) (eh : h ≡ plain_header b) where
    abbrev s : Session
    s = lent st ot ob me ta

    pub can_unit : (flags : ℕ) (u : Bool) → u ≡ is_unit flags p → u ≡ true → CanPushUnit flags s h p
    can_unit flags u eu yes-unit =
        record {
          can = record { sound = can.session; long = omega (arith, ap length ep, length-drop payload_start b, short) };
          clear = ap (λ (x : Header). x.scramble_info) eh;
          unit = sym eu ∙ yes-unit;
        }

    abbrev x : Bytes → Bytes → Input
    x rows out = input kind b rows out

    packet_is : classify kind b ≡ media (media_of h p)
    packet_is =
        plain_media kind b (mpu_facts kind b is_mpu_lem)
        ∙ ap (λ (y : Header). media (media_of y (drop payload_start b))) (sym eh) ∙ ap (λ (y : Bytes). media (media_of h y)) (sym ep)

    sound_here : sound s ≡ true
    unfolding sound
    sound_here = is_sound st ot (lengths_of s) can.session

    pub plain_pushed : (may : Bool) → may ≡ ((counters_of st).tlv_packets <? (limits_of st).packets) → not may ≡ false → Octets b
        → (rows out : Bytes) (t : Plain) (s' : Session) (rows' out' : Bytes) → UnitPushed s h p rows out t s' rows' out'
        → PlainPushed s (x rows out) t s' rows' out'
    plain_pushed may em yes-may o rows out t s' rows' out' w =
        record {
          same = w.same;
          taken = λ n e. whole_packet 1 n (w.taken n e);
          grown = λ e. whole_packet 0 0 (w.grown e);
        }
      where
        whole_packet : (records bytes : ℕ) → MediaPushed s rows out (media_of h p) 0 records bytes s' rows' out'
            → Pushed s (x rows out) 0 records bytes s' rows' out'
        whole_packet records bytes m =
            push_taken s (x rows out) sound_here short may em yes-may can.lent o 0 records bytes s' rows' out'
            (subst (λ (y : Packet). PacketPushed s rows out y 0 records bytes s' rows' out') (sym packet_is)
            (media_pushed s can.session rows out (media_of h p) 0 records bytes s' rows' out' m))

-- ---- the call

module _ (s : Session) where
  can_with : length s.others ≡ table_ids → sound s ≡ true → Lent s → CanTryPlain s
  can_with n e o = record { session = sound_session s e; others_long = n; lent = o }

  pub can_try_known : (known : Bool) → MayBeKnown known s → not known ≡ false → Lent s → CanTryPlain s
  can_try_known known may e o = can_with may.others (may.session (yes refl e)) o

  pub can_try_asked : length s.others ≡ table_ids → (r : Result ⊤ Refusal) → r ≡ session_asked s → (u : ⊤) → r ≡ Ok u → Lent s → CanTryPlain s
  can_try_asked n r er u e o = can_with n (was_sound s r er u e) o

  module _ (kind : ℕ) (b rows out : Bytes) (t : Plain) (s' : Session) (rows' out' : Bytes) (w : PlainPushed s (input kind b rows out) t s' rows' out') where
    pub plain_taken : (n : ℕ) → t ≡ Yes n → (a : Answer) → a ≡ accepted 1 n → Pushed s (input kind b rows out) a.number a.records a.bytes s' rows' out'
    plain_taken n e a ea = rw ea (w.taken n e)

    pub plain_grown : t ≡ Grown → (a : Answer) → a ≡ accepted 0 0 → Pushed s (input kind b rows out) a.number a.records a.bytes s' rows' out'
    plain_grown e a ea = rw ea (w.grown e)

    module _ (no_plain : t ≡ No) where
      as_before : (s' ≡ s) × ((rows' ≡ rows) × (out' ≡ out))
      as_before = w.same no_plain

      still : sound s ≡ true → length s.others ≡ table_ids → MayBeKnown true s'
      still e n = record { others = ap (λ (y : Session). length y.others) as_before.0 ∙ n; session = λ z. ap sound as_before.0 ∙ e }

      pub still_known : (known : Bool) → MayBeKnown known s → not known ≡ false → MayBeKnown true s'
      still_known known may e = still (may.session (yes refl e)) may.others

      pub still_asked : length s.others ≡ table_ids → (r : Result ⊤ Refusal) → r ≡ session_asked s → (u : ⊤) → r ≡ Ok u → MayBeKnown true s'
      still_asked n r er u e = still (was_sound s r er u e) n

      pub then_pushed : (n k l : ℕ) (s'' : Session) (rows'' out'' : Bytes) → Pushed s' (input kind b rows' out') n k l s'' rows'' out''
          → Pushed s (input kind b rows out) n k l s'' rows'' out''
      then_pushed n k l s'' rows'' out'' p = rw (as_before.0, as_before.1.0, as_before.1.1) at p
