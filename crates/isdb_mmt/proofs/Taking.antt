-- A packet that is taken, arm by arm: what each arm leaves and answers is what is asked of the packet. Assumes nothing.
use Rattle.std.specs.Prelude.{None, Some, Option}
use Rattle.std.proofs.Common.{◌≡◌, ℕ, List, [], map, length, take, drop, sym, refl, ap, ◌∙◌, subst, arith, length-drop}
use Rattle.isdb_tlv.specs.Tlv.{packet_type}
use Rattle.isdb_tlv.specs.Mmtp.{mmtp_of}
use Rattle.isdb_tlv.specs.Si.{sections_of}
use Rattle.isdb_tlv.specs.declared.mmtp.PayloadType.TheVariants.{Mpu, GenericObject, Messages, FecRepair, Reserved}
use Rattle.isdb_tlv.specs.declared.mmtp.Header.{Header}
use Rattle.isdb_tlv.specs.declared.mmtp.Packet.{Packet as MmtpPacket}
use Rattle.isdb_mmt.specs.Decoder.Packet.{Bytes, MpuPacket, Packet, ip_error, ntp, non_mmtp_of, media, message, control, other, classify, mmtp_in, media_of, by_type, message_packet}
use Rattle.isdb_mmt.specs.Decoder.Model.{packet_counted, pushed, gives}
use Rattle.isdb_mmt.specs.Decoder.Needs.{needs}
use Rattle.isdb_mmt.specs.Memory.Session.{Session, counters_of}
use Rattle.isdb_mmt.specs.Memory.Check.{lengths_of, Sound}
use Rattle.isdb_mmt.specs.Memory.View.{view_by, view}
use Rattle.isdb_mmt.specs.Memory.Opening.{lent}
use Rattle.isdb_mmt.specs.Pushes.Counted.{StateCountable}
use Rattle.isdb_mmt.specs.Pushes.Leaves.{with_counters, with_time, packet_leaves}
use Rattle.isdb_mmt.specs.Pushes.Route.{route_of, routed, time_in, time_given}
use Rattle.isdb_mmt.specs.Pushes.MediaPush.{MediaPushed}
use Rattle.isdb_mmt.specs.Pushes.MediaCommit.{CanPushMedia}
use Rattle.isdb_mmt.specs.Pushes.Push.{Fits, asks_of, PacketPushed, QuietPushed, CanTakePacket}
use Rattle.isdb_mmt.specs.Pushes.Answer.{Answer}
use Rattle.isdb_mmt.specs.declared.decoder.route.Route.{Route}
use Rattle.isdb_mmt.proofs.Counting.{state_countable}
use Rattle.isdb_mmt.proofs.Questions.{asks_zero, quiet_pushed, media_asks_lem}
use Rattle.isdb_mmt.proofs.Routes.{route_is}

-- ---- packets that are only counted

module _ (s : Session) (ok : Sound s.state s.others (lengths_of s)) where
  -- no place, no area, no output
  fits_other : Fits s 0 0 other
  unfolding needs pushed gives
  fits_other =
      record {
        media = omega (arith, ok.media);
        controls = omega (arith, ok.controls);
        sections = omega (arith, ok.sections);
        object = omega arith;
        message = omega arith;
        table = omega arith;
        records = omega arith;
        data_bytes = omega arith;
      }

  abbrev after : List ℕ → Session
  after l = lent l s.others s.objects s.messages s.tables

  abbrev counts : ℕ → ℕ → ℕ → List ℕ → List ℕ
  counts ip non time l = with_counters (packet_counted (counters_of s.state) ip non time) l

  -- so with every packet that needs as little
  accepted : (p : Packet) → needs (view s) p ≡ needs (view s) other → (s' : Session) → s' ≡ packet_leaves s p → QuietPushed s p 0 s'
  unfolding asks_of
  accepted p f s' e = record { number = sym (rw f (asks_zero s 0 0 other fits_other)); same = λ n. absurd (n refl); session = λ z. e }

  pub quiet_ip : (l : List ℕ) → l ≡ counts 1 0 0 s.state → QuietPushed s ip_error 0 (after l)
  unfolding packet_leaves needs pushed gives view view_by
  quiet_ip l e = accepted ip_error refl (after l) (ap after e)

  pub quiet_non : (l : List ℕ) → l ≡ counts 0 1 0 s.state → QuietPushed s non_mmtp_of 0 (after l)
  unfolding packet_leaves needs pushed gives view view_by
  quiet_non l e = accepted non_mmtp_of refl (after l) (ap after e)

  pub quiet_other : (l : List ℕ) → l ≡ counts 0 0 0 s.state → QuietPushed s other 0 (after l)
  unfolding packet_leaves pushed view view_by
  quiet_other l e = accepted other refl (after l) (ap after e)

  pub quiet_time : (t : Option ℕ) (l : List ℕ) → l ≡ counts 0 0 1 (with_time t s.state) → QuietPushed s (ntp t) 0 (after l)
  unfolding packet_leaves needs pushed gives view view_by
  quiet_time t l e = accepted (ntp t) refl (after l) (ap after e)

-- ---- a media packet

pub media_pushed : (s : Session) → Sound s.state s.others (lengths_of s) → (rows out : Bytes) (m : MpuPacket) (r k n : ℕ) (s' : Session) (rows' out' : Bytes)
    → MediaPushed s rows out m r k n s' rows' out' → PacketPushed s rows out (media m) r k n s' rows' out'
unfolding packet_leaves
media_pushed s ok rows out m r k n s' rows' out' h =
    record {
      number = h.number ∙ media_asks_lem s ok m (length rows) (length out);
      same = h.same;
      kept = h.kept;
      nothing = h.nothing;
      session = h.session;
      rows_are = h.rows_out;
      data_are = h.data_out;
      counts = h.counts;
    }

abbrev refused_as : ℕ → Answer
refused_as n = record { number = n; records = 0; bytes = 0 }

abbrev accepted_as : ℕ → ℕ → Answer
accepted_as k n = record { number = 0; records = k; bytes = n }

-- ---- the answer of an arm that hands nothing out, and of one read through its route

module _ (s : Session) (rows out : Bytes) where
  -- by the number alone
  pub quiet_arm : (p : Packet) → gives (view s) p ≡ [] → (n : ℕ) (s' : Session) → QuietPushed s p n s' → (a : Answer) → a ≡ refused_as n
      → PacketPushed s rows out p a.number a.records a.bytes s' rows out
  quiet_arm p g n s' h a e =
      subst (λ (x : Answer). PacketPushed s rows out p x.number x.records x.bytes s' rows out) (sym e) (quiet_pushed s p g rows out n s' h)

  -- of the packet that it is
  pub same_packet : (p q : Packet) → p ≡ q → (r k n : ℕ) (s' : Session) (rows' out' : Bytes) → PacketPushed s rows out p r k n s' rows' out'
      → PacketPushed s rows out q r k n s' rows' out'
  same_packet p q e r k n s' rows' out' h = subst (λ (x : Packet). PacketPushed s rows out x r k n s' rows' out') e h

-- ---- by type

module _ (s : Session) (rows out : Bytes) (h : Header) (b : Bytes) (can : CanTakePacket s b) where
  abbrev typed : Packet
  typed = by_type h b h.payload_type

  pub type_media : h.payload_type ≡ Mpu → (a : Answer) (s' : Session) (rows' out' : Bytes)
      → MediaPushed s rows out (media_of h b) a.number a.records a.bytes s' rows' out'
      → PacketPushed s rows out typed a.number a.records a.bytes s' rows' out'
  type_media k a s' rows' out' q =
      same_packet s rows out (media (media_of h b)) typed (ap (by_type h b) (sym k)) a.number a.records a.bytes s' rows' out'
      (media_pushed s can.session rows out (media_of h b) a.number a.records a.bytes s' rows' out' q)

  pub type_message : h.payload_type ≡ Messages → (n : ℕ) (s' : Session)
      → QuietPushed s (message (message_packet h.packet_id h.sequence b)) n s'
      → (a : Answer) → a ≡ refused_as n → PacketPushed s rows out typed a.number a.records a.bytes s' rows out
  unfolding gives
  type_message k n s' q a f =
      let p : Packet = message (message_packet h.packet_id h.sequence b) in
      same_packet s rows out p typed (ap (by_type h b) (sym k)) a.number a.records a.bytes s' rows out
      (quiet_arm s rows out p refl n s' q a f)

  type_other : typed ≡ other → (l : List ℕ)
      → l ≡ with_counters (packet_counted (counters_of s.state) 0 0 0) s.state → (a : Answer) → a ≡ accepted_as 0 0
      → PacketPushed s rows out typed a.number a.records a.bytes (lent l s.others s.objects s.messages s.tables) rows out
  unfolding gives
  type_other k l f a g =
      let s' = lent l s.others s.objects s.messages s.tables in
      same_packet s rows out other typed (sym k) a.number a.records a.bytes s' rows out
      (quiet_arm s rows out other refl 0 s' (quiet_other s can.session l f) a g)

  module _ (l : List ℕ)
      (f : l ≡ with_counters (packet_counted (counters_of s.state) 0 0 0) s.state) (a : Answer) (g : a ≡ accepted_as 0 0) where
    abbrev Left : Type 0
    Left = PacketPushed s rows out typed a.number a.records a.bytes (lent l s.others s.objects s.messages s.tables) rows out

    pub type_object : h.payload_type ≡ GenericObject → Left
    type_object k = type_other (ap (by_type h b) k) l f a g

    pub type_fec : h.payload_type ≡ FecRepair → Left
    type_fec k = type_other (ap (by_type h b) k) l f a g

    pub type_reserved : (c : ℕ) → h.payload_type ≡ Reserved c → Left
    type_reserved c k = type_other (ap (by_type h b) k) l f a g

-- ---- MMTP or not

module _ (s : Session) (rows out : Bytes) (b : Bytes) (can : CanTakePacket s b) (x : Option MmtpPacket) (e : x ≡ mmtp_of b) where
  pub not_mmtp_lem : x ≡ None → (l : List ℕ)
      → l ≡ with_counters (packet_counted (counters_of s.state) 0 1 0) s.state → (a : Answer) → a ≡ accepted_as 0 0
      → PacketPushed s rows out (mmtp_in b (mmtp_of b)) a.number a.records a.bytes (lent l s.others s.objects s.messages s.tables) rows out
  unfolding gives
  not_mmtp_lem k l f a g =
      let s' = lent l s.others s.objects s.messages s.tables in
      same_packet s rows out non_mmtp_of (mmtp_in b (mmtp_of b)) (ap (mmtp_in b) (sym k ∙ e)) a.number a.records a.bytes s' rows out
      (quiet_arm s rows out non_mmtp_of refl 0 s' (quiet_non s can.session l f) a g)

  pub is_mmtp : (p : MmtpPacket) → x ≡ Some p → (d : Bytes) → d ≡ drop p.start b → (a : Answer) (s' : Session) (rows' out' : Bytes)
      → PacketPushed s rows out (by_type p.header d p.header.payload_type) a.number a.records a.bytes s' rows' out'
      → PacketPushed s rows out (mmtp_in b (mmtp_of b)) a.number a.records a.bytes s' rows' out'
  is_mmtp p k d j a s' rows' out' q =
      same_packet s rows out (by_type p.header d p.header.payload_type) (mmtp_in b (mmtp_of b))
      (ap (λ (y : Bytes). by_type p.header y p.header.payload_type) j ∙ ap (mmtp_in b) (sym k ∙ e)) a.number a.records a.bytes s' rows' out' q

-- ---- by route

module _ (s : Session) (rows out : Bytes) (kind : ℕ) (b : Bytes) (can : CanTakePacket s b) (r : Route) (e : r ≡ route_of b (packet_type kind)) where
  through : (p : Packet) → routed b r ≡ p → p ≡ classify kind b
  through p q = sym q ∙ sym (route_is kind b r e)

  module _ (l : List ℕ) (a : Answer) (g : a ≡ accepted_as 0 0) where
    abbrev s1 : Session
    s1 = lent l s.others s.objects s.messages s.tables

    abbrev Taken1 : Type 0
    Taken1 = PacketPushed s rows out (classify kind b) a.number a.records a.bytes s1 rows out

    counted_arm : (p : Packet) → gives (view s) p ≡ [] → routed b r ≡ p → QuietPushed s p 0 s1 → Taken1
    counted_arm p z q h =
        same_packet s rows out p (classify kind b) (through p q) a.number a.records a.bytes s1 rows out (quiet_arm s rows out p z 0 s1 h a g)

    pub route_ip : r ≡ Route.IpError → l ≡ with_counters (packet_counted (counters_of s.state) 1 0 0) s.state → Taken1
    unfolding gives
    route_ip k f = counted_arm ip_error refl (ap (routed b) k) (quiet_ip s can.session l f)

    pub route_null : r ≡ Route.Null → l ≡ with_counters (packet_counted (counters_of s.state) 0 0 0) s.state → Taken1
    unfolding gives
    route_null k f = counted_arm other refl (ap (routed b) k) (quiet_other s can.session l f)

    pub route_other : r ≡ Route.Other → l ≡ with_counters (packet_counted (counters_of s.state) 0 0 0) s.state → Taken1
    unfolding gives
    route_other k f = counted_arm other refl (ap (routed b) k) (quiet_other s can.session l f)

    pub route_time : (at : ℕ) → r ≡ Route.Time at → (d : Bytes) → d ≡ drop at b → (t : Option ℕ) → t ≡ time_in d
        → l ≡ with_counters (packet_counted (counters_of s.state) 0 0 1) (with_time (time_given t) s.state) → Taken1
    unfolding gives
    route_time at k d j t i f =
        counted_arm (ntp (time_given t)) refl
        (ap (routed b) k ∙ ap (λ (y : Option ℕ). ntp (time_given y)) (sym (i ∙ ap time_in j))) (quiet_time s can.session (time_given t) l f)

  pub route_control : r ≡ Route.Control → (n : ℕ) (s' : Session)
      → QuietPushed s (control (map (λ y. take y.size (drop y.offset b)) (sections_of b))) n s' → (a : Answer) → a ≡ refused_as n
      → PacketPushed s rows out (classify kind b) a.number a.records a.bytes s' rows out
  unfolding gives
  route_control k n s' h a g =
      let p : Packet = control (map (λ y. take y.size (drop y.offset b)) (sections_of b)) in
      same_packet s rows out p (classify kind b) (through p (ap (routed b) k)) a.number a.records a.bytes s' rows out
      (quiet_arm s rows out p refl n s' h a g)

  pub route_mmtp : (at : ℕ) → r ≡ Route.Mmtp at → (d : Bytes) → d ≡ drop at b → (a : Answer) (s' : Session) (rows' out' : Bytes)
      → PacketPushed s rows out (mmtp_in d (mmtp_of d)) a.number a.records a.bytes s' rows' out'
      → PacketPushed s rows out (classify kind b) a.number a.records a.bytes s' rows' out'
  route_mmtp at k d j a s' rows' out' h =
      same_packet s rows out (mmtp_in d (mmtp_of d)) (classify kind b)
      (ap (λ (y : Bytes). mmtp_in y (mmtp_of y)) j ∙ through (mmtp_in (drop at b) (mmtp_of (drop at b))) (ap (routed b) k)) a.number a.records a.bytes
      s' rows' out' h

-- ---- what the arms ask

module _ (st others objects messages tables b : Bytes) (can : CanTakePacket (lent st others objects messages tables) b) where
  pub may_count : StateCountable st 0 0 0
  may_count = state_countable (lent st others objects messages tables) can.session 0 0 0 (omega arith) (omega arith) (omega arith)

  pub may_count_ip : StateCountable st 1 0 0
  may_count_ip = state_countable (lent st others objects messages tables) can.session 1 0 0 (omega arith) (omega arith) (omega arith)

  pub may_count_non : StateCountable st 0 1 0
  may_count_non = state_countable (lent st others objects messages tables) can.session 0 1 0 (omega arith) (omega arith) (omega arith)

  pub may_time : StateCountable st 0 0 1
  may_time = state_countable (lent st others objects messages tables) can.session 0 0 1 (omega arith) (omega arith) (omega arith)

  -- of a payload within
  pub can_within : (at : ℕ) (d : Bytes) → d ≡ drop at b → CanTakePacket (lent st others objects messages tables) d
  can_within at d e = record { session = can.session; others_long = can.others_long; short = omega (arith, ap length e, length-drop at b, can.short) }

pub can_media : (s : Session) (b : Bytes) → CanTakePacket s b → CanPushMedia s b
can_media s b can = record { sound = can.session; long = can.short }
