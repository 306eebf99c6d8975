-- A packet of at most 65,535 bytes reads as one with no more units, sections or bytes of sections than that, and what it hands to
-- the messages and sections are bytes. Assumes nothing.
use Rattle.std.specs.Prelude.{Err, None, Ok, Result, Some, Option}
use Rattle.isdb_tlv.specs.declared.ip.IpError.{IpError}
use Rattle.isdb_tlv.specs.declared.ip.Datagram.{Datagram}
use Rattle.isdb_tlv.specs.declared.ip.Flow.{Flow}
use Rattle.std.proofs.Common.{◌≡◌, ℕ, zero, suc, ◌+◌, ◌-◌, ◌/◌, ◌%◌, ◌<◌, ◌≤◌, Bool, true, false, not, eqb, ltb, List, [], ◌∷◌, ◌++◌, map, length, get_or, take, drop, replicate, refl, arith, length-take, get_or-drop, get_or-take, ltb-false, ltb-true}
use lib.ListN.{get_or-eq_default, length-map}
use Rattle.isdb_tlv.specs.Guards.{◌=?◌}
use Rattle.isdb_tlv.specs.Bytes.{be}
use Rattle.isdb_tlv.specs.Crc.{crc_of}
use Rattle.isdb_tlv.specs.Tlv.{packet_type}
use Rattle.isdb_tlv.specs.Ip.{ipv4_of, ipv6_of, compressed_of}
use Rattle.isdb_tlv.specs.Mmtp.{mmtp_of}
use Rattle.isdb_tlv.specs.Si.{is_tlv_si, table_id_of, whole_size, section_at, found, scan_at, sections_from, sections_of}
use Rattle.isdb_tlv.specs.declared.si.Section.{Section as Found, Section}
use Rattle.isdb_tlv.specs.declared.tlv.PacketType.{PacketType}
use Rattle.isdb_tlv.specs.declared.tlv.PacketType.TheVariants.{Ipv4, Ipv6, Compressed, Control, Null, Other}
use Rattle.isdb_tlv.specs.declared.mmtp.PayloadType.{PayloadType}
use Rattle.isdb_tlv.specs.declared.mmtp.PayloadType.TheVariants.{Mpu, GenericObject, Messages, FecRepair, Reserved}
use Rattle.isdb_tlv.specs.declared.mmtp.Header.{Header}
use Rattle.isdb_tlv.proofs.Guards.{cond_elim, either}
use Rattle.isdb_tlv.specs.declared.mmtp.Packet.{Packet as MmtpPacket}
use Rattle.isdb_mmt.specs.Formats.Mpu.{payload_header, declared_of, units_of}
use Rattle.isdb_mmt.specs.declared.mpu.FragmentType.{FragmentType}
use Rattle.isdb_mmt.specs.declared.mpu.FragmentType.TheVariants.{MpuMetadata, MovieFragmentMetadata, Mfu, Reserved as reserved_type}
use Rattle.isdb_mmt.specs.declared.mpu.PayloadHeader.{PayloadHeader}
use Rattle.isdb_mmt.specs.declared.mpu.Unit.{Unit as DataUnit}
use Rattle.isdb_mmt.specs.Decoder.Packet.{Bytes, Packet, ip_error, non_mmtp_of, media, message, control, other, ntp, header_in, payload_unit, payload_units, units_for, units_read, media_of, by_type, mmtp_in, to_port, in_flow, datagram_in, by_kind, classify, clear, readable}
use Rattle.isdb_tlv.specs.Fields.{Field, bytes_of, written}
use Rattle.isdb_mmt.specs.Memory.Lent.{part, over}
use Rattle.isdb_mmt.specs.Memory.Session.{Session, limits_fields}
use Rattle.isdb_mmt.specs.Memory.Opening.{opened_state, opened_session}
use Rattle.isdb_mmt.specs.declared.decoder.limits.Limits.{Limits}
use Rattle.isdb_mmt.specs.Memory.Layout.{used_place, state_size}
use Rattle.isdb_mmt.specs.Standards.StdB60Sections.{All}
use Rattle.isdb_mmt.specs.Memory.Octets.{Octets, Lent}
use Rattle.isdb_mmt.proofs.Amounts.{Grows, grows_within, units_le, unit_count, total}
use Rattle.isdb_mmt.proofs.Smallness.{take_small, drop_small}

-- ---- bytes

pub octets_drop : (n : ℕ) (b : Bytes) → Octets b → Octets (drop n b)
octets_drop n b o i = rw (get_or-drop n b i 0) (o (n + i))

pub octets_take : (n : ℕ) (b : Bytes) → Octets b → Octets (take n b)
octets_take n b o i =
    either (ltb i n) (λ e. rw (get_or-take n b i 0 (ltb-true i n e)) (o i))
    (λ e. let l = ltb-false i n e in let d : get_or (take n b) i 0 ≡ 0 = get_or-eq_default (take n b) 0 {n = i} (omega (arith, length-take n b)) in omega (arith, d))

pub octets_part : (at n : ℕ) (b : Bytes) → Octets b → Octets (part at n b)
octets_part at n b o = octets_take n (drop at b) (octets_drop at b o)

pub octets_append : (a b : Bytes) → Octets a → Octets b → Octets (a ++ b)
octets_append [] b o q i = q i
octets_append (x ∷ a) b o q zero = o 0
octets_append (x ∷ a) b o q (suc i) = octets_append a b (λ j. o (suc j)) q i

pub octets_bytes : (w v : ℕ) → Octets (bytes_of w v)
unfolding bytes_of
octets_bytes zero v = λ i. omega arith
octets_bytes (suc w) v = octets_append (bytes_of w (v / 256)) (v % 256 ∷ []) (octets_bytes w (v / 256)) (λ i. last i)
  where
    last : (i : ℕ) → get_or (v % 256 ∷ []) i 0 < 256
    last zero = omega arith
    last (suc i) = omega arith

pub octets_written : (fs : List Field) → Octets (written fs)
octets_written [] = λ i. omega arith
octets_written (f ∷ fs) = octets_append (bytes_of f.width f.value) (written fs) (octets_bytes f.width f.value) (octets_written fs)

pub octets_over : (at : ℕ) (bs l : Bytes) → Octets bs → Octets l → Octets (over at bs l)
unfolding over
octets_over at bs l o q =
    octets_append (take at l) (bs ++ drop (length bs) (drop at l)) (octets_take at l q)
    (octets_append bs (drop (length bs) (drop at l)) o (octets_drop (length bs) (drop at l) (octets_drop at l q)))

abbrev blank : ℕ → Bytes
blank n = replicate n 0

pub octets_blank : (n : ℕ) → Octets (blank n)
octets_blank zero i = omega arith
octets_blank (suc n) zero = omega arith
octets_blank (suc n) (suc i) = octets_blank n i

-- an opening leaves bytes
pub lent_opened : (l : Limits) (s : Session) → Lent s → Lent (opened_session l s)
unfolding opened_session over opened_state
lent_opened l s h =
    record {
      state =
          octets_append (opened_state l) (drop (length (opened_state l)) s.state)
          (octets_append (written (limits_fields l)) (blank (state_size - used_place)) (octets_written (limits_fields l)) (octets_blank (state_size - used_place)))
          (octets_drop (length (opened_state l)) s.state h.state);
      objects = h.objects;
      messages = h.messages;
      tables = h.tables;
    }

abbrev pub AllOctets : List Bytes → Type 0
AllOctets bs = All Octets bs

-- what holds of all that is read from bytes
pub all_read : {A : Type 0} (P : A → Type 0) (read : Bytes → A) → ((b : Bytes) → Octets b → P (read b)) → (bs : List Bytes) → AllOctets bs → All P (map read bs)
all_read P read f [] o = tt
all_read P read f (b ∷ bs) o = (f b o.0, all_read P read f bs o.1)

-- ---- what is known of a packet

abbrev pub Plain : Packet → Type 0
Plain ip_error = Unit {0}
Plain (ntp t) = Unit {0}
Plain non_mmtp_of = Unit {0}
Plain (media m) = length (readable m) < 65536
Plain (message c) = (length c.payload < 65536) × Octets c.payload
Plain (control bs) = (length bs < 65536) × (total bs < 65536) × AllOctets bs
Plain other = Unit {0}

-- a media payload

clear_payload_units : (h : PayloadHeader) (q : Bytes) (o : Option (List DataUnit)) → unit_count o < 65536 → length (clear false (payload_units h q o)) < 65536
unfolding clear
clear_payload_units h q None l = omega arith
clear_payload_units h q (Some us) l = omega (arith, length-map us (payload_unit h q))

clear_units : (h : PayloadHeader) (t : FragmentType) (q : Bytes) → length q < 65536 → length (clear false (units_for h t q)) < 65536
unfolding clear
clear_units h Mfu q l = clear_payload_units h q (units_of q h.timed h.aggregated) (omega (arith, units_le q h.timed h.aggregated))
clear_units h MpuMetadata q l = omega arith
clear_units h MovieFragmentMetadata q l = omega arith
clear_units h (reserved_type c) q l = omega arith

clear_read : (scrambled : Bool) (payload : Bytes) (o : Option PayloadHeader) → length payload < 65536
    → length (clear scrambled (units_read payload o)) < 65536
unfolding clear
clear_read true payload o l = omega arith
clear_read false payload None l = omega arith
clear_read false payload (Some h) l =
    clear_units h h.fragment_type (declared_of payload) (take_small (be 2 payload 0 + 2) payload l)

media_plain : (h : Header) (payload : Bytes) → length payload < 65536 → length (readable (media_of h payload)) < 65536
unfolding readable media_of
media_plain h payload l = clear_read h.scramble_info payload (header_in (payload_header payload)) l

-- a control signal: sections stand one behind the other

abbrev lengths : List Found → ℕ
lengths [] = 0
lengths (x ∷ l) = x.size + lengths l

module _ (s : Bytes) where
  abbrev Here : ℕ → Option Section → Type 0
  Here at None = Unit {0}
  Here at (Some x) = (1 ≤ x.size) × (at + x.size ≤ length s)

  here : (at : ℕ) → Here at (section_at s at)
  unfolding section_at
  here at =
      let n = whole_size s at in
      cond_elim (Here at) (not (is_tlv_si (table_id_of s at))) (λ e. tt) (λ e.
      cond_elim (Here at) (ltb (get_or s (at + 1) 0) 128) (λ e1. tt) (λ e1.
      cond_elim (Here at) (ltb n 12) (λ e2. tt) (λ e2.
      cond_elim (Here at) (ltb (length s - at) n) (λ e3. tt) (λ e3.
      cond_elim (Here at) (not (eqb (crc_of (take n (drop at s))) 0)) (λ e4. tt) (λ e4.
      let a = ltb-false n 12 e2 in
      let b = ltb-false (length s - at) n e3 in
      (omega arith, omega arith))))))

  -- what a section adds is no more than its bytes
  module _ (size : List Found → ℕ) (end-size : size [] ≡ 0) (also-size : (x : Found) (l : List Found) → 1 ≤ x.size → size (x ∷ l) ≤ size l + x.size) where
    section_grows : (at : ℕ) → 3 ≤ length s - at → (m : Option Section) → Here at m → Grows size (length s) at (found at m)
    section_grows at h None w = (omega arith, omega arith, λ r. omega arith)
    section_grows at h (Some x) w = (omega arith, omega (arith, w.1), λ r. omega (arith, also-size x r w.0))

    sections_grow : size (sections_of s) ≤ length s
    unfolding sections_of sections_from
    sections_grow =
        omega (
          arith,
          grows_within size (length s) (scan_at s) (λ p. []) (λ p. end-size)
              (λ at. cond_elim (Grows size (length s) at) (ltb (length s - at) 3) (λ e. omega (arith, end-size)) (λ e. section_grows at (ltb-false (length s - at) 3 e) (section_at s at) (here at)))
              (suc (length s)) 0,
        )

  sections_cover : lengths (sections_of s) ≤ length s
  sections_cover = sections_grow lengths refl (λ x l h. omega arith)

  sections_count : length (sections_of s) ≤ length s
  sections_count = sections_grow (λ (l : List Found). length l) refl (λ x l h. omega arith)

  abbrev cut_out : List Found → List Bytes
  cut_out l = map (λ x. take x.size (drop x.offset s)) l

  total_cut : (l : List Found) → total (cut_out l) ≤ lengths l
  total_cut [] = omega arith
  total_cut (x ∷ l) = omega (arith, total_cut l, length-take x.size (drop x.offset s))

  octets_cut : Octets s → (l : List Found) → AllOctets (cut_out l)
  octets_cut o [] = tt
  octets_cut o (x ∷ l) = (octets_take x.size (drop x.offset s) (octets_drop x.offset s o), octets_cut o l)

-- a packet, from its payload outwards

type_plain : (h : Header) (payload : Bytes) (t : PayloadType) → length payload < 65536 → Octets payload → Plain (by_type h payload t)
type_plain h payload Mpu l o = media_plain h payload l
type_plain h payload Messages l o = (l, o)
type_plain h payload GenericObject l o = tt
type_plain h payload FecRepair l o = tt
type_plain h payload (Reserved c) l o = tt

mmtp_plain : (b : Bytes) (p : Option MmtpPacket) → length b < 65536 → Octets b → Plain (mmtp_in b p)
mmtp_plain b None l o = tt
mmtp_plain b (Some p) l o =
    type_plain p.header (drop p.start b) p.header.payload_type (drop_small p.start b l) (octets_drop p.start b o)

port_plain : (b : Bytes) (port : ℕ) → length b < 65536 → Octets b → Plain (to_port b port)
port_plain b port l o = cond_elim Plain (port =? 123) (λ e. tt) (λ e. mmtp_plain b (mmtp_of b) l o)

flow_plain : (b : Bytes) (f : Option Flow) → length b < 65536 → Octets b → Plain (in_flow b f)
flow_plain b None l o = mmtp_plain b (mmtp_of b) l o
flow_plain b (Some f) l o = port_plain b f.dport l o

datagram_plain : (b : Bytes) (r : Result Datagram IpError) → length b < 65536 → Octets b → Plain (datagram_in b r)
datagram_plain b (Err e) l o = tt
datagram_plain b (Ok d) l o = flow_plain (drop d.start b) d.flow (drop_small d.start b l) (octets_drop d.start b o)

kind_plain : (b : Bytes) (k : PacketType) → length b < 65536 → Octets b → Plain (by_kind b k)
kind_plain b Ipv4 l o = datagram_plain b (ipv4_of b) l o
kind_plain b Ipv6 l o = datagram_plain b (ipv6_of b) l o
kind_plain b Compressed l o = datagram_plain b (compressed_of b) l o
kind_plain b Control l o = (
  omega (arith, length-map (sections_of b) (λ (x : Found). take x.size (drop x.offset b)), sections_count b),
  omega (arith, total_cut b (sections_of b), sections_cover b),
  octets_cut b o (sections_of b),
)
kind_plain b Null l o = tt
kind_plain b (Other v) l o = tt

pub plain_of : (kind : ℕ) (b : Bytes) → length b < 65536 → Octets b → Plain (classify kind b)
unfolding classify
plain_of kind b l o = kind_plain b (packet_type kind) l o
