-- What a push gives out fits its rows: the numbers are read from bytes, and the data are no more than an area and a packet. So the
-- records that are written are those that are read back. Assumes nothing.
use Rattle.std.specs.Prelude.{Err, None, Ok, Result, Some, Option, unwrap_or, is_some}
use Rattle.isdb_tlv.specs.declared.ip.IpError.{IpError}
use Rattle.isdb_tlv.specs.declared.ip.Datagram.{Datagram}
use Rattle.isdb_tlv.specs.declared.ip.Flow.{Flow}
use Rattle.std.proofs.Common.{◌≡◌, ℕ, zero, suc, ◌+◌, ◌-◌, ◌^◌, ◌<◌, ◌≤◌, Bool, true, false, not, ◌&&◌, ltb, leb, ◌⊎◌, List, [], ◌∷◌, ◌++◌, map, length, take, drop, refl, inl, inr, ⊎_elim, pow-suc, arith, length-append, length-drop, length-take}
use Rattle.isdb_tlv.specs.Guards.{◌=?◌}
use Rattle.isdb_tlv.specs.Bytes.{be}
use Rattle.isdb_tlv.specs.Walk.{Next, stop, more, turn, run, also}
use Rattle.isdb_tlv.specs.Fields.{Fit}
use Rattle.isdb_tlv.specs.Tlv.{packet_type}
use Rattle.isdb_tlv.specs.Ip.{ipv4_of, ipv6_of, compressed_of}
use Rattle.isdb_tlv.specs.Mmtp.{mmtp_of}
use Rattle.isdb_tlv.proofs.Headers.{HeaderIs, header_is}
use Rattle.isdb_tlv.specs.declared.tlv.PacketType.{PacketType}
use Rattle.isdb_tlv.specs.declared.tlv.PacketType.TheVariants.{Ipv4, Ipv6, Compressed, Control, Null, Other}
use Rattle.isdb_tlv.specs.declared.mmtp.PayloadType.{PayloadType}
use Rattle.isdb_tlv.specs.declared.mmtp.PayloadType.TheVariants.{Mpu, GenericObject, Messages, FecRepair, Reserved}
use Rattle.isdb_tlv.specs.declared.mmtp.Header.{Header}
use Rattle.isdb_tlv.proofs.Guards.{cond_elim}
use Rattle.isdb_tlv.specs.declared.mmtp.Packet.{Packet as MmtpPacket}
use Rattle.isdb_mmt.specs.Standards.StdB60Sections.{All}
use Rattle.isdb_mmt.specs.Formats.Mpu.{payload_header, declared_of, units_of, units_from, unit_step, unit_at, unit_in, item}
use Rattle.isdb_mmt.specs.Decoder.Packet.{Bytes, PayloadUnit, MpuPacket, Packet, ip_error, ntp, non_mmtp_of, media, message, control, other, header_in, payload_unit, payload_units, units_for, units_read, media_of, by_type, mmtp_in, to_port, in_flow, datagram_in, by_kind, classify, clear, readable}
use Rattle.isdb_mmt.specs.Decoder.Objects.{Mfu, Asset, Rec, UnitEffect, gap, most_object, grown, continued, effect_of, object_of, unit_effect, after_unit, after_units, delivered_by, after_headers, mpu_number, tagged, passes, media_gives}
use Rattle.isdb_mmt.specs.Decoder.Needs.{held_length, longest_of, unit_area, units_need}
use Rattle.isdb_mmt.specs.Memory.Octets.{Octets}
use Rattle.isdb_mmt.specs.Memory.Layout.{most_mfu_area}
use Rattle.isdb_mmt.specs.Memory.Session.{object_fields}
use Rattle.isdb_mmt.specs.Formats.Mpu.{header_or}
use Rattle.isdb_mmt.specs.Pushes.Records.{row_flags, object_for}
use Rattle.isdb_mmt.specs.declared.mpu.FragmentType.{FragmentType}
use Rattle.isdb_mmt.specs.declared.mpu.FragmentType.TheVariants.{MpuMetadata, MovieFragmentMetadata, Mfu as mfu_type, Reserved as reserved_type}
use Rattle.isdb_mmt.specs.declared.mpu.FragmentationIndicator.{FragmentationIndicator}
use Rattle.isdb_mmt.specs.declared.mpu.FragmentationIndicator.TheVariants.{Complete, Head, Middle, Last}
use Rattle.isdb_mmt.specs.declared.mpu.PayloadHeader.{PayloadHeader}
use Rattle.isdb_mmt.specs.declared.mpu.MfuHeader.{MfuHeader}
use Rattle.isdb_mmt.specs.declared.mpu.Unit.{Unit as DataUnit}
use Rattle.isdb_mmt.specs.Formats.Steps.{UnitStep}
use Rattle.isdb_mmt.specs.declared.walk_step.WalkStep.TheVariants.{End, Malformed, Entry as found}
use Rattle.isdb_mmt.proofs.Amounts.{units_grow}
use Rattle.isdb_mmt.proofs.Brief.{octets_drop, octets_take, octets_append}
use Rattle.isdb_mmt.proofs.RecordRows.{RowFits, AllFit}
use Rattle.isdb_mmt.proofs.Stored.{flag_small, flag_le}

pub be_small : (s : Bytes) → Octets s → (w at : ℕ) → be w s at < 256 ^ w
unfolding be
be_small s o zero at = omega arith
be_small s o (suc w) at = rw (pow-suc 256 w) (omega (arith, o (at + w), be_small s o w at))

-- ---- numbers that fit

pub record HeaderOk (h : MfuHeader) : Type 0 where
  pub fragment : h.movie_fragment_sequence_number < 4294967296
  pub sample : h.sample_number < 4294967296
  pub offset : h.offset < 4294967296
  pub priority : h.priority < 256
  pub dependency : h.dependency_counter < 256

abbrev pub MfuOk : Option MfuHeader → Type 0
MfuOk None = Unit {0}
MfuOk (Some h) = HeaderOk h

abbrev pub ItemOk : Option ℕ → Type 0
ItemOk None = Unit {0}
ItemOk (Some i) = i < 4294967296

pub record ObjectOk (h : Mfu) : Type 0 where
  pub mpu : h.mpu < 4294967296
  pub mfu : MfuOk h.mfu
  pub item_id : ItemOk h.item_id
  pub octets : Octets h.bytes

abbrev pub HeldOk : Option Mfu → Type 0
HeldOk None = Unit {0}
HeldOk (Some h) = ObjectOk h

abbrev pub AllOk : List Mfu → Type 0
AllOk hs = All ObjectOk hs

pub record PayloadUnitOk (u : PayloadUnit) : Type 0 where
  pub mfu : MfuOk u.mfu
  pub item_id : ItemOk u.item_id
  pub octets : Octets u.bytes

abbrev pub AllPayloadUnits : List PayloadUnit → Type 0
AllPayloadUnits us = All PayloadUnitOk us

abbrev pub unit_bytes : List PayloadUnit → ℕ
unit_bytes [] = 0
unit_bytes (u ∷ us) = length u.bytes + unit_bytes us

abbrev pub longs : List Mfu → ℕ
longs [] = 0
longs (h ∷ hs) = length h.bytes + longs hs

longs_append : (xs ys : List Mfu) → longs (xs ++ ys) ≡ longs xs + longs ys
longs_append [] ys = omega arith
longs_append (x ∷ xs) ys = omega (arith, longs_append xs ys)

all_append : (xs ys : List Mfu) → AllOk xs → AllOk ys → AllOk (xs ++ ys)
all_append [] ys a b = b
all_append (x ∷ xs) ys a b = (a.0, all_append xs ys a.1 b)

-- ---- what units give: no more data than came in, and one object of an area

on_longs : (b e : Bool) (h : Mfu) (d : Bytes)
    → longs (continued b e (grown h d)).outs + held_length (continued b e (grown h d)).held ≤ length h.bytes + length d
unfolding continued grown
on_longs true true h d = omega (arith, length-append h.bytes d)
on_longs true false h d = omega (arith, length-append h.bytes d)
on_longs false e h d = omega arith

unit_longs : (f : FragmentationIndicator) (h : Option Mfu) (u : Mfu)
    → longs (effect_of f h u).outs + held_length (effect_of f h u).held ≤ held_length h + length u.bytes
unfolding effect_of
unit_longs Complete h u = omega arith
unit_longs Head h u = omega arith
unit_longs Middle None u = omega arith
unit_longs Middle (Some h) u = on_longs (leb (length h.bytes + length u.bytes) most_object) false h u.bytes
unit_longs Last None u = omega arith
unit_longs Last (Some h) u = on_longs (leb (length h.bytes + length u.bytes) most_object) true h u.bytes

units_longs : (m : MpuPacket) (us : List PayloadUnit) (a : Asset) → longs (delivered_by m a us) ≤ held_length a.held + unit_bytes us
unfolding delivered_by after_unit unit_effect object_of
units_longs m [] a = omega arith
units_longs m (u ∷ us) a =
    omega (
      arith,
      units_longs m us (after_unit a (unit_effect m a u)),
      unit_longs u.fragment a.held (object_of m u),
      longs_append (unit_effect m a u).outs (delivered_by m (after_unit a (unit_effect m a u)) us),
    )

-- a unit that delivers leaves nothing held; it delivers its own data, or what its area counts
abbrev Either : FragmentationIndicator → ℕ → UnitEffect → Type 0
Either f n r = (longs r.outs ≤ 0) ⊎ ((held_length r.held ≤ 0) × (longs r.outs ≤ unit_area f r + n))

on_either : (b e : Bool) (f : FragmentationIndicator) (n : ℕ) (h : Mfu) → unit_area f (continued true true h) ≡ longest_of (h ∷ []) → Either f n (continued b e h)
unfolding continued
on_either true true f n h q = inr (omega arith, omega (arith, q))
on_either true false f n h q = inl (omega arith)
on_either false e f n h q = inl (omega arith)

unit_either : (f : FragmentationIndicator) (h : Option Mfu) (u : Mfu) → Either f (length u.bytes) (effect_of f h u)
unfolding effect_of continued
unit_either Complete h u = inr (omega arith, omega arith)
unit_either Head h u = inl (omega arith)
unit_either Middle None u = inl (omega arith)
unit_either Middle (Some h) u = go (leb (length h.bytes + length u.bytes) most_object)
  where
    go : (b : Bool) → Either Middle (length u.bytes) (continued b false (grown h u.bytes))
    go true = inl (omega arith)
    go false = inl (omega arith)
unit_either Last None u = inl (omega arith)
unit_either Last (Some h) u = on_either (leb (length h.bytes + length u.bytes) most_object) true Last (length u.bytes) (grown h u.bytes) refl

units_within : (m : MpuPacket) (us : List PayloadUnit) (a : Asset) → longs (delivered_by m a us) ≤ units_need m a us + unit_bytes us
unfolding delivered_by units_need after_unit unit_effect object_of
units_within m [] a = omega arith
units_within m (u ∷ us) a =
    let r = unit_effect m a u in
    let s = longs_append r.outs (delivered_by m (after_unit a r) us) in
    ⊎_elim
    (λ w. omega (arith, w, s, units_within m us (after_unit a r)))
    (λ w. omega (arith, w.0, w.1, s, units_longs m us (after_unit a r)))
    (unit_either u.fragment a.held (object_of m u))

-- ---- what units give carries numbers that fit

grown_ok : (h : Mfu) (d : Bytes) → ObjectOk h → Octets d → ObjectOk (grown h d)
unfolding grown
grown_ok h d o q = record { mpu = o.mpu; mfu = o.mfu; item_id = o.item_id; octets = octets_append h.bytes d o.octets q }

record DidOk (r : UnitEffect) : Type 0 where
  held : HeldOk r.held
  outs : AllOk r.outs

on_ok : (b e : Bool) (h : Mfu) → ObjectOk h → DidOk (continued b e h)
unfolding continued
on_ok true true h o = record { held = tt; outs = (o, tt) }
on_ok true false h o = record { held = o; outs = tt }
on_ok false e h o = record { held = tt; outs = tt }

unit_ok : (f : FragmentationIndicator) (h : Option Mfu) (u : Mfu) → HeldOk h → ObjectOk u → DidOk (effect_of f h u)
unfolding effect_of
unit_ok Complete h u p q = record { held = tt; outs = (q, tt) }
unit_ok Head h u p q = record { held = q; outs = tt }
unit_ok Middle None u p q = record { held = tt; outs = tt }
unit_ok Middle (Some h) u p q = on_ok (leb (length h.bytes + length u.bytes) most_object) false (grown h u.bytes) (grown_ok h u.bytes p q.octets)
unit_ok Last None u p q = record { held = tt; outs = tt }
unit_ok Last (Some h) u p q = on_ok (leb (length h.bytes + length u.bytes) most_object) true (grown h u.bytes) (grown_ok h u.bytes p q.octets)

begun_ok : (m : MpuPacket) (u : PayloadUnit) → mpu_number m.header < 4294967296 → PayloadUnitOk u → ObjectOk (object_of m u)
unfolding object_of
begun_ok m u n p = record { mpu = n; mfu = p.mfu; item_id = p.item_id; octets = p.octets }

-- what units leave held
pub held_after : (m : MpuPacket) (us : List PayloadUnit) (a : Asset) → mpu_number m.header < 4294967296 → HeldOk a.held → AllPayloadUnits us
    → HeldOk (after_units m a us).held
unfolding after_units after_unit unit_effect
held_after m [] a n h p = h
held_after m (u ∷ us) a n h p =
    held_after m us (after_unit a (unit_effect m a u)) n (unit_ok u.fragment a.held (object_of m u) h (begun_ok m u n p.0)).held p.1

units_ok : (m : MpuPacket) (us : List PayloadUnit) (a : Asset) → mpu_number m.header < 4294967296 → HeldOk a.held → AllPayloadUnits us → AllOk (delivered_by m a us)
unfolding delivered_by after_unit unit_effect object_of
units_ok m [] a n h p = tt
units_ok m (u ∷ us) a n h p =
    let q = unit_ok u.fragment a.held (object_of m u) h (begun_ok m u n p.0) in
    all_append (unit_effect m a u).outs _ q.outs (units_ok m us (after_unit a (unit_effect m a u)) n q.held p.1)

-- ---- rows

header_fits : (o : Option MfuHeader) → MfuOk o → HeaderOk (header_or o)
header_fits None h = record { fragment = omega arith; sample = omega arith; offset = omega arith; priority = omega arith; dependency = omega arith }
header_fits (Some x) h = h

item_fits : (o : Option ℕ) → ItemOk o → unwrap_or o 0 < 4294967296
item_fits None h = omega arith
item_fits (Some i) h = h

-- an object beside its bytes
pub object_fits : (h : Mfu) → ObjectOk h → length h.bytes < 4294967296 → Fit (object_fields (object_for h))
object_fits h o n =
    let q = header_fits h.mfu o.mfu in (
      o.mpu,
      (
        flag_small h.rap,
        (
          flag_small (is_some h.mfu),
          (
            q.fragment,
            (
              q.sample,
              (
                q.offset,
                (q.priority, (q.dependency, (flag_small (is_some h.item_id), (item_fits h.item_id o.item_id, (n, tt))))),
              ),
            ),
          ),
        ),
      ),
    )

row_fits : (r : Rec) (at : ℕ) → r.id < 65536 → ObjectOk r.mfu → at < 4294967296 → length r.mfu.bytes < 4294967296 → RowFits r at
row_fits r at i o a n =
    let h = header_fits r.mfu.mfu o.mfu in
    let q : row_flags r.scrambled (object_for r.mfu) < 256 =
    omega (arith, flag_le r.mfu.rap, flag_le r.scrambled, flag_le (is_some r.mfu.mfu), flag_le (is_some r.mfu.item_id)) in (
      i,
      (
        q,
        (
          omega arith,
          (
            o.mpu,
            (
              h.fragment,
              (
                h.sample,
                (
                  h.offset,
                  (
                    h.priority,
                    (h.dependency, (omega arith, (item_fits r.mfu.item_id o.item_id, (a, (n, tt))))),
                  ),
                ),
              ),
            ),
          ),
        ),
      ),
    )

rows_fit : (i : ℕ) → i < 65536 → (ds : List Mfu) (at : ℕ) → AllOk ds → at + longs ds < 4294967296 → AllFit at (tagged i ds)
unfolding tagged
rows_fit i l [] at o n = tt
rows_fit i l (d ∷ ds) at o n = (
  row_fits (record { id = i; scrambled = false; mfu = d }) at l o.0 (omega arith) (omega arith),
  rows_fit i l ds (at + length d.bytes) o.1 (omega arith),
)

-- ---- a media packet's numbers

pub record MediaOk (m : MpuPacket) : Type 0 where
  pub id : m.id < 65536
  pub number : m.number < 4294967296
  pub mpu : mpu_number m.header < 4294967296
  pub payload_units : AllPayloadUnits (readable m)
  pub long : unit_bytes (readable m) < 65536
  pub raw : length m.raw < 65536
  pub octets : Octets m.raw

pub gives_fit : (pass : Bool) (a : Asset) (m : MpuPacket) → MediaOk m → HeldOk a.held → units_need m (after_headers a m) (readable m) ≤ most_mfu_area
    → AllFit 0 (media_gives pass a m)
unfolding media_gives passes after_headers
gives_fit pass a m o h n =
    let us = delivered_by m (after_headers a m) (readable m) in
    let w = units_within m (readable m) (after_headers a m) in
    let gone : HeldOk (after_headers a m).held = cond_elim HeldOk (gap a.number m.number) (λ e. tt) (λ e. h) in
    let k = units_ok m (readable m) (after_headers a m) o.mpu gone o.payload_units in
    cond_elim (λ (rs : List Rec). AllFit 0 (rs ++ tagged m.id us)) (pass && (m.scrambled && is_some m.header))
    (λ e. (
      row_fits
          (record { id = m.id; scrambled = true; mfu = record { mpu = mpu_number m.header; rap = m.rap; mfu = None; item_id = None; bytes = m.raw } })
          0 o.id (record { mpu = o.mpu; mfu = tt; item_id = tt; octets = o.octets }) (omega arith) (omega (arith, o.raw)),
      rows_fit m.id o.id us (0 + length m.raw) k (omega (arith, w, o.long, o.raw)),
    ))
    (λ e. rows_fit m.id o.id us 0 k (omega (arith, w, o.long)))

-- ---- and where they come from

module _ {R : Type 0} (P : R → Type 0) where
  abbrev Keeps : Next R → Type 0
  Keeps (stop r) = P r
  Keeps (more next f) = (r : R) → P r → P (f r)

  keeps_on : (go : ℕ → R) → ((p : ℕ) → P (go p)) → (d : Next R) → Keeps d → P (turn go d)
  keeps_on go h (stop r) k = k
  keeps_on go h (more next f) k = k (go next) (h next)

  keeps_run : (step : ℕ → Next R) (out : ℕ → R) → ((at : ℕ) → P (out at)) → ((at : ℕ) → Keeps (step at)) → (k at : ℕ) → P (run step out k at)
  keeps_run step out z h zero at = z at
  keeps_run step out z h (suc k) at = keeps_on (run step out k) (keeps_run step out z h k) (step at) (h at)

record UnitOk (u : DataUnit) : Type 0 where
  mfu : MfuOk u.mfu
  item_id : ItemOk u.item_id

abbrev AllUnits : Option (List DataUnit) → Type 0
AllUnits None = Unit {0}
AllUnits (Some []) = Unit {0}
AllUnits (Some (u ∷ us)) = UnitOk u × AllUnits (Some us)

abbrev data_bytes : Option (List DataUnit) → ℕ
data_bytes None = 0
data_bytes (Some []) = 0
data_bytes (Some (u ∷ us)) = u.«data».length + data_bytes (Some us)

bytes_also : (u : DataUnit) (o : Option (List DataUnit)) → data_bytes (also u o) ≤ data_bytes o + u.«data».length
bytes_also u None = omega arith
bytes_also u (Some l) = omega arith

module _ (s : Bytes) (o : Octets s) (timed aggregated : Bool) where
  abbrev StepOk : UnitStep → Type 0
  StepOk End = Unit {0}
  StepOk Malformed = Unit {0}
  StepOk (found u next) = UnitOk u

  in_ok : (at end : ℕ) → StepOk (unit_in s timed at end)
  unfolding unit_in
  in_ok at end =
      let q = take (end - at) (drop at s) in
      let w = octets_take (end - at) (drop at s) (octets_drop at s o) in
      cond_elim StepOk timed
      (λ e. cond_elim StepOk (ltb (end - at) 14) (λ e. tt) (λ e.
      record {
        mfu = record { fragment = be_small q w 4 0; sample = be_small q w 4 4; offset = be_small q w 4 8; priority = w 12; dependency = w 13 };
        item_id = tt;
      }))
      (λ e. cond_elim StepOk (ltb (end - at) 4) (λ e. tt) (λ e. record { mfu = tt; item_id = be_small q w 4 0 }))

  at_ok : (at : ℕ) → StepOk (unit_at s timed aggregated at)
  unfolding unit_at
  at_ok at =
      cond_elim StepOk (not aggregated) (λ e. in_ok at (length s)) (λ e.
      cond_elim StepOk (ltb (length s - at) 2) (λ e. tt) (λ e.
      cond_elim StepOk (ltb (length s - (at + 2)) (be 2 s at)) (λ e. tt) (λ e. in_ok (at + 2) (at + 2 + be 2 s at))))

  step_ok : (at : ℕ) → StepOk (unit_step s timed aggregated at)
  unfolding unit_step
  step_ok at =
      cond_elim StepOk (ltb (length s) 8) (λ e. tt) (λ e.
      cond_elim StepOk (leb at 8) (λ e. at_ok 8) (λ e.
      cond_elim StepOk (leb (length s) at) (λ e. tt) (λ e. at_ok at)))

  also_ok : (u : DataUnit) → UnitOk u → (r : Option (List DataUnit)) → AllUnits r → AllUnits (also u r)
  also_ok u q None h = tt
  also_ok u q (Some l) h = (q, h)

  item_ok : (d : UnitStep) → StepOk d → Keeps AllUnits (item d)
  item_ok End h = tt
  item_ok Malformed h = tt
  item_ok (found u next) h = also_ok u h

  all_units : AllUnits (units_of s timed aggregated)
  unfolding units_of units_from
  all_units = keeps_run AllUnits (λ p. item (unit_step s timed aggregated p)) (λ p. None) (λ p. tt) (λ p. item_ok (unit_step s timed aggregated p) (step_ok p)) (suc (length s)) 8

  all_bytes : data_bytes (units_of s timed aggregated) ≤ length s
  all_bytes =
      units_grow s timed aggregated data_bytes refl refl (λ at next u o w. omega (arith, w.starts, w.ends, w.ahead, bytes_also u o))

payload_units_ok : (h : PayloadHeader) (q : Bytes) → Octets q → (us : List DataUnit) → AllUnits (Some us) → AllPayloadUnits (map (payload_unit h q) us)
payload_units_ok h q o [] a = tt
payload_units_ok h q o (u ∷ us) a = (
  record {
    mfu = a.0.mfu;
    item_id = a.0.item_id;
    octets = octets_take u.«data».length (drop u.«data».start q) (octets_drop u.«data».start q o);
  },
  payload_units_ok h q o us a.1,
)

payload_units_long : (h : PayloadHeader) (q : Bytes) (us : List DataUnit) → unit_bytes (map (payload_unit h q) us) ≤ data_bytes (Some us)
payload_units_long h q [] = omega arith
payload_units_long h q (u ∷ us) = omega (arith, payload_units_long h q us, length-take u.«data».length (drop u.«data».start q))

-- the units that are taken
record ClearOk (us : List PayloadUnit) : Type 0 where
  payload_units : AllPayloadUnits us
  long : unit_bytes us < 65536

no_units : ClearOk []
no_units = record { payload_units = tt; long = omega arith }

clear_payload_units : (h : PayloadHeader) (q : Bytes) → Octets q → (r : Option (List DataUnit)) → AllUnits r → data_bytes r < 65536 → ClearOk (clear false (payload_units h q r))
unfolding clear
clear_payload_units h q o None a l = no_units
clear_payload_units h q o (Some us) a l = record { payload_units = payload_units_ok h q o us a; long = omega (arith, payload_units_long h q us) }

clear_units : (h : PayloadHeader) (t : FragmentType) (q : Bytes) → length q < 65536 → Octets q → ClearOk (clear false (units_for h t q))
unfolding clear
clear_units h mfu_type q l o =
    clear_payload_units h q o (units_of q h.timed h.aggregated) (all_units q o h.timed h.aggregated) (omega (arith, all_bytes q o h.timed h.aggregated))
clear_units h MpuMetadata q l o = no_units
clear_units h MovieFragmentMetadata q l o = no_units
clear_units h (reserved_type c) q l o = no_units

clear_read : (scrambled : Bool) (payload : Bytes) (h : Option PayloadHeader) → length payload < 65536 → Octets payload
    → ClearOk (clear scrambled (units_read payload h))
unfolding clear
clear_read true payload h l o = no_units
clear_read false payload None l o = no_units
clear_read false payload (Some h) l o =
    clear_units h h.fragment_type (declared_of payload) (omega (arith, length-take (be 2 payload 0 + 2) payload)) (octets_take (be 2 payload 0 + 2) payload o)

mpu_small : (payload : Bytes) → Octets payload → mpu_number (header_in (payload_header payload)) < 4294967296
unfolding payload_header
mpu_small b o =
    let P : Option PayloadHeader → Type 0 = λ h. mpu_number (header_in h) < 4294967296 in
    cond_elim P (ltb (length b) 2) (λ e. omega arith) (λ e.
    cond_elim P (ltb (length b) (be 2 b 0 + 2)) (λ e. omega arith) (λ e.
    cond_elim P (ltb (length b) 8) (λ e. omega arith) (λ e. be_small b o 4 4)))

media_ok : (h : Header) (payload : Bytes) → h.packet_id < 65536 → h.sequence < 4294967296 → length payload < 65536 → Octets payload
    → MediaOk (media_of h payload)
unfolding media_of readable
media_ok h payload i n l o =
    let c = clear_read h.scramble_info payload (header_in (payload_header payload)) l o in
    record { id = i; number = n; mpu = mpu_small payload o; payload_units = c.payload_units; long = c.long; raw = omega (arith, length-drop 8 payload); octets = octets_drop 8 payload o }

-- a timestamp of 8 bytes, where there is one
abbrev pub TimeOk : Option ℕ → Type 0
TimeOk None = Unit {0}
TimeOk (Some t) = t < 18446744073709551616

-- a packet
abbrev pub PacketOk : Packet → Type 0
PacketOk ip_error = Unit {0}
PacketOk (ntp t) = TimeOk t
PacketOk non_mmtp_of = Unit {0}
PacketOk (media m) = MediaOk m
PacketOk (message c) = (c.id < 65536) × (c.number < 4294967296)
PacketOk (control bs) = Unit {0}
PacketOk other = Unit {0}

type_ok : (h : Header) (payload : Bytes) (t : PayloadType) → h.packet_id < 65536 → h.sequence < 4294967296 → length payload < 65536
    → Octets payload → PacketOk (by_type h payload t)
type_ok h payload Mpu i n l o = media_ok h payload i n l o
type_ok h payload Messages i n l o = (i, n)
type_ok h payload GenericObject i n l o = tt
type_ok h payload FecRepair i n l o = tt
type_ok h payload (Reserved c) i n l o = tt

mmtp_ok : (b : Bytes) (p : Option MmtpPacket) → HeaderIs b p → length b < 65536 → Octets b → PacketOk (mmtp_in b p)
mmtp_ok b None h l o = tt
mmtp_ok b (Some p) h l o =
    type_ok p.header (drop p.start b) p.header.payload_type (rw h.0 (be_small b o 2 2)) (rw h.1 (be_small b o 4 8))
    (omega (arith, length-drop p.start b)) (octets_drop p.start b o)

port_ok : (b : Bytes) (port : ℕ) → length b < 65536 → Octets b → PacketOk (to_port b port)
port_ok b port l o =
    cond_elim PacketOk (port =? 123) (λ e. cond_elim TimeOk (ltb (length b) 48) (λ e. tt) (λ e. be_small b o 8 40)) (λ e. mmtp_ok b (mmtp_of b) (header_is b) l o)

flow_ok : (b : Bytes) (f : Option Flow) → length b < 65536 → Octets b → PacketOk (in_flow b f)
flow_ok b None l o = mmtp_ok b (mmtp_of b) (header_is b) l o
flow_ok b (Some f) l o = port_ok b f.dport l o

datagram_ok : (b : Bytes) (r : Result Datagram IpError) → length b < 65536 → Octets b → PacketOk (datagram_in b r)
datagram_ok b (Err e) l o = tt
datagram_ok b (Ok d) l o = flow_ok (drop d.start b) d.flow (omega (arith, length-drop d.start b)) (octets_drop d.start b o)

kind_ok : (b : Bytes) (k : PacketType) → length b < 65536 → Octets b → PacketOk (by_kind b k)
kind_ok b Ipv4 l o = datagram_ok b (ipv4_of b) l o
kind_ok b Ipv6 l o = datagram_ok b (ipv6_of b) l o
kind_ok b Compressed l o = datagram_ok b (compressed_of b) l o
kind_ok b Control l o = tt
kind_ok b Null l o = tt
kind_ok b (Other v) l o = tt

pub packet_ok : (kind : ℕ) (b : Bytes) → length b < 65536 → Octets b → PacketOk (classify kind b)
unfolding classify
packet_ok kind b l o = kind_ok b (packet_type kind) l o
