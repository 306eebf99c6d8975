-- Parts lie within their bytes. Assumes nothing.
use Rattle.isdb_mmt.specs.declared.table.bit.Bit.{Bit}
use Rattle.isdb_mmt.specs.declared.table.tot.Tot.{Tot}
use Rattle.isdb_mmt.specs.declared.table.section.Parsed.{Parsed}
use Rattle.std.specs.Prelude.{None, Option, Some}
use Rattle.isdb_mmt.specs.declared.timestamp.Extended.{Extended}
use Rattle.std.proofs.Common.{ℕ, ◌+◌, ◌-◌, ◌≤◌, Bool, not, eqb, ltb, leb, List, length, get_or, take, drop, arith, ltb-false, leb-false}
use Rattle.isdb_tlv.specs.Bytes.{be}
use Rattle.isdb_tlv.specs.Crc.{crc_of}
use Rattle.isdb_tlv.proofs.Guards.{cond_elim}
use Rattle.isdb_mmt.specs.Formats.Part.{part_at, part_of}
use Rattle.isdb_mmt.specs.Formats.Location.{sized, url_of, location_of, ipv4_at, ipv6_at}
use Rattle.isdb_mmt.specs.Formats.Timestamp.{mpu_at, extended_of}
use Rattle.isdb_mmt.specs.Formats.Desc.{step_at, location_in, access_control, scrambler, stream_identifier, service_text, short_event_of, hevc, extended_in, extended_timestamp, descriptor_of}
use Rattle.isdb_mmt.specs.Formats.Section.{length12, long_section_of, entries_from}
use Rattle.isdb_mmt.specs.Formats.Mpt.{locations_end, asset_fields, asset_behind, asset_at_of, assets_from, mpt_in, mpt_assets, mpt_table, mpt_of}
use Rattle.isdb_mmt.specs.Formats.Plt.{package_in, package_at_of}
use Rattle.isdb_mmt.specs.Formats.Eit.{event_step}
use Rattle.isdb_mmt.specs.Formats.Sdt.{service_step}
use Rattle.isdb_mmt.specs.Formats.Bit.{broadcaster_step, bit_body, bit_of}
use Rattle.isdb_mmt.specs.Formats.Nit.{streams_part, stream_step, tlv_step_at, nit_body, nit_of}
use Rattle.isdb_mmt.specs.Formats.Tot.{tot_fields_in, tot_fields, tot_of}
use Rattle.isdb_mmt.specs.Decoder.Kept.{declared_table, declared_section}
use Rattle.isdb_mmt.specs.WholeValues.WholeParts.{UrlLies, LocatedLies, LocationLies, RawLies, TextsLie, UnitsLie, TlvLies, MptLies, AssetLies, PackageLies, BodyLies, EventLies, ServiceLies, BroadcasterLies, StreamLies, BitLies, NitLies, TotLies, PartsTheorem}
use Rattle.isdb_mmt.specs.declared.location.Location.{Location}
use Rattle.isdb_mmt.specs.declared.location.Location.TheVariants.{SameFlow, Mpeg2Ts, Mpeg2TsIpv6, Url}
use Rattle.isdb_mmt.specs.Formats.Steps.{MpuStep}
use Rattle.isdb_mmt.specs.declared.walk_step.WalkStep.TheVariants.{End as no_mpu, Malformed as broken_mpu, Entry as an_mpu}
use Rattle.isdb_mmt.specs.declared.desc.Step.{Step}
use Rattle.isdb_mmt.specs.declared.desc.Step.TheVariants.{End, Broken, Raw}
use Rattle.isdb_mmt.specs.declared.table.section.SectionHeader.{SectionHeader}
use Rattle.isdb_mmt.specs.declared.table.mpt.MptParsed.{MptParsed}
use Rattle.isdb_mmt.proofs.Entries.{section_elim, entry_elim}
use Rattle.isdb_mmt.proofs.Descriptors.{Inside, step_inside}
use Rattle.isdb_mmt.proofs.Timestamps.{Inside as MpuInside, mpu_inside}
use Rattle.isdb_mmt.proofs.Walks.{cut_elim}

-- ---- locations

module _ (s : List ℕ) where
  sized_lies : (n : ℕ) (l : Location) → (n ≤ length s → UrlLies s l) → LocatedLies s (sized s n l)
  unfolding sized
  sized_lies n l h = cond_elim (LocatedLies s) (ltb (length s) n) (λ e. tt) (λ e. h (ltb-false (length s) n e))

  url_lies : LocatedLies s (url_of s)
  unfolding url_of
  url_lies =
      let n = get_or s 1 0 in
      cond_elim (LocatedLies s) (ltb (length s) 2) (λ e. tt) (λ e. sized_lies (n + 2) (Url (part_at 2 n)) (λ h. omega arith))

  location_lies : LocatedLies s (location_of s)
  unfolding location_of
  location_lies =
      let t = get_or s 0 0 in
      cond_elim (LocatedLies s) (ltb (length s) 1) (λ e. tt) (λ e.
      cond_elim (LocatedLies s) (eqb t 0) (λ e0. sized_lies 3 (SameFlow (be 2 s 1)) (λ h. tt)) (λ e0.
      cond_elim (LocatedLies s) (eqb t 1) (λ e1. sized_lies 13 (ipv4_at s) (λ h. tt)) (λ e1.
      cond_elim (LocatedLies s) (eqb t 2) (λ e2. sized_lies 37 (ipv6_at s) (λ h. tt)) (λ e2.
      cond_elim (LocatedLies s) (eqb t 3) (λ e3. sized_lies 7 (Mpeg2Ts (be 2 s 1) (be 2 s 3) (be 2 s 5)) (λ h. tt)) (λ e3.
      cond_elim (LocatedLies s) (eqb t 4) (λ e4. sized_lies 37 (Mpeg2TsIpv6 (be 2 s 33) (be 2 s 35)) (λ h. tt)) (λ e4.
      cond_elim (LocatedLies s) (eqb t 5) (λ e5. url_lies) (λ e5. tt)))))))

maybe_lies : (s : List ℕ) (d : Option (Location × ℕ)) → LocatedLies s d → LocationLies s (location_in d)
maybe_lies s None w = tt
maybe_lies s (Some (l, taken)) w = w

-- ---- descriptors

module _ (s : List ℕ) where
  raw_lies : (at : ℕ) (d : Step) → Inside s at d → RawLies s d
  raw_lies at End w = tt
  raw_lies at (Broken p) w = tt
  raw_lies at (Raw tag body next) w = omega (arith, w.ends, w.within)

  units_lie : (own : Bool) (at : ℕ) (d : MpuStep) → MpuInside s own at d → UnitsLie s d
  units_lie own at no_mpu w = tt
  units_lie own at broken_mpu w = tt
  units_lie own at (an_mpu m next) w = omega (arith, w.ends, w.within)

  tlv_lies : (at : ℕ) → TlvLies s (tlv_step_at s at)
  unfolding tlv_step_at
  tlv_lies at =
      let n = get_or s (at + 1) 0 in
      cond_elim (TlvLies s) (ltb (length s - at) 2) (λ e. tt) (λ e.
      cond_elim (TlvLies s) (ltb (length s - (at + 2)) n) (λ e1. tt) (λ e1.
      let a = ltb-false (length s - at) 2 e in let b = ltb-false (length s - (at + 2)) n e1 in omega arith))

  extended_lies : (m : Option Extended) → TextsLie s (extended_in s m)
  extended_lies None = omega arith
  extended_lies (Some e) = tt

  timestamp_lies : TextsLie s (extended_timestamp s)
  unfolding extended_timestamp
  timestamp_lies = extended_lies (extended_of s)

  control_lies : TextsLie s (access_control s)
  unfolding access_control
  control_lies =
      cond_elim (TextsLie s) (ltb (length s) 2) (λ e. omega arith) (λ e. maybe_lies (drop 2 s) (location_of (drop 2 s)) (location_lies (drop 2 s)))

  scrambler_lies : TextsLie s (scrambler s)
  unfolding scrambler
  scrambler_lies = cond_elim (TextsLie s) (ltb (length s) 2) (λ e. omega arith) (λ e. tt)

  stream_lies : TextsLie s (stream_identifier s)
  unfolding stream_identifier
  stream_lies = cond_elim (TextsLie s) (ltb (length s) 2) (λ e. omega arith) (λ e. tt)

  service_lies : TextsLie s (service_text s)
  unfolding service_text
  service_lies =
      let n = get_or s 1 0 + 3 in
      let m = get_or s (get_or s 1 0 + 2) 0 in
      cond_elim (TextsLie s) (ltb (length s) 2) (λ e. omega arith) (λ e.
      cond_elim (TextsLie s) (ltb (length s) n) (λ e1. omega arith) (λ e1.
      cond_elim (TextsLie s) (ltb (length s) (n + m)) (λ e2. omega arith) (λ e2.
      let a = ltb-false (length s) (n + m) e2 in (omega arith, a))))

  event_lies : TextsLie s (short_event_of s)
  unfolding short_event_of
  event_lies =
      let n = get_or s 3 0 + 6 in
      let m = be 2 s (get_or s 3 0 + 4) in
      cond_elim (TextsLie s) (ltb (length s) 4) (λ e. omega arith) (λ e.
      cond_elim (TextsLie s) (ltb (length s) n) (λ e1. omega arith) (λ e1.
      cond_elim (TextsLie s) (ltb (length s) (n + m)) (λ e2. omega arith) (λ e2.
      let a = ltb-false (length s) (n + m) e2 in (omega arith, a))))

  hevc_lies : TextsLie s (hevc s)
  unfolding hevc
  hevc_lies = cond_elim (TextsLie s) (ltb (length s) 12) (λ e. omega arith) (λ e. tt)

  texts_lie : (tag : ℕ) → TextsLie s (descriptor_of tag s)
  unfolding descriptor_of
  texts_lie tag =
      cond_elim (TextsLie s) (eqb tag 0x0001) (λ e. tt) (λ e.
      cond_elim (TextsLie s) (eqb tag 0x8026) (λ e. timestamp_lies) (λ e.
      cond_elim (TextsLie s) (eqb tag 0x8004) (λ e. control_lies) (λ e.
      cond_elim (TextsLie s) (eqb tag 0x8005) (λ e. scrambler_lies) (λ e.
      cond_elim (TextsLie s) (eqb tag 0x8011) (λ e. stream_lies) (λ e.
      cond_elim (TextsLie s) (eqb tag 0x8019) (λ e. service_lies) (λ e.
      cond_elim (TextsLie s) (eqb tag 0x800D) (λ e. tt) (λ e.
      cond_elim (TextsLie s) (eqb tag 0xF001) (λ e. event_lies) (λ e.
      cond_elim (TextsLie s) (eqb tag 0x8012) (λ e. tt) (λ e.
      cond_elim (TextsLie s) (eqb tag 0x800A) (λ e. hevc_lies) (λ e.
      cond_elim (TextsLie s) (eqb tag 0x8018) (λ e. omega arith) (λ e. omega arith)))))))))))

-- ---- MPT and PLT

module _ (s : List ℕ) where
  fields_lie : (p end : ℕ) → p + 6 + get_or s (p + 5) 0 ≤ length s → AssetLies s (asset_fields s p (p + 6 + get_or s (p + 5) 0) end)
  unfolding asset_fields
  fields_lie p end h =
      cond_elim (AssetLies s) (ltb (length s - end) 2) (λ e. tt) (λ e.
      cond_elim (AssetLies s) (ltb (length s - (end + 2)) (be 2 s end)) (λ e1. tt) (λ e1.
      let a = ltb-false (length s - end) 2 e in
      let b = ltb-false (length s - (end + 2)) (be 2 s end) e1 in
      (h, omega arith)))

  behind_lies : (p : ℕ) → p + 6 + get_or s (p + 5) 0 ≤ length s → (d : Option ℕ) → AssetLies s (asset_behind s p (p + 6 + get_or s (p + 5) 0) d)
  behind_lies p h None = tt
  behind_lies p h (Some end) = fields_lie p end h

  asset_lies : (p : ℕ) → AssetLies s (asset_at_of s p)
  unfolding asset_at_of
  asset_lies p =
      let q = p + 6 + get_or s (p + 5) 0 in
      cond_elim (AssetLies s) (ltb (length s - p) 6) (λ e. tt) (λ e.
      cond_elim (AssetLies s) (ltb (length s) q) (λ e1. tt) (λ e1.
      cond_elim (AssetLies s) (ltb (length s - q) 6) (λ e2. tt) (λ e2.
      behind_lies p (ltb-false (length s) q e1) (locations_end (get_or s (q + 5) 0) s (q + 6)))))

  assets_lie : get_or s 5 0 + 8 ≤ length s → (n : ℕ) → get_or s 5 0 + 8 + n ≤ length s → MptLies s (mpt_assets s (get_or s 5 0 + 8) n).mpt
  unfolding mpt_assets
  assets_lie a n h =
      let end = get_or s 5 0 + 8 + n in
      cond_elim (λ (r : MptParsed). MptLies s r.mpt) (ltb (length s - end) 1) (λ e. tt) (λ e.
      cond_elim (MptLies s) (assets_from (get_or s end 0) s (end + 1)).whole (λ w. (omega arith, h)) (λ w. tt))

  table_lies : MptLies s (mpt_table s).mpt
  unfolding mpt_table
  table_lies =
      let start = get_or s 5 0 + 8 in
      let n = be 2 s (get_or s 5 0 + 6) in
      cond_elim (λ (r : MptParsed). MptLies s r.mpt) (ltb (length s) 6) (λ e. tt) (λ e.
      cond_elim (λ (r : MptParsed). MptLies s r.mpt) (ltb (length s) start) (λ e1. tt) (λ e1.
      cond_elim (λ (r : MptParsed). MptLies s r.mpt) (ltb (length s - start) n) (λ e2. tt) (λ e2.
      let a = ltb-false (length s) start e1 in
      let b = ltb-false (length s - start) n e2 in
      assets_lie a n (omega arith))))

  package_in_lem : (at n : ℕ) → at + 1 + n ≤ length s → (d : Option (Location × ℕ)) → LocatedLies (drop (at + 1 + n) s) d → PackageLies s (package_in at n d)
  package_in_lem at n h None w = tt
  package_in_lem at n h (Some (l, taken)) w = (h, w)

  package_lies : (at : ℕ) → PackageLies s (package_at_of s at)
  unfolding package_at_of
  package_lies at =
      let n = get_or s at 0 in
      cond_elim (PackageLies s) (leb (length s) at) (λ e. tt) (λ e.
      cond_elim (PackageLies s) (ltb (length s - (at + 1)) n) (λ e1. tt) (λ e1.
      let b = ltb-false (length s - (at + 1)) n e1 in
      let a = leb-false (length s) at e in
      package_in_lem at n (omega arith) (location_of (drop (at + 1 + n) s)) (location_lies (drop (at + 1 + n) s))))

-- ---- sections

module _ (s : List ℕ) where
  body_lies : BodyLies s (long_section_of s)
  unfolding long_section_of
  body_lies =
      let n = length12 s 1 in
      cond_elim (BodyLies s) (ltb (length s) 3) (λ e. tt) (λ e.
      cond_elim (BodyLies s) (ltb n 9) (λ e1. tt) (λ e1.
      cond_elim (BodyLies s) (ltb (length s) (n + 3)) (λ e2. tt) (λ e2.
      cond_elim (BodyLies s) (not (eqb (crc_of (take (n + 3) s)) 0)) (λ e3. tt) (λ e3.
      let a = ltb-false n 9 e1 in
      let b = ltb-false (length s) (n + 3) e2 in
      omega arith))))

  events_lie : (at : ℕ) → EventLies s (event_step s at)
  unfolding event_step
  events_lie at = entry_elim (EventLies s) _ _ _ s 10 at tt tt (λ e next w. omega (arith, w.ends, w.within))

  services_lie : (at : ℕ) → ServiceLies s (service_step s at)
  unfolding service_step
  services_lie at = entry_elim (ServiceLies s) _ _ _ s 3 at tt tt (λ e next w. omega (arith, w.ends, w.within))

  broadcasters_lie : (at : ℕ) → BroadcasterLies s (broadcaster_step s at)
  unfolding broadcaster_step
  broadcasters_lie at = entry_elim (BroadcasterLies s) _ _ _ s 1 at tt tt (λ e next w. omega (arith, w.ends, w.within))

  streams_lie : (at : ℕ) → StreamLies s (stream_step s at)
  unfolding stream_step
  streams_lie at = entry_elim (StreamLies s) _ _ _ s 4 at tt tt (λ e next w. omega (arith, w.ends, w.within))

  bit_body_lem : (h : SectionHeader) → BitLies s (bit_body h (part_of s h.body)).result
  unfolding bit_body
  bit_body_lem h =
      let b = part_of s h.body in
      let n = length12 b 0 + 2 in
      cond_elim (λ (r : Parsed (SectionHeader × Bit)). BitLies s r.result) (ltb (length b) 2) (λ e. tt) (λ e.
      cond_elim (λ (r : Parsed (SectionHeader × Bit)). BitLies s r.result) (ltb (length b) n) (λ e1. tt) (λ e1.
      cond_elim (BitLies s) (entries_from b 1 n).whole (λ w. let a = ltb-false (length b) n e1 in omega arith) (λ w. tt)))

  nit_body_lem : (h : SectionHeader) → NitLies s (nit_body h (part_of s h.body))
  unfolding nit_body
  nit_body_lem h =
      let b = part_of s h.body in
      let n = length12 b 0 + 4 in
      let m = length12 b (length12 b 0 + 2) in
      cond_elim (NitLies s) (ltb (length b) 2) (λ e. tt) (λ e.
      cond_elim (NitLies s) (ltb (length b) n) (λ e1. tt) (λ e1.
      cond_elim (NitLies s) (ltb (length b - n) m) (λ e2. tt) (λ e2.
      let a = ltb-false (length b) n e1 in
      let c = ltb-false (length b - n) m e2 in
      cond_elim (NitLies s) (entries_from (part_of b (streams_part b)) 4 0).whole (λ w. (omega arith, omega arith)) (λ w. tt))))

  tot_fields_lem : TotLies s (tot_fields_in s).result
  tot_fields_lem =
      let n = length12 s 8 + 10 in
      cond_elim (λ (r : Parsed Tot). TotLies s r.result) (ltb (length s) n) (λ e. tt) (λ e.
      let a = ltb-false (length s) n e in omega arith)

bit_lies : (s : List ℕ) → BitLies s (bit_of s).result
unfolding bit_of
bit_lies s = section_elim (λ (r : Parsed (SectionHeader × Bit)). BitLies s r.result) _ bit_body s (λ e. tt) (bit_body_lem s) (long_section_of s)

nit_lies : (s : List ℕ) → NitLies s (nit_of s)
unfolding nit_of
nit_lies s = section_elim (NitLies s) _ nit_body s (λ e. tt) (nit_body_lem s) (long_section_of s)

tot_lies : (s : List ℕ) → TotLies (declared_section s) (tot_of s).result
unfolding tot_of tot_fields
tot_lies s =
    let n = length12 s 1 + 3 in
    cond_elim (λ (r : Parsed Tot). TotLies (declared_section s) r.result) (ltb (length s) 3) (λ e. tt) (λ e.
    cond_elim (λ (r : Parsed Tot). TotLies (declared_section s) r.result) (ltb (length12 s 1) 11) (λ e1. tt) (λ e1.
    cond_elim (λ (r : Parsed Tot). TotLies (declared_section s) r.result) (ltb (length s) n) (λ e2. tt) (λ e2.
    cond_elim (λ (r : Parsed Tot). TotLies (declared_section s) r.result) (not (eqb (crc_of (take n s)) 0)) (λ e3. tt) (λ e3.
    tot_fields_lem (declared_section s)))))

mpt_lies : (s : List ℕ) → MptLies (declared_table s) (mpt_of s).mpt
unfolding mpt_of
mpt_lies s = cut_elim s (λ p. MptLies (declared_table s) (mpt_in s p).mpt) tt (table_lies (declared_table s))

pub parts : PartsTheorem
parts =
    record {
      locations = location_lies;
      descriptors = λ s at. raw_lies s at (step_at s at) (step_inside s at);
      texts = λ tag s. texts_lie s tag;
      mpus = λ s own at. units_lie s own at (mpu_at s own at) (mpu_inside s own at);
      tlvs = tlv_lies;
      mpt = mpt_lies;
      assets = asset_lies;
      packages = package_lies;
      sections = body_lies;
      events = events_lie;
      services = services_lie;
      bit = bit_lies;
      broadcasters = broadcasters_lie;
      nit = nit_lies;
      streams = streams_lie;
      tot = tot_lies;
    }
