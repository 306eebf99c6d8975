-- Where a table parses, the steps from their starts give the elements of its whole value, one by one and as many as it says; none
-- is malformed. Of the bytes that each step looks at: `s` is the declared bytes of an MPT or a PLT, the body of a section.
use Rattle.std.specs.Prelude.{◌≡◌, ℕ, not, List, length, Ok, Some}
use Rattle.isdb_mmt.specs.Decoder.Kept.{declared_table, declared_section}
use Rattle.isdb_mmt.specs.WholeValues.Steps.{at_end, Counts, Ends, AllOf, last_of}
use Rattle.isdb_mmt.specs.WholeValues.WholeDescriptors.{location_seen, timestamp_seen, timestamps_in, unit_seen, units_in, mpu_seen_of, whole_extended, service_seen as listed_seen, services_in, genre_seen, genres_in, descriptor_seen, loop_in, tlv_seen, tlvs_in}
use Rattle.isdb_mmt.specs.Formats.Part.{part_of}
use Rattle.isdb_mmt.specs.Formats.Mpt.{asset_at_of, mpt_of}
use Rattle.isdb_mmt.specs.Formats.Plt.{plt_of}
use Rattle.isdb_mmt.specs.Formats.Amt.{amt_of}
use Rattle.isdb_mmt.specs.Formats.Eit.{eit_of}
use Rattle.isdb_mmt.specs.Formats.Sdt.{sdt_of}
use Rattle.isdb_mmt.specs.Formats.Bit.{bit_of}
use Rattle.isdb_mmt.specs.Formats.Nit.{nit_of}
use Rattle.isdb_mmt.specs.Formats.Tot.{tot_of}
use Rattle.isdb_mmt.specs.Formats.Timestamp.{mpu_at}
use Rattle.isdb_mmt.specs.Formats.Desc.{split_of, counted, descriptor_of}
use Rattle.isdb_mmt.specs.WholeValues.WholeSections.{behind as end_of, flow_seen, whole_amt, event_seen, whole_eit, service_seen, whole_sdt, broadcaster_seen, whole_bit, stream_seen, whole_nit, whole_tot}
use Rattle.isdb_mmt.specs.WholeValues.Whole.{whole_asset, asset_seen, whole_mpt, package_seen, delivery_seen, whole_plt}
use Rattle.isdb_mmt.specs.declared.table.mpt.Asset.{Asset}
use Rattle.isdb_mmt.specs.declared.table.mpt.Mpt.{Mpt}
use Rattle.isdb_mmt.specs.declared.table.plt.Plt.{Plt}
use Rattle.isdb_mmt.specs.declared.table.section.SectionHeader.{SectionHeader}
use Rattle.isdb_mmt.specs.declared.table.amt.Amt.{Amt}
use Rattle.isdb_mmt.specs.declared.table.eit.Eit.{Eit}
use Rattle.isdb_mmt.specs.declared.table.sdt.Sdt.{Sdt}
use Rattle.isdb_mmt.specs.declared.table.bit.Bit.{Bit}
use Rattle.isdb_mmt.specs.declared.table.nit.Nit.{Nit}
use Rattle.isdb_mmt.specs.declared.table.tot.Tot.{Tot}
use Rattle.isdb_mmt.specs.declared.part.Part.{Part}
use Rattle.isdb_mmt.specs.declared.timestamp.Extended.{Extended}
use Rattle.isdb_mmt.specs.declared.walk_step.WalkStep.TheVariants.{Entry as an_mpu}
use Rattle.isdb_mmt.specs.declared.timestamp.ExtendedMpu.{ExtendedMpu}
use Rattle.isdb_mmt.specs.declared.desc.Descriptor.TheVariants.{ExtendedTimestamp}

-- the assets of an MPT, and the locations of any asset that a step gives
abbrev pub AssetsWalk : List ℕ → Mpt → Type 0
AssetsWalk s t = Counts (asset_seen s) t.assets t.start (whole_mpt s t).assets

abbrev pub LocationsWalk : List ℕ → Asset → Type 0
LocationsWalk s a = Counts (location_seen s) a.locations a.locations_start (whole_asset s a).locations

abbrev pub MptTheorem : Type 0
MptTheorem = (s : List ℕ) (t : Mpt) → (mpt_of s).mpt ≡ Some t → AssetsWalk (declared_table s) t

abbrev pub AssetTheorem : Type 0
AssetTheorem = (s : List ℕ) (at next : ℕ) (a : Asset) → asset_at_of s at ≡ Some (a, next) → LocationsWalk s a

-- the packages and the deliveries of a PLT
pub record PltWalks (s : List ℕ) (t : Plt) : Type 0 where
  pub packages : Counts (package_seen s) t.packages 5 (whole_plt s t).packages
  pub deliveries : Counts (delivery_seen s) t.ip_deliveries t.deliveries_start (whole_plt s t).deliveries

abbrev pub PltTheorem : Type 0
PltTheorem = (s : List ℕ) (t : Plt) → plt_of s ≡ Some t → PltWalks (declared_table s) t

-- of a section whose body is `s`: the services of an AMT, the events of an EIT, the services of an SDT, the broadcasters of a BIT,
-- which stand behind its first descriptors, and the streams of a NIT, which stand in a part of their own
abbrev pub FlowsWalk : List ℕ → Amt → Type 0
FlowsWalk s t = Counts (flow_seen s) t.services 2 (whole_amt s t)

abbrev pub EventsWalk : List ℕ → Eit → Type 0
EventsWalk s t = AllOf (event_seen s) t.events 6 (whole_eit s t).events

abbrev pub ServicesWalk : List ℕ → Sdt → Type 0
ServicesWalk s t = AllOf (service_seen s) t.services 3 (whole_sdt s t).services

abbrev pub BroadcastersWalk : List ℕ → Bit → Type 0
BroadcastersWalk s t = AllOf (broadcaster_seen s) t.broadcasters (end_of t.descriptors) (whole_bit s t).broadcasters

abbrev pub StreamsWalk : List ℕ → Nit → Type 0
StreamsWalk s t = AllOf (stream_seen (part_of s t.loop_part)) t.streams 0 (whole_nit s t).streams

abbrev pub AmtTheorem : Type 0
AmtTheorem = (s : List ℕ) (h : SectionHeader) (t : Amt) → amt_of s ≡ Ok (h, t) → FlowsWalk (part_of s h.body) t

abbrev pub EitTheorem : Type 0
EitTheorem = (s : List ℕ) (h : SectionHeader) (t : Eit) → (eit_of s).result ≡ Ok (h, t) → EventsWalk (part_of s h.body) t

abbrev pub SdtTheorem : Type 0
SdtTheorem = (s : List ℕ) (h : SectionHeader) (t : Sdt) → (sdt_of s).result ≡ Ok (h, t) → ServicesWalk (part_of s h.body) t

abbrev pub BitTheorem : Type 0
BitTheorem = (s : List ℕ) (h : SectionHeader) (t : Bit) → (bit_of s).result ≡ Ok (h, t) → BroadcastersWalk (part_of s h.body) t

abbrev pub NitTheorem : Type 0
NitTheorem = (s : List ℕ) (h : SectionHeader) (t : Nit) → nit_of s ≡ Ok (h, t) → StreamsWalk (part_of s h.body) t

-- any bytes as a descriptor loop: its descriptors as many as `decode_all` counts, and behind them the end, or the one that does not
-- fit where it says that the loop breaks
pub record LoopWalk (s : List ℕ) : Type 0 where
  pub count : length (loop_in s).found ≡ (counted (split_of s)).count
  pub whole : (loop_in s).whole ≡ not (counted (split_of s)).broken
  pub ends : Ends (descriptor_seen s) 0 (loop_in s).found (last_of (loop_in s).whole)

abbrev pub LoopTheorem : Type 0
LoopTheorem = (s : List ℕ) → LoopWalk s

-- any bytes as a TLV-SI loop, and as the rows of an MPU timestamp, a service list and a content descriptor
pub record RowsWalk (s : List ℕ) : Type 0 where
  pub tlvs : Ends (tlv_seen s) 0 (tlvs_in s) at_end
  pub timestamps : Ends (timestamp_seen s) 0 (timestamps_in s) at_end
  pub services : Ends (listed_seen s) 0 (services_in s) at_end
  pub genres : Ends (genre_seen s) 0 (genres_in s) at_end

abbrev pub RowsTheorem : Type 0
RowsTheorem = (s : List ℕ) → RowsWalk s

-- the MPUs of a descriptor that was decoded as an extended timestamp; the access units of any MPU that a step gives
abbrev pub ExtendedTheorem : Type 0
ExtendedTheorem = (tag : ℕ) (s : List ℕ) (e : Extended) → descriptor_of tag s ≡ ExtendedTimestamp e
    → Ends (mpu_seen_of s e) e.start (whole_extended s e).mpus at_end

abbrev pub UnitsTheorem : Type 0
UnitsTheorem = (s : List ℕ) (e : Extended) (at next : ℕ) (m : ExtendedMpu) → mpu_at s e.own_pts_offset at ≡ an_mpu m next
    → Counts (unit_seen (part_of s m.units) e) m.access_units 0 (units_in (part_of s m.units) e m.access_units)

-- a TOT has its descriptors alone
abbrev pub TotTheorem : Type 0
TotTheorem = (s : List ℕ) (t : Tot) → (tot_of s).result ≡ Ok t → LoopWalk (part_of (declared_section s) t.descriptors)

-- a caller may leave bytes behind the declared ones: the walks and the whole values are the same
pub record BehindTheorem : Type 0 where
  pub assets : (s : List ℕ) (t : Mpt) → (mpt_of s).mpt ≡ Some t → AssetsWalk s t
  pub mpt : (s : List ℕ) (t : Mpt) → (mpt_of s).mpt ≡ Some t → whole_mpt s t ≡ whole_mpt (declared_table s) t
  pub packages : (s : List ℕ) (t : Plt) → plt_of s ≡ Some t → PltWalks s t
  pub plt : (s : List ℕ) (t : Plt) → plt_of s ≡ Some t → whole_plt s t ≡ whole_plt (declared_table s) t
  pub tot : (s : List ℕ) (t : Tot) → (tot_of s).result ≡ Ok t → whole_tot s t ≡ whole_tot (declared_section s) t

pub record WalksTheorem : Type 0 where
  pub mpt : MptTheorem
  pub assets : AssetTheorem
  pub plt : PltTheorem
  pub amt : AmtTheorem
  pub eit : EitTheorem
  pub sdt : SdtTheorem
  pub bit : BitTheorem
  pub nit : NitTheorem
  pub tot : TotTheorem
  pub loops : LoopTheorem
  pub rows : RowsTheorem
  pub extended_timestamps : ExtendedTheorem
  pub units : UnitsTheorem
  pub behind : BehindTheorem
