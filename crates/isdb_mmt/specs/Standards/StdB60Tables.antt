-- ARIB STD-B60: AMT (Table 5-2), MH-TOT (7-25), MPT (7-6) and PLT (7-11) as a conforming sender writes them, and what it
-- means to read them right.
use Rattle.std.specs.Prelude.{◌≡◌, ℕ, ◌+◌, ◌^◌, ◌<◌, Bool, List, [], ◌∷◌, ◌++◌, map, length, Ok, Some}
use Rattle.isdb_tlv.specs.Guards.{◌=?◌}
use Rattle.isdb_tlv.specs.Fields.{Field, field, bits, packed, written, Fit}
use Rattle.isdb_tlv.specs.declared.ip.Address.TheVariants.{V4, V6}
use Rattle.isdb_mmt.specs.Formats.Part.{part_at, part_of}
use Rattle.isdb_mmt.specs.Standards.StdB60.{Descriptor, loop_sent, LoopConforming, SentLocation, location_sent, LocationConforming, location_seen, Header, HeaderConforming, header_seen, section_sent, with_crc}
use Rattle.isdb_mmt.specs.Standards.StdB60Sections.{All}
use Rattle.isdb_mmt.specs.Formats.Amt.{amt_of, services_from}
use Rattle.isdb_mmt.specs.Formats.Tot.{tot_of}
use Rattle.isdb_mmt.specs.Formats.Mpt.{mpt_of, assets_from, locations_of}
use Rattle.isdb_mmt.specs.Formats.Plt.{plt_of, packages_of, deliveries_from}
use Rattle.isdb_mmt.specs.declared.location.Location.{Location}
use Rattle.isdb_mmt.specs.declared.table.amt.AmtService.{AmtService}
use Rattle.isdb_mmt.specs.declared.table.mpt.Asset.{Asset}
use Rattle.isdb_mmt.specs.declared.table.plt.Package.{Package}
use Rattle.isdb_mmt.specs.declared.table.plt.IpDelivery.{IpDelivery}

-- AMT: source and destination of a service, IPv4 or IPv6 in halves
pub data Flow : Type 0 where
  -- source, its mask, destination, its mask
  flow4 : ℕ → ℕ → ℕ → ℕ → Flow
  flow6 : ℕ → ℕ → ℕ → ℕ → ℕ → ℕ → Flow

abbrev pub flow_fields : Flow → List Field
flow_fields (flow4 s sm d dm) = field 4 s ∷ field 1 sm ∷ field 4 d ∷ field 1 dm ∷ []
flow_fields (flow6 sh sl sm dh dl dm) = field 8 sh ∷ field 8 sl ∷ field 1 sm ∷ field 8 dh ∷ field 8 dl ∷ field 1 dm ∷ []

abbrev pub is_ipv6 : Flow → ℕ
is_ipv6 (flow4 s sm d dm) = 0
is_ipv6 (flow6 sh sl sm dh dl dm) = 1

pub record SentFlow : Type 0 where
  pub service_id : ℕ
  pub reserved : ℕ
  pub flow : Flow
  -- bytes behind the addresses in the service's loop
  pub private : List ℕ

-- the service's loop
abbrev pub flow_loop : SentFlow → List ℕ
flow_loop x = written (flow_fields x.flow) ++ x.private

-- service id 16 bits, IP version 1, reserved 5, length of the loop 10, the loop
abbrev pub flow_sent : SentFlow → List ℕ
flow_sent x =
    written (field 2 x.service_id ∷ field 2 (packed (bits 1 (is_ipv6 x.flow) ∷ bits 5 x.reserved ∷ bits 10 (length (flow_loop x)) ∷ [])) ∷ [])
    ++ flow_loop x

abbrev pub flows_sent : List SentFlow → List ℕ
flows_sent [] = []
flows_sent (x ∷ l) = flow_sent x ++ flows_sent l

pub record FlowConforming (x : SentFlow) : Type 0 where
  pub service_id : x.service_id < 2 ^ 16
  pub reserved : x.reserved < 2 ^ 5
  pub flow : Fit (flow_fields x.flow)
  pub short : length (flow_loop x) < 2 ^ 10

abbrev pub flow_seen : SentFlow → Flow → AmtService
flow_seen x (flow4 s sm d dm) =
    record { service_id = x.service_id; src = V4 s; src_mask = sm; dst = V4 d; dst_mask = dm }
flow_seen x (flow6 sh sl sm dh dl dm) =
    record { service_id = x.service_id; src = V6 sh sl; src_mask = sm; dst = V6 dh dl; dst_mask = dm }

pub record SentAmt : Type 0 where
  pub header : Header
  pub reserved : ℕ
  pub services : List SentFlow

-- number of services 10 bits, reserved 6, services
abbrev pub amt_body_sent : SentAmt → List ℕ
amt_body_sent t =
    written (field 2 (packed (bits 10 (length t.services) ∷ bits 6 t.reserved ∷ [])) ∷ []) ++ flows_sent t.services

pub record AmtConforming (t : SentAmt) : Type 0 where
  pub header : HeaderConforming t.header
  pub reserved : t.reserved < 2 ^ 6
  pub services : All FlowConforming t.services
  pub few : length t.services < 2 ^ 10
  pub short : length (amt_body_sent t) + 9 < 2 ^ 12

pub record AmtRead (t : SentAmt) : Type 0 where
  pub section : amt_of (section_sent t.header (amt_body_sent t)) ≡ Ok (header_seen t.header (length (amt_body_sent t)), record { services = length t.services })
  pub services : services_from (length t.services) (amt_body_sent t) 2 ≡ Some (map (λ x. flow_seen x x.flow) t.services)

-- MH-TOT: a section of the short form with a CRC
pub record SentTot : Type 0 where
  pub table_id : ℕ
  pub reserved : ℕ
  pub jst : ℕ
  pub reserved2 : ℕ
  pub descriptors : List Descriptor

abbrev pub tot_fields : SentTot → List Field
tot_fields t =
    field 1 t.table_id
    ∷ field 2 (packed (bits 4 t.reserved ∷ bits 12 (length (loop_sent t.descriptors) + 11) ∷ []))
    ∷ field 5 t.jst
    ∷ field 2 (packed (bits 4 t.reserved2 ∷ bits 12 (length (loop_sent t.descriptors)) ∷ []))
    ∷ []

unfoldable pub tot_sent : SentTot → List ℕ
tot_sent t = with_crc (written (tot_fields t) ++ loop_sent t.descriptors)

pub record TotConforming (t : SentTot) : Type 0 where
  pub table_id : t.table_id < 2 ^ 8
  pub reserved : t.reserved < 2 ^ 4
  pub jst : t.jst < 2 ^ 40
  pub reserved2 : t.reserved2 < 2 ^ 4
  pub descriptors : LoopConforming t.descriptors
  pub short : length (loop_sent t.descriptors) + 11 < 2 ^ 12

pub record TotRead (t : SentTot) : Type 0 where
  pub section : tot_of (tot_sent t) ≡ record {
    result = Ok (record { jst = t.jst; descriptors = part_at 10 (length (loop_sent t.descriptors)) });
    breaks = 0;
  }
  pub descriptors : part_of (tot_sent t) (part_at 10 (length (loop_sent t.descriptors))) ≡ loop_sent t.descriptors

-- MPT: an asset
abbrev pub locations_sent : List SentLocation → List ℕ
locations_sent [] = []
locations_sent (p ∷ ps) = location_sent p ++ locations_sent ps

pub record SentAsset : Type 0 where
  pub identifier_type : ℕ
  pub id_scheme : ℕ
  pub asset_id : List ℕ
  pub asset_type : ℕ
  pub reserved : ℕ
  pub clock_relation : ℕ
  pub locations : List SentLocation
  pub descriptors : List Descriptor

abbrev pub asset_head : SentAsset → List Field
asset_head a = field 1 a.identifier_type ∷ field 4 a.id_scheme ∷ field 1 (length a.asset_id) ∷ []

abbrev pub asset_middle : SentAsset → List Field
asset_middle a =
    field 4 a.asset_type
    ∷ field 1 (packed (bits 7 a.reserved ∷ bits 1 a.clock_relation ∷ []))
    ∷ field 1 (length a.locations)
    ∷ []

abbrev pub asset_sent : SentAsset → List ℕ
asset_sent a =
    written (asset_head a) ++ a.asset_id ++ written (asset_middle a) ++ locations_sent a.locations
    ++ written (field 2 (length (loop_sent a.descriptors)) ∷ []) ++ loop_sent a.descriptors

abbrev pub assets_sent : List SentAsset → List ℕ
assets_sent [] = []
assets_sent (a ∷ l) = asset_sent a ++ assets_sent l

pub record AssetConforming (a : SentAsset) : Type 0 where
  pub identifier_type : a.identifier_type < 2 ^ 8
  pub id_scheme : a.id_scheme < 2 ^ 32
  pub asset_id : length a.asset_id < 2 ^ 8
  pub asset_type : a.asset_type < 2 ^ 32
  pub reserved : a.reserved < 2 ^ 7
  pub clock_relation : a.clock_relation < 2
  pub places : All LocationConforming a.locations
  pub locations : length a.locations < 2 ^ 8
  pub descriptors : LoopConforming a.descriptors
  pub loop : length (loop_sent a.descriptors) < 2 ^ 16

-- an asset's values: its fields, its locations, and the bytes of its id and its descriptors
pub record AssetValue : Type 0 where
  pub identifier_type : ℕ
  pub id_scheme : ℕ
  pub asset_id : List ℕ
  pub asset_type : ℕ
  pub clock_relation : Bool
  pub locations : List Location
  pub loop : List ℕ

abbrev pub asset_seen : List ℕ → Asset → AssetValue
asset_seen s a =
    record {
      identifier_type = a.identifier_type;
      id_scheme = a.asset_id_scheme;
      asset_id = part_of s a.asset_id;
      asset_type = a.asset_type;
      clock_relation = a.clock_relation;
      locations = locations_of a.locations s a.locations_start;
      loop = part_of s a.descriptors;
    }

abbrev pub asset_value : SentAsset → AssetValue
asset_value a =
    record {
      identifier_type = a.identifier_type;
      id_scheme = a.id_scheme;
      asset_id = a.asset_id;
      asset_type = a.asset_type;
      clock_relation = a.clock_relation =? 1;
      locations = map location_seen a.locations;
      loop = loop_sent a.descriptors;
    }

pub record SentMpt : Type 0 where
  pub table_id : ℕ
  pub version : ℕ
  pub reserved : ℕ
  pub mode : ℕ
  pub package_id : List ℕ
  pub descriptors : List Descriptor
  pub assets : List SentAsset

-- what stands behind the table's length
abbrev pub mpt_rest : SentMpt → List ℕ
mpt_rest t =
    written (field 1 (packed (bits 6 t.reserved ∷ bits 2 t.mode ∷ [])) ∷ field 1 (length t.package_id) ∷ []) ++ t.package_id
    ++ written (field 2 (length (loop_sent t.descriptors)) ∷ []) ++ loop_sent t.descriptors
    ++ written (field 1 (length t.assets) ∷ []) ++ assets_sent t.assets

abbrev pub table_head : ℕ → ℕ → ℕ → List Field
table_head id version n = field 1 id ∷ field 1 version ∷ field 2 n ∷ []

unfoldable pub mpt_sent : SentMpt → List ℕ
mpt_sent t = written (table_head t.table_id t.version (length (mpt_rest t))) ++ mpt_rest t

pub record MptConforming (t : SentMpt) : Type 0 where
  pub table_id : t.table_id < 2 ^ 8
  pub version : t.version < 2 ^ 8
  pub reserved : t.reserved < 2 ^ 6
  pub mode : t.mode < 2 ^ 2
  pub package_id : length t.package_id < 2 ^ 8
  pub descriptors : LoopConforming t.descriptors
  pub assets : All AssetConforming t.assets
  pub few : length t.assets < 2 ^ 8
  pub short : length (mpt_rest t) < 2 ^ 16

-- where the descriptors and the assets start
abbrev pub mpt_loop_start : SentMpt → ℕ
mpt_loop_start t = length t.package_id + 8

abbrev pub mpt_assets_start : SentMpt → ℕ
mpt_assets_start t = mpt_loop_start t + length (loop_sent t.descriptors) + 1

pub record MptRead (t : SentMpt) : Type 0 where
  pub table : mpt_of (mpt_sent t) ≡ record {
    mpt = Some (record {
      table_id = t.table_id;
      version = t.version;
      mode = t.mode;
      package_id = part_at 6 (length t.package_id);
      descriptors = part_at (mpt_loop_start t) (length (loop_sent t.descriptors));
      assets = length t.assets;
      start = mpt_assets_start t;
    });
    breaks = 0;
  }
  pub package_id : part_of (mpt_sent t) (part_at 6 (length t.package_id)) ≡ t.package_id
  pub descriptors : part_of (mpt_sent t) (part_at (mpt_loop_start t) (length (loop_sent t.descriptors))) ≡ loop_sent t.descriptors
  pub assets : map (asset_seen (mpt_sent t)) (assets_from (length t.assets) (mpt_sent t) (mpt_assets_start t)).found ≡ map asset_value t.assets

-- PLT: a package, and an IP delivery
pub record SentPackage : Type 0 where
  pub package_id : List ℕ
  pub location : SentLocation

abbrev pub package_sent : SentPackage → List ℕ
package_sent p = written (field 1 (length p.package_id) ∷ []) ++ p.package_id ++ location_sent p.location

abbrev pub packages_sent : List SentPackage → List ℕ
packages_sent [] = []
packages_sent (p ∷ l) = package_sent p ++ packages_sent l

pub record PackageConforming (p : SentPackage) : Type 0 where
  pub package_id : length p.package_id < 2 ^ 8
  pub location : LocationConforming p.location

abbrev pub package_seen : List ℕ → Package → List ℕ × Location
package_seen s p = (part_of s p.package_id, p.location)

abbrev pub package_value : SentPackage → List ℕ × Location
package_value p = (p.package_id, location_seen p.location)

-- the location of an IP delivery: IPv4 or IPv6 addresses and port, or a URL
pub data Delivery : Type 0 where
  over_ipv4 : ℕ → ℕ → ℕ → Delivery
  over_ipv6 : ℕ → ℕ → ℕ → ℕ → ℕ → Delivery
  at_url : List ℕ → Delivery

abbrev pub delivery_type : Delivery → ℕ
delivery_type (over_ipv4 s d p) = 1
delivery_type (over_ipv6 sh sl dh dl p) = 2
delivery_type (at_url b) = 5

abbrev pub delivery_location : Delivery → List ℕ
delivery_location (over_ipv4 s d p) = written (field 4 s ∷ field 4 d ∷ field 2 p ∷ [])
delivery_location (over_ipv6 sh sl dh dl p) = written (field 8 sh ∷ field 8 sl ∷ field 8 dh ∷ field 8 dl ∷ field 2 p ∷ [])
delivery_location (at_url b) = written (field 1 (length b) ∷ []) ++ b

abbrev pub DeliveryConforming : Delivery → Type 0
DeliveryConforming (over_ipv4 s d p) = (s < 2 ^ 32) × (d < 2 ^ 32) × (p < 2 ^ 16)
DeliveryConforming (over_ipv6 sh sl dh dl p) = (sh < 2 ^ 64) × (sl < 2 ^ 64) × (dh < 2 ^ 64) × (dl < 2 ^ 64) × (p < 2 ^ 16)
DeliveryConforming (at_url b) = length b < 2 ^ 8

pub record SentDelivery : Type 0 where
  pub file_id : ℕ
  pub place : Delivery
  pub loop : List ℕ

abbrev pub delivery_sent : SentDelivery → List ℕ
delivery_sent x =
    written (field 4 x.file_id ∷ field 1 (delivery_type x.place) ∷ []) ++ delivery_location x.place
    ++ written (field 2 (length x.loop) ∷ []) ++ x.loop

abbrev pub deliveries_sent : List SentDelivery → List ℕ
deliveries_sent [] = []
deliveries_sent (x ∷ l) = delivery_sent x ++ deliveries_sent l

pub record SentDeliveryConforming (x : SentDelivery) : Type 0 where
  pub file_id : x.file_id < 2 ^ 32
  pub place : DeliveryConforming x.place
  pub loop : length x.loop < 2 ^ 16

abbrev pub delivery_value : SentDelivery → IpDelivery
delivery_value x = record { transport_file_id = x.file_id; location_type = delivery_type x.place }

pub record SentPlt : Type 0 where
  pub table_id : ℕ
  pub version : ℕ
  pub packages : List SentPackage
  pub deliveries : List SentDelivery

abbrev pub plt_rest : SentPlt → List ℕ
plt_rest t =
    written (field 1 (length t.packages) ∷ []) ++ packages_sent t.packages
    ++ (written (field 1 (length t.deliveries) ∷ []) ++ deliveries_sent t.deliveries)

unfoldable pub plt_sent : SentPlt → List ℕ
plt_sent t = written (table_head t.table_id t.version (length (plt_rest t))) ++ plt_rest t

pub record PltConforming (t : SentPlt) : Type 0 where
  pub table_id : t.table_id < 2 ^ 8
  pub version : t.version < 2 ^ 8
  pub packages : All PackageConforming t.packages
  pub few_packages : length t.packages < 2 ^ 8
  pub deliveries : All SentDeliveryConforming t.deliveries
  pub few_deliveries : length t.deliveries < 2 ^ 8
  pub short : length (plt_rest t) < 2 ^ 16

abbrev pub plt_deliveries_start : SentPlt → ℕ
plt_deliveries_start t = 6 + length (packages_sent t.packages)

pub record PltRead (t : SentPlt) : Type 0 where
  pub table : plt_of (plt_sent t) ≡ Some (record {
    version = t.version;
    packages = length t.packages;
    ip_deliveries = length t.deliveries;
    deliveries_start = plt_deliveries_start t;
  })
  pub packages : map (package_seen (plt_sent t)) (packages_of (length t.packages) (plt_sent t) 5) ≡ map package_value t.packages
  pub deliveries : deliveries_from (length t.deliveries) (plt_sent t) (plt_deliveries_start t) ≡ Some (map delivery_value t.deliveries)

-- proved in proofs/StdB60Short.antt
abbrev pub AmtTheorem : Type 0
AmtTheorem = (t : SentAmt) → AmtConforming t → AmtRead t

abbrev pub TotTheorem : Type 0
TotTheorem = (t : SentTot) → TotConforming t → TotRead t

-- proved in proofs/StdB60Tables.antt
abbrev pub MptTheorem : Type 0
MptTheorem = (t : SentMpt) → MptConforming t → MptRead t

abbrev pub PltTheorem : Type 0
PltTheorem = (t : SentPlt) → PltConforming t → PltRead t
