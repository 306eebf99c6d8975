-- MPT and PLT as whole values: every field, id, location and descriptor, with their bytes, as a reader of a kept table gets them
-- by the steps of Mpt and Plt. That the steps give these values is Walks.
use Rattle.std.specs.Prelude.{ℕ, List, drop, None, Some, Option}
use Rattle.isdb_mmt.specs.Formats.Part.{part_of}
use Rattle.isdb_mmt.specs.Decoder.Kept.{declared_table}
use Rattle.isdb_mmt.specs.WholeValues.Steps.{Stood, malformed, element, Found, counted}
use Rattle.isdb_mmt.specs.WholeValues.WholeDescriptors.{WholeLocation, whole_location, location_seen, WholeDescriptor, loop_in}
use Rattle.isdb_mmt.specs.Formats.Mpt.{asset_at_of, mpt_of}
use Rattle.isdb_mmt.specs.Formats.Plt.{package_at_of, delivery_at_of, plt_of}
use Rattle.isdb_mmt.specs.declared.table.mpt.Asset.{Asset}
use Rattle.isdb_mmt.specs.declared.table.mpt.Mpt.{Mpt}
use Rattle.isdb_mmt.specs.declared.table.plt.Package.{Package}
use Rattle.isdb_mmt.specs.declared.table.plt.IpDelivery.{IpDelivery}
use Rattle.isdb_mmt.specs.declared.table.plt.Plt.{Plt}

-- MPT: its package id and descriptors; of each asset its id, locations and descriptors
pub record WholeAsset : Type 0 where
  pub asset : Asset
  pub asset_id : List ℕ
  pub locations : List WholeLocation
  pub descriptors : Found WholeDescriptor

abbrev pub whole_asset : List ℕ → Asset → WholeAsset
whole_asset s a =
    record {
      asset = a;
      asset_id = part_of s a.asset_id;
      locations = (counted (location_seen s) a.locations a.locations_start).found;
      descriptors = loop_in (part_of s a.descriptors);
    }

abbrev pub asset_told : List ℕ → Option (Asset × ℕ) → Stood WholeAsset
asset_told s None = malformed
asset_told s (Some (a, next)) = element (whole_asset s a) next

abbrev pub asset_seen : List ℕ → ℕ → Stood WholeAsset
asset_seen s at = asset_told s (asset_at_of s at)

pub record WholeMpt : Type 0 where
  pub mpt : Mpt
  pub package_id : List ℕ
  pub descriptors : Found WholeDescriptor
  pub assets : List WholeAsset

abbrev pub whole_mpt : List ℕ → Mpt → WholeMpt
whole_mpt s t =
    record {
      mpt = t;
      package_id = part_of s t.package_id;
      descriptors = loop_in (part_of s t.descriptors);
      assets = (counted (asset_seen s) t.assets t.start).found;
    }

abbrev pub mpt_told : List ℕ → Option Mpt → Option WholeMpt
mpt_told s None = None
mpt_told s (Some t) = Some (whole_mpt s t)

abbrev pub mpt_value : List ℕ → Option WholeMpt
mpt_value s = mpt_told (declared_table s) (mpt_of s).mpt

-- PLT: each package by its id and its location; the deliveries
pub record WholePackage : Type 0 where
  pub package_id : List ℕ
  pub location : WholeLocation

abbrev pub whole_package : List ℕ → Package → WholePackage
whole_package s p =
    record {
      package_id = part_of s p.package_id;
      location = whole_location (drop p.location_start s) p.location;
    }

abbrev pub package_told : List ℕ → Option (Package × ℕ) → Stood WholePackage
package_told s None = malformed
package_told s (Some (p, next)) = element (whole_package s p) next

abbrev pub package_seen : List ℕ → ℕ → Stood WholePackage
package_seen s at = package_told s (package_at_of s at)

abbrev pub delivery_told : Option (IpDelivery × ℕ) → Stood IpDelivery
delivery_told None = malformed
delivery_told (Some (x, next)) = element x next

abbrev pub delivery_seen : List ℕ → ℕ → Stood IpDelivery
delivery_seen s at = delivery_told (delivery_at_of s at)

pub record WholePlt : Type 0 where
  pub plt : Plt
  pub packages : List WholePackage
  pub deliveries : List IpDelivery

abbrev pub whole_plt : List ℕ → Plt → WholePlt
whole_plt s t =
    record {
      plt = t;
      packages = (counted (package_seen s) t.packages 5).found;
      deliveries = (counted (delivery_seen s) t.ip_deliveries t.deliveries_start).found;
    }

abbrev pub plt_told : List ℕ → Option Plt → Option WholePlt
plt_told s None = None
plt_told s (Some t) = Some (whole_plt s t)

abbrev pub plt_value : List ℕ → Option WholePlt
plt_value s = plt_told (declared_table s) (plt_of s)
