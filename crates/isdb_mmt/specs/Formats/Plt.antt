-- PLT: ARIB STD-B60, Table 7-11.
use Rattle.isdb_mmt.specs.declared.table.plt.Plt.{Plt}
use Rattle.isdb_mmt.specs.declared.location.Location.{Location}
use Rattle.std.specs.Prelude.{ℕ, ◌+◌, ◌-◌, Bool, not, List, [], ◌∷◌, length, take, drop, slice_index, slice_index_or, None, Some, Option, is_some}
use Rattle.isdb_tlv.specs.Guards.{◌<?◌, ◌≤?◌, ◌=?◌, ◌≠?◌}
use Rattle.std.specs.Prelude.{if◌then◌else◌}
use Rattle.isdb_tlv.specs.Bytes.{be}
use Rattle.isdb_tlv.specs.Walk.{Next, stop, more, run, also}
use Rattle.isdb_mmt.specs.Formats.Part.{part_at}
use Rattle.isdb_mmt.specs.Formats.Location.{location_of}
use Rattle.isdb_mmt.specs.Formats.Mpt.{declared_length_of}
use Rattle.isdb_mmt.specs.declared.table.plt.Package.{Package}
use Rattle.isdb_mmt.specs.declared.table.plt.IpDelivery.{IpDelivery}

-- a package: its id behind a length of 8 bits, then the location of its PA message
abbrev pub package_in : ℕ → ℕ → Option (Location × ℕ) → Option (Package × ℕ)
package_in at n None = None
package_in at n (Some (l, taken)) =
    Some (record { package_id = part_at (at + 1) n; location = l; location_start = at + 1 + n }, at + 1 + n + taken)

unfoldable pub package_at_of : List ℕ → ℕ → Option (Package × ℕ)
package_at_of s at =
    if length s ≤? at then None
    else if length s - (at + 1) <? slice_index_or s at 0 then None
    else package_in at (slice_index s at) (location_of (drop (at + 1 + slice_index s at) s))

-- behind `n` packages, the first of which stands at `at`
abbrev pub behind_package : Option (Package × ℕ) → Next (Option ℕ)
behind_package None = stop None
behind_package (Some (p, next)) = more next (λ end. end)

abbrev pub packages_end : ℕ → List ℕ → ℕ → Option ℕ
packages_end n s at = run (λ p. behind_package (package_at_of s p)) Some n at

-- those packages
abbrev pub package_item : Option (Package × ℕ) → Next (List Package)
package_item None = stop []
package_item (Some (p, next)) = more next (λ l. p ∷ l)

abbrev pub packages_of : ℕ → List ℕ → ℕ → List Package
packages_of n s at = run (λ p. package_item (package_at_of s p)) (λ p. []) n at

-- the location of an IP delivery, behind its type at the head of `s`: 10 bytes for IPv4, 34 for IPv6, a URL behind its length
unfoldable pub delivery_size : List ℕ → Option ℕ
delivery_size s =
    if slice_index_or s 0 0 =? 1 then Some 10
    else if slice_index_or s 0 0 =? 2 then Some 34
    else if slice_index_or s 0 0 ≠? 5 then None
    else if length s <? 2 then None
    else Some (slice_index s 1 + 1)

-- behind a location of `n` bytes stands the descriptors' length, which is not held against the end of the table
abbrev pub delivery_behind : List ℕ → ℕ → Option ℕ → Option (IpDelivery × ℕ)
delivery_behind s at None = None
delivery_behind s at (Some n) =
    if length s <? at + 7 + n then None
    else Some (record { transport_file_id = be 4 s at; location_type = slice_index s (at + 4) }, at + 7 + n + be 2 s (at + 5 + n))

-- an IP delivery: transport file id 32 bits, location type 8, location, descriptors behind a length of 16
unfoldable pub delivery_at_of : List ℕ → ℕ → Option (IpDelivery × ℕ)
delivery_at_of s at =
    if length s - at <? 5 then None
    else delivery_behind s at (delivery_size (drop (at + 4) s))

-- `n` deliveries from a place on, or none where one is not whole
abbrev pub delivery_item : Option (IpDelivery × ℕ) → Next (Option (List IpDelivery))
delivery_item None = stop None
delivery_item (Some (x, next)) = more next (also x)

abbrev pub deliveries_from : ℕ → List ℕ → ℕ → Option (List IpDelivery)
deliveries_from n s at = run (λ p. delivery_item (delivery_at_of s p)) (λ p. Some []) n at

unfoldable pub deliveries_whole : ℕ → List ℕ → ℕ → Bool
deliveries_whole n s at = is_some (deliveries_from n s at)

abbrev pub plt_with : List ℕ → ℕ → ℕ → Option Plt
plt_with s m start =
    Some (record { version = slice_index s 1; packages = slice_index s 4; ip_deliveries = m; deliveries_start = start })

-- the number of deliveries, 8 bits, may be absent
unfoldable pub plt_deliveries : List ℕ → ℕ → Option Plt
plt_deliveries s at =
    if length s - at =? 0 then plt_with s 0 at
    else if not (deliveries_whole (slice_index s at) s (at + 1)) then None
    else plt_with s (slice_index s at) (at + 1)

abbrev pub plt_behind : List ℕ → Option ℕ → Option Plt
plt_behind s None = None
plt_behind s (Some at) = plt_deliveries s at

-- table id 8 bits, version 8, length 16, number of packages 8, packages, number of IP deliveries 8, those
unfoldable pub plt_table : List ℕ → Option Plt
plt_table s =
    if length s <? 5 then None
    else plt_behind s (packages_end (slice_index s 4) s 5)

abbrev pub plt_in : List ℕ → Option ℕ → Option Plt
plt_in s None = None
plt_in s (Some n) = plt_table (take n s)

unfoldable pub plt_of : List ℕ → Option Plt
plt_of s = plt_in s (declared_length_of s)
