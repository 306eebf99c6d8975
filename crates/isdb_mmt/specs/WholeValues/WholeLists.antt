-- The whole values beside the rest: a table that parses has one, kept bytes are cut to what they declare, and the elements are those
-- of the lists that StdB60 speaks of.
use Rattle.std.specs.Prelude.{◌≡◌, ℕ, ◌+◌, Bool, true, List, map, length, Option, None, Some, is_some, is_ok}
use Rattle.isdb_tlv.specs.Guards.{◌=?◌}
use Rattle.std.specs.Prelude.{if◌then◌else◌}
use Rattle.isdb_tlv.specs.Si.{nit_actual_id, nit_other_id, amt_id}
use Rattle.isdb_mmt.specs.Formats.TableIds.{bit_id, sdt_actual_id, sdt_other_id}
use Rattle.isdb_mmt.specs.Formats.Part.{part_of}
use Rattle.isdb_mmt.specs.WholeValues.Steps.{Found, counted, to_end}
use Rattle.isdb_mmt.specs.Formats.Section.{length12}
use Rattle.isdb_mmt.specs.Formats.Desc.{RawDescriptor, split_of}
use Rattle.isdb_mmt.specs.Formats.Mpt.{locations_of, assets_from, mpt_of}
use Rattle.isdb_mmt.specs.Formats.Plt.{packages_of, deliveries_from, plt_of}
use Rattle.isdb_mmt.specs.Formats.Amt.{services_from, amt_of}
use Rattle.isdb_mmt.specs.Formats.Eit.{events_of, eit_of}
use Rattle.isdb_mmt.specs.Formats.Sdt.{services_of, sdt_of}
use Rattle.isdb_mmt.specs.Formats.Bit.{broadcasters_of, bit_of}
use Rattle.isdb_mmt.specs.Formats.Nit.{streams_of, nit_of}
use Rattle.isdb_mmt.specs.Formats.Tot.{tot_of}
use Rattle.isdb_mmt.specs.Standards.StdB60.{Descriptor, loop_sent, LoopConforming}
use Rattle.isdb_mmt.specs.Decoder.Kept.{declared_table, declared_section, body_read, mpt_parses, plt_parses, tot_parses}
use Rattle.isdb_mmt.specs.WholeValues.WholeDescriptors.{WholeLocation, location_seen, WholeDescriptor, whole_descriptor, loop_in}
use Rattle.isdb_mmt.specs.WholeValues.Whole.{whole_asset, asset_seen, mpt_value, whole_package, package_seen, delivery_seen, plt_value}
use Rattle.isdb_mmt.specs.WholeValues.WholeSections.{described, flow_seen, amt_value, event_seen, eit_value, service_seen, sdt_value, broadcaster_seen, bit_value, whole_stream, streams_in, nit_value, tot_value}
use Rattle.isdb_mmt.specs.declared.table.eit.Event.{Event}
use Rattle.isdb_mmt.specs.declared.table.sdt.SdtService.{SdtService}
use Rattle.isdb_mmt.specs.declared.table.bit.Broadcaster.{Broadcaster}

-- a section has the whole value of the table that an id names
abbrev pub section_whole : ℕ → List ℕ → Bool
section_whole id b =
    if id =? bit_id then is_some (bit_value b)
    else if id =? sdt_actual_id then is_some (sdt_value b)
    else if id =? sdt_other_id then is_some (sdt_value b)
    else if id =? nit_actual_id then is_some (nit_value b)
    else if id =? nit_other_id then is_some (nit_value b)
    else if id =? amt_id then is_some (amt_value b)
    else is_some (eit_value b)

-- what a reading asks of kept bytes before it hands them out is that they have a whole value
pub record ValuesTheorem : Type 0 where
  pub mpt : (b : List ℕ) → is_some (mpt_value b) ≡ mpt_parses (mpt_of b).mpt
  pub plt : (b : List ℕ) → is_some (plt_value b) ≡ plt_parses (plt_of b)
  pub amt : (b : List ℕ) → is_some (amt_value b) ≡ is_ok (amt_of b)
  pub eit : (b : List ℕ) → is_some (eit_value b) ≡ is_ok (eit_of b).result
  pub sdt : (b : List ℕ) → is_some (sdt_value b) ≡ is_ok (sdt_of b).result
  pub bit : (b : List ℕ) → is_some (bit_value b) ≡ is_ok (bit_of b).result
  pub nit : (b : List ℕ) → is_some (nit_value b) ≡ is_ok (nit_of b)
  pub tot : (b : List ℕ) → is_some (tot_value b) ≡ tot_parses (tot_of b).result
  pub section : (id : ℕ) (b : List ℕ) → section_whole id b ≡ (body_read id b).ok

-- a table is kept as its declared bytes: of those, the declared ones are all
pub record CutTheorem : Type 0 where
  pub table : (b : List ℕ) → declared_table (declared_table b) ≡ declared_table b
  pub section : (b : List ℕ) → declared_section (declared_section b) ≡ declared_section b

-- a list that is there where the walk is whole
abbrev pub if_whole : {A : Type 0} → Found A → Option (List A)
if_whole l = if l.whole then Some l.found else None

abbrev pub whole_raw : List ℕ → RawDescriptor → WholeDescriptor
whole_raw s r = whole_descriptor r.tag (part_of s r.body)

pub record ListsTheorem : Type 0 where
  pub assets : (s : List ℕ) (n at : ℕ) → (counted (asset_seen s) n at).found ≡ map (whole_asset s) (assets_from n s at).found
  pub locations : (s : List ℕ) (n at : ℕ) → map (λ (l : WholeLocation). l.location) (counted (location_seen s) n at).found ≡ locations_of n s at
  pub packages : (s : List ℕ) (n at : ℕ) → (counted (package_seen s) n at).found ≡ map (whole_package s) (packages_of n s at)
  pub deliveries : (s : List ℕ) (n at : ℕ) → if_whole (counted (delivery_seen s) n at) ≡ deliveries_from n s at
  pub flows : (s : List ℕ) (n at : ℕ) → if_whole (counted (flow_seen s) n at) ≡ services_from n s at
  pub events : (s : List ℕ) → (to_end (event_seen s) (length s) 6).found ≡ map (λ (e : Event). described s e.descriptors e) (events_of s)
  pub services : (s : List ℕ) → (to_end (service_seen s) (length s) 3).found ≡ map (λ (e : SdtService). described s e.descriptors e) (services_of s)
  pub broadcasters : (s : List ℕ) → (to_end (broadcaster_seen s) (length s) (length12 s 0 + 2)).found ≡ map (λ (e : Broadcaster). described s e.descriptors e) (broadcasters_of s)
  pub streams : (s : List ℕ) → streams_in s ≡ map (whole_stream s) (streams_of s)
  pub descriptors : (s : List ℕ) → (loop_in s).found ≡ map (whole_raw s) (split_of s).found

-- the descriptors that a conforming sender writes
abbrev pub whole_sent : Descriptor → WholeDescriptor
whole_sent d = whole_descriptor d.tag d.content

abbrev pub SentTheorem : Type 0
SentTheorem = (ds : List Descriptor) → LoopConforming ds → loop_in (loop_sent ds) ≡ record { found = map whole_sent ds; whole = true }
