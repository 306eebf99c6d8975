-- Whole values and the lists of the parsers: the same elements. Assumes nothing.
use Rattle.std.specs.Prelude.{Err, None, Ok, Result, Some, Option, is_some, is_ok}
use Rattle.isdb_mmt.specs.declared.table.tot.Tot.{Tot}
use Rattle.isdb_mmt.specs.declared.table.nit.Nit.{Nit}
use Rattle.isdb_mmt.specs.declared.table.bit.Bit.{Bit}
use Rattle.isdb_mmt.specs.declared.table.sdt.Sdt.{Sdt}
use Rattle.isdb_mmt.specs.declared.table.eit.Eit.{Eit}
use Rattle.isdb_mmt.specs.declared.table.section.SectionError.{SectionError}
use Rattle.isdb_mmt.specs.declared.table.amt.Amt.{Amt}
use Rattle.isdb_mmt.specs.declared.table.section.SectionHeader.{SectionHeader}
use Rattle.isdb_mmt.specs.declared.table.amt.AmtService.{AmtService}
use Rattle.isdb_mmt.specs.declared.table.plt.Plt.{Plt}
use Rattle.isdb_mmt.specs.declared.table.plt.IpDelivery.{IpDelivery}
use Rattle.isdb_mmt.specs.declared.table.plt.Package.{Package}
use Rattle.isdb_mmt.specs.declared.table.mpt.Mpt.{Mpt}
use Rattle.isdb_mmt.specs.declared.table.mpt.Asset.{Asset}
use Rattle.isdb_mmt.specs.declared.location.Location.{Location}
use Rattle.std.proofs.Common.{◌≡◌, ℕ, zero, suc, ◌+◌, ◌%◌, not, eqb, List, [], ◌∷◌, map, length, take, drop, sym, refl, ap, ◌∙◌, arith, take-take}
use Rattle.isdb_tlv.specs.Bytes.{be}
use Rattle.isdb_tlv.proofs.Guards.{either}
use Rattle.isdb_tlv.proofs.Numbers.{be_take}
use Rattle.isdb_tlv.specs.Walk.{Next, stop, more, turn, run, also}
use Rattle.isdb_mmt.specs.Formats.Location.{location_of}
use Rattle.isdb_mmt.specs.Formats.Section.{length12, entries_from}
use Rattle.isdb_mmt.specs.Formats.Mpt.{location_item, locations_of, asset_at_of, asset_item, assets_from, mpt_of}
use Rattle.isdb_mmt.specs.Formats.Plt.{package_at_of, package_item, packages_of, delivery_at_of, delivery_item, deliveries_from, plt_of}
use Rattle.isdb_mmt.specs.Formats.Amt.{service_at, service_item, services_from, amt_of}
use Rattle.isdb_mmt.specs.Formats.Eit.{event_of, events_of, eit_of}
use Rattle.isdb_mmt.specs.Formats.Sdt.{service_of, services_of, sdt_of}
use Rattle.isdb_mmt.specs.Formats.Bit.{broadcaster_of, broadcasters_of, bit_of}
use Rattle.isdb_mmt.specs.Formats.Nit.{stream_of, streams_of, nit_of}
use Rattle.isdb_mmt.specs.Formats.Tot.{tot_of}
use Rattle.isdb_mmt.specs.Formats.Desc.{split_of}
use Rattle.isdb_mmt.specs.Standards.StdB60.{loop_sent, descriptor_in}
use Rattle.isdb_mmt.specs.Decoder.Kept.{declared_table, declared_section, body_read, mpt_parses, plt_parses, tot_parses}
use Rattle.isdb_mmt.specs.WholeValues.Steps.{Stood, at_end, malformed, element, Found, required, counted, to_end}
use Rattle.isdb_mmt.specs.WholeValues.WholeDescriptors.{WholeLocation, location_told, location_seen}
use Rattle.isdb_mmt.specs.WholeValues.Whole.{whole_asset, asset_told, asset_seen, mpt_told, whole_package, package_told, package_seen, delivery_told, delivery_seen, plt_told}
use Rattle.isdb_mmt.specs.WholeValues.WholeSections.{described, flow_told, flow_seen, amt_told, event_seen, eit_told, service_seen, sdt_told, broadcaster_seen, bit_told, whole_stream, stream_seen, nit_told, tot_told}
use Rattle.isdb_mmt.specs.WholeValues.WholeLists.{section_whole, ValuesTheorem, CutTheorem, if_whole, ListsTheorem, whole_sent, SentTheorem}
use Rattle.isdb_mmt.specs.declared.table.eit.Event.{Event}
use Rattle.isdb_mmt.specs.declared.table.sdt.SdtService.{SdtService}
use Rattle.isdb_mmt.specs.declared.table.bit.Broadcaster.{Broadcaster}
use Rattle.isdb_mmt.proofs.SectionWalks.{entries_found, event_tells, service_tells, broadcaster_tells, stream_with, stream_tells}
use Rattle.isdb_mmt.proofs.DescriptorWalks.{loop_is, loop_found}
use Rattle.isdb_mmt.proofs.StdB60.{loops as loops_read}

-- ---- a table that parses has a whole value

mpt_outcome_lem : (s : List ℕ) (d : Option Mpt) → is_some (mpt_told s d) ≡ mpt_parses d
mpt_outcome_lem s None = refl
mpt_outcome_lem s (Some t) = refl

plt_outcome_lem : (s : List ℕ) (d : Option Plt) → is_some (plt_told s d) ≡ plt_parses d
plt_outcome_lem s None = refl
plt_outcome_lem s (Some t) = refl

amt_told_lem : (s : List ℕ) (d : Result (SectionHeader × Amt) SectionError) → is_some (amt_told s d) ≡ is_ok d
amt_told_lem s (Err e) = refl
amt_told_lem s (Ok (h, t)) = refl

eit_told_lem : (s : List ℕ) (d : Result (SectionHeader × Eit) SectionError) → is_some (eit_told s d) ≡ is_ok d
eit_told_lem s (Err e) = refl
eit_told_lem s (Ok (h, t)) = refl

sdt_told_lem : (s : List ℕ) (d : Result (SectionHeader × Sdt) SectionError) → is_some (sdt_told s d) ≡ is_ok d
sdt_told_lem s (Err e) = refl
sdt_told_lem s (Ok (h, t)) = refl

bit_told_lem : (s : List ℕ) (d : Result (SectionHeader × Bit) SectionError) → is_some (bit_told s d) ≡ is_ok d
bit_told_lem s (Err e) = refl
bit_told_lem s (Ok (h, t)) = refl

nit_told_lem : (s : List ℕ) (d : Result (SectionHeader × Nit) SectionError) → is_some (nit_told s d) ≡ is_ok d
nit_told_lem s (Err e) = refl
nit_told_lem s (Ok (h, t)) = refl

tot_outcome_lem : (s : List ℕ) (d : Result Tot SectionError) → is_some (tot_told s d) ≡ tot_parses d
tot_outcome_lem s (Err e) = refl
tot_outcome_lem s (Ok t) = refl

section_outcome_lem : (id : ℕ) (b : List ℕ) → section_whole id b ≡ (body_read id b).ok
unfolding body_read
section_outcome_lem id b =
    either (eqb id 0x9D) (λ e. rw e (bit_told_lem b (bit_of b).result)) (λ e.
    either (eqb id 0x9F) (λ e1. rw (e, e1) (sdt_told_lem b (sdt_of b).result)) (λ e1.
    either (eqb id 0xA0) (λ e2. rw (e, e1, e2) (sdt_told_lem b (sdt_of b).result)) (λ e2.
    either (eqb id 0x40) (λ e3. rw (e, e1, e2, e3) (nit_told_lem b (nit_of b))) (λ e3.
    either (eqb id 0x41) (λ e4. rw (e, e1, e2, e3, e4) (nit_told_lem b (nit_of b))) (λ e4.
    either (eqb id 0xFE) (λ e5. rw (e, e1, e2, e3, e4, e5) (amt_told_lem b (amt_of b))) (λ e5.
    rw (e, e1, e2, e3, e4, e5) (eit_told_lem b (eit_of b).result)))))))

pub values : ValuesTheorem
values =
    record {
      mpt = λ b. mpt_outcome_lem (declared_table b) (mpt_of b).mpt;
      plt = λ b. plt_outcome_lem (declared_table b) (plt_of b);
      amt = λ b. amt_told_lem b (amt_of b);
      eit = λ b. eit_told_lem b (eit_of b).result;
      sdt = λ b. sdt_told_lem b (sdt_of b).result;
      bit = λ b. bit_told_lem b (bit_of b).result;
      nit = λ b. nit_told_lem b (nit_of b);
      tot = λ b. tot_outcome_lem (declared_section b) (tot_of b).result;
      section = section_outcome_lem;
    }

-- ---- declared bytes

table_cut : (b : List ℕ) → declared_table (declared_table b) ≡ declared_table b
table_cut b =
    let n = be 2 b 2 + 4 in
    ap (λ k. take (k + 4) (take n b)) (be_take 2 n b 2 (omega arith)) ∙ take-take n n b (omega arith)

section_cut : (b : List ℕ) → declared_section (declared_section b) ≡ declared_section b
section_cut b =
    let n = length12 b 1 + 3 in
    ap (λ k. take (k % 4096 + 3) (take n b)) (be_take 2 n b 1 (omega arith)) ∙ take-take n n b (omega arith)

pub cuts : CutTheorem
cuts = record { table = table_cut; section = section_cut }

-- ---- so many elements

-- a list that is refused whole where one element does not stand there, beside the elements before it
module _ {A : Type 0} where
  abbrev refusing : Stood A → Next (Option (List A))
  refusing at_end = stop None
  refusing malformed = stop None
  refusing (element x next) = more next (also x)

  module _ (step : ℕ → Stood A) (item : ℕ → Next (Option (List A))) (told : (at : ℕ) → item at ≡ refusing (step at)) where
    abbrev items : ℕ → ℕ → Option (List A)
    items = run item (λ p. Some [])

    also_whole_lem : (x : A) (l : Found A) → if_whole (record { found = x ∷ l.found; whole = l.whole }) ≡ also x (if_whole l)
    also_whole_lem x l = either l.whole (λ e. rw e) (λ e. rw e)

    found_on : (n : ℕ) → ((at : ℕ) → if_whole (counted step n at) ≡ items n at) → (d : Stood A)
        → if_whole (turn (counted step n) (required d)) ≡ turn (items n) (refusing d)
    found_on n h at_end = refl
    found_on n h malformed = refl
    found_on n h (element x next) = also_whole_lem x (counted step n next) ∙ ap (also x) (h next)

    all_found : (n at : ℕ) → if_whole (counted step n at) ≡ items n at
    all_found zero at = refl
    all_found (suc n) at = found_on n (all_found n) (step at) ∙ ap (turn (items n)) (sym (told at))

module _ (s : List ℕ) where
  asset_on : (n : ℕ) → ((at : ℕ) → (counted (asset_seen s) n at).found ≡ map (whole_asset s) (assets_from n s at).found) → (d : Option (Asset × ℕ))
      → (turn (counted (asset_seen s) n) (required (asset_told s d))).found ≡ map (whole_asset s) (turn (assets_from n s) (asset_item s d)).found
  asset_on n h None = refl
  asset_on n h (Some (a, next)) = ap (λ l. whole_asset s a ∷ l) (h next)

  assets_found : (n at : ℕ) → (counted (asset_seen s) n at).found ≡ map (whole_asset s) (assets_from n s at).found
  assets_found zero at = refl
  assets_found (suc n) at = asset_on n (assets_found n) (asset_at_of s at)

  location_on : (n : ℕ) → ((at : ℕ) → map (λ (l : WholeLocation). l.location) (counted (location_seen s) n at).found ≡ locations_of n s at) → (at : ℕ) (d : Option (Location × ℕ))
      → map (λ (l : WholeLocation). l.location) (turn (counted (location_seen s) n) (required (location_told s at d))).found ≡ turn (locations_of n s) (location_item at d)
  location_on n h at None = refl
  location_on n h at (Some (l, taken)) = ap (λ k. l ∷ k) (h (at + taken))

  locations_found : (n at : ℕ) → map (λ (l : WholeLocation). l.location) (counted (location_seen s) n at).found ≡ locations_of n s at
  locations_found zero at = refl
  locations_found (suc n) at = location_on n (locations_found n) at (location_of (drop at s))

  package_on : (n : ℕ) → ((at : ℕ) → (counted (package_seen s) n at).found ≡ map (whole_package s) (packages_of n s at)) → (d : Option (Package × ℕ))
      → (turn (counted (package_seen s) n) (required (package_told s d))).found ≡ map (whole_package s) (turn (packages_of n s) (package_item d))
  package_on n h None = refl
  package_on n h (Some (p, next)) = ap (λ l. whole_package s p ∷ l) (h next)

  packages_found : (n at : ℕ) → (counted (package_seen s) n at).found ≡ map (whole_package s) (packages_of n s at)
  packages_found zero at = refl
  packages_found (suc n) at = package_on n (packages_found n) (package_at_of s at)

  delivery_told_lem : (d : Option (IpDelivery × ℕ)) → delivery_item d ≡ refusing (delivery_told d)
  delivery_told_lem None = refl
  delivery_told_lem (Some (x, next)) = refl

  deliveries_found : (n at : ℕ) → if_whole (counted (delivery_seen s) n at) ≡ deliveries_from n s at
  deliveries_found = all_found (delivery_seen s) (λ p. delivery_item (delivery_at_of s p)) (λ p. delivery_told_lem (delivery_at_of s p))

  flow_told_lem : (d : Option (AmtService × ℕ)) → service_item d ≡ refusing (flow_told d)
  flow_told_lem None = refl
  flow_told_lem (Some (x, next)) = refl

  flows_found : (n at : ℕ) → if_whole (counted (flow_seen s) n at) ≡ services_from n s at
  flows_found = all_found (flow_seen s) (λ p. service_item (service_at s p)) (λ p. flow_told_lem (service_at s p))

-- ---- to the end

map_twice : {A B C : Type 0} (g : B → C) (f : A → B) (l : List A) → map (λ x. g (f x)) l ≡ map g (map f l)
map_twice g f [] = refl
map_twice g f (x ∷ l) = ap (λ k. g (f x) ∷ k) (map_twice g f l)

module _ (s : List ℕ) where
  events_found : (to_end (event_seen s) (length s) 6).found ≡ map (λ (e : Event). described s e.descriptors e) (events_of s)
  unfolding events_of
  events_found =
      entries_found (λ e. described s e.descriptors (event_of s e)) s 10 (event_seen s) (event_tells s) 6
      ∙ map_twice (λ (e : Event). described s e.descriptors e) (event_of s) (entries_from s 10 6).found

  services_found : (to_end (service_seen s) (length s) 3).found ≡ map (λ (e : SdtService). described s e.descriptors e) (services_of s)
  unfolding services_of
  services_found =
      entries_found (λ e. described s e.descriptors (service_of s e)) s 3 (service_seen s) (service_tells s) 3
      ∙ map_twice (λ (e : SdtService). described s e.descriptors e) (service_of s) (entries_from s 3 3).found

  broadcasters_found : (to_end (broadcaster_seen s) (length s) (length12 s 0 + 2)).found ≡ map (λ (e : Broadcaster). described s e.descriptors e) (broadcasters_of s)
  unfolding broadcasters_of
  broadcasters_found =
      entries_found (λ e. described s e.descriptors (broadcaster_of s e)) s 1 (broadcaster_seen s) (broadcaster_tells s) (length12 s 0 + 2)
      ∙ map_twice (λ (e : Broadcaster). described s e.descriptors e) (broadcaster_of s) (entries_from s 1 (length12 s 0 + 2)).found

  streams_found : (to_end (stream_seen s) (length s) 0).found ≡ map (whole_stream s) (streams_of s)
  unfolding streams_of
  streams_found =
      entries_found (stream_with s) s 4 (stream_seen s) (stream_tells s) 0 ∙ map_twice (whole_stream s) (stream_of s) (entries_from s 4 0).found

pub lists : ListsTheorem
lists =
    record {
      assets = assets_found;
      locations = locations_found;
      packages = packages_found;
      deliveries = deliveries_found;
      flows = flows_found;
      events = events_found;
      services = services_found;
      broadcasters = broadcasters_found;
      streams = streams_found;
      descriptors = loop_found;
    }

-- ---- a conforming sender's descriptors

pub sent : SentTheorem
sent ds h =
    let s = loop_sent ds in
    let r = loops_read ds h in
    loop_is s
    ∙ (λ i.
    record {
      found = (map_twice whole_sent (descriptor_in s) (split_of s).found ∙ ap (map whole_sent) r.found) i;
      whole = not (is_some (r.whole i));
    })
