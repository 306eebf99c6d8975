-- The walks over what stands in a section's body: where the table parses, each step gives the next element of the whole value.
-- Assumes nothing.
use Rattle.isdb_mmt.specs.declared.table.section.Parsed.{Parsed}
use Rattle.std.specs.Prelude.{Err, None, Ok, Option, Result, Some, is_some}
use Rattle.isdb_mmt.specs.declared.table.nit.Nit.{Nit}
use Rattle.isdb_mmt.specs.declared.table.bit.Bit.{Bit}
use Rattle.isdb_mmt.specs.declared.table.sdt.Sdt.{Sdt}
use Rattle.isdb_mmt.specs.declared.table.eit.Eit.{Eit}
use Rattle.isdb_mmt.specs.declared.table.section.SectionError.{SectionError}
use Rattle.isdb_mmt.specs.declared.table.amt.Amt.{Amt}
use Rattle.isdb_mmt.specs.declared.table.amt.AmtService.{AmtService}
use Rattle.std.proofs.Common.{◌≡◌, ℕ, ◌+◌, ◌-◌, ◌/◌, true, false, not, ltb, List, map, length, sym, refl, ap, ◌∙◌, add_comm, arith}
use lib.ListN.{length-map}
use Rattle.isdb_tlv.specs.Bytes.{be}
use Rattle.isdb_tlv.specs.Walk.{turn}
use Rattle.isdb_tlv.proofs.Guards.{cond_elim, either}
use Rattle.isdb_mmt.specs.Formats.Part.{part_of}
use Rattle.isdb_mmt.specs.Formats.Desc.{Loop}
use Rattle.isdb_mmt.specs.Formats.Section.{length12, long_section_of, entry_at, entry_as, entry_item, entries_from, parsed}
use Rattle.isdb_mmt.specs.Formats.Amt.{service_at, service_item, services_from, services_whole, amt_body, amt_of}
use Rattle.isdb_mmt.specs.Formats.Eit.{event_of, event_step, eit_body, eit_of}
use Rattle.isdb_mmt.specs.Formats.Sdt.{service_of, service_step, sdt_body, sdt_of}
use Rattle.isdb_mmt.specs.Formats.Bit.{broadcaster_of, broadcaster_step, bit_body, bit_of}
use Rattle.isdb_mmt.specs.Formats.Nit.{streams_part, stream_of, stream_step, nit_body, nit_of}
use Rattle.isdb_mmt.specs.WholeValues.Steps.{Stood, at_end, malformed, element, Found, counted, onward, to_end, AllOf}
use Rattle.isdb_mmt.specs.WholeValues.WholeSections.{described, flow_told, flow_seen, event_told, event_seen, service_told, service_seen, broadcaster_told, broadcaster_seen, WholeStream, whole_stream, stream_told, stream_seen}
use Rattle.isdb_mmt.specs.WholeValues.Walks.{FlowsWalk, EventsWalk, ServicesWalk, BroadcastersWalk, StreamsWalk, AmtTheorem, EitTheorem, SdtTheorem, BitTheorem, NitTheorem}
use Rattle.isdb_mmt.specs.declared.table.section.SectionHeader.{SectionHeader}
use Rattle.isdb_mmt.specs.declared.table.section.Entry.{Entry}
use Rattle.isdb_mmt.specs.Formats.Steps.{EntryStep}
use Rattle.isdb_mmt.specs.declared.walk_step.WalkStep.TheVariants.{End as no_entry, Malformed as bad_entry, Entry as entry}
use Rattle.isdb_mmt.proofs.Names.{true_not_false}
use Rattle.isdb_mmt.proofs.Entries.{section_elim, Inside, entry_inside, entries_at}
use Rattle.isdb_mmt.proofs.Steps.{also_some, Leads, counts, whole_by, On, same_found, ends_whole}

-- ---- the services of an AMT

module _ (s : List ℕ) where
  flow_leads : (n : ℕ) (d : Option (AmtService × ℕ)) → is_some (turn (services_from n s) (service_item d)) ≡ true
      → Leads (λ p. is_some (services_from n s p) ≡ true) (flow_told d)
  flow_leads n None w = true_not_false false w refl
  flow_leads n (Some (x, next)) w = sym (also_some x (services_from n s next)) ∙ w

  flows_whole : (n at : ℕ) → services_whole n s at ≡ true → (counted (flow_seen s) n at).whole ≡ true
  unfolding services_whole
  flows_whole = whole_by (flow_seen s) (λ n at. is_some (services_from n s at) ≡ true) (λ n at. flow_leads n (service_at s at))

  abbrev AmtGood : Result (SectionHeader × Amt) SectionError → Type 0
  AmtGood (Err e) = Unit {0}
  AmtGood (Ok (h, t)) = FlowsWalk (part_of s h.body) t

amt_body_lem : (s : List ℕ) (h : SectionHeader) → AmtGood s (amt_body h (part_of s h.body))
unfolding amt_body
amt_body_lem s h =
    let b = part_of s h.body in
    let n = be 2 b 0 / 64 in
    let w = services_whole n b 2 in
    cond_elim (AmtGood s) (ltb (length b) 2) (λ e. tt) (λ e.
    cond_elim (AmtGood s) (not w) (λ e1. tt) (λ e1.
    counts (flow_seen b) n 2 (flows_whole b n 2 (either w (λ d. d) (λ d. true_not_false true refl (rw d at e1))))))

pub amt : AmtTheorem
unfolding amt_of
amt s h t e = rw e at (section_elim (AmtGood s) Err amt_body s (λ x. tt) (amt_body_lem s) (long_section_of s))

-- ---- entries to the end of a loop

module _ {A : Type 0} (f : Entry → A) where
  abbrev pub entry_told_lem : EntryStep → Stood A
  entry_told_lem = entry_as at_end malformed (λ e. element (f e))

  -- what a table makes of an entry, told as a step
  told_entry : {R : Type 0} (told : R → Stood A) (end broke : R) (found : Entry → ℕ → R) → told end ≡ at_end → told broke ≡ malformed
      → ((e : Entry) (next : ℕ) → told (found e next) ≡ element (f e) next)
      → (d : EntryStep) → told (entry_as end broke found d) ≡ entry_told_lem d
  told_entry told end broke found x y z no_entry = x
  told_entry told end broke found x y z bad_entry = y
  told_entry told end broke found x y z (entry e next) = z e next

  -- any step that tells what an entry is
  module _ (s : List ℕ) (k : ℕ) (step : ℕ → Stood A) (tells : (at : ℕ) → step at ≡ entry_told_lem (entry_at s k at)) where
    on_entry_lem : (at : ℕ) (d : EntryStep) → Inside s k at d → On (length s) at (entry_told_lem d)
    on_entry_lem at no_entry w = tt
    on_entry_lem at bad_entry w = tt
    on_entry_lem at (entry e next) w = omega (arith, w.starts, w.ends, w.within)

    on_step : (at : ℕ) → On (length s) at (step at)
    on_step at = rw (tells at) (on_entry_lem at (entry_at s k at) (entry_inside s k at))

    abbrev mapped : Loop Entry → Found A
    mapped l = record { found = map f l.found; whole = l.whole }

    turned : (d : EntryStep) → mapped (turn (entries_from s k) (entry_item s d)) ≡ turn (λ p. mapped (entries_from s k p)) (onward (entry_told_lem d))
    turned no_entry = refl
    turned bad_entry = refl
    turned (entry e next) = refl

    turns : (at : ℕ) → mapped (entries_from s k at) ≡ turn (λ p. mapped (entries_from s k p)) (onward (step at))
    turns at =
        ap mapped (entries_at s k at)
        ∙ turned (entry_at s k at)
        ∙ ap (λ (d : Stood A). turn (λ p. mapped (entries_from s k p)) (onward d)) (sym (tells at))

    same : (at : ℕ) → mapped (entries_from s k at) ≡ to_end step (length s) at
    same = same_found step (length s) on_step (λ p. mapped (entries_from s k p)) turns

    pub entries_found : (at : ℕ) → (to_end step (length s) at).found ≡ map f (entries_from s k at).found
    entries_found at = ap (λ (l : Found A). l.found) (sym (same at))

    pub all_entries : (at : ℕ) → (entries_from s k at).whole ≡ true
        → AllOf step (length (entries_from s k at).found) at (to_end step (length s) at).found
    all_entries at w =
        record {
          count = ap (λ (l : Found A). length l.found) (sym (same at)) ∙ length-map (entries_from s k at).found f;
          ends = ends_whole step (length s) on_step at (ap (λ (l : Found A). l.whole) (sym (same at)) ∙ w);
        }

-- ---- each table's entries

module _ (s : List ℕ) where
  pub event_tells : (at : ℕ) → event_seen s at ≡ entry_told_lem (λ e. described s e.descriptors (event_of s e)) (entry_at s 10 at)
  unfolding event_step
  event_tells at = told_entry (λ e. described s e.descriptors (event_of s e)) (event_told s) _ _ _ refl refl (λ e next. refl) (entry_at s 10 at)

  pub service_tells : (at : ℕ) → service_seen s at ≡ entry_told_lem (λ e. described s e.descriptors (service_of s e)) (entry_at s 3 at)
  unfolding service_step
  service_tells at = told_entry (λ e. described s e.descriptors (service_of s e)) (service_told s) _ _ _ refl refl (λ e next. refl) (entry_at s 3 at)

  pub broadcaster_tells : (at : ℕ) → broadcaster_seen s at ≡ entry_told_lem (λ e. described s e.descriptors (broadcaster_of s e)) (entry_at s 1 at)
  unfolding broadcaster_step
  broadcaster_tells at = told_entry (λ e. described s e.descriptors (broadcaster_of s e)) (broadcaster_told s) _ _ _ refl refl (λ e next. refl) (entry_at s 1 at)

  abbrev pub stream_with : Entry → WholeStream
  stream_with e = whole_stream s (stream_of s e)

  pub stream_tells : (at : ℕ) → stream_seen s at ≡ entry_told_lem stream_with (entry_at s 4 at)
  unfolding stream_step
  stream_tells at = told_entry stream_with (stream_told s) _ _ _ refl refl (λ e next. refl) (entry_at s 4 at)

-- ---- EIT

abbrev EitGood : List ℕ → Result (SectionHeader × Eit) SectionError → Type 0
EitGood s (Err e) = Unit {0}
EitGood s (Ok (h, t)) = EventsWalk (part_of s h.body) t

eit_body_lem : (s : List ℕ) (h : SectionHeader) → EitGood s (eit_body h (part_of s h.body)).result
unfolding eit_body
eit_body_lem s h =
    let b = part_of s h.body in
    cond_elim (λ (r : Parsed (SectionHeader × Eit)). EitGood s r.result) (ltb (length b) 6) (λ e. tt) (λ e.
    cond_elim (EitGood s) (entries_from b 10 6).whole
    (λ w. all_entries (λ e. described b e.descriptors (event_of b e)) b 10 (event_seen b) (event_tells b) 6 w) (λ w. tt))

pub eit : EitTheorem
unfolding eit_of
eit s h t e = rw e at (section_elim (λ (r : Parsed (SectionHeader × Eit)). EitGood s r.result) (λ x. parsed (Err x) 0) eit_body s (λ x. tt) (eit_body_lem s) (long_section_of s))

-- ---- SDT

abbrev SdtGood : List ℕ → Result (SectionHeader × Sdt) SectionError → Type 0
SdtGood s (Err e) = Unit {0}
SdtGood s (Ok (h, t)) = ServicesWalk (part_of s h.body) t

sdt_body_lem : (s : List ℕ) (h : SectionHeader) → SdtGood s (sdt_body h (part_of s h.body)).result
unfolding sdt_body
sdt_body_lem s h =
    let b = part_of s h.body in
    cond_elim (λ (r : Parsed (SectionHeader × Sdt)). SdtGood s r.result) (ltb (length b) 2) (λ e. tt) (λ e.
    cond_elim (SdtGood s) (entries_from b 3 3).whole
    (λ w. all_entries (λ e. described b e.descriptors (service_of b e)) b 3 (service_seen b) (service_tells b) 3 w) (λ w. tt))

pub sdt : SdtTheorem
unfolding sdt_of
sdt s h t e = rw e at (section_elim (λ (r : Parsed (SectionHeader × Sdt)). SdtGood s r.result) (λ x. parsed (Err x) 0) sdt_body s (λ x. tt) (sdt_body_lem s) (long_section_of s))

-- ---- BIT

abbrev BitGood : List ℕ → Result (SectionHeader × Bit) SectionError → Type 0
BitGood s (Err e) = Unit {0}
BitGood s (Ok (h, t)) = BroadcastersWalk (part_of s h.body) t

bit_body_lem : (s : List ℕ) (h : SectionHeader) → BitGood s (bit_body h (part_of s h.body)).result
unfolding bit_body
bit_body_lem s h =
    let b = part_of s h.body in
    let n = length12 b 0 + 2 in
    cond_elim (λ (r : Parsed (SectionHeader × Bit)). BitGood s r.result) (ltb (length b) 2) (λ e. tt) (λ e.
    cond_elim (λ (r : Parsed (SectionHeader × Bit)). BitGood s r.result) (ltb (length b) n) (λ e1. tt) (λ e1.
    cond_elim (BitGood s) (entries_from b 1 n).whole
    (λ w.
    rw (add_comm 2 (length12 b 0))
    (all_entries (λ e. described b e.descriptors (broadcaster_of b e)) b 1 (broadcaster_seen b) (broadcaster_tells b) n w))
    (λ w. tt)))

pub bit : BitTheorem
unfolding bit_of
bit s h t e = rw e at (section_elim (λ (r : Parsed (SectionHeader × Bit)). BitGood s r.result) (λ x. parsed (Err x) 0) bit_body s (λ x. tt) (bit_body_lem s) (long_section_of s))

-- ---- NIT

abbrev NitGood : List ℕ → Result (SectionHeader × Nit) SectionError → Type 0
NitGood s (Err e) = Unit {0}
NitGood s (Ok (h, t)) = StreamsWalk (part_of s h.body) t

nit_body_lem : (s : List ℕ) (h : SectionHeader) → NitGood s (nit_body h (part_of s h.body))
unfolding nit_body
nit_body_lem s h =
    let b = part_of s h.body in
    let l = part_of b (streams_part b) in
    cond_elim (NitGood s) (ltb (length b) 2) (λ e. tt) (λ e.
    cond_elim (NitGood s) (ltb (length b) (length12 b 0 + 4)) (λ e1. tt) (λ e1.
    cond_elim (NitGood s) (ltb (length b - (length12 b 0 + 4)) (length12 b (length12 b 0 + 2))) (λ e2. tt) (λ e2.
    cond_elim (NitGood s) (entries_from l 4 0).whole
    (λ w. all_entries (stream_with l) l 4 (stream_seen l) (stream_tells l) 0 w) (λ w. tt))))

pub nit : NitTheorem
unfolding nit_of
nit s h t e = rw e at (section_elim (NitGood s) Err nit_body s (λ x. tt) (nit_body_lem s) (long_section_of s))
