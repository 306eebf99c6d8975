-- The text of a table and its whole value. Assumes nothing.
use Rattle.isdb_mmt.specs.declared.table.section.Parsed.{Parsed}
use Rattle.std.specs.Prelude.{Err, None, Ok, Option, Result, Some}
use Rattle.isdb_mmt.specs.declared.table.mpt.Asset.{Asset}
use Rattle.isdb_mmt.specs.declared.table.plt.IpDelivery.{IpDelivery}
use Rattle.isdb_mmt.specs.declared.table.amt.AmtService.{AmtService}
use Rattle.isdb_mmt.specs.declared.table.section.SectionError.{SectionError}
use Rattle.std.proofs.Common.{◌≡◌, ℕ, ◌+◌, ltb, List, [], ◌∷◌, ◌++◌, length, refl, ap, arith}
use Rattle.isdb_tlv.proofs.Guards.{cond_elim}
use Rattle.isdb_mmt.specs.WholeValues.Steps.{Stood, Gives, Counts, AllOf}
use Rattle.isdb_mmt.specs.WholeValues.Whole.{WholeAsset, asset_told, asset_seen, delivery_told, delivery_seen}
use Rattle.isdb_mmt.specs.WholeValues.WholeSections.{Described, WholeStream, flow_told, flow_seen, event_told, event_seen, service_told, service_seen, broadcaster_told, broadcaster_seen, stream_told, stream_seen, behind as end_of}
use Rattle.isdb_mmt.specs.Formats.Part.{part_of}
use Rattle.isdb_mmt.specs.Formats.Mpt.{asset_at_of}
use Rattle.isdb_mmt.specs.Formats.Plt.{delivery_at_of}
use Rattle.isdb_mmt.specs.Formats.Amt.{service_at}
use Rattle.isdb_mmt.specs.Formats.Eit.{event_step}
use Rattle.isdb_mmt.specs.Formats.Sdt.{service_step}
use Rattle.isdb_mmt.specs.Formats.Nit.{stream_step}
use Rattle.isdb_mmt.specs.Formats.Section.{length12, long_section_of, in_section, entries_from, parsed}
use Rattle.isdb_mmt.specs.Formats.Bit.{broadcaster_step, bit_body, bit_of}
use Rattle.isdb_mmt.specs.declared.table.section.SectionHeader.{SectionHeader}
use Rattle.isdb_mmt.specs.declared.table.bit.Bit.{Bit}
use Rattle.isdb_mmt.specs.declared.table.bit.Broadcaster.{Broadcaster}
use Rattle.isdb_mmt.specs.Formats.Steps.{BroadcasterStep}
use Rattle.isdb_mmt.specs.declared.walk_step.WalkStep.TheVariants.{End as no_broadcaster, Malformed as broken_broadcaster, Entry as broadcaster}
use Rattle.isdb_mmt.specs.declared.table.sdt.SdtService.{SdtService}
use Rattle.isdb_mmt.specs.Formats.Steps.{SdtStep}
use Rattle.isdb_mmt.specs.declared.walk_step.WalkStep.TheVariants.{End as no_service, Malformed as broken_service, Entry as service}
use Rattle.isdb_mmt.specs.declared.table.eit.Event.{Event}
use Rattle.isdb_mmt.specs.Formats.Steps.{EventStep}
use Rattle.isdb_mmt.specs.declared.walk_step.WalkStep.TheVariants.{End as no_event, Malformed as broken_event, Entry as event}
use Rattle.isdb_mmt.specs.Formats.Steps.{StreamStep}
use Rattle.isdb_mmt.specs.declared.walk_step.WalkStep.TheVariants.{End as no_stream, Malformed as broken_stream, Entry as stream}
use Rattle.isdb_mmt.proofs.AllWalks.{walks}
use Rattle.isdb_text.specs.Elements.{Element, texts}
use Rattle.isdb_text.specs.DumpTables.{flow_text, flow_element, service_text, service_element, event_text, event_element, broadcaster_text, broadcaster_element, stream_text, stream_element, delivery_text, delivery_element, asset_text, asset_element}
use Rattle.isdb_text.specs.DumpWhole.{joined, shown_by, WholeShown}

-- a walk whose steps give a list has the texts of that list
module _ {A : Type 0} (step : ℕ → Stood A) (text : A → List ℕ) (own : ℕ → Element)
    (same : (p : ℕ) → own p ≡ shown_by text (step p)) where
  texts_given : (l : List A) (at stop : ℕ) → Gives step at l stop → texts own (length l) at ≡ joined text l
  unfolding texts
  texts_given [] at stop g = refl
  texts_given (x ∷ l) at stop g =
      rw (same at, g.here) (ap (λ (m : List ℕ). text x ++ m) (texts_given l g.next stop g.rest))

  texts_counts : {n at : ℕ} {l : List A} → Counts step n at l → texts own n at ≡ joined text l
  texts_counts {n} {at} {l} c = rw (← c.count) (texts_given l at c.stop c.gives)

  texts_all : {n at : ℕ} {l : List A} → AllOf step n at l → texts own n at ≡ joined text l
  texts_all {n} {at} {l} c = rw (← c.count) (texts_given l at c.ends.stop c.ends.gives)

as_flow : (x : Option (AmtService × ℕ)) → flow_element x ≡ shown_by flow_text (flow_told x)
as_flow None = refl
as_flow (Some (f, next)) = refl

as_delivery : (x : Option (IpDelivery × ℕ)) → delivery_element x ≡ shown_by delivery_text (delivery_told x)
as_delivery None = refl
as_delivery (Some (d, next)) = refl

module _ (s : List ℕ) where
  as_event : (x : EventStep) → event_element s x ≡ shown_by (λ (d : Described Event). event_text s d.value) (event_told s x)
  as_event no_event = refl
  as_event broken_event = refl
  as_event (event e next) = refl

  as_service : (x : SdtStep) → service_element s x ≡ shown_by (λ (d : Described SdtService). service_text s d.value) (service_told s x)
  as_service no_service = refl
  as_service broken_service = refl
  as_service (service e next) = refl

  as_broadcaster : (x : BroadcasterStep)
      → broadcaster_element s x ≡ shown_by (λ (d : Described Broadcaster). broadcaster_text s d.value) (broadcaster_told s x)
  as_broadcaster no_broadcaster = refl
  as_broadcaster broken_broadcaster = refl
  as_broadcaster (broadcaster e next) = refl

  as_stream : (x : StreamStep) → stream_element s x ≡ shown_by (λ (d : WholeStream). stream_text s d.stream) (stream_told s x)
  as_stream no_stream = refl
  as_stream broken_stream = refl
  as_stream (stream e next) = refl

  as_asset : (x : Option (Asset × ℕ)) → asset_element s x ≡ shown_by (λ (d : WholeAsset). asset_text s d.asset) (asset_told s x)
  as_asset None = refl
  as_asset (Some (a, next)) = refl

-- the broadcasters of a BIT stand behind its first descriptors
abbrev Starts : List ℕ → Result (SectionHeader × Bit) SectionError → Type 0
Starts s (Err e) = Unit {0}
Starts s (Ok (h, t)) = end_of t.descriptors ≡ length12 (part_of s h.body) 0 + 2

starts_body : (s : List ℕ) (h : SectionHeader) → Starts s (bit_body h (part_of s h.body)).result
unfolding bit_body
starts_body s h =
    let b = part_of s h.body in
    let n = length12 b 0 + 2 in
    cond_elim (λ (r : Parsed (SectionHeader × Bit)). Starts s r.result) (ltb (length b) 2) (λ e. tt) (λ e.
    cond_elim (λ (r : Parsed (SectionHeader × Bit)). Starts s r.result) (ltb (length b) n) (λ e1. tt) (λ e1.
    cond_elim (Starts s) (entries_from b 1 n).whole (λ w. omega arith) (λ w. tt)))

starts_section : (s : List ℕ) (d : Result SectionHeader SectionError) → Starts s (in_section (λ x. parsed (Err x) 0) bit_body s d).result
starts_section s (Err e) = tt
starts_section s (Ok h) = starts_body s h

starts : (s : List ℕ) (h : SectionHeader) (t : Bit) → (bit_of s).result ≡ Ok (h, t)
    → end_of t.descriptors ≡ length12 (part_of s h.body) 0 + 2
unfolding bit_of
starts s h t e = rw e at (starts_section s (long_section_of s))

pub whole_shown : WholeShown
whole_shown =
    record {
      amt = λ s h t e. texts_counts (flow_seen (part_of s h.body)) flow_text (λ at. flow_element (service_at (part_of s h.body) at))
          (λ p. as_flow (service_at (part_of s h.body) p)) (walks.amt s h t e);
      eit = λ s h t e. texts_all (event_seen (part_of s h.body)) (λ d. event_text (part_of s h.body) d.value)
          (λ at. event_element (part_of s h.body) (event_step (part_of s h.body) at))
          (λ p. as_event (part_of s h.body) (event_step (part_of s h.body) p)) (walks.eit s h t e);
      sdt = λ s h t e. texts_all (service_seen (part_of s h.body)) (λ d. service_text (part_of s h.body) d.value)
          (λ at. service_element (part_of s h.body) (service_step (part_of s h.body) at))
          (λ p. as_service (part_of s h.body) (service_step (part_of s h.body) p)) (walks.sdt s h t e);
      bit = λ s h t e. rw (← starts s h t e) (texts_all (broadcaster_seen (part_of s h.body))
          (λ d. broadcaster_text (part_of s h.body) d.value)
          (λ at. broadcaster_element (part_of s h.body) (broadcaster_step (part_of s h.body) at))
          (λ p. as_broadcaster (part_of s h.body) (broadcaster_step (part_of s h.body) p)) (walks.bit s h t e));
      nit = λ s h t e. let b = part_of (part_of s h.body) t.loop_part in
          texts_all (stream_seen b) (λ d. stream_text b d.stream) (λ at. stream_element b (stream_step b at))
          (λ p. as_stream b (stream_step b p)) (walks.nit s h t e);
      mpt = λ s t e. texts_counts (asset_seen s) (λ d. asset_text s d.asset) (λ at. asset_element s (asset_at_of s at))
          (λ p. as_asset s (asset_at_of s p)) (walks.behind.assets s t e);
      plt = λ s t e. texts_counts (delivery_seen s) delivery_text (λ at. delivery_element (delivery_at_of s at))
          (λ p. as_delivery (delivery_at_of s p)) (walks.behind.packages s t e).deliveries;
    }
