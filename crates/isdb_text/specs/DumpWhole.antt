-- A kept table's text has the text of each element of its whole value, in order, and of nothing else.
use Rattle.std.specs.Prelude.{◌≡◌, ℕ, ◌+◌, List, [], ◌∷◌, ◌++◌, Ok, Some}
use Rattle.isdb_mmt.specs.Formats.Part.{part_of}
use Rattle.isdb_mmt.specs.Formats.Mpt.{mpt_of}
use Rattle.isdb_mmt.specs.Formats.Plt.{plt_of}
use Rattle.isdb_mmt.specs.Formats.Amt.{amt_of}
use Rattle.isdb_mmt.specs.Formats.Eit.{eit_of}
use Rattle.isdb_mmt.specs.Formats.Sdt.{sdt_of}
use Rattle.isdb_mmt.specs.Formats.Section.{length12}
use Rattle.isdb_mmt.specs.Formats.Bit.{bit_of}
use Rattle.isdb_mmt.specs.Formats.Nit.{nit_of}
use Rattle.isdb_mmt.specs.WholeValues.Steps.{Stood, at_end, malformed, element}
use Rattle.isdb_mmt.specs.WholeValues.Whole.{WholeAsset, whole_mpt, whole_plt}
use Rattle.isdb_mmt.specs.WholeValues.WholeSections.{Described, WholeStream, whole_amt, whole_eit, whole_sdt, whole_bit, whole_nit}
use Rattle.isdb_mmt.specs.declared.table.section.SectionHeader.{SectionHeader}
use Rattle.isdb_mmt.specs.declared.table.mpt.Mpt.{Mpt}
use Rattle.isdb_mmt.specs.declared.table.plt.Plt.{Plt}
use Rattle.isdb_mmt.specs.declared.table.amt.Amt.{Amt}
use Rattle.isdb_mmt.specs.declared.table.eit.Eit.{Eit}
use Rattle.isdb_mmt.specs.declared.table.eit.Event.{Event}
use Rattle.isdb_mmt.specs.declared.table.sdt.Sdt.{Sdt}
use Rattle.isdb_mmt.specs.declared.table.sdt.SdtService.{SdtService}
use Rattle.isdb_mmt.specs.declared.table.bit.Bit.{Bit}
use Rattle.isdb_mmt.specs.declared.table.bit.Broadcaster.{Broadcaster}
use Rattle.isdb_mmt.specs.declared.table.nit.Nit.{Nit}
use Rattle.isdb_text.specs.Elements.{Element, ended, element as shown}
use Rattle.isdb_text.specs.DumpTables.{flow_text, flows_text, service_text, services_text, event_text, events_text, broadcaster_text, broadcasters_text, stream_text, streams_text, delivery_text, deliveries_text, asset_text, assets_text}

-- the texts of some elements, one behind the other
abbrev pub joined : {A : Type 0} → (A → List ℕ) → List A → List ℕ
joined text [] = []
joined text (x ∷ l) = text x ++ joined text l

-- what stands at a place, as text
abbrev pub shown_by : {A : Type 0} → (A → List ℕ) → Stood A → Element
shown_by text at_end = ended
shown_by text malformed = ended
shown_by text (element x next) = shown (text x) next

-- of sections, `b` is the body; of the others, the kept bytes
pub record WholeShown : Type 0 where
  pub amt : (s : List ℕ) (h : SectionHeader) (t : Amt) → amt_of s ≡ Ok (h, t)
      → flows_text (part_of s h.body) t.services 2 ≡ joined flow_text (whole_amt (part_of s h.body) t)
  pub eit : (s : List ℕ) (h : SectionHeader) (t : Eit) → (eit_of s).result ≡ Ok (h, t)
      → events_text (part_of s h.body) t.events 6
      ≡ joined (λ (x : Described Event). event_text (part_of s h.body) x.value) (whole_eit (part_of s h.body) t).events
  pub sdt : (s : List ℕ) (h : SectionHeader) (t : Sdt) → (sdt_of s).result ≡ Ok (h, t)
      → services_text (part_of s h.body) t.services 3
      ≡ joined (λ (x : Described SdtService). service_text (part_of s h.body) x.value) (whole_sdt (part_of s h.body) t).services
  pub bit : (s : List ℕ) (h : SectionHeader) (t : Bit) → (bit_of s).result ≡ Ok (h, t)
      → broadcasters_text (part_of s h.body) t.broadcasters (length12 (part_of s h.body) 0 + 2)
      ≡ joined (λ (x : Described Broadcaster). broadcaster_text (part_of s h.body) x.value)
      (whole_bit (part_of s h.body) t).broadcasters
  pub nit : (s : List ℕ) (h : SectionHeader) (t : Nit) → nit_of s ≡ Ok (h, t)
      → streams_text (part_of (part_of s h.body) t.loop_part) t.streams 0
      ≡ joined (λ (x : WholeStream). stream_text (part_of (part_of s h.body) t.loop_part) x.stream)
      (whole_nit (part_of s h.body) t).streams
  pub mpt : (s : List ℕ) (t : Mpt) → (mpt_of s).mpt ≡ Some t
      → assets_text s t.assets t.start ≡ joined (λ (x : WholeAsset). asset_text s x.asset) (whole_mpt s t).assets
  pub plt : (s : List ℕ) (t : Plt) → plt_of s ≡ Some t
      → deliveries_text s t.ip_deliveries t.deliveries_start ≡ joined delivery_text (whole_plt s t).deliveries
