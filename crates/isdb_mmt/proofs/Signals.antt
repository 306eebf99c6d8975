-- The sections of a control packet's data. Assumes nothing.
use Rattle.std.specs.Prelude.{None, Option, Some}
use Rattle.std.proofs.Common.{◌≡◌, ℕ, ◌+◌, ◌-◌, ◌*◌, ◌<◌, min, List, [], ◌∷◌, map, length, drop, sym, refl, ap, ◌∙◌, subst, arith, length-take, w64, Fits}
use Rattle.isdb_tlv.specs.Si.{next_section_of, onward}
use Rattle.isdb_tlv.specs.declared.si.Section.{Section}
use Rattle.isdb_tlv.proofs.Sections.{Lies, Found, sections_step, next_lies}
use Rattle.isdb_mmt.specs.Memory.Layout.{most_count}
use Rattle.isdb_mmt.specs.Decoder.Packet.{Bytes}
use Rattle.isdb_mmt.specs.Memory.Lent.{part}
use Rattle.isdb_mmt.specs.Decoder.Kept.{section_of}
use Rattle.isdb_mmt.specs.declared.decoder.table_outcome.TableOutcome.{TableOutcome}
use Rattle.isdb_mmt.specs.declared.decoder.walk.WalkState.{WalkState}
use Rattle.isdb_mmt.specs.Pushes.Placed.{Placed, placed_sections}
use Rattle.isdb_mmt.specs.Pushes.TableOutcome.{index_of, section_outcome, table_outcome}
use Rattle.isdb_mmt.specs.Pushes.PendingTables.{most_by_table, most_before, section_read, CanApply, Applied, Walked, at, CanTakeSection, CanWalkSections}
use Rattle.isdb_mmt.proofs.TableOutcomes.{length_index}
use Rattle.isdb_mmt.proofs.Breaks.{small_section_told}
use Rattle.isdb_mmt.proofs.Walking.{one_walked, Goes, goes_start, in_sequence_lem, goes_end}
use Rattle.isdb_mmt.proofs.Applied.{room_more}

-- ---- one section

module _ (ix log others : List ℕ) (g : WalkState) (b : Bytes) (k : ℕ) (can : CanTakeSection ix log others g b k) where
  module _ (t : TableOutcome) (et : t ≡ section_outcome (index_of g.used ix) (section_of b)) where
    told_as : t ≡ table_outcome (index_of g.used ix) g.mpt g.plt (section_read b)
    unfolding table_outcome
    told_as = et

    pub section_apply : CanApply ix log others g t
    section_apply =
        record {
          copies = can.copies;
          room = can.room;
          told = rw told_as (small_section_told (index_of g.used ix) g.used (length_index g.used ix) g.mpt g.plt b can.short);
        }

    pub section_walked : (r : WalkState) (ix' log' others' : List ℕ) → Applied ix log others g t (k + 1) r ix' log' others'
        → Walked section_read ix log others g (at k b ∷ []) 1 0 r ix' log' others'
    section_walked r ix' log' others' n = one_walked section_read ix log others g (at k b) t told_as r ix' log' others' n

-- ---- all of them

pub record InSections (ix₀ log₀ others₀ : List ℕ) (g₀ : WalkState) (b : Bytes) (ix log others : List ℕ) (g : WalkState) (p : ℕ) : Type 0 where
  pub goes : Goes section_read ix₀ log₀ others₀ g₀ (placed_sections b 0) 0 ix log others g (placed_sections b p) 0 (min p (length b))
  pub can : CanWalkSections ix₀ log₀ others₀ g₀ b

pub sections_start : (ix log others : List ℕ) (g : WalkState) (b : Bytes) → CanWalkSections ix log others g b → InSections ix log others g b ix log others g 0
sections_start ix log others g b c =
    record { goes = goes_start section_read ix log others g c.copies (placed_sections b 0) 0 (min 0 (length b)); can = c }

module _ (ix₀ log₀ others₀ : List ℕ) (g₀ : WalkState) (b : Bytes) (ix log others : List ℕ) (g : WalkState) (p : ℕ)
    (go : InSections ix₀ log₀ others₀ g₀ b ix log others g p) (s : Option Section) (es : s ≡ next_section_of b p) where
  abbrev placed_it : Section → Placed
  placed_it x = record { at = x.offset; bytes = part x.offset x.size b }

  rest_of : (z : Option Section) → s ≡ z → placed_sections b p ≡ map placed_it (onward b z)
  unfolding placed_sections
  rest_of z e = ap (map placed_it) (sections_step b p ∙ ap (onward b) (sym es ∙ e))

  pub sections_end : s ≡ None → Walked section_read ix₀ log₀ others₀ g₀ (placed_sections b 0) (length b + 1) 0 g ix log others
  sections_end e =
      goes_end section_read ix₀ log₀ others₀ g₀ (placed_sections b 0) 0 ix log others g (placed_sections b p) 0 (min p (length b)) go.goes (rest_of None e) refl
      (length b + 1) (omega arith)

  module _ (x : Section) (e : s ≡ Some x) where
    lies : Lies b p x
    lies = subst (Found b p) (sym es ∙ e) (next_lies b p)

    pub sections_adds : Fits w64 (x.offset + x.size)
    sections_adds = omega (arith, lies.within, go.can.short)

    pub sections_less : length b - (x.offset + x.size) < length b - p
    sections_less = omega (arith, lies.behind, lies.whole, lies.within)

    module _ (t : Bytes) (et : t ≡ part x.offset x.size b) where
      pub sections_can : CanTakeSection ix log others g t x.offset
      sections_can =
          record {
            copies = go.goes.copies;
            room =
                room_more g others (most_count + min p (length b) * most_by_table) most_before (omega (arith, go.can.short))
                (go.goes.room most_count go.can.room);
            short = rw et (omega (arith, length-take x.size (drop x.offset b), lies.within, go.can.short));
            near = omega (arith, lies.within, go.can.short);
          }

      pub sections_on : (r : WalkState) (ix' log' others' : List ℕ) → Walked section_read ix log others g (at x.offset t ∷ []) 1 0 r ix' log' others'
          → length ix' ≡ length ix → length log' ≡ length log → length others' ≡ length others
          → InSections ix₀ log₀ others₀ g₀ b ix' log' others' r (x.offset + x.size)
      unfolding placed_sections
      sections_on r ix' log' others' w li ll lo =
          record {
            goes =
                in_sequence_lem section_read ix₀ log₀ others₀ g₀ (placed_sections b 0) 0 ix log others g (placed_sections b p) 0 (min p (length b)) go.goes
                (placed_it x ∷ []) (placed_sections b (x.offset + x.size)) (rest_of (Some x) e) 0 0 refl 1 (min (x.offset + x.size) (length b))
                (omega (arith, lies.behind, lies.whole, lies.within)) r ix' log' others'
                (subst (λ (z : Bytes). Walked section_read ix log others g (at x.offset z ∷ []) 1 0 r ix' log' others') et w) li ll lo;
            can = go.can;
          }
