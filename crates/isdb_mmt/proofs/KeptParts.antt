-- Where kept tables lie, and whether they parse: one law for each return. Assumes nothing.
use Rattle.std.proofs.Common.{◌≡◌, ℕ, ◌*◌, ◌<◌, false, sym, refl, ap, ◌∙◌, arith, w64, Fits}
use Rattle.std.specs.Prelude.{Result, Ok, ⊤, Err, Some, Option}
use Rattle.isdb_mmt.specs.declared.decoder.refusal.Refusal.{Refusal}
use Rattle.isdb_mmt.specs.Decoder.Packet.{Bytes}
use Rattle.isdb_mmt.specs.Formats.Part.{part_of}
use Rattle.isdb_mmt.specs.Memory.Layout.{most_sections, control_places, control_size, section_places, section_size}
use Rattle.isdb_mmt.specs.Memory.Lent.{names_from, found_from}
use Rattle.isdb_mmt.specs.Memory.Session.{Session, limits_of, used_of}
use Rattle.isdb_mmt.specs.Memory.Check.{lengths_of, Sound}
use Rattle.isdb_mmt.specs.Formats.Section.{long_section_of}
use Rattle.isdb_mmt.specs.Decoder.Kept.{body_read, parses_as}
use Rattle.isdb_mmt.specs.Pushes.TableOutcome.{body_from}
use Rattle.isdb_mmt.specs.Memory.Lending.{session_asked}
use Rattle.isdb_mmt.specs.Memory.Opening.{lent}
use Rattle.std.proofs.Common.{List}
use Rattle.isdb_mmt.specs.Answers.KeptParts.{Reachable, AnArea, MptReachable}
use Rattle.isdb_mmt.specs.declared.table.section.SectionHeader.{SectionHeader}
use Rattle.isdb_mmt.specs.declared.table.section.SectionError.{SectionError}
use Rattle.isdb_mmt.specs.declared.decoder.table_outcome.BodyRead.{BodyRead}
use Rattle.isdb_mmt.specs.declared.decoder.limits.Limits.{Limits}
use Rattle.isdb_mmt.specs.declared.decoder.head.Used.{Used}
use Rattle.isdb_mmt.proofs.Lent.{length_names}
use Rattle.isdb_mmt.proofs.ReadSteps.{was_sound}
use Rattle.isdb_mmt.proofs.Checks.{sound_session}
use Rattle.isdb_mmt.proofs.Limits.{areas_fit, passed}
use Rattle.isdb_mmt.proofs.TableOutcomes.{found_within, body_from_lem}

-- ---- whether a section parses

module _ (b : Bytes) (id : ℕ) (l : Result SectionHeader SectionError) (el : l ≡ long_section_of b) where
  pub parses_good : (h : SectionHeader) → l ≡ Ok h → (c : Bytes) → c ≡ part_of b h.body → (x : BodyRead) → x ≡ body_from id h c
      → x.ok ≡ parses_as id b
  unfolding parses_as
  parses_good h e c ec x ex =
      let k : long_section_of b ≡ Ok h = sym el ∙ e in
      let f : x.ok ≡ (body_read id b).ok = ap (λ (z : BodyRead). z.ok) (ex ∙ ap (body_from id h) ec ∙ sym (body_from_lem b h k id)) in
      f ∙ rw k refl

  pub parses_bad : (x : SectionError) → l ≡ Err x → false ≡ parses_as id b
  unfolding parses_as
  parses_bad x e = rw (← el, e) refl

-- ---- areas

pub area_fits : (l : Limits) (i : ℕ) → AnArea l i → Fits w64 (i * l.table_area)
area_fits l i h = areas_fit i l.table_area (omega (arith, h.number)) (omega (arith, h.size))

-- a session that question 5 lets pass
pub reaches : (s : Session) → Sound s.state s.others (lengths_of s) → Reachable s.state
reaches s ok =
    let p = passed (limits_of s.state) (lengths_of s) ok.limits in
    record {
      there = ok.there;
      sections = p.ranges.sections.1;
      controls = p.ranges.controls.1;
      area = p.ranges.table.1;
    }

-- a name's place is one of those in use
pub found_in_use : (size n at x : ℕ) (l : Bytes) (f : Option ℕ) → f ≡ found_from 0 (names_from n size at l) x → (i : ℕ) → f ≡ Some i → i < n
found_in_use size n at x l f ef i e =
    omega (arith, found_within 0 (names_from n size at l) x i (sym ef ∙ e), length_names size n at l)

module _ (s : Bytes) (can : Reachable s) where
  module _ (u : Used) (eu : u ≡ used_of s) (name i : ℕ) (f : Option ℕ) (e : f ≡ Some i) where
    pub section_in_use : f ≡ found_from 0 (names_from u.sections section_size section_places s) name → i < most_sections
    section_in_use ef =
        omega (arith, found_in_use section_size u.sections section_places name s f ef i e, can.there.sections, ap (λ (z : Used). z.sections) eu)

    pub section_area : f ≡ found_from 0 (names_from u.sections section_size section_places s) name → (l : Limits) → l ≡ limits_of s → AnArea l i
    section_area ef l el = record { number = omega (arith, section_in_use ef); size = rw el can.area }

    pub mpt_in_use : f ≡ found_from 0 (names_from u.control_ids control_size control_places s) name → MptReachable s i
    mpt_in_use ef =
        record {
          session = can;
          place =
              omega (arith, found_in_use control_size u.control_ids control_places name s f ef i e, can.there.controls, ap (λ (z : Used). z.control_ids) eu);
        }

-- ---- a reading of a session that question 5 lets pass

module _ (s : Session) (a : Result ⊤ Refusal) (ea : a ≡ session_asked s) (u : ⊤) (ok : a ≡ Ok u) where
  pub session_reached : Reachable s.state
  session_reached = reaches s (sound_session s (was_sound s a ea u ok))

pub asked_reached : (st others objects messages tables : List ℕ) (r : Result ⊤ Refusal) (u : ⊤) → r ≡ session_asked (lent st others objects messages tables)
    → r ≡ Ok u → Reachable st
asked_reached st others objects messages tables r u e k = session_reached (lent st others objects messages tables) r e u k
