-- Bytes that a reading hands out parse, and so have a whole value. Assumes nothing.
use Rattle.std.proofs.Common.{◌≡◌, ℕ, Bool, true, false, ◌&&◌, refl, ◌∙◌}
use Rattle.std.specs.Prelude.{Option, Some, None, Result, Ok, Err}
use Rattle.isdb_mmt.specs.declared.decoder.refusal.Refusal.{Refusal}
use Rattle.isdb_tlv.proofs.Guards.{cond_elim}
use Rattle.isdb_mmt.specs.Decoder.Packet.{Bytes}
use Rattle.isdb_mmt.specs.Formats.Part.{part_of}
use Rattle.isdb_mmt.specs.Formats.Section.{long_section_of}
use Rattle.isdb_mmt.specs.Formats.Mpt.{mpt_of}
use Rattle.isdb_mmt.specs.Formats.Plt.{plt_of}
use Rattle.isdb_mmt.specs.Formats.Tot.{tot_of}
use Rattle.isdb_mmt.specs.Decoder.Kept.{head_is_ok, body_read, parses_as, mpt_parses, plt_parses, tot_parses}
use Rattle.isdb_mmt.specs.Memory.Session.{Session}
use Rattle.isdb_mmt.specs.Memory.Check.{sound}
use Rattle.isdb_mmt.specs.Answers.Readings.{control_found, section_found, mpt_part, plt_part, tot_part, section_part, table_if, table_read, table_id_of_key, section_read, mpt_read, plt_read, tot_read}
use Rattle.isdb_mmt.specs.WholeValues.WholeLists.{section_whole}
use Rattle.isdb_mmt.specs.WholeValues.ReadWhole.{ReadTheorem}
use Rattle.isdb_mmt.specs.declared.part.Part.{Part}
use Rattle.isdb_mmt.proofs.Names.{true_not_false}
use Rattle.isdb_mmt.proofs.WholeLists.{values}

abbrev Handed : (Bytes → Bool) → Bytes → Result (Option Part) Refusal → Type 0
Handed parses b (Err e) = Unit {0}
Handed parses b (Ok None) = Unit {0}
Handed parses b (Ok (Some p)) = parses (part_of b p) ≡ true

module _ (parses : Bytes → Bool) where
  if_handed : (b : Bytes) (o : Option Part) → Handed parses b (table_if parses b o)
  if_handed b None = tt
  if_handed b (Some p) = cond_elim (Handed parses b) (parses (part_of b p)) (λ e. e) (λ e. tt)

  handed : (s : Session) (o : Option Part) → Handed parses s.tables (table_read s parses o)
  handed s o = cond_elim (Handed parses s.tables) (sound s) (λ e. if_handed s.tables o) (λ e. tt)

and_right : (a b : Bool) → (a && b) ≡ true → b ≡ true
and_right true b h = h
and_right false b h = true_not_false false h refl

section_parses : (id : ℕ) (b : Bytes) → parses_as id b ≡ true → section_whole id b ≡ true
unfolding parses_as
section_parses id b h = values.section id b ∙ and_right (head_is_ok (long_section_of b)) (body_read id b).ok h

mpt_read_lem : (s : Session) (id : ℕ) (p : Part) → mpt_read s id ≡ Ok (Some p) → mpt_parses (mpt_of (part_of s.tables p)).mpt ≡ true
unfolding mpt_read
mpt_read_lem s id p e = rw e at (handed (λ b. mpt_parses (mpt_of b).mpt) s (mpt_part s (control_found s id)))

plt_read_lem : (s : Session) (p : Part) → plt_read s ≡ Ok (Some p) → plt_parses (plt_of (part_of s.tables p)) ≡ true
unfolding plt_read
plt_read_lem s p e = rw e at (handed (λ b. plt_parses (plt_of b)) s (plt_part s))

tot_read_lem : (s : Session) (p : Part) → tot_read s ≡ Ok (Some p) → tot_parses (tot_of (part_of s.tables p)).result ≡ true
unfolding tot_read
tot_read_lem s p e = rw e at (handed (λ b. tot_parses (tot_of b).result) s (tot_part s))

section_read_lem : (s : Session) (k : ℕ) (p : Part) → section_read s k ≡ Ok (Some p) → parses_as (table_id_of_key k) (part_of s.tables p) ≡ true
unfolding section_read
section_read_lem s k p e = rw e at (handed (parses_as (table_id_of_key k)) s (section_part s (section_found s k)))

pub reads : ReadTheorem
reads =
    record {
      mpt = λ s id p e. values.mpt (part_of s.tables p) ∙ mpt_read_lem s id p e;
      plt = λ s p e. values.plt (part_of s.tables p) ∙ plt_read_lem s p e;
      tot = λ s p e. values.tot (part_of s.tables p) ∙ tot_read_lem s p e;
      section = λ s k p e. section_parses (table_id_of_key k) (part_of s.tables p) (section_read_lem s k p e);
    }
