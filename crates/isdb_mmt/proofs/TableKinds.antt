-- The table that some bytes are read as, kind by kind. Assumes nothing.
use Rattle.std.proofs.Common.{◌≤◌, eqb, ltb, leb, length, get_or, ltb-false, leb-true}
use Rattle.isdb_tlv.proofs.Guards.{cond_elim}
use Rattle.isdb_mmt.specs.Decoder.Packet.{Bytes}
use Rattle.isdb_mmt.specs.Formats.Mpt.{mpt_of}
use Rattle.isdb_mmt.specs.Formats.Plt.{plt_of}
use Rattle.isdb_mmt.specs.Formats.Tot.{tot_of}
use Rattle.isdb_mmt.specs.Decoder.Kept.{declared_section, declared_table, section_of, Table, empty_table, mpt_table, plt_table, tot_table, truncated_section, a_section, other_table, mpt_parses, plt_parses, tot_parses, tot_crc_bad, long_table, table_by_id, table_read}

-- what is to be shown of a table, for each kind that the bytes may be of; an MPT has an id from 0x11 to 0x20
pub record Kinds (P : Table → Type 0) (b : Bytes) : Type 0 where
  pub empty : P empty_table
  pub mpt : 0x11 ≤ get_or b 0 0 → get_or b 0 0 ≤ 0x20 → P (mpt_table (mpt_parses (mpt_of b).mpt) (mpt_of b).breaks (declared_table b))
  pub plt : P (plt_table (plt_parses (plt_of b)) (declared_table b))
  pub tot : P (tot_table (tot_parses (tot_of b).result) (tot_crc_bad (tot_of b).result) (tot_of b).breaks (declared_section b))
  pub truncated : P truncated_section
  pub section : P (a_section (section_of b))
  pub others : P (other_table (get_or b 0 0))

pub by_kinds : (P : Table → Type 0) (b : Bytes) → Kinds P b → P (table_read b)
unfolding table_read table_by_id
by_kinds P b k =
    let id = get_or b 0 0 in
    let long : P (long_table b) = cond_elim P (ltb (length b) 7) (λ e. k.truncated) (λ e. k.section) in
    cond_elim P (eqb (length b) 0) (λ e. k.empty) (λ e.
    cond_elim P (ltb id 0x11) (λ e. k.others) (λ low.
    cond_elim P (leb id 0x20) (λ high. k.mpt (ltb-false id 0x11 low) (leb-true id 0x20 high)) (λ e.
    cond_elim P (eqb id 0x80) (λ e. k.plt) (λ e.
    cond_elim P (eqb id 0xA1) (λ e. k.tot) (λ e.
    cond_elim P (ltb id 0x8B) (λ e. k.others) (λ e.
    cond_elim P (leb id 0x9B) (λ e. long) (λ e.
    cond_elim P (eqb id 0x9D) (λ e. long) (λ e.
    cond_elim P (eqb id 0x9F) (λ e. long) (λ e.
    cond_elim P (eqb id 0xA0) (λ e. long) (λ e. k.others))))))))))
