-- The declared bytes of a table read as the table does: its parser looks at nothing behind them. Assumes nothing.
use Rattle.std.specs.Prelude.{Result, Some}
use Rattle.std.proofs.Common.{◌≡◌, ℕ, zero, suc, ◌+◌, ◌-◌, ◌%◌, ◌<◌, ◌≤◌, not, eqb, ltb, leb, [], ◌∷◌, length, take, drop, refl, ap, ◌∙◌, arith, length-take-le, take_all, get_or-take, take-take, ltb-false, le-ltb, leb-false, leb-true}
use Rattle.isdb_tlv.specs.Bytes.{be}
use Rattle.isdb_tlv.specs.Crc.{crc_of}
use Rattle.isdb_tlv.proofs.Guards.{cond_elim, either}
use Rattle.isdb_tlv.proofs.Numbers.{be_take}
use Rattle.isdb_mmt.specs.Decoder.Packet.{Bytes}
use Rattle.isdb_mmt.specs.Formats.Section.{length12, header_of, long_section_of, in_section}
use Rattle.isdb_mmt.specs.Formats.Eit.{eit_of, eit_body}
use Rattle.isdb_mmt.specs.Formats.Sdt.{sdt_of, sdt_body}
use Rattle.isdb_mmt.specs.Formats.Bit.{bit_of, bit_body}
use Rattle.isdb_mmt.specs.Formats.Nit.{nit_of, nit_body}
use Rattle.isdb_mmt.specs.Formats.Amt.{amt_of, amt_body}
use Rattle.isdb_mmt.specs.Formats.Tot.{tot_of, tot_fields}
use Rattle.isdb_mmt.specs.Formats.Mpt.{mpt_of, mpt_table, declared_length_of}
use Rattle.isdb_mmt.specs.Formats.Plt.{plt_of, plt_table}
use Rattle.isdb_mmt.specs.Decoder.Kept.{declared_section, declared_table, body_read}
use Rattle.isdb_mmt.specs.declared.table.section.SectionHeader.{SectionHeader}
use Rattle.isdb_mmt.specs.declared.table.section.SectionError.{SectionError}

part_take : (k m n : ℕ) (l : Bytes) → k + m ≤ n → take m (drop k (take n l)) ≡ take m (drop k l)
part_take zero m n l h = take-take m n l (omega arith)
part_take (suc k) m zero l h = absurd (omega arith)
part_take (suc k) m (suc n) [] h = refl
part_take (suc k) m (suc n) (x ∷ l) h = part_take k m n l (omega arith)

-- the first `n` bytes are all there are, or `n`
cut : (P : Bytes → Type 0) (n : ℕ) (b : Bytes) → P b → (n < length b → length (take n b) ≡ n → P (take n b)) → P (take n b)
cut P n b h f =
    either (leb (length b) n) (λ e. rw (take_all n b (leb-true (length b) n e)) h)
    (λ e. let l = leb-false (length b) n e in f l (length-take-le n b (omega arith)))

module _ (b : Bytes) where
  abbrev n : ℕ
  n = length12 b 1 + 3

  same12 : length12 (take n b) 1 ≡ length12 b 1
  same12 = ap (λ x. x % 4096) (be_take 2 n b 1 (omega arith))

  same_header : 9 ≤ length12 b 1 → header_of (take n b) (length12 b 1 - 9) ≡ header_of b (length12 b 1 - 9)
  same_header h =
      rw (
        be_take 2 n b 3 (omega arith),
        get_or-take n b 0 0 (omega arith),
        get_or-take n b 5 0 (omega arith),
        get_or-take n b 6 0 (omega arith),
        get_or-take n b 7 0 (omega arith),
      )

  pub same_section : long_section_of (declared_section b) ≡ long_section_of b
  unfolding long_section_of
  same_section =
      cut (λ (d : Bytes). long_section_of d ≡ long_section_of b) n b refl (λ l e.
      either (ltb (length12 b 1) 9)
      (λ t. rw (e, same12, t, le-ltb n 3 (omega arith), le-ltb (length b) 3 (omega arith)))
      (λ t.
      let q = ltb-false (length12 b 1) 9 t in
      simp (
        e,
        same12,
        t,
        le-ltb n 3 (omega arith),
        le-ltb (length b) 3 (omega arith),
        le-ltb n n (omega arith),
        le-ltb (length b) n (omega arith),
        take-take n n b (omega arith),
        same_header q,
      )))

  -- what reads a section by its header and body
  module _ {R : Type 0} (refused : SectionError → R) (read : SectionHeader → Bytes → R) where
    abbrev Alike : Result SectionHeader SectionError → Type 0
    Alike x = in_section refused read (take n b) x ≡ in_section refused read b x

    alike : Alike (long_section_of b)
    unfolding long_section_of
    alike =
        cond_elim Alike (ltb (length b) 3) (λ e. refl) (λ e.
        cond_elim Alike (ltb (length12 b 1) 9) (λ e. refl) (λ t.
        cond_elim Alike (ltb (length b) n) (λ e. refl) (λ e.
        cond_elim Alike (not (eqb (crc_of (take n b)) 0)) (λ e. refl) (λ e.
        let h = header_of b (length12 b 1 - 9) in
        let q = ltb-false (length12 b 1) 9 t in
        ap (read h) (part_take 8 (length12 b 1 - 9) n b (omega arith))))))

    read_same : in_section refused read (take n b) (long_section_of (take n b)) ≡ in_section refused read b (long_section_of b)
    read_same = ap (in_section refused read (take n b)) same_section ∙ alike

  pub same_eit : eit_of (declared_section b) ≡ eit_of b
  unfolding eit_of
  same_eit = read_same _ eit_body

  pub same_sdt : sdt_of (declared_section b) ≡ sdt_of b
  unfolding sdt_of
  same_sdt = read_same _ sdt_body

  pub same_bit : bit_of (declared_section b) ≡ bit_of b
  unfolding bit_of
  same_bit = read_same _ bit_body

  pub same_nit : nit_of (declared_section b) ≡ nit_of b
  unfolding nit_of
  same_nit = read_same _ nit_body

  pub same_amt : amt_of (declared_section b) ≡ amt_of b
  unfolding amt_of
  same_amt = read_same _ amt_body

  pub same_tot : tot_of (declared_section b) ≡ tot_of b
  unfolding tot_of tot_fields
  same_tot =
      cut (λ (d : Bytes). tot_of d ≡ tot_of b) n b refl (λ l e.
      simp (
        e,
        same12,
        le-ltb n 3 (omega arith),
        le-ltb (length b) 3 (omega arith),
        le-ltb n n (omega arith),
        le-ltb (length b) n (omega arith),
        take-take n n b (omega arith),
      ))

  pub same_body : (id : ℕ) → body_read id (declared_section b) ≡ body_read id b
  unfolding body_read
  same_body id = simp (same_eit, same_sdt, same_bit, same_nit, same_amt)

-- an MPT and a PLT
module _ (b : Bytes) where
  abbrev k : ℕ
  k = be 2 b 2 + 4

  same_length : k < length b → length (take k b) ≡ k → declared_length_of (take k b) ≡ Some k
  unfolding declared_length_of
  same_length l e = simp (e, be_take 2 k b 2 (omega arith), le-ltb k 4 (omega arith), le-ltb k k (omega arith))

  was_length : k < length b → declared_length_of b ≡ Some k
  unfolding declared_length_of
  was_length l = simp (le-ltb (length b) 4 (omega arith), le-ltb (length b) k (omega arith))

  pub same_mpt : mpt_of (declared_table b) ≡ mpt_of b
  unfolding mpt_of
  same_mpt =
      cut (λ (d : Bytes). mpt_of d ≡ mpt_of b) k b refl (λ l e.
      rw (same_length l e, was_length l) (ap mpt_table (take-take k k b (omega arith))))

  pub same_plt : plt_of (declared_table b) ≡ plt_of b
  unfolding plt_of
  same_plt =
      cut (λ (d : Bytes). plt_of d ≡ plt_of b) k b refl (λ l e.
      rw (same_length l e, was_length l) (ap plt_table (take-take k k b (omega arith))))
