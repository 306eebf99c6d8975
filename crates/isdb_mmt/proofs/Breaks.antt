-- What is decided of a table adds little to the counts, so that those of a message do not wrap. Assumes nothing.
use Rattle.std.specs.Prelude.{None, Option, Some}
use Rattle.std.proofs.Common.{◌≡◌, ℕ, ◌≤◌, true, false, not, List, length, get_or, refl, arith}
use lib.ListN.{length-map}
use Rattle.isdb_tlv.specs.Guards.{◌=?◌}
use Rattle.isdb_tlv.proofs.Guards.{cond_elim}
use Rattle.isdb_mmt.specs.Decoder.Packet.{Bytes}
use Rattle.isdb_mmt.specs.Memory.Lent.{found_from}
use Rattle.isdb_mmt.specs.Decoder.Kept.{Section, Table, empty_table, mpt_table, plt_table, tot_table, truncated_section, a_section, other_table, table_read}
use Rattle.isdb_mmt.specs.declared.decoder.section.KeptSection.{KeptSection}
use Rattle.isdb_mmt.specs.declared.decoder.table_outcome.Recent.{Recent}
use Rattle.isdb_mmt.specs.declared.decoder.table_outcome.TableOutcome.{TableOutcome}
use Rattle.isdb_mmt.specs.Pushes.TableOutcome.{keys_of, no_section, body_outcome, version_outcome, section_outcome, table_outcome, changes_to}
use Rattle.isdb_mmt.specs.Pushes.PendingTables.{most_by_table, Small, section_read}
use Rattle.isdb_mmt.specs.Memory.Layout.{most_message_area}
use Rattle.isdb_mmt.proofs.TableOutcomes.{found_within}
use Rattle.isdb_mmt.proofs.Maps.{one_le}
use Rattle.isdb_mmt.proofs.Amounts.{breaks_of, section_breaks, table_breaks}

module _ (ks : List KeptSection) (used : ℕ) (eu : length ks ≡ used) where
  module _ (x : Section) (f : x.breaks ≤ most_by_table) where
    abbrev Fine : TableOutcome → Type 0
    Fine t = Small t used most_by_table

    small_body : (c i : ℕ) → c ≤ 1 → i ≤ used → Fine (body_outcome x c i)
    small_body c i h w =
        cond_elim Fine x.body_ok
        (λ e. record { crc_errors = omega arith; malformed = omega arith; changes = omega arith; breaks = f; within = w })
        (λ e. record { crc_errors = omega arith; malformed = omega arith; changes = omega arith; breaks = f; within = tt })

    small_version : (g : Option ℕ) → found_from 0 (keys_of ks) x.key ≡ g → Fine (version_outcome ks x g)
    small_version None e = small_body 0 (length ks) (omega arith) (omega arith)
    small_version (Some i) e =
        cond_elim Fine ((get_or ks i no_section).version =? x.version)
        (λ z. record { crc_errors = omega arith; malformed = omega arith; changes = omega arith; breaks = omega arith; within = tt })
        (λ z. small_body 1 i (omega arith) (omega (arith, found_within 0 (keys_of ks) x.key i e, length-map ks (λ (k : KeptSection). k.key))))

    small_section : Fine (section_outcome ks x)
    unfolding section_outcome
    small_section =
        cond_elim Fine x.header_and_crc_good (λ e. small_version (found_from 0 (keys_of ks) x.key) refl) (λ e.
        cond_elim Fine x.crc_bad
        (λ z. record { crc_errors = omega arith; malformed = omega arith; changes = omega arith; breaks = omega arith; within = tt })
        (λ z. record { crc_errors = omega arith; malformed = omega arith; changes = omega arith; breaks = omega arith; within = tt }))

  small_table : (m p : Option Recent) (t : Table) → breaks_of t ≤ most_by_table → Small (table_outcome ks m p t) used most_by_table
  unfolding table_outcome
  small_table m p empty_table f = record { crc_errors = omega arith; malformed = omega arith; changes = omega arith; breaks = omega arith; within = tt }
  small_table m p (mpt_table true n b) f = record { crc_errors = omega arith; malformed = omega arith; changes = omega (arith, one_le (changes_to m (get_or b 1 0))); breaks = f; within = tt }
  small_table m p (mpt_table false n b) f = record { crc_errors = omega arith; malformed = omega arith; changes = omega arith; breaks = f; within = tt }
  small_table m p (plt_table true b) f = record { crc_errors = omega arith; malformed = omega arith; changes = omega (arith, one_le (changes_to p (get_or b 1 0))); breaks = omega arith; within = tt }
  small_table m p (plt_table false b) f = record { crc_errors = omega arith; malformed = omega arith; changes = omega arith; breaks = omega arith; within = tt }
  small_table m p (tot_table true crc n b) f = record { crc_errors = omega (arith, one_le crc); malformed = omega arith; changes = omega arith; breaks = f; within = tt }
  small_table m p (tot_table false crc n b) f = record { crc_errors = omega (arith, one_le crc); malformed = omega (arith, one_le (not crc)); changes = omega arith; breaks = f; within = tt }
  small_table m p truncated_section f = record { crc_errors = omega arith; malformed = omega arith; changes = omega arith; breaks = omega arith; within = tt }
  small_table m p (a_section x) f = small_section x f
  small_table m p (other_table id) f = record { crc_errors = omega arith; malformed = omega arith; changes = omega arith; breaks = omega arith; within = tt }

  pub small_told : (m p : Option Recent) (b : Bytes) → length b ≤ most_message_area → Small (table_outcome ks m p (table_read b)) used most_by_table
  small_told m p b l = small_table m p (table_read b) (omega (arith, table_breaks b))

  -- a section of a control signal
  pub small_section_told : (m p : Option Recent) (b : Bytes) → length b ≤ most_message_area → Small (table_outcome ks m p (section_read b)) used most_by_table
  small_section_told m p b l = small_table m p (section_read b) (omega (arith, section_breaks b))
