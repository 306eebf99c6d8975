-- What a media packet would do, from its place and its payload: nothing is written.
use Rattle.std.specs.Prelude.{◌≡◌, ℕ, ◌≤◌, Bool, true, false, List, length, None, Option, Some}
use Rattle.std.specs.Prelude.{if◌then◌else◌}
use Rattle.isdb_mmt.specs.Formats.Mpu.{payload_header, declared_of, units_of}
use Rattle.isdb_mmt.specs.Decoder.Objects.{most_object}
use Rattle.isdb_mmt.specs.Pushes.MediaEffect.{units_effect}
use Rattle.isdb_mmt.specs.Pushes.MediaPlace.{start_of}
use Rattle.isdb_mmt.specs.declared.mpu.FragmentType.{FragmentType}
use Rattle.isdb_mmt.specs.declared.mpu.FragmentType.TheVariants.{MpuMetadata, MovieFragmentMetadata, Mfu, Reserved}
use Rattle.isdb_mmt.specs.declared.mpu.PayloadHeader.{PayloadHeader}
use Rattle.isdb_mmt.specs.declared.decoder.media.Media.{Media}
use Rattle.isdb_mmt.specs.declared.decoder.reassembler.MediaEffect.{MediaEffect}
use Rattle.isdb_mmt.specs.declared.decoder.reassembler.MediaOutcome.{MediaOutcome}

abbrev pub outcome_with : Bool → Bool → Option PayloadHeader → MediaEffect → MediaOutcome
outcome_with bad taken h t = record { bad = bad; taken = taken; header = h; units = t }

abbrev pub outcome_of_units : MediaEffect → PayloadHeader → Option MediaEffect → MediaOutcome
outcome_of_units t h None = outcome_with true false (Some h) t
outcome_of_units t h (Some r) = outcome_with false true (Some h) r

unfoldable pub units_outcome : MediaEffect → PayloadHeader → Bool → List ℕ → FragmentType → MediaOutcome
units_outcome t h rap b Mfu =
    outcome_of_units t h
    (units_effect h.fragmentation h.mpu_sequence_number rap (declared_of b) t (units_of (declared_of b) h.timed h.aggregated))
units_outcome t h rap b MpuMetadata = outcome_with false false (Some h) t
units_outcome t h rap b MovieFragmentMetadata = outcome_with false false (Some h) t
units_outcome t h rap b (Reserved c) = outcome_with false false (Some h) t

unfoldable pub outcome_by : MediaEffect → Bool → Bool → List ℕ → Option PayloadHeader → MediaOutcome
outcome_by t scrambled rap b None = outcome_with true false None t
outcome_by t scrambled rap b (Some h) =
    if scrambled then outcome_with false false (Some h) t else units_outcome t h rap b h.fragment_type

unfoldable pub media_outcome : Media → ℕ → Bool → Bool → List ℕ → MediaOutcome
media_outcome p n scrambled rap b = outcome_by (start_of p n) scrambled rap b (payload_header b)

-- the length of a held object counts, of what is not held it says nothing
pub record CanReadUnits (p : Media) (b : List ℕ) : Type 0 where
  pub long : length b ≤ 65535
  pub object : p.held ≡ true → p.object.length ≤ most_object
