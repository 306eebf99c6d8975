-- What a media packet does to its place, by the place and the lengths of the units alone. One law each says that it is what the
-- model does (proofs/MediaEffects).
use Rattle.std.specs.Prelude.{ℕ, ◌+◌, ◌<◌, ◌≤◌, max, Bool, true, false, List, [], ◌∷◌, length, None, Some, Option, is_some, unwrap_or}
use Rattle.isdb_tlv.specs.Guards.{◌≤?◌}
use Rattle.std.specs.Prelude.{if◌then◌else◌}
use Rattle.isdb_mmt.specs.Formats.Part.{part_of}
use Rattle.isdb_mmt.specs.Decoder.Maps.{one}
use Rattle.isdb_mmt.specs.Decoder.Objects.{most_object}
use Rattle.isdb_mmt.specs.Formats.Mpu.{header_or}
use Rattle.isdb_mmt.specs.Pushes.MediaPush.{no_object}
use Rattle.isdb_mmt.specs.declared.part.Part.{Part}
use Rattle.isdb_mmt.specs.declared.mpu.FragmentationIndicator.{FragmentationIndicator}
use Rattle.isdb_mmt.specs.declared.mpu.FragmentationIndicator.TheVariants.{Complete, Head, Middle, Last}
use Rattle.isdb_mmt.specs.declared.mpu.Unit.{Unit as DataUnit}
use Rattle.isdb_mmt.specs.declared.decoder.media.Object.{Object}
use Rattle.isdb_mmt.specs.declared.decoder.reassembler.MediaEffect.{MediaEffect}

-- ---- units

unfoldable pub unit_object : ℕ → Bool → DataUnit → ℕ → Object
unit_object mpu rap u n =
    record {
      mpu_sequence_number = mpu;
      rap = rap;
      timed = is_some u.mfu;
      header = header_or u.mfu;
      item = is_some u.item_id;
      item_id = unwrap_or u.item_id 0;
      length = n;
    }

abbrev pub with_length : ℕ → Object → Object
with_length n o =
    record {
      mpu_sequence_number = o.mpu_sequence_number;
      rap = o.rap;
      timed = o.timed;
      header = o.header;
      item = o.item;
      item_id = o.item_id;
      length = n;
    }

-- the object that is held, the empty one where none is
abbrev pub object_or : Option Object → Object
object_or o = unwrap_or o no_object

-- a whole unit of n bytes of data, at p
unfoldable pub complete_unit : MediaEffect → Part → ℕ → MediaEffect
complete_unit t p n =
    record {
      object = None;
      drops = t.drops + one (is_some t.object);
      records = t.records + 1;
      bytes = t.bytes + n;
      longest = t.longest;
      last = p;
    }

unfoldable pub head_unit : MediaEffect → Object → Part → ℕ → MediaEffect
head_unit t o p n =
    record {
      object = Some o;
      drops = t.drops + one (is_some t.object);
      records = t.records;
      bytes = t.bytes;
      longest = max t.longest n;
      last = p;
    }

unfoldable pub dropped_unit : MediaEffect → Part → MediaEffect
dropped_unit t p =
    record {
      object = None;
      drops = t.drops + 1;
      records = t.records;
      bytes = t.bytes;
      longest = t.longest;
      last = p;
    }

-- the object has n bytes with this unit, and may end with it
unfoldable pub grown_to : Bool → Object → MediaEffect → Part → ℕ → MediaEffect
grown_to true o t p n =
    record {
      object = None;
      drops = t.drops;
      records = t.records + 1;
      bytes = t.bytes + n;
      longest = max t.longest n;
      last = p;
    }
grown_to false o t p n =
    record {
      object = Some (with_length n o);
      drops = t.drops;
      records = t.records;
      bytes = t.bytes;
      longest = max t.longest n;
      last = p;
    }

abbrev pub grown_by : Bool → MediaEffect → Part → ℕ → Option Object → MediaEffect
grown_by ends t p n None = t
grown_by ends t p n (Some o) =
    if o.length + n ≤? most_object then grown_to ends o t p (o.length + n) else dropped_unit t p

unfoldable pub grown_unit : Bool → MediaEffect → Part → ℕ → MediaEffect
grown_unit ends t p n = grown_by ends t p n t.object

unfoldable pub with_unit : FragmentationIndicator → ℕ → Bool → MediaEffect → DataUnit → ℕ → MediaEffect
with_unit Complete mpu rap t u n = complete_unit t u.«data» n
with_unit Head mpu rap t u n = head_unit t (unit_object mpu rap u n) u.«data» n
with_unit Middle mpu rap t u n = grown_unit false t u.«data» n
with_unit Last mpu rap t u n = grown_unit true t u.«data» n

module _ (f : FragmentationIndicator) (mpu : ℕ) (rap : Bool) (q : List ℕ) where
  unfoldable pub with_each_unit : MediaEffect → List DataUnit → MediaEffect
  with_each_unit t [] = t
  with_each_unit t (u ∷ us) = with_each_unit (with_unit f mpu rap t u (length (part_of q u.«data»))) us

  unfoldable pub units_effect : MediaEffect → Option (List DataUnit) → Option MediaEffect
  units_effect t None = None
  units_effect t (Some us) = Some (with_each_unit t us)

-- what a walk can carry: nothing overflows, `at` bytes behind its start
pub record Roomy (t : MediaEffect) (at : ℕ) : Type 0 where
  pub drops : t.drops + one (is_some t.object) ≤ at + 2
  pub records : t.records ≤ at
  pub bytes : t.bytes + (object_or t.object).length ≤ at + 4294967296

-- so is one unit more
pub record Light (t : MediaEffect) (n : ℕ) : Type 0 where
  pub drops : t.drops < 4294967296
  pub records : t.records < 4294967296
  pub bytes : t.bytes < 1099511627776
  pub unit : n < 4294967296

-- what the walk over the units starts from
pub record Ready (q : List ℕ) (t : MediaEffect) : Type 0 where
  pub long : length q ≤ 65537
  pub room : Roomy t 8
