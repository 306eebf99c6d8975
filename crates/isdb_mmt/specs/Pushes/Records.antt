-- MFU records as they are handed out: rows of 36 bytes, with the data of all one behind the other in a second buffer.
use Rattle.std.specs.Prelude.{ℕ, ◌+◌, ◌*◌, ◌/◌, ◌%◌, Bool, false, List, [], ◌∷◌, ◌++◌, map, length, is_some, unwrap_or}
use Rattle.isdb_tlv.specs.Guards.{◌=?◌}
use Rattle.isdb_tlv.specs.Bytes.{be}
use Rattle.isdb_tlv.specs.Fields.{Field, field, written}
use Rattle.isdb_mmt.specs.Formats.Mpu.{header_or}
use Rattle.isdb_mmt.specs.Decoder.Packet.{Bytes}
use Rattle.isdb_mmt.specs.Decoder.Objects.{Mfu, Rec}
use Rattle.isdb_mmt.specs.Memory.Lent.{part, flag_byte, places_from}
use Rattle.isdb_mmt.specs.Memory.View.{header_given, item_given}
use Rattle.isdb_mmt.specs.declared.mpu.MfuHeader.{MfuHeader}
use Rattle.isdb_mmt.specs.declared.decoder.media.Object.{Object}
use Rattle.isdb_mmt.specs.declared.decoder.readings.HeldObject.{HeldObject}

-- what is known of an object beside its bytes
abbrev pub object_for : Mfu → Object
object_for f =
    record {
      mpu_sequence_number = f.mpu;
      rap = f.rap;
      timed = is_some f.mfu;
      header = header_or f.mfu;
      item = is_some f.item_id;
      item_id = unwrap_or f.item_id 0;
      length = length f.bytes;
    }

abbrev pub row_size : ℕ
row_size = 36

-- bit 0 random access point, 1 scrambled, 2 MFU header, 3 item id
abbrev pub record_flags : Bool → Bool → Bool → Bool → ℕ
record_flags rap scrambled timed item = flag_byte rap + 2 * flag_byte scrambled + 4 * flag_byte timed + 8 * flag_byte item

-- a row: packet id 2, flags 1, zero 1, MPU number 4, movie fragment, sample and offset 4 each, priority 1, dependency 1, zero 2,
-- item id 4, data start 4, data length 4; its `n` data start at `at` of the data
abbrev pub record_fields : ℕ → ℕ → ℕ → MfuHeader → ℕ → ℕ → ℕ → List Field
record_fields id flags mpu header item at n =
    field 2 id
    ∷ field 1 flags
    ∷ field 1 0
    ∷ field 4 mpu
    ∷ field 4 header.movie_fragment_sequence_number
    ∷ field 4 header.sample_number
    ∷ field 4 header.offset
    ∷ field 1 header.priority
    ∷ field 1 header.dependency_counter
    ∷ field 2 0
    ∷ field 4 item
    ∷ field 4 at
    ∷ field 4 n
    ∷ []

abbrev pub row_flags : Bool → Object → ℕ
row_flags scrambled o = record_flags o.rap scrambled o.timed o.item

abbrev pub row_fields : ℕ → Bool → Object → ℕ → List Field
row_fields id scrambled o at =
    record_fields id (row_flags scrambled o) o.mpu_sequence_number o.header o.item_id at o.length

-- the record of a held object as it would be delivered now: not scrambled, its data at 0
abbrev pub held_fields : ℕ → HeldObject → List Field
held_fields id o =
    record_fields id (record_flags o.rap false (is_some o.mfu) (is_some o.item_id)) o.mpu_sequence_number
    (header_or o.mfu) (unwrap_or o.item_id 0) 0 o.bytes.length

abbrev pub row_of : Rec → ℕ → Bytes
row_of r at = written (row_fields r.id r.scrambled (object_for r.mfu) at)

-- rows of some records, and their data
unfoldable pub rows_from : ℕ → List Rec → Bytes
rows_from at [] = []
rows_from at (r ∷ rs) = row_of r at ++ rows_from (at + length r.mfu.bytes) rs

unfoldable pub data_from : List Rec → Bytes
data_from [] = []
data_from (r ∷ rs) = r.mfu.bytes ++ data_from rs

-- what a host reads
abbrev pub bit_of : ℕ → ℕ → Bool
bit_of n w = n / w % 2 =? 1

unfoldable pub read_row : Bytes → Bytes → Rec
read_row given p =
    record {
      id = be 2 p 0;
      scrambled = bit_of (be 1 p 2) 2;
      mfu =
          record {
            mpu = be 4 p 4;
            rap = bit_of (be 1 p 2) 1;
            mfu =
                header_given (bit_of (be 1 p 2) 4)
                (record {
                  movie_fragment_sequence_number = be 4 p 8;
                  sample_number = be 4 p 12;
                  offset = be 4 p 16;
                  priority = be 1 p 20;
                  dependency_counter = be 1 p 21;
                });
            item_id = item_given (bit_of (be 1 p 2) 8) (be 4 p 24);
            bytes = part (be 4 p 28) (be 4 p 32) given;
          };
    }

unfoldable pub read_rows : ℕ → Bytes → Bytes → List Rec
unfolding places_from read_row
read_rows n rows given = map (read_row given) (places_from n row_size 0 rows)
