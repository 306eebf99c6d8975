-- ISO/IEC 23008-1 with ARIB STD-B60, 6.4.1.1, Tables 6-4 to 6-9: an MMTP packet as a conforming sender writes it, and
-- what it means to read it right.
use Rattle.std.specs.Prelude.{ℕ, ◌+◌, ◌^◌, ◌≤◌, ◌<◌, ◌≡◌, Bool, true, false, List, [], ◌∷◌, ◌++◌, length, drop, None, Some, Option}
use Rattle.isdb_tlv.specs.Guards.{◌=?◌}
use Rattle.isdb_tlv.specs.Fields.{Field, field, bits, packed, written}
use Rattle.isdb_tlv.specs.Mmtp.{mmtp_of}
use Rattle.isdb_tlv.specs.declared.mmtp.FecType.{FecType}
use Rattle.isdb_tlv.specs.declared.mmtp.FecType.TheVariants.{NotProtected, Source, Repair, Reserved}
use Rattle.isdb_tlv.specs.declared.mmtp.PayloadType.{PayloadType}
use Rattle.isdb_tlv.specs.declared.mmtp.PayloadType.TheVariants.{Mpu, GenericObject, Messages, FecRepair, Reserved as reserved_kind}
use Rattle.isdb_tlv.specs.declared.mmtp.Header.{Header}

-- Table 6-5: the FEC types and their numbers
pub data Fec : Type 0 where
  not_protected : Fec
  source : Fec
  repair : Fec
  reserved_fec : Fec

abbrev pub fec_code_of : Fec → ℕ
fec_code_of not_protected = 0
fec_code_of source = 1
fec_code_of repair = 2
fec_code_of reserved_fec = 3

abbrev pub fec_seen : Fec → FecType
fec_seen not_protected = NotProtected
fec_seen source = Source
fec_seen repair = Repair
fec_seen reserved_fec = Reserved

-- Table 6-6: the types of a payload and their numbers; those from 4 on are left open
pub data Kind : Type 0 where
  mpu : Kind
  generic_object : Kind
  control_message : Kind
  repair_symbol : Kind
  open_kind : ℕ → Kind

abbrev pub kind_code : Kind → ℕ
kind_code mpu = 0x00
kind_code generic_object = 0x01
kind_code control_message = 0x02
kind_code repair_symbol = 0x03
kind_code (open_kind c) = c

abbrev pub kind_seen : Kind → PayloadType
kind_seen mpu = Mpu
kind_seen generic_object = GenericObject
kind_seen control_message = Messages
kind_seen repair_symbol = FecRepair
kind_seen (open_kind c) = reserved_kind c

-- ARIB STD-B61: how a payload is scrambled, two bits; 1 is not used
pub data Scrambling : Type 0 where
  not_scrambled : Scrambling
  even_key : Scrambling
  odd_key : Scrambling

abbrev pub scrambling_code : Scrambling → ℕ
scrambling_code not_scrambled = 0
scrambling_code even_key = 2
scrambling_code odd_key = 3

-- an entry of a multi-type header extension
pub data Entry : Type 0 where
  -- of type 1: three bits, the scrambling, three bits, and what follows them
  scrambling : ℕ → Scrambling → ℕ → List ℕ → Entry
  -- of another type of 15 bits, and some bytes
  other_entry : ℕ → List ℕ → Entry

abbrev pub entry_type : Entry → ℕ
entry_type (scrambling upper x lower more) = 1
entry_type (other_entry type b) = type

abbrev pub entry_bytes : Entry → List ℕ
entry_bytes (scrambling upper x lower more) =
    written (field 1 (packed (bits 3 upper ∷ bits 2 (scrambling_code x) ∷ bits 3 lower ∷ [])) ∷ []) ++ more
entry_bytes (other_entry type b) = b

-- a header extension: none, one that holds entries (type 0), the last of them by itself, or one of another type
pub data Extension : Type 0 where
  no_extension : Extension
  multi_type : List Entry → Entry → Extension
  other_type : ℕ → List ℕ → Extension

-- reserved bits as the sender likes
pub record Mmtp : Type 0 where
  pub fec : Fec
  pub reserved : ℕ
  pub rap : ℕ
  pub reserved2 : ℕ
  pub kind : Kind
  pub packet_id : ℕ
  pub delivery_timestamp : ℕ
  pub sequence_number : ℕ
  pub packet_counter : Option ℕ
  pub extension : Extension
  pub payload : List ℕ

-- Table 6-9: an end flag, the type, a length and so many bytes
abbrev pub entry_sent : ℕ → Entry → List ℕ
entry_sent end e =
    written (field 2 (packed (bits 1 end ∷ bits 15 (entry_type e) ∷ [])) ∷ field 2 (length (entry_bytes e)) ∷ []) ++ entry_bytes e

abbrev pub entries_sent : List Entry → Entry → List ℕ
entries_sent [] final = entry_sent 1 final
entries_sent (e ∷ es) final = entry_sent 0 e ++ entries_sent es final

-- a header extension: type, length, bytes
abbrev pub extension_bytes : ℕ → List ℕ → List ℕ
extension_bytes type b = written (field 2 type ∷ field 2 (length b) ∷ []) ++ b

abbrev pub extension_sent : Extension → List ℕ
extension_sent no_extension = []
extension_sent (multi_type es final) = extension_bytes 0 (entries_sent es final)
extension_sent (other_type type b) = extension_bytes type b

abbrev pub extension_flag : Extension → ℕ
extension_flag no_extension = 0
extension_flag (multi_type es final) = 1
extension_flag (other_type type b) = 1

abbrev pub counter_sent : Option ℕ → List ℕ
counter_sent None = []
counter_sent (Some c) = written (field 4 c ∷ [])

abbrev pub counter_flag : Option ℕ → ℕ
counter_flag None = 0
counter_flag (Some c) = 1

-- Table 6-4: version 0, packet counter flag, FEC type, reserved, extension flag, RAP flag, reserved, payload type, packet
-- id, delivery timestamp, packet sequence number
abbrev pub header : Mmtp → List Field
header p =
    field 1 (packed (bits 2 0 ∷ bits 1 (counter_flag p.packet_counter) ∷ bits 2 (fec_code_of p.fec)
    ∷ bits 1 p.reserved ∷ bits 1 (extension_flag p.extension) ∷ bits 1 p.rap ∷ []))
    ∷ field 1 (packed (bits 2 p.reserved2 ∷ bits 6 (kind_code p.kind) ∷ []))
    ∷ field 2 p.packet_id
    ∷ field 4 p.delivery_timestamp
    ∷ field 4 p.sequence_number
    ∷ []

-- all that stands before the payload
abbrev pub front : Mmtp → List ℕ
front p = written (header p) ++ counter_sent p.packet_counter ++ extension_sent p.extension

unfoldable pub sent : Mmtp → List ℕ
sent p = front p ++ p.payload

-- every value fits its field
abbrev pub EntryConforming : Entry → Type 0
EntryConforming (scrambling upper x lower more) = (upper < 2 ^ 3) × (lower < 2 ^ 3) × (1 + length more < 2 ^ 16)
EntryConforming (other_entry type b) = (type < 2 ^ 15) × (type ≡ 1 → ⊥) × (length b < 2 ^ 16)

abbrev pub EntriesConforming : List Entry → Type 0
EntriesConforming [] = Unit {0}
EntriesConforming (e ∷ es) = EntryConforming e × EntriesConforming es

abbrev pub ExtensionConforming : Extension → Type 0
ExtensionConforming no_extension = Unit {0}
ExtensionConforming (multi_type es final) =
    EntriesConforming es × EntryConforming final × (length (entries_sent es final) < 2 ^ 16)
ExtensionConforming (other_type type b) = (0 < type) × (type < 2 ^ 16) × (length b < 2 ^ 16)

abbrev pub KindConforming : Kind → Type 0
KindConforming mpu = Unit {0}
KindConforming generic_object = Unit {0}
KindConforming control_message = Unit {0}
KindConforming repair_symbol = Unit {0}
KindConforming (open_kind c) = (4 ≤ c) × (c < 2 ^ 6)

pub record Conforming (p : Mmtp) : Type 0 where
  pub reserved : p.reserved < 2
  pub rap : p.rap < 2
  pub reserved2 : p.reserved2 < 2 ^ 2
  pub kind : KindConforming p.kind
  pub packet_id : p.packet_id < 2 ^ 16
  pub delivery_timestamp : p.delivery_timestamp < 2 ^ 32
  pub sequence_number : p.sequence_number < 2 ^ 32
  pub extension : ExtensionConforming p.extension

-- what the entries say of scrambling: the first of type 1 decides
abbrev pub scrambling_or : Entry → Option Scrambling → Option Scrambling
scrambling_or (scrambling upper x lower more) others = Some x
scrambling_or (other_entry type b) others = others

abbrev pub scrambling_in : List Entry → Entry → Option Scrambling
scrambling_in [] final = scrambling_or final None
scrambling_in (e ∷ es) final = scrambling_or e (scrambling_in es final)

abbrev pub scrambling_of : Extension → Option Scrambling
scrambling_of no_extension = None
scrambling_of (multi_type es final) = scrambling_in es final
scrambling_of (other_type type b) = None

-- whether the payload is scrambled, and the two bits, where there are any
abbrev pub info_seen : Option Scrambling → Bool
info_seen None = false
info_seen (Some not_scrambled) = false
info_seen (Some even_key) = true
info_seen (Some odd_key) = true

abbrev pub control_seen : Option Scrambling → Option ℕ
control_seen None = None
control_seen (Some x) = Some (scrambling_code x)

abbrev pub header_of : Mmtp → Header
header_of p =
    record {
      fec_type = fec_seen p.fec;
      rap = p.rap =? 1;
      payload_type = kind_seen p.kind;
      packet_id = p.packet_id;
      sequence = p.sequence_number;
      scramble_info = info_seen (scrambling_of p.extension);
      scramble_control = control_seen (scrambling_of p.extension);
    }

pub record Read (p : Mmtp) : Type 0 where
  pub fields : mmtp_of (sent p) ≡ Some (record { header = header_of p; start = length (front p) })
  pub payload : drop (length (front p)) (sent p) ≡ p.payload

-- proved in proofs/Iso23008.antt
abbrev pub Theorem : Type 0
Theorem = (p : Mmtp) → Conforming p → Read p
