-- ARIB STD-B60: what the model keeps of tables that a conforming sender puts into messages, whole or divided.
use Rattle.std.specs.Prelude.{◌≡◌, ℕ, ◌<◌, ◌≤◌, true, List, [], ◌∷◌, ◌++◌, map, length, slice_index, Some}
use Rattle.isdb_mmt.specs.Decoder.Packet.{Bytes, MessagePacket, message_packet, message}
use Rattle.isdb_mmt.specs.Decoder.Kept.{table_read, mpt_table, mpt_after_all, stored_all}
use Rattle.isdb_mmt.specs.Decoder.Model.{State, control_of, pushed}
use Rattle.isdb_mmt.specs.Books.Demand.{push_all}
use Rattle.isdb_mmt.specs.Standards.StdB60Sections.{All}
use Rattle.isdb_mmt.specs.Standards.StdB60Tables.{SentMpt, mpt_rest, mpt_sent, MptConforming}
use Rattle.isdb_mmt.specs.Standards.StdB60Messages.{SentTable, pa, single, SentContent, content_sent, content_tables, SentControl, control_sent}
use Rattle.isdb_mmt.specs.Standards.StdB60Messages.{ControlConforming, SentDivided, divided_sent, DividedConforming}

abbrev pub state_after : State → List MessagePacket → State
state_after s xs = push_all s (map message xs)

-- packets of one content, pushed into any state: each of the sender's tables is taken in turn, and no part counts as an orphan, no
-- message as too long or malformed
pub record ContentPushed (c : SentContent) (id : ℕ) (xs : List MessagePacket) : Type 0 where
  pub mpt : (s : State) → (control_of id (state_after s xs)).mpt ≡ mpt_after_all (control_of id s).mpt (map table_read (content_tables c))
  pub store : (s : State) → (state_after s xs).store ≡ stored_all s.store (map table_read (content_tables c))
  pub orphans : (s : State) → (state_after s xs).counters.orphan_fragments ≡ s.counters.orphan_fragments
  pub oversizes : (s : State) → (state_after s xs).counters.oversize ≡ s.counters.oversize
  pub malformed : (s : State) → (state_after s xs).counters.message_malformed ≡ s.counters.message_malformed

-- an MPT as a table of a PA message
abbrev pub mpt_as_table : SentMpt → ℕ → SentTable
mpt_as_table t listed = record { id = t.table_id; version = t.version; content = mpt_rest t; listed = listed }

-- Table 4-8: the ids 11h to 20h are those of MPTs
abbrev pub IsMptId : ℕ → Type 0
IsMptId id = (0x11 ≤ id) × (id ≤ 0x20)

abbrev pub NoMpt : Bytes → Type 0
NoMpt b = 0x11 ≤ slice_index b 0 → 0x20 < slice_index b 0

-- an MPT among tables, behind which there is no other
pub record LastMpt (t : SentMpt) (bs : List Bytes) : Type 0 where
  pub before : List Bytes
  pub behind : List Bytes
  pub all : bs ≡ before ++ (mpt_sent t ∷ behind)
  pub others : All NoMpt behind

-- proved in proofs/StdB60Kept.antt
abbrev pub UndividedPushed : Type 0
UndividedPushed =
    (p : SentControl) → ControlConforming p → (id number : ℕ)
    → ContentPushed p.content id (message_packet id number (control_sent p) ∷ [])

abbrev pub DividedPushed : Type 0
DividedPushed =
    (d : SentDivided) → DividedConforming d → length (content_sent d.content) ≤ 1048576
    → ContentPushed d.content d.id (divided_sent d)

abbrev pub MptRecognized : Type 0
MptRecognized = (t : SentMpt) → MptConforming t → IsMptId t.table_id → table_read (mpt_sent t) ≡ mpt_table true 0 (mpt_sent t)

-- an MPT that was sent is the one that is kept, byte by byte
abbrev pub MptKept : Type 0
MptKept =
    (t : SentMpt) → MptConforming t → IsMptId t.table_id
    → (c : SentContent) → LastMpt t (content_tables c)
    → (id : ℕ) (xs : List MessagePacket) → ContentPushed c id xs
    → (s : State) → (control_of id (state_after s xs)).mpt ≡ Some (mpt_sent t)

-- an undivided PA message with an MPT among its tables; those behind it are no MPTs
pub record MptInPa : Type 0 where
  pub reserved : ℕ
  pub counter : ℕ
  pub extension : ℕ
  pub version : ℕ
  pub before : List SentTable
  pub mpt : SentMpt
  pub listed : ℕ
  pub behind : List SentTable

abbrev pub mpt_in_pa_tables : MptInPa → List SentTable
mpt_in_pa_tables x = x.before ++ (mpt_as_table x.mpt x.listed ∷ x.behind)

abbrev pub mpt_in_pa_sent : MptInPa → SentControl
mpt_in_pa_sent x =
    record {
      reserved = x.reserved;
      counter = x.counter;
      content = record { extension = x.extension; carried = single (pa x.version (mpt_in_pa_tables x)) };
    }

pub record MptInPaConforming (x : MptInPa) : Type 0 where
  pub payload : ControlConforming (mpt_in_pa_sent x)
  pub mpt : MptConforming x.mpt
  pub id : IsMptId x.mpt.table_id
  pub others : All (λ u. 0x11 ≤ u.id → 0x20 < u.id) x.behind

-- one push, and the MPT is kept
abbrev pub MptInPaKept : Type 0
MptInPaKept =
    (x : MptInPa) → MptInPaConforming x → (s : State) (id number : ℕ)
    → (control_of id (pushed s (message (message_packet id number (control_sent (mpt_in_pa_sent x)))))).mpt ≡ Some (mpt_sent x.mpt)

-- a witness: an MPT without assets, and a PLT behind it
abbrev pub mpt_witness : MptInPa
mpt_witness =
    record {
      reserved = 0;
      counter = 0;
      extension = 0;
      version = 0;
      before = [];
      mpt = record { table_id = 0x20; version = 1; reserved = 63; mode = 0; package_id = []; descriptors = []; assets = [] };
      listed = 5;
      behind = record { id = 0x80; version = 1; content = 0x00 ∷ 0x00 ∷ []; listed = 2 } ∷ [];
    }

abbrev pub mpt_witness_bytes : List ℕ
mpt_witness_bytes =
    0x00 ∷ 0x00 ∷ 0x00 ∷ 0x00 ∷ 0x00 ∷ 0x00 ∷ 0x00 ∷ 0x00 ∷ 0x18 ∷ 0x02 ∷ 0x20 ∷ 0x01 ∷ 0x00 ∷ 0x05 ∷ 0x80 ∷ 0x01 ∷ 0x00 ∷ 0x02
    ∷ 0x20 ∷ 0x01 ∷ 0x00 ∷ 0x05 ∷ 0xFC ∷ 0x00 ∷ 0x00 ∷ 0x00 ∷ 0x00 ∷ 0x80 ∷ 0x01 ∷ 0x00 ∷ 0x02 ∷ 0x00 ∷ 0x00 ∷ []

pub record MptWitness (x : MptInPa) (b : List ℕ) : Type 0 where
  pub conforms : MptInPaConforming x
  pub bytes : control_sent (mpt_in_pa_sent x) ≡ b
