-- ARIB STD-B60: what the model keeps of sections that a conforming sender puts into messages, MH-EIT, MH-SDT and MH-BIT.
use Rattle.std.specs.Prelude.{◌≡◌, ℕ, ◌+◌, ◌*◌, ◌^◌, ◌≤◌, true, false, List, [], ◌∷◌, Some}
use Rattle.isdb_mmt.specs.Decoder.Maps.{find}
use Rattle.isdb_mmt.specs.Decoder.Packet.{Bytes, MessagePacket}
use Rattle.isdb_mmt.specs.Decoder.Kept.{Section, other_version, table_read, a_section}
use Rattle.isdb_mmt.specs.Decoder.Model.{State}
use Rattle.isdb_mmt.specs.Standards.StdB60.{Header, section_sent}
use Rattle.isdb_mmt.specs.Standards.StdB60Sections.{SentEit, eit_body_sent, EitConforming, SentSdt, sdt_body_sent, SdtConforming, SentBit}
use Rattle.isdb_mmt.specs.Standards.StdB60Sections.{bit_body_sent, BitConforming}
use Rattle.isdb_mmt.specs.Standards.StdB60Messages.{m2_section, single, SentContent, SentControl, control_sent, ControlConforming, content_tables}
use Rattle.isdb_mmt.specs.Standards.StdB60Kept.{state_after, ContentPushed}

-- a section that was sent, as it is kept: under its table id, table id extension and section number
abbrev pub sent_key : Header → ℕ
sent_key h = h.table_id * 2 ^ 24 + h.extension * 2 ^ 8 + h.number

abbrev pub sent_section : Header → Bytes → Section
sent_section h body =
    record {
      key = sent_key h;
      header_and_crc_good = true;
      crc_bad = false;
      version = h.version;
      body_ok = true;
      breaks = 0;
      bytes = section_sent h body;
    }

abbrev pub Recognized : Header → Bytes → Type 0
Recognized h body = table_read (section_sent h body) ≡ a_section (sent_section h body)

-- Table 4-8: MH-EIT 8Bh to 9Bh, MH-SDT 9Fh and A0h, MH-BIT 9Dh; proved in proofs/StdB60KeptSections.antt
abbrev pub EitRecognized : Type 0
EitRecognized =
    (t : SentEit) → EitConforming t → 0x8B ≤ t.header.table_id → t.header.table_id ≤ 0x9B → Recognized t.header (eit_body_sent t)

abbrev pub SdtRecognized : Type 0
SdtRecognized =
    (t : SentSdt) → SdtConforming t → 0x9F ≤ t.header.table_id → t.header.table_id ≤ 0xA0 → Recognized t.header (sdt_body_sent t)

abbrev pub BitRecognized : Type 0
BitRecognized = (t : SentBit) → BitConforming t → t.header.table_id ≡ 0x9D → Recognized t.header (bit_body_sent t)

-- the one section of a content, of another version than the one that is kept under its key or where none is: it is kept, byte by
-- byte
abbrev pub SectionKept : Type 0
SectionKept =
    (h : Header) (body : Bytes) → Recognized h body
    → (c : SentContent) → content_tables c ≡ section_sent h body ∷ []
    → (id : ℕ) (xs : List MessagePacket) → ContentPushed c id xs
    → (s : State) → other_version (find (sent_key h) s.store.kept) h.version ≡ true
    → find (sent_key h) (state_after s xs).store.kept ≡ Some (record { version = h.version; bytes = section_sent h body })

-- a witness: an MH-SDT without services, in an undivided M2 section message
abbrev pub sdt_witness : SentSdt
sdt_witness =
    record {
      header =
          record {
            table_id = 0x9F;
            reserved = 7;
            extension = 101;
            reserved2 = 3;
            version = 1;
            current = 1;
            number = 0;
            last = 0;
          };
      original_network_id = 4;
      reserved = 255;
      services = [];
    }

abbrev pub sdt_section : List ℕ
sdt_section = section_sent sdt_witness.header (sdt_body_sent sdt_witness)

abbrev pub sdt_payload : SentControl
sdt_payload =
    record { reserved = 0; counter = 0; content = record { extension = 0; carried = single (m2_section 0 sdt_section) } }

abbrev pub sdt_payload_bytes : List ℕ
sdt_payload_bytes =
    0x00 ∷ 0x00 ∷ 0x80 ∷ 0x00 ∷ 0x00 ∷ 0x00 ∷ 0x0F ∷ 0x9F ∷ 0xF0 ∷ 0x0C ∷ 0x00 ∷ 0x65 ∷ 0xC3 ∷ 0x00 ∷ 0x00 ∷ 0x00 ∷ 0x04 ∷ 0xFF
    ∷ 0x23 ∷ 0xB3 ∷ 0xB2 ∷ 0x4D ∷ []

pub record SdtWitness (t : SentSdt) (p : SentControl) (b : List ℕ) : Type 0 where
  pub table : SdtConforming t
  pub payload : ControlConforming p
  pub bytes : control_sent p ≡ b
