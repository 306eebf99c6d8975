-- ARIB STD-B60: tables in section form with loops of entries as a conforming sender writes them, MH-EIT (Table 7-18), MH-SDT
-- (7-23), MH-BIT (7-21) and TLV-NIT (5-1), and what it means to read them right.
use Rattle.std.specs.Prelude.{◌≡◌, ℕ, ◌+◌, ◌^◌, ◌<◌, Bool, List, [], ◌∷◌, ◌++◌, map, length, Ok}
use Rattle.isdb_tlv.specs.Guards.{◌=?◌}
use Rattle.isdb_tlv.specs.Fields.{Field, field, bits, packed, written, Fit}
use Rattle.isdb_mmt.specs.Formats.Part.{part_at, part_of}
use Rattle.isdb_mmt.specs.Standards.StdB60.{Descriptor, loop_sent, LoopConforming, Header, HeaderConforming, header_seen, section_sent}
use Rattle.isdb_mmt.specs.Formats.Eit.{eit_of, events_of}
use Rattle.isdb_mmt.specs.Formats.Sdt.{sdt_of, services_of}
use Rattle.isdb_mmt.specs.Formats.Bit.{bit_of, broadcasters_of}
use Rattle.isdb_mmt.specs.Formats.Nit.{nit_of, streams_of}
use Rattle.isdb_mmt.specs.declared.table.eit.Event.{Event}
use Rattle.isdb_mmt.specs.declared.table.sdt.SdtService.{SdtService}
use Rattle.isdb_mmt.specs.declared.table.bit.Broadcaster.{Broadcaster}
use Rattle.isdb_mmt.specs.declared.table.nit.NitStream.{NitStream}

-- an entry of a loop: fields, four bits, a length of 12 bits, and so many bytes of descriptors
pub record Entry : Type 0 where
  pub fields : List Field
  pub upper : ℕ
  pub loop : List ℕ

abbrev pub entry_sent : Entry → List ℕ
entry_sent e = written e.fields ++ written (field 2 (packed (bits 4 e.upper ∷ bits 12 (length e.loop) ∷ [])) ∷ []) ++ e.loop

abbrev pub entries_sent : List Entry → List ℕ
entries_sent [] = []
entries_sent (e ∷ es) = entry_sent e ++ entries_sent es

pub record EntryConforming (e : Entry) : Type 0 where
  pub fields : Fit e.fields
  pub upper : e.upper < 2 ^ 4
  pub loop : length e.loop < 2 ^ 12

-- MH-EIT: an event. Start time and duration as their bits stand.
pub record SentEvent : Type 0 where
  pub event_id : ℕ
  pub start : ℕ
  pub duration : ℕ
  pub running_status : ℕ
  pub free_ca : ℕ
  pub descriptors : List Descriptor

abbrev pub event_entry : SentEvent → Entry
event_entry e =
    record {
      fields = field 2 e.event_id ∷ field 5 e.start ∷ field 3 e.duration ∷ [];
      upper = packed (bits 3 e.running_status ∷ bits 1 e.free_ca ∷ []);
      loop = loop_sent e.descriptors;
    }

pub record EventConforming (e : SentEvent) : Type 0 where
  pub event_id : e.event_id < 2 ^ 16
  pub start : e.start < 2 ^ 40
  pub duration : e.duration < 2 ^ 24
  pub running_status : e.running_status < 2 ^ 3
  pub free_ca : e.free_ca < 2
  pub descriptors : LoopConforming e.descriptors
  pub loop : length (loop_sent e.descriptors) < 2 ^ 12

pub record SentEit : Type 0 where
  pub header : Header
  pub tlv_stream_id : ℕ
  pub original_network_id : ℕ
  pub segment_last : ℕ
  pub last_table_id : ℕ
  pub events : List SentEvent

abbrev pub eit_fields : SentEit → List Field
eit_fields t = field 2 t.tlv_stream_id ∷ field 2 t.original_network_id ∷ field 1 t.segment_last ∷ field 1 t.last_table_id ∷ []

abbrev pub eit_body_sent : SentEit → List ℕ
eit_body_sent t = written (eit_fields t) ++ entries_sent (map event_entry t.events)

abbrev pub All : {A : Type 0} → (A → Type 0) → List A → Type 0
All P [] = Unit {0}
All P (x ∷ l) = P x × All P l

pub record EitConforming (t : SentEit) : Type 0 where
  pub header : HeaderConforming t.header
  pub fields : Fit (eit_fields t)
  pub events : All EventConforming t.events
  pub short : length (eit_body_sent t) + 9 < 2 ^ 12

-- an event's values: its fields, and the bytes of its descriptors
pub record EventValue : Type 0 where
  pub event_id : ℕ
  pub start : ℕ
  pub duration : ℕ
  pub running_status : ℕ
  pub free_ca : Bool
  pub loop : List ℕ

abbrev pub event_seen : List ℕ → Event → EventValue
event_seen s e =
    record {
      event_id = e.event_id;
      start = e.start;
      duration = e.duration;
      running_status = e.running_status;
      free_ca = e.free_ca;
      loop = part_of s e.descriptors;
    }

abbrev pub event_value : SentEvent → EventValue
event_value e =
    record {
      event_id = e.event_id;
      start = e.start;
      duration = e.duration;
      running_status = e.running_status;
      free_ca = e.free_ca =? 1;
      loop = loop_sent e.descriptors;
    }

pub record EitRead (t : SentEit) : Type 0 where
  pub section : eit_of (section_sent t.header (eit_body_sent t)) ≡ record {
    result = Ok (
      header_seen t.header (length (eit_body_sent t)),
      (record {
        tlv_stream_id = t.tlv_stream_id;
        original_network_id = t.original_network_id;
        segment_last_section_number = t.segment_last;
        last_table_id = t.last_table_id;
        events = length t.events;
      }),
    );
    breaks = 0;
  }
  pub events : map (event_seen (eit_body_sent t)) (events_of (eit_body_sent t)) ≡ map event_value t.events

-- MH-SDT: a service
pub record SentService : Type 0 where
  pub service_id : ℕ
  pub reserved : ℕ
  pub user_defined_flags : ℕ
  pub schedule : ℕ
  pub present_following : ℕ
  pub running_status : ℕ
  pub free_ca : ℕ
  pub descriptors : List Descriptor

abbrev pub service_entry : SentService → Entry
service_entry e =
    record {
      fields =
          field 2 e.service_id
          ∷ field 1 (packed (bits 3 e.reserved ∷ bits 3 e.user_defined_flags ∷ bits 1 e.schedule ∷ bits 1 e.present_following ∷ []))
          ∷ [];
      upper = packed (bits 3 e.running_status ∷ bits 1 e.free_ca ∷ []);
      loop = loop_sent e.descriptors;
    }

pub record ServiceConforming (e : SentService) : Type 0 where
  pub service_id : e.service_id < 2 ^ 16
  pub reserved : e.reserved < 2 ^ 3
  pub user_defined_flags : e.user_defined_flags < 2 ^ 3
  pub schedule : e.schedule < 2
  pub present_following : e.present_following < 2
  pub running_status : e.running_status < 2 ^ 3
  pub free_ca : e.free_ca < 2
  pub descriptors : LoopConforming e.descriptors
  pub loop : length (loop_sent e.descriptors) < 2 ^ 12

pub record SentSdt : Type 0 where
  pub header : Header
  pub original_network_id : ℕ
  pub reserved : ℕ
  pub services : List SentService

abbrev pub sdt_fields : SentSdt → List Field
sdt_fields t = field 2 t.original_network_id ∷ field 1 t.reserved ∷ []

abbrev pub sdt_body_sent : SentSdt → List ℕ
sdt_body_sent t = written (sdt_fields t) ++ entries_sent (map service_entry t.services)

pub record SdtConforming (t : SentSdt) : Type 0 where
  pub header : HeaderConforming t.header
  pub fields : Fit (sdt_fields t)
  pub services : All ServiceConforming t.services
  pub short : length (sdt_body_sent t) + 9 < 2 ^ 12

pub record ServiceValue : Type 0 where
  pub service_id : ℕ
  pub user_defined_flags : ℕ
  pub schedule : Bool
  pub present_following : Bool
  pub running_status : ℕ
  pub free_ca : Bool
  pub loop : List ℕ

abbrev pub service_seen : List ℕ → SdtService → ServiceValue
service_seen s e =
    record {
      service_id = e.service_id;
      user_defined_flags = e.eit_user_defined_flags;
      schedule = e.eit_schedule;
      present_following = e.eit_present_following;
      running_status = e.running_status;
      free_ca = e.free_ca;
      loop = part_of s e.descriptors;
    }

abbrev pub service_value : SentService → ServiceValue
service_value e =
    record {
      service_id = e.service_id;
      user_defined_flags = e.user_defined_flags;
      schedule = e.schedule =? 1;
      present_following = e.present_following =? 1;
      running_status = e.running_status;
      free_ca = e.free_ca =? 1;
      loop = loop_sent e.descriptors;
    }

pub record SdtRead (t : SentSdt) : Type 0 where
  pub section : sdt_of (section_sent t.header (sdt_body_sent t)) ≡ record {
    result = Ok (header_seen t.header (length (sdt_body_sent t)), record { original_network_id = t.original_network_id; services = length t.services });
    breaks = 0;
  }
  pub services : map (service_seen (sdt_body_sent t)) (services_of (sdt_body_sent t)) ≡ map service_value t.services

-- MH-BIT: a broadcaster
pub record SentBroadcaster : Type 0 where
  pub broadcaster_id : ℕ
  pub reserved : ℕ
  pub descriptors : List Descriptor

abbrev pub broadcaster_entry : SentBroadcaster → Entry
broadcaster_entry e =
    record { fields = field 1 e.broadcaster_id ∷ []; upper = e.reserved; loop = loop_sent e.descriptors }

pub record BroadcasterConforming (e : SentBroadcaster) : Type 0 where
  pub broadcaster_id : e.broadcaster_id < 2 ^ 8
  pub reserved : e.reserved < 2 ^ 4
  pub descriptors : LoopConforming e.descriptors
  pub loop : length (loop_sent e.descriptors) < 2 ^ 12

pub record SentBit : Type 0 where
  pub header : Header
  pub reserved : ℕ
  pub view_propriety : ℕ
  pub descriptors : List Descriptor
  pub broadcasters : List SentBroadcaster

abbrev pub bit_fields : SentBit → List Field
bit_fields t =
    field 2 (packed (bits 3 t.reserved ∷ bits 1 t.view_propriety ∷ bits 12 (length (loop_sent t.descriptors)) ∷ [])) ∷ []

abbrev pub bit_body_sent : SentBit → List ℕ
bit_body_sent t = written (bit_fields t) ++ loop_sent t.descriptors ++ entries_sent (map broadcaster_entry t.broadcasters)

pub record BitConforming (t : SentBit) : Type 0 where
  pub header : HeaderConforming t.header
  pub reserved : t.reserved < 2 ^ 3
  pub view_propriety : t.view_propriety < 2
  pub descriptors : LoopConforming t.descriptors
  pub broadcasters : All BroadcasterConforming t.broadcasters
  pub short : length (bit_body_sent t) + 9 < 2 ^ 12

pub record BroadcasterValue : Type 0 where
  pub broadcaster_id : ℕ
  pub loop : List ℕ

abbrev pub broadcaster_seen : List ℕ → Broadcaster → BroadcasterValue
broadcaster_seen s e = record { broadcaster_id = e.broadcaster_id; loop = part_of s e.descriptors }

abbrev pub broadcaster_value : SentBroadcaster → BroadcasterValue
broadcaster_value e = record { broadcaster_id = e.broadcaster_id; loop = loop_sent e.descriptors }

pub record BitRead (t : SentBit) : Type 0 where
  pub section : bit_of (section_sent t.header (bit_body_sent t)) ≡ record {
    result = Ok (
      header_seen t.header (length (bit_body_sent t)),
      (record {
        broadcast_view_propriety = t.view_propriety =? 1;
        descriptors = part_at 2 (length (loop_sent t.descriptors));
        broadcasters = length t.broadcasters;
      }),
    );
    breaks = 0;
  }
  pub descriptors : part_of (bit_body_sent t) (part_at 2 (length (loop_sent t.descriptors))) ≡ loop_sent t.descriptors
  pub broadcasters : map (broadcaster_seen (bit_body_sent t)) (broadcasters_of (bit_body_sent t)) ≡ map broadcaster_value t.broadcasters

-- TLV-NIT: TLV-SI descriptors (5.3) go as the bytes of their loop; a stream
pub record SentStream : Type 0 where
  pub tlv_stream_id : ℕ
  pub original_network_id : ℕ
  pub reserved : ℕ
  pub loop : List ℕ

abbrev pub stream_entry : SentStream → Entry
stream_entry e =
    record { fields = field 2 e.tlv_stream_id ∷ field 2 e.original_network_id ∷ []; upper = e.reserved; loop = e.loop }

pub record StreamConforming (e : SentStream) : Type 0 where
  pub tlv_stream_id : e.tlv_stream_id < 2 ^ 16
  pub original_network_id : e.original_network_id < 2 ^ 16
  pub reserved : e.reserved < 2 ^ 4
  pub loop : length e.loop < 2 ^ 12

pub record SentNit : Type 0 where
  pub header : Header
  pub reserved : ℕ
  pub descriptors : List ℕ
  pub reserved2 : ℕ
  pub streams : List SentStream

abbrev pub nit_streams : SentNit → List ℕ
nit_streams t = entries_sent (map stream_entry t.streams)

abbrev pub nit_body_sent : SentNit → List ℕ
nit_body_sent t =
    written (field 2 (packed (bits 4 t.reserved ∷ bits 12 (length t.descriptors) ∷ [])) ∷ []) ++ t.descriptors
    ++ (written (field 2 (packed (bits 4 t.reserved2 ∷ bits 12 (length (nit_streams t)) ∷ [])) ∷ []) ++ nit_streams t)

pub record NitConforming (t : SentNit) : Type 0 where
  pub header : HeaderConforming t.header
  pub reserved : t.reserved < 2 ^ 4
  pub reserved2 : t.reserved2 < 2 ^ 4
  pub streams : All StreamConforming t.streams
  pub short : length (nit_body_sent t) + 9 < 2 ^ 12

abbrev pub stream_seen : List ℕ → NitStream → ℕ × (ℕ × List ℕ)
stream_seen s e = (e.tlv_stream_id, (e.original_network_id, part_of s e.descriptors))

abbrev pub stream_value : SentStream → ℕ × (ℕ × List ℕ)
stream_value e = (e.tlv_stream_id, (e.original_network_id, e.loop))

pub record NitRead (t : SentNit) : Type 0 where
  pub section : nit_of (section_sent t.header (nit_body_sent t)) ≡ Ok (
    header_seen t.header (length (nit_body_sent t)),
    (record {
      descriptors = part_at 2 (length t.descriptors);
      loop_part = part_at (length t.descriptors + 4) (length (nit_streams t));
      streams = length t.streams;
    }),
  )
  pub descriptors : part_of (nit_body_sent t) (part_at 2 (length t.descriptors)) ≡ t.descriptors
  pub loop : part_of (nit_body_sent t) (part_at (length t.descriptors + 4) (length (nit_streams t))) ≡ nit_streams t
  pub streams : map (stream_seen (nit_streams t)) (streams_of (nit_streams t)) ≡ map stream_value t.streams

-- proved in proofs/StdB60Sections.antt
abbrev pub EitTheorem : Type 0
EitTheorem = (t : SentEit) → EitConforming t → EitRead t

abbrev pub SdtTheorem : Type 0
SdtTheorem = (t : SentSdt) → SdtConforming t → SdtRead t

abbrev pub BitTheorem : Type 0
BitTheorem = (t : SentBit) → BitConforming t → BitRead t

abbrev pub NitTheorem : Type 0
NitTheorem = (t : SentNit) → NitConforming t → NitRead t
