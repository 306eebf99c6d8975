-- ARIB STD-B60, 5.3: TLV-SI descriptors as a conforming sender writes them, network name, service list (Table 5-4) and satellite
-- delivery system (Table 5-6), and what it means to read them right.
use Rattle.isdb_mmt.specs.declared.part.Part.{Part}
use Rattle.std.specs.Prelude.{◌≡◌, ℕ, ◌*◌, ◌/◌, ◌%◌, ◌^◌, ◌<◌, List, [], ◌∷◌, ◌++◌, map, length, None, Some, Option}
use Rattle.isdb_tlv.specs.Fields.{Field, field, bits, packed, written}
use Rattle.isdb_mmt.specs.Formats.Part.{part_of}
use Rattle.isdb_mmt.specs.Formats.Nit.{frequency_of, network_name_of, service_list_of}
use Rattle.isdb_mmt.specs.Standards.StdB60Sections.{All}
use Rattle.isdb_mmt.specs.WholeValues.WholeDescriptors.{Listed, services_in, WholeTlv, tlvs_in}
use Rattle.isdb_mmt.specs.Standards.StdB60Descriptors.{rows_sent, SentListed, listed_sent, ListedConforming, listed_seen}

-- Table 5-6: a satellite delivery system. The frequency counts units of 10 kHz; orbital position and symbol rate are in BCD too, but
-- no reading uses what stands behind the frequency
pub record SentSatellite : Type 0 where
  pub frequency : ℕ
  pub orbital_position : ℕ
  pub west_east : ℕ
  pub polarisation : ℕ
  pub modulation : ℕ
  pub symbol_rate : ℕ
  pub fec_inner : ℕ

-- BCD: the decimal digit of a number that stands for 10 ^ k, and two of them in a byte
abbrev pub digit_of : ℕ → ℕ → ℕ
digit_of v k = v / 10 ^ k % 10

abbrev pub two_digits : ℕ → ℕ → ℕ → Field
two_digits v j k = field 1 (packed (bits 4 (digit_of v j) ∷ bits 4 (digit_of v k) ∷ []))

-- frequency in eight digits, orbital position 16 bits, west or east 1, polarisation 2, modulation 5, symbol rate 28, inner FEC 4
abbrev pub satellite_fields : SentSatellite → List Field
satellite_fields x =
    two_digits x.frequency 7 6
    ∷ two_digits x.frequency 5 4
    ∷ two_digits x.frequency 3 2
    ∷ two_digits x.frequency 1 0
    ∷ field 2 x.orbital_position
    ∷ field 1 (packed (bits 1 x.west_east ∷ bits 2 x.polarisation ∷ bits 5 x.modulation ∷ []))
    ∷ field 4 (packed (bits 28 x.symbol_rate ∷ bits 4 x.fec_inner ∷ []))
    ∷ []

pub record SatelliteConforming (x : SentSatellite) : Type 0 where
  pub frequency : x.frequency < 10 ^ 8
  pub orbital_position : x.orbital_position < 2 ^ 16
  pub west_east : x.west_east < 2
  pub polarisation : x.polarisation < 2 ^ 2
  pub modulation : x.modulation < 2 ^ 5
  pub symbol_rate : x.symbol_rate < 2 ^ 28
  pub fec_inner : x.fec_inner < 2 ^ 4

pub data SentTlv : Type 0 where
  network : List ℕ → SentTlv
  services : List SentListed → SentTlv
  satellite : SentSatellite → SentTlv

-- Table 4-4
abbrev pub tlv_tag : SentTlv → ℕ
tlv_tag (network name) = 0x40
tlv_tag (services xs) = 0x41
tlv_tag (satellite x) = 0x43

abbrev pub tlv_body : SentTlv → List ℕ
tlv_body (network name) = name
tlv_body (services xs) = rows_sent listed_sent xs
tlv_body (satellite x) = written (satellite_fields x)

-- 5.3: tag 8 bits, length 8, body
abbrev pub tlv_fields : SentTlv → List Field
tlv_fields d = field 1 (tlv_tag d) ∷ field 1 (length (tlv_body d)) ∷ []

abbrev pub tlv_sent : SentTlv → List ℕ
tlv_sent d = written (tlv_fields d) ++ tlv_body d

abbrev pub TlvBodyConforming : SentTlv → Type 0
TlvBodyConforming (network name) = Unit {0}
TlvBodyConforming (services xs) = All ListedConforming xs
TlvBodyConforming (satellite x) = SatelliteConforming x

pub record TlvConforming (d : SentTlv) : Type 0 where
  pub body : TlvBodyConforming d
  pub short : length (tlv_body d) < 2 ^ 8

-- what each of the three readings gives of a descriptor: its own value, and nothing of the others
abbrev pub text_in : List ℕ → Option Part → Option (List ℕ)
text_in s None = None
text_in s (Some p) = Some (part_of s p)

abbrev pub listed_in : List ℕ → Option Part → Option (List Listed)
listed_in s None = None
listed_in s (Some p) = Some (services_in (part_of s p))

abbrev pub name_seen : SentTlv → Option (List ℕ)
name_seen (network name) = Some name
name_seen (services xs) = None
name_seen (satellite x) = None

abbrev pub services_seen : SentTlv → Option (List Listed)
services_seen (network name) = None
services_seen (services xs) = Some (map listed_seen xs)
services_seen (satellite x) = None

-- in kHz
abbrev pub frequency_seen : SentTlv → Option ℕ
frequency_seen (network name) = None
frequency_seen (services xs) = None
frequency_seen (satellite x) = Some (x.frequency * 10)

pub record TlvRead (d : SentTlv) : Type 0 where
  pub name : text_in (tlv_body d) (network_name_of (tlv_tag d) (tlv_body d)) ≡ name_seen d
  pub services : listed_in (tlv_body d) (service_list_of (tlv_tag d) (tlv_body d)) ≡ services_seen d
  pub frequency : frequency_of (tlv_tag d) (tlv_body d) ≡ frequency_seen d

abbrev pub tlv_seen : SentTlv → WholeTlv
tlv_seen d = record { tag = tlv_tag d; body = tlv_body d }

-- proved in proofs/StdB60Tlv.antt: a descriptor's body, and a loop of descriptors, whole and in order
abbrev pub TlvTheorem : Type 0
TlvTheorem = (d : SentTlv) → TlvBodyConforming d → TlvRead d

abbrev pub TlvLoopTheorem : Type 0
TlvLoopTheorem = (ds : List SentTlv) → All TlvConforming ds → tlvs_in (rows_sent tlv_sent ds) ≡ map tlv_seen ds

-- conforming descriptors, and their bytes, as they may stand in a line `nit HEX` of crates/cases/stdin
abbrev pub examples : List SentTlv
examples =
    network (0x42 ∷ 0x53 ∷ [])
    ∷ services (record { service_id = 101; service_type = 1 } ∷ record { service_id = 102; service_type = 2 } ∷ [])
    -- 11.72748 GHz, 110.0 degrees east
    ∷ satellite (record {
      frequency = 1172748;
      orbital_position = 0x1100;
      west_east = 1;
      polarisation = 2;
      modulation = 8;
      symbol_rate = 0x337561;
      fec_inner = 8;
    })
    ∷ []

abbrev pub example_bytes : List (List ℕ)
example_bytes =
    (0x40 ∷ 0x02 ∷ 0x42 ∷ 0x53 ∷ [])
    ∷ (0x41 ∷ 0x06 ∷ 0x00 ∷ 0x65 ∷ 0x01 ∷ 0x00 ∷ 0x66 ∷ 0x02 ∷ [])
    ∷ (0x43 ∷ 0x0B ∷ 0x01 ∷ 0x17 ∷ 0x27 ∷ 0x48 ∷ 0x11 ∷ 0x00 ∷ 0xC8 ∷ 0x03 ∷ 0x37 ∷ 0x56 ∷ 0x18 ∷ [])
    ∷ []

pub record Examples : Type 0 where
  pub conform : All TlvConforming examples
  pub bytes : map tlv_sent examples ≡ example_bytes
