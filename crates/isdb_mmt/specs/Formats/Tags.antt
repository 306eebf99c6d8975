-- The tags of descriptors by name: of MMT-SI (ARIB STD-B60, Table 4-10), and of TLV-SI (Table 4-4).
use Rattle.std.specs.Prelude.{ℕ}

-- MPU timestamp (7.4.3.5)
abbrev pub mpu_timestamp_tag : ℕ
mpu_timestamp_tag = 0x0001

-- Dependency (7.4.3.6)
abbrev pub dependency_tag : ℕ
dependency_tag = 0x0002

-- Access control (7.4.3.7)
abbrev pub access_control_tag : ℕ
access_control_tag = 0x8004

-- Scrambler (7.4.3.8)
abbrev pub scrambler_tag : ℕ
scrambler_tag = 0x8005

-- MH-HEVC (7.4.3.13)
abbrev pub hevc_tag : ℕ
hevc_tag = 0x800A

-- MH-service list (7.4.3.16)
abbrev pub service_list_tag : ℕ
service_list_tag = 0x800D

-- MH-stream identifier (7.4.3.20)
abbrev pub stream_identifier_tag : ℕ
stream_identifier_tag = 0x8011

-- MH-content (7.4.3.21)
abbrev pub content_tag : ℕ
content_tag = 0x8012

-- MH-broadcaster name (7.4.3.27)
abbrev pub broadcaster_name_tag : ℕ
broadcaster_name_tag = 0x8018

-- MH-service (7.4.3.28)
abbrev pub service_tag : ℕ
service_tag = 0x8019

-- MPU extended timestamp (7.4.3.35)
abbrev pub extended_timestamp_tag : ℕ
extended_timestamp_tag = 0x8026

-- MH-short event (7.4.3.17)
abbrev pub short_event_tag : ℕ
short_event_tag = 0xF001

-- of TLV-SI: network name, service list (Table 5-4), satellite delivery system (Table 5-6)
abbrev pub network_name_tlv_tag : ℕ
network_name_tlv_tag = 0x40

abbrev pub service_list_tlv_tag : ℕ
service_list_tlv_tag = 0x41

abbrev pub satellite_delivery_tlv_tag : ℕ
satellite_delivery_tlv_tag = 0x43
