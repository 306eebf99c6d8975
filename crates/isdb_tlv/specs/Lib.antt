-- The definitions that the contracts cite, a file a module; one for each standard; and facts that a reader may ask.
pub mod Guards
pub mod Bytes
pub mod Walk
pub mod Crc
pub mod Tlv
pub mod Cut
pub mod Ip
pub mod Mmtp
pub mod Messages
pub mod Si
pub mod Fields
pub mod Rfc791
pub mod Rfc8200
pub mod StdB32
pub mod Iso23008
pub mod Facts
