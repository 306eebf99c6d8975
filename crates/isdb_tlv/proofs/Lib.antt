-- Laws that belong to no one function, a file a subject.
pub mod Numbers
pub mod Table
pub mod CrcLinear
pub mod CrcWords
pub mod Guards
pub mod Walk
pub mod Codes
pub mod Extension
pub mod Sections
pub mod Messages
pub mod Cutting
pub mod Fields
pub mod Rfc791
pub mod Rfc8200
pub mod StdB32
pub mod Iso23008
pub mod Headers
