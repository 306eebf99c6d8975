pub mod Packet
pub mod Maps
pub mod Objects
pub mod Reassembly
pub mod Kept
pub mod GivenTables
pub mod Model
pub mod Needs
