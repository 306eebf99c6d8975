-- Laws that belong to no one function, a file a subject.
pub mod Written
pub mod Spelling
pub mod DigitValues
pub mod Filling
pub mod Examples
pub mod Windows
pub mod Elements
pub mod Ascending
pub mod DumpWhole
pub mod Dumped
pub mod PacketWalk
pub mod PacketsTold
