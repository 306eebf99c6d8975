-- The definitions that the contracts cite.
pub mod Text
pub mod Fill
pub mod Window
pub mod Digits
pub mod Elements
pub mod Ascending
pub mod DumpDescriptors
pub mod DumpTables
pub mod DumpWhole
pub mod Listing
pub mod DumpSession
pub mod DumpPackets
pub mod PacketsTold
pub mod KeptTables
pub mod DumpKept
pub mod ReplayKept
