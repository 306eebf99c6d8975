-- The definitions that the contracts cite, a folder for each layer.
pub mod Formats
pub mod Standards
pub mod WholeValues
pub mod Decoder
pub mod Books
pub mod Memory
pub mod Pushes
pub mod Answers
pub mod Theorems
pub mod Examples
