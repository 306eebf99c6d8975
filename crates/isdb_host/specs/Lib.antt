-- The definitions that the contracts cite.
pub mod Values
pub mod Fields
pub mod Session
pub mod Tables
pub mod Descriptors
