-- What is claimed, by subject.
pub mod Bytes
pub mod Ip
pub mod Mmtp
pub mod Units
pub mod Descriptors
pub mod Tables
pub mod Session
pub mod Feeds
pub mod Pushes
pub mod Readings
