pub mod Book
pub mod Demand
