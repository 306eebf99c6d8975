-- Laws that belong to no one function, a file a subject.
pub mod Ahead
