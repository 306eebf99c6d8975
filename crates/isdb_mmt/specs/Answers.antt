pub mod Readings
pub mod ReadingLaws
pub mod KeptParts
pub mod TableReadingLaws
