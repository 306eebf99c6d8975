pub mod Steps
pub mod WholeDescriptors
pub mod Whole
pub mod WholeSections
pub mod Walks
pub mod WholeParts
pub mod WholeLists
pub mod ReadWhole
