pub mod WholeCases
pub mod Worked
pub mod Cases
pub mod ControlCases
pub mod SessionCases
pub mod ReadingCases
pub mod PushCases
