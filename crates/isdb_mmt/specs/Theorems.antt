pub mod Calls
pub mod Room
pub mod Useless
pub mod PushAllCalls
