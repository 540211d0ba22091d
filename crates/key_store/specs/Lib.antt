pub mod State
pub mod Calls
pub mod NewRoot
pub mod Agrees
pub mod Counts
