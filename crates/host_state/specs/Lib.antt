pub mod Hosts
pub mod FileLines
pub mod FileAnswers
pub mod SpotLines
pub mod SpotAnswers
pub mod Grown
pub mod Mounted
