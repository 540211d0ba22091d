pub mod Answers
pub mod Acts
pub mod Sample
pub mod Ids
